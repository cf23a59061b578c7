-- One outcome (P1, P2): for each public call, any two outcomes that its contract allows are equal, of the answer and of
-- every lent byte. It is stated over the contract as the prover reads it (`Post`), so no copy of a contract can drift.
use mathlib.Core.Path.{◌≡◌, sym, ap, ◌∙◌}
use contract.Lifetimes
use denote.Triple.Clauses
use borrow.Fn.World
use borrow.Fn.Kinds as K
use Rattle.collect.specs.Slots.{slots_in}
use Rattle.hear.specs.Join.{Left}
use Rattle.hear.specs.declared.Heard.{Heard}
use Rattle.reader.specs.contracts.read_packet as reader_read_packet
use Rattle.reader.proofs.read_packet.Kinds as reader_read_packet_kinds
use Rattle.reader.proofs.read_packet.Reads as reader_read_packet_reads
use Rattle.packet.specs.contracts.write_packet as packet_write_packet
use Rattle.packet.proofs.write_packet.Kinds as packet_write_packet_kinds
use Rattle.packet.proofs.write_packet.Reads as packet_write_packet_reads
use Rattle.packet.specs.contracts.write_query as packet_write_query
use Rattle.packet.proofs.write_query.Kinds as packet_write_query_kinds
use Rattle.packet.proofs.write_query.Reads as packet_write_query_reads
use Rattle.packet.specs.contracts.write_reset as packet_write_reset
use Rattle.packet.proofs.write_reset.Kinds as packet_write_reset_kinds
use Rattle.packet.proofs.write_reset.Reads as packet_write_reset_reads
use Rattle.transmission.specs.contracts.write_transmission as transmission_write_transmission
use Rattle.transmission.proofs.write_transmission.Kinds as transmission_write_transmission_kinds
use Rattle.transmission.proofs.write_transmission.Reads as transmission_write_transmission_reads
use Rattle.reply.specs.contracts.read_reply as reply_read_reply
use Rattle.reply.proofs.read_reply.Kinds as reply_read_reply_kinds
use Rattle.reply.proofs.read_reply.Reads as reply_read_reply_reads
use Rattle.reply.specs.contracts.write_reply as reply_write_reply
use Rattle.reply.proofs.write_reply.Kinds as reply_write_reply_kinds
use Rattle.reply.proofs.write_reply.Reads as reply_write_reply_reads
use Rattle.packet.specs.contracts.forbidden as packet_forbidden
use Rattle.packet.proofs.forbidden.Kinds as packet_forbidden_kinds
use Rattle.packet.proofs.forbidden.Reads as packet_forbidden_reads
use Rattle.packet.specs.contracts.allowed as packet_allowed
use Rattle.packet.proofs.allowed.Kinds as packet_allowed_kinds
use Rattle.packet.proofs.allowed.Reads as packet_allowed_reads
use Rattle.packet.specs.contracts.total as packet_total
use Rattle.packet.proofs.total.Kinds as packet_total_kinds
use Rattle.packet.proofs.total.Reads as packet_total_reads
use Rattle.packet.specs.contracts.sum_of as packet_sum_of
use Rattle.packet.proofs.sum_of.Kinds as packet_sum_of_kinds
use Rattle.packet.proofs.sum_of.Reads as packet_sum_of_reads
use Rattle.packet.specs.contracts.checksum as packet_checksum
use Rattle.packet.proofs.checksum.Kinds as packet_checksum_kinds
use Rattle.packet.proofs.checksum.Reads as packet_checksum_reads
use Rattle.input.specs.contracts.digit as input_digit
use Rattle.input.proofs.digit.Kinds as input_digit_kinds
use Rattle.input.proofs.digit.Reads as input_digit_reads
use Rattle.input.specs.contracts.pair as input_pair
use Rattle.input.proofs.pair.Kinds as input_pair_kinds
use Rattle.input.proofs.pair.Reads as input_pair_reads
use Rattle.input.specs.contracts.line_end as input_line_end
use Rattle.input.proofs.line_end.Kinds as input_line_end_kinds
use Rattle.input.proofs.line_end.Reads as input_line_end_reads
use Rattle.params.specs.contracts.byte_at as params_byte_at
use Rattle.params.proofs.byte_at.Kinds as params_byte_at_kinds
use Rattle.params.proofs.byte_at.Reads as params_byte_at_reads
use Rattle.params.specs.contracts.read_text as params_read_text
use Rattle.params.proofs.read_text.Kinds as params_read_text_kinds
use Rattle.params.proofs.read_text.Reads as params_read_text_reads
use Rattle.params.specs.contracts.read_number as params_read_number
use Rattle.params.proofs.read_number.Kinds as params_read_number_kinds
use Rattle.params.proofs.read_number.Reads as params_read_number_reads
use Rattle.program.specs.contracts.read_command as program_read_command
use Rattle.program.proofs.read_command.Kinds as program_read_command_kinds
use Rattle.program.proofs.read_command.Reads as program_read_command_reads
use Rattle.measure.specs.contracts.measure as measure_measure
use Rattle.measure.proofs.measure.Kinds as measure_measure_kinds
use Rattle.measure.proofs.measure.Reads as measure_measure_reads
use Rattle.measure.specs.contracts.measure_at as measure_measure_at
use Rattle.measure.proofs.measure_at.Kinds as measure_measure_at_kinds
use Rattle.measure.proofs.measure_at.Reads as measure_measure_at_reads
use Rattle.measure.specs.contracts.fits as measure_fits
use Rattle.measure.proofs.fits.Kinds as measure_fits_kinds
use Rattle.measure.proofs.fits.Reads as measure_fits_reads
use Rattle.measure.specs.contracts.start_column as measure_start_column
use Rattle.measure.proofs.start_column.Kinds as measure_start_column_kinds
use Rattle.measure.proofs.start_column.Reads as measure_start_column_reads
use Rattle.judge.specs.contracts.judge as judge_judge
use Rattle.judge.proofs.judge.Kinds as judge_judge_kinds
use Rattle.judge.proofs.judge.Reads as judge_judge_reads
use Rattle.judge.specs.contracts.stand as judge_stand
use Rattle.judge.proofs.stand.Kinds as judge_stand_kinds
use Rattle.judge.proofs.stand.Reads as judge_stand_reads
use Rattle.judge.specs.contracts.front as judge_front
use Rattle.judge.proofs.front.Kinds as judge_front_kinds
use Rattle.judge.proofs.front.Reads as judge_front_reads
use Rattle.loops.specs.contracts.turned as loops_turned
use Rattle.loops.proofs.turned.Kinds as loops_turned_kinds
use Rattle.loops.proofs.turned.Reads as loops_turned_reads
use Rattle.judge.specs.contracts.find as judge_find
use Rattle.judge.proofs.find.Kinds as judge_find_kinds
use Rattle.judge.proofs.find.Reads as judge_find_reads
use Rattle.loops.specs.contracts.role_of as loops_role_of
use Rattle.loops.proofs.role_of.Kinds as loops_role_of_kinds
use Rattle.loops.proofs.role_of.Reads as loops_role_of_reads
use Rattle.perform.specs.contracts.perform as perform_perform
use Rattle.perform.proofs.perform.Kinds as perform_perform_kinds
use Rattle.perform.proofs.perform.Reads as perform_perform_reads
use Rattle.perform.specs.contracts.perform_at as perform_perform_at
use Rattle.perform.proofs.perform_at.Kinds as perform_perform_at_kinds
use Rattle.perform.proofs.perform_at.Reads as perform_perform_at_reads
use Rattle.perform.specs.contracts.settings.Settings.sound as perform_settings_settings_sound
use Rattle.perform.proofs.settings.Settings.sound.Kinds as perform_settings_settings_sound_kinds
use Rattle.perform.proofs.settings.Settings.sound.Reads as perform_settings_settings_sound_reads
use Rattle.perform.specs.contracts.settings.Settings.behind as perform_settings_settings_behind
use Rattle.perform.proofs.settings.Settings.behind.Kinds as perform_settings_settings_behind_kinds
use Rattle.perform.proofs.settings.Settings.behind.Reads as perform_settings_settings_behind_reads
use Rattle.machine.specs.contracts.Loop.none as machine_loop_none
use Rattle.machine.proofs.Loop.none.Kinds as machine_loop_none_kinds
use Rattle.machine.proofs.Loop.none.Reads as machine_loop_none_reads
use Rattle.machine.specs.contracts.Run.ready as machine_run_ready
use Rattle.machine.proofs.Run.ready.Kinds as machine_run_ready_kinds
use Rattle.machine.proofs.Run.ready.Reads as machine_run_ready_reads
use Rattle.machine.specs.contracts.Run.started as machine_run_started
use Rattle.machine.proofs.Run.started.Kinds as machine_run_started_kinds
use Rattle.machine.proofs.Run.started.Reads as machine_run_started_reads
use Rattle.machine.specs.contracts.Run.step as machine_run_step
use Rattle.machine.proofs.Run.step.Kinds as machine_run_step_kinds
use Rattle.machine.proofs.Run.step.Reads as machine_run_step_reads
use Rattle.machine.specs.contracts.Run.sound as machine_run_sound
use Rattle.machine.proofs.Run.sound.Kinds as machine_run_sound_kinds
use Rattle.machine.proofs.Run.sound.Reads as machine_run_sound_reads
use Rattle.reckon.specs.contracts.forecast as reckon_forecast
use Rattle.reckon.proofs.forecast.Kinds as reckon_forecast_kinds
use Rattle.reckon.proofs.forecast.Reads as reckon_forecast_reads
use Rattle.room.specs.contracts.clean as room_clean
use Rattle.room.proofs.clean.Kinds as room_clean_kinds
use Rattle.room.proofs.clean.Reads as room_clean_reads
use Rattle.totals.specs.contracts.Totals.none as totals_totals_none
use Rattle.totals.proofs.Totals.none.Kinds as totals_totals_none_kinds
use Rattle.totals.proofs.Totals.none.Reads as totals_totals_none_reads
use Rattle.totals.specs.contracts.Totals.cost as totals_totals_cost
use Rattle.totals.proofs.Totals.cost.Kinds as totals_totals_cost_kinds
use Rattle.totals.proofs.Totals.cost.Reads as totals_totals_cost_reads
use Rattle.totals.specs.contracts.Totals.plus as totals_totals_plus
use Rattle.totals.proofs.Totals.plus.Kinds as totals_totals_plus_kinds
use Rattle.totals.proofs.Totals.plus.Reads as totals_totals_plus_reads
use Rattle.totals.specs.contracts.Totals.times as totals_totals_times
use Rattle.totals.proofs.Totals.times.Kinds as totals_totals_times_kinds
use Rattle.totals.proofs.Totals.times.Reads as totals_totals_times_reads
use Rattle.units.specs.contracts.StepsAmount.add as units_steps_add
use Rattle.units.proofs.StepsAmount.add.Kinds as units_steps_add_kinds
use Rattle.units.proofs.StepsAmount.add.Reads as units_steps_add_reads
use Rattle.units.specs.contracts.StepsAmount.times as units_steps_times
use Rattle.units.proofs.StepsAmount.times.Kinds as units_steps_times_kinds
use Rattle.units.proofs.StepsAmount.times.Reads as units_steps_times_reads
use Rattle.units.specs.contracts.StepsAmount.of as units_steps_of
use Rattle.units.proofs.StepsAmount.of.Kinds as units_steps_of_kinds
use Rattle.units.proofs.StepsAmount.of.Reads as units_steps_of_reads
use Rattle.units.specs.contracts.StepsAmount.number as units_steps_number
use Rattle.units.proofs.StepsAmount.number.Kinds as units_steps_number_kinds
use Rattle.units.proofs.StepsAmount.number.Reads as units_steps_number_reads
use Rattle.units.specs.contracts.ShiftsAmount.add as units_shifts_add
use Rattle.units.proofs.ShiftsAmount.add.Kinds as units_shifts_add_kinds
use Rattle.units.proofs.ShiftsAmount.add.Reads as units_shifts_add_reads
use Rattle.units.specs.contracts.ShiftsAmount.times as units_shifts_times
use Rattle.units.proofs.ShiftsAmount.times.Kinds as units_shifts_times_kinds
use Rattle.units.proofs.ShiftsAmount.times.Reads as units_shifts_times_reads
use Rattle.units.specs.contracts.ShiftsAmount.of as units_shifts_of
use Rattle.units.proofs.ShiftsAmount.of.Kinds as units_shifts_of_kinds
use Rattle.units.proofs.ShiftsAmount.of.Reads as units_shifts_of_reads
use Rattle.units.specs.contracts.ShiftsAmount.number as units_shifts_number
use Rattle.units.proofs.ShiftsAmount.number.Kinds as units_shifts_number_kinds
use Rattle.units.proofs.ShiftsAmount.number.Reads as units_shifts_number_reads
use Rattle.units.specs.contracts.Shifts.scans as units_shifts_scans
use Rattle.units.proofs.Shifts.scans.Kinds as units_shifts_scans_kinds
use Rattle.units.proofs.Shifts.scans.Reads as units_shifts_scans_reads
use Rattle.units.specs.contracts.ScansAmount.add as units_scans_add
use Rattle.units.proofs.ScansAmount.add.Kinds as units_scans_add_kinds
use Rattle.units.proofs.ScansAmount.add.Reads as units_scans_add_reads
use Rattle.units.specs.contracts.ScansAmount.times as units_scans_times
use Rattle.units.proofs.ScansAmount.times.Kinds as units_scans_times_kinds
use Rattle.units.proofs.ScansAmount.times.Reads as units_scans_times_reads
use Rattle.units.specs.contracts.ScansAmount.of as units_scans_of
use Rattle.units.proofs.ScansAmount.of.Kinds as units_scans_of_kinds
use Rattle.units.proofs.ScansAmount.of.Reads as units_scans_of_reads
use Rattle.units.specs.contracts.ScansAmount.number as units_scans_number
use Rattle.units.proofs.ScansAmount.number.Kinds as units_scans_number_kinds
use Rattle.units.proofs.ScansAmount.number.Reads as units_scans_number_reads
use Rattle.units.specs.contracts.Scans.millis as units_scans_millis
use Rattle.units.proofs.Scans.millis.Kinds as units_scans_millis_kinds
use Rattle.units.proofs.Scans.millis.Reads as units_scans_millis_reads
use Rattle.units.specs.contracts.MillisAmount.add as units_millis_add
use Rattle.units.proofs.MillisAmount.add.Kinds as units_millis_add_kinds
use Rattle.units.proofs.MillisAmount.add.Reads as units_millis_add_reads
use Rattle.units.specs.contracts.MillisAmount.times as units_millis_times
use Rattle.units.proofs.MillisAmount.times.Kinds as units_millis_times_kinds
use Rattle.units.proofs.MillisAmount.times.Reads as units_millis_times_reads
use Rattle.units.specs.contracts.MillisAmount.of as units_millis_of
use Rattle.units.proofs.MillisAmount.of.Kinds as units_millis_of_kinds
use Rattle.units.proofs.MillisAmount.of.Reads as units_millis_of_reads
use Rattle.units.specs.contracts.MillisAmount.number as units_millis_number
use Rattle.units.proofs.MillisAmount.number.Kinds as units_millis_number_kinds
use Rattle.units.proofs.MillisAmount.number.Reads as units_millis_number_reads
use Rattle.refusal.specs.contracts.Refusal.number as refusal_refusal_number
use Rattle.refusal.proofs.Refusal.number.Kinds as refusal_refusal_number_kinds
use Rattle.refusal.proofs.Refusal.number.Reads as refusal_refusal_number_reads
use Rattle.refusal.specs.contracts.Refusal.at as refusal_refusal_at
use Rattle.refusal.proofs.Refusal.at.Kinds as refusal_refusal_at_kinds
use Rattle.refusal.proofs.Refusal.at.Reads as refusal_refusal_at_reads
use Rattle.units.specs.contracts.Millis.tenths as units_millis_tenths
use Rattle.units.proofs.Millis.tenths.Kinds as units_millis_tenths_kinds
use Rattle.units.proofs.Millis.tenths.Reads as units_millis_tenths_reads
use Rattle.sign.specs.contracts.Sign.power_on as sign_sign_power_on
use Rattle.sign.proofs.Sign.power_on.Kinds as sign_sign_power_on_kinds
use Rattle.sign.proofs.Sign.power_on.Reads as sign_sign_power_on_reads
use Rattle.sign.specs.contracts.Sign.receive as sign_sign_receive
use Rattle.sign.proofs.Sign.receive.Kinds as sign_sign_receive_kinds
use Rattle.sign.proofs.Sign.receive.Reads as sign_sign_receive_reads
use Rattle.sign.specs.contracts.Sign.reset as sign_sign_reset
use Rattle.sign.proofs.Sign.reset.Kinds as sign_sign_reset_kinds
use Rattle.sign.proofs.Sign.reset.Reads as sign_sign_reset_reads
use Rattle.sign.specs.contracts.Sign.step as sign_sign_step
use Rattle.sign.proofs.Sign.step.Kinds as sign_sign_step_kinds
use Rattle.sign.proofs.Sign.step.Reads as sign_sign_step_reads
use Rattle.sign.specs.contracts.Sign.sound as sign_sign_sound
use Rattle.sign.proofs.Sign.sound.Kinds as sign_sign_sound_kinds
use Rattle.sign.proofs.Sign.sound.Reads as sign_sign_sound_reads
use Rattle.sign.specs.contracts.Sign.reply as sign_sign_reply
use Rattle.sign.proofs.Sign.reply.Kinds as sign_sign_reply_kinds
use Rattle.sign.proofs.Sign.reply.Reads as sign_sign_reply_reads
use Rattle.sign.specs.contracts.Sign.copy_body as sign_sign_copy_body
use Rattle.sign.proofs.Sign.copy_body.Kinds as sign_sign_copy_body_kinds
use Rattle.sign.proofs.Sign.copy_body.Reads as sign_sign_copy_body_reads
use Rattle.completed.specs.contracts.none as completed_none
use Rattle.completed.proofs.none.Kinds as completed_none_kinds
use Rattle.completed.proofs.none.Reads as completed_none_reads
use Rattle.completed.specs.contracts.Completed.last as completed_completed_last
use Rattle.completed.proofs.Completed.last.Kinds as completed_completed_last_kinds
use Rattle.completed.proofs.Completed.last.Reads as completed_completed_last_reads
use Rattle.completed.specs.contracts.Completed.has as completed_completed_has
use Rattle.completed.proofs.Completed.has.Kinds as completed_completed_has_kinds
use Rattle.completed.proofs.Completed.has.Reads as completed_completed_has_reads
use Rattle.completed.specs.contracts.Completed.with as completed_completed_with
use Rattle.completed.proofs.Completed.with.Kinds as completed_completed_with_kinds
use Rattle.completed.proofs.Completed.with.Reads as completed_completed_with_reads
use Rattle.completed.specs.contracts.Completed.sound as completed_completed_sound
use Rattle.completed.proofs.Completed.sound.Kinds as completed_completed_sound_kinds
use Rattle.completed.proofs.Completed.sound.Reads as completed_completed_sound_reads
use Rattle.collect.specs.contracts.same as collect_same
use Rattle.collect.proofs.same.Kinds as collect_same_kinds
use Rattle.collect.proofs.same.Reads as collect_same_reads
use Rattle.hear.specs.contracts.framed as hear_framed
use Rattle.hear.proofs.framed.Kinds as hear_framed_kinds
use Rattle.hear.proofs.framed.Reads as hear_framed_reads
use Rattle.hear.specs.contracts.hear as hear_hear
use Rattle.hear.proofs.hear.Kinds as hear_hear_kinds
use Rattle.hear.proofs.hear.Reads as hear_hear_reads
use Rattle.collect.specs.contracts.begun as collect_begun
use Rattle.collect.proofs.begun.Kinds as collect_begun_kinds
use Rattle.collect.proofs.begun.Reads as collect_begun_reads
use Rattle.collect.specs.contracts.held as collect_held
use Rattle.collect.proofs.held.Kinds as collect_held_kinds
use Rattle.collect.proofs.held.Reads as collect_held_reads
use Rattle.collect.specs.contracts.Slots.none as collect_slots_none
use Rattle.collect.proofs.Slots.none.Kinds as collect_slots_none_kinds
use Rattle.collect.proofs.Slots.none.Reads as collect_slots_none_reads
use Rattle.collect.specs.contracts.Slots.sound as collect_slots_sound
use Rattle.collect.proofs.Slots.sound.Kinds as collect_slots_sound_kinds
use Rattle.collect.proofs.Slots.sound.Reads as collect_slots_sound_reads
use Rattle.repeater.specs.contracts.repeat as repeater_repeat
use Rattle.repeater.proofs.repeat.Kinds as repeater_repeat_kinds
use Rattle.repeater.proofs.repeat.Reads as repeater_repeat_reads

-- two that are equal to a third are equal: all that is needed where a contract is an equation
pub one : {A : Type 0} {x y z : A} → x ≡ z → y ≡ z → x ≡ y
one h k = h ∙ sym k

pub one_reader_read_packet : (κs : Lifetimes.Lfts 1) (a : World.ArgsD reader_read_packet.signature κs) (r r' : World.ResD reader_read_packet.signature κs)
    (s s' : Clauses.AtExit (K.ended_of 1 reader_read_packet_kinds.ps reader_read_packet_kinds.r) κs) → reader_read_packet_reads.Post κs a r s → reader_read_packet_reads.Post κs a r' s' → r ≡ r'
one_reader_read_packet κs a r r' s s' h h' = one h h'

pub one_packet_write_packet : (κs : Lifetimes.Lfts 2) (a : World.ArgsD packet_write_packet.signature κs) (r r' : World.ResD packet_write_packet.signature κs)
    (s s' : Clauses.AtExit (K.ended_of 2 packet_write_packet_kinds.ps packet_write_packet_kinds.r) κs) → packet_write_packet_reads.Post κs a r s → packet_write_packet_reads.Post κs a r' s'
    → (r ≡ r') × (s.1.1.1.1.0.now ≡ s'.1.1.1.1.0.now)
one_packet_write_packet κs a r r' s s' h h' = (one h.answered h'.answered, one h.left h'.left)

pub one_packet_write_query : (κs : Lifetimes.Lfts 1) (a : World.ArgsD packet_write_query.signature κs) (r r' : World.ResD packet_write_query.signature κs)
    (s s' : Clauses.AtExit (K.ended_of 1 packet_write_query_kinds.ps packet_write_query_kinds.r) κs) → packet_write_query_reads.Post κs a r s → packet_write_query_reads.Post κs a r' s'
    → (r ≡ r') × (s.1.0.now ≡ s'.1.0.now)
one_packet_write_query κs a r r' s s' h h' = (one h.answered h'.answered, one h.left h'.left)

pub one_packet_write_reset : (κs : Lifetimes.Lfts 1) (a : World.ArgsD packet_write_reset.signature κs) (r r' : World.ResD packet_write_reset.signature κs)
    (s s' : Clauses.AtExit (K.ended_of 1 packet_write_reset_kinds.ps packet_write_reset_kinds.r) κs) → packet_write_reset_reads.Post κs a r s → packet_write_reset_reads.Post κs a r' s'
    → (r ≡ r') × (s.1.0.now ≡ s'.1.0.now)
one_packet_write_reset κs a r r' s s' h h' = (one h.answered h'.answered, one h.left h'.left)

pub one_transmission_write_transmission : (κs : Lifetimes.Lfts 2) (a : World.ArgsD transmission_write_transmission.signature κs) (r r' : World.ResD transmission_write_transmission.signature κs)
    (s s' : Clauses.AtExit (K.ended_of 2 transmission_write_transmission_kinds.ps transmission_write_transmission_kinds.r) κs) → transmission_write_transmission_reads.Post κs a r s → transmission_write_transmission_reads.Post κs a r' s'
    → (r ≡ r') × (s.1.1.1.0.now ≡ s'.1.1.1.0.now)
one_transmission_write_transmission κs a r r' s s' h h' = (one h.answered h'.answered, one h.left h'.left)

pub one_reply_read_reply : (κs : Lifetimes.Lfts 1) (a : World.ArgsD reply_read_reply.signature κs) (r r' : World.ResD reply_read_reply.signature κs)
    (s s' : Clauses.AtExit (K.ended_of 1 reply_read_reply_kinds.ps reply_read_reply_kinds.r) κs) → reply_read_reply_reads.Post κs a r s → reply_read_reply_reads.Post κs a r' s' → r ≡ r'
one_reply_read_reply κs a r r' s s' h h' = one h h'

pub one_reply_write_reply : (κs : Lifetimes.Lfts 1) (a : World.ArgsD reply_write_reply.signature κs) (r r' : World.ResD reply_write_reply.signature κs)
    (s s' : Clauses.AtExit (K.ended_of 1 reply_write_reply_kinds.ps reply_write_reply_kinds.r) κs) → reply_write_reply_reads.Post κs a r s → reply_write_reply_reads.Post κs a r' s'
    → (r ≡ r') × (s.1.1.0.now ≡ s'.1.1.0.now)
one_reply_write_reply κs a r r' s s' h h' = (one h.answered h'.answered, one h.left h'.left)

pub one_packet_forbidden : (κs : Lifetimes.Lfts 0) (a : World.ArgsD packet_forbidden.signature κs) (r r' : World.ResD packet_forbidden.signature κs)
    (s s' : Clauses.AtExit (K.ended_of 0 packet_forbidden_kinds.ps packet_forbidden_kinds.r) κs) → packet_forbidden_reads.Post κs a r s → packet_forbidden_reads.Post κs a r' s' → r ≡ r'
one_packet_forbidden κs a r r' s s' h h' = one h h'

pub one_packet_allowed : (κs : Lifetimes.Lfts 0) (a : World.ArgsD packet_allowed.signature κs) (r r' : World.ResD packet_allowed.signature κs)
    (s s' : Clauses.AtExit (K.ended_of 0 packet_allowed_kinds.ps packet_allowed_kinds.r) κs) → packet_allowed_reads.Post κs a r s → packet_allowed_reads.Post κs a r' s' → r ≡ r'
one_packet_allowed κs a r r' s s' h h' = one h h'

pub one_packet_total : (κs : Lifetimes.Lfts 1) (a : World.ArgsD packet_total.signature κs) (r r' : World.ResD packet_total.signature κs)
    (s s' : Clauses.AtExit (K.ended_of 1 packet_total_kinds.ps packet_total_kinds.r) κs) → packet_total_reads.Post κs a r s → packet_total_reads.Post κs a r' s' → r ≡ r'
one_packet_total κs a r r' s s' h h' = one h h'

pub one_packet_sum_of : (κs : Lifetimes.Lfts 1) (a : World.ArgsD packet_sum_of.signature κs) (r r' : World.ResD packet_sum_of.signature κs)
    (s s' : Clauses.AtExit (K.ended_of 1 packet_sum_of_kinds.ps packet_sum_of_kinds.r) κs) → packet_sum_of_reads.Post κs a r s → packet_sum_of_reads.Post κs a r' s' → r ≡ r'
one_packet_sum_of κs a r r' s s' h h' = one h h'

pub one_packet_checksum : (κs : Lifetimes.Lfts 1) (a : World.ArgsD packet_checksum.signature κs) (r r' : World.ResD packet_checksum.signature κs)
    (s s' : Clauses.AtExit (K.ended_of 1 packet_checksum_kinds.ps packet_checksum_kinds.r) κs) → packet_checksum_reads.Post κs a r s → packet_checksum_reads.Post κs a r' s' → r ≡ r'
one_packet_checksum κs a r r' s s' h h' = one h h'

pub one_input_digit : (κs : Lifetimes.Lfts 0) (a : World.ArgsD input_digit.signature κs) (r r' : World.ResD input_digit.signature κs)
    (s s' : Clauses.AtExit (K.ended_of 0 input_digit_kinds.ps input_digit_kinds.r) κs) → input_digit_reads.Post κs a r s → input_digit_reads.Post κs a r' s' → r ≡ r'
one_input_digit κs a r r' s s' h h' = one h h'

pub one_input_pair : (κs : Lifetimes.Lfts 0) (a : World.ArgsD input_pair.signature κs) (r r' : World.ResD input_pair.signature κs)
    (s s' : Clauses.AtExit (K.ended_of 0 input_pair_kinds.ps input_pair_kinds.r) κs) → input_pair_reads.Post κs a r s → input_pair_reads.Post κs a r' s' → r ≡ r'
one_input_pair κs a r r' s s' h h' = one h h'

pub one_input_line_end : (κs : Lifetimes.Lfts 1) (a : World.ArgsD input_line_end.signature κs) (r r' : World.ResD input_line_end.signature κs)
    (s s' : Clauses.AtExit (K.ended_of 1 input_line_end_kinds.ps input_line_end_kinds.r) κs) → input_line_end_reads.Post κs a r s → input_line_end_reads.Post κs a r' s' → r ≡ r'
one_input_line_end κs a r r' s s' h h' = one h.0 h'.0

pub one_params_byte_at : (κs : Lifetimes.Lfts 1) (a : World.ArgsD params_byte_at.signature κs) (r r' : World.ResD params_byte_at.signature κs)
    (s s' : Clauses.AtExit (K.ended_of 1 params_byte_at_kinds.ps params_byte_at_kinds.r) κs) → params_byte_at_reads.Post κs a r s → params_byte_at_reads.Post κs a r' s'
    → r ≡ r'
one_params_byte_at κs a r r' s s' h h' = one h h'

pub one_params_read_text : (κs : Lifetimes.Lfts 1) (a : World.ArgsD params_read_text.signature κs) (r r' : World.ResD params_read_text.signature κs)
    (s s' : Clauses.AtExit (K.ended_of 1 params_read_text_kinds.ps params_read_text_kinds.r) κs) → params_read_text_reads.Post κs a r s → params_read_text_reads.Post κs a r' s'
    → r ≡ r'
one_params_read_text κs a r r' s s' h h' = one h h'

pub one_params_read_number : (κs : Lifetimes.Lfts 1) (a : World.ArgsD params_read_number.signature κs) (r r' : World.ResD params_read_number.signature κs)
    (s s' : Clauses.AtExit (K.ended_of 1 params_read_number_kinds.ps params_read_number_kinds.r) κs) → params_read_number_reads.Post κs a r s → params_read_number_reads.Post κs a r' s'
    → r ≡ r'
one_params_read_number κs a r r' s s' h h' = one h h'

pub one_program_read_command : (κs : Lifetimes.Lfts 1) (a : World.ArgsD program_read_command.signature κs) (r r' : World.ResD program_read_command.signature κs)
    (s s' : Clauses.AtExit (K.ended_of 1 program_read_command_kinds.ps program_read_command_kinds.r) κs) → program_read_command_reads.Post κs a r s → program_read_command_reads.Post κs a r' s' → r ≡ r'
one_program_read_command κs a r r' s s' h h' = one h h'

pub one_measure_measure : (κs : Lifetimes.Lfts 1) (a : World.ArgsD measure_measure.signature κs) (r r' : World.ResD measure_measure.signature κs)
    (s s' : Clauses.AtExit (K.ended_of 1 measure_measure_kinds.ps measure_measure_kinds.r) κs) → measure_measure_reads.Post κs a r s → measure_measure_reads.Post κs a r' s' → r ≡ r'
one_measure_measure κs a r r' s s' h h' = one h h'

pub one_measure_measure_at : (κs : Lifetimes.Lfts 1) (a : World.ArgsD measure_measure_at.signature κs) (r r' : World.ResD measure_measure_at.signature κs)
    (s s' : Clauses.AtExit (K.ended_of 1 measure_measure_at_kinds.ps measure_measure_at_kinds.r) κs) → measure_measure_at_reads.Post κs a r s → measure_measure_at_reads.Post κs a r' s' → r ≡ r'
one_measure_measure_at κs a r r' s s' h h' = one h h'

pub one_measure_fits : (κs : Lifetimes.Lfts 0) (a : World.ArgsD measure_fits.signature κs) (r r' : World.ResD measure_fits.signature κs)
    (s s' : Clauses.AtExit (K.ended_of 0 measure_fits_kinds.ps measure_fits_kinds.r) κs) → measure_fits_reads.Post κs a r s → measure_fits_reads.Post κs a r' s' → r ≡ r'
one_measure_fits κs a r r' s s' h h' = one h h'

pub one_measure_start_column : (κs : Lifetimes.Lfts 0) (a : World.ArgsD measure_start_column.signature κs) (r r' : World.ResD measure_start_column.signature κs)
    (s s' : Clauses.AtExit (K.ended_of 0 measure_start_column_kinds.ps measure_start_column_kinds.r) κs) → measure_start_column_reads.Post κs a r s → measure_start_column_reads.Post κs a r' s' → r ≡ r'
one_measure_start_column κs a r r' s s' h h' = one h h'

pub one_judge_judge : (κs : Lifetimes.Lfts 1) (a : World.ArgsD judge_judge.signature κs) (r r' : World.ResD judge_judge.signature κs)
    (s s' : Clauses.AtExit (K.ended_of 1 judge_judge_kinds.ps judge_judge_kinds.r) κs) → judge_judge_reads.Post κs a r s → judge_judge_reads.Post κs a r' s' → r ≡ r'
one_judge_judge κs a r r' s s' h h' = one h h'

pub one_judge_stand : (κs : Lifetimes.Lfts 1) (a : World.ArgsD judge_stand.signature κs) (r r' : World.ResD judge_stand.signature κs)
    (s s' : Clauses.AtExit (K.ended_of 1 judge_stand_kinds.ps judge_stand_kinds.r) κs) → judge_stand_reads.Post κs a r s → judge_stand_reads.Post κs a r' s' → r ≡ r'
one_judge_stand κs a r r' s s' h h' = one h h'

pub one_judge_front : (κs : Lifetimes.Lfts 1) (a : World.ArgsD judge_front.signature κs) (r r' : World.ResD judge_front.signature κs)
    (s s' : Clauses.AtExit (K.ended_of 1 judge_front_kinds.ps judge_front_kinds.r) κs) → judge_front_reads.Post κs a r s → judge_front_reads.Post κs a r' s' → r ≡ r'
one_judge_front κs a r r' s s' h h' = one h h'

pub one_loops_turned : (κs : Lifetimes.Lfts 0) (a : World.ArgsD loops_turned.signature κs) (r r' : World.ResD loops_turned.signature κs)
    (s s' : Clauses.AtExit (K.ended_of 0 loops_turned_kinds.ps loops_turned_kinds.r) κs) → loops_turned_reads.Post κs a r s → loops_turned_reads.Post κs a r' s' → r ≡ r'
one_loops_turned κs a r r' s s' h h' = one h h'

pub one_judge_find : (κs : Lifetimes.Lfts 1) (a : World.ArgsD judge_find.signature κs) (r r' : World.ResD judge_find.signature κs)
    (s s' : Clauses.AtExit (K.ended_of 1 judge_find_kinds.ps judge_find_kinds.r) κs) → judge_find_reads.Post κs a r s → judge_find_reads.Post κs a r' s' → r ≡ r'
one_judge_find κs a r r' s s' h h' = one h h'

pub one_loops_role_of : (κs : Lifetimes.Lfts 0) (a : World.ArgsD loops_role_of.signature κs) (r r' : World.ResD loops_role_of.signature κs)
    (s s' : Clauses.AtExit (K.ended_of 0 loops_role_of_kinds.ps loops_role_of_kinds.r) κs) → loops_role_of_reads.Post κs a r s → loops_role_of_reads.Post κs a r' s' → r ≡ r'
one_loops_role_of κs a r r' s s' h h' = one h h'

pub one_perform_perform : (κs : Lifetimes.Lfts 0) (a : World.ArgsD perform_perform.signature κs) (r r' : World.ResD perform_perform.signature κs)
    (s s' : Clauses.AtExit (K.ended_of 0 perform_perform_kinds.ps perform_perform_kinds.r) κs) → perform_perform_reads.Post κs a r s → perform_perform_reads.Post κs a r' s' → r ≡ r'
one_perform_perform κs a r r' s s' h h' = one h h'

pub one_perform_perform_at : (κs : Lifetimes.Lfts 1) (a : World.ArgsD perform_perform_at.signature κs) (r r' : World.ResD perform_perform_at.signature κs)
    (s s' : Clauses.AtExit (K.ended_of 1 perform_perform_at_kinds.ps perform_perform_at_kinds.r) κs) → perform_perform_at_reads.Post κs a r s → perform_perform_at_reads.Post κs a r' s' → r ≡ r'
one_perform_perform_at κs a r r' s s' h h' = one h h'

pub one_perform_settings_settings_sound : (κs : Lifetimes.Lfts 0) (a : World.ArgsD perform_settings_settings_sound.signature κs) (r r' : World.ResD perform_settings_settings_sound.signature κs)
    (s s' : Clauses.AtExit (K.ended_of 0 perform_settings_settings_sound_kinds.ps perform_settings_settings_sound_kinds.r) κs) → perform_settings_settings_sound_reads.Post κs a r s → perform_settings_settings_sound_reads.Post κs a r' s' → r ≡ r'
one_perform_settings_settings_sound κs a r r' s s' h h' = one h h'

pub one_perform_settings_settings_behind : (κs : Lifetimes.Lfts 0) (a : World.ArgsD perform_settings_settings_behind.signature κs) (r r' : World.ResD perform_settings_settings_behind.signature κs)
    (s s' : Clauses.AtExit (K.ended_of 0 perform_settings_settings_behind_kinds.ps perform_settings_settings_behind_kinds.r) κs) → perform_settings_settings_behind_reads.Post κs a r s → perform_settings_settings_behind_reads.Post κs a r' s' → r ≡ r'
one_perform_settings_settings_behind κs a r r' s s' h h' = one h h'

pub one_machine_loop_none : (κs : Lifetimes.Lfts 0) (a : World.ArgsD machine_loop_none.signature κs) (r r' : World.ResD machine_loop_none.signature κs)
    (s s' : Clauses.AtExit (K.ended_of 0 machine_loop_none_kinds.ps machine_loop_none_kinds.r) κs) → machine_loop_none_reads.Post κs a r s → machine_loop_none_reads.Post κs a r' s' → r ≡ r'
one_machine_loop_none κs a r r' s s' h h' = one h h'

pub one_machine_run_ready : (κs : Lifetimes.Lfts 0) (a : World.ArgsD machine_run_ready.signature κs) (r r' : World.ResD machine_run_ready.signature κs)
    (s s' : Clauses.AtExit (K.ended_of 0 machine_run_ready_kinds.ps machine_run_ready_kinds.r) κs) → machine_run_ready_reads.Post κs a r s → machine_run_ready_reads.Post κs a r' s' → r ≡ r'
one_machine_run_ready κs a r r' s s' h h' = one h h'

pub one_machine_run_started : (κs : Lifetimes.Lfts 0) (a : World.ArgsD machine_run_started.signature κs) (r r' : World.ResD machine_run_started.signature κs)
    (s s' : Clauses.AtExit (K.ended_of 0 machine_run_started_kinds.ps machine_run_started_kinds.r) κs) → machine_run_started_reads.Post κs a r s → machine_run_started_reads.Post κs a r' s' → r ≡ r'
one_machine_run_started κs a r r' s s' h h' = one h h'

pub one_machine_run_step : (κs : Lifetimes.Lfts 1) (a : World.ArgsD machine_run_step.signature κs) (r r' : World.ResD machine_run_step.signature κs)
    (s s' : Clauses.AtExit (K.ended_of 1 machine_run_step_kinds.ps machine_run_step_kinds.r) κs) → machine_run_step_reads.Post κs a r s → machine_run_step_reads.Post κs a r' s' → r ≡ r'
one_machine_run_step κs a r r' s s' h h' = one h h'

pub one_machine_run_sound : (κs : Lifetimes.Lfts 1) (a : World.ArgsD machine_run_sound.signature κs) (r r' : World.ResD machine_run_sound.signature κs)
    (s s' : Clauses.AtExit (K.ended_of 1 machine_run_sound_kinds.ps machine_run_sound_kinds.r) κs) → machine_run_sound_reads.Post κs a r s → machine_run_sound_reads.Post κs a r' s' → r ≡ r'
one_machine_run_sound κs a r r' s s' h h' = one h h'

pub one_reckon_forecast : (κs : Lifetimes.Lfts 1) (a : World.ArgsD reckon_forecast.signature κs) (r r' : World.ResD reckon_forecast.signature κs)
    (s s' : Clauses.AtExit (K.ended_of 1 reckon_forecast_kinds.ps reckon_forecast_kinds.r) κs) → reckon_forecast_reads.Post κs a r s → reckon_forecast_reads.Post κs a r' s' → r ≡ r'
one_reckon_forecast κs a r r' s s' h h' = one h h'

pub one_room_clean : (κs : Lifetimes.Lfts 1) (a : World.ArgsD room_clean.signature κs) (r r' : World.ResD room_clean.signature κs)
    (s s' : Clauses.AtExit (K.ended_of 1 room_clean_kinds.ps room_clean_kinds.r) κs) → room_clean_reads.Post κs a r s → room_clean_reads.Post κs a r' s' → r ≡ r'
one_room_clean κs a r r' s s' h h' = one h h'

pub one_totals_totals_none : (κs : Lifetimes.Lfts 0) (a : World.ArgsD totals_totals_none.signature κs) (r r' : World.ResD totals_totals_none.signature κs)
    (s s' : Clauses.AtExit (K.ended_of 0 totals_totals_none_kinds.ps totals_totals_none_kinds.r) κs) → totals_totals_none_reads.Post κs a r s → totals_totals_none_reads.Post κs a r' s' → r ≡ r'
one_totals_totals_none κs a r r' s s' h h' = one h h'

pub one_totals_totals_cost : (κs : Lifetimes.Lfts 0) (a : World.ArgsD totals_totals_cost.signature κs) (r r' : World.ResD totals_totals_cost.signature κs)
    (s s' : Clauses.AtExit (K.ended_of 0 totals_totals_cost_kinds.ps totals_totals_cost_kinds.r) κs) → totals_totals_cost_reads.Post κs a r s → totals_totals_cost_reads.Post κs a r' s' → r ≡ r'
one_totals_totals_cost κs a r r' s s' h h' = one h h'

pub one_totals_totals_plus : (κs : Lifetimes.Lfts 0) (a : World.ArgsD totals_totals_plus.signature κs) (r r' : World.ResD totals_totals_plus.signature κs)
    (s s' : Clauses.AtExit (K.ended_of 0 totals_totals_plus_kinds.ps totals_totals_plus_kinds.r) κs) → totals_totals_plus_reads.Post κs a r s → totals_totals_plus_reads.Post κs a r' s' → r ≡ r'
one_totals_totals_plus κs a r r' s s' h h' = one h h'

pub one_totals_totals_times : (κs : Lifetimes.Lfts 0) (a : World.ArgsD totals_totals_times.signature κs) (r r' : World.ResD totals_totals_times.signature κs)
    (s s' : Clauses.AtExit (K.ended_of 0 totals_totals_times_kinds.ps totals_totals_times_kinds.r) κs) → totals_totals_times_reads.Post κs a r s → totals_totals_times_reads.Post κs a r' s' → r ≡ r'
one_totals_totals_times κs a r r' s s' h h' = one h h'

pub one_units_steps_add : (κs : Lifetimes.Lfts 0) (a : World.ArgsD units_steps_add.signature κs) (r r' : World.ResD units_steps_add.signature κs)
    (s s' : Clauses.AtExit (K.ended_of 0 units_steps_add_kinds.ps units_steps_add_kinds.r) κs) → units_steps_add_reads.Post κs a r s → units_steps_add_reads.Post κs a r' s' → r.0 ≡ r'.0
one_units_steps_add κs a r r' s s' h h' = one h h'

pub one_units_steps_times : (κs : Lifetimes.Lfts 0) (a : World.ArgsD units_steps_times.signature κs) (r r' : World.ResD units_steps_times.signature κs)
    (s s' : Clauses.AtExit (K.ended_of 0 units_steps_times_kinds.ps units_steps_times_kinds.r) κs) → units_steps_times_reads.Post κs a r s → units_steps_times_reads.Post κs a r' s' → r.0 ≡ r'.0
one_units_steps_times κs a r r' s s' h h' = one h h'

pub one_units_steps_of : (κs : Lifetimes.Lfts 0) (a : World.ArgsD units_steps_of.signature κs) (r r' : World.ResD units_steps_of.signature κs)
    (s s' : Clauses.AtExit (K.ended_of 0 units_steps_of_kinds.ps units_steps_of_kinds.r) κs) → units_steps_of_reads.Post κs a r s → units_steps_of_reads.Post κs a r' s' → r.0 ≡ r'.0
one_units_steps_of κs a r r' s s' h h' = one h h'

pub one_units_steps_number : (κs : Lifetimes.Lfts 0) (a : World.ArgsD units_steps_number.signature κs) (r r' : World.ResD units_steps_number.signature κs)
    (s s' : Clauses.AtExit (K.ended_of 0 units_steps_number_kinds.ps units_steps_number_kinds.r) κs) → units_steps_number_reads.Post κs a r s → units_steps_number_reads.Post κs a r' s' → r ≡ r'
one_units_steps_number κs a r r' s s' h h' = one h h'

pub one_units_shifts_add : (κs : Lifetimes.Lfts 0) (a : World.ArgsD units_shifts_add.signature κs) (r r' : World.ResD units_shifts_add.signature κs)
    (s s' : Clauses.AtExit (K.ended_of 0 units_shifts_add_kinds.ps units_shifts_add_kinds.r) κs) → units_shifts_add_reads.Post κs a r s → units_shifts_add_reads.Post κs a r' s' → r.0 ≡ r'.0
one_units_shifts_add κs a r r' s s' h h' = one h h'

pub one_units_shifts_times : (κs : Lifetimes.Lfts 0) (a : World.ArgsD units_shifts_times.signature κs) (r r' : World.ResD units_shifts_times.signature κs)
    (s s' : Clauses.AtExit (K.ended_of 0 units_shifts_times_kinds.ps units_shifts_times_kinds.r) κs) → units_shifts_times_reads.Post κs a r s → units_shifts_times_reads.Post κs a r' s' → r.0 ≡ r'.0
one_units_shifts_times κs a r r' s s' h h' = one h h'

pub one_units_shifts_of : (κs : Lifetimes.Lfts 0) (a : World.ArgsD units_shifts_of.signature κs) (r r' : World.ResD units_shifts_of.signature κs)
    (s s' : Clauses.AtExit (K.ended_of 0 units_shifts_of_kinds.ps units_shifts_of_kinds.r) κs) → units_shifts_of_reads.Post κs a r s → units_shifts_of_reads.Post κs a r' s' → r.0 ≡ r'.0
one_units_shifts_of κs a r r' s s' h h' = one h h'

pub one_units_shifts_number : (κs : Lifetimes.Lfts 0) (a : World.ArgsD units_shifts_number.signature κs) (r r' : World.ResD units_shifts_number.signature κs)
    (s s' : Clauses.AtExit (K.ended_of 0 units_shifts_number_kinds.ps units_shifts_number_kinds.r) κs) → units_shifts_number_reads.Post κs a r s → units_shifts_number_reads.Post κs a r' s' → r ≡ r'
one_units_shifts_number κs a r r' s s' h h' = one h h'

pub one_units_shifts_scans : (κs : Lifetimes.Lfts 0) (a : World.ArgsD units_shifts_scans.signature κs) (r r' : World.ResD units_shifts_scans.signature κs)
    (s s' : Clauses.AtExit (K.ended_of 0 units_shifts_scans_kinds.ps units_shifts_scans_kinds.r) κs) → units_shifts_scans_reads.Post κs a r s → units_shifts_scans_reads.Post κs a r' s' → r.0 ≡ r'.0
one_units_shifts_scans κs a r r' s s' h h' = one h h'

pub one_units_scans_add : (κs : Lifetimes.Lfts 0) (a : World.ArgsD units_scans_add.signature κs) (r r' : World.ResD units_scans_add.signature κs)
    (s s' : Clauses.AtExit (K.ended_of 0 units_scans_add_kinds.ps units_scans_add_kinds.r) κs) → units_scans_add_reads.Post κs a r s → units_scans_add_reads.Post κs a r' s' → r.0 ≡ r'.0
one_units_scans_add κs a r r' s s' h h' = one h h'

pub one_units_scans_times : (κs : Lifetimes.Lfts 0) (a : World.ArgsD units_scans_times.signature κs) (r r' : World.ResD units_scans_times.signature κs)
    (s s' : Clauses.AtExit (K.ended_of 0 units_scans_times_kinds.ps units_scans_times_kinds.r) κs) → units_scans_times_reads.Post κs a r s → units_scans_times_reads.Post κs a r' s' → r.0 ≡ r'.0
one_units_scans_times κs a r r' s s' h h' = one h h'

pub one_units_scans_of : (κs : Lifetimes.Lfts 0) (a : World.ArgsD units_scans_of.signature κs) (r r' : World.ResD units_scans_of.signature κs)
    (s s' : Clauses.AtExit (K.ended_of 0 units_scans_of_kinds.ps units_scans_of_kinds.r) κs) → units_scans_of_reads.Post κs a r s → units_scans_of_reads.Post κs a r' s' → r.0 ≡ r'.0
one_units_scans_of κs a r r' s s' h h' = one h h'

pub one_units_scans_number : (κs : Lifetimes.Lfts 0) (a : World.ArgsD units_scans_number.signature κs) (r r' : World.ResD units_scans_number.signature κs)
    (s s' : Clauses.AtExit (K.ended_of 0 units_scans_number_kinds.ps units_scans_number_kinds.r) κs) → units_scans_number_reads.Post κs a r s → units_scans_number_reads.Post κs a r' s' → r ≡ r'
one_units_scans_number κs a r r' s s' h h' = one h h'

pub one_units_scans_millis : (κs : Lifetimes.Lfts 0) (a : World.ArgsD units_scans_millis.signature κs) (r r' : World.ResD units_scans_millis.signature κs)
    (s s' : Clauses.AtExit (K.ended_of 0 units_scans_millis_kinds.ps units_scans_millis_kinds.r) κs) → units_scans_millis_reads.Post κs a r s → units_scans_millis_reads.Post κs a r' s' → r.0 ≡ r'.0
one_units_scans_millis κs a r r' s s' h h' = one h h'

pub one_units_millis_add : (κs : Lifetimes.Lfts 0) (a : World.ArgsD units_millis_add.signature κs) (r r' : World.ResD units_millis_add.signature κs)
    (s s' : Clauses.AtExit (K.ended_of 0 units_millis_add_kinds.ps units_millis_add_kinds.r) κs) → units_millis_add_reads.Post κs a r s → units_millis_add_reads.Post κs a r' s' → r.0 ≡ r'.0
one_units_millis_add κs a r r' s s' h h' = one h h'

pub one_units_millis_times : (κs : Lifetimes.Lfts 0) (a : World.ArgsD units_millis_times.signature κs) (r r' : World.ResD units_millis_times.signature κs)
    (s s' : Clauses.AtExit (K.ended_of 0 units_millis_times_kinds.ps units_millis_times_kinds.r) κs) → units_millis_times_reads.Post κs a r s → units_millis_times_reads.Post κs a r' s' → r.0 ≡ r'.0
one_units_millis_times κs a r r' s s' h h' = one h h'

pub one_units_millis_of : (κs : Lifetimes.Lfts 0) (a : World.ArgsD units_millis_of.signature κs) (r r' : World.ResD units_millis_of.signature κs)
    (s s' : Clauses.AtExit (K.ended_of 0 units_millis_of_kinds.ps units_millis_of_kinds.r) κs) → units_millis_of_reads.Post κs a r s → units_millis_of_reads.Post κs a r' s' → r.0 ≡ r'.0
one_units_millis_of κs a r r' s s' h h' = one h h'

pub one_units_millis_number : (κs : Lifetimes.Lfts 0) (a : World.ArgsD units_millis_number.signature κs) (r r' : World.ResD units_millis_number.signature κs)
    (s s' : Clauses.AtExit (K.ended_of 0 units_millis_number_kinds.ps units_millis_number_kinds.r) κs) → units_millis_number_reads.Post κs a r s → units_millis_number_reads.Post κs a r' s' → r ≡ r'
one_units_millis_number κs a r r' s s' h h' = one h h'

pub one_units_millis_tenths : (κs : Lifetimes.Lfts 0) (a : World.ArgsD units_millis_tenths.signature κs) (r r' : World.ResD units_millis_tenths.signature κs)
    (s s' : Clauses.AtExit (K.ended_of 0 units_millis_tenths_kinds.ps units_millis_tenths_kinds.r) κs) → units_millis_tenths_reads.Post κs a r s → units_millis_tenths_reads.Post κs a r' s' → r.0 ≡ r'.0
one_units_millis_tenths κs a r r' s s' h h' = one h h'

pub one_refusal_refusal_number : (κs : Lifetimes.Lfts 0) (a : World.ArgsD refusal_refusal_number.signature κs) (r r' : World.ResD refusal_refusal_number.signature κs)
    (s s' : Clauses.AtExit (K.ended_of 0 refusal_refusal_number_kinds.ps refusal_refusal_number_kinds.r) κs) → refusal_refusal_number_reads.Post κs a r s → refusal_refusal_number_reads.Post κs a r' s' → r ≡ r'
one_refusal_refusal_number κs a r r' s s' h h' = one h h'

pub one_refusal_refusal_at : (κs : Lifetimes.Lfts 0) (a : World.ArgsD refusal_refusal_at.signature κs) (r r' : World.ResD refusal_refusal_at.signature κs)
    (s s' : Clauses.AtExit (K.ended_of 0 refusal_refusal_at_kinds.ps refusal_refusal_at_kinds.r) κs) → refusal_refusal_at_reads.Post κs a r s → refusal_refusal_at_reads.Post κs a r' s' → r ≡ r'
one_refusal_refusal_at κs a r r' s s' h h' = one h h'

pub one_sign_sign_power_on : (κs : Lifetimes.Lfts 0) (a : World.ArgsD sign_sign_power_on.signature κs) (r r' : World.ResD sign_sign_power_on.signature κs)
    (s s' : Clauses.AtExit (K.ended_of 0 sign_sign_power_on_kinds.ps sign_sign_power_on_kinds.r) κs) → sign_sign_power_on_reads.Post κs a r s → sign_sign_power_on_reads.Post κs a r' s' → r ≡ r'
one_sign_sign_power_on κs a r r' s s' h h' = one h h'

pub one_sign_sign_receive : (κs : Lifetimes.Lfts 1) (a : World.ArgsD sign_sign_receive.signature κs) (r r' : World.ResD sign_sign_receive.signature κs)
    (s s' : Clauses.AtExit (K.ended_of 1 sign_sign_receive_kinds.ps sign_sign_receive_kinds.r) κs) → sign_sign_receive_reads.Post κs a r s → sign_sign_receive_reads.Post κs a r' s' → r ≡ r'
one_sign_sign_receive κs a r r' s s' h h' = one h h'

pub one_sign_sign_reset : (κs : Lifetimes.Lfts 0) (a : World.ArgsD sign_sign_reset.signature κs) (r r' : World.ResD sign_sign_reset.signature κs)
    (s s' : Clauses.AtExit (K.ended_of 0 sign_sign_reset_kinds.ps sign_sign_reset_kinds.r) κs) → sign_sign_reset_reads.Post κs a r s → sign_sign_reset_reads.Post κs a r' s' → r ≡ r'
one_sign_sign_reset κs a r r' s s' h h' = one h h'

pub one_sign_sign_step : (κs : Lifetimes.Lfts 0) (a : World.ArgsD sign_sign_step.signature κs) (r r' : World.ResD sign_sign_step.signature κs)
    (s s' : Clauses.AtExit (K.ended_of 0 sign_sign_step_kinds.ps sign_sign_step_kinds.r) κs) → sign_sign_step_reads.Post κs a r s → sign_sign_step_reads.Post κs a r' s' → r ≡ r'
one_sign_sign_step κs a r r' s s' h h' = one h h'

pub one_sign_sign_sound : (κs : Lifetimes.Lfts 0) (a : World.ArgsD sign_sign_sound.signature κs) (r r' : World.ResD sign_sign_sound.signature κs)
    (s s' : Clauses.AtExit (K.ended_of 0 sign_sign_sound_kinds.ps sign_sign_sound_kinds.r) κs) → sign_sign_sound_reads.Post κs a r s → sign_sign_sound_reads.Post κs a r' s' → r ≡ r'
one_sign_sign_sound κs a r r' s s' h h' = one h h'

pub one_sign_sign_reply : (κs : Lifetimes.Lfts 1) (a : World.ArgsD sign_sign_reply.signature κs) (r r' : World.ResD sign_sign_reply.signature κs)
    (s s' : Clauses.AtExit (K.ended_of 1 sign_sign_reply_kinds.ps sign_sign_reply_kinds.r) κs) → sign_sign_reply_reads.Post κs a r s → sign_sign_reply_reads.Post κs a r' s'
    → (r ≡ r') × (s.1.1.1.0.now ≡ s'.1.1.1.0.now)
one_sign_sign_reply κs a r r' s s' h h' = (one h.answered h'.answered, one h.left h'.left)

pub one_sign_sign_copy_body : (κs : Lifetimes.Lfts 1) (a : World.ArgsD sign_sign_copy_body.signature κs) (r r' : World.ResD sign_sign_copy_body.signature κs)
    (s s' : Clauses.AtExit (K.ended_of 1 sign_sign_copy_body_kinds.ps sign_sign_copy_body_kinds.r) κs) → sign_sign_copy_body_reads.Post κs a r s → sign_sign_copy_body_reads.Post κs a r' s'
    → (r ≡ r') × (s.1.0.now ≡ s'.1.0.now)
one_sign_sign_copy_body κs a r r' s s' h h' = (one h.answered h'.answered, one h.left h'.left)

pub one_completed_none : (κs : Lifetimes.Lfts 0) (a : World.ArgsD completed_none.signature κs) (r r' : World.ResD completed_none.signature κs)
    (s s' : Clauses.AtExit (K.ended_of 0 completed_none_kinds.ps completed_none_kinds.r) κs) → completed_none_reads.Post κs a r s → completed_none_reads.Post κs a r' s' → r ≡ r'
one_completed_none κs a r r' s s' h h' = one h h'

pub one_completed_completed_last : (κs : Lifetimes.Lfts 0) (a : World.ArgsD completed_completed_last.signature κs) (r r' : World.ResD completed_completed_last.signature κs)
    (s s' : Clauses.AtExit (K.ended_of 0 completed_completed_last_kinds.ps completed_completed_last_kinds.r) κs) → completed_completed_last_reads.Post κs a r s → completed_completed_last_reads.Post κs a r' s' → r ≡ r'
one_completed_completed_last κs a r r' s s' h h' = one h h'

pub one_completed_completed_has : (κs : Lifetimes.Lfts 0) (a : World.ArgsD completed_completed_has.signature κs) (r r' : World.ResD completed_completed_has.signature κs)
    (s s' : Clauses.AtExit (K.ended_of 0 completed_completed_has_kinds.ps completed_completed_has_kinds.r) κs) → completed_completed_has_reads.Post κs a r s → completed_completed_has_reads.Post κs a r' s' → r ≡ r'
one_completed_completed_has κs a r r' s s' h h' = one h h'

pub one_completed_completed_with : (κs : Lifetimes.Lfts 0) (a : World.ArgsD completed_completed_with.signature κs) (r r' : World.ResD completed_completed_with.signature κs)
    (s s' : Clauses.AtExit (K.ended_of 0 completed_completed_with_kinds.ps completed_completed_with_kinds.r) κs) → completed_completed_with_reads.Post κs a r s → completed_completed_with_reads.Post κs a r' s' → r ≡ r'
one_completed_completed_with κs a r r' s s' h h' = one h h'

pub one_completed_completed_sound : (κs : Lifetimes.Lfts 0) (a : World.ArgsD completed_completed_sound.signature κs) (r r' : World.ResD completed_completed_sound.signature κs)
    (s s' : Clauses.AtExit (K.ended_of 0 completed_completed_sound_kinds.ps completed_completed_sound_kinds.r) κs) → completed_completed_sound_reads.Post κs a r s → completed_completed_sound_reads.Post κs a r' s' → r ≡ r'
one_completed_completed_sound κs a r r' s s' h h' = one h h'

pub one_collect_same : (κs : Lifetimes.Lfts 2) (a : World.ArgsD collect_same.signature κs) (r r' : World.ResD collect_same.signature κs)
    (s s' : Clauses.AtExit (K.ended_of 2 collect_same_kinds.ps collect_same_kinds.r) κs) → collect_same_reads.Post κs a r s → collect_same_reads.Post κs a r' s' → r ≡ r'
one_collect_same κs a r r' s s' h h' = one h h'

pub one_hear_framed : (κs : Lifetimes.Lfts 1) (a : World.ArgsD hear_framed.signature κs) (r r' : World.ResD hear_framed.signature κs)
    (s s' : Clauses.AtExit (K.ended_of 1 hear_framed_kinds.ps hear_framed_kinds.r) κs) → hear_framed_reads.Post κs a r s → hear_framed_reads.Post κs a r' s' → r ≡ r'
one_hear_framed κs a r r' s s' h h' = one h h'

-- what is heard and the room that it leaves are told by what is left
heard_in : Left → Heard
heard_in l = record { outcome = l.outcome; completed = l.completed; slots = slots_in l.collection }

pub one_hear_hear : (κs : Lifetimes.Lfts 2) (a : World.ArgsD hear_hear.signature κs) (r r' : World.ResD hear_hear.signature κs)
    (s s' : Clauses.AtExit (K.ended_of 2 hear_hear_kinds.ps hear_hear_kinds.r) κs) → hear_hear_reads.Post κs a r s → hear_hear_reads.Post κs a r' s'
    → (r ≡ r') × (s.1.1.1.0.now ≡ s'.1.1.1.0.now)
unfolding heard_in
one_hear_hear κs a r r' s s' h h' = (ap heard_in (one h h'), ap (λ (l : Left). l.collection.room) (one h h'))

pub one_collect_begun : (κs : Lifetimes.Lfts 0) (a : World.ArgsD collect_begun.signature κs) (r r' : World.ResD collect_begun.signature κs)
    (s s' : Clauses.AtExit (K.ended_of 0 collect_begun_kinds.ps collect_begun_kinds.r) κs) → collect_begun_reads.Post κs a r s → collect_begun_reads.Post κs a r' s' → r ≡ r'
one_collect_begun κs a r r' s s' h h' = one h h'

pub one_collect_held : (κs : Lifetimes.Lfts 0) (a : World.ArgsD collect_held.signature κs) (r r' : World.ResD collect_held.signature κs)
    (s s' : Clauses.AtExit (K.ended_of 0 collect_held_kinds.ps collect_held_kinds.r) κs) → collect_held_reads.Post κs a r s → collect_held_reads.Post κs a r' s' → r ≡ r'
one_collect_held κs a r r' s s' h h' = one h h'

pub one_collect_slots_none : (κs : Lifetimes.Lfts 0) (a : World.ArgsD collect_slots_none.signature κs) (r r' : World.ResD collect_slots_none.signature κs)
    (s s' : Clauses.AtExit (K.ended_of 0 collect_slots_none_kinds.ps collect_slots_none_kinds.r) κs) → collect_slots_none_reads.Post κs a r s → collect_slots_none_reads.Post κs a r' s' → r ≡ r'
one_collect_slots_none κs a r r' s s' h h' = one h h'

pub one_collect_slots_sound : (κs : Lifetimes.Lfts 1) (a : World.ArgsD collect_slots_sound.signature κs) (r r' : World.ResD collect_slots_sound.signature κs)
    (s s' : Clauses.AtExit (K.ended_of 1 collect_slots_sound_kinds.ps collect_slots_sound_kinds.r) κs) → collect_slots_sound_reads.Post κs a r s → collect_slots_sound_reads.Post κs a r' s' → r ≡ r'
one_collect_slots_sound κs a r r' s s' h h' = one h h'

pub one_repeater_repeat : (κs : Lifetimes.Lfts 1) (a : World.ArgsD repeater_repeat.signature κs) (r r' : World.ResD repeater_repeat.signature κs)
    (s s' : Clauses.AtExit (K.ended_of 1 repeater_repeat_kinds.ps repeater_repeat_kinds.r) κs) → repeater_repeat_reads.Post κs a r s → repeater_repeat_reads.Post κs a r' s'
    → (r.now ≡ r'.now) × ((r.ref_ptr.0 ≡ r'.ref_ptr.0) × (r.ref_ptr.1 ≡ r'.ref_ptr.1))
one_repeater_repeat κs a r r' s s' h h' = (one h.0 h'.0, (one h.1.0 h'.1.0, one h.1.1 h'.1.1))
