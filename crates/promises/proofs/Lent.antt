-- One outcome (P1, P2), of the calls for C: any two outcomes that a contract allows are equal, of the result, the image
-- and every lent byte; of what they are told by; and of the image both ways. Stated over the contract as the prover
-- reads it, as in Outcome.
use mathlib.Core.Path.{◌≡◌}
use contract.Lifetimes
use denote.Triple.Clauses
use borrow.Fn.World
use borrow.Fn.Kinds as K
use Rattle.promises.proofs.Outcome.{one}
use Rattle.repeater.specs.contracts.shows as repeater_shows
use Rattle.repeater.proofs.shows.Kinds as repeater_shows_kinds
use Rattle.repeater.proofs.shows.Reads as repeater_shows_reads
use Rattle.image.specs.contracts.record_of as image_record_of
use Rattle.image.proofs.record_of.Kinds as image_record_of_kinds
use Rattle.image.proofs.record_of.Reads as image_record_of_reads
use Rattle.image.specs.contracts.image_of as image_image_of
use Rattle.image.proofs.image_of.Kinds as image_image_of_kinds
use Rattle.image.proofs.image_of.Reads as image_image_of_reads
use Rattle.words.specs.contracts.tell_written as words_tell_written
use Rattle.words.proofs.tell_written.Kinds as words_tell_written_kinds
use Rattle.words.proofs.tell_written.Reads as words_tell_written_reads
use Rattle.words.specs.contracts.tell_reading as words_tell_reading
use Rattle.words.proofs.tell_reading.Kinds as words_tell_reading_kinds
use Rattle.words.proofs.tell_reading.Reads as words_tell_reading_reads
use Rattle.words.specs.contracts.tell_status as words_tell_status
use Rattle.words.proofs.tell_status.Kinds as words_tell_status_kinds
use Rattle.words.proofs.tell_status.Reads as words_tell_status_reads
use Rattle.words.specs.contracts.tell_verdict as words_tell_verdict
use Rattle.words.proofs.tell_verdict.Kinds as words_tell_verdict_kinds
use Rattle.words.proofs.tell_verdict.Reads as words_tell_verdict_reads
use Rattle.words.specs.contracts.tell_forecast as words_tell_forecast
use Rattle.words.proofs.tell_forecast.Kinds as words_tell_forecast_kinds
use Rattle.words.proofs.tell_forecast.Reads as words_tell_forecast_reads
use Rattle.words.specs.contracts.tell_outcome as words_tell_outcome
use Rattle.words.proofs.tell_outcome.Kinds as words_tell_outcome_kinds
use Rattle.words.proofs.tell_outcome.Reads as words_tell_outcome_reads
use Rattle.words.specs.contracts.tell_received as words_tell_received
use Rattle.words.proofs.tell_received.Kinds as words_tell_received_kinds
use Rattle.words.proofs.tell_received.Reads as words_tell_received_reads
use Rattle.words.specs.contracts.tell_stepped as words_tell_stepped
use Rattle.words.proofs.tell_stepped.Kinds as words_tell_stepped_kinds
use Rattle.words.proofs.tell_stepped.Reads as words_tell_stepped_reads
use Rattle.cabi.specs.contracts.yd_read_packet as cabi_yd_read_packet
use Rattle.cabi.proofs.yd_read_packet.Kinds as cabi_yd_read_packet_kinds
use Rattle.cabi.proofs.yd_read_packet.Reads as cabi_yd_read_packet_reads
use Rattle.cabi.specs.contracts.yd_read_reply as cabi_yd_read_reply
use Rattle.cabi.proofs.yd_read_reply.Kinds as cabi_yd_read_reply_kinds
use Rattle.cabi.proofs.yd_read_reply.Reads as cabi_yd_read_reply_reads
use Rattle.cabi.specs.contracts.yd_write_query as cabi_yd_write_query
use Rattle.cabi.proofs.yd_write_query.Kinds as cabi_yd_write_query_kinds
use Rattle.cabi.proofs.yd_write_query.Reads as cabi_yd_write_query_reads
use Rattle.cabi.specs.contracts.yd_write_reset as cabi_yd_write_reset
use Rattle.cabi.proofs.yd_write_reset.Kinds as cabi_yd_write_reset_kinds
use Rattle.cabi.proofs.yd_write_reset.Reads as cabi_yd_write_reset_reads
use Rattle.cabi.specs.contracts.yd_write_packet as cabi_yd_write_packet
use Rattle.cabi.proofs.yd_write_packet.Kinds as cabi_yd_write_packet_kinds
use Rattle.cabi.proofs.yd_write_packet.Reads as cabi_yd_write_packet_reads
use Rattle.cabi.specs.contracts.yd_write_transmission as cabi_yd_write_transmission
use Rattle.cabi.proofs.yd_write_transmission.Kinds as cabi_yd_write_transmission_kinds
use Rattle.cabi.proofs.yd_write_transmission.Reads as cabi_yd_write_transmission_reads
use Rattle.cabi.specs.contracts.yd_write_reply as cabi_yd_write_reply
use Rattle.cabi.proofs.yd_write_reply.Kinds as cabi_yd_write_reply_kinds
use Rattle.cabi.proofs.yd_write_reply.Reads as cabi_yd_write_reply_reads
use Rattle.cabi.specs.contracts.yd_judge as cabi_yd_judge
use Rattle.cabi.proofs.yd_judge.Kinds as cabi_yd_judge_kinds
use Rattle.cabi.proofs.yd_judge.Reads as cabi_yd_judge_reads
use Rattle.cabi.specs.contracts.yd_forecast as cabi_yd_forecast
use Rattle.cabi.proofs.yd_forecast.Kinds as cabi_yd_forecast_kinds
use Rattle.cabi.proofs.yd_forecast.Reads as cabi_yd_forecast_reads
use Rattle.cabi.specs.contracts.yd_power_on as cabi_yd_power_on
use Rattle.cabi.proofs.yd_power_on.Kinds as cabi_yd_power_on_kinds
use Rattle.cabi.proofs.yd_power_on.Reads as cabi_yd_power_on_reads
use Rattle.cabi.specs.contracts.yd_reset as cabi_yd_reset
use Rattle.cabi.proofs.yd_reset.Kinds as cabi_yd_reset_kinds
use Rattle.cabi.proofs.yd_reset.Reads as cabi_yd_reset_reads
use Rattle.cabi.specs.contracts.yd_receive as cabi_yd_receive
use Rattle.cabi.proofs.yd_receive.Kinds as cabi_yd_receive_kinds
use Rattle.cabi.proofs.yd_receive.Reads as cabi_yd_receive_reads
use Rattle.cabi.specs.contracts.yd_step as cabi_yd_step
use Rattle.cabi.proofs.yd_step.Kinds as cabi_yd_step_kinds
use Rattle.cabi.proofs.yd_step.Reads as cabi_yd_step_reads
use Rattle.cabi.specs.contracts.yd_reply as cabi_yd_reply
use Rattle.cabi.proofs.yd_reply.Kinds as cabi_yd_reply_kinds
use Rattle.cabi.proofs.yd_reply.Reads as cabi_yd_reply_reads
use Rattle.cabi.specs.contracts.yd_copy_body as cabi_yd_copy_body
use Rattle.cabi.proofs.yd_copy_body.Kinds as cabi_yd_copy_body_kinds
use Rattle.cabi.proofs.yd_copy_body.Reads as cabi_yd_copy_body_reads
use Rattle.cabi.specs.contracts.yd_repeat as cabi_yd_repeat
use Rattle.cabi.proofs.yd_repeat.Kinds as cabi_yd_repeat_kinds
use Rattle.cabi.proofs.yd_repeat.Reads as cabi_yd_repeat_reads
use Rattle.cabi.specs.contracts.yd_version as cabi_yd_version
use Rattle.cabi.proofs.yd_version.Kinds as cabi_yd_version_kinds
use Rattle.cabi.proofs.yd_version.Reads as cabi_yd_version_reads

pub one_repeater_shows : (κs : Lifetimes.Lfts 1) (a : World.ArgsD repeater_shows.signature κs) (r r' : World.ResD repeater_shows.signature κs)
    (s s' : Clauses.AtExit (K.ended_of 1 repeater_shows_kinds.ps repeater_shows_kinds.r) κs) → repeater_shows_reads.Post κs a r s → repeater_shows_reads.Post κs a r' s'
    → r ≡ r'
one_repeater_shows κs a r r' s s' h h' = one h h'

pub one_image_record_of : (κs : Lifetimes.Lfts 0) (a : World.ArgsD image_record_of.signature κs) (r r' : World.ResD image_record_of.signature κs)
    (s s' : Clauses.AtExit (K.ended_of 0 image_record_of_kinds.ps image_record_of_kinds.r) κs) → image_record_of_reads.Post κs a r s → image_record_of_reads.Post κs a r' s'
    → r ≡ r'
one_image_record_of κs a r r' s s' h h' = one h h'

pub one_image_image_of : (κs : Lifetimes.Lfts 0) (a : World.ArgsD image_image_of.signature κs) (r r' : World.ResD image_image_of.signature κs)
    (s s' : Clauses.AtExit (K.ended_of 0 image_image_of_kinds.ps image_image_of_kinds.r) κs) → image_image_of_reads.Post κs a r s → image_image_of_reads.Post κs a r' s'
    → r ≡ r'
one_image_image_of κs a r r' s s' h h' = one h h'

pub one_words_tell_written : (κs : Lifetimes.Lfts 0) (a : World.ArgsD words_tell_written.signature κs) (r r' : World.ResD words_tell_written.signature κs)
    (s s' : Clauses.AtExit (K.ended_of 0 words_tell_written_kinds.ps words_tell_written_kinds.r) κs) → words_tell_written_reads.Post κs a r s → words_tell_written_reads.Post κs a r' s'
    → r ≡ r'
one_words_tell_written κs a r r' s s' h h' = one h h'

pub one_words_tell_reading : (κs : Lifetimes.Lfts 1) (a : World.ArgsD words_tell_reading.signature κs) (r r' : World.ResD words_tell_reading.signature κs)
    (s s' : Clauses.AtExit (K.ended_of 1 words_tell_reading_kinds.ps words_tell_reading_kinds.r) κs) → words_tell_reading_reads.Post κs a r s → words_tell_reading_reads.Post κs a r' s'
    → (r ≡ r') × (s.1.0.now ≡ s'.1.0.now)
one_words_tell_reading κs a r r' s s' h h' = (one h.0 h'.0, one h.1 h'.1)

pub one_words_tell_status : (κs : Lifetimes.Lfts 1) (a : World.ArgsD words_tell_status.signature κs) (r r' : World.ResD words_tell_status.signature κs)
    (s s' : Clauses.AtExit (K.ended_of 1 words_tell_status_kinds.ps words_tell_status_kinds.r) κs) → words_tell_status_reads.Post κs a r s → words_tell_status_reads.Post κs a r' s'
    → (r ≡ r') × (s.1.0.now ≡ s'.1.0.now)
one_words_tell_status κs a r r' s s' h h' = (one h.0 h'.0, one h.1 h'.1)

pub one_words_tell_verdict : (κs : Lifetimes.Lfts 0) (a : World.ArgsD words_tell_verdict.signature κs) (r r' : World.ResD words_tell_verdict.signature κs)
    (s s' : Clauses.AtExit (K.ended_of 0 words_tell_verdict_kinds.ps words_tell_verdict_kinds.r) κs) → words_tell_verdict_reads.Post κs a r s → words_tell_verdict_reads.Post κs a r' s'
    → r ≡ r'
one_words_tell_verdict κs a r r' s s' h h' = one h h'

pub one_words_tell_forecast : (κs : Lifetimes.Lfts 1) (a : World.ArgsD words_tell_forecast.signature κs) (r r' : World.ResD words_tell_forecast.signature κs)
    (s s' : Clauses.AtExit (K.ended_of 1 words_tell_forecast_kinds.ps words_tell_forecast_kinds.r) κs) → words_tell_forecast_reads.Post κs a r s → words_tell_forecast_reads.Post κs a r' s'
    → (r ≡ r') × (s.1.0.now ≡ s'.1.0.now)
one_words_tell_forecast κs a r r' s s' h h' = (one h.0 h'.0, one h.1 h'.1)

pub one_words_tell_outcome : (κs : Lifetimes.Lfts 0) (a : World.ArgsD words_tell_outcome.signature κs) (r r' : World.ResD words_tell_outcome.signature κs)
    (s s' : Clauses.AtExit (K.ended_of 0 words_tell_outcome_kinds.ps words_tell_outcome_kinds.r) κs) → words_tell_outcome_reads.Post κs a r s → words_tell_outcome_reads.Post κs a r' s'
    → r ≡ r'
one_words_tell_outcome κs a r r' s s' h h' = one h h'

pub one_words_tell_received : (κs : Lifetimes.Lfts 2) (a : World.ArgsD words_tell_received.signature κs) (r r' : World.ResD words_tell_received.signature κs)
    (s s' : Clauses.AtExit (K.ended_of 2 words_tell_received_kinds.ps words_tell_received_kinds.r) κs) → words_tell_received_reads.Post κs a r s → words_tell_received_reads.Post κs a r' s'
    → (r ≡ r') × (s.1.1.0.now ≡ s'.1.1.0.now)
one_words_tell_received κs a r r' s s' h h' = (one h.0 h'.0, one h.1 h'.1)

pub one_words_tell_stepped : (κs : Lifetimes.Lfts 1) (a : World.ArgsD words_tell_stepped.signature κs) (r r' : World.ResD words_tell_stepped.signature κs)
    (s s' : Clauses.AtExit (K.ended_of 1 words_tell_stepped_kinds.ps words_tell_stepped_kinds.r) κs) → words_tell_stepped_reads.Post κs a r s → words_tell_stepped_reads.Post κs a r' s'
    → (r ≡ r') × (s.1.0.now ≡ s'.1.0.now)
one_words_tell_stepped κs a r r' s s' h h' = (one h.0 h'.0, one h.1 h'.1)

pub one_cabi_yd_read_packet : (κs : Lifetimes.Lfts 2) (a : World.ArgsD cabi_yd_read_packet.signature κs) (r r' : World.ResD cabi_yd_read_packet.signature κs)
    (s s' : Clauses.AtExit (K.ended_of 2 cabi_yd_read_packet_kinds.ps cabi_yd_read_packet_kinds.r) κs) → cabi_yd_read_packet_reads.Post κs a r s → cabi_yd_read_packet_reads.Post κs a r' s'
    → (r ≡ r') × (s.1.1.0.now ≡ s'.1.1.0.now)
one_cabi_yd_read_packet κs a r r' s s' h h' = (one h.0 h'.0, one h.1 h'.1)

pub one_cabi_yd_read_reply : (κs : Lifetimes.Lfts 2) (a : World.ArgsD cabi_yd_read_reply.signature κs) (r r' : World.ResD cabi_yd_read_reply.signature κs)
    (s s' : Clauses.AtExit (K.ended_of 2 cabi_yd_read_reply_kinds.ps cabi_yd_read_reply_kinds.r) κs) → cabi_yd_read_reply_reads.Post κs a r s → cabi_yd_read_reply_reads.Post κs a r' s'
    → (r ≡ r') × (s.1.1.0.now ≡ s'.1.1.0.now)
one_cabi_yd_read_reply κs a r r' s s' h h' = (one h.0 h'.0, one h.1 h'.1)

pub one_cabi_yd_write_query : (κs : Lifetimes.Lfts 1) (a : World.ArgsD cabi_yd_write_query.signature κs) (r r' : World.ResD cabi_yd_write_query.signature κs)
    (s s' : Clauses.AtExit (K.ended_of 1 cabi_yd_write_query_kinds.ps cabi_yd_write_query_kinds.r) κs) → cabi_yd_write_query_reads.Post κs a r s → cabi_yd_write_query_reads.Post κs a r' s'
    → (r ≡ r') × (s.1.0.now ≡ s'.1.0.now)
one_cabi_yd_write_query κs a r r' s s' h h' = (one h.told h'.told, one h.left h'.left)

pub one_cabi_yd_write_reset : (κs : Lifetimes.Lfts 1) (a : World.ArgsD cabi_yd_write_reset.signature κs) (r r' : World.ResD cabi_yd_write_reset.signature κs)
    (s s' : Clauses.AtExit (K.ended_of 1 cabi_yd_write_reset_kinds.ps cabi_yd_write_reset_kinds.r) κs) → cabi_yd_write_reset_reads.Post κs a r s → cabi_yd_write_reset_reads.Post κs a r' s'
    → (r ≡ r') × (s.1.0.now ≡ s'.1.0.now)
one_cabi_yd_write_reset κs a r r' s s' h h' = (one h.told h'.told, one h.left h'.left)

pub one_cabi_yd_write_packet : (κs : Lifetimes.Lfts 2) (a : World.ArgsD cabi_yd_write_packet.signature κs) (r r' : World.ResD cabi_yd_write_packet.signature κs)
    (s s' : Clauses.AtExit (K.ended_of 2 cabi_yd_write_packet_kinds.ps cabi_yd_write_packet_kinds.r) κs) → cabi_yd_write_packet_reads.Post κs a r s → cabi_yd_write_packet_reads.Post κs a r' s'
    → (r ≡ r') × (s.1.1.1.1.0.now ≡ s'.1.1.1.1.0.now)
one_cabi_yd_write_packet κs a r r' s s' h h' = (one h.told h'.told, one h.left h'.left)

pub one_cabi_yd_write_transmission : (κs : Lifetimes.Lfts 2) (a : World.ArgsD cabi_yd_write_transmission.signature κs) (r r' : World.ResD cabi_yd_write_transmission.signature κs)
    (s s' : Clauses.AtExit (K.ended_of 2 cabi_yd_write_transmission_kinds.ps cabi_yd_write_transmission_kinds.r) κs) → cabi_yd_write_transmission_reads.Post κs a r s → cabi_yd_write_transmission_reads.Post κs a r' s'
    → (r ≡ r') × (s.1.1.1.0.now ≡ s'.1.1.1.0.now)
one_cabi_yd_write_transmission κs a r r' s s' h h' = (one h.told h'.told, one h.left h'.left)

pub one_cabi_yd_write_reply : (κs : Lifetimes.Lfts 1) (a : World.ArgsD cabi_yd_write_reply.signature κs) (r r' : World.ResD cabi_yd_write_reply.signature κs)
    (s s' : Clauses.AtExit (K.ended_of 1 cabi_yd_write_reply_kinds.ps cabi_yd_write_reply_kinds.r) κs) → cabi_yd_write_reply_reads.Post κs a r s → cabi_yd_write_reply_reads.Post κs a r' s'
    → (r ≡ r') × (s.1.1.1.1.0.now ≡ s'.1.1.1.1.0.now)
one_cabi_yd_write_reply κs a r r' s s' h h' = (one h.told h'.told, one h.left h'.left)

pub one_cabi_yd_judge : (κs : Lifetimes.Lfts 1) (a : World.ArgsD cabi_yd_judge.signature κs) (r r' : World.ResD cabi_yd_judge.signature κs)
    (s s' : Clauses.AtExit (K.ended_of 1 cabi_yd_judge_kinds.ps cabi_yd_judge_kinds.r) κs) → cabi_yd_judge_reads.Post κs a r s → cabi_yd_judge_reads.Post κs a r' s'
    → r ≡ r'
one_cabi_yd_judge κs a r r' s s' h h' = one h h'

pub one_cabi_yd_forecast : (κs : Lifetimes.Lfts 2) (a : World.ArgsD cabi_yd_forecast.signature κs) (r r' : World.ResD cabi_yd_forecast.signature κs)
    (s s' : Clauses.AtExit (K.ended_of 2 cabi_yd_forecast_kinds.ps cabi_yd_forecast_kinds.r) κs) → cabi_yd_forecast_reads.Post κs a r s → cabi_yd_forecast_reads.Post κs a r' s'
    → (r ≡ r') × (s.1.1.1.0.now ≡ s'.1.1.1.0.now)
one_cabi_yd_forecast κs a r r' s s' h h' = (one h.0 h'.0, one h.1 h'.1)

pub one_cabi_yd_power_on : (κs : Lifetimes.Lfts 1) (a : World.ArgsD cabi_yd_power_on.signature κs) (r r' : World.ResD cabi_yd_power_on.signature κs)
    (s s' : Clauses.AtExit (K.ended_of 1 cabi_yd_power_on_kinds.ps cabi_yd_power_on_kinds.r) κs) → cabi_yd_power_on_reads.Post κs a r s → cabi_yd_power_on_reads.Post κs a r' s'
    → (r ≡ r') × (s.0.now ≡ s'.0.now)
one_cabi_yd_power_on κs a r r' s s' h h' = (one h.0 h'.0, one h.1 h'.1)

pub one_cabi_yd_reset : (κs : Lifetimes.Lfts 1) (a : World.ArgsD cabi_yd_reset.signature κs) (r r' : World.ResD cabi_yd_reset.signature κs)
    (s s' : Clauses.AtExit (K.ended_of 1 cabi_yd_reset_kinds.ps cabi_yd_reset_kinds.r) κs) → cabi_yd_reset_reads.Post κs a r s → cabi_yd_reset_reads.Post κs a r' s'
    → (r ≡ r') × (s.0.now ≡ s'.0.now)
one_cabi_yd_reset κs a r r' s s' h h' = (one h.0 h'.0, one h.1 h'.1)

pub one_cabi_yd_receive : (κs : Lifetimes.Lfts 3) (a : World.ArgsD cabi_yd_receive.signature κs) (r r' : World.ResD cabi_yd_receive.signature κs)
    (s s' : Clauses.AtExit (K.ended_of 3 cabi_yd_receive_kinds.ps cabi_yd_receive_kinds.r) κs) → cabi_yd_receive_reads.Post κs a r s → cabi_yd_receive_reads.Post κs a r' s'
    → (r ≡ r') × ((s.0.now ≡ s'.0.now) × (s.1.1.1.0.now ≡ s'.1.1.1.0.now))
one_cabi_yd_receive κs a r r' s s' h h' = (one h.0 h'.0, (one h.1.0 h'.1.0, one h.1.1 h'.1.1))

pub one_cabi_yd_step : (κs : Lifetimes.Lfts 2) (a : World.ArgsD cabi_yd_step.signature κs) (r r' : World.ResD cabi_yd_step.signature κs)
    (s s' : Clauses.AtExit (K.ended_of 2 cabi_yd_step_kinds.ps cabi_yd_step_kinds.r) κs) → cabi_yd_step_reads.Post κs a r s → cabi_yd_step_reads.Post κs a r' s'
    → (r ≡ r') × ((s.0.now ≡ s'.0.now) × (s.1.0.now ≡ s'.1.0.now))
one_cabi_yd_step κs a r r' s s' h h' = (one h.0 h'.0, (one h.1.0 h'.1.0, one h.1.1 h'.1.1))

pub one_cabi_yd_reply : (κs : Lifetimes.Lfts 2) (a : World.ArgsD cabi_yd_reply.signature κs) (r r' : World.ResD cabi_yd_reply.signature κs)
    (s s' : Clauses.AtExit (K.ended_of 2 cabi_yd_reply_kinds.ps cabi_yd_reply_kinds.r) κs) → cabi_yd_reply_reads.Post κs a r s → cabi_yd_reply_reads.Post κs a r' s'
    → (r ≡ r') × (s.1.1.1.0.now ≡ s'.1.1.1.0.now)
one_cabi_yd_reply κs a r r' s s' h h' = (one h.told h'.told, one h.left h'.left)

pub one_cabi_yd_copy_body : (κs : Lifetimes.Lfts 2) (a : World.ArgsD cabi_yd_copy_body.signature κs) (r r' : World.ResD cabi_yd_copy_body.signature κs)
    (s s' : Clauses.AtExit (K.ended_of 2 cabi_yd_copy_body_kinds.ps cabi_yd_copy_body_kinds.r) κs) → cabi_yd_copy_body_reads.Post κs a r s → cabi_yd_copy_body_reads.Post κs a r' s'
    → (r ≡ r') × (s.1.0.now ≡ s'.1.0.now)
one_cabi_yd_copy_body κs a r r' s s' h h' = (one h.told h'.told, one h.left h'.left)

pub one_cabi_yd_repeat : (κs : Lifetimes.Lfts 1) (a : World.ArgsD cabi_yd_repeat.signature κs) (r r' : World.ResD cabi_yd_repeat.signature κs)
    (s s' : Clauses.AtExit (K.ended_of 1 cabi_yd_repeat_kinds.ps cabi_yd_repeat_kinds.r) κs) → cabi_yd_repeat_reads.Post κs a r s → cabi_yd_repeat_reads.Post κs a r' s'
    → r ≡ r'
one_cabi_yd_repeat κs a r r' s s' h h' = one h h'

pub one_cabi_yd_version : (κs : Lifetimes.Lfts 0) (a : World.ArgsD cabi_yd_version.signature κs) (r r' : World.ResD cabi_yd_version.signature κs)
    (s s' : Clauses.AtExit (K.ended_of 0 cabi_yd_version_kinds.ps cabi_yd_version_kinds.r) κs) → cabi_yd_version_reads.Post κs a r s → cabi_yd_version_reads.Post κs a r' s'
    → r ≡ r'
one_cabi_yd_version κs a r r' s s' h h' = one h h'
