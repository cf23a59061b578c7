-- The wrong units do not keep the promises: each is caught by one call on one input, which any unit that keeps them answers as ours does.
use Prim.Native.Nat.{ℕ}
use mathlib.Core.Bool.{Bool, true, false}
use mathlib.Core.List.{List, [], ◌∷◌}
use mathlib.Core.Path.{◌≡◌, refl, sym, ap, ◌∙◌}
use native.Mathlib.Omega.{arith}
use lib.ListN.{length, get_or, replicate}
use Rattle.basis.specs.Bytes.{Bytes, sum, laid}
use Rattle.basis.specs.Told.{Told}
use Rattle.std.specs.Prelude.{Err}
use Rattle.refusal.specs.declared.Refusal.TheVariants.{TooFewBytes}
use Rattle.packet.specs.Mid.{is_forbidden}
use Rattle.packet.specs.Wire.{packet_of, packets_of, packet_at, query_of, reply_of, part_of}
use Rattle.program.specs.Command.{read_of as command_at}
use Rattle.perform.specs.Price.{answer_of}
use Rattle.perform.specs.Settings.{sound_of as settings_sound}
use Rattle.perform.specs.declared.settings.Settings.{Settings}
use Rattle.judge.specs.Standing.{stand_of}
use Rattle.judge.specs.Verdict.{judge_of}
use Rattle.reader.specs.Read.{lowest_of, read_of}
use Rattle.reader.proofs.Refusals.{refused_lowest}
use Rattle.reply.specs.Reply.{is_last, heard_from, heard_of}
use Rattle.course.specs.Steps.{settle}
use Rattle.completed.specs.Completed.{none_of as no_completed, last_of, has_of, added_of, sound_of as completed_sound}
use Rattle.collect.specs.Slots.{slots_of, held_of, joined_of, same_of, begun_of, stored_of}
use Rattle.collect.specs.Sound.{sound_of as collection_sound}
use Rattle.room.specs.Room.{room_of}
use Rattle.machine.specs.Sound.{sound_of as run_sound}
use Rattle.machine.specs.Step.{ready_of, started_of, step_of as run_step}
use Rattle.reckon.specs.Forecast.{settings_at, forecast_of, told_of as forecast_told}
use Rattle.reckon.specs.declared.reckon.Foretold.{Foretold}
use Rattle.reckon.specs.declared.reckon.Foretold.TheVariants.{Ends}
use Rattle.reckon.proofs.Demand.{forecast_holds}
use Rattle.totals.specs.Totals.{totals_of}
use Rattle.hear.specs.Join.{body_in}
use Rattle.sign.specs.Join.{sign_of, stays_of, join_of, release_of}
use Rattle.sign.specs.Receive.{receive_of}
use Rattle.sign.specs.Reset.{fresh_of, start_settings, power_on, cleared_of}
use Rattle.sign.specs.Sound.{sound_of}
use Rattle.sign.specs.Step.{step_of}
use Rattle.sign.specs.declared.Sign.{Sign}
use Rattle.repeater.specs.Repeat.{repeat_of}
use Rattle.service.specs.Good.{Roomy}
use Rattle.promises.specs.Bench.{hi, query7_f, w5}
use Rattle.promises.specs.Unit.{Wrote, ours, value_at}
use Rattle.promises.specs.Keeps.{Keeps}
use Rattle.promises.specs.Wrong.{refusing, eager, noisy, misled, misset, wary, hurried, sorry, rumour, hearsay, idle, scribbling, trusting, made_up, inventing, lenient, at_once, fixed, starting_over, shaken, forgetful, agreeable, deaf, orderly, surly, jumpy, frozen, sulking, drowsy, rosy, mute, parrot, dated, trailing, encore, counting, knowing, narrow, brief, hoarding, distracted, flustered}
use Rattle.promises.specs.Guard.{unguarded}
use Rattle.promises.proofs.Pins.{no_other_unit}
use Rattle.std.proofs.Common.{Result, Ok}
use Rattle.refusal.specs.declared.Fault.{Fault}
use Rattle.program.specs.Table.{known}

-- the settings that a sign is set to when it is switched on
usual : Settings
usual = settings_at 4 1

-- a sign that stands at the first command of a body
shows : List ℕ → Sign
shows b = sign_of (added_of no_completed 5) (body_in b) (started_of (length b) (start_settings 16 0))

-- its rooms have their sizes
roomy_on : Roomy power_on
unfolding no_completed last_of has_of added_of completed_sound fresh_of ready_of begun_of
roomy_on = record { ids = refl; lens = refl; room = refl }

roomy_w5 : Roomy (shows w5)
unfolding no_completed added_of shows started_of room_of laid
roomy_w5 = record { ids = refl; lens = refl; room = refl }

-- `^R`, and `^L2^W1^E`
again : List ℕ
again = 0x5E ∷ 0x52 ∷ []

twice : List ℕ
twice = 0x5E ∷ 0x4C ∷ 0x32 ∷ 0x5E ∷ 0x57 ∷ 0x31 ∷ 0x5E ∷ 0x45 ∷ []

-- 20 bytes of room
room20 : List ℕ
room20 = replicate 20 0

pub refusing_fails : Keeps refusing → ⊥
unfolding is_forbidden
refusing_fails k =
    let n : ◌≡◌ {A = ℕ} 1 0 = ap (λ (t : Told). t.number) (k.wire.reads.queried 0x80 refl) in
    omega arith

pub eager_fails : Keeps eager → ⊥
unfolding packet_of sum is_forbidden lowest_of read_of
eager_fails k =
    let n : ◌≡◌ {A = ℕ} 2 1 = ap (value_at 0) (k.wire.reads.queried 0x80 refl) in
    omega arith

nothing_read : read_of 0x80 [] ≡ Err TooFewBytes
unfolding is_forbidden lowest_of read_of
nothing_read = refl

pub noisy_fails : Keeps noisy → ⊥
unfolding is_forbidden
noisy_fails k =
    let n : ◌≡◌ {A = ℕ} 2 0 = ap (value_at 0) (k.wire.reads.refused 0x80 [] 1 refl (refused_lowest 0x80 [] TooFewBytes refl nothing_read)) in
    omega arith

query_bytes : Bytes query7_f
query_bytes = (omega arith, (omega arith, (omega arith, (omega arith, (omega arith, (omega arith, (omega arith, tt)))))))

-- the unit of version 1.1 takes 7Fh
pub unguarded_fails : Keeps unguarded → ⊥
unfolding sum is_forbidden lowest_of
unguarded_fails k =
    let n : ◌≡◌ {A = ℕ} 0 19 = ap (λ (t : Told). t.number) (k.guards.read 0x7F query7_f refl) in
    omega arith

pub misled_fails : Keeps misled → ⊥
unfolding sum is_forbidden lowest_of read_of
misled_fails k =
    let n : ◌≡◌ {A = ℕ} 19 5 = ap (λ (t : Told). t.number) ((no_other_unit misled k).read 0x80 query7_f query_bytes) in
    omega arith

pub sorry_fails : Keeps sorry → ⊥
unfolding room20 laid sum packet_of part_of is_forbidden
sorry_fails k =
    let n : ◌≡◌ {A = ℕ} 0x7F 0 = ap (λ (w : Wrote). get_or w.buffer 0 0) (k.guards.write 0x7F 5 hi 0 room20 refl) in
    omega arith

rumour_bytes : Bytes rumour
rumour_bytes = (omega arith, (omega arith, (omega arith, (omega arith, (omega arith, (omega arith, (omega arith, (omega arith, tt))))))))

-- no reply of a sign is the rumour
no_reply : (last : ℕ) (busy sink : Bool) → is_last last ≡ true → rumour ≡ reply_of 0x80 last busy sink → ⊥
unfolding reply_of
no_reply last busy sink known e =
    let z : 0x40 ≡ last = ap (λ (b : List ℕ). get_or b 3 0) e in
    let f : false ≡ true = ap is_last z ∙ known in
    let n : ◌≡◌ {A = ℕ} 0 1 = cc in
    omega arith

pub hearsay_fails : Keeps hearsay → ⊥
unfolding same_of is_forbidden
hearsay_fails k =
    let n : ◌≡◌ {A = ℕ} 0 35 = ap (λ (t : Told). t.number) (k.wire.hears.unheard 0x80 rumour refl rumour_bytes no_reply) in
    omega arith

pub idle_fails : Keeps idle → ⊥
unfolding room20 packet_of part_of is_forbidden
idle_fails k =
    let n : ◌≡◌ {A = ℕ} 0 12 = ap (λ (w : Wrote). value_at 0 w.told) ((no_other_unit idle k).write 0x80 5 hi 0 room20) in
    omega arith

pub scribbling_fails : Keeps scribbling → ⊥
unfolding room20 packet_of part_of is_forbidden
scribbling_fails k =
    let n : ◌≡◌ {A = ℕ} 34 0 = ap (λ (w : Wrote). w.told.number) ((no_other_unit scribbling k).write 0x80 5 hi 0 room20) in
    omega arith

pub trusting_fails : Keeps trusting → ⊥
unfolding judge_of
trusting_fails k =
    let n : ◌≡◌ {A = ℕ} 0 21 = ap (λ (t : Told). t.number) ((no_other_unit trusting k).judge []) in
    omega arith

foretold_w5 : forecast_of w5 4 1 ≡ Ok (Ends (totals_of 1 0 500) 4 1)
unfolding usual command_at judge_of settings_sound answer_of
foretold_w5 = forecast_holds w5 usual refl refl

pub inventing_fails : Keeps inventing → ⊥
inventing_fails k =
    let e : made_up (forecast_of w5 4 1) ≡ Ok (Ends (totals_of 1 1 500) 4 1) = ap made_up foretold_w5 in
    let n : ◌≡◌ {A = ℕ} 1 0 =
    sym (ap (λ (f : Result Foretold Fault). value_at 2 (forecast_told f)) e)
    ∙ ap (value_at 2) ((no_other_unit inventing k).forecast w5 4 1)
    ∙ ap (λ (f : Result Foretold Fault). value_at 2 (forecast_told f)) foretold_w5 in
    omega arith

pub lenient_fails : Keeps lenient → ⊥
unfolding forecast_of
lenient_fails k =
    let n : ◌≡◌ {A = ℕ} 0 17 = ap (λ (t : Told). t.number) ((no_other_unit lenient k).forecast [] 0 1) in
    omega arith

pub at_once_fails : Keeps at_once → ⊥
at_once_fails k =
    let n : ◌≡◌ {A = ℕ} 0 1 = ap (value_at 1) ((no_other_unit at_once k).forecast w5 4 1) ∙ ap (λ (f : Result Foretold Fault). value_at 1 (forecast_told f)) foretold_w5 in
    omega arith

pub fixed_fails : Keeps fixed → ⊥
unfolding no_completed last_of has_of added_of completed_sound fresh_of ready_of started_of cleared_of step_of run_step settle answer_of receive_of join_of release_of stays_of sound_of run_sound collection_sound judge_of command_at settings_sound room_of slots_of held_of joined_of same_of begun_of stored_of stand_of laid sum packet_of part_of packets_of reply_of is_forbidden lowest_of read_of heard_from heard_of repeat_of
fixed_fails k =
    let n : ◌≡◌ {A = ℕ} 1 3 = ap length ((no_other_unit fixed k).receive power_on roomy_on 0x80 (packet_at 0x80 5 w5 0)).body in
    omega arith

pub starting_over_fails : Keeps starting_over → ⊥
unfolding shows no_completed last_of has_of added_of completed_sound fresh_of ready_of started_of cleared_of step_of run_step settle answer_of receive_of join_of release_of stays_of sound_of run_sound collection_sound judge_of command_at settings_sound room_of slots_of held_of joined_of same_of begun_of stored_of stand_of laid sum packet_of part_of packets_of reply_of is_forbidden lowest_of read_of heard_from heard_of repeat_of
starting_over_fails k =
    let n : ◌≡◌ {A = ℕ} 0 3 = ap (λ (s : Sign). s.run.len) ((no_other_unit starting_over k).receive (shows w5) roomy_w5 0x80 []).next in
    omega arith

pub shaken_fails : Keeps shaken → ⊥
unfolding shows no_completed last_of has_of added_of completed_sound fresh_of ready_of started_of cleared_of step_of run_step settle answer_of receive_of join_of release_of stays_of sound_of run_sound collection_sound judge_of command_at settings_sound room_of slots_of held_of joined_of same_of begun_of stored_of stand_of laid sum packet_of part_of packets_of reply_of is_forbidden lowest_of read_of heard_from heard_of repeat_of
shaken_fails k =
    let n : ◌≡◌ {A = ℕ} 0 3 = ap (λ (s : Sign). s.run.len) ((no_other_unit shaken k).receive (shows w5) roomy_w5 0x80 []).next in
    omega arith

pub forgetful_fails : Keeps forgetful → ⊥
unfolding no_completed last_of has_of added_of completed_sound fresh_of ready_of started_of cleared_of step_of run_step settle answer_of receive_of join_of release_of stays_of sound_of run_sound collection_sound judge_of command_at settings_sound room_of slots_of held_of joined_of same_of begun_of stored_of stand_of laid sum packet_of part_of packets_of reply_of is_forbidden lowest_of read_of heard_from heard_of repeat_of
forgetful_fails k =
    let n : ◌≡◌ {A = ℕ} 0x41 5 = ap (λ (s : Sign). last_of s.completed) ((no_other_unit forgetful k).receive power_on roomy_on 0x80 (packet_at 0x80 5 w5 0)).next in
    omega arith

-- a sign that has completed 1, then 2, then 3
after_three : Sign
after_three = knowing (added_of (added_of (added_of no_completed 1) 2) 3) power_on

roomy_three : Roomy after_three
unfolding after_three no_completed added_of fresh_of ready_of begun_of
roomy_three = record { ids = refl; lens = refl; room = refl }

pub narrow_fails : Keeps narrow → ⊥
unfolding after_three no_completed last_of has_of added_of completed_sound fresh_of ready_of started_of cleared_of step_of run_step settle answer_of receive_of join_of release_of stays_of sound_of run_sound collection_sound judge_of command_at settings_sound room_of slots_of held_of joined_of same_of begun_of stored_of stand_of laid sum packet_of part_of packets_of reply_of is_forbidden lowest_of read_of heard_from heard_of repeat_of
narrow_fails k =
    let n : ◌≡◌ {A = ℕ} 5 3 = ap (value_at 0) ((no_other_unit narrow k).receive after_three roomy_three 0x80 (packet_at 0x80 1 w5 0)).told in
    omega arith

pub hoarding_fails : Keeps hoarding → ⊥
unfolding after_three no_completed last_of has_of added_of completed_sound fresh_of ready_of started_of cleared_of step_of run_step settle answer_of receive_of join_of release_of stays_of sound_of run_sound collection_sound judge_of command_at settings_sound room_of slots_of held_of joined_of same_of begun_of stored_of stand_of laid sum packet_of part_of packets_of reply_of is_forbidden lowest_of read_of heard_from heard_of repeat_of
hoarding_fails k =
    let n : ◌≡◌ {A = ℕ} 3 5 =
    ap (value_at 0) ((no_other_unit hoarding k).receive (record { sign = after_three; older = 7 ∷ [] }) roomy_three 0x80 (packet_at 0x80 7 w5 0)).told in
    omega arith

pub brief_fails : Keeps brief → ⊥
unfolding after_three no_completed last_of has_of added_of completed_sound fresh_of ready_of started_of cleared_of step_of run_step settle answer_of receive_of join_of release_of stays_of sound_of run_sound collection_sound judge_of command_at settings_sound room_of slots_of held_of joined_of same_of begun_of stored_of stand_of laid sum packet_of part_of packets_of reply_of is_forbidden lowest_of read_of heard_from heard_of repeat_of
brief_fails k =
    let n : ◌≡◌ {A = ℕ} 3 4 = ap (λ (s : Sign). s.completed.count) ((no_other_unit brief k).receive after_three roomy_three 0x80 (packet_at 0x80 4 w5 0)).next in
    omega arith

pub distracted_fails : Keeps distracted → ⊥
unfolding after_three no_completed last_of has_of added_of completed_sound fresh_of ready_of started_of cleared_of step_of run_step settle answer_of receive_of join_of release_of stays_of sound_of run_sound collection_sound judge_of command_at settings_sound room_of slots_of held_of joined_of same_of begun_of stored_of stand_of laid sum packet_of part_of packets_of reply_of is_forbidden lowest_of read_of heard_from heard_of repeat_of
distracted_fails k =
    let n : ◌≡◌ {A = ℕ} 0x41 3 = ap (λ (s : Sign). last_of s.completed) ((no_other_unit distracted k).receive after_three roomy_three 0x80 (query_of 0x80)).next in
    omega arith

pub flustered_fails : Keeps flustered → ⊥
unfolding after_three no_completed last_of has_of added_of completed_sound fresh_of ready_of started_of cleared_of step_of run_step settle answer_of receive_of join_of release_of stays_of sound_of run_sound collection_sound judge_of command_at settings_sound room_of slots_of held_of joined_of same_of begun_of stored_of stand_of laid sum packet_of part_of packets_of reply_of is_forbidden lowest_of read_of heard_from heard_of repeat_of
flustered_fails k =
    let n : ◌≡◌ {A = ℕ} 1 3 = ap (λ (s : Sign). last_of s.completed) ((no_other_unit flustered k).receive after_three roomy_three 0x80 (packet_at 0x80 1 w5 0)).next in
    omega arith

-- a body of two packets, and one that differs in its first byte
long : ℕ → List ℕ
long x = x ∷ replicate 19 0x20

-- a sign that has its first packet
collecting : Sign
collecting = (ours.receive power_on 0x80 (packet_at 0x80 5 (long 0x5E) 0)).next

roomy_collecting : Roomy collecting
unfolding collecting long no_completed last_of has_of added_of completed_sound fresh_of ready_of started_of cleared_of step_of run_step settle answer_of receive_of join_of release_of stays_of sound_of run_sound collection_sound judge_of command_at settings_sound room_of slots_of held_of joined_of same_of begun_of stored_of stand_of laid sum packet_of part_of packets_of reply_of is_forbidden lowest_of read_of heard_from heard_of repeat_of
roomy_collecting = record { ids = refl; lens = refl; room = refl }

pub agreeable_fails : Keeps agreeable → ⊥
unfolding collecting long no_completed last_of has_of added_of completed_sound fresh_of ready_of started_of cleared_of step_of run_step settle answer_of receive_of join_of release_of stays_of sound_of run_sound collection_sound judge_of command_at settings_sound room_of slots_of held_of joined_of same_of begun_of stored_of stand_of laid sum packet_of part_of packets_of reply_of is_forbidden lowest_of read_of heard_from heard_of repeat_of
agreeable_fails k =
    let n : ◌≡◌ {A = ℕ} 0 13 = ap (λ (t : Told). t.number) ((no_other_unit agreeable k).receive collecting roomy_collecting 0x80 (packet_at 0x80 5 (long 0x5F) 0)).told in
    omega arith

pub deaf_fails : Keeps deaf → ⊥
unfolding no_completed last_of has_of added_of completed_sound fresh_of ready_of started_of cleared_of step_of run_step settle answer_of receive_of join_of release_of stays_of sound_of run_sound collection_sound judge_of command_at settings_sound room_of slots_of held_of joined_of same_of begun_of stored_of stand_of laid sum packet_of part_of packets_of reply_of is_forbidden lowest_of read_of heard_from heard_of repeat_of
deaf_fails k =
    let n : ◌≡◌ {A = ℕ} 0 5 = ap (λ (t : Told). t.number) ((no_other_unit deaf k).receive power_on roomy_on 0x81 (packet_at 0x80 5 w5 0)).told in
    omega arith

pub misset_fails : Keeps misset → ⊥
unfolding no_completed last_of has_of added_of completed_sound fresh_of ready_of started_of cleared_of step_of run_step settle answer_of receive_of join_of release_of stays_of sound_of run_sound collection_sound judge_of command_at settings_sound room_of slots_of held_of joined_of same_of begun_of stored_of stand_of laid sum packet_of part_of packets_of reply_of is_forbidden lowest_of read_of heard_from heard_of repeat_of
misset_fails k =
    let n : ◌≡◌ {A = ℕ} 19 5 = ap (λ (t : Told). t.number) ((no_other_unit misset k).receive power_on roomy_on 0x80 query7_f).told in
    omega arith

pub wary_fails : Keeps wary → ⊥
unfolding no_completed last_of has_of added_of completed_sound fresh_of ready_of started_of cleared_of step_of run_step settle answer_of receive_of join_of release_of stays_of sound_of run_sound collection_sound judge_of command_at settings_sound room_of slots_of held_of joined_of same_of begun_of stored_of stand_of laid sum packet_of part_of packets_of reply_of is_forbidden lowest_of read_of heard_from heard_of repeat_of
wary_fails k =
    let n : ◌≡◌ {A = ℕ} 19 0 = ap (λ (t : Told). t.number) ((no_other_unit wary k).receive power_on roomy_on 0x7D (query_of 0x7D)).told in
    omega arith

-- a sign that has completed the ID of a query, which is not sound
queried : Sign
queried = record { completed = added_of no_completed 0x40; slots = power_on.slots; room = power_on.room; run = power_on.run }

pub hurried_fails : Keeps hurried → ⊥
unfolding queried no_completed last_of has_of added_of completed_sound fresh_of ready_of started_of cleared_of step_of run_step settle answer_of receive_of join_of release_of stays_of sound_of run_sound collection_sound judge_of command_at settings_sound room_of slots_of held_of joined_of same_of begun_of stored_of stand_of laid sum packet_of part_of packets_of reply_of is_forbidden lowest_of read_of heard_from heard_of repeat_of
hurried_fails k =
    let n : ◌≡◌ {A = ℕ} 19 16 = ap (λ (t : Told). t.number) (k.safe.receive_unsound queried 0x7F [] refl) in
    omega arith

pub orderly_fails : Keeps orderly → ⊥
unfolding long no_completed last_of has_of added_of completed_sound fresh_of ready_of started_of cleared_of step_of run_step settle answer_of receive_of join_of release_of stays_of sound_of run_sound collection_sound judge_of command_at settings_sound room_of slots_of held_of joined_of same_of begun_of stored_of stand_of laid sum packet_of part_of packets_of reply_of is_forbidden lowest_of read_of heard_from heard_of repeat_of
orderly_fails k =
    let n : ◌≡◌ {A = ℕ} 13 0 = ap (λ (t : Told). t.number) ((no_other_unit orderly k).receive power_on roomy_on 0x80 (packet_at 0x80 5 (long 0x5E) 1)).told in
    omega arith

pub surly_fails : Keeps surly → ⊥
unfolding no_completed last_of has_of added_of completed_sound fresh_of ready_of started_of cleared_of step_of run_step settle answer_of receive_of join_of release_of stays_of sound_of run_sound collection_sound judge_of command_at settings_sound room_of slots_of held_of joined_of same_of begun_of stored_of stand_of laid sum packet_of part_of packets_of reply_of is_forbidden lowest_of read_of heard_from heard_of repeat_of
surly_fails k =
    let n : ◌≡◌ {A = ℕ} 99 0 = ap (λ (t : Told). t.number) ((no_other_unit surly k).receive power_on roomy_on 0x80 (query_of 0x80)).told in
    omega arith

pub jumpy_fails : Keeps jumpy → ⊥
unfolding no_completed last_of has_of added_of completed_sound fresh_of ready_of started_of cleared_of step_of run_step settle answer_of receive_of join_of release_of stays_of sound_of run_sound collection_sound judge_of command_at settings_sound room_of slots_of held_of joined_of same_of begun_of stored_of stand_of laid sum packet_of part_of packets_of reply_of is_forbidden lowest_of read_of heard_from heard_of repeat_of
jumpy_fails k =
    let n : ◌≡◌ {A = ℕ} 0 1 = ap (λ (t : Told). t.number) ((no_other_unit jumpy k).receive power_on roomy_on 0x80 []).told in
    omega arith

pub frozen_fails : Keeps frozen → ⊥
unfolding shows no_completed last_of has_of added_of completed_sound fresh_of ready_of started_of cleared_of step_of run_step settle answer_of receive_of join_of release_of stays_of sound_of run_sound collection_sound judge_of command_at settings_sound room_of slots_of held_of joined_of same_of begun_of stored_of stand_of laid sum packet_of part_of packets_of reply_of is_forbidden lowest_of read_of heard_from heard_of repeat_of
frozen_fails k =
    let n : ◌≡◌ {A = ℕ} 5 0x41 = ap (λ (s : Sign). last_of s.completed) ((no_other_unit frozen k).clear (shows w5) roomy_w5).next in
    omega arith

roomy_again : Roomy (shows again)
unfolding no_completed added_of shows again started_of room_of laid
roomy_again = record { ids = refl; lens = refl; room = refl }

pub sulking_fails : Keeps sulking → ⊥
unfolding shows again no_completed last_of has_of added_of completed_sound fresh_of ready_of started_of cleared_of step_of run_step settle answer_of receive_of join_of release_of stays_of sound_of run_sound collection_sound judge_of command_at settings_sound room_of slots_of held_of joined_of same_of begun_of stored_of stand_of laid sum packet_of part_of packets_of reply_of is_forbidden lowest_of read_of heard_from heard_of repeat_of
sulking_fails k =
    let n : ◌≡◌ {A = ℕ} 16 0 = ap (λ (t : Told). t.number) ((no_other_unit sulking k).step (shows again) roomy_again).told in
    omega arith

-- `^II~CA`, and `^IIA~b`
compact : List ℕ
compact = 0x5E ∷ 0x49 ∷ 0x49 ∷ 0x7E ∷ 0x43 ∷ 0x41 ∷ []

switching : List ℕ
switching = 0x5E ∷ 0x49 ∷ 0x49 ∷ 0x41 ∷ 0x7E ∷ 0x62 ∷ []

roomy_compact : Roomy (shows compact)
unfolding no_completed added_of shows compact started_of room_of laid
roomy_compact = record { ids = refl; lens = refl; room = refl }

roomy_switching : Roomy (shows switching)
unfolding no_completed added_of shows switching started_of room_of laid
roomy_switching = record { ids = refl; lens = refl; room = refl }

pub dated_fails : Keeps dated → ⊥
unfolding compact shows no_completed last_of has_of added_of completed_sound fresh_of ready_of started_of cleared_of step_of run_step settle answer_of receive_of join_of release_of stays_of sound_of run_sound collection_sound judge_of command_at settings_sound room_of slots_of held_of joined_of same_of begun_of stored_of stand_of laid sum packet_of part_of packets_of reply_of is_forbidden lowest_of read_of heard_from heard_of repeat_of
dated_fails k =
    let n : ◌≡◌ {A = ℕ} 45 46 = ap (value_at 4) ((no_other_unit dated k).step (shows compact) roomy_compact).told in
    omega arith

pub trailing_fails : Keeps trailing → ⊥
unfolding switching shows no_completed last_of has_of added_of completed_sound fresh_of ready_of started_of cleared_of step_of run_step settle answer_of receive_of join_of release_of stays_of sound_of run_sound collection_sound judge_of command_at settings_sound room_of slots_of held_of joined_of same_of begun_of stored_of stand_of laid sum packet_of part_of packets_of reply_of is_forbidden lowest_of read_of heard_from heard_of repeat_of
trailing_fails k =
    let n : ◌≡◌ {A = ℕ} 46 45 = ap (value_at 4) ((no_other_unit trailing k).step (shows switching) roomy_switching).told in
    omega arith

-- a sign whose line has ended
ended : Sign
ended = (ours.step (shows w5)).next

roomy_ended : Roomy ended
unfolding ended shows no_completed last_of has_of added_of completed_sound fresh_of ready_of started_of cleared_of step_of run_step settle answer_of receive_of join_of release_of stays_of sound_of run_sound collection_sound judge_of command_at settings_sound room_of slots_of held_of joined_of same_of begun_of stored_of stand_of laid sum packet_of part_of packets_of reply_of is_forbidden lowest_of read_of heard_from heard_of repeat_of
roomy_ended = record { ids = refl; lens = refl; room = refl }

pub drowsy_fails : Keeps drowsy → ⊥
unfolding ended shows no_completed last_of has_of added_of completed_sound fresh_of ready_of started_of cleared_of step_of run_step settle answer_of receive_of join_of release_of stays_of sound_of run_sound collection_sound judge_of command_at settings_sound room_of slots_of held_of joined_of same_of begun_of stored_of stand_of laid sum packet_of part_of packets_of reply_of is_forbidden lowest_of read_of heard_from heard_of repeat_of
drowsy_fails k =
    let n : ◌≡◌ {A = ℕ} 0x41 5 = ap (λ (s : Sign). last_of s.completed) ((no_other_unit drowsy k).step ended roomy_ended).next in
    omega arith

pub rosy_fails : Keeps rosy → ⊥
unfolding shows room20 no_completed last_of has_of added_of completed_sound fresh_of ready_of started_of cleared_of step_of run_step settle answer_of receive_of join_of release_of stays_of sound_of run_sound collection_sound judge_of command_at settings_sound room_of slots_of held_of joined_of same_of begun_of stored_of stand_of laid sum packet_of part_of packets_of reply_of is_forbidden lowest_of read_of heard_from heard_of repeat_of
rosy_fails k =
    let n : ◌≡◌ {A = ℕ} 0x52 0x42 = ap (λ (w : Wrote). get_or w.buffer 4 0) ((no_other_unit rosy k).reply (shows w5) roomy_w5 0x80 false room20) in
    omega arith

pub mute_fails : Keeps mute → ⊥
unfolding shows room20 no_completed last_of has_of added_of completed_sound fresh_of ready_of started_of cleared_of step_of run_step settle answer_of receive_of join_of release_of stays_of sound_of run_sound collection_sound judge_of command_at settings_sound room_of slots_of held_of joined_of same_of begun_of stored_of stand_of laid sum packet_of part_of packets_of reply_of is_forbidden lowest_of read_of heard_from heard_of repeat_of
mute_fails k =
    let n : ◌≡◌ {A = ℕ} 0 3 = ap (λ (w : Wrote). value_at 0 w.told) ((no_other_unit mute k).copy (shows w5) roomy_w5 room20) in
    omega arith

pub parrot_fails : Keeps parrot → ⊥
unfolding repeat_of
parrot_fails k =
    let n : ◌≡◌ {A = ℕ} 0 1 = ap length ((no_other_unit parrot k).repeat w5 1 1 []) in
    omega arith

pub encore_fails : Keeps encore → ⊥
unfolding no_completed last_of has_of added_of completed_sound fresh_of ready_of started_of cleared_of step_of run_step settle answer_of receive_of join_of release_of stays_of sound_of run_sound collection_sound judge_of command_at settings_sound room_of slots_of held_of joined_of same_of begun_of stored_of stand_of laid sum packet_of part_of packets_of reply_of is_forbidden lowest_of read_of heard_from heard_of repeat_of
encore_fails k =
    let n : ◌≡◌ {A = ℕ} 13 0 = ap (value_at 0) ((no_other_unit encore k).step (record { sign = power_on; line = w5 }) roomy_on).told in
    omega arith

-- a sign in the second pass of a loop
passed : Sign
passed = (ours.step (ours.step (ours.step (shows twice)).next).next).next

roomy_passed : Roomy passed
unfolding passed shows twice no_completed last_of has_of added_of completed_sound fresh_of ready_of started_of cleared_of step_of run_step settle answer_of receive_of join_of release_of stays_of sound_of run_sound collection_sound judge_of command_at settings_sound room_of slots_of held_of joined_of same_of begun_of stored_of stand_of laid sum packet_of part_of packets_of reply_of is_forbidden lowest_of read_of heard_from heard_of repeat_of
roomy_passed = record { ids = refl; lens = refl; room = refl }

pub counting_fails : Keeps counting → ⊥
unfolding passed shows twice no_completed last_of has_of added_of completed_sound fresh_of ready_of started_of cleared_of step_of run_step settle answer_of receive_of join_of release_of stays_of sound_of run_sound collection_sound judge_of command_at settings_sound room_of slots_of held_of joined_of same_of begun_of stored_of stand_of laid sum packet_of part_of packets_of reply_of is_forbidden lowest_of read_of heard_from heard_of repeat_of
counting_fails k =
    let n : ◌≡◌ {A = ℕ} 0 13 = ap (value_at 0) ((no_other_unit counting k).step (record { sign = passed; script = [] }) roomy_passed).told in
    omega arith
