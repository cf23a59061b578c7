-- Ours never trips.
use Prim.Native.Nat.{ℕ, zero, suc}
use mathlib.Core.Bool.{Bool, false, not}
use mathlib.Core.List.{List, [], ◌∷◌}
use mathlib.Core.Path.{◌≡◌, refl, sym, ap}
use Rattle.basis.specs.Choice.{when}
use Rattle.basis.specs.Rows.{Row, first_of}
use Rattle.basis.specs.Told.{no}
use Rattle.std.specs.Prelude.{Result, Ok, Err, Option}
use Rattle.perform.specs.declared.price.Performed.{Performed}
use Rattle.refusal.specs.Refusal.{refusal_of}
use Rattle.refusal.proofs.Names.{name_back}
use Rattle.refusal.specs.declared.Refusal.{Refusal}
use Rattle.refusal.specs.declared.Refusal.TheVariants.{Unsound}
use Rattle.packet.specs.Mid.{mid_row}
use Rattle.packet.specs.Wire.{query_of, reset_of as reset_packet, packet_at, transmission_of, reply_of}
use Rattle.packet.specs.Write.{short_by, packet_rows, transmission_rows, buffer_of, written_of}
use Rattle.reply.specs.Reply.{reply_rows}
use Rattle.machine.specs.Step.{told_of as answer_told}
use Rattle.hear.specs.Hear.{told_of as outcome_told}
use Rattle.hear.specs.declared.Outcome.{Outcome}
use Rattle.hear.specs.declared.Outcome.TheVariants.{Reset}
use Rattle.sign.specs.Join.{stays_of}
use Rattle.sign.specs.Receive.{receive_of}
use Rattle.sign.specs.Reset.{reset_of, cleared_of}
use Rattle.sign.specs.Sound.{sound_of}
use Rattle.sign.specs.Step.{step_of}
use Rattle.sign.specs.Tell.{says_of, running_body, told_rows, says_rows, copy_rows}
use Rattle.sign.specs.declared.Sign.{Sign}
use Rattle.sign.specs.declared.Received.{Received}
use Rattle.sign.specs.declared.Stepped.{Stepped}
use Rattle.sign.specs.declared.Cleared.{Cleared}
use Rattle.sign.proofs.Joining.{unsound_receives}
use Rattle.sign.proofs.Stepping.{unsound_steps}
use Rattle.service.specs.Driver.{moves_of}
use Rattle.service.proofs.Keeps.{power_good, receive_good, step_good, cleared_good}
use Rattle.service.proofs.Driver.{receive_still, receive_none, step_still, reset_still}
use Rattle.promises.specs.Unit.{left_by, ours, heard_in, stepped_in, cleared_in}
use Rattle.promises.specs.Safe.{Leaves, NoTrip}

-- an outcome, or a step's answer, that is told with a number is that refusal
pub refused_is : (o : Result Outcome Refusal) → ((outcome_told o).number ≡ 0 → ⊥) → o ≡ Err (refusal_of (outcome_told o).number)
refused_is (Ok x) h = absurd (h refl)
refused_is (Err e) h = ap (λ (x : Refusal). Err x) (sym (name_back e))

stopped_is : (a : Result (Option Performed) Refusal) → ((answer_told a).number ≡ 0 → ⊥) → a ≡ Err (refusal_of (answer_told a).number)
stopped_is (Ok x) h = absurd (h refl)
stopped_is (Err e) h = ap (λ (x : Refusal). Err x) (sym (name_back e))

-- a writer of ours that refuses leaves the buffer
leaves : (rows : List ℕ → List Row) (bytes : List ℕ) → Leaves (λ out. left_by (rows out) bytes out)
leaves rows bytes out h = go (first_of (rows out)) h
  where
    go : (k : ℕ) → ((written_of k bytes).number ≡ 0 → ⊥) → buffer_of k bytes out ≡ out
    go zero w = absurd (w refl)
    go (suc k) w = refl

-- an unsound record is 16 before all else
sixteen : (s : Sign) (rows : List Row) (bytes out : List ℕ) → sound_of s ≡ false → (left_by (told_rows s rows) bytes out).told ≡ no 16
sixteen s rows bytes out e = ap (λ (t : Bool). written_of (when (not t) 16 (first_of rows)) bytes) e

unsound_clears : (s : Sign) → sound_of s ≡ false → (cleared_in (cleared_of s)).told ≡ no 16
unfolding cleared_of
unsound_clears s e = ap (λ (t : Bool). (cleared_in (whether t)).told) e
  where
    whether : Bool → Cleared
    whether t = when t (record { sign = reset_of s; outcome = Ok Reset }) (record { sign = s; outcome = Err Unsound })

pub ours_never_trips : NoTrip ours
unfolding stays_of
ours_never_trips =
    record {
      begins = power_good;
      received = receive_good;
      stepped = step_good;
      cleared = cleared_good;
      receive_leaves = λ s mid b h. receive_still s mid b (ap moves_of (refused_is (receive_of s mid b).outcome h));
      receive_empty = λ s mid b h. receive_none s mid b (ap moves_of (refused_is (receive_of s mid b).outcome h));
      step_leaves = λ s h. step_still s (refusal_of (answer_told (step_of s).answer).number) (stopped_is (step_of s).answer h);
      clear_leaves = λ s h. reset_still s (refusal_of (outcome_told (cleared_of s).outcome).number) (refused_is (cleared_of s).outcome h);
      query_leaves = λ mid. leaves (λ out. mid_row mid ∷ short_by (query_of mid) out ∷ []) (query_of mid);
      reset_leaves = λ mid. leaves (λ out. mid_row mid ∷ short_by (reset_packet mid) out ∷ []) (reset_packet mid);
      write_leaves = λ mid id body position. leaves (λ out. mid_row mid ∷ packet_rows mid id body position out) (packet_at mid id body position);
      transmit_leaves = λ mid id body. leaves (λ out. mid_row mid ∷ transmission_rows mid id body out) (transmission_of mid id body);
      answer_leaves = λ mid last busy sink. leaves (λ out. mid_row mid ∷ reply_rows mid last busy sink out) (reply_of mid last busy sink);
      reply_leaves = λ s mid sink. leaves (says_rows s mid sink) (says_of s mid sink);
      copy_leaves = λ s. leaves (copy_rows s) (running_body s);
      receive_unsound = λ s mid b e. ap (λ (r : Received). (heard_in r).told) (unsound_receives s mid b e);
      step_unsound = λ s e. ap (λ (r : Stepped). (stepped_in r).told) (unsound_steps s e);
      clear_unsound = unsound_clears;
      reply_unsound = λ s mid sink out e. sixteen s (mid_row mid ∷ short_by (says_of s mid sink) out ∷ []) (says_of s mid sink) out e;
      copy_unsound = λ s out e. sixteen s (short_by (running_body s) out ∷ []) (running_body s) out e;
    }
