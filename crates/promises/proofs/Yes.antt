-- Yes and no are told apart: no refusal has the number 0, so a caller who finds 0 in the low byte of a result was not refused.
use Prim.Native.Nat.{ℕ, ◌<◌}
use mathlib.Core.Bool.{Bool, true, false}
use mathlib.Core.List.{List}
use mathlib.Core.Path.{◌≡◌, sym, ap, ◌∙◌}
use native.Mathlib.Omega.{arith}
use lib.Dec.{eqb}
use lib.ListN.{get_or}
use Rattle.basis.specs.Choice.{when}
use Rattle.packet.specs.Mid.{Allowed}
use Rattle.reply.specs.Reply.{heard_of, heard_from, is_reply, is_told, status}
use Rattle.reply.proofs.Replies.{heard_passes}
use Rattle.reader.specs.Read.{read_of}
use Rattle.refusal.specs.Refusal.{number_of}
use Rattle.refusal.proofs.Names.{number_some}
use Rattle.std.specs.Prelude.{Err}
use Rattle.refusal.specs.declared.Refusal.{Refusal as No}
use Rattle.refusal.specs.declared.Refusal.TheVariants.{NoReply}
use Rattle.judge.specs.Verdict.{judge_of}
use Rattle.reckon.specs.Forecast.{forecast_of}
use Rattle.sign.specs.Receive.{receive_of}
use Rattle.sign.specs.Reset.{cleared_of}
use Rattle.sign.specs.Step.{step_of}
use Rattle.sign.specs.declared.Sign.{Sign}
use Rattle.std.proofs.Common.{Err}
use Rattle.refusal.specs.declared.Fault.{Fault}

-- a packet that is refused has a number
pub read_no_lem : (mid : ℕ) (b : List ℕ) (e : No) → read_of mid b ≡ Err e → 0 < number_of e
read_no_lem mid b e q = number_some e

-- a reply is refused with 35 alone, where its MID is not forbidden
told_35 : (t u : Bool) (l : ℕ) (b c : Bool) (e : No) → when t (when u (status l b c) (Err NoReply)) (Err NoReply) ≡ Err e → NoReply ≡ e
told_35 true true l b c e q = let z : ◌≡◌ {A = ℕ} 0 1 = cc in absurd (omega arith)
told_35 true false l b c e q = cc
told_35 false u l b c e q = cc

pub unheard_35 : (mid : ℕ) (b : List ℕ) (e : No) → Allowed mid → heard_of mid b ≡ Err e → 35 ≡ number_of e
unfolding heard_from
unheard_35 mid b e allowed q =
    ap number_of
    (told_35 (is_reply mid b) (is_told (get_or b 3 0) (get_or b 4 0) (get_or b 5 0)) (get_or b 3 0) (eqb (get_or b 4 0) 0x42) (eqb (get_or b 5 0) 0x53) e
    (sym (heard_passes mid b allowed) ∙ q))

pub heard_no : (mid : ℕ) (b : List ℕ) (e : No) → heard_of mid b ≡ Err e → 0 < number_of e
heard_no mid b e q = number_some e

-- a refused body has a number
pub judge_no : (b : List ℕ) (w : Fault) → judge_of b ≡ Err w → 0 < number_of w.refusal
judge_no b w e = number_some w.refusal

-- a refused forecast too
pub forecast_no : (b : List ℕ) (pace each : ℕ) (w : Fault) → forecast_of b pace each ≡ Err w → 0 < number_of w.refusal
forecast_no b pace each w e = number_some w.refusal

-- a refused step, and a refused reset, have a number
pub step_no_lem : (s : Sign) (e : No) → (step_of s).answer ≡ Err e → 0 < number_of e
step_no_lem s e q = number_some e

pub reset_no_lem : (s : Sign) (e : No) → (cleared_of s).outcome ≡ Err e → 0 < number_of e
reset_no_lem s e q = number_some e

-- bytes that are refused have a number
pub receive_no_lem : (s : Sign) (mid : ℕ) (b : List ℕ) (e : No) → (receive_of s mid b).outcome ≡ Err e → 0 < number_of e
receive_no_lem s mid b e q = number_some e
