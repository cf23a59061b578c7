-- An answer in the rules' numbers names the answer: two that are told alike are one.
use Prim.Native.Nat.{ℕ}
use mathlib.Core.Bool.{Bool, true, false}
use mathlib.Core.Path.{◌≡◌, refl, sym, ap, subst, ◌∙◌}
use native.Mathlib.Omega.{arith}
use lib.ListN.{length}
use Rattle.basis.specs.Told.{Told, no, flag_of}
use Rattle.std.specs.Prelude.{Result, Ok, Err}
use Rattle.refusal.specs.Refusal.{refusal_of, number_of, Named}
use Rattle.refusal.proofs.Names.{name_back, number_named}
use Rattle.refusal.specs.declared.Refusal.{Refusal}
use Rattle.reader.specs.Read.{told_of as read_told}
use Rattle.reader.specs.declared.read.Packet.{Packet}
use Rattle.reader.specs.declared.read.Packet.TheVariants.{Query, Reset, Normal}
use Rattle.reply.specs.Reply.{told_of as status_told, status}
use Rattle.reply.specs.declared.Status.{Status}
use Rattle.judge.specs.Verdict.{Verdict, told_of as verdict_told}
use Rattle.judge.specs.declared.Ending.TheVariants.{Finite, Endless}
use Rattle.std.proofs.Common.{Ok, Err}
use Rattle.promises.specs.Unit.{value_at}

-- what a packet was read as
pub query_told : (x : Result Packet Refusal) → read_told x ≡ read_told (Ok Query) → x ≡ Ok Query
query_told (Ok Query) e = refl
query_told (Ok Reset) e = let n : ◌≡◌ {A = ℕ} 2 1 = ap (value_at 0) e in absurd (omega arith)
query_told (Ok (Normal id total position len)) e = let n : ◌≡◌ {A = ℕ} 3 1 = ap (value_at 0) e in absurd (omega arith)
query_told (Err x) e = let n : ◌≡◌ {A = ℕ} 0 1 = ap (value_at 0) e in absurd (omega arith)

pub reset_told : (x : Result Packet Refusal) → read_told x ≡ read_told (Ok Reset) → x ≡ Ok Reset
reset_told (Ok Reset) e = refl
reset_told (Ok Query) e = let n : ◌≡◌ {A = ℕ} 1 2 = ap (value_at 0) e in absurd (omega arith)
reset_told (Ok (Normal id total position len)) e = let n : ◌≡◌ {A = ℕ} 3 2 = ap (value_at 0) e in absurd (omega arith)
reset_told (Err x) e = let n : ◌≡◌ {A = ℕ} 0 2 = ap (value_at 0) e in absurd (omega arith)

pub normal_told : (x : Result Packet Refusal) (id total position len : ℕ) → read_told x ≡ read_told (Ok (Normal id total position len)) → x ≡ Ok (Normal id total position len)
normal_told (Ok (Normal a b c d)) id total position len e =
    ap (λ (x : ℕ). Ok (Normal x b c d)) (ap (value_at 1) e)
    ∙ ap (λ (x : ℕ). Ok (Normal id x c d)) (ap (value_at 2) e)
    ∙ ap (λ (x : ℕ). Ok (Normal id total x d)) (ap (value_at 3) e)
    ∙ ap (λ (x : ℕ). Ok (Normal id total position x)) (ap (value_at 4) e)
normal_told (Ok Query) id total position len e = let n : ◌≡◌ {A = ℕ} 1 3 = ap (value_at 0) e in absurd (omega arith)
normal_told (Ok Reset) id total position len e = let n : ◌≡◌ {A = ℕ} 2 3 = ap (value_at 0) e in absurd (omega arith)
normal_told (Err x) id total position len e = let n : ◌≡◌ {A = ℕ} 0 3 = ap (value_at 0) e in absurd (omega arith)

pub refused_told : (x : Result Packet Refusal) (k : ℕ) → read_told x ≡ no k → (x ≡ Err (refusal_of k)) × Named k
refused_told (Err x) k e =
    let n : number_of x ≡ k = ap (λ (t : Told). t.number) e in
    (ap (λ (y : Refusal). Err y) (sym (name_back x) ∙ ap refusal_of n), subst Named n (number_named x))
refused_told (Ok Query) k e = let n : ◌≡◌ {A = ℕ} 1 0 = ap (value_at 0) e in absurd (omega arith)
refused_told (Ok Reset) k e = let n : ◌≡◌ {A = ℕ} 2 0 = ap (value_at 0) e in absurd (omega arith)
refused_told (Ok (Normal a b c d)) k e = let n : ◌≡◌ {A = ℕ} 3 0 = ap (value_at 0) e in absurd (omega arith)

-- what a reply told
flag_told : (x y : Bool) → flag_of x ≡ flag_of y → x ≡ y
flag_told true true e = refl
flag_told false false e = refl
flag_told true false e = absurd (omega arith)
flag_told false true e = absurd (omega arith)

pub heard_told : (x : Result Status Refusal) (last : ℕ) (busy sink : Bool) → status_told x ≡ status_told (status last busy sink) → x ≡ status last busy sink
heard_told (Ok s) last busy sink e =
    ap (λ (x : ℕ). status x s.busy s.sink) (ap (value_at 0) e)
    ∙ ap (λ (x : Bool). status last x s.sink) (flag_told s.busy busy (ap (value_at 1) e))
    ∙ ap (λ (x : Bool). status last busy x) (flag_told s.sink sink (ap (value_at 2) e))
heard_told (Err x) last busy sink e =
    let n : ◌≡◌ {A = ℕ} 0 3 = ap (λ (t : Told). length t.values) e in
    absurd (omega arith)

-- what a body was judged
pub finite_told : (x : Verdict) → verdict_told x ≡ verdict_told (Ok Finite) → x ≡ Ok Finite
finite_told (Ok Finite) e = refl
finite_told (Ok Endless) e = let n : ◌≡◌ {A = ℕ} 1 0 = ap (value_at 0) e in absurd (omega arith)
finite_told (Err w) e = let n : ◌≡◌ {A = ℕ} 0 1 = ap (λ (t : Told). length t.values) e in absurd (omega arith)

pub endless_told : (x : Verdict) → verdict_told x ≡ verdict_told (Ok Endless) → x ≡ Ok Endless
endless_told (Ok Endless) e = refl
endless_told (Ok Finite) e = let n : ◌≡◌ {A = ℕ} 0 1 = ap (value_at 0) e in absurd (omega arith)
endless_told (Err w) e = let n : ◌≡◌ {A = ℕ} 0 1 = ap (value_at 0) e in absurd (omega arith)
