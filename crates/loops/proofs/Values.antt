-- What a command's values are held to: the number and size of an `L`, and an act's number, text and widths.
use Prim.Native.Nat.{ℕ, ◌+◌, ◌*◌, ◌-◌, ◌≤◌}
use mathlib.Core.Path.{◌≡◌, refl, subst}
use mathlib.Core.List.{List}
use native.Mathlib.Omega.{arith}
use lib.ListN.{length, take, drop}
use Rattle.program.specs.Command.{read_of}
use Rattle.measure.specs.Width.{widths_of}
use Rattle.program.specs.declared.Kind.{Kind}
use Rattle.program.specs.declared.Kind.TheVariants.{II, IA, IB, S, L, E, F, R, XS, XF, P, Scans, W, XD, XB, Y}
use Rattle.program.specs.declared.Command.{Command}
use Rattle.refusal.specs.declared.Fault.{Fault}
use Rattle.std.proofs.Common.{Result, Ok, Err}
use Rattle.program.proofs.Rows.{row_plain}
use Rattle.program.proofs.Laws.{made, at_least_two}
use Rattle.program.proofs.Ranges.{form_of, InRange, number_in_range, text_within, loop_digits}
use Rattle.loops.specs.Token.{role_of, Act, act, rep, good, part_of, act_of, tok_of, get}
use Rattle.loops.specs.declared.Role.{Role}
use Rattle.loops.specs.declared.Role.TheVariants.{Plain, Repeat, Close, Forever, Again}

repeat_is : (k : Kind) → role_of k ≡ Repeat → k ≡ L
repeat_is L e = refl
repeat_is II e = let z : ◌≡◌ {A = ℕ} 0 1 = cc in absurd (omega arith)
repeat_is IA e = let z : ◌≡◌ {A = ℕ} 0 1 = cc in absurd (omega arith)
repeat_is IB e = let z : ◌≡◌ {A = ℕ} 0 1 = cc in absurd (omega arith)
repeat_is S e = let z : ◌≡◌ {A = ℕ} 0 1 = cc in absurd (omega arith)
repeat_is E e = let z : ◌≡◌ {A = ℕ} 0 1 = cc in absurd (omega arith)
repeat_is F e = let z : ◌≡◌ {A = ℕ} 0 1 = cc in absurd (omega arith)
repeat_is R e = let z : ◌≡◌ {A = ℕ} 0 1 = cc in absurd (omega arith)
repeat_is XS e = let z : ◌≡◌ {A = ℕ} 0 1 = cc in absurd (omega arith)
repeat_is XF e = let z : ◌≡◌ {A = ℕ} 0 1 = cc in absurd (omega arith)
repeat_is P e = let z : ◌≡◌ {A = ℕ} 0 1 = cc in absurd (omega arith)
repeat_is Scans e = let z : ◌≡◌ {A = ℕ} 0 1 = cc in absurd (omega arith)
repeat_is W e = let z : ◌≡◌ {A = ℕ} 0 1 = cc in absurd (omega arith)
repeat_is XD e = let z : ◌≡◌ {A = ℕ} 0 1 = cc in absurd (omega arith)
repeat_is XB e = let z : ◌≡◌ {A = ℕ} 0 1 = cc in absurd (omega arith)
repeat_is Y e = let z : ◌≡◌ {A = ℕ} 0 1 = cc in absurd (omega arith)

-- the number of an `L` is 1 to 99, and over 9 it takes a byte more
pub record Loops (n z : ℕ) : Type 0 where
  pub least : 1 ≤ n
  pub most : n ≤ 99
  pub digits : n + 261 ≤ 90 * z

by_role : (b : List ℕ) (p : ℕ) (k : Command) → read_of b p ≡ Ok k → (r : Role) → role_of k.kind ≡ r → (n z : ℕ) → part_of r (act_of b p k) ≡ rep n z → Loops n z
by_role b p k e Repeat h n z q =
    let l = repeat_is k.kind h in
    let m = made b p k e in
    let g = (row_plain (drop p b) k.kind m.form m.letters m.row).least in
    let d = loop_digits b p k e l in
    let t = at_least_two b p k e in
    let i : InRange (form_of L) k.number = subst (λ (x : Kind). InRange (form_of x) k.number) l (number_in_range b p k e) in
    let a : k.number ≡ n = cc in
    let c : k.next - p ≡ z = cc in
    record { least = omega arith; most = omega arith; digits = omega arith }
by_role b p k e Plain h n z q = let w : ◌≡◌ {A = ℕ} 0 1 = cc in absurd (omega arith)
by_role b p k e Close h n z q = let w : ◌≡◌ {A = ℕ} 0 1 = cc in absurd (omega arith)
by_role b p k e Forever h n z q = let w : ◌≡◌ {A = ℕ} 0 1 = cc in absurd (omega arith)
by_role b p k e Again h n z q = let w : ◌≡◌ {A = ℕ} 0 1 = cc in absurd (omega arith)

by_reading : (b : List ℕ) (p : ℕ) (r : Result Command Fault) → read_of b p ≡ r → (n z : ℕ) → tok_of b p r ≡ good (rep n z) → Loops n z
by_reading b p (Ok k) e n z h =
    let q : part_of (role_of k.kind) (act_of b p k) ≡ rep n z = cc in
    by_role b p k e (role_of k.kind) refl n z q
by_reading b p (Err x) e n z h = let w : ◌≡◌ {A = ℕ} 0 1 = cc in absurd (omega arith)

pub get_loop : (b : List ℕ) (p n z : ℕ) → get b p ≡ good (rep n z) → Loops n z
get_loop b p n z h = by_reading b p (read_of b p) refl n z h

-- an act has no part in the structure, its number is in its kind's range, its text lies within the body, and its widths are
-- its text's
pub record Acts (b : List ℕ) (a : Act) : Type 0 where
  pub plain : role_of a.kind ≡ Plain
  pub range : InRange (form_of a.kind) a.number
  pub within : a.text + a.len ≤ length b
  pub wide : a.widths ≡ widths_of (take a.len (drop a.text b))

act_role : (b : List ℕ) (p : ℕ) (k : Command) → read_of b p ≡ Ok k → (r : Role) → role_of k.kind ≡ r → (a : Act) → part_of r (act_of b p k) ≡ act a → Acts b a
act_role b p k e Plain h a q =
    let s : act_of b p k ≡ a = cc in
    subst (Acts b) s (record { plain = h; range = number_in_range b p k e; within = text_within b p k e; wide = refl })
act_role b p k e Repeat h a q = let w : ◌≡◌ {A = ℕ} 0 1 = cc in absurd (omega arith)
act_role b p k e Close h a q = let w : ◌≡◌ {A = ℕ} 0 1 = cc in absurd (omega arith)
act_role b p k e Forever h a q = let w : ◌≡◌ {A = ℕ} 0 1 = cc in absurd (omega arith)
act_role b p k e Again h a q = let w : ◌≡◌ {A = ℕ} 0 1 = cc in absurd (omega arith)

act_reading : (b : List ℕ) (p : ℕ) (r : Result Command Fault) → read_of b p ≡ r → (a : Act) → tok_of b p r ≡ good (act a) → Acts b a
act_reading b p (Ok k) e a h =
    let q : part_of (role_of k.kind) (act_of b p k) ≡ act a = cc in
    act_role b p k e (role_of k.kind) refl a q
act_reading b p (Err w) e a h = let w : ◌≡◌ {A = ℕ} 0 1 = cc in absurd (omega arith)

pub get_act : (b : List ℕ) (p : ℕ) (a : Act) → get b p ≡ good (act a) → Acts b a
get_act b p a h = act_reading b p (read_of b p) refl a h
