-- Laws of a parameter: where it ends, and a command by its form.
use Prim.Native.Nat.{ℕ, suc, ◌+◌, ◌≤◌}
use mathlib.Core.Path.{◌≡◌, refl, subst}
use mathlib.Core.Bool.{Bool, true, false}
use mathlib.Core.List.{List, [], ◌∷◌}
use native.Mathlib.Omega.{arith}
use lib.Dec.{eqb}
use lib.ListN.{length}
use Rattle.basis.specs.Choice.{when, ◌and◌, within}
use Rattle.params.specs.Bytes.{first_of, read_to}
use Rattle.params.specs.Text.{wrong_of, text_of}
use Rattle.params.specs.Number.{digits, value_of}
use Rattle.program.specs.Command.{parameter_of}
use Rattle.program.specs.declared.Form.{Form}
use Rattle.program.specs.declared.Form.TheVariants.{Text, Bare, Number}
use Rattle.params.specs.declared.Parameter.{Parameter}
use Rattle.refusal.specs.declared.Fault.{Fault}
use Rattle.refusal.specs.Refusal.{fault}
use Rattle.std.proofs.Common.{Result, Ok, Err}

-- what is not right ends nowhere, and what is ends behind its bytes
abbrev pub Ends : ℕ → Result Parameter Fault → Type 0
Ends end (Ok r) = r.next ≡ end
Ends end (Err e) = Unit {0}

text_ends : (q p at : ℕ) (ds : List ℕ) → Ends (at + length ds) (text_of q p at ds)
text_ends q p at [] = omega arith
text_ends q p at (x ∷ xs) = go (eqb (wrong_of q p x (first_of xs)) 0) (text_ends p x (at + 1) xs)
  where
    go : (t : Bool) → Ends (at + 1 + length xs) (text_of p x (at + 1) xs) → Ends (at + suc (length xs)) (when t (text_of p x (at + 1) xs) (Err (fault (wrong_of q p x (first_of xs)) at)))
    go true h =
        let e : at + 1 + length xs ≡ at + suc (length xs) = omega arith in
        subst (λ (k : ℕ). Ends k (text_of p x (at + 1) xs)) e h
    go false h = tt

pub ends : (f : Form) (place at : ℕ) (ds : List ℕ) → Ends (at + length ds) (parameter_of f place at ds)
ends Text place at ds = text_ends 0 0 at ds
ends Bare place at [] = omega arith
ends Bare place at (x ∷ xs) = tt
ends (Number n) place at ds = go (digits ds and (within 1 (length ds) n.digits and within n.least (value_of 0 ds) n.greatest))
  where
    go : (t : Bool) → Ends (at + length ds) (when t (Ok (read_to (at + length ds) (value_of 0 ds))) (Err (fault 23 place)))
    go true = refl
    go false = tt

-- a parameter does not end before it starts
pub ends_after : (f : Form) (place at : ℕ) (ds : List ℕ) (r : Parameter) → parameter_of f place at ds ≡ Ok r → at ≤ r.next
ends_after f place at ds r e = let h = subst (Ends (at + length ds)) e (ends f place at ds) in omega arith
