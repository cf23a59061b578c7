-- Where judging a body gets to, and which refusal is the first, as relations: L29, and N21 to N28 in the order of N0.
use Rattle.std.specs.Prelude.{ℕ, ◌+◌, ◌≤◌, ◌<◌, ◌≡◌, List, [], ◌∷◌, Bool, true, false, length, get_or}
use Rattle.params.specs.Bytes.{caret}
use Rattle.loops.specs.Token.{Part, Tok, good, bad, size_of, get}
use Rattle.loops.specs.Structure.{broken, kept, structure_of, role_in, opened}
use Rattle.loops.specs.declared.Open.{Open}
use Rattle.refusal.specs.Refusal.{number_of}
use Rattle.refusal.specs.declared.Fault.{Fault}

-- Over any reader of places and any number of loops that may be open at once: every command before this place is good and
-- keeps the rule of loops. From here so many loops may still be opened, an `F` or `R` was met or not, and these loops are open,
-- innermost first.
pub data Reach (g : ℕ → Tok) (room : ℕ) : ℕ → ℕ → Bool → List Open → Type 0 where
  start : Reach g room 0 room false []
  past : {p m m' : ℕ} {o o' : List Open} {e' : Bool} {c : Part} → Reach g room p m false o → g p ≡ good c → structure_of (role_in c) m (opened p c) o ≡ kept m' e' o' → Reach g room (p + size_of c) m' e' o'

-- neither 28 nor 21
pub record Begun (b : List ℕ) : Type 0 where
  pub most : length b ≤ 84
  pub front : get_or b 0 0 ≡ caret

-- the first refusal of a body, and its place
pub data Refusal (b : List ℕ) : ℕ → ℕ → Type 0 where
  too_long : 84 < length b → Refusal b 28 84
  no_caret : length b ≤ 84 → (get_or b 0 0 ≡ caret → ⊥) → Refusal b 21 0
  behind : {p m : ℕ} {o : List Open} → Begun b → Reach (get b) 1 p m true o → p < length b → Refusal b 27 p
  wrong : {p m : ℕ} {w : Fault} {o : List Open} → Begun b → Reach (get b) 1 p m false o → p < length b → get b p ≡ bad w → Refusal b (number_of w.refusal) w.place
  loops : {p m : ℕ} {o : List Open} {c : Part} → Begun b → Reach (get b) 1 p m false o → get b p ≡ good c → structure_of (role_in c) m (opened p c) o ≡ broken → Refusal b 26 p
  unclosed : {p m : ℕ} {e : Bool} {l : Open} {o : List Open} → Begun b → Reach (get b) 1 p m e (l ∷ o) → length b ≤ p → Refusal b 26 l.caret
