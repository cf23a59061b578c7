-- A record that the code can hold, and that is sound (R1).
use Rattle.std.specs.Prelude.{true, ◌≡◌, length}
use Rattle.sign.specs.Sound.{sound_of}
use Rattle.sign.specs.declared.Sign.{Sign}

-- completed IDs, lengths and room have their sizes, as the arrays of the code do
pub record Roomy (s : Sign) : Type 0 where
  pub ids : length s.completed.ids ≡ 4
  pub lens : length s.slots.lens ≡ 6
  pub room : length s.room ≡ 84

-- sound, with rooms of their sizes
pub record Good (s : Sign) : Type 0 where
  pub sound : sound_of s ≡ true
  pub roomy : Roomy s
