-- A line on a bus where packets keep coming: it keeps to its forecast. Demand 3 and the driver's wish, by S11, S22, S32
-- and L28.
use Rattle.std.specs.Prelude.{ℕ, ◌<◌, List, ◌≡◌, length, take, replicate}
use Rattle.room.specs.Room.{room_of}
use Rattle.perform.specs.declared.settings.Settings.{Settings}
use Rattle.course.specs.Tree.{tree_in, exit_of}
use Rattle.machine.specs.Line.{line_of, rounds_of, performed}
use Rattle.service.specs.Driver.{Event, after_events, said_events, steps_in}
use Rattle.sign.specs.declared.Sign.{Sign}

-- the steps among the events are those of the forecast: Busy before the last, with the body in the room, and Ready after it with an
-- empty room, and the line's own answers
pub record OnTime (mid : ℕ) (es : List Event) (s : Sign) (b : List ℕ) (σ : Settings) : Type 0 where
  pub busy : steps_in es < length (line_of b σ) → (after_events mid es s).run.len ≡ 0 → ⊥
  pub holds : steps_in es < length (line_of b σ) → (after_events mid es s).room ≡ room_of b
  pub ready : steps_in es ≡ length (line_of b σ) → (after_events mid es s).run.len ≡ 0
  pub empty : steps_in es ≡ length (line_of b σ) → (after_events mid es s).room ≡ replicate 84 0
  pub said : steps_in es ≡ length (line_of b σ) → said_events mid es s ≡ performed (line_of b σ)
  -- and what the sign is then set to
  pub leaves : steps_in es ≡ length (line_of b σ) → (after_events mid es s).run.settings ≡ exit_of (tree_in b).block σ

-- an endless line is Busy whatever the steps among the events, with the body in the room, and the answers are the first of what its
-- rounds perform
pub record Unending (mid : ℕ) (es : List Event) (s : Sign) (b : List ℕ) (σ : Settings) : Type 0 where
  pub busy : (after_events mid es s).run.len ≡ 0 → ⊥
  pub holds : (after_events mid es s).room ≡ room_of b
  pub said : said_events mid es s ≡ performed (take (steps_in es) (rounds_of (steps_in es) b σ))
