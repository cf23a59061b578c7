-- What a command makes of a run's record, field by field (S6 to S11): the step of specs/Step for one open loop.
-- Contracts of private functions cite it, and no public one does.
use Rattle.std.specs.Prelude.{ℕ, ◌-◌, List, eqb, leb}
use Rattle.basis.specs.Choice.{when}
use Rattle.program.specs.declared.Kind.{Kind}
use Rattle.perform.specs.Settings.{behind_of}
use Rattle.perform.specs.declared.settings.Settings.{Settings}
use Rattle.loops.specs.Token.{get}
use Rattle.loops.specs.declared.Role.{Role}
use Rattle.loops.specs.declared.Role.TheVariants.{Plain, Repeat, Close, Forever, Again}
use Rattle.course.specs.Steps.{next_of, said_of, at}
use Rattle.machine.specs.Step.{outside, frames_of, loop_of, ready_of, run_of, say_of}
use Rattle.machine.specs.declared.Loop.{Loop}
use Rattle.machine.specs.declared.Run.{Run}
use Rattle.machine.specs.declared.Stepped.{Stepped}

-- Busy at a place within the body, Ready behind its end
abbrev pub settled_of : Run → ℕ → Loop → Settings → Run
settled_of r place inner σ =
    when (leb r.len place) (ready_of σ)
    (record { len = r.len; place = place; inner = inner; settings = σ })

-- back behind the `L` with this count left, or on where none is left
abbrev pub back_of : Run → ℕ → ℕ → Run
back_of r left next =
    when (eqb left 0) (settled_of r next outside r.settings)
    (settled_of r r.inner.place (record { place = r.inner.place; left = left }) r.settings)

-- an `E` leaves one less, and an `F` leaves the count
abbrev pub moved_of : Role → Kind → ℕ → Run → ℕ → Run
moved_of Plain k n r next = settled_of r next (loop_of (frames_of r.inner)) (behind_of k n r.settings)
moved_of Repeat k n r next = settled_of r next (record { place = next; left = n }) r.settings
moved_of Close k n r next = back_of r (r.inner.left - 1) next
moved_of Forever k n r next = back_of r r.inner.left next
moved_of Again k n r next = settled_of r 0 (loop_of (frames_of r.inner)) r.settings

-- a Busy run of a body gone on by one command
abbrev pub ran_of : List ℕ → Run → Stepped
ran_of body r =
    record {
      run = run_of r (next_of (get body) r.len (at r.place (frames_of r.inner) r.settings));
      answer = say_of (said_of (get body) (at r.place (frames_of r.inner) r.settings));
    }
