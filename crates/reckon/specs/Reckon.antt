-- Reckoning a program command by command, as it is judged: a loop by its first pass, and by a second for all later ones
-- (S23, S27). Contracts of private functions cite it, and no public one does.
use Rattle.std.specs.Prelude.{ℕ, ◌+◌, ◌-◌, ◌≤◌, List, [], ◌∷◌, Bool, true, false, ◌≡◌, eqb}
use Rattle.basis.specs.Choice.{◌and◌}
use Rattle.perform.specs.declared.settings.Settings.{Settings}
use Rattle.loops.specs.Token.{Part, act, rep, close, forever, again, Tok, good, bad, size_of, get, tokens_of}
use Rattle.loops.specs.Structure.{role_in}
use Rattle.loops.specs.declared.Open.{Open}
use Rattle.loops.specs.declared.Flow.{Flow}
use Rattle.loops.specs.declared.Flow.TheVariants.{Free, Within, Ended}
use Rattle.loops.specs.declared.Role.{Role}
use Rattle.loops.specs.declared.Role.TheVariants.{Plain, Repeat, Close, Forever, Again}
use Rattle.course.specs.Steps.{says_of, sets_of}
use Rattle.totals.specs.Totals.{none_of, cost_of, plus_of, times_of}
use Rattle.reckon.specs.declared.reckon.Reckoned.{Reckoned}
use Rattle.reckon.specs.declared.walk.Sums.{Sums}
use Rattle.totals.specs.declared.Totals.{Totals}

-- the settings behind a command
abbrev pub sets_part : Part → Settings → Settings
sets_part (act a) σ = sets_of a σ
sets_part (rep n z) σ = σ
sets_part close σ = σ
sets_part forever σ = σ
sets_part again σ = σ

-- a command added to what is reckoned
abbrev pub added_of : Tok → Reckoned → Reckoned
added_of (good c) s =
    record {
      place = s.place + size_of c;
      settings = sets_part c s.settings;
      totals = plus_of s.totals (cost_of (says_of c s.settings));
    }
added_of (bad w) s = s

-- a command that leaves the course of a program as it is
abbrev pub plain_of : Role → Bool
plain_of Plain = true
plain_of Repeat = false
plain_of Close = false
plain_of Forever = false
plain_of Again = false

-- plain commands up to the next of structure
abbrev pub stride_of : List Tok → Reckoned → Reckoned
stride_of [] s = s
stride_of (good (act a) ∷ ts) s = stride_of ts (added_of (good (act a)) s)
stride_of (good (rep n z) ∷ ts) s = s
stride_of (good close ∷ ts) s = s
stride_of (good forever ∷ ts) s = s
stride_of (good again ∷ ts) s = s
stride_of (bad w ∷ ts) s = s

-- one pass of a loop from a place: its plain commands, and the `E` behind them
abbrev pub pass_of : List ℕ → Reckoned → Reckoned
pass_of b s = added_of (get b (stride_of (tokens_of b s.place) s).place) (stride_of (tokens_of b s.place) s)

-- the same pace and the same scans per shift
abbrev pub alike_of : Settings → Settings → Bool
alike_of σ τ = eqb σ.pace τ.pace and eqb σ.scans τ.scans

-- what each later pass of a loop comes to, begun where the first began but at the settings that it left
abbrev pub later_of : List ℕ → Reckoned → Totals
later_of b s = (pass_of b (record { place = s.place; settings = (pass_of b s).settings; totals = s.totals })).totals

-- a loop's pass begins behind its `L`, at the settings there, from nothing
abbrev pub entry_of : Open → Settings → Reckoned
entry_of l σ = record { place = l.behind; settings = σ; totals = none_of }

-- a loop closed behind its first pass: what was summed before it, that pass, and each later one
abbrev pub closed_of : List ℕ → Open → Reckoned → Settings → Totals → Totals
closed_of b l first σ before = plus_of (plus_of before first.totals) (times_of (l.number - 1) (later_of b (entry_of l σ)))

-- an `E`: it closes the loop that is open
abbrev pub closes_of : List ℕ → Flow → Reckoned → Settings → Totals → Sums
closes_of b Free here σ before = record { at = here; entry = σ; before = before }
closes_of b (Within l) here σ before =
    record {
      at = record { place = here.place; settings = here.settings; totals = closed_of b l here σ before };
      entry = σ;
      before = before;
    }
closes_of b Ended here σ before = record { at = here; entry = σ; before = before }

-- what a command leaves, `here` being reckoned behind it: an `L` begins anew, and an `E` closes
abbrev pub taken_of : List ℕ → Role → Flow → Reckoned → Settings → Totals → Sums
taken_of b Plain f here σ before = record { at = here; entry = σ; before = before }
taken_of b Repeat f here σ before =
    record { at = record { place = here.place; settings = here.settings; totals = none_of }; entry = here.settings; before = here.totals }
taken_of b Close f here σ before = closes_of b f here σ before
taken_of b Forever f here σ before = record { at = here; entry = σ; before = before }
taken_of b Again f here σ before = record { at = here; entry = σ; before = before }

-- a command reckoned, where judging stands so
abbrev pub summed_of : List ℕ → Tok → Flow → Sums → Sums
summed_of b (good c) f s = taken_of b (role_in c) f (added_of (good c) s.at) s.entry s.before
summed_of b (bad w) f s = s

-- the number of a loop that a body can open
abbrev pub Counts : Open → Type 0
Counts l = (1 ≤ l.number) × (l.number ≤ 99)

-- behind the first pass of each loop that may be open
abbrev pub Passed : List ℕ → Flow → Reckoned → Settings → Type 0
Passed b f here σ = (l : Open) → f ≡ Within l → (here ≡ pass_of b (entry_of l σ)) × Counts l

-- within the first pass of each loop that may be open
abbrev pub Passing : List ℕ → Flow → Sums → Type 0
Passing b f s = (l : Open) → f ≡ Within l → (pass_of b s.at ≡ pass_of b (entry_of l s.entry)) × Counts l
