-- Every starred example holds: bytes and verdicts compute, and a forecast is its program's price.
use Prim.Native.Nat.{ℕ}
use mathlib.Core.List.{List}
use mathlib.Core.Bool.{true}
use mathlib.Core.Path.{◌≡◌, refl}
use lib.ListN.{length}
use Rattle.basis.specs.Bytes.{sum}
use Rattle.packet.specs.Mid.{is_forbidden}
use Rattle.packet.specs.Wire.{packet_of, reply_of}
use Rattle.reader.specs.Read.{lowest_of, read_of}
use Rattle.program.specs.Command.{read_of as command_at}
use Rattle.perform.specs.Price.{answer_of}
use Rattle.perform.specs.Settings.{sound_of}
use Rattle.perform.specs.declared.settings.Settings.{Settings}
use Rattle.judge.specs.Verdict.{judge_of}
use Rattle.judge.specs.declared.Ending.TheVariants.{Finite}
use Rattle.std.proofs.Common.{Ok}
use Rattle.course.specs.Price.{sum_by, scans, millis}
use Rattle.course.specs.Tree.{tree_in, exit_of}
use Rattle.machine.specs.Line.{line_of}
use Rattle.completed.specs.Completed.{none_of as no_completed, last_of}
use Rattle.machine.specs.Step.{ready_of}
use Rattle.totals.specs.Totals.{totals_of}
use Rattle.reckon.specs.Forecast.{settings_at, forecast_of}
use Rattle.reckon.specs.declared.reckon.Foretold.TheVariants.{Ends}
use Rattle.reckon.proofs.Demand.{forecast_holds}
use Rattle.sign.specs.Reset.{fresh_of}
use Rattle.promises.specs.Bench.{All, starred, w5, l3w2e, shi, s, slow, edge}

-- a program that ends is foretold the sums over its commands, and the settings after them
abbrev at4 : Settings
at4 = settings_at 4 1

foretold : (b : List ℕ) → judge_of b ≡ Ok Finite → sound_of at4 ≡ true
    → forecast_of b 4 1
    ≡ Ok (Ends (totals_of (length (line_of b at4)) (sum_by scans (line_of b at4)) (sum_by millis (line_of b at4))) (exit_of (tree_in b).block at4).pace
    (exit_of (tree_in b).block at4).scans)
foretold b e set = forecast_holds b at4 set e

pub all_starred : All starred
unfolding sum packet_of reply_of is_forbidden lowest_of read_of command_at judge_of answer_of sound_of no_completed last_of ready_of fresh_of
all_starred = (
  refl,
  (
    refl,
    (
      refl,
      (
        refl,
        (refl, (refl, (refl, (refl, (foretold w5 refl refl, (foretold l3w2e refl refl, (foretold shi refl refl, (foretold s refl refl, (foretold slow refl refl, (foretold edge refl refl, (refl, (refl, (refl, (refl, tt)))))))))))))),
      ),
    ),
  ),
)
