-- `params::text::run_end` meets its contract: the run ends at the first byte that is no column, or behind the body.
use Prim.Native.Nat.{◌+◌, ◌-◌}
use mathlib.Core.Path.{◌≡◌, ap, ◌∙◌}
use lib.ListN.{length, drop, length-drop}
use lib.Seq.{take_all}
use native.Mathlib.Omega.{arith}
use Rattle.std.specs.Option.{unwrap_or}
use Rattle.params.specs.Pieces.{run_length}
use Rattle.params.proofs.Pieces.{run_first}
use Rattle.params.proofs.text.run_end.Goals as goal

pub returns : goal.returns
returns c =
    let a = c.args in
    let b = a.body.now in
    let xs = c.in-Some.rest.now in
    let left : xs ≡ drop a.from b = c.in-Some.ensures.lookup.0.2 ∙ take_all (length b - a.from) (drop a.from b) (omega (arith, length-drop a.from b)) in
    ap (λ n. a.from + n) (c.unwrap_or.ensures ∙ ap (λ o. unwrap_or o (length xs)) c.first_other.ensures ∙ run_first xs ∙ ap run_length left)
