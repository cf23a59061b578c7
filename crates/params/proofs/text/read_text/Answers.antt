use Prim.Native.Nat.{ℕ, ◌+◌}
use mathlib.Core.Path.{refl, sym, ap, ◌∙◌}
use lib.ListN.{get_or, drop}
use Rattle.refusal.specs.declared.Refusal.{Refusal}
use Rattle.params.specs.Bytes.{caret, param_of}
use Rattle.params.specs.Text.{wrong_of, text_of}
use Rattle.params.proofs.Texts.{text_bad, named_some, named_none}
use Rattle.params.proofs.Pieces.{text_piece}
use Rattle.params.proofs.text.read_text.Goals as goal
use Rattle.std.proofs.Common.{Err}

pub returns-in-Some : goal.returns-in-Some
returns-in-Some c =
    let l = c.loop-from in
    let b = c.args.body.now in
    let x = get_or b l.at caret in
    let n = named_some (wrong_of 0 0 x (get_or b (l.at + 1) caret)) c.in-Some.refusal (sym c.wrong.ensures ∙ c.in-Some.is) in
    ap Err c.at.ensures
    ∙ ap (λ (e : Refusal). Err (record { refusal = e; place = l.at })) (sym n.1)
    ∙ text_bad b 0 0 l.at x _ refl (λ k. c.if-x-eq-CARET.false (c.byte_at-x.ensures ∙ k)) refl n.0
    ∙ l.invariant

pub loop-from-preserved : goal.loop-from-preserved
loop-from-preserved c =
    let l = c.loop-from in
    let b = c.args.body.now in
    ap (λ (n : ℕ). text_of 0 0 n (param_of (drop n b))) c.piece_end-at.ensures
    ∙ sym (text_piece b l.at (λ k. c.if-x-eq-CARET.false (c.byte_at-x.ensures ∙ k)) (named_none _ (sym c.wrong.ensures ∙ c.in_default.is)))
    ∙ l.invariant
