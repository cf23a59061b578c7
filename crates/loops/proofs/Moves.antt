-- Laws of one command judged: the rule of loops by role and by where judging stands, and a good command's size.
use Prim.Native.Nat.{ℕ, suc, ◌+◌}
use mathlib.Core.Path.{◌≡◌, refl, sym, ap, subst, ◌∙◌}
use mathlib.Core.Bool.{Bool, true, false}
use mathlib.Core.List.{List, [], ◌∷◌}
use native.Mathlib.Omega.{arith}
use borrow.Author.Tests.{eqb-true}
use lib.Dec.{eqb}
use lib.ListN.{drop}
use Rattle.basis.specs.Choice.{◌and◌}
use Rattle.program.specs.Command.{read_of}
use Rattle.program.specs.declared.Kind.{Kind}
use Rattle.program.specs.declared.Form.{Form}
use Rattle.program.specs.declared.Form.TheVariants.{Text, Bare, Number}
use Rattle.program.specs.declared.Command.{Command}
use Rattle.basis.proofs.Choices.{and_parts, when_true, when_false}
use Rattle.program.proofs.Rows.{row_holds}
use Rattle.program.proofs.Laws.{made, at_least_two, bare_ends}
use Rattle.loops.specs.Token.{role_of, Tok, size_of, part_of, act_of, tok_of, get}
use Rattle.loops.specs.Structure.{kept, structure_of, role_in, opened, moved, move_of}
use Rattle.loops.specs.Flow.{room_of, ended_of, opens_of, turn_of, here_of, turned_of}
use Rattle.loops.specs.declared.Role.{Role}
use Rattle.loops.specs.declared.Role.TheVariants.{Plain, Repeat, Close, Forever, Again}
use Rattle.loops.specs.declared.Open.{Open}
use Rattle.loops.specs.declared.Flow.{Flow}
use Rattle.loops.specs.declared.Turn.{Turn}
use Rattle.refusal.specs.declared.Fault.{Fault}
use Rattle.refusal.specs.Refusal.{fault}
use Rattle.std.proofs.Common.{Result, Ok, Err}

-- `E`, `F` and `R` are two bytes without parameter
is_bare : Form → Bool
is_bare Text = false
is_bare Bare = true
is_bare (Number n) = false

bare_is : (f : Form) → is_bare f ≡ true → f ≡ Bare
unfolding is_bare
bare_is Text e = let z : ◌≡◌ {A = ℕ} 0 1 = cc in absurd (omega arith)
bare_is Bare e = refl
bare_is (Number n) e = let z : ◌≡◌ {A = ℕ} 0 1 = cc in absurd (omega arith)

short : Role → Form → ℕ → Bool
short Plain f n = true
short Repeat f n = true
short Close f n = is_bare f and eqb n 2
short Forever f n = is_bare f and eqb n 2
short Again f n = is_bare f and eqb n 2

shorts : Kind → Form → ℕ → Bool
shorts k f n = short (role_of k) f n

module _ (b : List ℕ) (p : ℕ) (c : Command) (e : read_of b p ≡ Ok c) where
  two_bytes : (is_bare (made b p c e).form and eqb (made b p c e).letters 2 ≡ true) → c.next ≡ p + 2
  two_bytes t =
      let m = made b p c e in
      let f = bare_is m.form (and_parts (is_bare m.form) _ t).0 in
      let n = eqb-true m.letters 2 (and_parts (is_bare m.form) _ t).1 in
      let z = bare_ends b p c m f in
      omega arith

  shown : short (role_of c.kind) (made b p c e).form (made b p c e).letters ≡ true
  unfolding shorts short is_bare
  shown = row_holds shorts refl (drop p b) c.kind (made b p c e).form (made b p c e).letters (made b p c e).row

  pub next_close : role_of c.kind ≡ Close → c.next ≡ p + 2
  unfolding short
  next_close h = two_bytes (subst (λ (r : Role). short r (made b p c e).form (made b p c e).letters ≡ true) h shown)

  pub next_forever : role_of c.kind ≡ Forever → c.next ≡ p + 2
  unfolding short
  next_forever h = two_bytes (subst (λ (r : Role). short r (made b p c e).form (made b p c e).letters ≡ true) h shown)

  pub next_again : role_of c.kind ≡ Again → c.next ≡ p + 2
  unfolding short
  next_again h = two_bytes (subst (λ (r : Role). short r (made b p c e).form (made b p c e).letters ≡ true) h shown)

  -- the bytes of a command, by its role, end where it ends
  pub next_is : (r : Role) → role_of c.kind ≡ r → p + size_of (part_of r (act_of b p c)) ≡ c.next
  next_is Plain h = let l = at_least_two b p c e in omega arith
  next_is Repeat h = let l = at_least_two b p c e in omega arith
  next_is Close h = sym (next_close h)
  next_is Forever h = sym (next_forever h)
  next_is Again h = sym (next_again h)

  -- a good command as the code moves on from it, and as the definition does
  good_by : (r : Role) → role_of c.kind ≡ r → (m : ℕ) (o : List Open) → moved p (p + size_of (part_of r (act_of b p c))) (structure_of (role_in (part_of r (act_of b p c))) m (opened p (part_of r (act_of b p c))) o) ≡ moved p c.next (structure_of r m (here_of p c) o)
  good_by Plain h m o = ap (λ (x : ℕ). moved p x (kept m false o)) (next_is Plain h)
  good_by Repeat h m o = ap (λ (x : ℕ). moved p x (structure_of Repeat m (record { caret = p; behind = x; number = c.number }) o)) (next_is Repeat h)
  good_by Close h m [] = refl
  good_by Close h m (l ∷ o) = ap (λ (x : ℕ). moved p x (kept (suc m) false o)) (next_is Close h)
  good_by Forever h m [] = refl
  good_by Forever h m (l ∷ o) = ap (λ (x : ℕ). moved p x (kept (suc m) true o)) (next_is Forever h)
  good_by Again h m [] = ap (λ (x : ℕ). moved p x (kept m true [])) (next_is Again h)
  good_by Again h m (l ∷ o) = refl

  pub turn_good : (f : Flow) (x : Result Turn Fault) → ended_of f ≡ false → x ≡ turn_of (moved p c.next (structure_of (role_of c.kind) (room_of f) (here_of p c) (opens_of f))) → x ≡ turn_of (move_of (get b p) (room_of f) p (ended_of f) (opens_of f))
  turn_good f x n h =
      h
      ∙ ap turn_of (sym (good_by (role_of c.kind) refl (room_of f) (opens_of f)))
      ∙ ap (λ (t : Tok). turn_of (move_of t (room_of f) p false (opens_of f))) (ap (tok_of b p) (sym e))
      ∙ ap (λ (t : Bool). turn_of (move_of (get b p) (room_of f) p t (opens_of f))) (sym n)

pub turn_bad : (b : List ℕ) (p : ℕ) (w : Fault) (f : Flow) → ended_of f ≡ false → read_of b p ≡ Err w → Err w ≡ turn_of (move_of (get b p) (room_of f) p (ended_of f) (opens_of f))
turn_bad b p w f h e =
    ap (λ (t : Tok). turn_of (move_of t (room_of f) p false (opens_of f))) (ap (tok_of b p) (sym e))
    ∙ ap (λ (t : Bool). turn_of (move_of (get b p) (room_of f) p t (opens_of f))) (sym h)

pub turn_ended : (b : List ℕ) (p : ℕ) (f : Flow) → ended_of f ≡ true → Err (fault 27 p) ≡ turn_of (move_of (get b p) (room_of f) p (ended_of f) (opens_of f))
turn_ended b p f h = ap (λ (t : Bool). turn_of (move_of (get b p) (room_of f) p t (opens_of f))) (sym h)

-- what was read of a body, judged, is the command there judged
pub turned_is : (b : List ℕ) (p : ℕ) (f : Flow) → turned_of (read_of b p) p f ≡ turn_of (move_of (get b p) (room_of f) p (ended_of f) (opens_of f))
turned_is b p f = go (ended_of f) refl (read_of b p) refl
  where
    go : (t : Bool) → ended_of f ≡ t → (r : Result Command Fault) → read_of b p ≡ r → turned_of r p f ≡ turn_of (move_of (get b p) (room_of f) p (ended_of f) (opens_of f))
    go true w r e = when_true (ended_of f) _ _ w ∙ turn_ended b p f w
    go false w (Err x) e = when_false (ended_of f) _ _ w ∙ turn_bad b p x f w e
    go false w (Ok c) e = when_false (ended_of f) _ _ w ∙ turn_good b p c e f _ w refl
