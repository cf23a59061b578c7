-- Laws of a body judged command by command, as the code does it: from each place the verdict is that of the move there.
use Prim.Native.Nat.{ℕ, zero, suc, ◌+◌, ◌≤◌, ◌<◌}
use mathlib.Core.Path.{◌≡◌, refl, sym, ap, subst, ◌∙◌}
use mathlib.Core.Bool.{Bool, true, false}
use mathlib.Core.List.{List, [], ◌∷◌}
use native.Mathlib.Omega.{arith}
use borrow.Author.Tests.{eq-eqb, ne_eqb, eqb-true, ltb-false}
use lib.Dec.{eqb, ltb}
use lib.ListN.{length, get_or}
use Rattle.basis.specs.Choice.{when}
use Rattle.params.specs.Bytes.{caret}
use Rattle.program.specs.declared.Command.{Command}
use Rattle.program.specs.Command.{read_of}
use Rattle.loops.specs.Token.{Part, act, rep, close, forever, again, Tok, good, bad, size_of, tok_of, get, chain, tokens, tokens_of}
use Rattle.loops.specs.Structure.{Structure, broken, kept, structure_of, role_in, opened, moved, move_of}
use Rattle.loops.specs.Flow.{room_of, ended_of, opens_of, turn_of, go_on}
use Rattle.judge.specs.Verdict.{Verdict, end_of, judged, judge, commands_of, begun, front_of, judge_of}
use Rattle.judge.specs.Standing.{inside_of, stood, stand_at, of_accepted, stand_of, with_read, placed_of, found_of, walked_of}
use Rattle.loops.specs.declared.Open.{Open}
use Rattle.judge.specs.declared.Standing.{Standing}
use Rattle.judge.specs.declared.Found.{Found}
use Rattle.judge.specs.declared.Walked.{Walked}
use Rattle.judge.specs.declared.Ending.{Ending}
use Rattle.loops.specs.declared.Flow.{Flow}
use Rattle.loops.specs.declared.Flow.TheVariants.{Free, Within, Ended}
use Rattle.loops.specs.declared.Turn.{Turn}
use Rattle.refusal.specs.declared.Fault.{Fault}
use Rattle.refusal.specs.Refusal.{fault}
use Rattle.std.specs.Result.{result_ok}
use Rattle.std.proofs.Common.{Result, Ok, Err, Option, Some, None}
use Rattle.refusal.proofs.Names.{ok_one, err_one, some_one}
use Rattle.loops.proofs.Tokens.{get_two, tokens_first, tokens_none}

-- the verdict on commands where judging stands so
abbrev pub from : List Tok → ℕ → Flow → Verdict
from ts p f = judge ts (room_of f) p (ended_of f) (opens_of f)

-- a command where judging stands so
abbrev pub turn_at : Tok → ℕ → Flow → Result Turn Fault
turn_at t p f = turn_of (move_of t (room_of f) p (ended_of f) (opens_of f))

-- how judging goes on behind a command
abbrev resume : Result Turn Fault → List Tok → Verdict
resume (Err w) ts = Err w
resume (Ok t) ts = from ts t.next t.flow

resume_good : (c : Part) (ts : List Tok) (p : ℕ) (f : Flow) → from (good c ∷ ts) p f ≡ resume (turn_at (good c) p f) ts
resume_good c ts p Ended = refl
resume_good (act a) ts p Free = refl
resume_good (rep n z) ts p Free = refl
resume_good close ts p Free = refl
resume_good forever ts p Free = refl
resume_good again ts p Free = refl
resume_good (act a) ts p (Within l) = refl
resume_good (rep n z) ts p (Within l) = refl
resume_good close ts p (Within l) = refl
resume_good forever ts p (Within l) = refl
resume_good again ts p (Within l) = refl

resume_bad : (w : Fault) (p : ℕ) (f : Flow) → from (bad w ∷ []) p f ≡ resume (turn_at (bad w) p f) []
resume_bad w p Ended = refl
resume_bad w p Free = refl
resume_bad w p (Within l) = refl

-- only a good command is passed, and judging goes on behind it
moved_next : (p next k : ℕ) (f : Flow) (s : Structure) → turn_of (moved p next s) ≡ Ok (go_on k f) → k ≡ next
moved_next p next k f broken e = let z : ◌≡◌ {A = ℕ} 0 1 = cc in absurd (omega arith)
moved_next p next k f (kept m e' o) e = sym (ap (λ (t : Turn). t.next) (ok_one e))

pub next_place : (t : Tok) (p k : ℕ) (f g : Flow) → turn_at t p f ≡ Ok (go_on k g) → (c : Part) × (t ≡ good c) × (k ≡ p + size_of c)
next_place t p k Ended g e = let z : ◌≡◌ {A = ℕ} 0 1 = cc in absurd (omega arith)
next_place (bad w) p k Free g e = let z : ◌≡◌ {A = ℕ} 0 1 = cc in absurd (omega arith)
next_place (bad w) p k (Within l) g e = let z : ◌≡◌ {A = ℕ} 0 1 = cc in absurd (omega arith)
next_place (good c) p k Free g e = (c, refl, moved_next p (p + size_of c) k g (structure_of (role_in c) 1 (opened p c) []) e)
next_place (good c) p k (Within l) g e = (c, refl, moved_next p (p + size_of c) k g (structure_of (role_in c) 0 (opened p c) (l ∷ [])) e)

pub place_grows : (b : List ℕ) (p k : ℕ) (f g : Flow) → turn_at (get b p) p f ≡ Ok (go_on k g) → p < k
place_grows b p k f g e =
    let n = next_place (get b p) p k f g e in
    let t = get_two b p n.0 n.1 in
    let z = n.2 in
    omega arith

-- the verdict from a place on, by the move there
pub on_stop : (b : List ℕ) (p : ℕ) (w : Fault) (f : Flow) → p < length b → turn_at (get b p) p f ≡ Err w → from (tokens_of b p) p f ≡ Err w
on_stop b p w f h e = ap (λ (ts : List Tok). from ts p f) (tokens_first b p h) ∙ by (get b p) e
  where
    by : (t : Tok) → turn_at t p f ≡ Err w → from (chain t (λ z. tokens_of b (p + z))) p f ≡ Err w
    by (good c) e' = resume_good c (tokens_of b (p + size_of c)) p f ∙ ap (λ (x : Result Turn Fault). resume x (tokens_of b (p + size_of c))) e'
    by (bad x) e' = resume_bad x p f ∙ ap (λ (x : Result Turn Fault). resume x []) e'

pub on_next : (b : List ℕ) (p k : ℕ) (f g : Flow) → p < length b → turn_at (get b p) p f ≡ Ok (go_on k g) → from (tokens_of b p) p f ≡ from (tokens_of b k) k g
on_next b p k f g h e = ap (λ (ts : List Tok). from ts p f) (tokens_first b p h) ∙ by (get b p) e
  where
    by : (t : Tok) → turn_at t p f ≡ Ok (go_on k g) → from (chain t (λ z. tokens_of b (p + z))) p f ≡ from (tokens_of b k) k g
    by (good c) e' =
        let n = next_place (good c) p k f g e' in
        let s : n.0 ≡ c = cc in
        let z : p + size_of c ≡ k = ap (λ (x : Part). p + size_of x) (sym s) ∙ sym n.2 in
        resume_good c (tokens_of b (p + size_of c)) p f
        ∙ ap (λ (x : Result Turn Fault). resume x (tokens_of b (p + size_of c))) e'
        ∙ ap (λ (x : ℕ). from (tokens_of b x) k g) z
    by (bad w) e' =
        let n = next_place (bad w) p k f g e' in
        let s : bad w ≡ good n.0 = n.1 in
        let z : ◌≡◌ {A = ℕ} 0 1 = cc in
        absurd (omega arith)

pub on_end : (b : List ℕ) (p : ℕ) (f : Flow) → length b ≤ p → from (tokens_of b p) p f ≡ end_of (ended_of f) (opens_of f)
on_end b p f h = ap (λ (ts : List Tok). from ts p f) (tokens_none b p h)

-- the same of a place looked for among the commands
abbrev pub stand_from : ℕ → List Tok → ℕ → Flow → Option Standing
stand_from q ts p f = stand_at q ts (room_of f) p (ended_of f) (opens_of f)

abbrev beyond : ℕ → Tok → List Tok → ℕ → Flow → Option Standing
beyond q t ts p f = stood (move_of t (room_of f) p (ended_of f) (opens_of f)) (λ next m e o. stand_at q ts m next e o)

abbrev look : ℕ → Result Turn Fault → List Tok → Option Standing
look q (Err w) ts = None
look q (Ok t) ts = stand_from q ts t.next t.flow

look_good : (q : ℕ) (c : Part) (ts : List Tok) (p : ℕ) (f : Flow) → beyond q (good c) ts p f ≡ look q (turn_at (good c) p f) ts
look_good q c ts p Ended = refl
look_good q (act a) ts p Free = refl
look_good q (rep n z) ts p Free = refl
look_good q close ts p Free = refl
look_good q forever ts p Free = refl
look_good q again ts p Free = refl
look_good q (act a) ts p (Within l) = refl
look_good q (rep n z) ts p (Within l) = refl
look_good q close ts p (Within l) = refl
look_good q forever ts p (Within l) = refl
look_good q again ts p (Within l) = refl

-- the place is here
pub stand_here : (b : List ℕ) (q p : ℕ) (f : Flow) → p < length b → p ≡ q → stand_from q (tokens_of b p) p f ≡ Some (inside_of (opens_of f))
stand_here b q p f h e = ap (λ (ts : List Tok). stand_from q ts p f) (tokens_first b p h) ∙ by (get b p)
  where
    by : (t : Tok) → stand_from q (chain t (λ z. tokens_of b (p + z))) p f ≡ Some (inside_of (opens_of f))
    by (good c) = ap (λ (u : Bool). when u (Some (inside_of (opens_of f))) (beyond q (good c) (tokens_of b (p + size_of c)) p f)) (eq-eqb p q e)
    by (bad w) = ap (λ (u : Bool). when u (Some (inside_of (opens_of f))) (beyond q (bad w) [] p f)) (eq-eqb p q e)

-- it is not, and is looked for behind the command here
pub stand_next : (b : List ℕ) (q p k : ℕ) (f g : Flow) → p < length b → (p ≡ q → ⊥) → turn_at (get b p) p f ≡ Ok (go_on k g) → stand_from q (tokens_of b p) p f ≡ stand_from q (tokens_of b k) k g
stand_next b q p k f g h d e = ap (λ (ts : List Tok). stand_from q ts p f) (tokens_first b p h) ∙ by (get b p) e
  where
    by : (t : Tok) → turn_at t p f ≡ Ok (go_on k g) → stand_from q (chain t (λ z. tokens_of b (p + z))) p f ≡ stand_from q (tokens_of b k) k g
    by (good c) e' =
        let n = next_place (good c) p k f g e' in
        let s : n.0 ≡ c = cc in
        let z : p + size_of c ≡ k = ap (λ (x : Part). p + size_of x) (sym s) ∙ sym n.2 in
        ap (λ (u : Bool). when u (Some (inside_of (opens_of f))) (beyond q (good c) (tokens_of b (p + size_of c)) p f)) (ne_eqb p q d)
        ∙ look_good q c (tokens_of b (p + size_of c)) p f
        ∙ ap (λ (x : Result Turn Fault). look q x (tokens_of b (p + size_of c))) e'
        ∙ ap (λ (x : ℕ). stand_from q (tokens_of b x) k g) z
    by (bad w) e' =
        let n = next_place (bad w) p k f g e' in
        let s : bad w ≡ good n.0 = n.1 in
        let z : ◌≡◌ {A = ℕ} 0 1 = cc in
        absurd (omega arith)

pub stand_none : (b : List ℕ) (q p : ℕ) (f : Flow) → length b ≤ p → stand_from q (tokens_of b p) p f ≡ None
stand_none b q p f h = ap (λ (ts : List Tok). stand_from q ts p f) (tokens_none b p h)

-- where the place q of a body's commands stands, whatever the verdict, and with the command that is read there
abbrev pub sought : List ℕ → ℕ → Option Standing
sought b q = stand_at q (tokens_of b 0) 1 0 false []

abbrev pub met : List ℕ → ℕ → Option Found
met b q = placed_of (sought b q) (read_of b q)

-- a place is still looked for, or was met before
pub data Looked (b : List ℕ) (q p : ℕ) (f : Flow) (found : Option Found) : Type 0 where
  ahead : found ≡ None → stand_from q (tokens_of b p) p f ≡ sought b q → Looked b q p f found
  behind : q < p → found ≡ met b q → Looked b q p f found

-- a command passed: the place is met there, or it is looked for behind the command, or it was met before
pub looked_here : (b : List ℕ) (q p k : ℕ) (f g : Flow) (s t : Option Found) → p < length b → p < k → Looked b q p f s → p ≡ q
    → t ≡ placed_of (Some (inside_of (opens_of f))) (read_of b p) → Looked b q k g t
looked_here b q p k f g s t h less (ahead none rest) e n =
    behind (omega arith)
    (n ∙ ap (λ (x : Option Standing). placed_of x (read_of b p)) (sym (stand_here b q p f h e) ∙ rest) ∙ ap (λ (x : ℕ). placed_of (sought b q) (read_of b x)) e)
looked_here b q p k f g s t h less (behind past is) e n = absurd (omega arith)

pub looked_past : (b : List ℕ) (q p k : ℕ) (f g : Flow) (s t : Option Found) → p < length b → p < k → turn_at (get b p) p f ≡ Ok (go_on k g)
    → Looked b q p f s → (p ≡ q → ⊥) → t ≡ s → Looked b q k g t
looked_past b q p k f g s t h less e (ahead none rest) d n = ahead (n ∙ none) (sym (stand_next b q p k f g h d e) ∙ rest)
looked_past b q p k f g s t h less e (behind past is) d n = behind (omega arith) (n ∙ is)

-- at a command of an accepted body the reading is good
abbrev pub Reads : List ℕ → ℕ → Type 0
Reads b q = (c : Command) × (read_of b q ≡ Ok c)

read_good : (b : List ℕ) (p : ℕ) (c : Part) (r : Result Command Fault) → read_of b p ≡ r → tok_of b p r ≡ good c → Reads b p
read_good b p c (Ok x) e h = (x, e)
read_good b p c (Err w) e h = let z : ◌≡◌ {A = ℕ} 0 1 = cc in absurd (omega arith)

-- judging and looking go on behind a good command
read_on : (b : List ℕ) (q next : ℕ) (ts : List Tok) (v : Ending) (s : Standing)
    → ((m : ℕ) (e : Bool) (o : List Open) → judge ts m next e o ≡ Ok v → stand_at q ts m next e o ≡ Some s → Reads b q)
    → (p : ℕ) (x : Structure) → judged (moved p next x) (λ n m e o. judge ts m n e o) ≡ Ok v
    → stood (moved p next x) (λ n m e o. stand_at q ts m n e o) ≡ Some s → Reads b q
read_on b q next ts v s rest p broken j h = let z : ◌≡◌ {A = ℕ} 0 1 = cc in absurd (omega arith)
read_on b q next ts v s rest p (kept m e o) j h = rest m e o j h

read_here : (b : List ℕ) (q p m : ℕ) (o : List Open) (v : Ending) (s : Standing) (c : Part) (ts : List Tok) → get b p ≡ good c
    → ((m' : ℕ) (e : Bool) (o' : List Open) → judge ts m' (p + size_of c) e o' ≡ Ok v → stand_at q ts m' (p + size_of c) e o' ≡ Some s → Reads b q)
    → (u : Bool) → eqb p q ≡ u → judge (good c ∷ ts) m p false o ≡ Ok v
    → when u (Some (inside_of o)) (stood (move_of (good c) m p false o) (λ n m' e o'. stand_at q ts m' n e o')) ≡ Some s → Reads b q
read_here b q p m o v s c ts g rest true d j h =
    subst (Reads b) (eqb-true p q d) (read_good b p c (read_of b p) refl g)
read_here b q p m o v s c ts g rest false d j h =
    read_on b q (p + size_of c) ts v s rest p (structure_of (role_in c) m (opened p c) o) j h

read_at : (b : List ℕ) (q p m : ℕ) (e : Bool) (o : List Open) (v : Ending) (s : Standing) (next : ℕ → List Tok)
    → ((z m' : ℕ) (e' : Bool) (o' : List Open) → judge (next z) m' (p + z) e' o' ≡ Ok v → stand_at q (next z) m' (p + z) e' o' ≡ Some s → Reads b q)
    → (t : Tok) → get b p ≡ t → judge (chain t next) m p e o ≡ Ok v → stand_at q (chain t next) m p e o ≡ Some s → Reads b q
read_at b q p m true o v s next rest (good c) g j h = let z : ◌≡◌ {A = ℕ} 0 1 = cc in absurd (omega arith)
read_at b q p m true o v s next rest (bad w) g j h = let z : ◌≡◌ {A = ℕ} 0 1 = cc in absurd (omega arith)
read_at b q p m false o v s next rest (bad w) g j h = let z : ◌≡◌ {A = ℕ} 0 1 = cc in absurd (omega arith)
read_at b q p m false o v s next rest (good c) g j h = read_here b q p m o v s c (next (size_of c)) g (rest (size_of c)) (eqb p q) refl j h

read_from : (b : List ℕ) (q len fuel p m : ℕ) (e : Bool) (o : List Open) (v : Ending) (s : Standing) → judge (tokens (get b) len fuel p) m p e o ≡ Ok v
    → stand_at q (tokens (get b) len fuel p) m p e o ≡ Some s → Reads b q
read_from b q len zero p m e o v s j h = let z : ◌≡◌ {A = ℕ} 0 1 = cc in absurd (omega arith)
read_from b q len (suc k) p m e o v s j h = by (λ z m' e' o' j' h'. read_from b q len k (p + z) m' e' o' v s j' h') (ltb p len) j h
  where
    by : ((z m' : ℕ) (e' : Bool) (o' : List Open) → judge (tokens (get b) len k (p + z)) m' (p + z) e' o' ≡ Ok v → stand_at q (tokens (get b) len k (p + z)) m' (p + z) e' o' ≡ Some s → Reads b q)
        → (u : Bool) → judge (when u (chain (get b p) (λ z. tokens (get b) len k (p + z))) []) m p e o ≡ Ok v
        → stand_at q (when u (chain (get b p) (λ z. tokens (get b) len k (p + z))) []) m p e o ≡ Some s → Reads b q
    by rest true j' h' = read_at b q p m e o v s (λ z. tokens (get b) len k (p + z)) rest (get b p) refl j' h'
    by rest false j' h' = let z : ◌≡◌ {A = ℕ} 0 1 = cc in absurd (omega arith)

-- a body is refused by its front, or goes by its commands
pub front_judged : (b : List ℕ) (w : Fault) → front_of b ≡ Err w → judge_of b ≡ Err w
unfolding judge_of
front_judged b w e = go (ltb 84 (length b)) (eqb (get_or b 0 0) caret) e
  where
    go : (t u : Bool) → when t (Err (fault 28 84)) (when u begun (Err (fault 21 0))) ≡ Err w
        → when t (Err (fault 28 84)) (when u (commands_of b) (Err (fault 21 0))) ≡ Err w
    go true u h = ap Err (err_one h)
    go false true h = let z : ◌≡◌ {A = ℕ} 0 1 = cc in absurd (omega arith)
    go false false h = ap Err (err_one h)

pub begun_front : (b : List ℕ) → front_of b ≡ begun → (judge_of b ≡ commands_of b) × (length b ≤ 84)
unfolding judge_of
begun_front b e = go (ltb 84 (length b)) (eqb (get_or b 0 0) caret) refl e
  where
    go : (t u : Bool) → ltb 84 (length b) ≡ t → when t (Err (fault 28 84)) (when u begun (Err (fault 21 0))) ≡ begun
        → (when t (Err (fault 28 84)) (when u (commands_of b) (Err (fault 21 0))) ≡ commands_of b) × (length b ≤ 84)
    go true u m w = let z : ◌≡◌ {A = ℕ} 0 1 = cc in absurd (omega arith)
    go false true m w = (refl, ltb-false 84 (length b) m)
    go false false m w = let z : ◌≡◌ {A = ℕ} 0 1 = cc in absurd (omega arith)

-- a front that is refused, and one that is not, by what is kept of its answer
pub front_none : (r : Result Unit Fault) → result_ok r ≡ None → (w : Fault) × (r ≡ Err w)
front_none (Ok x) h = let z : ◌≡◌ {A = ℕ} 0 1 = cc in absurd (omega arith)
front_none (Err w) h = (w, refl)

pub front_some : (r : Result Unit Fault) (x : Unit) → result_ok r ≡ Some x → r ≡ begun
front_some (Ok y) x h = refl
front_some (Err w) x h = let z : ◌≡◌ {A = ℕ} 0 1 = cc in absurd (omega arith)

-- an accepted body goes by its commands
accepted_commands : (b : List ℕ) (v : Ending) → judge_of b ≡ Ok v → commands_of b ≡ Ok v
unfolding judge_of
accepted_commands b v e = go (ltb 84 (length b)) (eqb (get_or b 0 0) caret) e
  where
    go : (t u : Bool) → when t (Err (fault 28 84)) (when u (commands_of b) (Err (fault 21 0))) ≡ Ok v → commands_of b ≡ Ok v
    go true u h = let z : ◌≡◌ {A = ℕ} 0 1 = cc in absurd (omega arith)
    go false true h = h
    go false false h = let z : ◌≡◌ {A = ℕ} 0 1 = cc in absurd (omega arith)

pub stand_reads : (b : List ℕ) (q : ℕ) (s : Standing) → stand_of b q ≡ Some s → Reads b q
unfolding stand_of
stand_reads b q s e = go (judge_of b) refl e
  where
    go : (v : Verdict) → judge_of b ≡ v → of_accepted v (sought b q) ≡ Some s → Reads b q
    go (Ok v) j h = read_from b q (length b) (length b) 0 1 false [] v s (accepted_commands b v j) h
    go (Err w) j h = let z : ◌≡◌ {A = ℕ} 0 1 = cc in absurd (omega arith)

-- so a place is found exactly where it stands
pub found_some : (s : Option Standing) (r : Result Command Fault) (f : Found) → placed_of s r ≡ Some f → (s ≡ Some f.standing) × (r ≡ Ok f.command)
found_some None r f e = let z : ◌≡◌ {A = ℕ} 0 1 = cc in absurd (omega arith)
found_some (Some s) (Ok c) f e = let h = some_one e in (ap (λ (x : Found). Some x.standing) h, ap (λ (x : Found). Ok x.command) h)
found_some (Some s) (Err w) f e = let z : ◌≡◌ {A = ℕ} 0 1 = cc in absurd (omega arith)

pub found_none : (b : List ℕ) (q : ℕ) → found_of b q ≡ None → stand_of b q ≡ None
found_none b q e = go (stand_of b q) refl e
  where
    go : (s : Option Standing) → stand_of b q ≡ s → placed_of s (read_of b q) ≡ None → s ≡ None
    go None h k = refl
    go (Some s) h k =
        let r = stand_reads b q s h in
        let found : ◌≡◌ {A = Option Found} (Some (record { standing = s; command = r.0 })) None = sym (ap (with_read s) r.1) ∙ k in
        let z : ◌≡◌ {A = ℕ} 0 1 = cc in
        absurd (omega arith)

-- a walk that is refused, and one that is not, as the verdict has it
pub walk_wrong : (v : Verdict) (f : Option Found) (w : Fault) → Err w ≡ walked_of v f → Err w ≡ v
walk_wrong (Ok e) f w h = let z : ◌≡◌ {A = ℕ} 0 1 = cc in absurd (omega arith)
walk_wrong (Err u) f w h = ap Err (err_one h)

pub walk_right : (v : Verdict) (f : Option Found) (x : Walked) → Ok x ≡ walked_of v f → Ok x.ending ≡ v
walk_right (Ok e) f x h = ap (λ (y : Walked). Ok y.ending) (ok_one h)
walk_right (Err u) f x h = let z : ◌≡◌ {A = ℕ} 0 1 = cc in absurd (omega arith)

-- what the walk finds of commands is what is found of an accepted body
pub walk_none : (v : Verdict) (s : Option Standing) (r : Result Command Fault) → result_ok (walked_of v (placed_of s r)) ≡ None → None ≡ placed_of (of_accepted v s) r
walk_none (Ok e) s r h = let z : ◌≡◌ {A = ℕ} 0 1 = cc in absurd (omega arith)
walk_none (Err w) s r h = refl

pub walk_found : (v : Verdict) (s : Option Standing) (r : Result Command Fault) (x : Walked) → result_ok (walked_of v (placed_of s r)) ≡ Some x → x.found ≡ placed_of (of_accepted v s) r
walk_found (Ok e) s r x h = sym (ap (λ (y : Walked). y.found) (some_one h))
walk_found (Err w) s r x h = let z : ◌≡◌ {A = ℕ} 0 1 = cc in absurd (omega arith)
