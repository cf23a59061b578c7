-- What the step's code needs of a good command: its number is a byte, and its answer is that of its kind.
use Prim.Native.Nat.{ℕ, ◌+◌, ◌%◌, ◌≤◌}
use mathlib.Core.List.{List, []}
use mathlib.Core.Path.{◌≡◌, refl, ap, subst, ◌∙◌}
use native.Mathlib.Omega.{arith}
use lib.ListN.{take, drop}
use Rattle.measure.specs.Width.{widths_of}
use Rattle.measure.specs.declared.width.Widths.{Widths}
use Rattle.program.specs.Command.{read_of}
use Rattle.program.specs.declared.Kind.{Kind}
use Rattle.program.specs.declared.Kind.TheVariants.{II, IA, IB, S, L, E, F, R, XS, XF, P, Scans, W, XD, XB, Y}
use Rattle.program.specs.declared.Form.{Form}
use Rattle.program.specs.declared.Command.{Command}
use Rattle.std.proofs.Common.{Ok}
use Rattle.program.proofs.Laws.{TextAt, made}
use Rattle.program.proofs.Ranges.{form_of, form_is, InRange, number_in_range}
use Rattle.perform.specs.Price.{answer_of}
use Rattle.perform.specs.declared.settings.Settings.{Settings}
use Rattle.loops.specs.Token.{role_of, part_of, act_of}
use Rattle.course.specs.Steps.{says_of}

-- a number in the range of its kind is a byte
pub range_byte : (k : Kind) (n : ℕ) → InRange (form_of k) n → n ≤ 255
range_byte II n h = omega arith
range_byte IA n h = omega arith
range_byte IB n h = omega arith
range_byte S n h = omega arith
range_byte L n h = omega arith
range_byte E n h = omega arith
range_byte F n h = omega arith
range_byte R n h = omega arith
range_byte XS n h = omega arith
range_byte XF n h = omega arith
range_byte P n h = omega arith
range_byte Scans n h = omega arith
range_byte W n h = omega arith
range_byte XD n h = omega arith
range_byte XB n h = omega arith
range_byte Y n h = omega arith

pub number_byte : (b : List ℕ) (p : ℕ) (c : Command) → read_of b p ≡ Ok c → c.number ≤ 255
number_byte b p c e = range_byte c.kind c.number (number_in_range b p c e)

-- an answer without text goes by its kind and number alone
bare_answer : (k : Kind) (n m t l : ℕ) (w : Widths) (σ : Settings) → n ≡ m → t ≡ 0 → l ≡ 0 → answer_of k m 0 0 w σ ≡ answer_of k n t l w σ
bare_answer k n m t l w σ en et el = cc

-- `L`, `E`, `F` and `R` answer what their kind says; a text's widths are nothing to them
by_kind : (k : Kind) (b : List ℕ) (p at : ℕ) (c : Command) (σ : Settings) → c.kind ≡ k → InRange (form_of k) c.number → TextAt (form_of k) at c
    → says_of (part_of (role_of k) (act_of b p c)) σ
    ≡ answer_of k c.number c.text c.len (widths_of (take c.len (drop c.text b))) σ
unfolding answer_of
by_kind L b p at c σ e r t = bare_answer L c.number c.number c.text c.len (widths_of []) σ refl t.0 t.1
by_kind E b p at c σ e r t = bare_answer E c.number 0 c.text c.len (widths_of []) σ r t.0 t.1
by_kind F b p at c σ e r t = bare_answer F c.number 0 c.text c.len (widths_of []) σ r t.0 t.1
by_kind R b p at c σ e r t = bare_answer R c.number 0 c.text c.len (widths_of []) σ r t.0 t.1
by_kind II b p at c σ e r t = ap (λ (x : Kind). answer_of x c.number c.text c.len (widths_of (take c.len (drop c.text b))) σ) e
by_kind IA b p at c σ e r t = ap (λ (x : Kind). answer_of x c.number c.text c.len (widths_of (take c.len (drop c.text b))) σ) e
by_kind IB b p at c σ e r t = ap (λ (x : Kind). answer_of x c.number c.text c.len (widths_of (take c.len (drop c.text b))) σ) e
by_kind S b p at c σ e r t = ap (λ (x : Kind). answer_of x c.number c.text c.len (widths_of (take c.len (drop c.text b))) σ) e
by_kind XS b p at c σ e r t = ap (λ (x : Kind). answer_of x c.number c.text c.len (widths_of (take c.len (drop c.text b))) σ) e
by_kind XF b p at c σ e r t = ap (λ (x : Kind). answer_of x c.number c.text c.len (widths_of (take c.len (drop c.text b))) σ) e
by_kind P b p at c σ e r t = ap (λ (x : Kind). answer_of x c.number c.text c.len (widths_of (take c.len (drop c.text b))) σ) e
by_kind Scans b p at c σ e r t = ap (λ (x : Kind). answer_of x c.number c.text c.len (widths_of (take c.len (drop c.text b))) σ) e
by_kind W b p at c σ e r t = ap (λ (x : Kind). answer_of x c.number c.text c.len (widths_of (take c.len (drop c.text b))) σ) e
by_kind XD b p at c σ e r t = ap (λ (x : Kind). answer_of x c.number c.text c.len (widths_of (take c.len (drop c.text b))) σ) e
by_kind XB b p at c σ e r t = ap (λ (x : Kind). answer_of x c.number c.text c.len (widths_of (take c.len (drop c.text b))) σ) e
by_kind Y b p at c σ e r t = ap (λ (x : Kind). answer_of x c.number c.text c.len (widths_of (take c.len (drop c.text b))) σ) e

-- a good command answers what its kind, number, text and widths say
pub says_is : (b : List ℕ) (p : ℕ) (c : Command) (σ : Settings) → read_of b p ≡ Ok c
    → says_of (part_of (role_of c.kind) (act_of b p c)) σ
    ≡ answer_of c.kind (c.number % 256) c.text c.len (widths_of (take c.len (drop c.text b))) σ
says_is b p c σ e =
    let m = made b p c e in
    let byte = number_byte b p c e in
    let same : c.number ≡ c.number % 256 = omega arith in
    by_kind c.kind b p (p + m.letters) c σ refl (number_in_range b p c e)
    (subst (λ (f : Form). TextAt f (p + m.letters) c) (form_is b p c e) m.text)
    ∙ ap (λ (n : ℕ). answer_of c.kind n c.text c.len (widths_of (take c.len (drop c.text b))) σ) same
