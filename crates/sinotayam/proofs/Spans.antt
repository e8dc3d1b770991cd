-- Laws of the text call: a text that was found is in the data. Assumes nothing.
use Rattle.std.specs.Prelude.{None, Some}
use mathlib.Core.Path.{◌≡◌, refl, sym, ap, ◌∙◌}
use mathlib.Core.Bool.{Bool, true, false}
use mathlib.Core.List.{[], ◌∷◌}
use Prim.Native.Nat.{ℕ, ◌+◌, ◌^◌, ◌≤◌, ◌<◌}
use native.Mathlib.Omega.{arith}
use mir.Syntax.{w64}
use mir.Val.{Fits}
use lib.Dec.{leb}
use borrow.Author.Tests.{leb-true}
use Rattle.ground.specs.Choice.{pick, both, among}
use Rattle.table.specs.declared.rows.Row.{Row}
use Rattle.sinotayam.specs.Text.{Span, text_bytes, span_of}

place_inv : (a m start n : ℕ) → ◌≡◌ {A = Span} (Some (a, m)) (Some (start, n)) → (a ≡ start) × (m ≡ n)
place_inv a m start n e =
    let q : ◌≡◌ {A = ℕ × ℕ} (a, m) (start, n) = cc in
    (ap (λ (x : ℕ × ℕ). x.0) q, ap (λ (x : ℕ × ℕ). x.1) q)

fits_if : (f : Bool) (a m start n size : ℕ) → ◌≡◌ {A = Span} (pick (both f (leb (a + m) size)) (Some (a, m)) None) (Some (start, n)) → start + n ≤ size
fits_if true a m start n size e = by (leb (a + m) size) refl e
  where
    by : (g : Bool) → leb (a + m) size ≡ g → ◌≡◌ {A = Span} (pick g (Some (a, m)) None) (Some (start, n)) → start + n ≤ size
    by true h e =
        let p = place_inv a m start n e in
        omega (arith, p.0, p.1, leb-true (a + m) size h)
    by false h e = let z : ◌≡◌ {A = ℕ} 0 1 = cc in absurd (omega arith)
fits_if false a m start n size e = let z : ◌≡◌ {A = ℕ} 0 1 = cc in absurd (omega arith)

pub span_fits : (r : Row) (size : ℕ) (x : Span) (start n : ℕ) → x ≡ span_of r size → x ≡ Some (start, n) → start + n ≤ size
unfolding span_of
span_fits r size x start n e f = fits_if (among (16 ∷ 17 ∷ []) r.kind) r.a (text_bytes r) start n size (sym e ∙ f)

pub span_sum : (r : Row) (size : ℕ) (x : Span) (start n : ℕ) → x ≡ span_of r size → x ≡ Some (start, n) → size < 2 ^ 64 → Fits w64 (start + n)
span_sum r size x start n e f h = omega (arith, span_fits r size x start n e f)
