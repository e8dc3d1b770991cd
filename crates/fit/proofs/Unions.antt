-- A union's discriminator and the member that it selects, by the rows and the rules of a book. Assumes nothing.
use Prim.Native.Nat.{ℕ}
use mathlib.Core.Path.{◌≡◌, sym, ◌∙◌}
use mathlib.Core.Bool.{Bool, true, false, not}
use mathlib.Core.List.Memᴰ
use mathlib.Core.List.{List, [], ◌∷◌}
use mathlib.Core.Option.{Option, none, some}
use native.Mathlib.Omega.{arith}
use lib.Dec.{eqb}
use lib.IntN.{ℤ}
use borrow.Author.Tests.{not-true}
use Rattle.ground.specs.Choice.{pick, every, among}
use Rattle.ground.proofs.Tests.{apart}
use Rattle.book.specs.Types.{BookType, Member, default, type_no}
use Rattle.book.specs.Labels.{is_in, or_else, when, first_where, first_with, last_default}
use Rattle.book.proofs.Search.{or_none}
use Rattle.table.specs.declared.rows.Row.{Row}
use Rattle.table.specs.Rows.{row}
use Rattle.choice.specs.Discriminator.{discriminator_in, enum_in, discriminator_of}
use Rattle.choice.specs.Select.{by_default_value, default_value, selected_of}
use Rattle.choice.specs.declared.discriminator.Unsaid.TheVariants.{Unfit}
use Rattle.std.specs.Prelude.{Err}
use Rattle.fit.specs.Fit.{chooses}
use Rattle.shape.specs.Shape as shape
use Rattle.shape.specs.Shape.{OneOf, Held, stored_kind}
use Rattle.shape.proofs.KindTests.{among_each}
use Rattle.fit.proofs.KindTests.{base_is, chosen_stored}

-- ---- the discriminator's value can be taken from its rows

row_in : (r : Row) → among (3 ∷ 4 ∷ 6 ∷ 7 ∷ 12 ∷ 13 ∷ []) r.kind ≡ true → discriminator_in r ≡ Err Unfit → ⊥
unfolding discriminator_in
row_in r e z = let q : ◌≡◌ {A = ℕ} 0 1 = cc (rw e at z) in omega arith

row_of : (kind id a b p : ℕ) → among (3 ∷ 4 ∷ 6 ∷ 7 ∷ 12 ∷ 13 ∷ []) kind ≡ true → discriminator_of (row kind id a b p ∷ []) ≡ Err Unfit → ⊥
unfolding discriminator_of every
row_of kind id a b p e z =
    let n : eqb kind 21 ≡ false = not-true (eqb kind 21) (among_each (λ k. not (eqb k 21)) (3 ∷ 4 ∷ 6 ∷ 7 ∷ 12 ∷ 13 ∷ []) tt kind e) in
    row_in (row kind id a b p) e (rw n at z)

pub never_unfit : (types : List BookType) (s : List ℕ) (m : Member) (rs : List Row) → Held types s m rs → chooses (type_no types m.type) ≡ true → discriminator_of rs ≡ Err Unfit → ⊥
unfolding discriminator_of enum_in chooses
never_unfit types s m rs shape.absent c z = let q : ◌≡◌ {A = ℕ} 0 1 = cc in omega arith
never_unfit types s m rs (shape.present (shape.one (shape.scalar a b p n g l))) c z = row_of (stored_kind (type_no types m.type)) m.id a b p (chosen_stored (type_no types m.type) c n) z
never_unfit types s m rs (shape.present (shape.one (shape.text8 start n p e i l))) c z = apart (rw e at c)
never_unfit types s m rs (shape.present (shape.one (shape.text16 start n p e i l))) c z = apart (rw e at c)
never_unfit types s m rs (shape.present (shape.one (shape.nested (shape.opened at (shape.enum a b p e f g l))))) c z = row_in (row (type_no types m.type).base 0 a b p) (base_is (type_no types m.type).base f).chooses (rw e at z)
never_unfit types s m rs (shape.present (shape.one (shape.nested (shape.opened at (shape.structure e x))))) c z = apart (rw e at c)
never_unfit types s m rs (shape.present (shape.one (shape.nested (shape.opened at (shape.union v e p h g q o k))))) c z = apart (rw e at c)
never_unfit types s m rs (shape.present (shape.sequence n p e l x)) c z = apart (rw e at c)
never_unfit types s m rs (shape.present (shape.array p e x)) c z = apart (rw e at c)

-- ---- the member that is selected is another than the discriminator

when_is : (b : Bool) (m x : Member) → when b m ≡ some x → x ≡ m
unfolding when
when_is true m x e = cc
when_is false m x e = absurd (let z : ◌≡◌ {A = ℕ} 0 1 = cc in omega arith)

-- what is the first or else the second is one of them
or_either : (P : Member → Type 0) (a b : Option Member) (x : Member) → ((y : Member) → a ≡ some y → P y) → ((y : Member) → b ≡ some y → P y) → or_else a b ≡ some x → P x
unfolding or_else
or_either P (some m) b x p q e = p x e
or_either P none b x p q e = q x e

with_in : (d : ℤ) (ms : List Member) (x : Member) → first_with d ms ≡ some x → OneOf x ms
unfolding first_with first_where
with_in d [] x e = absurd (let z : ◌≡◌ {A = ℕ} 0 1 = cc in omega arith)
with_in d (m ∷ ms) x e =
    or_either (λ y. OneOf y (m ∷ ms)) (when (is_in d m.labels) m) (first_with d ms) x (λ y h. Memᴰ.head (when_is (is_in d m.labels) m y h)) (λ y h. Memᴰ.tail (with_in d ms y h)) e

default_in : (ms : List Member) (x : Member) → last_default ms ≡ some x → OneOf x ms
unfolding last_default
default_in [] x e = absurd (let z : ◌≡◌ {A = ℕ} 0 1 = cc in omega arith)
default_in (m ∷ ms) x e =
    or_either (λ y. OneOf y (m ∷ ms)) (last_default ms) (when (default m) m) x (λ y h. Memᴰ.tail (default_in ms y h)) (λ y h. Memᴰ.head (when_is (default m) m y h)) e

module _ (disc : Member) (others : List Member) (no_default : default disc ≡ false) (no_label : disc.labels ≡ []) where
  past_label : (d : ℤ) → first_with d (disc ∷ others) ≡ first_with d others
  unfolding first_with first_where is_in when or_else
  past_label d = rw no_label

  past_default : last_default (disc ∷ others) ≡ last_default others
  unfolding last_default when
  past_default = rw no_default (or_none (last_default others))

  pub selected_other : (types : List BookType) (d : ℤ) (x : Member) → selected_of types disc (disc ∷ others) d ≡ some x → OneOf x others
  unfolding selected_of by_default_value
  selected_other types d x e =
      or_either (λ y. OneOf y others) (first_with d (disc ∷ others)) (or_else (last_default (disc ∷ others)) (pick (eqb disc.construct 0) (first_with v (disc ∷ others)) none)) x
      (λ y h. with_in d others y (sym (past_label d) ∙ h))
      (λ y h. or_either (λ z. OneOf z others) (last_default (disc ∷ others)) (pick (eqb disc.construct 0) (first_with v (disc ∷ others)) none) y
      (λ z g. default_in others z (sym past_default ∙ g))
      (λ z g. by_value (eqb disc.construct 0) z g) h) e
    where
      v : ℤ
      v = default_value (type_no types disc.type)

      by_value : (b : Bool) (z : Member) → pick b (first_with v (disc ∷ others)) none ≡ some z → OneOf z others
      by_value true z g = with_in v others z (sym (past_label v) ∙ g)
      by_value false z g = absurd (let q : ◌≡◌ {A = ℕ} 0 1 = cc in omega arith)
