-- Laws of the discriminator: what a row says, and that the table's rows say what the rows of the reading say. Assumes nothing.
use Prim.Native.Nat.{ℕ, ◌+◌, ◌-◌, ◌%◌, ◌≤◌, ◌<◌, ◌^◌}
use mathlib.Core.Path.{◌≡◌, sym, ◌∙◌}
use mathlib.Core.Bool.{Bool, true, false, ◌||◌, or_assoc, or-false}
use mathlib.Core.List.{List, [], ◌∷◌}
use native.Mathlib.Omega.{arith}
use lib.ListN.{length}
use lib.Dec.{eqb}
use lib.IntN.{ℤ}
use mir.Syntax.{w32}
use mir.Val.{to_z}
use borrow.Author.Tests.{le-leb, lt-leb, eq-eqb, ne_eqb}
use Rattle.ground.specs.Choice.{among}
use Rattle.table.specs.declared.rows.Row.{Row}
use Rattle.table.specs.Rows.{row_at}
use Rattle.table.specs.Code.Rows.{Filled}
use Rattle.table.proofs.Filling.{filled_first, filled_rest}
use Rattle.std.specs.Prelude.{Ok, Err}
use Rattle.choice.specs.declared.discriminator.Unsaid.TheVariants.{Absent, Unfit}
use Rattle.choice.specs.Discriminator.{Discriminator, discriminator_in, enum_in, discriminator_of}
use Rattle.choice.specs.Code.Discriminator.{discriminator_at}

module _ (r : Row) where
  abbrev fits : Bool
  fits = eqb r.kind 3 || eqb r.kind 4 || eqb r.kind 6 || eqb r.kind 7 || eqb r.kind 12 || eqb r.kind 13

  among_is : fits ≡ among (3 ∷ 4 ∷ 6 ∷ 7 ∷ 12 ∷ 13 ∷ []) r.kind
  among_is = simp (or_assoc, or-false)

  pub in_value : fits ≡ true → (z : ℤ) → z ≡ to_z w32 (r.a % 2 ^ 32) → Ok z ≡ discriminator_in r
  unfolding discriminator_in
  in_value e z f = rw (sym among_is ∙ e, f)

  pub in_unfit : fits ≡ false → Err Unfit ≡ discriminator_in r
  unfolding discriminator_in
  in_unfit e = rw (sym among_is ∙ e)

module _ (t : List ℕ) (n m : ℕ) where
  pub at_absent : m ≤ n → Err Absent ≡ discriminator_at t n m
  unfolding discriminator_at
  at_absent h = rw (le-leb m n h)

  module _ (h : n < m) (r : Row) (is : r ≡ row_at t n) where
    pub at_other : (r.kind ≡ 21 → ⊥) → (v : Discriminator) → v ≡ discriminator_in r → v ≡ discriminator_at t n m
    unfolding discriminator_at
    at_other k v e = rw (lt-leb m n h, ← is, ne_eqb r.kind 21 k) e

    pub at_alone : r.kind ≡ 21 → m - n ≡ 1 → Err Unfit ≡ discriminator_at t n m
    unfolding discriminator_at
    at_alone k e = rw (lt-leb m n h, ← is, eq-eqb r.kind 21 k, eq-eqb (m - n) 1 e)

    pub at_enum : r.kind ≡ 21 → (m - n ≡ 1 → ⊥) → (q : Row) → q ≡ row_at t (n + 1) → (v : Discriminator) → v ≡ discriminator_in q → v ≡ discriminator_at t n m
    unfolding discriminator_at
    at_enum k l q f v e = rw (lt-leb m n h, ← is, eq-eqb r.kind 21 k, ne_eqb (m - n) 1 l, ← f) e

-- the rows that a reading left say in the table what they say by themselves
pub at_of : (a t : List ℕ) (n m : ℕ) (rs : List Row) → Filled a t n rs → m ≡ n + length rs → discriminator_at t n m ≡ discriminator_of rs
unfolding discriminator_at discriminator_of enum_in
at_of a t n m [] f e = rw (le-leb m n (omega arith))
at_of a t n m (r ∷ []) f e =
    let d : m - n ≡ 1 = omega arith in
    rw (lt-leb m n (omega arith), filled_first f, eq-eqb (m - n) 1 d)
at_of a t n m (r ∷ (q ∷ rs)) f e =
    let d : m - n ≡ 1 → ⊥ = omega arith in
    rw (lt-leb m n (omega arith), filled_first f, ne_eqb (m - n) 1 d, filled_first (filled_rest f))
