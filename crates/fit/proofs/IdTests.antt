-- Laws of order 3's clause: one for each way that a test of it goes. Assumes nothing.
use Prim.Native.Nat.{ℕ, ◌%◌}
use mathlib.Core.Path.{◌≡◌, sym, ap, ◌∙◌}
use mathlib.Core.Bool.{Bool, true, false, not}
use mathlib.Core.List.{List, [], ◌∷◌}
use lib.Dec.{eqb}
use Rattle.ground.specs.Choice.{every}
use Rattle.book.specs.declared.member.Run.{Run}
use Rattle.book.specs.Types.{Member}
use Rattle.book.specs.Places.{member_at, places_left, listed}
use Rattle.book.proofs.Places.{listed_none, listed_some}
use Rattle.fit.specs.Ids.{other_low, low_differ}

-- ---- one member
pub other_is : (m : Member) (id wanted : ℕ) → id ≡ m.id → not (eqb (id % 65536) (wanted % 65536)) ≡ other_low wanted m
unfolding other_low
other_is m id wanted e = rw e

-- ---- the members after one another
module _ (b : List ℕ) (ms : Run) (whole : Bool) (inv : low_differ (listed b ms) ≡ whole) where
  module _ (p : ℕ) (rest : Run) (h : places_left ms ≡ p ∷ places_left rest) (id : ℕ) (e : id ≡ (member_at b p).id) (t : Bool) (f : t ≡ every (other_low id) (listed b rest)) where
    new : t ≡ every (other_low (member_at b p).id) (listed b rest)
    new = f ∙ ap (λ (i : ℕ). every (other_low i) (listed b rest)) e

    pub differ_bad : t ≡ false → false ≡ whole
    unfolding low_differ
    differ_bad z =
        let g : every (other_low (member_at b p).id) (listed b rest) ≡ false = sym new ∙ z in
        rw (listed_some b ms p rest h, g) at inv

    pub differ_turn : t ≡ true → low_differ (listed b rest) ≡ whole
    unfolding low_differ
    differ_turn z =
        let g : every (other_low (member_at b p).id) (listed b rest) ≡ true = sym new ∙ z in
        rw (listed_some b ms p rest h, g) at inv

  pub differ_end : places_left ms ≡ [] → true ≡ whole
  unfolding low_differ
  differ_end h = rw (listed_none b ms h) at inv

pub ruleset differ_laws = (differ_bad, differ_turn, differ_end)
