-- The data that is cut at an end: what is left of it is bytes and no longer, and has what stands before that end. Assumes nothing.
use Prim.Native.Nat.{ℕ, ◌≤◌, ◌<◌}
use mathlib.Core.Path.{◌≡◌, refl}
use mathlib.Core.Bool.{Bool, true, false}
use mathlib.Core.List.{List}
use native.Mathlib.Omega.{arith}
use lib.Dec.{ltb, lit<}
use lib.ListN.{length, get_or, take, length-take, get_or-eq_default}
use lib.Seq.{get_or-take}
use borrow.Author.Tests.{ltb-true, ltb-false}
use Rattle.wire.specs.declared.settings.Settings.{Settings}
use Rattle.wire.specs.Ends.{keeps_ends, cut_at}
use Rattle.fit.specs.Demand3.{AreBytes}

taken_bytes : (s : List ℕ) (n : ℕ) → AreBytes s → AreBytes (take n s)
taken_bytes s n bytes i = go (ltb i n) refl
  where
    go : (t : Bool) → ltb i n ≡ t → get_or (take n s) i 0 < 256
    go true e = rw (get_or-take n s i 0 (ltb-true i n e)) (bytes i)
    go false e =
        let l : length (take n s) ≤ i = simp length-take (omega (arith, ltb-false i n e)) in
        rw (get_or-eq_default (take n s) 0 {n = i} l) (lit< tt)

-- what a reading of the whole data w may be given: it, or what cuts leave of it
pub record PartOf (w s : List ℕ) : Type 0 where
  pub bytes : AreBytes s
  pub fits : length s ≤ length w

module _ (set : Settings) (s : List ℕ) (end : ℕ) where
  cut_bytes : (k : Bool) → keeps_ends set ≡ k → AreBytes s → AreBytes (cut_at set s end)
  unfolding cut_at
  cut_bytes true e bytes = rw e (taken_bytes s end bytes)
  cut_bytes false e bytes = rw e bytes

  pub cut_shorter : length (cut_at set s end) ≤ length s
  unfolding cut_at
  cut_shorter = go (keeps_ends set) refl
    where
      go : (k : Bool) → keeps_ends set ≡ k → length (cut_at set s end) ≤ length s
      go true e = rw e (simp length-take (omega arith))
      go false e = rw e (omega arith)

  -- a place before the end is one of the data that is left
  pub cut_keeps : (p : ℕ) → p ≤ end → p ≤ length s → p ≤ length (cut_at set s end)
  unfolding cut_at
  cut_keeps p h l = go (keeps_ends set) refl
    where
      go : (k : Bool) → keeps_ends set ≡ k → p ≤ length (cut_at set s end)
      go true e = rw e (simp length-take (omega arith))
      go false e = rw e l

  pub part_cut : {w : List ℕ} → PartOf w s → PartOf w (cut_at set s end)
  part_cut of = record { bytes = cut_bytes (keeps_ends set) refl of.bytes; fits = omega (arith, cut_shorter, of.fits) }
