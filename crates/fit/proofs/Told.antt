-- WHAT A SHORTAGE TELLS IS RIGHT (order 6): the walk over the rules, with that claim. Data of at most 65,532 bytes leads to no position and no need
-- that a word would cut, so the need is the exact one, and it is over 0. Assumes nothing.
use Prim.Native.Nat.{ℕ, zero, suc, ◌+◌, ◌^◌, ◌≤◌, ◌<◌}
use mathlib.Core.Path.{◌≡◌, refl, ap, ◌∙◌}
use mathlib.Core.Bool.{false}
use mathlib.Core.List.{List, [], ◌∷◌}
use native.Mathlib.Omega.{arith}
use native.Mathlib.Nat.{zero-add}
use lib.Dec.{lit<}
use lib.ListN.{length, drop}
use lib.Seq.{get_or-drop}
use Rattle.wire.specs.declared.cursor.Cursor.{Cursor}
use Rattle.wire.specs.declared.cursor.Shortage.{Shortage}
use Rattle.wire.specs.declared.settings.Settings.{Settings}
use Rattle.wire.specs.Place.{short_at}
use Rattle.wire.specs.Number.{number_at}
use Rattle.wire.specs.Ends.{keeps_ends, cut_at}
use Rattle.book.specs.Types.{BookType, pair, type_of, past_type, types_from, type_count, types_of, no_type, type_no}
use Rattle.book.specs.Places.{from, types_by}
use Rattle.table.specs.Outcome.{Outcome, short}
use Rattle.reader.specs.Nested.{reading}
use Rattle.fit.specs.Demand3.{AreBytes}
use Rattle.fit.specs.Told.{Right}
use Rattle.fit.proofs.Ranges.{below}
use Rattle.fit.proofs.Cuts.{PartOf, part_cut}
use Rattle.fit.proofs.Claims.{Claim}
use Rattle.fit.proofs.Standing.{cut_nowhere}
use Rattle.fit.proofs.Walk.{Stands, read_stands, short_stands, refused_stands, reading_stands}

-- a number of at most four bytes
word_below : (v w : ℕ) → w ≤ 4 → v < 256 ^ w → v < 2 ^ 32
word_below v zero h l = omega arith
word_below v (suc zero) h l = omega arith
word_below v (suc (suc zero)) h l = omega arith
word_below v (suc (suc (suc zero))) h l = omega arith
word_below v (suc (suc (suc (suc zero)))) h l = omega arith
word_below v (suc (suc (suc (suc (suc w))))) h l = absurd (omega arith)

module _ (w : List ℕ) (fits : length w ≤ 65532) (set : Settings) where
  -- the data is what cuts leave of w, and where ends are not kept as long as it
  record Left (s : List ℕ) : Type 0 where
    part : PartOf w s
    same : keeps_ends set ≡ false → length s ≡ length w

  -- a shortage that stands no further than a DHEADER leads, and tells what is right
  record Telling (x : Shortage) : Type 0 where
    near : x.at.pos ≤ length w + 2 ^ 32
    right : Right w set x.told

  left_cut : (s : List ℕ) (end : ℕ) → Left s → Left (cut_at set s end)
  left_cut s end g =
      record { part = part_cut set s end g.part; same = λ e. ap length (cut_nowhere set s end e) ∙ g.same e }

  telling : (s : List ℕ) (c : Cursor) (n : ℕ) → Left s → c.pos ≤ length w + 2 ^ 32 → n ≤ 2 ^ 36 → length s < c.pos + n → Telling (short_at s c n)
  telling s c n g l k h =
      record {
        near = l;
        right = record { wanted = n; end = length s; crossed = g.part.fits; own = g.same; need = omega (arith, fits); some = omega (arith, fits) };
      }

  abbrev told_claim : Claim set
  told_claim =
      record {
        Given = Left;
        At = λ s p. p ≤ length w + 2 ^ 32;
        Wanted = λ n. n ≤ 2 ^ 36;
        Word = λ n. n < 2 ^ 32;
        Lacks = λ s x. Telling x;
        cuts = left_cut;
        outer = λ s end p l. l;
        outer_lacks = λ s end x l. l;
        inside = λ s p g l. omega (arith, g.part.fits);
        past = λ s p n g v e l k. omega (arith, g.part.fits);
        few = λ n h. omega arith;
        fewer = λ m n h k. omega arith;
        word = λ s o p k g h. word_below (number_at o 0 s p k) k h (rw zero-add at (below s g.part.bytes o k 0 0 p (lit< tt)));
        eight = λ n k. omega arith;
        lacks = telling;
        stands = λ s x l. l.near;
        back = λ s x c l h. record { near = h; right = l.right };
      }

  told_right : (x : Shortage) {o : Outcome} → Stands told_claim w o → o ≡ short x → Right w set x.told
  told_right x (read_stands l ps) e = absurd (let z : ◌≡◌ {A = ℕ} 0 1 = cc in omega arith)
  told_right x (short_stands {x = y} l) e = let f : y ≡ x = cc in rw f at l.right
  told_right x refused_stands e = absurd (let z : ◌≡◌ {A = ℕ} 0 1 = cc in omega arith)

-- EVERY READING of bytes, with types whose bounds are u32: what its shortage tells is right
pub reading_told : (types : List BookType) (s : List ℕ) (set : Settings) (root room : ℕ) → AreBytes s → length s ≤ 65532 → ((ty : ℕ) → (type_no types ty).bound < 2 ^ 32) → (x : Shortage) → reading types s set root room ≡ short x → Right s set x.told
reading_told types s set root room bytes fits bounds x e =
    let K = told_claim s fits set in
    told_right s fits set x (reading_stands types K (λ ty. omega (arith, bounds ty)) s root room (record { part = record { bytes = bytes; fits = omega arith }; same = λ f. refl })) e

-- the types of a book of bytes have such bounds, at whatever places they are read
byte_below : (b : List ℕ) → AreBytes b → (k : ℕ) → pair b k < 65536
byte_below b bytes k = omega (arith, bytes k, bytes (k + 1))

bound_below : (b : List ℕ) → AreBytes b → (type_of b).bound < 2 ^ 32
unfolding type_of
bound_below b bytes = omega (arith, byte_below b bytes 6, byte_below b bytes 8)

dropped : (b : List ℕ) (p : ℕ) → AreBytes b → AreBytes (drop p b)
dropped b p bytes i = rw (get_or-drop) (bytes (p + i))

pub bounds_by : (b places : List ℕ) → AreBytes b → (ty : ℕ) → (type_no (types_by b places) ty).bound < 2 ^ 32
unfolding types_by type_no no_type from
bounds_by b [] bytes ty = omega arith
bounds_by b (p ∷ ps) bytes zero = bound_below (drop p b) (dropped b p bytes)
bounds_by b (p ∷ ps) bytes (suc k) = bounds_by b ps bytes k

bounds_from : (n : ℕ) (s : List ℕ) → AreBytes s → (ty : ℕ) → (type_no (types_from n s) ty).bound < 2 ^ 32
unfolding types_from type_no no_type past_type
bounds_from zero s bytes ty = omega arith
bounds_from (suc n) s bytes zero = bound_below s bytes
bounds_from (suc n) s bytes (suc k) = bounds_from n (drop (pair s 0) s) (dropped s (pair s 0) bytes) k

pub bounds_of : (b : List ℕ) → AreBytes b → (ty : ℕ) → (type_no (types_of b) ty).bound < 2 ^ 32
unfolding types_of
bounds_of b bytes ty = bounds_from (type_count b) (drop 7 b) (dropped b 7 bytes) ty
