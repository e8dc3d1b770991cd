-- A POSITION NEVER PASSES THE DATA'S END, nor does the place of a row, but for XCDR2 in the crate's mode: the walk over the rules, with that claim. Assumes nothing.
use Rattle.std.specs.Prelude.{Ok, Some}
use Prim.Native.Nat.{ℕ, ◌+◌, ◌≤◌}
use mathlib.Core.Path.{◌≡◌}
use mathlib.Core.Bool.{Bool, true, false}
use mathlib.Core.List.{List}
use native.Mathlib.Omega.{arith}
use lib.ListN.{length}
use Rattle.wire.specs.declared.cursor.Cursor.{Cursor}
use Rattle.wire.specs.declared.settings.Settings.{Settings}
use Rattle.wire.specs.declared.settings.Version.TheVariants.{Xcdr1}
use Rattle.wire.specs.declared.settings.Mode.TheVariants.{Standard}
use Rattle.wire.specs.Ends.{keeps_ends_by, cut_at}
use Rattle.book.specs.Types.{BookType, Member}
use Rattle.lookup.specs.Member.{locate}
use Rattle.table.specs.declared.rows.Row.{Row}
use Rattle.table.specs.Outcome.{Outcome, read}
use Rattle.reader.specs.Member.{found_of}
use Rattle.reader.specs.Nested.{nested_at, reading}
use Rattle.fit.specs.Within.{PlacesWithin, no_row, row_within, Within, read_within, short_within, refused_within, StaysInside}
use Rattle.fit.proofs.Claims.{Claim}
use Rattle.fit.proofs.Cuts.{cut_shorter, cut_keeps}
use Rattle.fit.proofs.Walk as walk
use Rattle.fit.proofs.Walk.{RowsAt, Stands, read_stands, short_stands, refused_stands, nested_stands, member_stands, reading_stands}

true_false : {b : Bool} → b ≡ true → b ≡ false → ⊥
true_false e f = let z : ◌≡◌ {A = ℕ} 0 1 = cc in omega arith

-- what is claimed: the position of a place, and that of a shortage, is inside the data. Nothing is claimed of the data, of lengths and of numbers
abbrev inside_claim : (set : Settings) → StaysInside set → Claim set
inside_claim set stays =
    record {
      Given = λ s. Unit {0};
      At = λ s p. p ≤ length s;
      Wanted = λ n. Unit {0};
      Word = λ n. Unit {0};
      Lacks = λ s x. x.at.pos ≤ length s;
      cuts = λ s end g. g;
      outer = λ s end p l. omega (arith, cut_shorter set s end);
      outer_lacks = λ s end x l. omega (arith, cut_shorter set s end);
      inside = λ s p g l. l;
      past = λ s p n g v e l w. absurd (true_false (stays v) e);
      few = λ n h. tt;
      fewer = λ m n h w. w;
      word = λ s o p w g h. g;
      eight = λ n w. w;
      lacks = λ s c n g l w h. l;
      stands = λ s x l. l;
      back = λ s x c l h. h;
    }

rows_within : (set : Settings) (stays : StaysInside set) {s : List ℕ} {rs : List Row} → RowsAt (inside_claim set stays) s rs → PlacesWithin (length s) rs
rows_within set stays walk.no_row = no_row
rows_within set stays (walk.row_at l ps) = row_within l (rows_within set stays ps)

within : (set : Settings) (stays : StaysInside set) {s : List ℕ} {o : Outcome} → Stands (inside_claim set stays) s o → Within (length s) o
within set stays (read_stands l ps) = read_within l (rows_within set stays ps)
within set stays (short_stands l) = short_within l
within set stays refused_stands = refused_within

-- OPENING A VALUE of any types, from all data, at any depth
pub nested_within : (types : List BookType) (set : Settings) → StaysInside set → (depth : ℕ) (s : List ℕ) (ty id : ℕ) (c : Cursor) (k : ℕ) → c.pos ≤ length s → Within (length s) (nested_at types set depth s ty id c k)
nested_within types set stays depth s ty id c k l = within set stays (nested_stands types (inside_claim set stays) (λ t. tt) depth s ty id c k tt l)

-- A FOUND MEMBER, where the reading does not stay: its value begins inside the data up to the member's own end, and stays there
pub member_within : (types : List BookType) (set : Settings) → StaysInside set → (depth : ℕ) (s : List ℕ) (m : Member) (d : Cursor) (n : ℕ) (c back : Cursor) (k : ℕ) → d.pos ≤ length s → locate s set m.id d ≡ Ok (Some (n, c), back)
    → (c.pos ≤ length (cut_at set s (c.pos + n))) × Within (length (cut_at set s (c.pos + n))) (found_of types s set (nested_at types set depth) m n c k)
member_within types set stays depth s m d n c back k l e =
    let f = member_stands types (inside_claim set stays) (λ t. tt) depth s m d n c back k tt l e in
    (cut_keeps set s (c.pos + n) c.pos (omega arith) f.0, within set stays f.1)

-- A WHOLE READING
pub reading_within : (types : List BookType) (s : List ℕ) (set : Settings) → StaysInside set → (root room : ℕ) → Within (length s) (reading types s set root room)
reading_within types s set stays root room = within set stays (reading_stands types (inside_claim set stays) (λ t. tt) s root room tt)

-- .. so in the standard's mode, and in XCDR1
pub standard_inside : (set : Settings) → set.mode ≡ Standard → StaysInside set
unfolding keeps_ends_by
standard_inside set m v = rw (v, m)

pub xcdr1_inside : (set : Settings) → set.version ≡ Xcdr1 → StaysInside set
xcdr1_inside set e v = absurd (let z : ◌≡◌ {A = ℕ} 0 1 = cc in omega arith)

pub standard_within : (types : List BookType) (s : List ℕ) (set : Settings) → set.mode ≡ Standard → (root room : ℕ) → Within (length s) (reading types s set root room)
standard_within types s set m root room = reading_within types s set (standard_inside set m) root room

-- ORDER 7, IN THE STANDARD'S MODE: "each place of a finished reading is at most the data's length", without exception
places : {end : ℕ} {o : Outcome} {c : Cursor} {rs : List Row} → Within end o → o ≡ read c rs → PlacesWithin end rs
places {rs = rs} (read_within {rs = qs} l ps) e = let z : qs ≡ rs = cc in rw z at ps
places (short_within l) e = absurd (let z : ◌≡◌ {A = ℕ} 0 1 = cc in omega arith)
places refused_within e = absurd (let z : ◌≡◌ {A = ℕ} 0 1 = cc in omega arith)

pub standard_places : (types : List BookType) (s : List ℕ) (set : Settings) → set.mode ≡ Standard → (root room : ℕ) (c : Cursor) (rs : List Row)
    → reading types s set root room ≡ read c rs → PlacesWithin (length s) rs
standard_places types s set m root room c rs e = places (standard_within types s set m root room) e
