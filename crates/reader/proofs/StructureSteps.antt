-- Laws of the members of a Final or Appendable structure: in order. Assumes nothing.
use Rattle.std.specs.Prelude.{Err, Ok}
use Rattle.table.specs.declared.out.Trouble.TheVariants as trouble
use Prim.Native.Nat.{ℕ, ◌-◌}
use mathlib.Core.Path.{◌≡◌, refl, sym, ap, ◌∙◌}
use mathlib.Core.Bool.{Bool, true, false}
use mathlib.Core.List.{List, [], ◌∷◌}
use lib.ListN.{length}
use Rattle.wire.specs.declared.cursor.Cursor.{Cursor}
use Rattle.wire.specs.declared.settings.Settings.{Settings}
use Rattle.table.specs.declared.out.Trouble.{Trouble}
use Rattle.table.specs.Code.Outcome.{Out}
use Rattle.table.specs.Rows.{room}
use Rattle.table.specs.Outcome.{Outcome, prepend, or_end_if}
use Rattle.table.specs.Code.Outcome.{Done}
use Rattle.table.proofs.Filling.{filled_none, room_used}
use Rattle.table.proofs.Outcomes.{was_read, was_short, was_refused, end_read, end_ended, end_short, end_refused, Sofar, sofar_start, sofar_more, sofar_read, sofar_short, sofar_refused}
use Rattle.book.specs.declared.member.Run.{Run}
use Rattle.book.specs.Types.{BookType, Member}
use Rattle.book.specs.Places.{member_at, type_at, places_left, listed, Started}
use Rattle.book.proofs.Places.{listed_some, listed_none}
use Rattle.reader.specs.Code.Ending.{ended_if}
use Rattle.reader.specs.Value.{Nest}
use Rattle.reader.specs.Member.{fmember_of}
use Rattle.reader.specs.Structure.{absorbs, fmembers_of}

-- members in order, with those that are left
pub record FinalSofar (types : List BookType) (s : List ℕ) (set : Settings) (nest : Nest) (b : List ℕ) (at : ℕ) (whole : Outcome) (n : ℕ) (t u : List ℕ) (ms : Run) (c : Cursor) (m : ℕ) : Type 0 where
  pub so : Sofar whole (fmembers_of types s set nest (type_at b at) (listed b ms) c (room u m)) n t u m

pub fmembers_start : (types : List BookType) (s : List ℕ) (set : Settings) (nest : Nest) (b : List ℕ) (at : ℕ) (c : Cursor) (t : List ℕ) (n : ℕ) (ms : Run) → Started b at ms
    → FinalSofar types s set nest b at (fmembers_of types s set nest (type_at b at) (type_at b at).members c (room t n)) n t t ms c n
fmembers_start types s set nest b at c t n ms e = record { so = sofar_start (ap (λ (l : List Member). fmembers_of types s set nest (type_at b at) l c (room t n)) (sym e.is)) }

module _ {types : List BookType} {s : List ℕ} {set : Settings} {nest : Nest} {b : List ℕ} {at : ℕ} {whole : Outcome} {n : ℕ} {t u : List ℕ} {ms : Run} {c : Cursor} {m : ℕ} (inv : FinalSofar types s set nest b at whole n t u ms c m) where
  abbrev type : BookType
  type = type_at b at

  module _ (p : ℕ) (ns : Run) (y : places_left ms ≡ p ∷ places_left ns) {v : List ℕ} {r : Out} (h : Done (fmember_of types s set nest (member_at b p) c (room u m)) m u v r) where
    abbrev flag : Bool
    flag = absorbs type (member_at b p)

    more : fmembers_of types s set nest type (listed b ms) c (room u m)
        ≡ or_end_if flag (fmember_of types s set nest (member_at b p) c (room u m)) (λ d used. fmembers_of types s set nest type (listed b ns) d (room u m - used))
    unfolding fmembers_of
    more = rw (listed_some b ms p ns y)

    pub fmembers_turn : {e : Cursor} {k : ℕ} → r ≡ Ok (e, k) → FinalSofar types s set nest b at whole n t v ns e k
    fmembers_turn {e} {k} q =
        let w = was_read h q in
        let z : room u m - length w.new ≡ room v k = room_used u v m (length w.new) w.filled.long ∙ ap (room v) (sym w.count) in
        record {
          so =
              sofar_more inv.so
              (more ∙ end_read _ flag w.is
              ∙ ap (λ (x : ℕ). prepend w.new (fmembers_of types s set nest type (listed b ns) e x)) z)
              w.count w.filled;
        }

    pub fmembers_ended : (e : Trouble) → r ≡ Err e → (o : Out) → o ≡ ended_if (absorbs (type_at b at) (member_at b p)) m e → Done whole n t v o
    unfolding ended_if
    fmembers_ended (trouble.Short x) q o i = go flag refl
      where
        go : (f : Bool) → flag ≡ f → Done whole n t v o
        go true g = let w = was_short h q in let z : o ≡ Ok (x.at, m) = i ∙ rw g in rw z (sofar_read inv.so (more ∙ end_ended _ flag g w.is) w.filled)
        go false g = let w = was_short h q in let z : o ≡ Err (trouble.Short x) = i ∙ rw g in rw z (sofar_short inv.so (more ∙ end_short _ flag g w.is) w.filled)
    fmembers_ended (trouble.Refused k) q o i = let w = was_refused h q in rw i (sofar_refused inv.so (more ∙ end_refused _ flag w.is) w.filled)

  pub fmembers_end : places_left ms ≡ [] → Done whole n t u (Ok (c, m))
  unfolding fmembers_of
  fmembers_end l = sofar_read inv.so (rw (listed_none b ms l)) (filled_none u m)
