-- A book judged once, and read with many times by its index. The first word of an index says how many types it holds; then the place of
-- each in the book. An index of no types is what a refused book leaves.
use Rattle.std.specs.Prelude.{ℕ, suc, ◌≡◌, Bool, List, ◌∷◌, ◌++◌, eqb, ltb, length, get_or, take, drop, set, Option, None, Some}
use Rattle.ground.specs.Choice.{pick, both}
use Rattle.wire.specs.declared.settings.Mode.{Mode}
use Rattle.book.specs.Types.{BookType, type_count}
use Rattle.book.specs.Places.{places_from, indexed, types_by}
use Rattle.book.specs.declared.index.Types.{Types}
use Rattle.book.specs.Rules.{head_ok, book_ok}
use Rattle.book.specs.Fault.{fault_number, fault_of}
use Rattle.sinotayam.specs.declared.answer.Status.TheVariants.{NotPrepared}
use Rattle.sinotayam.specs.Answer.{Result}
use Rattle.sinotayam.specs.Entry.{refused_if, message_by, data_by}

-- the lent index has a word for the count and one for each type of the book
unfoldable pub has_places : List ℕ → List ℕ → Bool
has_places book lent = ltb (type_count book) (length lent)

-- the number of preparing: 17 to 23 for what is wrong with the book, 13 where the lent index is too short, else 0
unfoldable pub prepare_of : List ℕ → List ℕ → ℕ
prepare_of book lent = pick (book_ok book) (pick (has_places book lent) 0 13) (fault_number (fault_of book))

-- what it leaves in the lent index: the count and the places, and after them what was there; where it refuses, the count 0
unfoldable pub prepared_from : List ℕ → List ℕ → List ℕ
prepared_from book lent =
    pick (both (book_ok book) (has_places book lent))
    (type_count book ∷ places_from book 7 (type_count book) ++ drop (suc (type_count book)) lent) (set lent 0 0)

-- what a reading leaves in an index of its own: from the second word on the places, written where the head is right, whatever else is wrong; before them
-- the count of a right book, and else what was there
unfoldable pub own_from : List ℕ → List ℕ → List ℕ
own_from book own = pick (book_ok book) (type_count book) (get_or own 0 0) ∷ pick (head_ok book) (indexed book (drop 1 own)) (drop 1 own)

-- the places that an index holds: as many as it says, and no more than it has
unfoldable pub places_in : List ℕ → List ℕ
places_in index = take (get_or index 0 0) (drop 1 index)

-- r is what the index holds: the book and those places, or nothing where there is none
unfoldable pub HeldIn : List ℕ → List ℕ → Option Types → Type 0
HeldIn book index None = length (places_in index) ≡ 0
HeldIn book index (Some r) = (r.book.now ≡ book) × (r.index.now ≡ places_in index) × (length (places_in index) ≡ 0 → ⊥)

-- the types that stand at these places, whatever the index holds
abbrev pub types_in : List ℕ → List ℕ → List BookType
types_in book index = types_by book (places_in index)

-- 8, NotPrepared, where the index holds no types; else what follows, with those it holds. The book is not judged again
unfoldable pub with_index : List ℕ → List ℕ → (List BookType → Result) → Result
with_index book index next = refused_if (eqb (length (places_in index)) 0) NotPrepared (next (types_in book index))

-- READING WITH AN INDEX, a message and data
abbrev pub read_prepared : List ℕ → List ℕ → ℕ → List ℕ → Mode → ℕ → Result
read_prepared book index root message mode room = with_index book index (λ types. message_by types root message mode room)

abbrev pub read_data_prepared : List ℕ → List ℕ → ℕ → List ℕ → List ℕ → Mode → ℕ → Result
read_data_prepared book index root id s mode room = with_index book index (λ types. data_by types root id s mode room)
