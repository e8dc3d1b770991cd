-- ORDER 3, TWO IDS, ONE HEADER: what the check asks of the ids of a type whose members are looked for by their headers. "From now on a passed type,
-- where a Mutable structure or union or an optional member is reachable, has in each such type ids whose low 16 bits differ, and none above
-- 16,383 in those bits. For a type used only with XCDR2 the caller says so, and ids must be at most 268,435,455 instead."
use Rattle.std.specs.Prelude.{ℕ, zero, suc, ◌<◌, ◌%◌, ◌^◌, ◌≡◌, Bool, true, false, not, ◌||◌, List, [], ◌∷◌, eqb, leb, length}
use Rattle.ground.specs.Choice.{pick, both, every}
use Rattle.wire.specs.declared.settings.Version.{Version}
use Rattle.wire.specs.declared.settings.Version.TheVariants.{Xcdr1, Xcdr2}
use Rattle.book.specs.Types.{BookType, Member, optional}
use Rattle.book.specs.Rules.{is_union}
use Rattle.book.specs.Asked.{is_mutable, is_structure}
use Rattle.lookup.specs.Member.{asked_for}
use Rattle.lookup.specs.Xcdr1 as xcdr1
use Rattle.lookup.specs.Xcdr2 as xcdr2
use Rattle.fit.specs.Fit.{Clause, check_clauses}

-- ---- of which types ids are asked

unfoldable pub required : Member → Bool
required m = not (optional m)

-- "a Mutable structure or union or an optional member": a structure or union that is Mutable or has an optional member, of a union its
-- discriminator too. Never an enum
unfoldable pub has_headers : BookType → Bool
has_headers t = both (is_structure t || is_union t) (is_mutable t || not (every required t.members))

-- ---- what is asked of them: all ids of such a type count

abbrev pub low_bits : ℕ → ℕ
low_bits id = id % 2 ^ 16

-- "none above 16,383 in those bits"; for XCDR2 only "ids must be at most 268,435,455 instead"
unfoldable pub id_fits : Bool → Member → Bool
id_fits false m = leb (low_bits m.id) 16383
id_fits true m = leb m.id 268435455

unfoldable pub other_low : ℕ → Member → Bool
other_low id m = not (eqb (low_bits m.id) (low_bits id))

-- "ids whose low 16 bits differ", each from those after it
unfoldable pub low_differ : List Member → Bool
low_differ [] = true
low_differ (m ∷ ms) = both (every (other_low m.id) ms) (low_differ ms)

-- THE CLAUSE; whether the type is used with XCDR2 only, the caller says
unfoldable pub ids_fit : Bool → Clause
ids_fit onlyXcdr2 types t = pick (has_headers t) (both (every (id_fits onlyXcdr2) t.members) (onlyXcdr2 || low_differ t.members)) true

-- THE CLAUSES OF THE CHECK, for each of the two uses: this one and document 01's
unfoldable pub clauses_for : Bool → List Clause
clauses_for onlyXcdr2 = ids_fit onlyXcdr2 ∷ check_clauses

-- ---- what the order is for

-- the versions that a type is used with, by what the caller of the check said
pub data UsedWith : Bool → Version → Type 0 where
  any_encoding : {version : Version} → UsedWith false version
  xcdr2_only : UsedWith true Xcdr2

-- the id in the first word of a header: two bytes in XCDR1, four in XCDR2
unfoldable pub header_id : Version → ℕ → ℕ
header_id Xcdr1 word = xcdr1.id_of word
header_id Xcdr2 word = xcdr2.id_of word

-- such a word is less than this
abbrev pub words_of : Version → ℕ
words_of Xcdr1 = 2 ^ 16
words_of Xcdr2 = 2 ^ 32

-- the lookup of a member with this id takes a header that starts with this word
abbrev pub IsHeaderOf : Version → ℕ → ℕ → Type 0
IsHeaderOf version word id = header_id version word ≡ asked_for version id

-- the id of member number i
unfoldable pub id_no : List Member → ℕ → ℕ
id_no [] i = 0
id_no (m ∷ ms) zero = m.id
id_no (m ∷ ms) (suc i) = id_no ms i

-- NO HEADER FILLS TWO COLUMNS: one that two of these members take is taken by one
abbrev pub NoHeaderFillsTwo : Version → List Member → Type 0
NoHeaderFillsTwo version ms = (word i j : ℕ) → i < length ms → j < length ms → IsHeaderOf version word (id_no ms i) → IsHeaderOf version word (id_no ms j) → i ≡ j

-- EACH OF THESE MEMBERS CAN BE FOUND: some header's word has the id that is looked for
abbrev pub EachHasHeader : Version → List Member → Type 0
EachHasHeader version ms = (i : ℕ) → i < length ms → (word : ℕ) × (word < words_of version) × IsHeaderOf version word (id_no ms i)

-- the version of which the check asks that: "none above 16,383 in those bits" is XCDR1's, "at most 268,435,455 instead" XCDR2's
abbrev pub held_by : Bool → Version
held_by false = Xcdr1
held_by true = Xcdr2
