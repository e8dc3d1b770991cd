-- Laws of what is told of a book: nothing exactly where every rule is kept, and each reason with a number of its own. Assumes nothing.
use Prim.Native.Nat.{ℕ, zero, suc, ◌+◌, ◌-◌, ◌≤◌}
use mathlib.Core.Path.{◌≡◌, refl, sym, ap, ◌∙◌}
use mathlib.Core.Bool.{Bool, true, false, ◌&&◌}
use mathlib.Core.List.{List, [], ◌∷◌, ◌++◌}
use native.Mathlib.Omega.{arith}
use lib.Dec.{eqb, leb}
use lib.ListN.{length, drop}
use Rattle.ground.specs.Choice.{both}
use Rattle.ground.proofs.Tests.{apart}
use Rattle.book.specs.Types.{Member, BookType, pair, type_of, past_type, type_count, types_of}
use Rattle.book.specs.Rules.{size_ok, version_ok, type_count_ok, head_ok, member_size, filled, inside_ok, own_size_ok, record_length_ok, kind_ok, extensibility_ok, base_ok, bound_flag_ok, codes_ok, array_bound_ok, bound_ok, bounds_ok, element_ok, member_count_ok, member_kind_ok, some_member_ok, count_ok, own_ok}
use Rattle.book.specs.Rules.{id_ok, link_ok, flags_ok, construct_ok, label_count_ok, first_of_union, first_id_ok, first_kind_ok, first_default_ok, first_label_ok, member_ok, members_ok, type_ok, record_ok, records_ok, book_ok}
use Rattle.book.specs.declared.fault.Reason.{Reason}
use Rattle.book.specs.declared.fault.Reason.TheVariants.{Head, RecordLength, CodeRange, TypeLink, Bound, MemberList, FirstMember}
use Rattle.std.specs.Prelude.{Ok, Err, is_ok}
use Rattle.book.proofs.Judging.{few_types}
use Rattle.book.specs.Fault.{reason_number, Verdict, fault_number, is_right, broken, the_head, unless, ◌then◌, head_fault, own_fault, member_fault, members_fault, record_fault, records_fault, fault_of}

-- THE NUMBERS
pub record Told (n : ℕ) : Type 0 where
  pub low : 17 ≤ n
  pub high : n ≤ 23

pub reason_told : (why : Reason) → Told (reason_number why)
unfolding reason_number
reason_told Head = record { low = omega arith; high = omega arith }
reason_told RecordLength = record { low = omega arith; high = omega arith }
reason_told CodeRange = record { low = omega arith; high = omega arith }
reason_told TypeLink = record { low = omega arith; high = omega arith }
reason_told Bound = record { low = omega arith; high = omega arith }
reason_told MemberList = record { low = omega arith; high = omega arith }
reason_told FirstMember = record { low = omega arith; high = omega arith }

-- ONE RULE, AND THE NEXT
module _ (k : ℕ) (why : Reason) where
  right_unless : (t : Bool) → is_right (unless t (broken k why)) ≡ t
  unfolding is_right unless
  right_unless true = refl
  right_unless false = refl

  -- two rules of one reason are one
  pub together : (a b : Bool) (next : Verdict) → (unless a (broken k why) then unless b (broken k why) then next) ≡ (unless (a && b) (broken k why) then next)
  unfolding unless ◌then◌
  together true b next = refl
  together false b next = refl

  pub together_last : (a b : Bool) → (unless a (broken k why) then unless b (broken k why)) ≡ unless (a && b) (broken k why)
  unfolding unless ◌then◌
  together_last true b = refl
  together_last false b = refl

right_then : (f g : Verdict) → is_right (f then g) ≡ both (is_right f) (is_right g)
unfolding is_right ◌then◌
right_then (Ok u) g = refl
right_then (Err x) g = refl

-- as the library asks it
pub right_is : (f : Verdict) → is_ok f ≡ is_right f
unfolding is_right
right_is (Ok u) = refl
right_is (Err x) = refl

pub right_nothing : (f : Verdict) → is_right f ≡ true → f ≡ Ok tt
unfolding is_right
right_nothing (Ok u) e = refl
right_nothing (Err x) e = absurd (apart e)

-- a rule that is kept, and one that is not
right_kept : (k : ℕ) (why : Reason) (t : Bool) (f : Verdict) → is_right (unless t (broken k why) then f) ≡ both t (is_right f)
right_kept k why t f = rw (right_then (unless t (broken k why)) f, right_unless k why t)

both_all : (b : Bool) → b ≡ both b true
both_all true = refl
both_all false = refl

-- THE RULES IN THE ORDER OF A READING ARE ALL RULES
pub head_rules : (b : List ℕ) → head_fault b ≡ unless (head_ok b) (broken the_head Head)
unfolding head_fault head_ok
head_rules b = rw (together the_head Head (size_ok b) (version_ok b) (unless (type_count_ok b) (broken the_head Head)), together_last the_head Head (size_ok b && version_ok b) (type_count_ok b))

-- a record's own bytes by their reasons
abbrev pub by_reasons : ℕ → BookType → Verdict
by_reasons k t =
    unless (codes_ok t) (broken k CodeRange)
    then unless (bounds_ok t) (broken k Bound)
    then unless (element_ok k t) (broken k TypeLink)
    then unless (count_ok t) (broken k MemberList)

pub own_rules : (k : ℕ) (t : BookType) → own_fault k t ≡ by_reasons k t
unfolding own_fault codes_ok bounds_ok count_ok
own_rules k t =
    rw
    (together k CodeRange (kind_ok t) (extensibility_ok t), together k CodeRange (kind_ok t && extensibility_ok t) (base_ok t), together k CodeRange (kind_ok t && extensibility_ok t && base_ok t) (bound_flag_ok t))
    (rw (together k Bound (array_bound_ok t) (bound_ok t), together k MemberList (member_count_ok t) (member_kind_ok t), together_last k MemberList (member_count_ok t && member_kind_ok t) (some_member_ok t)))

own_right : (k : ℕ) (t : BookType) → is_right (own_fault k t) ≡ own_ok k t
unfolding own_ok
own_right k t =
    rw (own_rules k t) (simp (right_kept, right_unless) (four (codes_ok t) (bounds_ok t) (element_ok k t) (count_ok t)))
  where
    four : (a b c d : Bool) → both a (both b (both c d)) ≡ (a && b && c && d)
    four true true true d = refl
    four true true false d = refl
    four true false c d = refl
    four false b c d = refl

nine : (a b c d e f g h i : Bool) → both a (both b (both c (both d (both e (both f (both g (both h i))))))) ≡ ((a && b) && (c && d) && (e && f) && g && (h && i))
nine false b c d e f g h i = refl
nine true false c d e f g h i = refl
nine true true false d e f g h i = refl
nine true true true false e f g h i = refl
nine true true true true false f g h i = refl
nine true true true true true false g h i = refl
nine true true true true true true false h i = refl
nine true true true true true true true false i = refl
nine true true true true true true true true i = refl

module _ (types : List BookType) (k : ℕ) (t : BookType) where
  member_right : (before : List Member) (m : Member) → is_right (member_fault types k t before m) ≡ member_ok types k t before m
  unfolding member_fault member_ok
  member_right before m =
      let first = first_of_union t before in
      simp (right_kept, right_unless)
      (nine (id_ok before m) (first_id_ok first m) (link_ok k t m) (first_kind_ok types first m) (flags_ok m) (first_default_ok first m) (construct_ok m) (label_count_ok m) (first_label_ok first m))

  -- lengths beside the members' rules, or before them
  aside : (a m f r : Bool) → both a (both m (both f r)) ≡ both (both a f) (both m r)
  aside true true f r = refl
  aside true false true r = refl
  aside true false false r = refl
  aside false m f r = refl

  members_right : (before ms : List Member) (room : ℕ) → is_right (members_fault types k t before ms room) ≡ both (filled ms room) (members_ok types k t before ms)
  unfolding members_fault filled members_ok
  members_right before [] room = right_unless k RecordLength (eqb room 0) ∙ both_all (eqb room 0)
  members_right before (m ∷ ms) room =
      rw
      (right_kept k RecordLength (leb (member_size m) room) (member_fault types k t before m then members_fault types k t (before ++ m ∷ []) ms (room - member_size m)), right_then (member_fault types k t before m) (members_fault types k t (before ++ m ∷ []) ms (room - member_size m)), member_right before m, members_right (before ++ m ∷ []) ms (room - member_size m))
      (aside (leb (member_size m) room) (member_ok types k t before m) (filled ms (room - member_size m)) (members_ok types k t (before ++ m ∷ []) ms))

module _ (types : List BookType) where
  record_right : (k : ℕ) (s : List ℕ) → is_right (record_fault types k s) ≡ record_ok types k s
  unfolding record_fault record_ok record_length_ok type_ok
  record_right k s =
      let members = members_fault types k (type_of s) [] (type_of s).members (pair s 0 - 14) in
      rw
      (right_kept k RecordLength (inside_ok s) (unless (own_size_ok s) (broken k RecordLength) then own_fault k (type_of s) then members), right_kept k RecordLength (own_size_ok s) (own_fault k (type_of s) then members), right_then (own_fault k (type_of s)) members, own_right k (type_of s), members_right types k (type_of s) [] (type_of s).members (pair s 0 - 14))
      (ordered (inside_ok s) (own_size_ok s) (own_ok k (type_of s)) (filled (type_of s).members (pair s 0 - 14)) (members_ok types k (type_of s) [] (type_of s).members))
    where
      ordered : (a b o f m : Bool) → both a (both b (both o (both f m))) ≡ both (both a (both b f)) (both o m)
      ordered true true true f m = refl
      ordered true true false true m = refl
      ordered true true false false m = refl
      ordered true false o f m = refl
      ordered false b o f m = refl

  records_right : (k n : ℕ) (s : List ℕ) → is_right (records_fault types k n s) ≡ records_ok types k n s
  unfolding records_fault records_ok
  records_right k zero s = right_unless the_head Head (eqb (length s) 0)
  records_right k (suc n) s =
      rw (right_then (record_fault types k s) (records_fault types (suc k) n (past_type s)), record_right k s, records_right (suc k) n (past_type s))

  -- a record that keeps every rule
  pub record_nothing : (k : ℕ) (s : List ℕ) → true ≡ record_ok types k s → Ok tt ≡ record_fault types k s
  record_nothing k s e = sym (right_nothing (record_fault types k s) (record_right k s ∙ sym e))

-- NOTHING IS WRONG WITH A BOOK EXACTLY WHERE IT IS RIGHT
pub book_right : (b : List ℕ) → is_right (fault_of b) ≡ book_ok b
unfolding fault_of book_ok
book_right b =
    rw (right_then (head_fault b) (records_fault (types_of b) 0 (type_count b) (drop 7 b)), head_rules b, right_unless the_head Head (head_ok b), records_right (types_of b) 0 (type_count b) (drop 7 b))

pub told_wrong : (b : List ℕ) (k : ℕ) (why : Reason) → fault_of b ≡ broken k why → book_ok b ≡ false
unfolding is_right
told_wrong b k why e = sym (book_right b) ∙ ap is_right e

pub told_nothing : (b : List ℕ) → fault_of b ≡ Ok tt → book_ok b ≡ true
unfolding is_right
told_nothing b e = sym (book_right b) ∙ ap is_right e

pub right_told : (b : List ℕ) → book_ok b ≡ true → fault_of b ≡ Ok tt
right_told b e = right_nothing (fault_of b) (book_right b ∙ e)

-- and then its number is 0
pub right_number : fault_number (Ok tt) ≡ 0
unfolding fault_number
right_number = refl

-- A RECORD'S NUMBER HAS TWO BYTES
unfoldable pub Short : Verdict → Type 0
Short (Ok u) = Unit {0}
Short (Err f) = f.at ≤ 65535

short_then : (f g : Verdict) → Short f → Short g → Short (f then g)
unfolding Short ◌then◌
short_then (Ok u) g x y = y
short_then (Err f) g x y = x

short_unless : (t : Bool) (k : ℕ) (why : Reason) → k ≤ 65535 → Short (unless t (broken k why))
unfolding Short unless
short_unless true k why h = tt
short_unless false k why h = h

module _ (types : List BookType) (k : ℕ) (h : k ≤ 65535) where
  next : (t : Bool) (why : Reason) (f : Verdict) → Short f → Short (unless t (broken k why) then f)
  next t why f x = short_then (unless t (broken k why)) f (short_unless t k why h) x

  last : (t : Bool) (why : Reason) → Short (unless t (broken k why))
  last t why = short_unless t k why h

  own_short : (t : BookType) → Short (own_fault k t)
  own_short t = rw (own_rules k t) (next _ _ _ (next _ _ _ (next _ _ _ (last _ _))))

  member_short : (t : BookType) (before : List Member) (m : Member) → Short (member_fault types k t before m)
  unfolding member_fault
  member_short t before m = next _ _ _ (next _ _ _ (next _ _ _ (next _ _ _ (next _ _ _ (next _ _ _ (next _ _ _ (next _ _ _ (last _ _))))))))

  members_short : (t : BookType) (before ms : List Member) (room : ℕ) → Short (members_fault types k t before ms room)
  unfolding members_fault
  members_short t before [] room = last (eqb room 0) RecordLength
  members_short t before (m ∷ ms) room = next _ _ _ (short_then _ _ (member_short t before m) (members_short t (before ++ m ∷ []) ms (room - member_size m)))

  record_short : (s : List ℕ) → Short (record_fault types k s)
  unfolding record_fault
  record_short s = next _ _ _ (next _ _ _ (short_then _ _ (own_short (type_of s)) (members_short (type_of s) [] (type_of s).members (pair s 0 - 14))))

records_short : (types : List BookType) (k n : ℕ) (s : List ℕ) → k + n ≤ 65536 → Short (records_fault types k n s)
unfolding records_fault
records_short types k zero s h = short_unless (eqb (length s) 0) the_head Head (omega arith)
records_short types k (suc n) s h =
    short_then (record_fault types k s) (records_fault types (suc k) n (past_type s)) (record_short types k (omega arith) s) (records_short types (suc k) n (past_type s) (omega arith))

book_short : (b : List ℕ) → Short (fault_of b)
unfolding fault_of unless ◌then◌ Short
book_short b = rw (head_rules b) (by_head (head_ok b) refl)
  where
    by_head : (t : Bool) → head_ok b ≡ t → Short (unless t (broken the_head Head) then records_fault (types_of b) 0 (type_count b) (drop 7 b))
    by_head true e = records_short (types_of b) 0 (type_count b) (drop 7 b) (omega (arith, few_types b e))
    by_head false e = omega arith

pub told_short : (b : List ℕ) (k : ℕ) (why : Reason) → fault_of b ≡ broken k why → k ≤ 65535
unfolding Short
told_short b k why e = rw e at (book_short b)
