-- A promise leaves one outcome: document 01's number tells the answer, and so the whole of what a call gives back and leaves. Assumes nothing.
use Prim.Native.Nat.{ℕ}
use mathlib.Core.Path.{◌≡◌, refl, sym, ap, ◌∙◌}
use mathlib.Core.List.{List}
use lib.Dec.{eqb}
use Rattle.ground.specs.Choice.{pick}
use Rattle.wire.specs.declared.cursor.Told.{Told}
use Rattle.book.specs.declared.fault.Reason.{Reason}
use Rattle.book.specs.declared.fault.Reason.TheVariants.{Head, RecordLength, CodeRange, TypeLink, Bound, MemberList, FirstMember}
use Rattle.book.specs.Fault.{reason_number}
use Rattle.sinotayam.specs.declared.answer.Status.{Status}
use Rattle.sinotayam.specs.declared.answer.Status.TheVariants.{Read, NotEnoughData, InvalidData, InvalidType, NotPrepared, BadRoot, TooLong, Unsupported, TooDeep, NoRoom, NoDiscriminator, NotText, Unfit, BadBook}
use Rattle.sinotayam.specs.declared.answer.Answer.{Answer}
use Rattle.sinotayam.specs.Answer.{code_of, Result, Settled}

-- the reason with a number
reason_of : ℕ → Reason
reason_of k =
    pick (eqb k 17) Head (pick (eqb k 18) RecordLength (pick (eqb k 19) CodeRange (pick (eqb k 20) TypeLink (pick (eqb k 21) Bound (pick (eqb k 22) MemberList FirstMember)))))

-- the answer with a number
answer_of : ℕ → Status
answer_of k =
    pick (eqb k 0) Read (pick (eqb k 1) NotEnoughData (pick (eqb k 2) InvalidData (pick (eqb k 3) InvalidType
    (pick (eqb k 8) NotPrepared (pick (eqb k 9) BadRoot (pick (eqb k 10) TooLong (pick (eqb k 11) Unsupported (pick (eqb k 12) TooDeep
    (pick (eqb k 13) NoRoom (pick (eqb k 14) NoDiscriminator (pick (eqb k 15) NotText (pick (eqb k 16) Unfit (BadBook (reason_of k))))))))))))))

answer_back : (n : Status) → answer_of (code_of n) ≡ n
unfolding answer_of reason_of code_of reason_number
answer_back Read = refl
answer_back NotEnoughData = refl
answer_back InvalidData = refl
answer_back InvalidType = refl
answer_back NotPrepared = refl
answer_back BadRoot = refl
answer_back TooLong = refl
answer_back Unsupported = refl
answer_back TooDeep = refl
answer_back NoRoom = refl
answer_back NoDiscriminator = refl
answer_back NotText = refl
answer_back Unfit = refl
answer_back (BadBook Head) = refl
answer_back (BadBook RecordLength) = refl
answer_back (BadBook CodeRange) = refl
answer_back (BadBook TypeLink) = refl
answer_back (BadBook Bound) = refl
answer_back (BadBook MemberList) = refl
answer_back (BadBook FirstMember) = refl

-- no two answers share a number
pub one_number : (m n : Status) → code_of m ≡ code_of n → m ≡ n
one_number m n e = sym (answer_back m) ∙ ap answer_of e ∙ answer_back n

same_fields : (m n : Status) (j k : ℕ) (x y : Told) → m ≡ n → j ≡ k → x ≡ y → ◌≡◌ {A = Answer} (record { status = m; rows = j; told = x }) (record { status = n; rows = k; told = y })
same_fields m n j k x y e f g = rw (e, f, g)

-- nor do two that tell of as many rows and of the same shortage
pub one_answer : (q r : Answer) → code_of q.status ≡ code_of r.status → q.rows ≡ r.rows → q.told ≡ r.told → q ≡ r
one_answer q r e f g = same_fields q.status r.status q.rows r.rows q.told r.told (one_number q.status r.status e) f g

-- two outcomes that the promise of a reading call allows are the same
pub one_outcome : (w : Result) (t u v : List ℕ) (q r : Answer) → Settled w t u q → Settled w t v r → (q ≡ r) × (u ≡ v)
one_outcome w t u v q r d e = (one_answer q r (d.number ∙ sym e.number) (d.count ∙ sym e.count) (d.told ∙ sym e.told), d.table ∙ sym e.table)
