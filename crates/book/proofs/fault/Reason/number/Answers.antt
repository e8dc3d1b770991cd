use Rattle.book.specs.Fault.{reason_number}
use Rattle.book.proofs.fault.Reason.number.Goals as goal

pub returns-in-Head : goal.returns-in-Head
unfolding reason_number
returns-in-Head c = rw c.in-Head.is

pub returns-in-RecordLength : goal.returns-in-RecordLength
unfolding reason_number
returns-in-RecordLength c = rw c.in-RecordLength.is

pub returns-in-CodeRange : goal.returns-in-CodeRange
unfolding reason_number
returns-in-CodeRange c = rw c.in-CodeRange.is

pub returns-in-TypeLink : goal.returns-in-TypeLink
unfolding reason_number
returns-in-TypeLink c = rw c.in-TypeLink.is

pub returns-in-Bound : goal.returns-in-Bound
unfolding reason_number
returns-in-Bound c = rw c.in-Bound.is

pub returns-in-MemberList : goal.returns-in-MemberList
unfolding reason_number
returns-in-MemberList c = rw c.in-MemberList.is

pub returns-in-FirstMember : goal.returns-in-FirstMember
unfolding reason_number
returns-in-FirstMember c = rw c.in-FirstMember.is
