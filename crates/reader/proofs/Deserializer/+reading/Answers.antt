-- The functions of the reader's cycle meet their contracts: one law for each way through. Assumes nothing.
use mathlib.Core.Path.{refl, sym, ap, ◌∙◌}
use native.Mathlib.Omega.{arith}
use borrow.Author.Rules.{rules}
use Rattle.ground.proofs.Exits.{exits}
use Rattle.wire.specs.Ends.{cut_at}
use Rattle.book.proofs.Places.{is_inside}
use Rattle.table.proofs.Filling.{full_fits}
use Rattle.table.proofs.Outcomes.{count_from, count_past}
use Rattle.values.proofs.Scalars.{row_next}
use Rattle.reader.proofs.Rules.{body_laws, inner_laws, found_laws, option_laws, rest_laws, chosen_laws, first_laws, elements_laws, value_laws}
use Rattle.reader.proofs.RunSteps.{run_start, run_turn, run_failed, run_end, run_long}
use Rattle.reader.proofs.NestedSteps.{nested_unfit, nested_deep, nested_full, nested_read, nested_failed, place_kept, body_mstruct, no_mutable_structure, body_there, body_rest, body_failed, body_unread}
use Rattle.reader.proofs.LookedSteps.{mstruct_short, mstruct_members, mstruct_hint, looked_start, looked_aligned, looked_turn, looked_failed, looked_end, found_came, found_quick, found_next, found_still, found_at, own_at, hint_on}
use Rattle.reader.proofs.PlainSteps.{fmember_quick, fmember_next, fmember_left, fmember_from, member_kind, found_taken, found_done, found_fits, found_left}
use Rattle.reader.proofs.MemberSteps.{fmember_opened, found_opened, mmember_came, is_back, with_found, mmember_short, mmember_absent}
use Rattle.reader.proofs.BeginningSteps.{came_read}
use Rattle.reader.proofs.ListSteps.{rows_next, rows_past}
use Rattle.reader.proofs.StructureSteps.{fmembers_start, fmembers_turn, fmembers_ended, fmembers_end}
use Rattle.reader.proofs.UnionSteps.{union_empty, union_failed, union_read}
use Rattle.reader.proofs.ValueSteps.{list_unread, list_uncounted, list_there, list_rest}
use Rattle.reader.proofs.Deserializer.+reading.Goals as goal
use Rattle.reader.proofs.Deserializer.+reading.Goals.{mmembers-then-opens, mmembers-else-opens, fmember-then-is_there+then-not-m+in_default+else-opens, fmember-then-is_there+else-not-m, fmember-else-is_there}

pub as_nested-loop-i-init : goal.as_nested-loop-i-init
as_nested-loop-i-init t c = run_start _ _ _ _ _ _ _ _

pub as_nested-returns-then-not-opens : goal.as_nested-returns-then-not-opens
as_nested-returns-then-not-opens t c = run_failed c.loop-i.invariant c.loop-i-test.true (nested_unfit c.place-at.ensures c.kind_at-kind.ensures c.opens.ensures _ _ _ _ _ _ _ c.if-not-opens.true-raw) refl

pub as_nested-returns-then-depth-eq0 : goal.as_nested-returns-then-depth-eq0
as_nested-returns-then-depth-eq0 t c = run_failed c.loop-i.invariant c.loop-i-test.true (nested_deep c.place-at.ensures c.kind_at-kind.ensures c.opens.ensures _ _ _ _ _ _ _ c.if-not-opens.false-raw c.if-depth-eq0.true) refl

pub as_nested-returns-then-is_full : goal.as_nested-returns-then-is_full
as_nested-returns-then-is_full t c = run_failed c.loop-i.invariant c.loop-i-test.true (nested_full c.place-at.ensures c.kind_at-kind.ensures c.opens.ensures _ _ _ _ _ _ _ c.if-not-opens.false-raw c.if-depth-eq0.false _ c.is_full.ensures c.if-is_full.true) refl

pub as_nested-put_row-requires : goal.as_nested-put_row-requires
as_nested-put_row-requires t c = full_fits _ _ _ c.is_full.ensures c.if-is_full.false

pub as_nested-overflow_add-m : goal.as_nested-overflow_add-m
as_nested-overflow_add-m t c = row_next _ _ _ c.is_full.ensures c.if-is_full.false (run_long c.loop-i.invariant c.well_formed.1.0.0)

pub as_nested-returns-in_err-next : goal.as_nested-returns-in_err-next
as_nested-returns-in_err-next t c = rw (exits c.from_residual.ensures.1) (run_failed c.loop-i.invariant c.loop-i-test.true (nested_failed c.place-at.ensures c.kind_at-kind.ensures c.opens.ensures _ _ _ _ _ _ _ c.if-not-opens.false-raw c.if-depth-eq0.false _ c.is_full.ensures c.if-is_full.false (c.from.ensures ∙ c.stored_of.ensures) c.put_row.ensures c.body.ensures _ c.in_err-next.was) refl)

pub as_nested-overflow_sub-rows : goal.as_nested-overflow_sub-rows
as_nested-overflow_sub-rows t c = count_from c.body.ensures c.in_ok-next.was

pub as_nested-overflow_sub-beneath : goal.as_nested-overflow_sub-beneath
as_nested-overflow_sub-beneath t c = count_past _ c.body.ensures c.in_ok-next.was

pub as_nested-put_beneath-requires : goal.as_nested-put_beneath-requires
as_nested-put_beneath-requires t c = place_kept _ _ _ _ _ _ _ _ c.is_full.ensures c.if-is_full.false c.put_row.ensures c.body.ensures

pub as_nested-loop-i-preserved : goal.as_nested-loop-i-preserved
as_nested-loop-i-preserved t c = run_turn c.loop-i.invariant c.loop-i-test.true (nested_read c.place-at.ensures c.kind_at-kind.ensures c.opens.ensures _ _ _ _ _ _ _ c.if-not-opens.false-raw c.if-depth-eq0.false _ c.is_full.ensures c.if-is_full.false (c.from.ensures ∙ c.stored_of.ensures) c.put_row.ensures c.body.ensures _ _ _ c.in_ok-next.was c.put_beneath.ensures) refl

pub as_nested-returns : goal.as_nested-returns
as_nested-returns t c = run_end c.loop-i.invariant c.loop-i-test.false

pub body-returns-then-kind-eq-ENUM : goal.body-returns-then-kind-eq-ENUM
body-returns-then-kind-eq-ENUM t c = search (rules, body_laws)

pub body-returns-in_err-d : goal.body-returns-in_err-d
body-returns-in_err-d t c = rw (exits c.from_residual.ensures.1) (body_unread _ _ _ _ _ _ _ _ _ _ c.requires c.if-kind-eq-ENUM.false _ c.beginning.ensures _ c.in_err-d.was)

pub body-mmembers-requires : goal.body-mmembers-requires
body-mmembers-requires t c = (search (rules, body_laws), mstruct_hint _ _ _ _ _ _ c.member_count.ensures.0 _ c.start_at.ensures _ _ c.in_ok-back.was)

pub body-returns-in_err-back : goal.body-returns-in_err-back
body-returns-in_err-back t c = rw (exits c.from_residual-in_err-back.ensures.1) (body_mstruct _ _ _ _ _ _ _ _ _ _ c.requires c.if-kind-eq-ENUM.false _ c.beginning.ensures _ _ c.in_ok-d.was _ c.cut.ensures _ c.is_mutable.ensures c.if-kind-is_mutable.true _ _ (mstruct_short _ _ _ _ _ _ c.member_count.ensures.0 _ c.start_at.ensures _ _ _ _ _ _ c.in_err-back.was))

pub body-returns-then-kind-is_mutable : goal.body-returns-then-kind-is_mutable
body-returns-then-kind-is_mutable t c = body_mstruct _ _ _ _ _ _ _ _ _ _ c.requires c.if-kind-eq-ENUM.false _ c.beginning.ensures _ _ c.in_ok-d.was _ c.cut.ensures _ c.is_mutable.ensures c.if-kind-is_mutable.true _ _ (mstruct_members _ _ _ _ _ _ c.member_count.ensures.0 _ c.start_at.ensures _ _ _ _ _ _ _ c.in_ok-back.was _ _ c.mmembers.ensures)

pub body-inner-requires : goal.body-inner-requires
body-inner-requires t c = (search (rules, body_laws), no_mutable_structure _ _ _ _ c.requires c.is_mutable.ensures c.if-kind-is_mutable.false)

pub body-returns-in_err-e : goal.body-returns-in_err-e
body-returns-in_err-e t c = rw (exits c.from_residual-in_err-e.ensures.1) (body_failed _ _ _ _ _ _ _ _ _ _ c.requires c.if-kind-eq-ENUM.false _ c.beginning.ensures _ _ c.in_ok-d.was _ c.cut.ensures _ c.is_mutable.ensures c.if-kind-is_mutable.false _ _ c.inner.ensures _ c.in_err-e.was)

pub body-returns-then-keeps_ends-is_delimited : goal.body-returns-then-keeps_ends-is_delimited
body-returns-then-keeps_ends-is_delimited t c = body_there _ _ _ _ _ _ _ _ _ _ c.requires c.if-kind-eq-ENUM.false _ c.beginning.ensures _ _ c.in_ok-d.was _ c.cut.ensures _ c.is_mutable.ensures c.if-kind-is_mutable.false _ _ c.inner.ensures _ _ c.in_ok-e.was _ _ c.keeps_ends.ensures c.is_delimited.ensures c.if-keeps_ends-is_delimited.true _ c.new.ensures

pub body-returns : goal.body-returns
body-returns t c = body_rest _ _ _ _ _ _ _ _ _ _ c.requires c.if-kind-eq-ENUM.false _ c.beginning.ensures _ _ c.in_ok-d.was _ c.cut.ensures _ c.is_mutable.ensures c.if-kind-is_mutable.false _ _ c.inner.ensures _ _ c.in_ok-e.was _ _ c.keeps_ends.ensures c.is_delimited.ensures c.if-keeps_ends-is_delimited.false

pub fmember-head_there-m-requires : goal.fmember-head_there-m-requires
fmember-head_there-m-requires t c = omega (arith, is_inside _ _ _ _ c.is_there.ensures c.if-is_there.true)

pub fmember-overflow_add-result : goal.fmember-overflow_add-result
fmember-overflow_add-result t c = fmember_next _ _ _ _ _ _ _ _ c.head_there-m.ensures c.if-not-m.true c.kind_of-kind.ensures _ _ (rw c.from-id.ensures at c.value_at.ensures) c.in-Some.is c.well_formed.1.0.0

pub fmember-returns-in-Some : goal.fmember-returns-in-Some
fmember-returns-in-Some t c = fmember_quick _ _ _ _ _ _ _ _ c.head_there-m.ensures c.if-not-m.true c.kind_of-kind.ensures _ _ (rw c.from-id.ensures at c.value_at.ensures) _ c.in-Some.is c.new.ensures

pub fmember-returns-then-opens : goal.fmember-returns-then-opens
fmember-returns-then-opens t c = fmember_left _ _ _ _ _ _ _ _ c.head_there-m.ensures c.if-not-m.true c.kind_of-kind.ensures _ _ (rw c.from-id.ensures at c.value_at.ensures) _ c.in_default.is (fmember_opened _ _ _ _ _ _ _ _ _ _ _ _ c.head_there-m.ensures.type (c.from-id.ensures ∙ c.head_there-m.ensures.id) (member_kind _ _ _ _ _ c.head_there-m.ensures.type c.kind_of-kind.ensures) _ c.opens.ensures c.if-opens.true _ c.head_there-m.ensures.option c.if-not-m.true _ _ c.single.ensures)

pub fmember-returns : goal.fmember-returns
fmember-returns t c =
    elim c.if-is_there.branch [
      | fmember-then-is_there+then-not-m+in_default+else-opens w ↦
          fmember_left _ _ _ _ _ _ _ _ w.head_there-m.ensures w.if-not-m.true w.kind_of-kind.ensures _ _ (rw w.from-id.ensures at w.value_at.ensures) _ w.in_default.is
          (fmember_from _ _ _ _ _ _ _ _ w.t-is c.rest.ensures)
      | fmember-then-is_there+else-not-m w ↦ fmember_from _ _ _ _ _ _ _ _ w.t-is c.rest.ensures
      | fmember-else-is_there w ↦ fmember_from _ _ _ _ _ _ _ _ w.t-is c.rest.ensures
    ]

pub inner-returns-then-kind_at-eq-STRUCTURE : goal.inner-returns-then-kind_at-eq-STRUCTURE
inner-returns-then-kind_at-eq-STRUCTURE t c = search (rules, inner_laws)

pub inner-returns : goal.inner-returns
inner-returns t c = search (rules, inner_laws)

pub found-returns-then-opens : goal.found-returns-then-opens
found-returns-then-opens t c = search (rules, found_laws, c.from-i.ensures ∙ c.id.ensures)

pub found-returns-then-by_length : goal.found-returns-then-by_length
found-returns-then-by_length t c = search (rules, found_laws, c.from-i.ensures ∙ c.id.ensures)

pub found-returns : goal.found-returns
found-returns t c = search (rules, found_laws, c.from-i.ensures ∙ c.id.ensures)

pub option-returns-then-present : goal.option-returns-then-present
option-returns-then-present t c = search (rules, option_laws, c.in_ok-present-in-Xcdr2.was, c.from.ensures ∙ c.id.ensures)

pub option-returns-in-Xcdr1 : goal.option-returns-in-Xcdr1
option-returns-in-Xcdr1 t c = search (rules, option_laws)

pub rest-returns-then-m : goal.rest-returns-then-m
rest-returns-then-m t c = search (rules, rest_laws)

pub rest-overflow_add-result : goal.rest-overflow_add-result
rest-overflow_add-result t c = rows_next _ _ _ _ _ _ _ _ _ _ c.list.ensures c.in-Some.is c.well_formed.1.0.0

pub rest-overflow_add-result-in-Some : goal.rest-overflow_add-result-in-Some
rest-overflow_add-result-in-Some t c = rows_past _ _ _ _ _ _ _ _ _ _ c.list.ensures c.in-Some.is c.well_formed.1.0.0 _ c.row_at-rows.ensures

pub rest-returns-in-Some : goal.rest-returns-in-Some
rest-returns-in-Some t c = search (rules, rest_laws, c.from-id.ensures ∙ c.head_at-m.ensures.id)

pub rest-returns : goal.rest-returns
rest-returns t c = search (rules, rest_laws, c.from-id.ensures ∙ c.head_at-m.ensures.id)

pub fstruct-loop-p-init : goal.fstruct-loop-p-init
fstruct-loop-p-init t c = rw c.into_iter-p-iterator.ensures.into_iter_gives (fmembers_start _ _ _ _ _ _ _ _ _ _ c.members-p-items.ensures)

pub fstruct-loop-p-preserved : goal.fstruct-loop-p-preserved
fstruct-loop-p-preserved t c = fmembers_turn c.loop-p.invariant _ _ c.in-Some.ensures.steps c.fmember.ensures c.in-Ok.is

pub fstruct-returns-in-Err : goal.fstruct-returns-in-Err
fstruct-returns-in-Err t c = fmembers_ended c.loop-p.invariant _ _ c.in-Some.ensures.steps c.fmember.ensures _ c.in-Err.is _ c.ended_by.ensures

pub fstruct-returns : goal.fstruct-returns
fstruct-returns t c = fmembers_end c.loop-p.invariant c.in-None.ensures.steps.0

pub mmembers-loop-p-init : goal.mmembers-loop-p-init
mmembers-loop-p-init t c = rw c.into_iter-p-iterator.ensures.into_iter_gives (looked_start _ _ _ _ _ _ _ _ c.members-p-items.ensures c.requires)

pub mmembers-returns : goal.mmembers-returns
mmembers-returns t c = looked_end c.loop-p.invariant c.in-None.ensures.steps.0 c.ending.ensures

pub chosen-returns-then-mutable : goal.chosen-returns-then-mutable
chosen-returns-then-mutable t c = search (rules, chosen_laws, c.in_ok-d.was)

pub chosen-returns-then-is_optional : goal.chosen-returns-then-is_optional
chosen-returns-then-is_optional t c = search (rules, chosen_laws, c.in_ok-d.was)

pub chosen-returns-in_default : goal.chosen-returns-in_default
chosen-returns-in_default t c = search (rules, chosen_laws, c.in_ok-d.was)

pub chosen-returns : goal.chosen-returns
chosen-returns t c = search (rules, chosen_laws, c.in_ok-d.was, c.from.ensures ∙ c.id.ensures)

pub first-returns-then-mutable : goal.first-returns-then-mutable
first-returns-then-mutable t c = search (rules, first_laws)

pub first-returns : goal.first-returns
first-returns t c = search (rules, first_laws, c.from.ensures ∙ c.id.ensures)

pub elements-returns-then-unsupported_element : goal.elements-returns-then-unsupported_element
elements-returns-then-unsupported_element t c = search (rules, elements_laws)

pub elements-returns-then-is_full : goal.elements-returns-then-is_full
elements-returns-then-is_full t c = search (rules, elements_laws)

pub elements-put_row-requires : goal.elements-put_row-requires
elements-put_row-requires t c = search (rules, elements_laws)

pub elements-overflow_add-result : goal.elements-overflow_add-result
elements-overflow_add-result t c = row_next _ _ _ c.is_full.ensures c.if-is_full.false c.well_formed.1.0.0

pub elements-returns-then-count-eq0 : goal.elements-returns-then-count-eq0
elements-returns-then-count-eq0 t c = search (rules, elements_laws, c.from.ensures ∙ c.stored_of.ensures, c.from-then-opens.ensures ∙ c.stored_of-then-opens.ensures)

pub elements-overflow_add-n : goal.elements-overflow_add-n
elements-overflow_add-n t c = row_next _ _ _ c.is_full.ensures c.if-is_full.false c.well_formed.1.0.0

pub elements-returns-then-opens : goal.elements-returns-then-opens
elements-returns-then-opens t c = search (rules, elements_laws, c.from.ensures ∙ c.stored_of.ensures, c.from-then-opens.ensures ∙ c.stored_of-then-opens.ensures)

pub elements-returns : goal.elements-returns
elements-returns t c = search (rules, elements_laws)

pub listed-returns-then-keeps_ends-primitive : goal.listed-returns-then-keeps_ends-primitive
listed-returns-then-keeps_ends-primitive t c = list_there _ _ _ _ _ _ _ _ _ _ _ c.primitive_element-primitive.ensures _ c.contents_at.ensures _ _ c.in_ok-d.was _ c.cut.ensures _ _ c.is_sequence.ensures (c.from.ensures ∙ c.bound.ensures) _ c.count_at.ensures _ _ c.in_ok-count.was _ c.element.ensures.0 _ _ c.elements-out.ensures _ c.keeps_ends.ensures c.if-keeps_ends-primitive.true _ c.end_at.ensures

pub listed-returns : goal.listed-returns
listed-returns t c = list_rest _ _ _ _ _ _ _ _ _ _ _ c.primitive_element-primitive.ensures _ c.contents_at.ensures _ _ c.in_ok-d.was _ c.cut.ensures _ _ c.is_sequence.ensures (c.from.ensures ∙ c.bound.ensures) _ c.count_at.ensures _ _ c.in_ok-count.was _ c.element.ensures.0 _ _ c.elements-out.ensures _ c.keeps_ends.ensures c.if-keeps_ends-primitive.false

pub value-returns-then-kind-eq-NONE : goal.value-returns-then-kind-eq-NONE
value-returns-then-kind-eq-NONE t c = search (rules, value_laws)

pub value-returns-then-unsupported_member : goal.value-returns-then-unsupported_member
value-returns-then-unsupported_member t c = search (rules, value_laws)

pub value-returns-then-opens : goal.value-returns-then-opens
value-returns-then-opens t c = search (rules, value_laws)

pub value-returns-then-kind : goal.value-returns-then-kind
value-returns-then-kind t c = search (rules, value_laws)

pub value-overflow_add-result : goal.value-overflow_add-result
value-overflow_add-result t c = search (rules, value_laws)

pub value-returns-in-Some : goal.value-returns-in-Some
value-returns-in-Some t c = search (rules, value_laws)

pub value-returns : goal.value-returns
value-returns t c = search (rules, value_laws)

pub listed-returns-in_err-d : goal.listed-returns-in_err-d
listed-returns-in_err-d t c = rw (exits c.from_residual.ensures.1) (list_unread _ _ _ _ _ _ _ _ _ _ _ c.primitive_element-primitive.ensures _ c.contents_at.ensures _ c.in_err-d.was)

pub listed-returns-in_err-count : goal.listed-returns-in_err-count
listed-returns-in_err-count t c = rw (exits c.from_residual-in_err-count.ensures.1) (list_uncounted _ _ _ _ _ _ _ _ _ _ _ c.primitive_element-primitive.ensures _ c.contents_at.ensures _ _ c.in_ok-d.was _ c.cut.ensures _ _ c.is_sequence.ensures (c.from.ensures ∙ c.bound.ensures) _ c.count_at.ensures _ c.in_err-count.was)

pub mmember-overflow_add-result : goal.mmember-overflow_add-result
mmember-overflow_add-result t c = found_fits _ _ _ _ _ _ _ _ _ _ _ refl c.kind_found-kind.ensures (c.from.ensures ∙ c.id-wanted.ensures) _ _ c.any_at.ensures.quickly c.any_at.ensures.taken c.in-Some.is c.well_formed.1.0.0

pub mmember-returns-in-Some : goal.mmember-returns-in-Some
mmember-returns-in-Some t c = mmember_came _ _ _ _ _ _ _ _ _ _ c.id-wanted.ensures _ (sym (found_at _ _ _ c.value_at-d.ensures (c.look_up.ensures.found _ _ c.in-Found.is))) _ _ _ refl _ (own_at _ _ _ _ _ c.value_at-d.ensures (c.cut.ensures ∙ ap (cut_at _ _) (grind arith))) _ _ (found_done _ _ _ _ _ _ _ _ _ _ _ refl c.kind_found-kind.ensures (c.from.ensures ∙ c.id-wanted.ensures) _ _ c.any_at.ensures.quickly c.any_at.ensures.taken c.in-Some.is _ _) _ (is_back _ _ _)

pub mmember-returns-in-Absent : goal.mmember-returns-in-Absent
mmember-returns-in-Absent t c = mmember_absent _ _ _ _ _ _ _ _ _ _ c.id-wanted.ensures _ (sym (c.look_up.ensures.absent c.in-Absent.is)) _ refl

pub located-returns-in_err-found : goal.located-returns-in_err-found
located-returns-in_err-found t c = rw (exits c.from_residual.ensures.1) (mmember_short _ _ _ _ _ _ _ _ _ _ c.requires _ c.locate.ensures _ c.in_err-found.was)

pub located-returns-in_default : goal.located-returns-in_default
located-returns-in_default t c = mmember_absent _ _ _ _ _ _ _ _ _ _ c.requires _ c.locate.ensures _ (with_found c.in_ok-found.was c.in_default.is)

pub located-returns : goal.located-returns
located-returns t c = mmember_came _ _ _ _ _ _ _ _ _ _ c.requires _ c.locate.ensures _ _ _ (with_found c.in_ok-found.was c.in-Some.is) _ c.cut.ensures _ _ c.found.ensures _ (came_read _ _ c.came_back.ensures c.in_ok-m.was)

pub located-returns-in_err-m : goal.located-returns-in_err-m
located-returns-in_err-m t c = rw (exits c.from_residual-in_err-m.ensures.1) (mmember_came _ _ _ _ _ _ _ _ _ _ c.requires _ c.locate.ensures _ _ _ (with_found c.in_ok-found.was c.in-Some.is) _ c.cut.ensures _ _ c.found.ensures _ (sym c.in_err-m.was ∙ c.came_back.ensures))

pub mmembers-returns-in_err-m : goal.mmembers-returns-in_err-m
mmembers-returns-in_err-m t c = rw (exits c.from_residual.ensures.1) (looked_failed c.loop-p.invariant _ _ c.in-Some.ensures.steps c.mmember.ensures _ c.in_err-m.was)

pub mmembers-loop-p-preserved-in_default : goal.mmembers-loop-p-preserved-in_default
mmembers-loop-p-preserved-in_default t c = looked_turn c.loop-p.invariant _ _ c.in-Some.ensures.steps c.mmember.ensures c.in_ok-m.was c.loop-p.invariant.hint

pub parts-returns-in_default : goal.parts-returns-in_default
parts-returns-in_default t c = union_empty _ _ _ _ _ _ _ c.members.ensures _ _ _ _ c.in_default.ensures.steps.0

pub parts-returns-in_err-d : goal.parts-returns-in_err-d
parts-returns-in_err-d t c = rw (exits c.from_residual.ensures.1) (union_failed _ _ _ _ _ _ _ c.members.ensures _ _ _ _ _ _ c.in-Some.ensures.steps _ _ c.first.ensures _ c.in_err-d.was)

pub parts-returns : goal.parts-returns
parts-returns t c = union_read _ _ _ _ _ _ _ c.members.ensures _ _ _ _ _ _ c.in-Some.ensures.steps _ _ c.first.ensures _ _ c.in_ok-d.was _ c.discriminator_at-v.ensures _ _ c.chosen.ensures

pub mmember-returns-in_ok-m-in-Found : goal.mmember-returns-in_ok-m-in-Found
mmember-returns-in_ok-m-in-Found t c = mmember_came _ _ _ _ _ _ _ _ _ _ c.id-wanted.ensures _ (sym (found_at _ _ _ c.value_at-d.ensures (c.look_up.ensures.found _ _ c.in-Found.is))) _ _ _ refl _ (own_at _ _ _ _ _ c.value_at-d.ensures (c.cut.ensures ∙ ap (cut_at _ _) (grind arith))) _ _ (found_left _ _ _ _ _ _ _ _ _ _ _ refl c.kind_found-kind.ensures (c.from.ensures ∙ c.id-wanted.ensures) _ _ c.any_at.ensures.quickly c.any_at.ensures.taken c.in_default.is _ _ c.found.ensures) _ (came_read _ _ c.came_back.ensures c.in_ok-m-in-Found.was)

pub mmember-returns-in_err-m-in-Found : goal.mmember-returns-in_err-m-in-Found
mmember-returns-in_err-m-in-Found t c = rw (exits c.from_residual.ensures.1) (mmember_came _ _ _ _ _ _ _ _ _ _ c.id-wanted.ensures _ (sym (found_at _ _ _ c.value_at-d.ensures (c.look_up.ensures.found _ _ c.in-Found.is))) _ _ _ refl _ (own_at _ _ _ _ _ c.value_at-d.ensures (c.cut.ensures ∙ ap (cut_at _ _) (grind arith))) _ _ (found_left _ _ _ _ _ _ _ _ _ _ _ refl c.kind_found-kind.ensures (c.from.ensures ∙ c.id-wanted.ensures) _ _ c.any_at.ensures.quickly c.any_at.ensures.taken c.in_default.is _ _ c.found.ensures) _ (sym c.in_err-m-in-Found.was ∙ c.came_back.ensures))

pub mmembers-overflow_add-m : goal.mmembers-overflow_add-m
mmembers-overflow_add-m t c = found_next c.loop-p.invariant _ _ _ _ _ (found_taken _ _ _ _ _ _ _ _ _ _ _ refl c.kind_found-kind.ensures (c.from-number.ensures ∙ c.id-wanted.ensures) _ _ c.value_at.ensures.0 c.value_at.ensures.1) c.in-Some-value_at.is c.well_formed.1.0.0

pub mmembers-loop-p-preserved-in-Some-value_at : goal.mmembers-loop-p-preserved-in-Some-value_at
mmembers-loop-p-preserved-in-Some-value_at t c = found_quick c.loop-p.invariant _ _ c.in-Some.ensures.steps (found_at _ _ _ c.value_at-c.ensures (c.ahead.ensures.found _ (looked_aligned c.loop-p.invariant _ _ c.in-Some.ensures.steps) c.loop-p.invariant.hint _ c.in-Some-ahead.is)) (own_at _ _ _ _ _ c.value_at-c.ensures c.cut.ensures) _ _ (found_taken _ _ _ _ _ _ _ _ _ _ _ refl c.kind_found-kind.ensures (c.from-number.ensures ∙ c.id-wanted.ensures) _ _ c.value_at.ensures.0 c.value_at.ensures.1) c.in-Some-value_at.is (hint_on _ _ _ _ c.in-Some-ahead.ahead c.hint_after-h.ensures c.id-wanted.ensures (c.ahead.ensures.on _ c.loop-p.invariant.hint _ c.in-Some-ahead.is))

pub mmembers-loop-p-preserved : goal.mmembers-loop-p-preserved
mmembers-loop-p-preserved t c =
    elim c.if-opens.branch [
      | mmembers-then-opens w ↦ looked_turn (found_still c.loop-p.invariant _ _ _ _ _ (found_taken _ _ _ _ _ _ _ _ _ _ _ refl c.kind_found-kind.ensures (c.from-number.ensures ∙ c.id-wanted.ensures) _ _ c.value_at.ensures.0 c.value_at.ensures.1) c.in_default-value_at.is) _ _ c.in-Some.ensures.steps (found_came (found_still c.loop-p.invariant _ _ _ _ _ (found_taken _ _ _ _ _ _ _ _ _ _ _ refl c.kind_found-kind.ensures (c.from-number.ensures ∙ c.id-wanted.ensures) _ _ c.value_at.ensures.0 c.value_at.ensures.1) c.in_default-value_at.is) _ _ c.in-Some.ensures.steps (found_at _ _ _ c.value_at-c.ensures (c.ahead.ensures.found _ (looked_aligned c.loop-p.invariant _ _ c.in-Some.ensures.steps) c.loop-p.invariant.hint _ c.in-Some-ahead.is)) (own_at _ _ _ _ _ c.value_at-c.ensures c.cut.ensures) (rw (w.t-is, w.read-is) (found_opened _ _ _ _ _ _ _ _ _ _ _ _ w.type_index.ensures.0 (c.from-number.ensures ∙ c.id-wanted.ensures) c.kind_found-kind.ensures _ c.opens.ensures w.if-opens.true _ _ _ w.as_nested-read.ensures)) c.came_back.ensures) c.in_ok-m-2.was (hint_on _ _ _ _ c.in-Some-ahead.ahead c.hint_after-h.ensures c.id-wanted.ensures (c.ahead.ensures.on _ c.loop-p.invariant.hint _ c.in-Some-ahead.is))
      | mmembers-else-opens w ↦ looked_turn (found_still c.loop-p.invariant _ _ _ _ _ (found_taken _ _ _ _ _ _ _ _ _ _ _ refl c.kind_found-kind.ensures (c.from-number.ensures ∙ c.id-wanted.ensures) _ _ c.value_at.ensures.0 c.value_at.ensures.1) c.in_default-value_at.is) _ _ c.in-Some.ensures.steps (found_came (found_still c.loop-p.invariant _ _ _ _ _ (found_taken _ _ _ _ _ _ _ _ _ _ _ refl c.kind_found-kind.ensures (c.from-number.ensures ∙ c.id-wanted.ensures) _ _ c.value_at.ensures.0 c.value_at.ensures.1) c.in_default-value_at.is) _ _ c.in-Some.ensures.steps (found_at _ _ _ c.value_at-c.ensures (c.ahead.ensures.found _ (looked_aligned c.loop-p.invariant _ _ c.in-Some.ensures.steps) c.loop-p.invariant.hint _ c.in-Some-ahead.is)) (own_at _ _ _ _ _ c.value_at-c.ensures c.cut.ensures) (rw (w.t-is, w.read-is) w.found-read.ensures) c.came_back.ensures) c.in_ok-m-2.was (hint_on _ _ _ _ c.in-Some-ahead.ahead c.hint_after-h.ensures c.id-wanted.ensures (c.ahead.ensures.on _ c.loop-p.invariant.hint _ c.in-Some-ahead.is))
    ]

pub mmembers-returns-in_err-m-2 : goal.mmembers-returns-in_err-m-2
mmembers-returns-in_err-m-2 t c =
    rw (exits c.from_residual-in_err-m-2.ensures.1) (elim c.if-opens.branch [
      | mmembers-then-opens w ↦ (looked_failed (found_still c.loop-p.invariant _ _ _ _ _ (found_taken _ _ _ _ _ _ _ _ _ _ _ refl c.kind_found-kind.ensures (c.from-number.ensures ∙ c.id-wanted.ensures) _ _ c.value_at.ensures.0 c.value_at.ensures.1) c.in_default-value_at.is) _ _ c.in-Some.ensures.steps (found_came (found_still c.loop-p.invariant _ _ _ _ _ (found_taken _ _ _ _ _ _ _ _ _ _ _ refl c.kind_found-kind.ensures (c.from-number.ensures ∙ c.id-wanted.ensures) _ _ c.value_at.ensures.0 c.value_at.ensures.1) c.in_default-value_at.is) _ _ c.in-Some.ensures.steps (found_at _ _ _ c.value_at-c.ensures (c.ahead.ensures.found _ (looked_aligned c.loop-p.invariant _ _ c.in-Some.ensures.steps) c.loop-p.invariant.hint _ c.in-Some-ahead.is)) (own_at _ _ _ _ _ c.value_at-c.ensures c.cut.ensures) (rw (w.t-is, w.read-is) (found_opened _ _ _ _ _ _ _ _ _ _ _ _ w.type_index.ensures.0 (c.from-number.ensures ∙ c.id-wanted.ensures) c.kind_found-kind.ensures _ c.opens.ensures w.if-opens.true _ _ _ w.as_nested-read.ensures)) c.came_back.ensures) _ c.in_err-m-2.was)
      | mmembers-else-opens w ↦ (looked_failed (found_still c.loop-p.invariant _ _ _ _ _ (found_taken _ _ _ _ _ _ _ _ _ _ _ refl c.kind_found-kind.ensures (c.from-number.ensures ∙ c.id-wanted.ensures) _ _ c.value_at.ensures.0 c.value_at.ensures.1) c.in_default-value_at.is) _ _ c.in-Some.ensures.steps (found_came (found_still c.loop-p.invariant _ _ _ _ _ (found_taken _ _ _ _ _ _ _ _ _ _ _ refl c.kind_found-kind.ensures (c.from-number.ensures ∙ c.id-wanted.ensures) _ _ c.value_at.ensures.0 c.value_at.ensures.1) c.in_default-value_at.is) _ _ c.in-Some.ensures.steps (found_at _ _ _ c.value_at-c.ensures (c.ahead.ensures.found _ (looked_aligned c.loop-p.invariant _ _ c.in-Some.ensures.steps) c.loop-p.invariant.hint _ c.in-Some-ahead.is)) (own_at _ _ _ _ _ c.value_at-c.ensures c.cut.ensures) (rw (w.t-is, w.read-is) w.found-read.ensures) c.came_back.ensures) _ c.in_err-m-2.was)
    ])
