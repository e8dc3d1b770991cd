use mathlib.Core.Path.{refl, ◌∙◌}
use Rattle.reader.proofs.ListSteps.{list_none, list_array, list_sequence}
use borrow.Author.Rules.{rules}
use Rattle.reader.proofs.Deserializer.list.Goals as goal

pub returns-then-of : goal.returns-then-of
returns-then-of c = search (rules, list_none)

pub returns-then-is_primitive-kind : goal.returns-then-is_primitive-kind
returns-then-is_primitive-kind c = search (rules, list_none)

pub returns-then-of-eq-ARRAY : goal.returns-then-of-eq-ARRAY
returns-then-of-eq-ARRAY c = list_array _ _ _ _ _ _ _ _ _ _ _ c.place-at.ensures c.kind_at-of.ensures _ _ _ refl c.element_place.ensures c.kind_at-kind.ensures _ c.is_primitive.ensures c.if-is_primitive-kind.false _ _ c.if-of-eq-ARRAY.true _ (c.from.ensures ∙ c.bound.ensures) c.list_at.ensures

pub returns-then-r-p : goal.returns-then-r-p
returns-then-r-p c = search (rules, list_none)

pub returns : goal.returns
returns c = list_sequence _ _ _ _ _ _ _ _ _ _ _ c.place-at.ensures c.kind_at-of.ensures _ _ _ refl c.element_place.ensures c.kind_at-kind.ensures _ c.is_primitive.ensures c.if-is_primitive-kind.false _ _ c.if-of.false c.if-of-eq-ARRAY.false _ _ _ c.start-p.ensures.0 c.if-r-p.false c.from_bytes-count.ensures.0 c.new.ensures c.list_at-2.ensures
