use Rattle.choice.proofs.Selection.{same_bits, value_default, value_first, value_none}
use borrow.Author.Rules.{rules}
use Rattle.choice.proofs.select.default_value.Goals as goal

pub returns-in-Some : goal.returns-in-Some
returns-in-Some c = search (rules, same_bits, value_default)

pub returns-in-Some-next : goal.returns-in-Some-next
returns-in-Some-next c =
    same_bits _ _ (record { sfits = c.label-in-Some-next.type_inv }) (value_first _ _ _ c.kind.ensures.0 c.if-kind-eq-ENUM.true _ c.first_default.ensures c.in_default.is _ c.members-literals.ensures _ _ c.in-Some-next.ensures.steps _ c.label-in-Some-next.ensures)

pub returns-else-kind-eq-ENUM : goal.returns-else-kind-eq-ENUM
returns-else-kind-eq-ENUM c = search (rules, value_none)
