use Rattle.values.proofs.Scalars.{number_some, number_most, scalar_boolean, scalar_float128, scalar_char16, scalar_string, scalar_wstring, scalar_number, scalar_none}
use borrow.Author.Rules.{rules}
use Rattle.values.proofs.scalar.scalar.Goals as goal

pub number-requires : goal.number-requires
number-requires c = search (rules, number_some, number_most)

pub returns-then-is_primitive : goal.returns-then-is_primitive
returns-then-is_primitive c = search (rules, scalar_boolean, scalar_float128, scalar_string, scalar_wstring, scalar_number)

pub returns-in-1 : goal.returns-in-1
returns-in-1 c = search (rules, scalar_boolean, scalar_float128, scalar_string, scalar_wstring, scalar_number)

pub returns-in-11 : goal.returns-in-11
returns-in-11 c = search (rules, scalar_boolean, scalar_float128, scalar_string, scalar_wstring, scalar_number)

pub returns-in-15 : goal.returns-in-15
returns-in-15 c = search (rules, scalar_boolean, scalar_float128, scalar_char16, scalar_string, scalar_wstring, scalar_number, scalar_none)

pub returns-in-16 : goal.returns-in-16
returns-in-16 c = search (rules, scalar_boolean, scalar_float128, scalar_string, scalar_wstring, scalar_number)

pub returns-in-17 : goal.returns-in-17
returns-in-17 c = search (rules, scalar_boolean, scalar_float128, scalar_string, scalar_wstring, scalar_number)

pub returns-else-is_primitive : goal.returns-else-is_primitive
returns-else-is_primitive c = search (rules, scalar_boolean, scalar_float128, scalar_char16, scalar_string, scalar_wstring, scalar_number, scalar_none)
