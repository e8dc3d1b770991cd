-- For each function of the cycle, the laws that its answers cite.
use Rattle.table.proofs.Filling.{full_fits}
use Rattle.values.proofs.Quickly.{quick_next}
use Rattle.values.proofs.Scalars.{row_next}
use Rattle.reader.proofs.RunSteps.{run_start, run_end}
use Rattle.reader.proofs.ValueSteps.{elements_unsupported, elements_full, elements_opened, elements_none, elements_plain, value_none, value_unsupported, value_nested, value_list, value_taken, value_left, list_unread, list_uncounted, list_there, list_rest}
use Rattle.reader.proofs.ListSteps.{list_taken, list_left}
use Rattle.reader.proofs.MemberSteps.{found_length, found_value_law, found_opens, mmember_short, mmember_absent, mmember_came, optional_looked, optional_unread, optional_absent, optional_present, fmember_optional, fmember_value}
use Rattle.reader.proofs.StructureSteps.{fmembers_start, fmembers_end}
use Rattle.reader.proofs.LookedSteps.{mstruct_short, mstruct_members, mstruct_hint}
use Rattle.reader.proofs.UnionSteps.{chosen_failed, chosen_none, chosen_looked, chosen_plain, union_empty, union_failed, union_read, discriminator_looked, discriminator_plain}
use Rattle.reader.proofs.NestedSteps.{body_enum, body_unread, body_mstruct, body_failed, body_there, body_rest, members_structure, members_union}

pub ruleset as_nested_laws = (run_start, run_end)

pub ruleset body_laws = (body_enum, body_unread, body_mstruct, body_failed, body_there, body_rest, mstruct_short, mstruct_members, mstruct_hint)

pub ruleset inner_laws = (members_structure, members_union)

pub ruleset fstruct_laws = (fmembers_start, fmembers_end)

pub ruleset mmembers_laws = (row_next)

pub ruleset parts_laws = (union_empty, union_failed, union_read)

pub ruleset first_laws = (discriminator_looked, discriminator_plain)

pub ruleset chosen_laws = (fmember_optional, fmember_value, chosen_failed, chosen_none, chosen_looked, chosen_plain)

pub ruleset single_laws = (tt)

pub ruleset fmember_laws = (tt)

pub ruleset rest_laws = (fmember_optional, fmember_value, list_taken, list_left)

pub ruleset option_laws = (optional_looked, optional_unread, optional_absent, optional_present)

pub ruleset mmember_laws = (mmember_short, mmember_absent, mmember_came)

pub ruleset found_laws = (found_opens, found_length, found_value_law)

pub ruleset value_laws = (value_none, value_unsupported, value_nested, value_list, value_taken, value_left, quick_next)

pub ruleset listed_laws = (list_unread, list_uncounted, list_there, list_rest)

pub ruleset elements_laws = (elements_unsupported, elements_full, elements_none, elements_opened, elements_plain, full_fits, row_next)
