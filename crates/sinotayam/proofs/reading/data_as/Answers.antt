use Rattle.sinotayam.proofs.Settling.{whole_fits, whole_read, whole_short, whole_refused}
use borrow.Author.Rules.{rules}
use Rattle.sinotayam.proofs.reading.data_as.Goals as goal

pub clear_after-requires : goal.clear_after-requires
clear_after-requires c = search (rules, whole_fits)

pub returns-in-Ok : goal.returns-in-Ok
returns-in-Ok c = search (rules, whole_read)

pub returns-in-Err-Short : goal.returns-in-Err-Short
returns-in-Err-Short c = search (rules, whole_short)

pub returns-in-Err-Refused : goal.returns-in-Err-Refused
returns-in-Err-Refused c = search (rules, whole_refused)
