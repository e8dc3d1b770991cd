use Rattle.sinotayam.proofs.Packing.{fault_mul, fault_add, fault_cast}
use borrow.Author.Rules.{rules}
use Rattle.sinotayam.proofs.c.sinotayam_fault.Goals as goal

pub overflow_mul-result : goal.overflow_mul-result
overflow_mul-result c = record { fits = search (rules, fault_mul) }

pub overflow_add-result : goal.overflow_add-result
overflow_add-result c = record { fits = search (rules, fault_add) }

pub overflow_cast-result : goal.overflow_cast-result
overflow_cast-result c = record { fits = search (rules, fault_cast) }
