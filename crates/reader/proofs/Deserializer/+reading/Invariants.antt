-- The measures of the reader's cycle (the place of `depth`, and a function's rank), and the invariants of its loops.
use Prim.Native.Nat.{◌+◌, ◌*◌}
use Rattle.table.specs.Rows.{room}
use Rattle.reader.specs.Code.Cycle.{its_types, bytes, set, nest, run_in, fmembers_in, mmembers_in}
use Rattle.reader.proofs.RunSteps.{RunSofar}
use Rattle.reader.proofs.LookedSteps.{LookedSofar}
use Rattle.book.specs.Places.{type_at}
use Rattle.reader.proofs.StructureSteps.{FinalSofar}
use Rattle.reader.proofs.Deserializer.+reading.Given as goal

abbrev pub decreases-as_nested : goal.decreases-as_nested
decreases-as_nested l = 15 * l.depth

abbrev pub decreases-body : goal.decreases-body
decreases-body l = 15 * l.depth + 13

abbrev pub decreases-fmember : goal.decreases-fmember
decreases-fmember l = 15 * l.depth + 10

abbrev pub decreases-inner : goal.decreases-inner
decreases-inner l = 15 * l.depth + 12

abbrev pub decreases-found : goal.decreases-found
decreases-found l = 15 * l.depth + 5

abbrev pub decreases-located : goal.decreases-located
decreases-located l = 15 * l.depth + 6

abbrev pub decreases-mmember : goal.decreases-mmember
decreases-mmember l = 15 * l.depth + 7

abbrev pub decreases-option : goal.decreases-option
decreases-option l = 15 * l.depth + 8

abbrev pub decreases-rest : goal.decreases-rest
decreases-rest l = 15 * l.depth + 9

abbrev pub decreases-single : goal.decreases-single
decreases-single l = 15 * l.depth + 1

abbrev pub decreases-fstruct : goal.decreases-fstruct
decreases-fstruct l = 15 * l.depth + 11

abbrev pub decreases-mmembers : goal.decreases-mmembers
decreases-mmembers l = 15 * l.depth + 10

abbrev pub decreases-chosen : goal.decreases-chosen
decreases-chosen l = 15 * l.depth + 9

abbrev pub decreases-first : goal.decreases-first
decreases-first l = 15 * l.depth + 9

abbrev pub decreases-parts : goal.decreases-parts
decreases-parts l = 15 * l.depth + 10

abbrev pub decreases-elements : goal.decreases-elements
decreases-elements l = 15 * l.depth + 1

abbrev pub decreases-listed : goal.decreases-listed
decreases-listed l = 15 * l.depth + 3

abbrev pub decreases-value : goal.decreases-value
decreases-value l = 15 * l.depth + 4

abbrev pub invariant-as_nested-loop-i : goal.invariant-as_nested-loop-i
invariant-as_nested-loop-i l = RunSofar (nest l.self l.depth) (bytes l.self l.depth) l.ty l.count (run_in l.self l.depth l.ty l.initial.number l.count l.initial.place (room l.initial.t l.n)) l.n l.initial.t l.t l.number l.i l.place l.m

abbrev pub invariant-fstruct-loop-p : goal.invariant-fstruct-loop-p
invariant-fstruct-loop-p l = FinalSofar (its_types l.self l.depth) (bytes l.self l.depth) (set l.self l.depth) (nest l.self l.depth) l.self.types.book.now l.at (fmembers_in l.self l.depth (type_at l.self.types.book.now l.at) l.initial.place (room l.initial.t l.n)) l.n l.initial.t l.t l.p-iterator l.place l.m

abbrev pub invariant-mmembers-loop-p : goal.invariant-mmembers-loop-p
invariant-mmembers-loop-p l = LookedSofar (its_types l.self l.depth) (bytes l.self l.depth) (set l.self l.depth) (nest l.self l.depth) l.back l.self.types.book.now l.end (mmembers_in l.self l.depth (type_at l.self.types.book.now l.at) l.end l.back (room l.initial.t l.n)) l.n l.initial.t l.t l.p-iterator l.m l.h
