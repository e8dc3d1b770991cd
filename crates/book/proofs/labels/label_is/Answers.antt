-- `book::labels::label_is`: two signed numbers are the same where their bits are.
use mathlib.Core.Path.{◌∙◌, ap}
use Rattle.wire.specs.Signed.{same_z}
use Rattle.wire.proofs.Words.{same_bits}
use Rattle.book.proofs.labels.label_is.Goals as goal

pub returns : goal.returns
returns c = same_bits _ _ c.ranges.d (record { sfits = c.label-l.type_inv }) ∙ ap (same_z _) c.label-l.ensures
