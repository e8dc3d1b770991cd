-- `book::member::label` is the signed number of the four bytes, 0 past the last label.
use Rattle.book.proofs.Places.{label_none, label_here}
use mathlib.Core.Path.{◌∙◌, ap}
use mir.Syntax.{w32}
use mir.Val.{to_z}
use mir.Facts.{to_z-of_z}
use Rattle.book.proofs.member.label.Goals as goal

pub returns-then-label_count-i : goal.returns-then-label_count-i
returns-then-label_count-i c = label_none _ _ _ c.label_count.ensures.0 c.if-label_count-i.true

pub returns : goal.returns
returns c = to_z-of_z {w = w32} {z = c.as_i32.result} (record { sfits = c.as_i32.type_inv })
    ∙ c.as_i32.ensures
    ∙ ap (to_z w32) c.quad_at.ensures
    ∙ label_here _ _ _ c.label_count.ensures.0 c.if-label_count-i.false
