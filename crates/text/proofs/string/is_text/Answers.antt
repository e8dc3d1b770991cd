-- `text::string::is_text` meets its contract: the part that is lent is the part that is meant. Assumes nothing.
use mathlib.Core.Path.{◌∙◌, ap}
use Prim.Native.Nat.{ℕ}
use native.Mathlib.Nat.{add-sub_cancel_left}
use lib.ListN.{take, drop}
use Rattle.text.specs.Unicode.{utf8}
use Rattle.text.proofs.string.is_text.Goals as goal

pub returns : goal.returns
returns c = let a = c.args in
    c.is_utf8.ensures ∙ ap (λ (k : ℕ). utf8 (take k (drop a.start a.s.now))) (add-sub_cancel_left a.start a.n)
