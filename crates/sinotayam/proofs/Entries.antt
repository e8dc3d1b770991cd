-- Laws of the entry points: how many types an index tells of, and what a message is read as once it is not refused. Assumes nothing.
use mathlib.Core.Path.{◌≡◌, refl, ap}
use mathlib.Core.List.{List, [], ◌∷◌}
use Prim.Native.Nat.{ℕ, suc, ◌-◌, ◌≤◌, ◌<◌}
use native.Mathlib.Omega.{arith}
use lib.ListN.{length, get_or, take, drop, length-drop}
use lib.Seq.{take_all}
use borrow.Author.Tests.{lt-leb, le-ltb}
use Rattle.wire.specs.declared.settings.Mode.{Mode}
use Rattle.wire.specs.Identifier.{settings_of}
use Rattle.book.specs.Places.{types_by}
use Rattle.sinotayam.specs.declared.answer.Answer.{Answer}
use Rattle.sinotayam.specs.Answer.{Settled}
use Rattle.sinotayam.specs.Entry.{refused_if, short_if, by_identifier, message_by}
use Rattle.sinotayam.proofs.Settling.{settled_same}

pub length_types : (b places : List ℕ) → length (types_by b places) ≡ length places
unfolding types_by
length_types b [] = refl
length_types b (p ∷ ps) = ap suc (length_types b ps)

-- a message, by the places of the types
module _ (b places : List ℕ) (root : ℕ) (message : List ℕ) (mode : Mode) (room : ℕ) (t v : List ℕ) (r : Answer) where
  -- the code lends the message from its fifth byte to its end
  pub message_rest : root < length places → length message ≤ 65536 → 4 ≤ length message → Settled (by_identifier (types_by b places) root (take (length message - 4) (drop 4 message)) room (settings_of mode (get_or message 0 0) (get_or message 1 0))) t v r → Settled (message_by (types_by b places) root message mode room) t v r
  unfolding message_by refused_if short_if
  message_rest h k l d =
      let e : take (length message - 4) (drop 4 message) ≡ drop 4 message = take_all (length message - 4) (drop 4 message) (simp length-drop (omega arith)) in
      settled_same (rw (length_types b places, lt-leb (length places) root h, le-ltb 65536 (length message) k, le-ltb (length message) 4 l)) (rw e at d)
