-- Laws of the answers that C sees: the two words of a shortage, and what is told of a book in one word, which fits. Assumes nothing.
use Rattle.std.specs.Prelude.{Err}
use mathlib.Core.Path.{◌≡◌, sym, ap, ◌∙◌}
use mathlib.Core.List.{List}
use Prim.Native.Nat.{ℕ, ◌+◌, ◌*◌, ◌^◌, ◌≤◌, ◌<◌}
use native.Mathlib.Omega.{arith}
use Rattle.wire.specs.declared.cursor.Told.{Told}
use Rattle.wire.specs.declared.settings.Mode.{Mode}
use Rattle.book.specs.declared.fault.Fault.{Fault}
use Rattle.book.specs.Fault.{Verdict, fault_of}
use Rattle.book.proofs.Faults.{told_short}
use Rattle.sinotayam.specs.declared.answer.Answer.{Answer}
use Rattle.sinotayam.specs.Answer.{mode_of, Result, Settled, Tells}
use Rattle.sinotayam.specs.Entry.{read_of}
use Rattle.sinotayam.specs.Prepared.{read_prepared}

tells : (w : Result) (t v : List ℕ) (a : Answer) (p n : ℕ) → Settled w t v a → p ≡ a.told.position → n ≡ a.told.need → Tells w p n
tells w t v a p n d f g = record { position = f ∙ ap (λ (x : Told). x.position) d.told; need = g ∙ ap (λ (x : Told). x.need) d.told }

-- the two words, by what is told
pub tells_read : (b : List ℕ) (root : ℕ) (message : List ℕ) (m : Mode) (k room : ℕ) (t v : List ℕ) (a : Answer) (p n : ℕ) → m ≡ mode_of k → Settled (read_of b root message m room) t v a → p ≡ a.told.position → n ≡ a.told.need → Tells (read_of b root message (mode_of k) room) p n
tells_read b root message m k room t v a p n e d f g = tells _ t v a p n (rw e at d) f g

pub tells_prepared : (b index : List ℕ) (root : ℕ) (message : List ℕ) (m : Mode) (k room : ℕ) (t v : List ℕ) (a : Answer) (p n : ℕ) → m ≡ mode_of k → Settled (read_prepared b index root message m room) t v a → p ≡ a.told.position → n ≡ a.told.need → Tells (read_prepared b index root message (mode_of k) room) p n
tells_prepared b index root message m k room t v a p n e d f g = tells _ t v a p n (rw e at d) f g

-- what is wrong with a book, in one word
module _ (b : List ℕ) (f : Verdict) (found : f ≡ fault_of b) where
  module _ (x : Fault) (e : f ≡ Err x) where
    two_bytes : x.at ≤ 65535
    two_bytes = told_short b x.at x.reason (sym found ∙ e)

    pub fault_mul : x.at * 256 < 2 ^ 64
    fault_mul = omega (arith, two_bytes)

    module _ (n w : ℕ) (h : n < 256) (i : w ≡ n) where
      pub fault_add : x.at * 256 + w < 2 ^ 64
      fault_add = omega (arith, two_bytes)

      pub fault_cast : x.at * 256 + w < 2 ^ 32
      fault_cast = omega (arith, two_bytes)
