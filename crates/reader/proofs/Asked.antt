-- Laws of what the cycle asks of a type or a member for a rule of its own. Assumes nothing.
use Prim.Native.Nat.{ℕ, ◌/◌, ◌<◌}
use mathlib.Core.Path.{◌≡◌, ap, ◌∙◌}
use mathlib.Core.List.{List}
use Rattle.kinds.specs.Kinds.{element_size_of}
use Rattle.kinds.proofs.Table.{element_some}
use Rattle.book.specs.Types.{BookType, type_no}
use Rattle.book.specs.Places.{type_at, types_by, PlaceOf}
use Rattle.reader.specs.Member.{element_count}

-- how many elements a length holds, by the element's kind
module _ (b index : List ℕ) (t : BookType) (ty q k : ℕ) (element : ty ≡ t.element) (at : PlaceOf b index ty q) (kind : k ≡ (type_at b q).kind) where
  pub count_is : (x : ℕ) → x ≡ element_size_of k → (length : ℕ) → length / x ≡ element_count (types_by b index) t length
  unfolding element_count
  count_is x e length = rw e (ap (λ (n : ℕ). length / element_size_of n) (kind ∙ ap (λ (x : BookType). x.kind) at.is ∙ ap (λ (n : ℕ). (type_no (types_by b index) n).kind) element))

pub size_some : (k x : ℕ) → x ≡ element_size_of k → 0 < x
size_some k x e = rw e (element_some k)
