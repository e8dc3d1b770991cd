-- The check, as it is worked out record by record, passes exactly the types of the description: both ways. Assumes nothing.
use Prim.Native.Nat.{ℕ, zero, suc, ◌≤◌, ◌<◌, max}
use mathlib.Core.Path.{◌≡◌, refl, sym, ◌∙◌}
use mathlib.Core.Logic.{⊎_elim, ◌⊎◌, inl, inr}
use mathlib.Core.Bool.{Bool, true, false}
use mathlib.Core.List.Memᴰ
use mathlib.Core.List.{List, [], ◌∷◌}
use native.Mathlib.Omega.{arith}
use native.Mathlib.Nat.{eq-or-lt_of_le}
use lib.ListN.{length, get_or, length-append, get_or-append, get_or-eq_default}
use lib.Seq.{get_or_at}
use lib.Dec.{ltb, leb}
use borrow.Author.Tests.{ltb-true, ltb-false, leb-true, le-leb}
use Rattle.ground.proofs.Tests.{apart, both_first, both_second}
use Rattle.kinds.specs.Kinds.{opens}
use Rattle.book.specs.Types.{BookType, type_no}
use Rattle.shape.specs.Shape.{OneOf}
use Rattle.fit.specs.Fit.{Reach, here, there, Chain, last, opened, passed, Clause, Fit, Passes, links_of, meets}
use Rattle.fit.specs.Code.Check.{too_long, longest_from, with_own, chain_of, chains_of, fits}
use Rattle.fit.proofs.Ends.{by_test}
use Rattle.fit.proofs.Fits.{fit_next, fit_below}

-- every link is below its own record: a rule of the book
abbrev pub Linked : List BookType → Type 0
Linked types = (ty next : ℕ) → OneOf next (links_of (type_no types ty)) → next < ty

pub below_or_not : (a b : ℕ) → (a < b) ⊎ (b ≤ a)
below_or_not a b = go (ltb a b) refl
  where
    go : (t : Bool) → ltb a b ≡ t → (a < b) ⊎ (b ≤ a)
    go true e = inl (ltb-true a b e)
    go false e = inr (ltb-false a b e)

-- ---- what makes a type fit

module _ {clauses : List Clause} {types : List BookType} {longest ty : ℕ} (met : meets clauses types (type_no types ty) ≡ true) (below : (k : ℕ) → OneOf k (links_of (type_no types ty)) → Fit clauses types longest k) where
  fit_made : (depth : ℕ) → ((n : ℕ) → Chain types ty n → n ≤ depth) → Fit clauses types depth ty
  fit_made depth chains = record { each = each; chains = chains }
    where
      each : (k : ℕ) → Reach types ty k → meets clauses types (type_no types k) ≡ true
      each k here = met
      each k (there l r) = (below _ l).each k r

  fit_flat : opens (type_no types ty).kind ≡ false → Fit clauses types longest ty
  fit_flat flat = fit_made longest go
    where
      go : (n : ℕ) → Chain types ty n → n ≤ longest
      go n (last o) = absurd (apart (sym flat ∙ o))
      go n (opened o l c) = absurd (apart (sym flat ∙ o))
      go n (passed l c) = (below _ l).chains n c

  fit_open : Fit clauses types (suc longest) ty
  fit_open = fit_made (suc longest) go
    where
      go : (n : ℕ) → Chain types ty n → n ≤ suc longest
      go n (last o) = omega arith
      go n (opened {n = m} o l c) = omega (arith, (below _ l).chains m c)
      go n (passed l c) = omega (arith, (below _ l).chains n c)

-- ---- the greatest is at most d exactly when each is

module _ (lower : List ℕ) (d : ℕ) where
  start_most : (m : ℕ) (ks : List ℕ) → longest_from lower m ks ≤ d → m ≤ d
  unfolding longest_from
  start_most m [] h = h
  start_most m (k ∷ ks) h = omega (arith, start_most (max m (get_or lower k too_long)) ks h)

  each_most : (m : ℕ) (ks : List ℕ) → longest_from lower m ks ≤ d → (k : ℕ) → OneOf k ks → get_or lower k too_long ≤ d
  unfolding longest_from
  each_most m [] h k o = elim o [ ]
  each_most m (x ∷ xs) h k (Memᴰ.head e) = rw e (omega (arith, start_most (max m (get_or lower x too_long)) xs h))
  each_most m (x ∷ xs) h k (Memᴰ.tail o) = each_most (max m (get_or lower x too_long)) xs h k o

  most_each : (m : ℕ) (ks : List ℕ) → m ≤ d → ((k : ℕ) → OneOf k ks → get_or lower k too_long ≤ d) → longest_from lower m ks ≤ d
  unfolding longest_from
  most_each m [] h each = h
  most_each m (k ∷ ks) h each =
      most_each (max m (get_or lower k too_long)) ks (omega (arith, each k (Memᴰ.head refl))) (λ x o. each x (Memᴰ.tail o))

-- ---- one record, given the lower ones

module _ (clauses : List Clause) (types : List BookType) (lower : List ℕ) (ty d : ℕ) (small : d ≤ 16) where
  abbrev most : ℕ
  most = longest_from lower 0 (links_of (type_no types ty))

  -- what is passed is fit
  chain_fit : ((k e : ℕ) → e ≤ 16 → get_or lower k too_long ≤ e → Fit clauses types e k) → chain_of clauses types lower (type_no types ty) ≤ d → Fit clauses types d ty
  unfolding chain_of with_own
  chain_fit below =
      let t = type_no types ty in
      let F : ℕ → Type 0 = λ m. m ≤ d → Fit clauses types d ty in
      by_test F (meets clauses types t) (λ e.
      by_test F (ltb 16 most) (λ far h. absurd (omega arith)) (λ near.
      by_test F (opens t.kind) (λ o h. own d small h e) (λ flat h.
      fit_flat e (λ k l. below k d small (each_most lower d 0 (links_of t) h k l)) flat))) (λ e h.
      absurd (omega arith))
    where
      own : (n : ℕ) → n ≤ 16 → suc most ≤ n → meets clauses types (type_no types ty) ≡ true → Fit clauses types n ty
      own zero s h m = absurd (omega arith)
      own (suc n) s h m = fit_open m (λ k l. below k n (omega arith) (each_most lower n 0 (links_of (type_no types ty)) (omega arith) k l))

  -- what is fit is passed
  fit_chain : Linked types → ((k e : ℕ) → k < ty → e ≤ 16 → Fit clauses types e k → get_or lower k too_long ≤ e) → Fit clauses types d ty → chain_of clauses types lower (type_no types ty) ≤ d
  unfolding chain_of with_own
  fit_chain linked below f =
      let t = type_no types ty in
      let F : ℕ → Type 0 = λ m. m ≤ d in
      let all : most ≤ d = most_each lower d 0 (links_of t) (omega arith) (λ k l. below k d (linked ty k l) small (fit_next l f)) in
      by_test F (meets clauses types t) (λ e.
      by_test F (ltb 16 most) (λ far. absurd (omega (arith, ltb-true 16 most far))) (λ near.
      by_test F (opens t.kind) (λ o. own d small o f) (λ flat. all))) (λ e. absurd (apart (sym e ∙ f.each ty here)))
    where
      own : (n : ℕ) → n ≤ 16 → opens (type_no types ty).kind ≡ true → Fit clauses types n ty → suc most ≤ n
      own zero s o f = absurd (omega (arith, f.chains 1 (last o)))
      own (suc n) s o f = omega (arith, most_each lower n 0 (links_of (type_no types ty)) (omega arith) (λ k l. below k n (linked ty k l) (omega arith) (fit_below o l f)))

-- ---- all records

module _ (clauses : List Clause) (types : List BookType) where
  pub chains_length : (n : ℕ) → length (chains_of clauses types n) ≡ n
  unfolding chains_of
  chains_length zero = refl
  chains_length (suc n) = rw length-append (omega (arith, chains_length n))

  chains_at : (n k : ℕ) → k < n → get_or (chains_of clauses types n) k too_long ≡ chain_of clauses types (chains_of clauses types k) (type_no types k)
  unfolding chains_of
  chains_at zero k h = absurd (omega arith)
  chains_at (suc n) k h =
      ⊎_elim
      (λ (e : k ≡ n). rw e (get_or_at (chains_of clauses types n) (chain_of clauses types (chains_of clauses types n) (type_no types n)) [] too_long n (chains_length n)))
      (λ (g : k < n). get_or-append (chains_of clauses types n) _ too_long k (omega (arith, chains_length n)) ∙ chains_at n k g)
      (eq-or-lt_of_le (omega arith))

  chains_past : (n k : ℕ) → n ≤ k → get_or (chains_of clauses types n) k too_long ≡ too_long
  chains_past n k h = get_or-eq_default (chains_of clauses types n) too_long {n = k} (omega (arith, chains_length n))

  passed_fit : (n k d : ℕ) → d ≤ 16 → get_or (chains_of clauses types n) k too_long ≤ d → Fit clauses types d k
  passed_fit zero k d s h = absurd (omega (arith, chains_past 0 k (omega arith)))
  passed_fit (suc n) k d s h =
      ⊎_elim
      (λ (g : k < suc n). chain_fit clauses types (chains_of clauses types k) k d s (λ u e small z.
      ⊎_elim
      (λ (q : u < k). passed_fit n u e small (omega (arith, chains_at n u (omega arith), chains_at k u q)))
      (λ (q : k ≤ u). absurd (omega (arith, chains_past k u q))) (below_or_not u k))
      (rw (chains_at (suc n) k g) at h))
      (λ (g : suc n ≤ k). absurd (omega (arith, chains_past (suc n) k g)))
      (below_or_not k (suc n))

  fit_passed : Linked types → (n k d : ℕ) → k < n → d ≤ 16 → Fit clauses types d k → get_or (chains_of clauses types n) k too_long ≤ d
  fit_passed linked zero k d h s f = absurd (omega arith)
  fit_passed linked (suc n) k d h s f =
      rw (chains_at (suc n) k h)
      (fit_chain clauses types (chains_of clauses types k) k d s linked (λ u e z small g. omega (arith, fit_passed linked n u e (omega arith) small g, chains_at n u (omega arith), chains_at k u z)) f)

  -- WHAT THE CHECK PASSES HAS THE DESCRIPTION
  pub fits_passes : (root : ℕ) → fits clauses types root ≡ true → Passes clauses types root
  unfolding fits
  fits_passes root e =
      let chain = chain_of clauses types (chains_of clauses types root) (type_no types root) in
      record {
        kind = both_first (opens (type_no types root).kind) (leb chain 16) e;
        fit =
            chain_fit clauses types (chains_of clauses types root) root 16 (omega arith) (λ k d small h. passed_fit root k d small h)
            (leb-true chain 16 (both_second (opens (type_no types root).kind) (leb chain 16) e));
      }

  -- WHAT HAS THE DESCRIPTION PASSES
  pub passes_fits : Linked types → (root : ℕ) → Passes clauses types root → fits clauses types root ≡ true
  unfolding fits
  passes_fits linked root p =
      rw p.kind
      (le-leb (chain_of clauses types (chains_of clauses types root) (type_no types root)) 16
      (fit_chain clauses types (chains_of clauses types root) root 16 (omega arith) linked (λ k d h small f. fit_passed linked root k d h small f) p.fit))
