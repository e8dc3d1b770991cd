-- Laws of the description of a fit type, for whatever clauses: what it leads to, one clause by itself, fewer clauses. Assumes nothing.
use Prim.Native.Nat.{ℕ, suc}
use mathlib.Core.Path.{◌≡◌, refl}
use mathlib.Core.Bool.{Bool, true}
use mathlib.Core.List.Memᴰ
use mathlib.Core.List.{List, [], ◌∷◌}
use native.Mathlib.Omega.{arith}
use Rattle.ground.specs.Choice.{every}
use Rattle.ground.proofs.Tests.{both_first, both_second}
use Rattle.kinds.specs.Kinds.{opens}
use Rattle.book.specs.Types.{BookType, type_no}
use Rattle.shape.specs.Shape.{OneOf}
use Rattle.fit.specs.Fit.{here, there, opened, passed, Clause, Fit, Passes, links_of, meets, members_supported, element_supported, base_supported, discriminator_fits, check_clauses}

-- what holds of each holds of one, and the other way round
pub every_one : {A : Type 0} (f : A → Bool) (xs : List A) (x : A) → every f xs ≡ true → OneOf x xs → f x ≡ true
unfolding every
every_one f [] x h o = elim o [ ]
every_one f (y ∷ ys) x h (Memᴰ.head e) = rw e (both_first (f y) (every f ys) h)
every_one f (y ∷ ys) x h (Memᴰ.tail o) = every_one f ys x (both_second (f y) (every f ys) h) o

one_every : {A : Type 0} (f : A → Bool) (xs : List A) → ((x : A) → OneOf x xs → f x ≡ true) → every f xs ≡ true
unfolding every
one_every f [] h = refl
one_every f (x ∷ xs) h = rw (h x (Memᴰ.head refl)) (one_every f xs (λ y o. h y (Memᴰ.tail o)))

module _ {clauses : List Clause} {types : List BookType} {longest ty : ℕ} where
  -- what is fit leads to what is fit
  pub fit_next : {next : ℕ} → OneOf next (links_of (type_no types ty)) → Fit clauses types longest ty → Fit clauses types longest next
  fit_next l f = record { each = λ k r. f.each k (there l r); chains = λ n c. f.chains n (passed l c) }

  pub fit_below : {next : ℕ} → opens (type_no types ty).kind ≡ true → OneOf next (links_of (type_no types ty)) → Fit clauses types (suc longest) ty → Fit clauses types longest next
  fit_below o l f = record { each = λ k r. f.each k (there l r); chains = λ n c. omega (arith, f.chains (suc n) (opened o l c)) }

  -- a clause that is asked holds of the type itself
  pub fit_clause : (clause : Clause) → OneOf clause clauses → Fit clauses types longest ty → clause types (type_no types ty) ≡ true
  unfolding meets
  fit_clause clause o f = every_one (λ (c : Clause). c types (type_no types ty)) clauses clause (f.each ty here) o

  -- a check that asks more passes what one that asks less passes
  pub fit_fewer : (fewer : List Clause) → ((clause : Clause) → OneOf clause fewer → OneOf clause clauses) → Fit clauses types longest ty → Fit fewer types longest ty
  unfolding meets
  fit_fewer fewer are f =
      record {
        each = λ k r. one_every (λ (c : Clause). c types (type_no types k)) fewer (λ c o. every_one (λ (d : Clause). d types (type_no types k)) clauses c (f.each k r) (are c o));
        chains = f.chains;
      }

-- so what another check passes, whose clauses have those of the type check among them, the type check passes
pub passes_fewer : {clauses : List Clause} {types : List BookType} {root : ℕ} (fewer : List Clause) → ((clause : Clause) → OneOf clause fewer → OneOf clause clauses) → Passes clauses types root → Passes fewer types root
passes_fewer fewer are p = record { kind = p.kind; fit = fit_fewer fewer are p.fit }

-- ONE LAW FOR EACH CLAUSE OF THE CHECK: what it says of a fit type
module _ {types : List BookType} {longest ty : ℕ} (f : Fit check_clauses types longest ty) where
  pub members_supported_law : members_supported types (type_no types ty) ≡ true
  unfolding check_clauses
  members_supported_law = fit_clause members_supported (Memᴰ.head refl) f

  pub element_supported_law : element_supported types (type_no types ty) ≡ true
  unfolding check_clauses
  element_supported_law = fit_clause element_supported (Memᴰ.tail (Memᴰ.head refl)) f

  pub base_supported_law : base_supported types (type_no types ty) ≡ true
  unfolding check_clauses
  base_supported_law = fit_clause base_supported (Memᴰ.tail (Memᴰ.tail (Memᴰ.head refl))) f

  pub discriminator_fits_law : discriminator_fits types (type_no types ty) ≡ true
  unfolding check_clauses
  discriminator_fits_law = fit_clause discriminator_fits (Memᴰ.tail (Memᴰ.tail (Memᴰ.tail (Memᴰ.head refl)))) f
