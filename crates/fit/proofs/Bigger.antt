-- A BIGGER TABLE CHANGES NOTHING, AND SOME TABLE IS BIG ENOUGH. The statements cite only definitions of `specs/`. Assumes nothing.
use Prim.Native.Nat.{ℕ}
use mathlib.Core.Path.{◌≡◌, sym, ◌∙◌}
use mathlib.Core.Logic.{⊎_elim}
use native.Mathlib.Omega.{arith}
use Rattle.wire.specs.Place.{cursor_at}
use Rattle.table.specs.Outcome.{Outcome, refused, number_of, refusal_number}
use Rattle.table.specs.declared.out.Refusal.TheVariants.{NoRoom}
use Rattle.reader.specs.Nested.{reading}
use Rattle.fit.specs.Room.{SameIfRoom, SomeRoom, BiggerTable, SomeTable}
use Rattle.fit.proofs.Ends.{finished, wanting, broken}
use Rattle.fit.proofs.Room.{bad_data, bad_type, unsupported, too_deep, no_discriminator, Roomy, Needs, below_or_not}
use Rattle.fit.proofs.Needed.{needs_nested}

roomy_not_13 : {o : Outcome} → Roomy o → number_of o ≡ 13 → ⊥
unfolding number_of refusal_number
roomy_not_13 (finished r) e = omega arith
roomy_not_13 wanting e = omega arith
roomy_not_13 (broken bad_data) e = omega arith
roomy_not_13 (broken bad_type) e = omega arith
roomy_not_13 (broken unsupported) e = omega arith
roomy_not_13 (broken too_deep) e = omega arith
roomy_not_13 (broken no_discriminator) e = omega arith

full_is_13 : {o : Outcome} → o ≡ refused NoRoom → number_of o ≡ 13
unfolding number_of refusal_number
full_is_13 e = rw e

needs_same : (o : ℕ → Outcome) → Needs o → SameIfRoom number_of o
needs_same o s few more h n =
    ⊎_elim (λ p. absurd (n (full_is_13 (s.less few p)))) (λ p. s.enough more (omega arith) ∙ sym (s.enough few p)) (below_or_not few s.rows)

needs_some : (o : ℕ → Outcome) → Needs o → SomeRoom number_of o
needs_some o s = (s.rows, λ more h e. roomy_not_13 s.roomy (rw (s.enough more h) at e))

pub bigger_table : BiggerTable
unfolding reading
bigger_table types s set root = needs_same (reading types s set root) (needs_nested types set 16 s root 0 (cursor_at 0 0))

pub some_table : SomeTable
unfolding reading
some_table types s set root = needs_some (reading types s set root) (needs_nested types set 16 s root 0 (cursor_at 0 0))
