-- `fit::clauses::discriminator_fits` meets its contract: a union's first member. Assumes nothing.
use mathlib.Core.Path.{refl}
use Rattle.fit.proofs.ClauseTests.{discriminator_empty, discriminator_first}
use Rattle.fit.proofs.clauses.discriminator_fits.Goals as goal

pub returns-in-Some : goal.returns-in-Some
returns-in-Some c =
    discriminator_first _ _ _ _ c.kind_at.ensures c.if-kind_at-eq-UNION.true _ c.members-ms.ensures _ _ c.in-Some.ensures.steps _ refl _ c.member_place.ensures _ c.chooses.ensures

pub returns-then-kind_at-eq-UNION : goal.returns-then-kind_at-eq-UNION
returns-then-kind_at-eq-UNION c = discriminator_empty _ _ _ _ c.kind_at.ensures c.if-kind_at-eq-UNION.true _ c.members-ms.ensures c.in_default.ensures.steps.0
