use Rattle.std.proofs.Common.{rules}
use Rattle.lookup.proofs.Leading.{step_on}
use Rattle.lookup.proofs.straight.nearest.Goals as goal

pub stays_at-requires-clause-steps : goal.stays_at-requires-clause-steps
stays_at-requires-clause-steps c = λ pos h. (search rules, λ q p. search (rules, step_on))

pub returns-in-Xcdr1 : goal.returns-in-Xcdr1
returns-in-Xcdr1 c = c.stays_at.ensures c.args.r.set c.args.wanted (λ pos q h p. search rules)

pub stays_at-requires-in-Xcdr2-clause-steps : goal.stays_at-requires-in-Xcdr2-clause-steps
stays_at-requires-in-Xcdr2-clause-steps c = λ pos h. (search rules, λ q p. search (rules, step_on))

pub returns-in-Xcdr2 : goal.returns-in-Xcdr2
returns-in-Xcdr2 c = c.stays_at-in-Xcdr2.ensures c.args.r.set c.args.wanted (λ pos q h p. search rules)
