-- `book::judge::own_fault`: each return is one reason, those before it kept.
use mathlib.Core.Path.{◌∙◌}
use Rattle.ground.proofs.Exits.{exits}
use Rattle.book.proofs.Faults.{own_rules}
use Rattle.book.proofs.Telling.{rule_stops, rule_passes, rule_last}
use Rattle.book.proofs.judge.own_fault.Goals as goal

pub returns-in_err-unless : goal.returns-in_err-unless
returns-in_err-unless c =
    exits c.from_residual.ensures.1 ∙ rule_stops _ _ _ _ _ _ _ _ (own_rules _ _) (c.codes_ok.ensures) c.unless.ensures c.in_err-unless.was

pub returns-in_err-unless-2 : goal.returns-in_err-unless-2
returns-in_err-unless-2 c =
    let w1 = rule_passes _ _ _ _ _ _ _ _ (own_rules _ _) (c.codes_ok.ensures) c.unless.ensures c.in_ok-unless.was in
    exits c.from_residual-in_err-unless-2.ensures.1 ∙ rule_stops _ _ _ _ _ _ _ _ w1 (c.bound_ok.ensures) c.unless-2.ensures c.in_err-unless-2.was

pub returns-in_err-unless-3 : goal.returns-in_err-unless-3
returns-in_err-unless-3 c =
    let w1 = rule_passes _ _ _ _ _ _ _ _ (own_rules _ _) (c.codes_ok.ensures) c.unless.ensures c.in_ok-unless.was in
    let w2 = rule_passes _ _ _ _ _ _ _ _ w1 (c.bound_ok.ensures) c.unless-2.ensures c.in_ok-unless-2.was in
    exits c.from_residual-in_err-unless-3.ensures.1 ∙ rule_stops _ _ _ _ _ _ _ _ w2 (c.element_ok.ensures) c.unless-3.ensures c.in_err-unless-3.was

pub returns : goal.returns
returns c =
    let w1 = rule_passes _ _ _ _ _ _ _ _ (own_rules _ _) (c.codes_ok.ensures) c.unless.ensures c.in_ok-unless.was in
    let w2 = rule_passes _ _ _ _ _ _ _ _ w1 (c.bound_ok.ensures) c.unless-2.ensures c.in_ok-unless-2.was in
    let w3 = rule_passes _ _ _ _ _ _ _ _ w2 (c.element_ok.ensures) c.unless-3.ensures c.in_ok-unless-3.was in
    rule_last _ _ _ _ _ _ w3 (c.count_ok.ensures) c.unless-4.ensures
