-- `book::judge::member_fault`: each return is one rule, those before it kept.
use mathlib.Core.Path.{◌∙◌}
use Rattle.ground.proofs.Exits.{exits}
use Rattle.book.proofs.Telling.{rule_stops, rule_passes, rule_last, member_rules, asks_id, asks_first_id, asks_first_kind, asks_flags, asks_first_default, asks_construct, asks_labels, asks_first_label}
use Rattle.book.proofs.judge.member_fault.Goals as goal

pub returns-in_err-unless : goal.returns-in_err-unless
returns-in_err-unless c =
    exits c.from_residual.ensures.1 ∙ rule_stops _ _ _ _ _ _ _ _ (member_rules _ _ _ _ _) (asks_id _ _ _ _ c.requires.1 c.id_differs.ensures) c.unless.ensures c.in_err-unless.was

pub returns-in_err-unless-2 : goal.returns-in_err-unless-2
returns-in_err-unless-2 c =
    let w1 = rule_passes _ _ _ _ _ _ _ _ (member_rules _ _ _ _ _) (asks_id _ _ _ _ c.requires.1 c.id_differs.ensures) c.unless.ensures c.in_ok-unless.was in
    exits c.from_residual-in_err-unless-2.ensures.1 ∙ rule_stops _ _ _ _ _ _ _ _ w1 (asks_first_id _ _ _ c.first_of_union-first.ensures _ c.requires.1) c.unless-2.ensures c.in_err-unless-2.was

pub returns-in_err-unless-3 : goal.returns-in_err-unless-3
returns-in_err-unless-3 c =
    let w1 = rule_passes _ _ _ _ _ _ _ _ (member_rules _ _ _ _ _) (asks_id _ _ _ _ c.requires.1 c.id_differs.ensures) c.unless.ensures c.in_ok-unless.was in
    let w2 = rule_passes _ _ _ _ _ _ _ _ w1 (asks_first_id _ _ _ c.first_of_union-first.ensures _ c.requires.1) c.unless-2.ensures c.in_ok-unless-2.was in
    exits c.from_residual-in_err-unless-3.ensures.1 ∙ rule_stops _ _ _ _ _ _ _ _ w2 (c.link_ok.ensures) c.unless-3.ensures c.in_err-unless-3.was

pub returns-in_err-unless-4 : goal.returns-in_err-unless-4
returns-in_err-unless-4 c =
    let w1 = rule_passes _ _ _ _ _ _ _ _ (member_rules _ _ _ _ _) (asks_id _ _ _ _ c.requires.1 c.id_differs.ensures) c.unless.ensures c.in_ok-unless.was in
    let w2 = rule_passes _ _ _ _ _ _ _ _ w1 (asks_first_id _ _ _ c.first_of_union-first.ensures _ c.requires.1) c.unless-2.ensures c.in_ok-unless-2.was in
    let w3 = rule_passes _ _ _ _ _ _ _ _ w2 (c.link_ok.ensures) c.unless-3.ensures c.in_ok-unless-3.was in
    exits c.from_residual-in_err-unless-4.ensures.1 ∙ rule_stops _ _ _ _ _ _ _ _ w3 (asks_first_kind _ _ _ c.first_of_union-first.ensures _ _ c.first_kind_ok.ensures) c.unless-4.ensures c.in_err-unless-4.was

pub returns-in_err-unless-5 : goal.returns-in_err-unless-5
returns-in_err-unless-5 c =
    let w1 = rule_passes _ _ _ _ _ _ _ _ (member_rules _ _ _ _ _) (asks_id _ _ _ _ c.requires.1 c.id_differs.ensures) c.unless.ensures c.in_ok-unless.was in
    let w2 = rule_passes _ _ _ _ _ _ _ _ w1 (asks_first_id _ _ _ c.first_of_union-first.ensures _ c.requires.1) c.unless-2.ensures c.in_ok-unless-2.was in
    let w3 = rule_passes _ _ _ _ _ _ _ _ w2 (c.link_ok.ensures) c.unless-3.ensures c.in_ok-unless-3.was in
    let w4 = rule_passes _ _ _ _ _ _ _ _ w3 (asks_first_kind _ _ _ c.first_of_union-first.ensures _ _ c.first_kind_ok.ensures) c.unless-4.ensures c.in_ok-unless-4.was in
    exits c.from_residual-in_err-unless-5.ensures.1 ∙ rule_stops _ _ _ _ _ _ _ _ w4 (asks_flags _ _ c.flags.ensures.0) c.unless-5.ensures c.in_err-unless-5.was

pub returns-in_err-unless-6 : goal.returns-in_err-unless-6
returns-in_err-unless-6 c =
    let w1 = rule_passes _ _ _ _ _ _ _ _ (member_rules _ _ _ _ _) (asks_id _ _ _ _ c.requires.1 c.id_differs.ensures) c.unless.ensures c.in_ok-unless.was in
    let w2 = rule_passes _ _ _ _ _ _ _ _ w1 (asks_first_id _ _ _ c.first_of_union-first.ensures _ c.requires.1) c.unless-2.ensures c.in_ok-unless-2.was in
    let w3 = rule_passes _ _ _ _ _ _ _ _ w2 (c.link_ok.ensures) c.unless-3.ensures c.in_ok-unless-3.was in
    let w4 = rule_passes _ _ _ _ _ _ _ _ w3 (asks_first_kind _ _ _ c.first_of_union-first.ensures _ _ c.first_kind_ok.ensures) c.unless-4.ensures c.in_ok-unless-4.was in
    let w5 = rule_passes _ _ _ _ _ _ _ _ w4 (asks_flags _ _ c.flags.ensures.0) c.unless-5.ensures c.in_ok-unless-5.was in
    exits c.from_residual-in_err-unless-6.ensures.1 ∙ rule_stops _ _ _ _ _ _ _ _ w5 (asks_first_default _ _ _ c.first_of_union-first.ensures _ c.is_default.ensures) c.unless-6.ensures c.in_err-unless-6.was

pub returns-in_err-unless-7 : goal.returns-in_err-unless-7
returns-in_err-unless-7 c =
    let w1 = rule_passes _ _ _ _ _ _ _ _ (member_rules _ _ _ _ _) (asks_id _ _ _ _ c.requires.1 c.id_differs.ensures) c.unless.ensures c.in_ok-unless.was in
    let w2 = rule_passes _ _ _ _ _ _ _ _ w1 (asks_first_id _ _ _ c.first_of_union-first.ensures _ c.requires.1) c.unless-2.ensures c.in_ok-unless-2.was in
    let w3 = rule_passes _ _ _ _ _ _ _ _ w2 (c.link_ok.ensures) c.unless-3.ensures c.in_ok-unless-3.was in
    let w4 = rule_passes _ _ _ _ _ _ _ _ w3 (asks_first_kind _ _ _ c.first_of_union-first.ensures _ _ c.first_kind_ok.ensures) c.unless-4.ensures c.in_ok-unless-4.was in
    let w5 = rule_passes _ _ _ _ _ _ _ _ w4 (asks_flags _ _ c.flags.ensures.0) c.unless-5.ensures c.in_ok-unless-5.was in
    let w6 = rule_passes _ _ _ _ _ _ _ _ w5 (asks_first_default _ _ _ c.first_of_union-first.ensures _ c.is_default.ensures) c.unless-6.ensures c.in_ok-unless-6.was in
    exits c.from_residual-in_err-unless-7.ensures.1 ∙ rule_stops _ _ _ _ _ _ _ _ w6 (asks_construct _ _ c.construct.ensures.0) c.unless-7.ensures c.in_err-unless-7.was

pub returns-in_err-unless-8 : goal.returns-in_err-unless-8
returns-in_err-unless-8 c =
    let w1 = rule_passes _ _ _ _ _ _ _ _ (member_rules _ _ _ _ _) (asks_id _ _ _ _ c.requires.1 c.id_differs.ensures) c.unless.ensures c.in_ok-unless.was in
    let w2 = rule_passes _ _ _ _ _ _ _ _ w1 (asks_first_id _ _ _ c.first_of_union-first.ensures _ c.requires.1) c.unless-2.ensures c.in_ok-unless-2.was in
    let w3 = rule_passes _ _ _ _ _ _ _ _ w2 (c.link_ok.ensures) c.unless-3.ensures c.in_ok-unless-3.was in
    let w4 = rule_passes _ _ _ _ _ _ _ _ w3 (asks_first_kind _ _ _ c.first_of_union-first.ensures _ _ c.first_kind_ok.ensures) c.unless-4.ensures c.in_ok-unless-4.was in
    let w5 = rule_passes _ _ _ _ _ _ _ _ w4 (asks_flags _ _ c.flags.ensures.0) c.unless-5.ensures c.in_ok-unless-5.was in
    let w6 = rule_passes _ _ _ _ _ _ _ _ w5 (asks_first_default _ _ _ c.first_of_union-first.ensures _ c.is_default.ensures) c.unless-6.ensures c.in_ok-unless-6.was in
    let w7 = rule_passes _ _ _ _ _ _ _ _ w6 (asks_construct _ _ c.construct.ensures.0) c.unless-7.ensures c.in_ok-unless-7.was in
    exits c.from_residual-in_err-unless-8.ensures.1 ∙ rule_stops _ _ _ _ _ _ _ _ w7 (asks_labels _ _ c.label_count-labels.ensures.0) c.unless-8.ensures c.in_err-unless-8.was

pub returns : goal.returns
returns c =
    let w1 = rule_passes _ _ _ _ _ _ _ _ (member_rules _ _ _ _ _) (asks_id _ _ _ _ c.requires.1 c.id_differs.ensures) c.unless.ensures c.in_ok-unless.was in
    let w2 = rule_passes _ _ _ _ _ _ _ _ w1 (asks_first_id _ _ _ c.first_of_union-first.ensures _ c.requires.1) c.unless-2.ensures c.in_ok-unless-2.was in
    let w3 = rule_passes _ _ _ _ _ _ _ _ w2 (c.link_ok.ensures) c.unless-3.ensures c.in_ok-unless-3.was in
    let w4 = rule_passes _ _ _ _ _ _ _ _ w3 (asks_first_kind _ _ _ c.first_of_union-first.ensures _ _ c.first_kind_ok.ensures) c.unless-4.ensures c.in_ok-unless-4.was in
    let w5 = rule_passes _ _ _ _ _ _ _ _ w4 (asks_flags _ _ c.flags.ensures.0) c.unless-5.ensures c.in_ok-unless-5.was in
    let w6 = rule_passes _ _ _ _ _ _ _ _ w5 (asks_first_default _ _ _ c.first_of_union-first.ensures _ c.is_default.ensures) c.unless-6.ensures c.in_ok-unless-6.was in
    let w7 = rule_passes _ _ _ _ _ _ _ _ w6 (asks_construct _ _ c.construct.ensures.0) c.unless-7.ensures c.in_ok-unless-7.was in
    let w8 = rule_passes _ _ _ _ _ _ _ _ w7 (asks_labels _ _ c.label_count-labels.ensures.0) c.unless-8.ensures c.in_ok-unless-8.was in
    rule_last _ _ _ _ _ _ w8 (asks_first_label _ _ _ c.first_of_union-first.ensures _ c.label_count-labels.ensures.0) c.unless-9.ensures
