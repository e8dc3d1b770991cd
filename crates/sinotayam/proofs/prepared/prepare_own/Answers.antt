use Rattle.sinotayam.proofs.Preparing.{own_index, own_right, own_broken}
use mathlib.Core.Path.{◌≡◌, sym, ◌∙◌}
use Prim.Native.Nat.{◌-◌, ◌≤◌}
use lib.ListN.{length}
use native.Mathlib.Omega.{arith}
use borrow.Author.Rules.{rules}
use Rattle.sinotayam.proofs.prepared.prepare_own.Goals as goal

pub returns : goal.returns
returns c =
    let w = sym c.in_ok-judge_into.was ∙ c.judge_into.ensures.0 in
    let n : length c.args.own.now ≡ 65 = search rules in
    let long : 65 ≤ length c.args.own.now = omega arith in
    let m : 64 ≡ length c.args.own.now - 1 = omega arith in (
      w,
      own_right c.args.book.now c.args.own.now c.judge_into.new.lent 64 long m c.judge_into.ensures.1 c.type_count.result (sym w) c.type_count.ensures.0,
      λ z. own_index c.args.book.now c.args.own.now c.judge_into.new.lent 64 long m c.judge_into.ensures.1 c.type_count.result (sym w) c.type_count.ensures.0,
    )

pub returns-in_err-judge_into : goal.returns-in_err-judge_into
returns-in_err-judge_into c =
    let n : length c.args.own.now ≡ 65 = search rules in
    let long : 65 ≤ length c.args.own.now = omega arith in
    let m : 64 ≡ length c.args.own.now - 1 = omega arith in
    let w = sym c.judge_into.ensures.0 ∙ c.in_err-judge_into.was in
    (search rules, own_broken c.args.book.now c.args.own.now c.judge_into.new.lent 64 long m c.judge_into.ensures.1 _ w, search rules)
