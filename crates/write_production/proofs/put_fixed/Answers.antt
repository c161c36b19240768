use Rattle.write_production.proofs.Codes.{first-few, first-asks, first-put, more-asks, lower-asks, lower-put}
use Rattle.settings.specs.Meant.{settings_from}
use native.Mathlib.Omega.{arith}
use borrow.Author.Rules.{rules}
use Rattle.write_production.proofs.put_fixed.Goals as goal

pub overflow_add-first : goal.overflow_add-first
unfolding settings_from
overflow_add-first c =
    let pre = c.requires in
    omega (arith, pre.few, first-few _ pre c.values_at.ensures)

pub overflow_add-count : goal.overflow_add-count
unfolding settings_from
overflow_add-count c =
    let pre = c.requires in
    let values-at = c.values_at in
    let if1 = c.if-p-eq0 in
    omega (
      arith,
      pre.few,
      first-few _ pre values-at.ensures,
      (first-asks _ pre
          values-at.ensures if1.true).one,
    )

pub put_choice-requires : goal.put_choice-requires
unfolding settings_from
put_choice-requires c =
    let pre = c.requires in
    let values-at = c.values_at in
    let if1 = c.if-p-eq0 in
    first-asks _ pre values-at.ensures if1.true

pub returns-then-p-eq0 : goal.returns-then-p-eq0
unfolding settings_from
returns-then-p-eq0 c =
    let pre = c.requires in
    let values-at = c.values_at in
    let if1 = c.if-p-eq0 in
    let put-choice = c.put_choice in
    first-put _ pre values-at.ensures if1.true put-choice.ensures

pub put_choice-next-requires : goal.put_choice-next-requires
unfolding settings_from
put_choice-next-requires c =
    let pre = c.requires in
    let values-at = c.values_at in
    let if1 = c.if-p-eq0 in
    let count_at = c.count_at in
    more-asks _ pre values-at.ensures if1.false count_at.ensures.is

pub put_lower-requires : goal.put_lower-requires
unfolding settings_from
put_lower-requires c =
    let pre = c.requires in
    let values-at = c.values_at in
    let if1 = c.if-p-eq0 in
    let count_at = c.count_at in
    let put-choice2 = c.put_choice-next in
    lower-asks _ pre values-at.ensures if1.false count_at.ensures.is
    put-choice2.ensures

pub returns : goal.returns
unfolding settings_from
returns c =
    let pre = c.requires in
    let values-at = c.values_at in
    let if1 = c.if-p-eq0 in
    let count_at = c.count_at in
    let put-choice2 = c.put_choice-next in
    let put-lower = c.put_lower in
    lower-put _ pre values-at.ensures if1.false count_at.ensures.is
    put-choice2.ensures put-lower.ensures
