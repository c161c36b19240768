use Rattle.write_production.proofs.Codes.{second-asks, second-put, on-asks, third-asks, third-put}
use Rattle.settings.specs.Meant.{settings_from}
use borrow.Author.Rules.{rules}
use Rattle.write_production.proofs.put_lower.Goals as goal

pub put_choice-requires : goal.put_choice-requires
unfolding settings_from
put_choice-requires c =
    let pre = c.requires in
    let values-at = c.values_at-second in
    let if1 = c.if-p-eq1 in
    second-asks _ pre values-at.ensures if1.true

pub returns-then-p-eq1 : goal.returns-then-p-eq1
unfolding settings_from
returns-then-p-eq1 c =
    let pre = c.requires in
    let values-at = c.values_at-second in
    let if1 = c.if-p-eq1 in
    let put-choice = c.put_choice in
    second-put _ pre values-at.ensures if1.true put-choice.ensures

pub put_choice-next-requires : goal.put_choice-next-requires
unfolding settings_from
put_choice-next-requires c =
    let pre = c.requires in
    let values-at = c.values_at-second in
    let if1 = c.if-p-eq1 in
    let count_at = c.count_at-on in
    on-asks _ pre values-at.ensures if1.false count_at.ensures.is

pub put_choice-requires-2 : goal.put_choice-requires-2
unfolding settings_from
put_choice-requires-2 c =
    let pre = c.requires in
    let values-at = c.values_at-second in
    let if1 = c.if-p-eq1 in
    let count_at = c.count_at-on in
    let put-choice2 = c.put_choice-next in
    let values-at2 = c.values_at-third in
    third-asks _ pre values-at.ensures if1.false count_at.ensures.is
    put-choice2.ensures values-at2.ensures

pub returns : goal.returns
unfolding settings_from
returns c =
    let pre = c.requires in
    let values-at = c.values_at-second in
    let if1 = c.if-p-eq1 in
    let count_at = c.count_at-on in
    let put-choice2 = c.put_choice-next in
    let values-at2 = c.values_at-third in
    let put-choice3 = c.put_choice-2 in
    third-put _ pre values-at.ensures if1.false count_at.ensures.is
    put-choice2.ensures values-at2.ensures put-choice3.ensures
