use Rattle.write_production.proofs.Codes.{first-few, fixed-asks, fixed-put, learned-asks, learned-put}
use Rattle.settings.specs.Meant.{settings_from}
use native.Mathlib.Omega.{arith}
use borrow.Author.Rules.{rules}
use Rattle.write_production.proofs.put_code.Goals as goal

pub overflow_add-among : goal.overflow_add-among
unfolding settings_from
overflow_add-among c =
    let pre = c.requires in
    let values-at = c.values_at in
    omega (arith, pre.few, first-few _ (fixed-asks _ pre) values-at.ensures)

pub put_choice-requires : goal.put_choice-requires
unfolding settings_from
put_choice-requires c =
    let pre = c.requires in
    let values-at = c.values_at in
    let less = c.less-part in
    learned-asks _ pre values-at.ensures less.ensures

pub returns-then-code : goal.returns-then-code
unfolding settings_from
returns-then-code c =
    let pre = c.requires in
    let if1 = c.if-code in
    let values-at = c.values_at in
    let less = c.less-part in
    let put-choice = c.put_choice in
    learned-put _ pre values-at.ensures less.ensures if1.true put-choice.ensures

pub put_fixed-requires : goal.put_fixed-requires
put_fixed-requires c = fixed-asks _ c.requires

pub returns : goal.returns
returns c =
    let pre = c.requires in
    let if1 = c.if-code in
    let put-fixed = c.put_fixed in
    fixed-put _ pre if1.false put-fixed.ensures
