use Rattle.write_content.proofs.Puts.{value-put-asks, value-put}
use borrow.Author.Rules.{rules}
use Rattle.write_content.proofs.put_value.Goals as goal

pub put_value-requires : goal.put_value-requires
put_value-requires c =
    let pre = c.requires in
    let look_up = c.look_up-v in
    value-put-asks pre look_up.ensures.result_value

pub returns : goal.returns
returns c =
    let pre = c.requires in
    let look_up = c.look_up-v in
    let put-value = c.put_value in
    value-put pre look_up.ensures.result_value _ put-value.ensures
