use Rattle.write_content.proofs.Puts.{text-put-asks, text-put}
use borrow.Author.Rules.{rules}
use Rattle.write_content.proofs.put_text.Goals as goal

pub put_string-requires : goal.put_string-requires
put_string-requires c =
    let pre = c.requires in
    let look_up = c.look_up-x in
    text-put-asks pre look_up.ensures.result_value

pub returns : goal.returns
returns c =
    let pre = c.requires in
    let look_up = c.look_up-x in
    let put-string = c.put_string in
    text-put pre look_up.ensures.result_value put-string.ensures
