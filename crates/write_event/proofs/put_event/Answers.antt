use Rattle.write_event.proofs.Puts.{code-asks, content-asks, event-put}
use Rattle.settings.specs.Meant.{settings_from}
use borrow.Author.Rules.{rules}
use Rattle.write_event.proofs.put_event.Goals as goal

pub put_code-next-requires : goal.put_code-next-requires
put_code-next-requires c = code-asks c.requires

pub put_content-requires : goal.put_content-requires
put_content-requires c =
    let pre = c.requires in
    let put-code = c.put_code-next in
    content-asks pre put-code.ensures

pub returns : goal.returns
unfolding settings_from
returns c =
    let pre = c.requires in
    let put-code = c.put_code-next in
    let put-content = c.put_content in
    event-put pre put-code.ensures put-content.ensures
