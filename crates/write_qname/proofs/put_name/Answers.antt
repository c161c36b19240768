use Rattle.write_qname.proofs.Puts.{uri-put-asks, local-put-asks, name-put}
use borrow.Author.Rules.{rules}
use Rattle.write_qname.proofs.put_name.Goals as goal

pub put_uri-next-requires : goal.put_uri-next-requires
put_uri-next-requires c =
    let pre = c.requires in
    let look_up = c.look_up-y in
    uri-put-asks pre look_up.ensures.result_value

pub put_local-requires : goal.put_local-requires
put_local-requires c =
    let pre = c.requires in
    let look_up = c.look_up-y in
    let put-uri = c.put_uri-next in
    let look-up2 = c.look_up-x in
    local-put-asks pre look_up.ensures.result_value look-up2.ensures.result_value _ put-uri.ensures

pub returns : goal.returns
returns c =
    let pre = c.requires in
    let look_up = c.look_up-y in
    let put-uri = c.put_uri-next in
    let look-up2 = c.look_up-x in
    let put_local = c.put_local in
    name-put pre look_up.ensures.result_value look-up2.ensures.result_value _ put-uri.ensures put_local.ensures
