use Rattle.write_content.proofs.Puts.{carried-put, written-put}
use Rattle.write_field.proofs.Written.{put-nothing}
use borrow.Author.Rules.{rules}
use Rattle.write_content.proofs.put_name.Goals as goal

pub returns-then-carried : goal.returns-then-carried
returns-then-carried c =
    let pre = c.requires in
    let slice-known = c.slice_known-1 in
    carried-put pre _ c.if-carried.true (put-nothing slice-known.given pre.known.blank)

pub returns : goal.returns
returns c =
    let pre = c.requires in
    let if1 = c.if-carried in
    let put-name = c.put_name in
    written-put pre _ if1.false put-name.ensures
