use Rattle.write_content.proofs.Puts.{characters-asks, comment-asks, target-asks}
use Rattle.write_content.proofs.Puts.{instruction-asks, instruction-put, of-kind}
use Rattle.write_content.proofs.Puts.{element-asks, attribute-name-asks}
use Rattle.write_content.proofs.Puts.{attribute-value-asks, attribute-put}
use Rattle.write_content.specs.Writing.{contentBits}
use Rattle.write_field.proofs.Written.{put-nothing}
use borrow.Author.Rules.{rules}
use Rattle.write_content.proofs.put_content.Goals as goal

pub put_name-requires : goal.put_name-requires
put_name-requires c =
    let pre = c.requires in
    element-asks (of-kind c.in-StartElement.is pre)

pub put_name-next-requires : goal.put_name-next-requires
put_name-next-requires c =
    let pre = c.requires in
    attribute-name-asks (of-kind c.in-Attribute.is pre)

pub put_value-requires : goal.put_value-requires
put_value-requires c =
    let pre = c.requires in
    let put-name2 = c.put_name-next in
    attribute-value-asks (of-kind c.in-Attribute.is pre) _ _ put-name2.ensures

pub put_value-requires-in-Characters : goal.put_value-requires-in-Characters
put_value-requires-in-Characters c =
    let pre = c.requires in
    characters-asks (of-kind c.in-Characters.is pre)

pub put_text-requires : goal.put_text-requires
put_text-requires c =
    let pre = c.requires in
    comment-asks (of-kind c.in-Comment.is pre)

pub put_text-next-requires : goal.put_text-next-requires
put_text-next-requires c =
    let pre = c.requires in
    target-asks (of-kind c.in-Instruction.is pre)

pub put_text-requires-in-Instruction : goal.put_text-requires-in-Instruction
put_text-requires-in-Instruction c =
    let pre = c.requires in
    let put-text2 = c.put_text-next in
    instruction-asks (of-kind c.in-Instruction.is pre) put-text2.ensures

pub returns-in-StartDocument : goal.returns-in-StartDocument
unfolding contentBits
returns-in-StartDocument c =
    let slice-known = c.slice_known-1 in
    let pre = c.requires in
    rw c.in-StartDocument.is (put-nothing slice-known.given pre.blank)

pub returns-in-EndDocument : goal.returns-in-EndDocument
unfolding contentBits
returns-in-EndDocument c =
    let slice-known = c.slice_known-1 in
    let pre = c.requires in
    rw c.in-EndDocument.is (put-nothing slice-known.given pre.blank)

pub returns-in-StartElement : goal.returns-in-StartElement
unfolding contentBits
returns-in-StartElement c =
    let put-name = c.put_name in
    rw c.in-StartElement.is put-name.ensures

pub returns-in-Attribute : goal.returns-in-Attribute
returns-in-Attribute c =
    let pre = c.requires in
    let put-name2 = c.put_name-next in
    let put-value = c.put_value in
    rw c.in-Attribute.is (attribute-put (of-kind c.in-Attribute.is pre) _ _ put-name2.ensures put-value.ensures)

pub returns-in-EndElement : goal.returns-in-EndElement
unfolding contentBits
returns-in-EndElement c =
    let slice-known = c.slice_known-1 in
    let pre = c.requires in
    rw c.in-EndElement.is (put-nothing slice-known.given pre.blank)

pub returns-in-Characters : goal.returns-in-Characters
unfolding contentBits
returns-in-Characters c =
    let put-value2 = c.put_value-in-Characters in
    rw c.in-Characters.is put-value2.ensures

pub returns-in-Comment : goal.returns-in-Comment
unfolding contentBits
returns-in-Comment c =
    let put-text = c.put_text in
    rw c.in-Comment.is put-text.ensures

pub returns-in-Instruction : goal.returns-in-Instruction
returns-in-Instruction c =
    let pre = c.requires in
    let put-text2 = c.put_text-next in
    let put-text3 = c.put_text-in-Instruction in
    rw c.in-Instruction.is (instruction-put (of-kind c.in-Instruction.is pre) put-text2.ensures _ _
    put-text3.ensures)
