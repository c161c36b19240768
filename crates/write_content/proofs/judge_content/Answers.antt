use Rattle.write_content.proofs.Unnamed.{bare-judged}
use Rattle.write_content.specs.Contents.{items_as}
use Rattle.write_content.specs.Writing.{contentBits, Puttable}
use Rattle.mem_rows.specs.Rows.{carries}
use Rattle.event.specs.Cells.{meaning}
use Rattle.event.specs.declared.Event.TheVariants.{StartDocument, EndDocument, EndElement}
use Rattle.spec_exi.specs.Event.{kind_of, map_event}
use mathlib.Core.Path.{refl}
use borrow.Author.Rules.{rules}
use Rattle.write_content.proofs.judge_content.Goals as goal

pub returns-in-StartDocument : goal.returns-in-StartDocument
unfolding meaning map_event kind_of carries items_as contentBits Puttable
returns-in-StartDocument c =
    let pre = c.requires in
    let no-strings = c.no_strings in
    rw (c.plain.ensures, no-strings.ensures, c.in-StartDocument.is) (bare-judged pre StartDocument (λ
    _ _. refl) (λ _ _. refl) refl tt)

pub returns-in-EndDocument : goal.returns-in-EndDocument
unfolding meaning map_event kind_of carries items_as contentBits Puttable
returns-in-EndDocument c =
    let pre = c.requires in
    let no-strings2 = c.no_strings-in-EndDocument in
    rw (c.plain-in-EndDocument.ensures, no-strings2.ensures, c.in-EndDocument.is) (bare-judged pre EndDocument
    (λ _ _. refl) (λ _ _. refl) refl tt)

pub returns-in-StartElement : goal.returns-in-StartElement
returns-in-StartElement c = rw c.in-StartElement.is c.judge_element.ensures

pub returns-in-Attribute : goal.returns-in-Attribute
returns-in-Attribute c = rw c.in-Attribute.is c.judge_attribute.ensures

pub returns-in-EndElement : goal.returns-in-EndElement
unfolding meaning map_event kind_of carries items_as contentBits Puttable
returns-in-EndElement c =
    let pre = c.requires in
    let no-strings3 = c.no_strings-in-EndElement in
    rw (c.plain-in-EndElement.ensures, no-strings3.ensures, c.in-EndElement.is) (bare-judged pre EndElement (λ
    _ _. refl) (λ _ _. refl) refl tt)

pub returns-in-Characters : goal.returns-in-Characters
returns-in-Characters c = rw c.in-Characters.is c.judge_characters.ensures

pub returns-in-Comment : goal.returns-in-Comment
returns-in-Comment c = rw c.in-Comment.is c.judge_comment.ensures

pub returns-in-Instruction : goal.returns-in-Instruction
returns-in-Instruction c = rw c.in-Instruction.is c.judge_instruction.ensures
