use borrow.Author.Rules.{rules}
use Rattle.text.specs.Text.{inside}
use Rattle.spec_exi.specs.Event.{strings_of}
use Rattle.spec_exi.specs.Lists.{every}
use Rattle.event.specs.Cells.{meaning, as_name}
use Rattle.write_event.proofs.Events.{every_one, every_two, every-three}
use Rattle.write_event.proofs.places_fit.Goals as goal

-- `places_fit` meets its contract: each arm is told which event e is, and asks for each of its strings.
pub returns-in-StartDocument : goal.returns-in-StartDocument
unfolding meaning strings_of every
returns-in-StartDocument c = rw c.in-StartDocument.is

pub returns-in-EndDocument : goal.returns-in-EndDocument
unfolding meaning strings_of every
returns-in-EndDocument c = rw c.in-EndDocument.is

pub returns-in-StartElement : goal.returns-in-StartElement
unfolding meaning as_name strings_of every
returns-in-StartElement c =
    let is-inside = c.is_inside in
    rw (c.in-StartElement.is, is-inside.ensures, c.is_inside-in-StartElement.ensures) (every_two (inside _) _ _)

pub returns-in-Attribute : goal.returns-in-Attribute
unfolding meaning as_name strings_of every
returns-in-Attribute c =
    let is-inside3 = c.is_inside-in-Attribute in
    let is-inside4 = c.is_inside-in-Attribute-2 in
    rw (c.in-Attribute.is, is-inside3.ensures, is-inside4.ensures, c.is_inside-in-Attribute-3.ensures)
    (every-three (inside _) _ _ _)

pub returns-in-EndElement : goal.returns-in-EndElement
unfolding meaning strings_of every
returns-in-EndElement c = rw c.in-EndElement.is

pub returns-in-Characters : goal.returns-in-Characters
unfolding meaning strings_of every
returns-in-Characters c = rw (c.in-Characters.is, c.is_inside-in-Characters.ensures) (every_one (inside _) _)

pub returns-in-Comment : goal.returns-in-Comment
unfolding meaning strings_of every
returns-in-Comment c = rw (c.in-Comment.is, c.is_inside-in-Comment.ensures) (every_one (inside _) _)

pub returns-in-Instruction : goal.returns-in-Instruction
unfolding meaning strings_of every
returns-in-Instruction c =
    let is-inside8 = c.is_inside-in-Instruction in
    rw (c.in-Instruction.is, is-inside8.ensures, c.is_inside-in-Instruction-2.ensures) (every_two (inside _) _ _)
