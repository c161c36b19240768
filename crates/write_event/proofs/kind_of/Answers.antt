use borrow.Author.Rules.{rules}
use Rattle.spec_exi.specs.Event.{kind_of}
use Rattle.spec_exi.specs.Grammar.{kind_number}
use Rattle.event.specs.Cells.{meaning}
use Rattle.write_event.proofs.kind_of.Goals as goal

-- `kind_of` meets its contract: each arm is told which event e is.
pub returns-in-StartDocument : goal.returns-in-StartDocument
unfolding meaning kind_of kind_number
returns-in-StartDocument c = rw c.in-StartDocument.is

pub returns-in-EndDocument : goal.returns-in-EndDocument
unfolding meaning kind_of kind_number
returns-in-EndDocument c = rw c.in-EndDocument.is

pub returns-in-StartElement : goal.returns-in-StartElement
unfolding meaning kind_of kind_number
returns-in-StartElement c = rw c.in-StartElement.is

pub returns-in-Attribute : goal.returns-in-Attribute
unfolding meaning kind_of kind_number
returns-in-Attribute c = rw c.in-Attribute.is

pub returns-in-EndElement : goal.returns-in-EndElement
unfolding meaning kind_of kind_number
returns-in-EndElement c = rw c.in-EndElement.is

pub returns-in-Characters : goal.returns-in-Characters
unfolding meaning kind_of kind_number
returns-in-Characters c = rw c.in-Characters.is

pub returns-in-Comment : goal.returns-in-Comment
unfolding meaning kind_of kind_number
returns-in-Comment c = rw c.in-Comment.is

pub returns-in-Instruction : goal.returns-in-Instruction
unfolding meaning kind_of kind_number
returns-in-Instruction c = rw c.in-Instruction.is
