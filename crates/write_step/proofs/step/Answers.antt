use Rattle.write_step.proofs.Steps.{copied-asks, copied-step}
use borrow.Author.Rules.{rules}
use Rattle.write_step.proofs.step.Goals as goal

pub write_event-r-requires : goal.write_event-r-requires
write_event-r-requires c =
    copied-asks c.copied-d.ensures c.requires

pub returns-in-StartDocument : goal.returns-in-StartDocument
returns-in-StartDocument c =
    rw c.in-StartDocument.is c.start_document.ensures

pub returns-in-EndDocument : goal.returns-in-EndDocument
returns-in-EndDocument c =
    rw c.in-EndDocument.is c.end_document.ensures

pub returns-in-StartElement : goal.returns-in-StartElement
returns-in-StartElement c =
    rw c.in-StartElement.is c.start_element.ensures

pub returns-in-Attribute : goal.returns-in-Attribute
returns-in-Attribute c =
    rw c.in-Attribute.is c.attribute.ensures

pub returns-in-EndElement : goal.returns-in-EndElement
returns-in-EndElement c =
    rw c.in-EndElement.is (c.end_element.ensures _ _)

pub returns-in-Characters : goal.returns-in-Characters
returns-in-Characters c =
    rw c.in-Characters.is c.characters.ensures

pub returns-in_default : goal.returns-in_default
returns-in_default c =
    copied-step c.copied-p.ensures c.copied-d.ensures c.copied.ensures
    c.write_event-r.ensures
