-- How many levels an event begins, and how many it ends: lines are indented by them.
use Rattle.std.specs.Prelude.{ℕ}
use Rattle.event.specs.declared.Event.{Event}
use Rattle.event.specs.declared.Event.TheVariants.{StartDocument, EndDocument, StartElement}
use Rattle.event.specs.declared.Event.TheVariants.{Attribute}
use Rattle.event.specs.declared.Event.TheVariants.{EndElement, Characters, Comment, Instruction}

abbrev pub begins_of : Event → ℕ
begins_of StartDocument = 1
begins_of EndDocument = 0
begins_of (StartElement u n) = 1
begins_of (Attribute u n v) = 0
begins_of EndElement = 0
begins_of (Characters x) = 0
begins_of (Comment x) = 0
begins_of (Instruction t x) = 0

abbrev pub ends_of : Event → ℕ
ends_of StartDocument = 0
ends_of EndDocument = 1
ends_of (StartElement u n) = 0
ends_of (Attribute u n v) = 0
ends_of EndElement = 1
ends_of (Characters x) = 0
ends_of (Comment x) = 0
ends_of (Instruction t x) = 0
