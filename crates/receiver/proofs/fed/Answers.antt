use Rattle.receiver.proofs.Ways.{piece-asks, fed-repeats, fed-refused, fed-reads}
use borrow.Author.Rules.{rules}
use Rattle.receiver.proofs.fed.Goals as goal

-- `fed` meets its contract.
pub returns-in-Repeats : goal.returns-in-Repeats
returns-in-Repeats c =
    fed-repeats _ _ _ c.has_room-roomy.ensures c.course_of-way.ensures c.in-Repeats.is
    (search (rules, c.repeat.ensures.value))

pub returns-in-Refused : goal.returns-in-Refused
returns-in-Refused c =
    fed-refused _ _ _ c.has_room-roomy.ensures c.course_of-way.ensures c.in-Refused.is
    (search (rules, c.refuse.ensures.value))

pub read_piece-requires : goal.read_piece-requires
read_piece-requires c =
    piece-asks _ _ _ c.has_room-roomy.ensures c.course_of-way.ensures c.in-Reads.is

pub returns-in-Reads : goal.returns-in-Reads
returns-in-Reads c =
    fed-reads _ _ _ c.has_room-roomy.ensures c.course_of-way.ensures
    (record {
      held = c.held-1.given;
      events = c.events-1.given;
      text = c.text-1.given;
      work = c.work-1.given;
    })
    c.in-Reads.is c.read_piece.ensures
