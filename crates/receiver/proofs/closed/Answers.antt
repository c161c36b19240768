use Rattle.receiver.proofs.Ways.{closed-repeats, closed-refused, closed-reads}
use borrow.Author.Rules.{rules}
use Rattle.receiver.proofs.closed.Goals as goal

-- `closed` meets its contract.
pub returns-in-Repeats : goal.returns-in-Repeats
returns-in-Repeats c =
    closed-repeats _ _ c.has_room-roomy.ensures c.course_of-way.ensures c.in-Repeats.is
    (search (rules, c.repeat.ensures.value))

pub returns-in-Refused : goal.returns-in-Refused
returns-in-Refused c =
    closed-refused _ _ c.has_room-roomy.ensures c.course_of-way.ensures c.in-Refused.is
    (search (rules, c.close_refused.ensures.value))

pub returns-in-Reads : goal.returns-in-Reads
returns-in-Reads c =
    closed-reads _ _ c.has_room-roomy.ensures c.course_of-way.ensures c.in-Reads.is
    (search (rules, c.close_now.ensures.value))
