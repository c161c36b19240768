use Rattle.receiver_course.proofs.Ways.{is-closed, is-refused, not-closed}
use borrow.Author.Rules.{rules}
use Rattle.receiver_course.proofs.course_of.Goals as goal

-- `course_of` meets its contract.
pub returns-in-3 : goal.returns-in-3
returns-in-3 c = is-closed _ _ _ c.in-3.is

pub returns-in-2 : goal.returns-in-2
returns-in-2 c = is-refused _ _ _ (not-closed c.in-2.is) c.in-2.is
