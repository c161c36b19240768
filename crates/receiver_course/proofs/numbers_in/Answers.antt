use native.Mathlib.Omega.{arith}
use borrow.Author.Rules.{rules}
use Rattle.spec_exi.specs.Sizes.{max_stream, max_events, max_string}
use Rattle.receiver_course.specs.Course.{numbers_in}
use Rattle.receiver_course.proofs.numbers_in.Goals as goal

-- `numbers_in` meets its contract.
pub overflow_mul-end : goal.overflow_mul-end
unfolding max_stream
overflow_mul-end c = omega (arith, c.requires)

pub returns : goal.returns
unfolding numbers_in max_events max_string
returns c = rw (c.tables_in-tables.ensures, c.elements_in-elements.ensures)
