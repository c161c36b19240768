use Rattle.mem_index.proofs.Codes.{nth-found, nth-none}
use borrow.Author.Rules.{rules}
use Rattle.mem_index.proofs.nth.Goals as goal

-- `nth` meets its contract.
pub returns-then-number-ge-NUMBERS : goal.returns-then-number-ge-NUMBERS
returns-then-number-ge-NUMBERS c = nth-none c.if-number-ge-NUMBERS.true

pub returns : goal.returns
returns c = nth-found c.if-number-ge-NUMBERS.false c.find.ensures
