use Rattle.mem_index.proofs.Codes.{found}
use borrow.Author.Rules.{rules}
use Rattle.mem_index.proofs.find.Goals as goal

-- `find` meets its contract.
pub returns : goal.returns
returns c =
    found c.requires.sized
    (rw c.spot.ensures.is at c.newest.ensures)
