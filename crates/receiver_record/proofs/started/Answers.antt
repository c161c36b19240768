use borrow.Author.Rules.{rules}
use Rattle.receiver_record.proofs.Record.{starts}
use Rattle.receiver_record.proofs.started.Goals as goal

-- `started` meets its contract.
pub returns : goal.returns
returns c = starts _ c.start-core.ensures c.none_open.ensures
