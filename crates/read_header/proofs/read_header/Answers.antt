use borrow.Author.Rules.{rules}
use Rattle.settings.specs.Meant.{settings_from}
use Rattle.read_header.proofs.Header.{header-with, header-without}
use Rattle.read_header.proofs.read_header.Goals as goal

-- `read_header` meets its contract.
pub returns-then-o : goal.returns-then-o
unfolding settings_from
returns-then-o c =
    rw (header-with (settings_from c.args.o) c.if-o.true)
    c.read_octets.ensures

pub returns : goal.returns
unfolding settings_from
returns c =
    rw (header-without (settings_from c.args.o) c.if-o.false)
    c.read_octets-2.ensures
