use Rattle.read_field.proofs.Groups.{unsigned-past, unsigned-first}
use Rattle.read_field.proofs.unsigned.Goals as goal

-- `read_field::unsigned` meets its contract: one octet is the whole, or more are read.
pub returns-then-s-next : goal.returns-then-s-next
returns-then-s-next c = unsigned-past c.requires c.if-s-next.true

pub returns-then-o-lt128 : goal.returns-then-o-lt128
returns-then-o-lt128 c =
    unsigned-first c.octet_in-o.ensures c.if-s-next.false c.if-o-lt128.true
