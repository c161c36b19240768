use Rattle.read_field.proofs.Groups.{unsigned-past, unsigned-first, unsigned-more}
use mathlib.Core.Path.{◌∙◌}
use Rattle.read_field.proofs.unsigned_any.Goals as goal

-- `read_field::unsigned_any` meets its contract: the first octet is the whole, or the rest follows.
pub returns-then-s-at : goal.returns-then-s-at
returns-then-s-at c = unsigned-past c.requires c.if-s-at.true

pub returns-then-o-lt128 : goal.returns-then-o-lt128
returns-then-o-lt128 c =
    unsigned-first c.octet_in-o.ensures c.if-s-at.false c.if-o-lt128.true

pub wide-requires : goal.wide-requires
wide-requires c = tt

pub returns : goal.returns
returns c =
    c.onward.ensures
    ∙ rw c.wide.ensures
    (unsigned-more c.octet_in-o.ensures c.if-s-at.false c.if-o-lt128.false)
