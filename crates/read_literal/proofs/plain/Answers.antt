use Rattle.read_literal.proofs.Laws.{plain-is, plain-none}
use Rattle.spec_exi.specs.Sizes.{max_stream}
use native.Mathlib.Omega.{arith}
use mathlib.Core.Path.{refl}
use Rattle.read_literal.proofs.plain.Goals as goal

pub overflow_add-j : goal.overflow_add-j
unfolding max_stream
overflow_add-j c = omega (arith, c.requires.inside, c.requires.size)

pub returns-then-s-j-clause-read : goal.returns-then-s-j-clause-read
returns-then-s-j-clause-read c = plain-none _ _

pub octet_at-high-requires : goal.octet_at-high-requires
octet_at-high-requires c = omega (arith, c.if-s-j.false)

pub octet_at-low-requires : goal.octet_at-low-requires
octet_at-low-requires c = omega (arith, c.if-s-j.false)

pub overflow_mul-o : goal.overflow_mul-o
overflow_mul-o c = omega (arith, c.octet_at-high.ensures.small)

pub overflow_add-o : goal.overflow_add-o
overflow_add-o c = omega (arith, c.octet_at-high.ensures.small, c.octet_at-low.ensures.small)

pub overflow_sub-o : goal.overflow_sub-o
overflow_sub-o c = omega (arith, c.requires.low)

pub overflow_cast-o : goal.overflow_cast-o
overflow_cast-o c = omega (arith, c.requires.low)

pub overflow_shr-o : goal.overflow_shr-o
overflow_shr-o c = omega (arith, c.requires.low)

pub returns-then-o-lt32-clause-read : goal.returns-then-o-lt32-clause-read
returns-then-o-lt32-clause-read c = plain-none _ _

pub returns-then-o-gt127-clause-read : goal.returns-then-o-gt127-clause-read
returns-then-o-gt127-clause-read c = plain-none _ _

pub returns-clause-read : goal.returns-clause-read
returns-clause-read c =
    plain-is _ _ _ c.requires.low (omega (arith, c.if-s-j.false)) c.octet_at-high.ensures
    c.octet_at-low.ensures refl c.if-o-lt32.false c.if-o-gt127.false
