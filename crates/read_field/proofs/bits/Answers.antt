use mathlib.Core.Path.{sym}
use Rattle.read_field.proofs.Numbers.{bits-past, bits_none}
use native.Mathlib.Omega.{arith}
use Rattle.read_field.proofs.bits.Goals as goal

pub returns-then-s-next : goal.returns-then-s-next
returns-then-s-next c =
    bits-past _ _ _ c.requires.there c.if-s-next.true

pub returns-then-n-eq0 : goal.returns-then-n-eq0
returns-then-n-eq0 c =
    bits_none _ _ c.if-n-eq0.true c.if-s-next.false

pub cut-requires : goal.cut-requires
cut-requires c =
    record {
      there = c.requires.there;
      some = omega (arith, c.if-n-eq0.false);
      most = c.requires.small;
      inside = c.if-s-next.false;
    }

pub returns : goal.returns
returns c =
    sym c.cut.ensures
