use mathlib.Core.Path.{◌∙◌}
use Rattle.read_field.proofs.FewBits.{choice-none, few-in, few-same}
use native.Mathlib.Omega.{arith}
use Rattle.read_field.proofs.choice.Goals as goal

pub returns-then-m-le1 : goal.returns-then-m-le1
returns-then-m-le1 c =
    choice-none c.requires.there c.if-m-le1.true _

pub few_bits-requires : goal.few_bits-requires
few_bits-requires c =
    rw c.taken.ensures
    (few-in c.requires.there (omega (arith, c.if-m-le1.false)) c.if-m-le256.true _)

pub returns-then-m-le256 : goal.returns-then-m-le256
returns-then-m-le256 c =
    c.few_bits.ensures
    ∙ rw c.taken.ensures (few-same c.requires.there (omega
    (arith, c.if-m-le1.false)) c.if-m-le256.true _)

pub many-requires : goal.many-requires
many-requires c =
    record {
      number_pre = c.requires;
      lt_m = omega (arith, c.if-m-le256.false);
    }

pub returns : goal.returns
returns c =
    c.many.ensures
