use mathlib.Core.Path.{refl, sym}
use native.Mathlib.Omega.{arith}
use Rattle.spec_exi.specs.Sizes.{max_stream}
use Rattle.read_body.proofs.Padding.{too_much, padding-refused, padding-value}
use Rattle.read_body.proofs.is_padding.Goals as goal

-- `is_padding` meets its contract.
pub overflow_mul-left : goal.overflow_mul-left
unfolding max_stream
overflow_mul-left c = omega (arith, c.requires.size)

pub returns-then-left-gt7 : goal.returns-then-left-gt7
returns-then-left-gt7 c =
    too_much c.args.stream.now c.args.at c.if-left-gt7.true

pub bits-requires : goal.bits-requires
unfolding max_stream
bits-requires c =
    record {
      there = record { size = omega (arith, c.requires.size); place = c.requires.place };
      small = omega arith;
    }

pub returns-in-Ok : goal.returns-in-Ok
returns-in-Ok c =
    padding-value c.args.stream.now c.args.at c.if-left-gt7.false refl (sym c.in-Ok.ensures)

pub returns-in-Err : goal.returns-in-Err
returns-in-Err c =
    padding-refused c.args.stream.now c.args.at c.if-left-gt7.false refl (sym c.in-Err.ensures)
