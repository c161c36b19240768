use Rattle.receiver_course.proofs.Ways.{started-sound, other-phase, too_many, going_on_lem}
use borrow.Author.Rules.{rules}
use borrow.Author.Tests.{lt-leb}
use mathlib.Core.Path.{◌∙◌}
use native.Mathlib.Omega.{arith}
use Rattle.spec_exi.specs.Sizes.{max_stream}
use Rattle.receiver_course.proofs.is_sound.Goals as goal

-- `is_sound` meets its contract.
pub numbers_in-requires : goal.numbers_in-requires
unfolding max_stream
numbers_in-requires c = c.if-r-le-MAX_STREAM.true

pub returns-in-0 : goal.returns-in-0
returns-in-0 c = started-sound _ c.in-0.is

pub returns-then-r-le-MAX_STREAM : goal.returns-then-r-le-MAX_STREAM
returns-then-r-le-MAX_STREAM c =
    c.numbers_in.ensures ∙ going_on_lem _ c.in-1.is c.if-r-le-MAX_STREAM.true

pub returns-else-r-le-MAX_STREAM : goal.returns-else-r-le-MAX_STREAM
returns-else-r-le-MAX_STREAM c =
    lt-leb _ _ c.if-r-le-MAX_STREAM.false ∙ too_many _ c.in-1.is c.if-r-le-MAX_STREAM.false

pub returns-in_default : goal.returns-in_default
returns-in_default c = other-phase _ (λ e. omega arith) (λ e. omega arith)
