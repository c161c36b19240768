use Rattle.read_literal.proofs.Laws.{spot-start, Turn, turn-spot, turn_end}
use Rattle.read_literal.proofs.Laws.{turn-hash, turn-refused, turn-next}
use Rattle.read_field.proofs.View.{refusal-some}
use Rattle.spec_exi.specs.Sizes.{max_store, max_stream}
use native.Mathlib.Omega.{arith}
use mathlib.Core.Path.{◌≡◌, refl, ◌∙◌}
use Prim.Native.Nat.{◌+◌, ◌*◌, ◌-◌, ◌%◌}
use Rattle.read_literal.proofs.read_characters.Goals as goal

-- `read_literal::read_characters` meets its contract: so far i code points are read and hashed.
pub loop-i-init : goal.loop-i-init
loop-i-init c = (spot-start c.requires, refl)

pub character-requires : goal.character-requires
character-requires c =
    turn-spot c.requires c.loop-i.invariant.1 c.loop-i.invariant.0.read.inside

pub mix-h-requires : goal.mix-h-requires
mix-h-requires c = turn-hash c.requires c.loop-i.invariant.0

pub overflow_mul-result : goal.overflow_mul-result
unfolding max_stream
overflow_mul-result c =
    omega (arith, c.loop-i.invariant.0.read.inside, c.requires.literal.size)

pub overflow_add-result : goal.overflow_add-result
unfolding max_stream
overflow_add-result c =
    omega (arith, c.loop-i.invariant.0.read.inside, c.requires.literal.size)

pub returns-in-Err-clause-read : goal.returns-in-Err-clause-read
returns-in-Err-clause-read c =
    turn-refused c.requires c.loop-i.invariant.0 c.loop-i-test.true
    (c.in-Err.ensures.refused (refusal-some c.in-Err.refusal)) c.clear_cells.ensures

pub loop-i-preserved : goal.loop-i-preserved
loop-i-preserved c = (
  turn-next c.requires c.loop-i.invariant.0 c.loop-i-test.true (c.in-Ok.ensures.read refl)
      c.mix-h.ensures,
  refl,
)

pub overflow_mul-result-2 : goal.overflow_mul-result-2
unfolding max_stream
overflow_mul-result-2 c =
    omega (arith, c.loop-i.invariant.0.read.inside, c.requires.literal.size)

pub overflow_add-result-2 : goal.overflow_add-result-2
unfolding max_stream
overflow_add-result-2 c =
    omega (arith, c.loop-i.invariant.0.read.inside, c.requires.literal.size)

pub overflow_cast-result : goal.overflow_cast-result
overflow_cast-result c = omega (arith, turn-hash c.requires c.loop-i.invariant.0)

pub returns-clause-read : goal.returns-clause-read
returns-clause-read c = turn_end c.requires c.loop-i.invariant.0 c.loop-i-test.false
