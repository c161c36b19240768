use Rattle.mem_entries.proofs.Hashing.{Weighing, weigh-start, weigh-on, weigh-end}
use native.Mathlib.Omega.{arith}
use Rattle.mem_entries.proofs.weigh.Goals as goal

-- `weigh` meets its contract.
pub loop-c-init : goal.loop-c-init
loop-c-init c = weigh-start _

pub mix-h-requires : goal.mix-h-requires
mix-h-requires c = c.loop-c.invariant.hashing.low

pub loop-c-preserved : goal.loop-c-preserved
loop-c-preserved c =
    weigh-on _ c.loop-c.invariant c.loop-c-test.true c.mix-h.ensures c.is_char-chars.ensures

pub overflow_cast-result : goal.overflow_cast-result
overflow_cast-result c = omega (arith, c.loop-c.invariant.hashing.low)

pub returns : goal.returns
returns c = weigh-end _ c.loop-c.invariant c.loop-c-test.false
