use native.Mathlib.Omega.{arith}
use Rattle.spec_exi.specs.Sizes.{max_store}
use Rattle.read_values.proofs.fault.Goals as goal

pub overflow_cast-stored : goal.overflow_cast-stored
unfolding max_store
overflow_cast-stored c = omega (arith, c.requires)

pub returns : goal.returns
returns c = rw (← c.look_up-x.ensures.result_value) c.judge_text.ensures
