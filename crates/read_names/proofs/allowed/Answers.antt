use native.Mathlib.Omega.{arith}
use Rattle.spec_exi.specs.Sizes.{max_store}
use borrow.Author.Rules.{rules}
use Rattle.read_names.proofs.allowed.Goals as goal

pub overflow_cast-stored : goal.overflow_cast-stored
unfolding max_store
overflow_cast-stored c = omega (arith, c.requires)

pub returns : goal.returns
returns c =
    let look_up = c.look_up-u in
    let look-up2 = c.look_up-x in
    rw (← look_up.ensures.result_value, ← look-up2.ensures.result_value) c.local_allowed.ensures
