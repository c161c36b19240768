use Rattle.mem_state.specs.Commit.{counted}
use Rattle.mem_state.proofs.Counts.{one-from}
use native.Mathlib.Omega.{arith}
use Rattle.mem_state.proofs.count.Goals as goal

pub overflow_add-d : goal.overflow_add-d
overflow_add-d c = omega (arith, (one-from c.from.ensures).most, c.requires.uris)

pub overflow_add-d-2 : goal.overflow_add-d-2
overflow_add-d-2 c = omega (arith, (one-from c.from-2.ensures).most, c.requires.names)

pub overflow_add-d-3 : goal.overflow_add-d-3
overflow_add-d-3 c =
    omega (arith, (one-from c.from-3.ensures).most, c.requires.values)

pub overflow_add-d-4 : goal.overflow_add-d-4
overflow_add-d-4 c =
    omega (
      arith,
      (one-from c.from-4.ensures).most,
      c.requires.learned,
    )

pub overflow_add-d-5 : goal.overflow_add-d-5
overflow_add-d-5 c =
    omega (
      arith,
      (one-from c.from-5.ensures).most,
      c.requires.grammars,
    )

pub returns : goal.returns
unfolding counted
returns c =
    rw (
      (one-from c.from.ensures).is,
      (one-from c.from-2.ensures).is,
      (one-from c.from-3.ensures).is,
      (one-from c.from-4.ensures).is,
      (one-from c.from-5.ensures).is,
    )
