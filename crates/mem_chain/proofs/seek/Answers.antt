use Prim.Native.Nat.{◌-◌}
use native.Mathlib.Nat.{mod-lt}
use Rattle.mem_chain.proofs.Sought.{seek-start, seek-end, seek-here, seek-next, seek-less}
use Rattle.mem_chain.proofs.seek.Goals as goal

-- `seek` meets its contract.
pub loop-c-init : goal.loop-c-init
loop-c-init g c = seek-start _ c.falling-c.ensures

pub returns-then-has : goal.returns-then-has
returns-then-has g c =
    seek-here c.loop-c.invariant c.loop-c-test.true
    (λ test a. a _ _ (mod-lt (c.loop-c.c - 1) c.requires.cells.some) c.if-has.ensures)

pub loop-c-smaller : goal.loop-c-smaller
loop-c-smaller g c =
    seek-less c.loop-c.invariant c.loop-c-test.true _ c.falling-c-in-loop-c.ensures

pub loop-c-preserved : goal.loop-c-preserved
loop-c-preserved g c =
    seek-next c.loop-c.invariant c.loop-c-test.true
    (λ test a. a _ _ (mod-lt (c.loop-c.c - 1) c.requires.cells.some) c.if-has.ensures)
    _ c.falling-c-in-loop-c.ensures

pub returns : goal.returns
returns g c = seek-end c.loop-c.invariant c.loop-c-test.false
