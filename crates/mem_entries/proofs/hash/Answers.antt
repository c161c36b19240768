use Rattle.mem_entries.proofs.Hashing.{Hashing, hash-start, hash-on, hash-end}
use Rattle.mem_entries.proofs.hash.Goals as goal

-- `hash` meets its contract.
pub loop-c-init : goal.loop-c-init
loop-c-init c = hash-start _

pub loop-c-preserved : goal.loop-c-preserved
loop-c-preserved c =
    hash-on _ _ _ c.loop-c.invariant c.loop-c-test.true _
    c.mix-h.ensures

pub returns : goal.returns
returns c = hash-end _ _ _ c.loop-c.invariant c.loop-c-test.false
