use Rattle.mem_state.proofs.Commit.{grow-steps, learn-asks, mark-asks}
use Rattle.mem_state.proofs.grow.Goals as goal

-- src/lib.rt:153:5
pub enter-requires : goal.enter-requires
enter-requires c =
    let asks = c.requires in
    record { room = asks.room; low = asks.name }

-- src/lib.rt:154:5
pub learn-requires : goal.learn-requires
learn-requires c =
    learn-asks c.requires c.enter.ensures

-- src/lib.rt:155:5
pub mark-requires : goal.mark-requires
mark-requires c =
    mark-asks c.requires c.enter.ensures c.learn.ensures

-- src/lib.rt:149:1
-- src/lib.rt:149:1
pub returns : goal.returns
returns c =
    grow-steps c.requires c.enter.ensures c.learn.ensures
    c.mark.ensures
