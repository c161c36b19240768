use Rattle.mem_state.proofs.Commit.{on, name-not, name-joins}
use Rattle.mem_state.proofs.join_name.Goals as goal

-- src/lib.rt:90:9
pub returns-then-not-joins : goal.returns-then-not-joins
returns-then-not-joins c = name-not _ _ _ _ c.if-not-joins.true-raw

-- src/lib.rt:92:5
pub add_name-requires : goal.add_name-requires
add_name-requires c =
    record { room = c.requires.room; few = c.requires.few (on _ c.if-not-joins.false-raw); low = c.requires.low }

-- src/lib.rt:85:1
-- src/lib.rt:85:1
pub returns : goal.returns
returns c = name-joins _ _ _ _ c.if-not-joins.false-raw c.add_name.ensures
