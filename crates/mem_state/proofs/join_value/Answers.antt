use Rattle.mem_state.proofs.Commit.{value_not, value-joins}
use Rattle.mem_state.proofs.Commit.{value-adds}
use Rattle.mem_state.proofs.join_value.Goals as goal

-- src/lib.rt:100:9
pub returns-then-not-joins : goal.returns-then-not-joins
returns-then-not-joins c = value_not _ _ _ _ c.if-not-joins.true-raw

-- src/lib.rt:102:5
pub add-requires : goal.add-requires
add-requires c = value-adds c.requires c.if-not-joins.false-raw

-- src/lib.rt:95:1
-- src/lib.rt:95:1
pub returns : goal.returns
returns c = value-joins _ _ _ _ c.if-not-joins.false-raw c.add.ensures
