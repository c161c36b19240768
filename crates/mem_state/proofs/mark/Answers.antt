use Rattle.mem_state.proofs.Commit.{mark-not, mark-joins}
use Rattle.spec_exi.specs.Grammar.{kind_number}
use Rattle.mem_state.proofs.mark.Goals as goal

-- src/lib.rt:143:9
pub returns-then-kind-ne-AT : goal.returns-then-kind-ne-AT
unfolding kind_number
returns-then-kind-ne-AT c = mark-not _ _ _ _ c.if-kind-ne-AT.true

-- src/lib.rt:145:5
pub mark-requires : goal.mark-requires
mark-requires c =
    let asks = c.requires in
    record { room = asks.room; low = asks.low }

-- src/lib.rt:138:1
-- src/lib.rt:138:1
pub returns : goal.returns
unfolding kind_number
returns c =
    mark-joins _ _ _ _ c.if-kind-ne-AT.false c.mark.ensures
