use Rattle.mem_state.proofs.Commit.{enter-not, enter-joins}
use Rattle.mem_state.proofs.enter.Goals as goal

-- src/lib.rt:120:9
pub returns-then-not-enters : goal.returns-then-not-enters
returns-then-not-enters c = enter-not _ _ _ c.if-not-enters.true-raw

-- src/lib.rt:122:5
pub add_grammar-requires : goal.add_grammar-requires
add_grammar-requires c =
    record { room = c.requires.room; low = c.requires.low }

-- src/lib.rt:115:1
-- src/lib.rt:115:1
pub returns : goal.returns
returns c = enter-joins _ _ _ c.if-not-enters.false-raw c.add_grammar.ensures
