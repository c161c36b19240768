use Rattle.mem_state.proofs.Commit.{on, uri-not, uri-joins}
use Rattle.mem_state.proofs.join_uri.Goals as goal

-- src/lib.rt:80:9
pub returns-then-not-joins : goal.returns-then-not-joins
returns-then-not-joins c = uri-not _ _ _ c.if-not-joins.true-raw

-- src/lib.rt:82:5
pub add_uri-requires : goal.add_uri-requires
add_uri-requires c =
    record { room = c.requires.room; low = c.requires.few (on _ c.if-not-joins.false-raw) }

-- src/lib.rt:75:1
-- src/lib.rt:75:1
pub returns : goal.returns
returns c = uri-joins _ _ _ c.if-not-joins.false-raw c.add_uri.ensures
