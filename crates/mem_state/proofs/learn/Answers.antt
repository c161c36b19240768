use Rattle.mem_state.proofs.Commit.{on, learn-not, learn-joins}
use Rattle.mem_state.proofs.learn.Goals as goal

-- src/lib.rt:130:9
pub returns-then-not-g : goal.returns-then-not-g
returns-then-not-g c = learn-not _ _ _ c.if-not-g.true

-- src/lib.rt:132:5
pub add-requires : goal.add-requires
add-requires c =
    record {
      room = c.requires.room;
      few = c.requires.few (on _ c.if-not-g.false);
      low = c.requires.site;
      kind_low = c.requires.kind;
      name_low = c.requires.name;
    }

-- src/lib.rt:125:1
-- src/lib.rt:125:1
pub returns : goal.returns
returns c = learn-joins _ _ _ c.if-not-g.false c.add.ensures
