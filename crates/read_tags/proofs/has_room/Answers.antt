use Rattle.read_tags.proofs.Tags.{room-full, room-left}
use Rattle.spec_exi.specs.Sizes.{max_open, max_grammars}
use Rattle.read_tags.proofs.has_room.Goals as goal

pub returns-then-depth-ge-MAX_OPEN : goal.returns-then-depth-ge-MAX_OPEN
unfolding max_open
returns-then-depth-ge-MAX_OPEN c = room-full _ _ c.if-depth-ge-MAX_OPEN.true

pub returns : goal.returns
unfolding max_open max_grammars
returns c = room-left _ _ c.if-depth-ge-MAX_OPEN.false
