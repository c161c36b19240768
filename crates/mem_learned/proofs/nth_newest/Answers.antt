use mathlib.Core.Path.{refl}
use Rattle.mem_learned.proofs.Rows.{site-asking, nth-out, nth_in}
use Rattle.mem_learned.proofs.nth_newest.Goals as goal

-- `nth_newest` meets its contract.
pub returns-then-v-count : goal.returns-then-v-count
returns-then-v-count c = nth-out c.if-v-count.true

pub nth-requires : goal.nth-requires
nth-requires c =
    site-asking refl c.requires.room
    c.requires.low c.requires.few

pub returns : goal.returns
returns c = nth_in refl c.if-v-count.false c.nth.ensures
