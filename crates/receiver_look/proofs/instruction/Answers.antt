use mathlib.Core.Path.{refl}
use Rattle.std.proofs.lemmas.Result.{err_from_is_err_and}
use Rattle.receiver_look.proofs.Events.{instruction-seen}
use Rattle.receiver_look.proofs.Names.{then-spot, then-after, then-stays}
use Rattle.receiver_look.proofs.instruction.Goals as goal

-- `instruction` meets its contract.
pub string-requires : goal.string-requires
string-requires c = c.requires

pub returns-in_err-next : goal.returns-in_err-next
returns-in_err-next c =
    let p = err_from_is_err_and c.from_residual.result c.from_residual.ensures.1 in
    let t = c.in_err-next.ensures in
    rw (p.1, p.2) (instruction-seen t (then-stays (then-spot c.requires t.bounds) refl))

pub string-requires-2 : goal.string-requires-2
string-requires-2 c = (then-spot c.requires c.in_ok-next.ensures.bounds).spot

pub returns : goal.returns
returns c =
    let t = c.in_ok-next.ensures in
    instruction-seen t (then-after (then-spot c.requires t.bounds) refl c.string-2.ensures)
