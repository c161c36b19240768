use mathlib.Core.Path.{refl}
use Rattle.std.proofs.lemmas.Result.{err_from_is_err_and}
use Rattle.receiver_look.proofs.Names.{then-spot, then-after, then-stays, name-seen}
use Rattle.receiver_look.proofs.name.Goals as goal

-- `name` meets its contract.
pub uri-requires : goal.uri-requires
uri-requires c = c.requires

pub returns-in_err-next : goal.returns-in_err-next
returns-in_err-next c =
    let p = err_from_is_err_and c.from_residual.result c.from_residual.ensures.1 in
    let u = c.in_err-next.ensures in
    rw (p.1, p.2) (name-seen u (then-stays (then-spot c.requires.spot u.bounds) refl))

pub string-requires : goal.string-requires
string-requires c = (then-spot c.requires.spot c.in_ok-next.ensures.bounds).spot

pub returns : goal.returns
returns c =
    let u = c.in_ok-next.ensures in
    name-seen u (then-after (then-spot c.requires.spot u.bounds) refl c.string.ensures)
