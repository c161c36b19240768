use mathlib.Core.Path.{refl}
use Rattle.std.proofs.lemmas.Result.{err_from_is_err_and}
use Rattle.receiver_look.proofs.Events.{attribute-known, attribute-new, attribute-hit}
use Rattle.receiver_look.proofs.Hits.{name-asks, value-spot}
use Rattle.receiver_look.proofs.Names.{then-spot, then-after, then-stays}
use Rattle.receiver_look.proofs.attribute.Goals as goal

-- `attribute` meets its contract.
pub string-requires : goal.string-requires
string-requires c = c.requires.hit_pre.spot

pub returns-then-learned : goal.returns-then-learned
returns-then-learned c =
    rw c.if-learned.true (attribute-known c.string.ensures c.requires.hit_pre.spot.place)

pub name_hit-requires : goal.name_hit-requires
name_hit-requires c =
    record {
      hit_pre = c.requires.hit_pre;
      uris_le_max_uris = c.requires.uris_le_max_uris;
    }

pub string-requires-in-Ok : goal.string-requires-in-Ok
string-requires-in-Ok c = value-spot c.requires.hit_pre c.in-Ok.ensures.bounds

pub returns-in-Ok : goal.returns-in-Ok
returns-in-Ok c =
    rw c.if-learned.false (attribute-hit c.in-Ok.ensures refl c.string-in-Ok.ensures)

pub name-requires : goal.name-requires
name-requires c = name-asks c.requires.hit_pre c.requires.uris_le_max_uris

pub returns-in_err-next : goal.returns-in_err-next
returns-in_err-next c =
    let p = err_from_is_err_and c.from_residual.result c.from_residual.ensures.1 in
    let n = c.in_err-next.ensures in
    rw (c.if-learned.false, p.1, p.2)
    (attribute-new n (then-stays (then-spot c.requires.hit_pre.spot n.bounds) refl))

pub string-requires-2 : goal.string-requires-2
string-requires-2 c = value-spot c.requires.hit_pre c.in_ok-next.ensures.bounds

pub returns : goal.returns
returns c =
    let n = c.in_ok-next.ensures in
    rw c.if-learned.false
    (attribute-new n
    (then-after (then-spot c.requires.hit_pre.spot n.bounds) refl c.string-2.ensures))
