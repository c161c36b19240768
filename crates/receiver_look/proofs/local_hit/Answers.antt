use mathlib.Core.Path.{refl}
use Rattle.receiver_strings.proofs.Points.{spot-asks}
use Rattle.receiver_look.proofs.Hits.{local-nothing, own-pre, local-found}
use Rattle.receiver_look.proofs.local_hit.Goals as goal

-- `local_hit` meets its contract.
pub unsigned-requires : goal.unsigned-requires
unsigned-requires c = spot-asks c.requires.hit_pre.spot

pub returns-in_default : goal.returns-in_default
returns-in_default c = rw c.unknown.ensures (local-nothing c.requires.hit_pre _ _)

pub returns-then-number-ne0 : goal.returns-then-number-ne0
returns-then-number-ne0 c =
    rw c.unknown-then-number-ne0.ensures (local-nothing c.requires.hit_pre _ _)

pub own_name-requires : goal.own_name-requires
own_name-requires c =
    record {
      hit_pre = own-pre c.requires.hit_pre c.in-Ok.ensures refl;
      row_lt_uri_rows = c.requires.row_lt_uri_rows;
    }

pub returns : goal.returns
returns c =
    local-found c.requires.hit_pre c.in-Ok.ensures refl c.if-number-ne0.false c.own_name.ensures
