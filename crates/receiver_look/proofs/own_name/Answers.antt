use mathlib.Core.Path.{refl}
use Rattle.receiver_look.proofs.Hits.{own-nothing, count-asks, own-asks, own-found}
use Rattle.receiver_look.proofs.own_name.Goals as goal

-- `own_name` meets its contract.
pub count_names-among-requires : goal.count_names-among-requires
count_names-among-requires c = count-asks c.requires.hit_pre c.requires.row_lt_uri_rows

pub choice-requires : goal.choice-requires
choice-requires c = own-asks c.requires.hit_pre c.count_names-among.ensures

pub returns-in_default : goal.returns-in_default
returns-in_default c = rw c.unknown.ensures (own-nothing c.requires.hit_pre _ _)

pub returns : goal.returns
returns c = own-found c.requires.hit_pre _ c.count_names-among.ensures c.in-Ok.ensures refl
