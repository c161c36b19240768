use mathlib.Core.Path.{refl}
use Rattle.mem_names.proofs.Joined.{add-steps}
use Rattle.mem_names.proofs.Names.{uri-joining}
use native.Mathlib.Omega.{arith}
use Rattle.mem_names.proofs.add_name.Goals as goal

-- `add_name` meets its contract.
pub join-requires : goal.join-requires
join-requires c =
    uri-joining refl
    (omega (
      arith,
      c.requires.room,
      c.put_name.auto.work,
    ))
    c.requires.low
    (omega (arith, c.requires.few))

pub returns : goal.returns
returns c =
    add-steps _ _ _ _ _ _
    refl
    c.spot.ensures.is
    c.put_name.ensures
    c.join.ensures
    c.link.ensures
