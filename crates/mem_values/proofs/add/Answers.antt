use mathlib.Core.Path.{refl}
use Rattle.mem_values.proofs.Joined.{add-steps}
use Rattle.mem_values.proofs.Local.{owner-joining}
use native.Mathlib.Omega.{arith}
use Rattle.mem_values.proofs.add.Goals as goal

-- `add` meets its contract.
pub join-requires : goal.join-requires
join-requires c =
    owner-joining refl
    (omega (
      arith,
      c.requires.room,
      c.put_text.auto.work,
    ))
    c.requires.low
    (omega (arith, c.requires.few))

pub returns : goal.returns
returns c =
    add-steps _ _ _ _ _ _
    refl
    c.put_text.ensures c.join.ensures
    c.link.ensures
