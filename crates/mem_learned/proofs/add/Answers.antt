use mathlib.Core.Path.{refl}
use Rattle.mem_learned.proofs.Joined.{add-steps}
use Rattle.mem_learned.proofs.Rows.{name-seeking, site-joining}
use native.Mathlib.Omega.{arith}
use Rattle.mem_learned.proofs.add.Goals as goal

-- `add` meets its contract.
pub enter-requires : goal.enter-requires
enter-requires c =
    name-seeking refl
    (omega (
      arith,
      c.requires.room,
      c.put_rows.auto.work,
    ))
    c.requires.low
    c.requires.kind_low
    c.requires.name_low
    (omega (arith, c.requires.few))

pub join-requires : goal.join-requires
join-requires c =
    site-joining refl
    (omega (
      arith,
      c.requires.room,
      c.put_rows.auto.work,
      c.enter.auto.work,
    ))
    c.requires.low
    (omega (
      arith,
      c.requires.few,
    ))

pub returns : goal.returns
returns c =
    add-steps _ _ _ _ _ _ _
    refl
    refl
    c.put_rows.ensures
    c.enter.ensures
    c.join.ensures
