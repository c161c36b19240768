use native.Mathlib.Omega.{arith}
use Rattle.settings.specs.Meant.{settings_from}
use Rattle.read_production.proofs.Returns.{fixed-asks, outer-read}
use Rattle.read_production.proofs.Between.{at_none}
use Rattle.receiver_look.proofs.Steps.{production-asks}
use Rattle.receiver_look.proofs.outer_code.Goals as goal

-- `outer_code` meets its contract.
pub read_between-requires : goal.read_between-requires
read_between-requires c = at_none (production-asks c.requires.look_pre)

pub returns-then-c-eq-IN_FRAGMENT : goal.returns-then-c-eq-IN_FRAGMENT
returns-then-c-eq-IN_FRAGMENT c =
    rw c.if-c-eq-IN_FRAGMENT.true (c.read_between.ensures _ c.requires.look_pre.bounded.top)

pub read_fixed-requires : goal.read_fixed-requires
read_fixed-requires c =
    let pre = c.requires.look_pre in
    fixed-asks (production-asks pre) pre.spot.place

pub returns : goal.returns
unfolding settings_from
returns c =
    outer-read (settings_from c.args.o) _ (production-asks c.requires.look_pre)
    (omega (arith, c.if-c-eq-IN_FRAGMENT.false, c.requires.mode_lt_in_tag))
    (c.read_fixed.ensures _ c.requires.look_pre.spot.place)
