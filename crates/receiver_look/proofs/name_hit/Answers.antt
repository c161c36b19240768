use mathlib.Core.Path.{refl}
use native.Mathlib.Omega.{arith}
use Rattle.spec_exi.specs.Sizes.{max_uris}
use Rattle.receiver_look.proofs.Hits.{uri-asks, hit-nothing, local-pre, hit-found}
use Rattle.receiver_look.proofs.name_hit.Goals as goal

-- `name_hit` meets its contract.
pub overflow_add-uris : goal.overflow_add-uris
unfolding max_uris
overflow_add-uris c = omega (arith, c.requires.uris_le_max_uris)

pub choice-requires : goal.choice-requires
choice-requires c = uri-asks c.requires.hit_pre c.requires.uris_le_max_uris

pub returns-in_default : goal.returns-in_default
returns-in_default c = rw c.unknown.ensures (hit-nothing c.requires.hit_pre _ _)

pub returns-then-number-eq0 : goal.returns-then-number-eq0
returns-then-number-eq0 c =
    rw c.unknown-then-number-eq0.ensures (hit-nothing c.requires.hit_pre _ _)

pub local_hit-requires : goal.local_hit-requires
unfolding max_uris
local_hit-requires c =
    let pre = c.requires in
    record {
      hit_pre = local-pre pre.hit_pre _ _ c.in-Ok.ensures refl;
      row_lt_uri_rows =
          omega (arith, pre.uris_le_max_uris, c.if-uris-number.false, c.if-number-eq0.false);
    }

pub returns : goal.returns
returns c =
    hit-found c.requires.hit_pre _ _ c.in-Ok.ensures refl c.if-number-eq0.false
    (omega (arith, c.if-uris-number.false)) c.local_hit.ensures
