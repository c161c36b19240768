use mathlib.Core.Path.{refl}
use Rattle.settings.specs.Meant.{settings_from}
use Rattle.receiver_look.proofs.Steps.{rest-asks, fixed-nothing, fixed-content, fixed-seen}
use Rattle.receiver_look.proofs.fixed.Goals as goal

-- `fixed` meets its contract.
pub read_fixed-requires : goal.read_fixed-requires
read_fixed-requires c = rest-asks c.requires

pub returns-in_default : goal.returns-in_default
returns-in_default c = rw c.unknown.ensures (fixed-nothing c.requires _)

pub content-requires : goal.content-requires
content-requires c =
    let pre = c.requires in
    record {
      hit_pre = fixed-content pre (c.in-Ok.ensures _ pre.spot.place);
      uris_le_max_uris = pre.bounded.uris;
    }

pub returns : goal.returns
unfolding settings_from
returns c =
    fixed-seen c.requires (c.in-Ok.ensures _ c.requires.spot.place) refl c.content.ensures
