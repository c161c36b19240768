use mathlib.Core.Path.{refl}
use Rattle.settings.specs.Meant.{settings_from}
use Rattle.receiver_look.proofs.Steps.{look-nothing, content-asks, look_known}
use Rattle.receiver_look.proofs.outside.Goals as goal

-- `outside` meets its contract.
pub outer_code-requires : goal.outer_code-requires
outer_code-requires c = let r = c.requires in
    record {
      look_pre = r.look_pre;
      mode_lt_in_tag = r.mode_lt_in_tag;
    }

pub returns-in_default : goal.returns-in_default
returns-in_default c =
    rw c.unknown.ensures (look-nothing c.requires.look_pre _)

pub content-requires : goal.content-requires
content-requires c =
    let pre = c.requires.look_pre in
    record {
      hit_pre = content-asks pre c.in-Ok.ensures refl;
      uris_le_max_uris = pre.bounded.uris;
    }

pub returns : goal.returns
unfolding settings_from
returns c =
    let pre = c.requires.look_pre in
    look_known pre c.in-Ok.ensures refl c.content.ensures
