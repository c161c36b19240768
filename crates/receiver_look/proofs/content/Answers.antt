use Rattle.receiver_look.proofs.Events.{content-nothing, content-name, content-attribute}
use Rattle.receiver_look.proofs.Events.{content-characters, content-comment}
use Rattle.receiver_look.proofs.Events.{content-instruction}
use Rattle.receiver_look.proofs.Hits.{name-asks}
use Rattle.receiver_look.proofs.content.Goals as goal

-- `content` meets its contract.
pub returns-then-learned : goal.returns-then-learned
returns-then-learned c =
    rw c.unknown.ensures (content-nothing _ _ _ c.requires.hit_pre.spot.place)

pub name-requires : goal.name-requires
name-requires c =
    let pre = c.requires in
    name-asks pre.hit_pre pre.uris_le_max_uris

pub attribute-requires : goal.attribute-requires
attribute-requires c = let r = c.requires in
    record {
      hit_pre = r.hit_pre;
      uris_le_max_uris = r.uris_le_max_uris;
    }

pub string-requires : goal.string-requires
string-requires c = c.requires.hit_pre.spot

pub string-requires-in-6 : goal.string-requires-in-6
string-requires-in-6 c = c.requires.hit_pre.spot

pub instruction-requires : goal.instruction-requires
instruction-requires c = c.requires.hit_pre.spot

pub returns-else-learned : goal.returns-else-learned
returns-else-learned c =
    rw c.if-learned.false (content-name _ c.in-2.is c.name.ensures)

pub returns-in-3 : goal.returns-in-3
returns-in-3 c = content-attribute _ c.in-3.is c.attribute.ensures

pub returns-in-5 : goal.returns-in-5
returns-in-5 c = content-characters _ c.in-5.is c.string.ensures

pub returns-in-6 : goal.returns-in-6
returns-in-6 c = content-comment _ c.in-6.is c.string-in-6.ensures

pub returns-in-7 : goal.returns-in-7
returns-in-7 c = content-instruction _ c.in-7.is c.instruction.ensures

pub returns-in_default : goal.returns-in_default
returns-in_default c =
    rw c.unknown-in_default.ensures (content-nothing _ _ _ c.requires.hit_pre.spot.place)
