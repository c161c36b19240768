use Rattle.read_tags.proofs.Plain.{end-loose, end-strict}
use Rattle.spec_exi.specs.Grammar.{kind_number}
use Rattle.spec_fields.specs.Refusal.{number_of}
use native.Mathlib.Omega.{arith}
use mathlib.Core.Path.{refl}
use Rattle.read_tags.proofs.end_tag.Goals as goal

pub find_learned-requires : goal.find_learned-requires
find_learned-requires c =
    let pre = c.requires in
    record {
      room = pre.work_cells_in_bounds;
      low = pre.tag_pre.bounded.top;
      name_low = omega arith;
      few = pre.tag_pre.bounded.learned;
    }

pub returns-in-Some : goal.returns-in-Some
unfolding kind_number number_of
returns-in-Some c =
    let pre = c.requires in
    rw c.answer.ensures (end-loose pre.tag_pre pre.learned_value c.in-Some.ensures
    (λ z. absurd (omega (arith, z))) c.args.fragment)

pub known_end-requires : goal.known_end-requires
known_end-requires c = c.requires.tag_pre

pub shape_of-events : goal.shape_of-events
shape_of-events c = c.events-1.given

pub returns : goal.returns
unfolding kind_number
returns c =
    let pre = c.requires in
    end-strict pre.tag_pre pre.learned_value c.in_default.ensures refl pre.mode_value
    c.known_end.ensures
