use Rattle.spec_exi.specs.Sizes.{max_open}
use native.Mathlib.Omega.{arith}
use Rattle.write_tags.proofs.Elements.{element-stepped}
use Rattle.write_known.proofs.Values.{learned-asks}
use borrow.Author.Rules.{rules}
use Rattle.write_tags.proofs.known_element.Goals as goal

pub put_learned-at-requires : goal.put_learned-at-requires
put_learned-at-requires c = learned-asks c.requires.step_pre c.requires.learned_pre

pub overflow_add-c : goal.overflow_add-c
unfolding max_open
overflow_add-c c = omega (arith, c.requires.depth_lt_max_open)

pub returns : goal.returns
returns c =
    rw c.moved_on.ensures
    (element-stepped c.requires.step_pre c.requires.learned_pre c.requires.name_value c.requires.depth_lt_max_open
    c.put_learned-at.ensures c.next_tag-tag.ensures)
