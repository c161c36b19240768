use mathlib.Core.Path.{refl}
use Rattle.settings.specs.Meant.{settings_from}
use Rattle.write_tags.proofs.Documents.{code-asks}
use borrow.Author.Rules.{rules}
use Rattle.write_tags.proofs.outer.Goals as goal

pub put_code-at-requires : goal.put_code-at-requires
put_code-at-requires c =
    code-asks c.requires.step_pre c.requires.outer_pre c.count_here-count.ensures

pub returns : goal.returns
unfolding settings_from
returns c =
    rw (c.moved_on.ensures, c.mode_after-mode.ensures, c.next_tag-tag.ensures)
    (record {
      count = _;
      counted = c.count_here-count.ensures;
      at = _;
      put = c.put_code-at.ensures;
      is = refl;
    })
