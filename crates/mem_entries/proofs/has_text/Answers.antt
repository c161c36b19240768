use Rattle.mem_entries.specs.Texts.{row_has}
use Rattle.text.specs.Text.{Text, eq_text}
use mathlib.Core.Path.{ap, ◌∙◌}
use borrow.Author.Rules.{rules}
use Rattle.mem_entries.proofs.has_text.Goals as goal

-- `has_text` meets its contract.
pub returns : goal.returns
unfolding row_has
returns c =
    c.same_text.ensures
    ∙ ap (λ (l : Text). eq_text l
    c.args.x.now)
    c.look_up.ensures.result_value
