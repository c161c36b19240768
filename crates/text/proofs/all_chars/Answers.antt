use borrow.Author.Rules.{rules}
use mathlib.Core.Path.{◌≡◌}
use mathlib.Core.Bool.{true, false}
use borrow.Author.Tests.{tests}
use Rattle.std.proofs.lemmas.Iterator.{cases_from_all, YieldsList-from_slice}
use Rattle.text.specs.Text.{is_char}
use Rattle.text.proofs.Rest.{chars-decide}
use Rattle.text.proofs.all_chars.Goals as goal

-- `text::all_chars` meets its contract: each code point is asked for in turn.
pub returns : goal.returns
returns c =
    chars-decide _ _
    (cases_from_all _ _ _ (λ p. is_char p ≡ true) (λ p. is_char p ≡ false) c.all.ensures.ran
    (YieldsList-from_slice c.args.x.now cc)
    (λ x q k. search (rules, tests)) (λ x q k. search (rules, tests)))
