use Rattle.spec_exi.specs.Sizes.{max_open, max_grammars, max_learned}
use Rattle.grammar_update.proofs.Tests.{not-open, not-grammars, not-learned, all_fit}
use Rattle.grammar_update.specs.Growth.{fits_in}
use borrow.Author.Rules.{rules}
use Rattle.grammar_update.proofs.fits.Goals as goal

pub returns-then-g-c : goal.returns-then-g-c
unfolding max_open
returns-then-g-c c = not-open _ _ c.if-g-c.true

pub returns-then-g-c-2 : goal.returns-then-g-c-2
unfolding max_open max_grammars
returns-then-g-c-2 c = not-grammars _ _ c.if-g-c.false c.if-g-c-2.true

pub returns-then-g-c-3 : goal.returns-then-g-c-3
unfolding max_open max_grammars max_learned
returns-then-g-c-3 c =
    let if1 = c.if-g-c in
    let if2 = c.if-g-c-2 in
    not-learned _ _ if1.false if2.false c.if-g-c-3.true

pub returns : goal.returns
unfolding max_open max_grammars max_learned
returns c =
    let if1 = c.if-g-c in
    let if2 = c.if-g-c-2 in
    all_fit _ _ if1.false if2.false c.if-g-c-3.false
