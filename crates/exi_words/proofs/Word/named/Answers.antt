-- `named` meets its contract: each name before the index is another.
use Rattle.std.proofs.Common.{◌∙◌, sym, refl}
use Rattle.exi_words.specs.Words.{all_words, named}
use Rattle.exi_words.specs.declared.Word.TheVariants.{BitPacked}
use Rattle.exi_words.proofs.Names.{stands, passes, all-passed}
use Rattle.exi_words.proofs.Word.named.Goals as goal

pub loop-word-init : goal.loop-word-init
unfolding named
loop-word-init c = refl

pub returns-then-eq : goal.returns-then-eq
unfolding all_words
returns-then-eq c =
    stands all_words c.args.name.now c.loop-word.word-index BitPacked
    c.loop-word-test.true c.name.ensures c.eq.ensures c.if-eq.true
    ∙ sym c.loop-word.invariant

pub loop-word-preserved : goal.loop-word-preserved
unfolding all_words
loop-word-preserved c =
    c.loop-word.invariant
    ∙ passes all_words c.args.name.now c.loop-word.word-index BitPacked
    c.loop-word-test.true c.name.ensures c.eq.ensures c.if-eq.false

pub returns : goal.returns
unfolding all_words
returns c =
    all-passed all_words c.args.name.now c.loop-word.word-index BitPacked c.loop-word-test.false
    ∙ sym c.loop-word.invariant
