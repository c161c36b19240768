-- `number_of` meets its contract, digit by digit.
use Rattle.std.proofs.Common.{◌≡◌, ◌∙◌, sym, drop, None}
use Rattle.exi_words.specs.Words.{number_from}
use Rattle.exi_words.proofs.Numbers.{whole, no-digit, too-large, one-read, all-read}
use Rattle.exi_words.proofs.number_of.Goals.{then-not-is_digit-via-then-not-is_digit, then-not-is_digit-via-else-not-is_digit+then-n-gt99999999}
use Rattle.exi_words.proofs.number_of.Goals as goal

pub returns-then-not-is_digit : goal.returns-then-not-is_digit
returns-then-not-is_digit c =
    let w = c.args.word.now in
    let refused : None ≡ number_from (drop c.loop-c.c-index w) c.loop-c.n =
    elim c.then-not-is_digit.branch [
      | then-not-is_digit-via-then-not-is_digit b ↦
          no-digit w _ _ c.loop-c-test.true c.is_digit.ensures b.if-not-is_digit.true
      | then-not-is_digit-via-else-not-is_digit+then-n-gt99999999 b ↦
          too-large w _ _ c.loop-c-test.true c.is_digit.ensures b.if-not-is_digit.false b.if-n-gt99999999.true
    ]
    in
    refused ∙ sym c.loop-c.invariant ∙ whole w c.is_empty.ensures c.if-is_empty.false c.if-word-gt9.false

pub loop-c-preserved : goal.loop-c-preserved
loop-c-preserved c =
    c.loop-c.invariant
    ∙ one-read c.args.word.now _ _ c.loop-c-test.true c.is_digit.ensures c.if-not-is_digit.false c.if-n-gt99999999.false

pub returns : goal.returns
returns c =
    let w = c.args.word.now in
    all-read w c.loop-c.c-index c.loop-c.n c.loop-c-test.false
    ∙ sym c.loop-c.invariant
    ∙ whole w c.is_empty.ensures c.if-is_empty.false c.if-word-gt9.false
