use Rattle.write_event.proofs.Steps.{grammars-equal, grammars-limit, grammars-pass}
use borrow.Author.Rules.{rules}
use Rattle.write_event.proofs.judge_grammars.Goals as goal

pub returns-then-not-allows : goal.returns-then-not-allows
returns-then-not-allows c =
    let code_here = c.code_here-code in
    let growth = c.growth-growth in
    let allows = c.allows in
    let if1 = c.if-not-allows in
    grammars-equal _ _ code_here.ensures growth.ensures allows.ensures if1.true-raw

pub returns-then-not-fits : goal.returns-then-not-fits
returns-then-not-fits c =
    let code_here = c.code_here-code in
    let growth = c.growth-growth in
    let allows = c.allows in
    let if1 = c.if-not-allows in
    let fits2 = c.fits in
    let if2 = c.if-not-fits in
    grammars-limit _ _ code_here.ensures growth.ensures allows.ensures if1.false-raw fits2.ensures
    if2.true-raw

pub returns : goal.returns
returns c =
    let code_here = c.code_here-code in
    let growth = c.growth-growth in
    let allows = c.allows in
    let if1 = c.if-not-allows in
    let fits2 = c.fits in
    grammars-pass _ _ code_here.ensures growth.ensures allows.ensures if1.false-raw
    fits2.ensures c.if-not-fits.false-raw
