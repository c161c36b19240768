use Rattle.write_new.proofs.New.{element-written}
use Rattle.write_new.proofs.New.{element-name, element-join, element-grow, element-after}
use Rattle.write_new.proofs.New.{element-here, element-growth, element-limit, element-code}
use mathlib.Core.Path.{◌∙◌}
use Rattle.spec_fields.specs.Refusal.{number_of}
use Rattle.settings.specs.Meant.{settings_from}
use borrow.Author.Rules.{rules}
use Rattle.write_new.proofs.add_element.Goals as goal

pub code_here-code-requires : goal.code_here-code-requires
code_here-code-requires c =
    element-here c.requires.step_pre c.requires.accepted

pub growth-g-requires : goal.growth-g-requires
growth-g-requires c =
    element-growth c.requires.step_pre c.requires.accepted

pub returns-then-not-fits : goal.returns-then-not-fits
unfolding settings_from number_of
returns-then-not-fits c =
    rw c.answer.ensures
    (element-limit c.requires.step_pre c.requires.accepted c.code_here-code.ensures
    c.growth-g.ensures c.fits.ensures c.if-not-fits.true-raw)

pub put_code-next-requires : goal.put_code-next-requires
unfolding settings_from
put_code-next-requires c =
    element-code c.requires.step_pre c.requires.accepted c.code_here-code.ensures
    c.growth-g.ensures c.fits.ensures c.if-not-fits.false-raw

pub put_name-at-requires : goal.put_name-at-requires
unfolding settings_from
put_name-at-requires c =
    element-name c.requires.step_pre c.requires.accepted c.code_here-code.ensures
    c.growth-g.ensures c.fits.ensures c.if-not-fits.false-raw c.put_code-next.ensures

pub join_strings-requires : goal.join_strings-requires
join_strings-requires c =
    element-join c.requires.step_pre c.requires.accepted c.code_here-code.ensures
    c.growth-g.ensures c.fits.ensures c.if-not-fits.false-raw

pub grow-requires : goal.grow-requires
grow-requires c =
    element-grow c.requires.step_pre c.requires.accepted c.code_here-code.ensures
    c.growth-g.ensures c.fits.ensures c.if-not-fits.false-raw
    c.join_strings.ensures

pub after-core-requires : goal.after-core-requires
after-core-requires c =
    element-after c.requires.step_pre c.requires.accepted c.code_here-code.ensures
    c.growth-g.ensures c.fits.ensures c.if-not-fits.false-raw

pub shape_of-stream : goal.shape_of-stream
shape_of-stream c =
    c.stream-2-1.given ∙ c.stream-1.given

pub returns : goal.returns
unfolding settings_from
returns c =
    rw c.answer-2.ensures
    (element-written c.requires.step_pre c.requires.accepted c.code_here-code.ensures
    c.growth-g.ensures c.fits.ensures c.if-not-fits.false-raw c.put_code-next.ensures
    c.put_name-at.ensures c.join_strings.ensures c.grow.ensures
    c.after-core.ensures)
