use Rattle.write_first.proofs.Unnamed.{characters-join, characters-grow, characters-after, characters-written}
use Rattle.write_first.proofs.Unnamed.{characters-growth, characters-limit, characters-code, characters-value}
use mathlib.Core.Path.{◌∙◌}
use Rattle.spec_fields.specs.Refusal.{number_of}
use Rattle.settings.specs.Meant.{settings_from}
use borrow.Author.Rules.{rules}
use Rattle.write_first.proofs.add_characters.Goals as goal

pub growth-g-requires : goal.growth-g-requires
growth-g-requires c =
    characters-growth c.requires.step_pre c.requires.value_accepted c.no_strings-none.ensures
    c.with_value-s.ensures

pub returns-then-not-fits : goal.returns-then-not-fits
unfolding settings_from number_of
returns-then-not-fits c =
    rw c.answer.ensures
    (characters-limit c.requires.step_pre c.requires.value_accepted c.no_strings-none.ensures
    c.with_value-s.ensures c.code_here-code.ensures c.growth-g.ensures
    c.fits.ensures c.if-not-fits.true-raw)

pub put_code-next-requires : goal.put_code-next-requires
unfolding settings_from
put_code-next-requires c =
    characters-code c.requires.step_pre c.requires.value_accepted c.no_strings-none.ensures
    c.with_value-s.ensures c.code_here-code.ensures c.growth-g.ensures
    c.fits.ensures c.if-not-fits.false-raw

pub put_value-at-requires : goal.put_value-at-requires
unfolding settings_from
put_value-at-requires c =
    characters-value c.requires.step_pre c.requires.value_accepted c.no_strings-none.ensures
    c.with_value-s.ensures c.code_here-code.ensures c.growth-g.ensures
    c.fits.ensures c.if-not-fits.false-raw c.put_code-next.ensures
    c.look_up-x.ensures.result_value

pub join_value-requires : goal.join_value-requires
join_value-requires c =
    characters-join c.requires.step_pre c.requires.value_accepted c.no_strings-none.ensures
    c.with_value-s.ensures c.code_here-code.ensures c.growth-g.ensures
    c.fits.ensures c.if-not-fits.false-raw

pub grow-requires : goal.grow-requires
grow-requires c =
    characters-grow c.requires.step_pre c.requires.value_accepted c.no_strings-none.ensures
    c.with_value-s.ensures c.code_here-code.ensures c.growth-g.ensures
    c.fits.ensures c.if-not-fits.false-raw c.join_value.ensures

pub after-core-requires : goal.after-core-requires
after-core-requires c =
    characters-after c.requires.step_pre c.requires.value_accepted c.no_strings-none.ensures
    c.with_value-s.ensures c.code_here-code.ensures c.growth-g.ensures
    c.fits.ensures c.if-not-fits.false-raw

pub shape_of-stream : goal.shape_of-stream
shape_of-stream c =
    c.stream-2-1.given ∙ c.stream-1.given

pub returns : goal.returns
unfolding settings_from
returns c =
    rw c.answer-2.ensures
    (characters-written c.requires.step_pre c.requires.value_accepted c.no_strings-none.ensures
    c.with_value-s.ensures c.code_here-code.ensures c.growth-g.ensures
    c.fits.ensures c.if-not-fits.false-raw c.put_code-next.ensures
    c.look_up-x.ensures.result_value c.put_value-at.ensures c.join_value.ensures
    c.grow.ensures c.after-core.ensures)
