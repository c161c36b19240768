use Rattle.write_new.proofs.New.{attribute-after, attribute-written}
use Rattle.write_new.proofs.New.{attribute-value, attribute-join, attribute-grow}
use Rattle.write_new.proofs.New.{attribute-limit, attribute-code, attribute-name}
use Rattle.write_new.proofs.New.{attribute-here, attribute-growth, attribute-equal}
use mathlib.Core.Path.{◌∙◌}
use Rattle.spec_fields.specs.Refusal.{number_of}
use Rattle.settings.specs.Meant.{settings_from}
use borrow.Author.Rules.{rules}
use Rattle.write_new.proofs.add_attribute.Goals as goal

pub code_here-code-requires : goal.code_here-code-requires
code_here-code-requires c =
    attribute-here c.requires.step_pre c.requires.value_accepted c.with_value-t.ensures

pub growth-g-requires : goal.growth-g-requires
growth-g-requires c =
    attribute-growth c.requires.step_pre c.requires.value_accepted c.with_value-t.ensures

pub allows-requires : goal.allows-requires
allows-requires c =
    record {
      room = c.requires.step_pre.rows;
      low = (attribute-here c.requires.step_pre c.requires.value_accepted
          c.with_value-t.ensures).name-low;
    }

pub returns-then-not-allows : goal.returns-then-not-allows
unfolding settings_from number_of
returns-then-not-allows c =
    rw c.answer.ensures
    (attribute-equal c.requires.step_pre c.requires.value_accepted c.with_value-t.ensures
    c.code_here-code.ensures c.allows.ensures c.if-not-allows.true-raw)

pub returns-then-not-fits : goal.returns-then-not-fits
unfolding settings_from number_of
returns-then-not-fits c =
    rw c.answer-then-not-fits.ensures
    (attribute-limit c.requires.step_pre c.requires.value_accepted c.with_value-t.ensures
    c.code_here-code.ensures c.allows.ensures c.if-not-allows.false-raw
    c.growth-g.ensures c.fits.ensures c.if-not-fits.true-raw)

pub put_code-next-requires : goal.put_code-next-requires
unfolding settings_from
put_code-next-requires c =
    attribute-code c.requires.step_pre c.requires.value_accepted c.with_value-t.ensures
    c.code_here-code.ensures c.allows.ensures c.if-not-allows.false-raw
    c.growth-g.ensures c.fits.ensures c.if-not-fits.false-raw

pub put_name-mid-requires : goal.put_name-mid-requires
unfolding settings_from
put_name-mid-requires c =
    attribute-name c.requires.step_pre c.requires.value_accepted c.with_value-t.ensures
    c.code_here-code.ensures c.allows.ensures c.if-not-allows.false-raw
    c.growth-g.ensures c.fits.ensures c.if-not-fits.false-raw c.put_code-next.ensures

pub put_value-at-requires : goal.put_value-at-requires
unfolding settings_from
put_value-at-requires c =
    attribute-value c.requires.step_pre c.requires.value_accepted c.with_value-t.ensures
    c.code_here-code.ensures c.allows.ensures c.if-not-allows.false-raw
    c.growth-g.ensures c.fits.ensures c.if-not-fits.false-raw c.put_code-next.ensures
    c.put_name-mid.ensures c.look_up-x.ensures.result_value

pub join_strings-requires : goal.join_strings-requires
join_strings-requires c =
    attribute-join c.requires.step_pre c.requires.value_accepted c.with_value-t.ensures
    c.code_here-code.ensures c.allows.ensures c.if-not-allows.false-raw
    c.growth-g.ensures c.fits.ensures c.if-not-fits.false-raw

pub grow-requires : goal.grow-requires
grow-requires c =
    attribute-grow c.requires.step_pre c.requires.value_accepted c.with_value-t.ensures
    c.code_here-code.ensures c.allows.ensures c.if-not-allows.false-raw
    c.growth-g.ensures c.fits.ensures c.if-not-fits.false-raw
    c.join_strings.ensures

pub after-core-requires : goal.after-core-requires
after-core-requires c =
    attribute-after c.requires.step_pre c.requires.value_accepted c.with_value-t.ensures
    c.code_here-code.ensures c.allows.ensures c.if-not-allows.false-raw
    c.growth-g.ensures c.fits.ensures c.if-not-fits.false-raw

pub shape_of-stream : goal.shape_of-stream
shape_of-stream c =
    c.stream-3-1.given ∙ c.stream-2-1.given ∙ c.stream-1.given

pub returns : goal.returns
unfolding settings_from
returns c =
    rw c.answer-2.ensures
    (attribute-written c.requires.step_pre c.requires.value_accepted c.with_value-t.ensures
    c.code_here-code.ensures c.allows.ensures c.if-not-allows.false-raw
    c.growth-g.ensures c.fits.ensures c.if-not-fits.false-raw c.put_code-next.ensures
    c.put_name-mid.ensures c.look_up-x.ensures.result_value c.put_value-at.ensures
    c.join_strings.ensures c.grow.ensures c.after-core.ensures)
