use borrow.Author.Rules.{rules}
use Rattle.spec_exi.specs.Sizes.{max_string}
use Rattle.write_values.proofs.Values.{sought-asks, value-long, value-hit, value-new}
use Rattle.write_values.proofs.judge_value.Goals as goal

-- `judge_value` meets its contract: each return is one law.
pub returns-then-x-gt-MAX_STRING : goal.returns-then-x-gt-MAX_STRING
unfolding max_string
returns-then-x-gt-MAX_STRING c = value-long c.requires c.if-x-gt-MAX_STRING.true

pub form_among-form-requires : goal.form_among-form-requires
form_among-form-requires c = sought-asks c.requires

pub judge_new_value-requires : goal.judge_new_value-requires
judge_new_value-requires c = record { store = c.requires.store; weighed = c.weigh-w.ensures.1 }

pub returns-in-Absent : goal.returns-in-Absent
unfolding max_string
returns-in-Absent c =
    value-new c.requires c.weigh-w.ensures.0 c.form_among-form.ensures c.in-Absent.is
    c.if-x-gt-MAX_STRING.false c.judge_new_value.ensures

pub returns : goal.returns
returns c =
    value-hit c.requires c.weigh-w.ensures.0 c.form_among-form.ensures c.in_default.not-Absent
