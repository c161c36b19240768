use mathlib.Core.Path.{sym}
use borrow.Author.Rules.{rules}
use Rattle.spec_fields.specs.Refusal.{number_of}
use Rattle.text.specs.Text.{text}
use Rattle.refusal.specs.Names.{name_of, refusals, of_readings, names, name_among, padded}
use Rattle.refusal.specs.Names.{name_at}
use Rattle.refusal.proofs.Table.{in_table, none_above}
use Rattle.refusal.proofs.name_of.Goals as goal

-- `name_of` meets its contract: its table is the definition's values from 0 on, by computation.
pub returns-then-number-lt20 : goal.returns-then-number-lt20
unfolding name_at name_among names name_of refusals of_readings number_of padded text
returns-then-number-lt20 c = in_table c.args.number (search rules)

pub returns : goal.returns
returns c = sym (none_above c.args.number c.if-number-lt20.false)
