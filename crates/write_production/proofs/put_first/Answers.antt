use mathlib.Core.Path.{sym}
use native.Mathlib.Omega.{arith}
use Rattle.write_production.specs.Codes.{first_bits}
use Rattle.write_production.proofs.First.{among-few, one-asks}
use borrow.Author.Rules.{rules}
use Rattle.write_production.proofs.put_first.Goals as goal

pub overflow_add-among : goal.overflow_add-among
overflow_add-among c = omega (arith, c.requires.few, among-few _ c.own_values.ensures)

pub put_choice-requires : goal.put_choice-requires
put_choice-requires c = one-asks _ c.requires c.own_values.ensures

pub returns : goal.returns
unfolding first_bits
returns c = rw (sym c.own_values.ensures) c.put_choice.ensures
