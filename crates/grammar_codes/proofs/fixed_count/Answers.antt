use Rattle.grammar_codes.proofs.Fixed.{no-fixed}
use Rattle.grammar_codes.specs.Table.{tables, table_of, fixed_levels, fixed_kinds}
use Rattle.grammar_codes.proofs.fixed_count.Goals as goal

pub returns-in-0 : goal.returns-in-0
unfolding fixed_kinds fixed_levels table_of tables
returns-in-0 c = rw c.in-0.is

pub returns-in-1 : goal.returns-in-1
unfolding fixed_kinds fixed_levels table_of tables
returns-in-1 c = rw c.in-1.is

pub returns-in-2 : goal.returns-in-2
unfolding fixed_kinds fixed_levels table_of tables
returns-in-2 c = rw c.in-2.is

pub returns-in-5 : goal.returns-in-5
unfolding fixed_kinds fixed_levels table_of tables
returns-in-5 c = rw c.in-5.is

pub returns-in-6 : goal.returns-in-6
unfolding fixed_kinds fixed_levels table_of tables
returns-in-6 c = rw c.in-6.is

pub returns-in-4 : goal.returns-in-4
unfolding fixed_kinds fixed_levels table_of tables
returns-in-4 c = rw c.in-4.is

pub returns-in_default : goal.returns-in_default
returns-in_default c =
    let n = c.in_default.in_default-own.rest in
    no-fixed _ n.0.0.0.0.0.1 n.0.0.0.0.1 n.0.0.0.1 n.0.0.1 n.0.1 n.1
