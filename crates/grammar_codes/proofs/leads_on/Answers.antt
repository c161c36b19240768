use Rattle.grammar_codes.proofs.Fixed.{leads-kept, leads-none, leads-over}
use Rattle.grammar_codes.specs.Table.{tables, table_of, fixed_levels}
use borrow.Author.Tests.{not-true, not-false}
use Rattle.grammar_codes.proofs.leads_on.Goals as goal

pub returns-then-not-comments-instructions : goal.returns-then-not-comments-instructions
returns-then-not-comments-instructions c = leads-none _ _ (not-true _ c.if-not-comments-instructions.true-raw) _

pub returns-in-1 : goal.returns-in-1
unfolding fixed_levels table_of tables
returns-in-1 c = rw c.in-1.is (leads-kept _ _ (not-false _ c.if-not-comments-instructions.false-raw))

pub returns-in-2 : goal.returns-in-2
unfolding fixed_levels table_of tables
returns-in-2 c = rw c.in-2.is (leads-kept _ _ (not-false _ c.if-not-comments-instructions.false-raw))

pub returns-in-5 : goal.returns-in-5
unfolding fixed_levels table_of tables
returns-in-5 c = rw c.in-5.is (leads-kept _ _ (not-false _ c.if-not-comments-instructions.false-raw))

pub returns-in-6 : goal.returns-in-6
unfolding fixed_levels table_of tables
returns-in-6 c = rw c.in-6.is (leads-kept _ _ (not-false _ c.if-not-comments-instructions.false-raw))

pub returns-in-4 : goal.returns-in-4
unfolding fixed_levels table_of tables
returns-in-4 c = rw c.in-4.is (leads-kept _ _ (not-false _ c.if-not-comments-instructions.false-raw))

pub returns-in_default : goal.returns-in_default
returns-in_default c =
    let n = c.in_default.in_default-own.rest in
    leads-over _ _ _ n.0.0.0.0.1 n.0.0.0.1 n.0.0.1 n.0.1 n.1
