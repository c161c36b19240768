use Rattle.grammar_codes.proofs.Places.{tag-other}
use Rattle.grammar_codes.specs.Table.{tables, table_of, number_in, in_level, place_in, place_as}
use Rattle.spec_exi.specs.Grammar.{kind_number}
use Rattle.grammar_codes.proofs.tag_place.Goals as goal

pub returns-in-4-clause-is : goal.returns-in-4-clause-is
unfolding table_of tables place_in number_in in_level place_as kind_number
returns-in-4-clause-is c = rw c.in-4.is

pub returns-in-3-clause-is : goal.returns-in-3-clause-is
unfolding table_of tables place_in number_in in_level place_as kind_number
returns-in-3-clause-is c = rw c.in-3.is

pub returns-in-2-clause-is : goal.returns-in-2-clause-is
unfolding table_of tables place_in number_in in_level place_as kind_number
returns-in-2-clause-is c = rw c.in-2.is

pub returns-in-5-clause-is : goal.returns-in-5-clause-is
unfolding table_of tables place_in number_in in_level place_as kind_number
returns-in-5-clause-is c = rw c.in-5.is

pub returns-in_default-clause-is : goal.returns-in_default-clause-is
returns-in_default-clause-is c = let n = c.in_default.in_default-own.rest in
    tag-other _ _ _ n.0.0.0.1 n.0.0.1 n.0.1 n.1 c.kept_place.ensures.is
