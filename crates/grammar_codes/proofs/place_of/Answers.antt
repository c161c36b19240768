use Rattle.grammar_codes.proofs.Places.{place_is, document-other, over-place}
use Rattle.grammar_codes.specs.Table.{tables, table_of, number_in, in_level, place_in, place_as}
use Rattle.spec_exi.specs.Grammar.{kind_number}
use Rattle.spec_exi.specs.Event.{ED, SE}
use Rattle.event_code.specs.Numbers.{in_fragment, in_tag, in_element}
use mathlib.Core.Path.{refl}
use Rattle.grammar_codes.proofs.place_of.Goals as goal

pub returns-then-kind-eq-SD-clause-is : goal.returns-then-kind-eq-SD-clause-is
unfolding table_of tables place_in number_in in_level place_as kind_number
returns-then-kind-eq-SD-clause-is c = rw (c.in-0.is, c.if-kind-eq-SD.true) (place_is _ _ 0 0 refl)

pub returns-else-kind-eq-SD-clause-is : goal.returns-else-kind-eq-SD-clause-is
returns-else-kind-eq-SD-clause-is c = rw c.in-0.is
    (place_is _ _ 0 _ (document-other _ _ _ c.if-kind-eq-SD.false))

pub returns-in-1-clause-is : goal.returns-in-1-clause-is
unfolding table_of tables kind_number
returns-in-1-clause-is c = rw c.in-1.is (place_is _ _ 1 _ (c.outer_place.ensures.is SE refl))

pub returns-in-2-clause-is : goal.returns-in-2-clause-is
unfolding table_of tables kind_number
returns-in-2-clause-is c = rw c.in-2.is (place_is _ _ 2 _ (c.outer_place-in-2.ensures.is ED refl))

pub returns-in-5-clause-is : goal.returns-in-5-clause-is
returns-in-5-clause-is c = rw c.in-5.is (place_is _ _ in_tag _ c.tag_place.ensures.is)

pub returns-in-6-clause-is : goal.returns-in-6-clause-is
returns-in-6-clause-is c = rw c.in-6.is (place_is _ _ in_element _ c.element_place.ensures.is)

pub returns-in-4-clause-is : goal.returns-in-4-clause-is
returns-in-4-clause-is c =
    rw c.in-4.is (place_is _ _ in_fragment _ c.fragment_place.ensures.is)

pub returns-in_default-clause-is : goal.returns-in_default-clause-is
returns-in_default-clause-is c =
    let n = c.in_default.in_default-own.rest in
    place_is _ _ _ _ (over-place _ _ _ n.0.0.0.0.0.1 n.0.0.0.0.1 n.0.0.0.1 n.0.0.1 n.0.1
    n.1)
