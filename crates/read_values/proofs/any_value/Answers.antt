use mathlib.Core.Path.{refl}
use borrow.Author.Rules.{rules}
use Rattle.spec_fields.specs.Refusal.{number_of}
use Rattle.read_partition.proofs.Fields.{field-kept, field-told, passed-on}
use Rattle.read_values.proofs.Bounds.{all-asks, global-asks, row-asks}
use Rattle.read_values.proofs.Returns.{any-refused, any-absent, any-own, any_found}
use Rattle.read_values.proofs.any_value.Goals as goal

pub choice-requires : goal.choice-requires
choice-requires c = all-asks c.requires _

pub returns-in_err-field-clause-by_index : goal.returns-in_err-field-clause-by_index
returns-in_err-field-clause-by_index c =
    let t = field-told _ _ c.map_err.ensures.cases c.in_err-field.was c.choice.ensures
    (λ k q. search rules) in
    rw (passed-on c.from_residual.ensures.1, t.2)
    (λ text longest. any-refused c.requires c.replaced-low.ensures t.1 text refl)

pub nth_global-requires : goal.nth_global-requires
nth_global-requires c =
    global-asks c.requires c.replaced-low.ensures c.newest_numbers-newer.ensures

pub returns-in_default-clause-by_index : goal.returns-in_default-clause-by_index
unfolding number_of
returns-in_default-clause-by_index c =
    let f = field-kept _ _ c.map_err.ensures.cases c.in_ok-field.was c.choice.ensures in
    rw c.refused.ensures
    (λ text longest. any-absent c.requires c.replaced-low.ensures f text refl
    c.newest_numbers-newer.ensures c.in_default.ensures refl)

pub value_at-v-requires : goal.value_at-v-requires
value_at-v-requires c = row-asks c.requires

pub returns-then-v-owner-clause-by_index : goal.returns-then-v-owner-clause-by_index
unfolding number_of
returns-then-v-owner-clause-by_index c =
    let f = field-kept _ _ c.map_err.ensures.cases c.in_ok-field.was c.choice.ensures in
    rw c.refused-then-v-owner.ensures
    (λ text longest. any-own c.requires c.replaced-low.ensures f text refl
    c.newest_numbers-newer.ensures c.in-Some.ensures refl c.value_at-v.ensures c.if-v-owner.true)

pub returns-clause-by_index : goal.returns-clause-by_index
returns-clause-by_index c =
    let f = field-kept _ _ c.map_err.ensures.cases c.in_ok-field.was c.choice.ensures in
    rw c.found.ensures
    (λ text longest. any_found c.requires c.replaced-low.ensures f text refl
    c.newest_numbers-newer.ensures c.in-Some.ensures refl c.value_at-v.ensures c.if-v-owner.false)
