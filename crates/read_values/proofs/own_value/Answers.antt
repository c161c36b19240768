use mathlib.Core.Path.{refl}
use borrow.Author.Rules.{rules}
use Rattle.spec_fields.specs.Refusal.{number_of}
use Rattle.read_partition.proofs.Fields.{field-kept, field-told, passed-on}
use Rattle.read_values.proofs.Bounds.{choice-asks, count-asks, nth-asks, row-asks}
use Rattle.read_values.proofs.Returns.{own-refused, own-absent, own-found}
use Rattle.read_values.proofs.own_value.Goals as goal

pub count_local-among-requires : goal.count_local-among-requires
count_local-among-requires c = count-asks c.requires

pub choice-requires : goal.choice-requires
choice-requires c = choice-asks c.requires c.count_local-among.ensures.within

pub returns-in_err-field-clause-by_index : goal.returns-in_err-field-clause-by_index
returns-in_err-field-clause-by_index c =
    let t = field-told _ _ c.map_err.ensures.cases c.in_err-field.was c.choice.ensures
    (λ k q. search rules) in
    rw (passed-on c.from_residual.ensures.1, t.2)
    (λ text longest. own-refused c.requires c.count_local-among.ensures t.1 text refl)

pub nth_local-requires : goal.nth_local-requires
nth_local-requires c = nth-asks c.requires

pub returns-in_default-clause-by_index : goal.returns-in_default-clause-by_index
unfolding number_of
returns-in_default-clause-by_index c =
    let f = field-kept _ _ c.map_err.ensures.cases c.in_ok-field.was c.choice.ensures in
    rw c.refused.ensures
    (λ text longest. own-absent c.requires c.count_local-among.ensures f text refl
    c.replaced-low.ensures c.in_default.ensures refl)

pub value_at-v-requires : goal.value_at-v-requires
value_at-v-requires c = row-asks c.requires

pub returns-clause-by_index : goal.returns-clause-by_index
returns-clause-by_index c =
    let f = field-kept _ _ c.map_err.ensures.cases c.in_ok-field.was c.choice.ensures in
    rw c.found.ensures
    (λ text longest. own-found c.requires c.count_local-among.ensures f text refl
    c.replaced-low.ensures c.in-Some.ensures refl c.value_at-v.ensures)
