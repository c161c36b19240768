use native.Mathlib.Omega.{arith}
use mathlib.Core.Path.{refl}
use borrow.Author.Rules.{rules}
use Rattle.read_partition.proofs.Fields.{field-kept, field-told, passed-on}
use Rattle.read_values.proofs.Returns.{value-refused, value-own, value-any, value-new}
use Rattle.read_values.proofs.Bounds.{in-stream, new-asks, hit-asks}
use Rattle.read_values.proofs.read_value.Goals as goal

pub unsigned-requires : goal.unsigned-requires
unsigned-requires c = in-stream c.requires.literal

pub returns-in_err-field-clause-value_post : goal.returns-in_err-field-clause-value_post
returns-in_err-field-clause-value_post c =
    let t = field-told _ _ c.map_err.ensures.cases c.in_err-field.was c.unsigned.ensures
    (λ k q. search rules) in
    rw (passed-on c.from_residual.ensures.1, t.2) (value-refused c.requires t.1 refl)

pub own_value-requires : goal.own_value-requires
own_value-requires c =
    hit-asks c.requires
    (field-kept _ _ c.map_err.ensures.cases c.in_ok-field.was c.unsigned.ensures) refl

pub any_value-requires : goal.any_value-requires
any_value-requires c =
    hit-asks c.requires
    (field-kept _ _ c.map_err.ensures.cases c.in_ok-field.was c.unsigned.ensures) refl

pub new_value-requires : goal.new_value-requires
new_value-requires c =
    new-asks c.requires
    (field-kept _ _ c.map_err.ensures.cases c.in_ok-field.was c.unsigned.ensures) refl

pub returns-in-0-clause-value_post : goal.returns-in-0-clause-value_post
returns-in-0-clause-value_post c =
    value-own c.requires
    (field-kept _ _ c.map_err.ensures.cases c.in_ok-field.was c.unsigned.ensures) refl c.in-0.is
    (c.own_value.ensures.by_index _ _)

pub returns-in-0-clause-joins_within : goal.returns-in-0-clause-joins_within
returns-in-0-clause-joins_within c = c.own_value.ensures.by_index_2 _

pub returns-in-1-clause-value_post : goal.returns-in-1-clause-value_post
returns-in-1-clause-value_post c =
    value-any c.requires
    (field-kept _ _ c.map_err.ensures.cases c.in_ok-field.was c.unsigned.ensures) refl c.in-1.is
    (c.any_value.ensures.by_index _ _)

pub returns-in-1-clause-joins_within : goal.returns-in-1-clause-joins_within
returns-in-1-clause-joins_within c = c.any_value.ensures.by_index_2 _

pub returns-in_default-clause-value_post : goal.returns-in_default-clause-value_post
returns-in_default-clause-value_post c =
    value-new c.requires
    (field-kept _ _ c.map_err.ensures.cases c.in_ok-field.was c.unsigned.ensures) refl
    (λ z. absurd (omega (arith, z)))
    (λ z. absurd (omega (arith, z))) (c.new_value.ensures.value_post _ _)
