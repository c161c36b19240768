use mathlib.Core.Path.{refl}
use borrow.Author.Rules.{rules}
use Rattle.spec_fields.specs.Refusal.{number_of}
use Rattle.read_field.specs.View.{alignment_of}
use Rattle.read_partition.proofs.Fields.{field-kept, field-told, passed-on}
use Rattle.read_names.proofs.Bounds.{name-row-asks}
use Rattle.read_names.proofs.Bounds.{name-choice-asks, name-count-asks, name-nth-asks}
use Rattle.read_names.proofs.Names.{own-refused, own-absent, own-reserved, own-found}
use Rattle.read_names.proofs.own_name.Goals as goal

pub count_names-among-requires : goal.count_names-among-requires
count_names-among-requires c = name-count-asks c.requires

pub choice-requires : goal.choice-requires
choice-requires c = name-choice-asks c.requires c.count_names-among.ensures.within

pub returns-in_err-field-clause-name_post : goal.returns-in_err-field-clause-name_post
returns-in_err-field-clause-name_post c =
    let t = field-told _ _ c.map_err.ensures.cases c.in_err-field.was c.choice.ensures
    (λ k q. search rules) in
    rw (passed-on c.from_residual.ensures.1, t.2)
    (own-refused _ c.requires c.count_names-among.ensures t.1 _ _ _ refl).0

pub returns-in_err-field-clause-name_rowed : goal.returns-in_err-field-clause-name_rowed
returns-in_err-field-clause-name_rowed c =
    let t = field-told _ _ c.map_err.ensures.cases c.in_err-field.was c.choice.ensures
    (λ k q. search rules) in
    rw (passed-on c.from_residual.ensures.1, t.2)
    (own-refused _ c.requires c.count_names-among.ensures t.1 c.args.attr c.args.place c.args.size refl).1

pub nth_name-requires : goal.nth_name-requires
nth_name-requires c = name-nth-asks c.requires

pub returns-in_default-clause-name_post : goal.returns-in_default-clause-name_post
unfolding number_of
returns-in_default-clause-name_post c =
    let f = field-kept _ _ c.map_err.ensures.cases c.in_ok-field.was c.choice.ensures in
    rw c.refused.ensures
    (own-absent _ c.requires c.count_names-among.ensures f _ _ _ refl c.in_default.ensures refl).0

pub returns-in_default-clause-name_rowed : goal.returns-in_default-clause-name_rowed
unfolding number_of
returns-in_default-clause-name_rowed c =
    let f = field-kept _ _ c.map_err.ensures.cases c.in_ok-field.was c.choice.ensures in
    rw c.refused.ensures
    (own-absent _ c.requires c.count_names-among.ensures f c.args.attr c.args.place c.args.size refl
    c.in_default.ensures refl).1

pub name_at-x-requires : goal.name_at-x-requires
name_at-x-requires c = name-row-asks c.requires c.in-Some.ensures.within

pub returns-then-reserved-clause-name_post : goal.returns-then-reserved-clause-name_post
unfolding number_of
returns-then-reserved-clause-name_post c =
    let f = field-kept _ _ c.map_err.ensures.cases c.in_ok-field.was c.choice.ensures in
    rw c.refused-then-reserved.ensures
    (own-reserved _ c.requires c.count_names-among.ensures f _ _ _ refl c.in-Some.ensures refl
    c.name_at-x.ensures c.reserved.ensures c.if-reserved.true).0

pub returns-then-reserved-clause-name_rowed : goal.returns-then-reserved-clause-name_rowed
unfolding number_of
returns-then-reserved-clause-name_rowed c =
    let f = field-kept _ _ c.map_err.ensures.cases c.in_ok-field.was c.choice.ensures in
    rw c.refused-then-reserved.ensures
    (own-reserved _ c.requires c.count_names-among.ensures f _ _ _ refl c.in-Some.ensures refl
    c.name_at-x.ensures c.reserved.ensures c.if-reserved.true).1

pub returns-clause-name_post : goal.returns-clause-name_post
returns-clause-name_post c =
    let f = field-kept _ _ c.map_err.ensures.cases c.in_ok-field.was c.choice.ensures in
    rw c.found.ensures
    (own-found _ c.requires c.count_names-among.ensures f _ _ _ refl c.in-Some.ensures refl
    c.name_at-x.ensures c.reserved.ensures c.if-reserved.false).0

pub returns-clause-name_rowed : goal.returns-clause-name_rowed
returns-clause-name_rowed c =
    let f = field-kept _ _ c.map_err.ensures.cases c.in_ok-field.was c.choice.ensures in
    rw c.found.ensures
    (own-found _ c.requires c.count_names-among.ensures f _ _ _ refl c.in-Some.ensures refl
    c.name_at-x.ensures c.reserved.ensures c.if-reserved.false).1
