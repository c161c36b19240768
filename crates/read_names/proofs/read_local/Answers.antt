use mathlib.Core.Path.{refl}
use borrow.Author.Rules.{rules}
use Rattle.read_field.specs.View.{alignment_of}
use Rattle.read_partition.proofs.Fields.{field-kept, field-told, passed-on}
use Rattle.read_names.proofs.Bounds.{in-stream, number_fits, name-at-asks}
use Rattle.read_names.proofs.Names.{name-refused, name-own, name_new_lem}
use Rattle.read_names.proofs.read_local.Goals as goal

pub unsigned-requires : goal.unsigned-requires
unsigned-requires c = in-stream c.requires.literal

pub returns-in_err-field-clause-name_post : goal.returns-in_err-field-clause-name_post
returns-in_err-field-clause-name_post c =
    let t = field-told _ _ c.map_err.ensures.cases c.in_err-field.was c.unsigned.ensures
    (λ k q. search rules) in
    rw (passed-on c.from_residual.ensures.1, t.2) (name-refused _ c.requires t.1 _ _ _ refl).0

pub returns-in_err-field-clause-name_rowed : goal.returns-in_err-field-clause-name_rowed
returns-in_err-field-clause-name_rowed c =
    let t = field-told _ _ c.map_err.ensures.cases c.in_err-field.was c.unsigned.ensures
    (λ k q. search rules) in
    let a = alignment_of c.args.aligned in
    rw (passed-on c.from_residual.ensures.1, t.2)
    (name-refused a c.requires t.1 c.args.attr c.args.place c.args.size refl).1

pub own_name-requires : goal.own_name-requires
own_name-requires c =
    let f = field-kept _ _ c.map_err.ensures.cases c.in_ok-field.was c.unsigned.ensures in
    name-at-asks c.requires (number_fits c.requires.literal f refl).place

pub returns-then-field-eq0-clause-name_post : goal.returns-then-field-eq0-clause-name_post
returns-then-field-eq0-clause-name_post c =
    let f = field-kept _ _ c.map_err.ensures.cases c.in_ok-field.was c.unsigned.ensures in
    (name-own _ c.requires f _ _ _ refl c.if-field-eq0.true
    (c.own_name.ensures.name_post, c.own_name.ensures.name_rowed)).0

pub new_name-requires : goal.new_name-requires
new_name-requires c =
    let f = field-kept _ _ c.map_err.ensures.cases c.in_ok-field.was c.unsigned.ensures in
    name-at-asks c.requires (number_fits c.requires.literal f refl).place

pub returns-clause-name_post : goal.returns-clause-name_post
returns-clause-name_post c =
    let f = field-kept _ _ c.map_err.ensures.cases c.in_ok-field.was c.unsigned.ensures in
    (name_new_lem _ c.requires f _ _ _ refl c.if-field-eq0.false
    (c.new_name.ensures.name_post _, c.new_name.ensures.name_rowed)).0
