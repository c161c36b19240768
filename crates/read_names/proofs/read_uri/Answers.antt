use native.Mathlib.Omega.{arith}
use mathlib.Core.Path.{refl}
use borrow.Author.Rules.{rules}
use Rattle.spec_fields.specs.Refusal.{number_of}
use Rattle.spec_exi.specs.Sizes.{max_uris}
use Rattle.read_partition.proofs.Fields.{field-kept, field-told, passed-on}
use Rattle.read_names.proofs.Bounds.{uri-choice-asks, uri-row-asks, uri-at-asks}
use Rattle.read_names.proofs.Uris.{uri-refused, uri-next, uri-beyond, uri-missed, uri-hit}
use Rattle.read_names.proofs.read_uri.Goals as goal

pub overflow_add-uris : goal.overflow_add-uris
unfolding max_uris
overflow_add-uris c = omega (arith, c.requires.few)

pub choice-requires : goal.choice-requires
choice-requires c = uri-choice-asks c.requires

pub returns-in_err-field-clause-uri_post : goal.returns-in_err-field-clause-uri_post
returns-in_err-field-clause-uri_post c =
    let t = field-told _ _ c.map_err.ensures.cases c.in_err-field.was c.choice.ensures
    (λ k q. search rules) in
    rw (passed-on c.from_residual.ensures.1, t.2) (uri-refused _ c.requires t.1 refl).0

pub returns-in_err-field-clause-uri_rowed : goal.returns-in_err-field-clause-uri_rowed
returns-in_err-field-clause-uri_rowed c =
    let t = field-told _ _ c.map_err.ensures.cases c.in_err-field.was c.choice.ensures
    (λ k q. search rules) in
    rw (passed-on c.from_residual.ensures.1, t.2) (uri-refused _ c.requires t.1 refl).1

pub missed_uri-requires : goal.missed_uri-requires
missed_uri-requires c =
    let f = field-kept _ _ c.map_err.ensures.cases c.in_ok-field.was c.choice.ensures in
    uri-at-asks c.requires (uri-next _ c.requires f refl)

pub returns-then-field-eq0-clause-uri_post : goal.returns-then-field-eq0-clause-uri_post
returns-then-field-eq0-clause-uri_post c =
    let f = field-kept _ _ c.map_err.ensures.cases c.in_ok-field.was c.choice.ensures in
    (uri-missed _ c.requires f refl c.if-field-eq0.true
    (c.missed_uri.ensures.uri_post _, c.missed_uri.ensures.uri_rowed)).0

pub returns-then-uris-field-clause-uri_post : goal.returns-then-uris-field-clause-uri_post
unfolding number_of
returns-then-uris-field-clause-uri_post c =
    let f = field-kept _ _ c.map_err.ensures.cases c.in_ok-field.was c.choice.ensures in
    rw c.refused.ensures (uri-beyond _ c.requires f refl c.if-uris-field.true).0

pub returns-then-uris-field-clause-uri_rowed : goal.returns-then-uris-field-clause-uri_rowed
unfolding number_of
returns-then-uris-field-clause-uri_rowed c =
    let f = field-kept _ _ c.map_err.ensures.cases c.in_ok-field.was c.choice.ensures in
    rw c.refused.ensures (uri-beyond _ c.requires f refl c.if-uris-field.true).1

pub uri_at-u-requires : goal.uri_at-u-requires
uri_at-u-requires c = uri-row-asks c.requires c.if-uris-field.false c.if-field-eq0.false

pub returns-clause-uri_post : goal.returns-clause-uri_post
returns-clause-uri_post c =
    let f = field-kept _ _ c.map_err.ensures.cases c.in_ok-field.was c.choice.ensures in
    rw c.found.ensures
    (uri-hit _ c.requires f refl c.if-field-eq0.false c.if-uris-field.false c.uri_at-u.ensures).0

pub returns-clause-uri_rowed : goal.returns-clause-uri_rowed
returns-clause-uri_rowed c =
    let f = field-kept _ _ c.map_err.ensures.cases c.in_ok-field.was c.choice.ensures in
    rw c.found.ensures
    (uri-hit _ c.requires f refl c.if-field-eq0.false c.if-uris-field.false c.uri_at-u.ensures).1
