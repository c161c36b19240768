use mathlib.Core.Path.{refl}
use borrow.Author.Rules.{rules}
use Rattle.read_partition.proofs.Fields.{field-kept, field-told, passed-on}
use Rattle.read_names.proofs.Bounds.{in-stream, number_fits, uri-at-asks}
use Rattle.read_names.proofs.Uris.{missed-refused, missed-refused-row, missed-new}
use Rattle.read_names.proofs.missed_uri.Goals as goal

pub unsigned-requires : goal.unsigned-requires
unsigned-requires c = in-stream c.requires.literal

pub returns-in_err-field-clause-uri_post : goal.returns-in_err-field-clause-uri_post
returns-in_err-field-clause-uri_post c =
    let t = field-told _ _ c.map_err.ensures.cases c.in_err-field.was c.unsigned.ensures
    (λ k q. search rules) in
    rw (passed-on c.from_residual.ensures.1, t.2) (λ a. missed-refused c.requires t.1 refl)

pub returns-in_err-field-clause-uri_rowed : goal.returns-in_err-field-clause-uri_rowed
returns-in_err-field-clause-uri_rowed c =
    let t = field-told _ _ c.map_err.ensures.cases c.in_err-field.was c.unsigned.ensures
    (λ k q. search rules) in
    rw (passed-on c.from_residual.ensures.1, t.2) (missed-refused-row c.requires t.1 refl)

pub new_uri-requires : goal.new_uri-requires
new_uri-requires c =
    let f = field-kept _ _ c.map_err.ensures.cases c.in_ok-field.was c.unsigned.ensures in
    uri-at-asks c.requires (number_fits c.requires.literal f refl).place

pub returns-clause-uri_post : goal.returns-clause-uri_post
returns-clause-uri_post c =
    let f = field-kept _ _ c.map_err.ensures.cases c.in_ok-field.was c.unsigned.ensures in
    λ a. missed-new c.requires f refl (c.new_uri.ensures.uri_post a)
