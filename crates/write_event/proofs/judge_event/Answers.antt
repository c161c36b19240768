use mathlib.Core.Path.{refl}
use borrow.Author.Rules.{rules}
use Rattle.std.proofs.lemmas.Result.{err_from_is_err_and}
use Rattle.grammar_codes.specs.Table.{place_as}
use Rattle.settings.specs.Meant.{settings_from}
use Rattle.write_partition.proofs.Tests.{number-some}
use Rattle.write_event.proofs.Places.{some-level}
use Rattle.write_event.proofs.Returns.{grammars-asks, shape-stops, place-stops, content-stops, event-judged}
use Rattle.write_event.proofs.judge_event.Goals as goal

pub returns-in_default : goal.returns-in_default
unfolding settings_from place_as
returns-in_default c =
    shape-stops _ _ _ _ c.requires c.kind_of-kind.ensures c.in_default.ensures.is refl

pub returns-then-not-places_fit : goal.returns-then-not-places_fit
unfolding settings_from
returns-then-not-places_fit c =
    place-stops _ _ _ _ c.requires c.kind_of-kind.ensures c.in-Some.ensures.is
    (some-level c.in-Some.ensures.low) c.places_fit.ensures c.if-not-places_fit.true-raw

pub returns-in_err-x : goal.returns-in_err-x
unfolding settings_from
returns-in_err-x c =
    let p = err_from_is_err_and c.from_residual.result c.from_residual.ensures.1 in
    rw (p.1, p.2) (content-stops _ _ _ _ c.requires c.kind_of-kind.ensures c.in-Some.ensures.is
    (some-level c.in-Some.ensures.low) c.places_fit.ensures c.if-not-places_fit.false-raw
    c.in_err-x.ensures (number-some c.in_err-x.field-0.0))

pub judge_grammars-requires : goal.judge_grammars-requires
judge_grammars-requires c = grammars-asks c.requires c.in_ok-x.ensures refl

pub returns : goal.returns
unfolding settings_from
returns c =
    event-judged _ _ _ _ c.requires c.kind_of-kind.ensures c.in-Some.ensures.is
    (some-level c.in-Some.ensures.low) c.places_fit.ensures c.if-not-places_fit.false-raw
    c.in_ok-x.ensures refl c.judge_grammars.ensures
