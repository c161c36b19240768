use native.Mathlib.Omega.{arith}
use Rattle.spec_exi.specs.Sizes.{max_events, max_store}
use Rattle.read_body.proofs.Body.{run-refused, padding-asks, run-tail, run-ended}
use Rattle.read_body.proofs.Reply.{refused-is, refused-some}
use Rattle.read_body.proofs.run.Goals as goal

-- `run` meets its contract.
pub advance-r-requires : goal.advance-r-requires
advance-r-requires c = c.requires

pub refused-requires : goal.refused-requires
unfolding max_events
refused-requires c =
    omega (arith, c.advance-r.ensures.progress.up_to)

pub returns-then-r-ne0-clause-read : goal.returns-then-r-ne0-clause-read
returns-then-r-ne0-clause-read c =
    run-refused c.requires c.advance-r.ensures c.if-r-ne0.true (refused-is c.refused.ensures)

pub returns-then-r-ne0-clause-some : goal.returns-then-r-ne0-clause-some
returns-then-r-ne0-clause-some c =
    refused-some c.refused.ensures (omega (arith, c.if-r-ne0.true))

pub is_padding-requires : goal.is_padding-requires
is_padding-requires c =
    padding-asks c.requires c.advance-r.ensures

pub overflow_cast-result : goal.overflow_cast-result
unfolding max_events
overflow_cast-result c =
    omega (arith, c.advance-r.ensures.progress.up_to)

pub overflow_cast-result-then-is_padding : goal.overflow_cast-result-then-is_padding
unfolding max_store
overflow_cast-result-then-is_padding c =
    omega (arith, c.advance-r.ensures.progress.bounded.stored)

pub returns-then-is_padding-clause-read : goal.returns-then-is_padding-clause-read
returns-then-is_padding-clause-read c =
    run-ended c.requires c.advance-r.ensures c.if-r-ne0.false c.is_padding.ensures c.if-is_padding.true

pub refused-requires-2 : goal.refused-requires-2
unfolding max_events
refused-requires-2 c =
    omega (arith, c.advance-r.ensures.progress.up_to)

pub returns-clause-read : goal.returns-clause-read
returns-clause-read c =
    run-tail c.requires c.advance-r.ensures c.if-r-ne0.false c.is_padding.ensures
    c.if-is_padding.false (refused-is c.refused-2.ensures)

pub returns-clause-some : goal.returns-clause-some
returns-clause-some c = refused-some c.refused-2.ensures (omega arith)
