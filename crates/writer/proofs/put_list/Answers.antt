use native.Mathlib.Omega.{arith}
use mathlib.Core.Path.{◌∙◌}
use borrow.Author.Rules.{rules}
use Rattle.spec_exi.specs.Sizes.{max_events, max_string, max_stream}
use Rattle.settings.specs.Meant.{settings_from}
use Rattle.writer.proofs.Start.{body-asks}
use Rattle.writer.proofs.Reply.{list-refused, list-long, list_put}
use Rattle.writer.proofs.put_list.Goals as goal

-- `put_list` meets its contract.
pub put_body-run-requires : goal.put_body-run-requires
put_body-run-requires c =
    body-asks (settings_from c.args.o) c.put_header-at.ensures c.requires.rows
    c.requires.bound

pub overflow_cast-run : goal.overflow_cast-run
unfolding max_events
overflow_cast-run c =
    omega (arith, c.put_body-run.ensures.few)

pub shape_of-stream-then-run-ne0 : goal.shape_of-stream-then-run-ne0
shape_of-stream-then-run-ne0 c =
    c.stream-2-1.given ∙ c.stream-1.given

pub shape_of-work-then-run-ne0 : goal.shape_of-work-then-run-ne0
shape_of-work-then-run-ne0 c =
    c.work-1.given

pub returns-then-run-ne0 : goal.returns-then-run-ne0
returns-then-run-ne0 c =
    rw c.refused.ensures (list-refused c.put_header-at.ensures c.put_body-run.ensures c.if-run-ne0.true)

pub overflow_add-octets : goal.overflow_add-octets
unfolding max_events max_string
overflow_add-octets c =
    omega (arith, c.put_body-run.ensures.near)

pub shape_of-stream-then-octets-gt-MAX_STREAM : goal.shape_of-stream-then-octets-gt-MAX_STREAM
shape_of-stream-then-octets-gt-MAX_STREAM c =
    c.stream-2-1.given ∙ c.stream-1.given

pub shape_of-work-then-octets-gt-MAX_STREAM : goal.shape_of-work-then-octets-gt-MAX_STREAM
shape_of-work-then-octets-gt-MAX_STREAM c =
    c.work-1.given

pub returns-then-octets-gt-MAX_STREAM : goal.returns-then-octets-gt-MAX_STREAM
unfolding max_stream
returns-then-octets-gt-MAX_STREAM c =
    rw c.refused-then-octets-gt-MAX_STREAM.ensures (list-long c.put_header-at.ensures c.put_body-run.ensures c.if-run-ne0.false c.if-octets-gt-MAX_STREAM.true)

pub shape_of-stream : goal.shape_of-stream
shape_of-stream c =
    c.stream-2-1.given ∙ c.stream-1.given

pub shape_of-work : goal.shape_of-work
shape_of-work c =
    c.work-1.given

pub returns : goal.returns
unfolding max_stream
returns c =
    list_put c.put_header-at.ensures c.put_body-run.ensures c.if-run-ne0.false c.if-octets-gt-MAX_STREAM.false c.requires.octets
