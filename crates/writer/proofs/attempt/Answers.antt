use borrow.Author.Rules.{rules}
use Rattle.spec_exi.specs.Sizes.{max_stream, reader_work, writer_work}
use Rattle.writer.proofs.Reply.{no_room, no-meaning, list-asks, bound-asked, list-answered}
use Rattle.writer.proofs.attempt.Goals as goal

-- `attempt` meets its contract.
pub returns-then-stream-work : goal.returns-then-stream-work
unfolding max_stream writer_work reader_work
returns-then-stream-work c =
    let a = c.args in
    rw c.refused.ensures (no_room a.s a.stream.now a.events.now a.text.now
    a.work.now _ c.if-stream-work.true)

pub returns-then-not-are_meaningful : goal.returns-then-not-are_meaningful
unfolding max_stream writer_work reader_work
returns-then-not-are_meaningful c =
    let a = c.args in
    rw c.refused-then-not-are_meaningful.ensures (no-meaning a.s a.stream.now a.events.now a.text.now
    a.work.now c.if-stream-work.false c.are_meaningful.ensures _ c.if-not-are_meaningful.true-raw)

pub put_list-requires : goal.put_list-requires
unfolding max_stream writer_work reader_work
put_list-requires c =
    let a = c.args in
    list-asks a.s a.stream.now a.events.now a.text.now a.work.now c.if-stream-work.false c.octets.ensures
    (bound-asked a.s a.stream.now a.events.now a.text.now a.work.now c.if-stream-work.false c.are_meaningful.ensures c.if-not-are_meaningful.false-raw
    c.settings_of.ensures)

pub returns : goal.returns
unfolding max_stream writer_work reader_work
returns c =
    let a = c.args in
    list-answered a.s a.stream.now a.events.now a.text.now a.work.now c.if-stream-work.false c.are_meaningful.ensures c.if-not-are_meaningful.false-raw c.settings_of.ensures c.octets.ensures c.put_list.ensures
