use Rattle.spec_exi.specs.Sizes.{max_stream, max_events, max_store, reader_work, event_cells}
use Rattle.reader.proofs.Stream.{no_room, no-meaning, too_long, stream-asks, stream-answered}
use Rattle.reader.proofs.Stream.{capacity-asks}
use Rattle.read_body.proofs.Reply.{refused-is}
use Rattle.reader.proofs.read_cleared.Goals as goal

-- `read_cleared` meets its contract.
pub returns-then-events-text : goal.returns-then-events-text
unfolding event_cells max_events max_store reader_work
returns-then-events-text c =
    no_room c.args.s c.args.stream.now c.args.work.now c.requires c.if-events-text.true (refused-is c.refused.ensures)

pub returns-then-not-are_meaningful : goal.returns-then-not-are_meaningful
unfolding event_cells max_events max_store reader_work
returns-then-not-are_meaningful c =
    no-meaning c.args.s c.args.stream.now c.args.work.now c.requires
    c.if-events-text.false c.are_meaningful.ensures c.if-not-are_meaningful.true-raw (refused-is c.refused-then-not-are_meaningful.ensures)

pub returns-then-stream-gt-MAX_STREAM : goal.returns-then-stream-gt-MAX_STREAM
unfolding event_cells max_events max_store reader_work max_stream
returns-then-stream-gt-MAX_STREAM c =
    too_long c.args.s c.args.stream.now c.args.work.now c.requires
    c.if-events-text.false c.are_meaningful.ensures c.if-not-are_meaningful.false-raw c.if-stream-gt-MAX_STREAM.true (refused-is c.refused-then-stream-gt-MAX_STREAM.ensures)

pub read_stream-requires : goal.read_stream-requires
unfolding event_cells max_events max_store reader_work max_stream
read_stream-requires c =
    record {
      read_stream_pre = stream-asks c.args.s c.args.stream.now c.args.work.now
          c.requires c.if-events-text.false c.are_meaningful.ensures c.if-not-are_meaningful.false-raw
          c.if-stream-gt-MAX_STREAM.false;
      capacity_bound = capacity-asks c.args.s c.args.stream.now c.args.work.now
          c.requires c.if-events-text.false c.are_meaningful.ensures c.if-not-are_meaningful.false-raw
          c.if-stream-gt-MAX_STREAM.false c.settings_of.ensures;
    }

pub returns : goal.returns
unfolding event_cells max_events max_store reader_work max_stream
returns c =
    stream-answered c.args.s c.args.stream.now c.args.work.now c.requires c.if-events-text.false c.are_meaningful.ensures c.if-not-are_meaningful.false-raw c.if-stream-gt-MAX_STREAM.false c.settings_of.ensures c.read_stream.ensures
