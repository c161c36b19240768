use mathlib.Core.Path.{ap, ◌∙◌}
use borrow.Author.Rules.{rules}
use Rattle.grammar_open.specs.Opened.{none_open}
use Rattle.mem_initial.proofs.Initial.{bounds-from}
use Rattle.writer.proofs.Start.{counts-ask, rows-ask, events-ask, body-put}
use Rattle.writer.proofs.put_body.Goals as goal

-- `put_body` meets its contract.
pub clear_counts-requires : goal.clear_counts-requires
clear_counts-requires c =
    counts-ask c.requires

pub lay_rows-requires : goal.lay_rows-requires
lay_rows-requires c =
    rows-ask c.requires c.work-1.given

pub put_events-requires : goal.put_events-requires
put_events-requires c =
    let begins = c.none_open-st.ensures ∙ ap none_open c.start.ensures in
    events-ask c.requires c.args.o.longest c.opening_text-opening.ensures
    c.clear_counts.ensures c.lay_rows.ensures begins c.work-1.given c.work-2-1.given

pub shape_of-stream : goal.shape_of-stream
shape_of-stream c =
    c.stream-1.given

pub shape_of-work : goal.shape_of-work
shape_of-work c =
    c.work-3-1.given ∙ c.work-2-1.given ∙ c.work-1.given

pub returns : goal.returns
returns c =
    let begins = c.none_open-st.ensures ∙ ap none_open c.start.ensures in
    body-put c.requires c.args.o.longest c.opening_text-opening.ensures
    c.clear_counts.ensures
    c.lay_rows.ensures begins c.work-1.given c.work-2-1.given
    (bounds-from c.args.o) c.put_events.ensures
