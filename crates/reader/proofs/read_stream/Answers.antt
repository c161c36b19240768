use mathlib.Core.Path.{refl, ap, ◌∙◌}
use native.Mathlib.Omega.{arith}
use Rattle.settings.specs.Meant.{settings_from}
use Rattle.read_body.proofs.Reply.{refused-is}
use Rattle.read_field.proofs.View.{refusal-some}
use Rattle.mem_initial.specs.Initial.{start_rows}
use Rattle.grammar_open.specs.Opened.{none_open}
use Rattle.reader.proofs.Stream.{header_refused, header-inside, header-passed, filled-as}
use Rattle.reader.proofs.Start.{counts-ask, rows-ask, text-asks, events-ask, body-ready}
use Rattle.mem_initial.proofs.Initial.{bounds-from}
use Rattle.reader.proofs.Start.{body-answer}
use Rattle.reader.proofs.read_stream.Goals as goal

-- `read_stream` meets its contract.
pub returns-in-Err : goal.returns-in-Err
returns-in-Err c =
    header_refused (settings_from c.args.o) c.in-Err.ensures c.requires.read_stream_pre.cleared
    (λ z. absurd (omega (arith, z, refusal-some c.in-Err.refusal)))
    (rw c.number.ensures at (refused-is c.refused.ensures))

pub clear_counts-requires : goal.clear_counts-requires
clear_counts-requires c =
    counts-ask c.requires.read_stream_pre

pub lay_rows-requires : goal.lay_rows-requires
lay_rows-requires c =
    rows-ask c.requires.read_stream_pre c.work-1.given

pub lay_text-requires : goal.lay_text-requires
lay_text-requires c =
    text-asks c.requires.read_stream_pre

pub read_events-requires : goal.read_events-requires
read_events-requires c =
    let begins = (c.none_open-st.ensures ∙ ap none_open c.start.ensures) in
    events-ask c.requires.read_stream_pre c.in-Ok.at c.args.o.longest
    c.args.o.capacity c.clear_counts.ensures c.lay_rows.ensures c.lay_text.ensures begins c.work-1.given
    c.work-2-1.given c.text-1.given (header-inside (settings_from c.args.o)
    c.in-Ok.ensures refl) c.requires.capacity_bound

pub shape_of-events : goal.shape_of-events
shape_of-events c =
    c.events-1.given

pub shape_of-text : goal.shape_of-text
shape_of-text c =
    c.text-2-1.given ∙ c.text-1.given

pub shape_of-work : goal.shape_of-work
shape_of-work c =
    c.work-3-1.given ∙ c.work-2-1.given ∙ c.work-1.given

pub returns : goal.returns
returns c =
    let begins = (c.none_open-st.ensures ∙ ap none_open c.start.ensures) in
    filled-as (body-answer c.requires.read_stream_pre c.in-Ok.at c.args.o.longest c.args.o.capacity c.clear_counts.ensures c.lay_rows.ensures c.lay_text.ensures begins c.work-1.given c.work-2-1.given c.text-1.given (settings_from c.args.o) (bounds-from c.args.o) ∙ header-passed
    (settings_from c.args.o) c.in-Ok.ensures refl) refl
    c.text-1.given (c.read_events.ensures.meant (start_rows c.args.o.longest c.args.o.capacity) (body-ready c.requires.read_stream_pre c.in-Ok.at c.args.o.longest c.args.o.capacity c.clear_counts.ensures c.lay_rows.ensures c.lay_text.ensures begins c.work-1.given
    c.work-2-1.given c.text-1.given))
