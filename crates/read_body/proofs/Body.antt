-- The reply to what was read, and to the padding.
use Prim.Native.Nat.{ℕ, ◌+◌, ◌<◌}
use native.Mathlib.Omega.{arith}
use mathlib.Core.Path.{◌≡◌, refl, ap, ◌∙◌}
use mathlib.Core.Bool.{Bool, true, false}
use mathlib.Core.List.{List, append-nil}
use lib.ListN.{length, take, drop, replicate}
use lib.Seq.{length-take-le}
use Rattle.spec_fields.specs.Bits.{unpack, is_padding}
use Rattle.spec_fields.specs.Refusal.{Refusal, number_of, tail, refused, accepted, number_tail}
use Rattle.spec_exi.specs.Settings.{Settings}
use Rattle.spec_exi.specs.Event.{Event}
use Rattle.spec_exi.specs.Tables.{Placed}
use Rattle.spec_exi.specs.Reader.{Reading, ending, read_reply}
use Rattle.mem_rows.specs.Rows.{Rows, tables_of, context_of}
use Rattle.mem_state.specs.Holds.{context_at}
use Rattle.grammar_open.specs.declared.State.{State}
use Rattle.event.specs.Cells.{cells_of_all}
use Rattle.read_run.specs.declared.Advanced.{Advanced}
use Rattle.read_run.specs.Events.{none_read}
use Rattle.grammar_open.specs.Opened.{opened_in}
use Rattle.read_run.specs.Run.{Running, AdvancePre, AdvancePost}
use Rattle.read_run.proofs.Laid.{text_same}
use Rattle.read_run.proofs.Events.{shifted}
use Rattle.grammar_open.proofs.Over.{context-going}
use Rattle.read_run.proofs.Answers.{Answers, running-answers}
use Rattle.read_body.specs.Reply.{BodyReply, reply_of, events_filled, text_filled, Attempted}
use Rattle.read_body.specs.Reply.{refusal_of}
use Rattle.read_body.specs.Body.{PaddingPre, BodyReady, answer_from, RunPost, BodyPost}
use Rattle.read_body.proofs.Cells.{laid-first, laid-store}
use Rattle.read_body.proofs.Reply.{attempted-refused, refused-events, refused-text}

-- ---- before the clearing

module _ {s : Settings} {stream events text work : List ℕ} {st : State}
    (pre : AdvancePre stream events text work st 0) {events' text' work' : List ℕ} {r : Advanced}
    (p : AdvancePost s stream events text work st 0 events' text' work' r) where
  -- A refusal: on every memory its number is not 0.
  reply-refused : (number : ℕ) → 0 < number → {reply : BodyReply}
      → reply ≡ refusal_of number r.index
      → ((w : Rows) → BodyReady events text work st w
      → (k : Refusal) × (number ≡ number_of k)
      × (answer_from s stream text st w ≡ refused k r.index))
      → RunPost s stream events text work st events' text' reply
  unfolding refusal_of
  reply-refused number some is h =
      let n = ap (λ (y : BodyReply). y.number) is in
      record {
        events-laid = λ z. absurd (omega (arith, n));
        text-laid = λ z. absurd (omega (arith, n));
        meant = λ w ready.
            let (k, e, a) = h w ready in
            attempted-refused k r.index number r.index a e refl is;
      }

  module _ {w : Rows} (h : BodyReady events text work st w) where
    abbrev run : Running s stream events text st 0 w events' text' work' r.state r.index
    run = p.progress.meant w h.represents h.topped h.late

    count : length run.es ≡ r.index
    count = omega (arith, run.count)

    answers : Answers s (context_at text st.core w (opened_in st))
        (drop st.core.at (unpack stream)) run.es
        (context_at text' r.state.core run.rows (opened_in r.state))
        (drop r.state.core.at (unpack stream)) r.number
    answers =
        running-answers p h.represents h.topped h.late none_read refl
        (context-going pre.bounded h.represents _ h.going)

  pub run-refused : (r.number ≡ 0 → ⊥) → {reply : BodyReply}
      → reply ≡ refusal_of r.number r.index
      → RunPost s stream events text work st events' text' reply
  run-refused some is =
      reply-refused r.number (omega (arith, some)) is
      (λ w h.
      let a = (answers h).refused (omega (arith, some)) in
      (a.refusal, a.is, a.answer ∙ ap (refused a.refusal) (count h)))

  pub padding-asks : PaddingPre stream r.state.core.at
  padding-asks = record { size = pre.size; place = p.progress.inside }

  module _ (none : r.number ≡ 0) {padded : Bool}
      (e : padded ≡ is_padding (drop r.state.core.at (unpack stream))) where
    pub run-tail : padded ≡ false → {reply : BodyReply}
        → reply ≡ refusal_of number_tail r.index
        → RunPost s stream events text work st events' text' reply
    unfolding number_of ending shifted
    run-tail f is =
        reply-refused 13 (omega arith) is
        (λ w h.
        let i : length (run h).es + 0 ≡ r.index = omega (arith, count h) in
        (tail, refl, rw (← e, f) at ((answers h).over none) ∙ ap (refused tail) i))

    module _ (f : padded ≡ true) where
      abbrev reply : BodyReply
      reply =
          record {
            number = 0;
            index = 0;
            events = r.index;
            code_points = r.state.core.stored;
          }

      module _ {w : Rows} (h : BodyReady events text work st w) where
        abbrev reading : Reading
        reading = record { events = (run h).es; store = take r.state.core.stored text' }

        accepts : answer_from s stream text st w ≡ accepted reading
        unfolding ending shifted context_of tables_of
        accepts =
            rw (← e, f) at ((answers h).over none)
            ∙ ap (λ (l : List (Event Placed)). accepted
            (record { events = l; store = take r.state.core.stored text' }))
            (append-nil (run h).es)

        stored : length (take r.state.core.stored text') ≡ r.state.core.stored
        stored =
            length-take-le r.state.core.stored text'
            (omega (
              arith,
              p.progress.bounded.stored,
              pre.room,
              text_same p.progress.text-laid pre.room,
            ))

        attempted : Attempted (answer_from s stream text st w) events text events' text' reply
        unfolding reply_of read_reply events_filled text_filled
        attempted =
            record {
              reply = rw (accepts, stored, count h);
              cells = λ z. rw accepts
                  ((run h).cells ∙ laid-first events (cells_of_all (run h).es) h.none);
              store = λ z. rw (accepts, stored)
                  (laid-store text text' st.core.stored r.state.core.stored pre.room
                  h.zeros p.progress.text-laid);
            }

      pub run-ended : RunPost s stream events text work st events' text' reply
      run-ended =
          record {
            events-laid = λ _. p.progress.events-laid;
            text-laid = λ _. p.progress.text-laid;
            meant = λ w h. attempted h;
          }

-- ---- after it

module _ {s : Settings} {stream events text work : List ℕ} {st : State} {events' text' : List ℕ}
    {r : BodyReply} (p : RunPost s stream events text work st events' text' r) where
  pub body-accepted : r.number ≡ 0 → BodyPost s stream events text work st events' text' r
  body-accepted z =
      record {
        events-laid = p.events-laid;
        text-laid = p.text-laid;
        no-events = λ f. absurd (f z);
        no_text = λ f. absurd (f z);
        meant = λ w h.
            let a = p.meant w h in
            record { reply = a.reply; cells = a.cells z; store = a.store z };
      }

  pub body_refused : (r.number ≡ 0 → ⊥) → {events'' text'' : List ℕ}
      → events'' ≡ replicate (length events) 0 → text'' ≡ replicate (length text) 0
      → BodyPost s stream events text work st events'' text'' r
  body_refused some e t =
      record {
        events-laid = λ z. absurd (some z);
        text-laid = λ z. absurd (some z);
        no-events = λ _. e;
        no_text = λ _. t;
        meant = λ w h.
            let a = p.meant w h in
            record {
              reply = a.reply;
              cells = e ∙ refused-events (length events) _ a some;
              store = t ∙ refused-text (length text) _ a some;
            };
      }
