-- The answer for a stream and for what is lent.
use Prim.Native.Nat.{ℕ, ◌+◌, ◌*◌, ◌≤◌, ◌<◌}
use native.Mathlib.Omega.{arith}
use mathlib.Core.Path.{◌≡◌, refl, sym, ap, ap₂, subst, ◌∙◌}
use mathlib.Core.Bool.{Bool, true, false, ◌&&◌, ◌||◌, not, true≢false}
use mathlib.Core.List.{List}
use lib.ListN.{length, drop, replicate, length-replicate}
use lib.Dec.{leb, ltb}
use borrow.Author.Tests.{not-false, le-leb, lt-leb, ltb-true, ltb-false}
use Rattle.spec_fields.specs.Bits.{unpack}
use Rattle.spec_fields.specs.Refusal.{Refusal, number_of, room, settings, long, Answer, refused, number_room, number_long}
use Rattle.spec_fields.specs.Refusal.{number_settings}
use Rattle.spec_fields.proofs.Tests.{split}
use Rattle.spec_exi.specs.Settings.{meaningful, settings_of, header_of}
use Rattle.spec_exi.specs.Settings as format
use Rattle.spec_exi.specs.Sizes.{sizes, max_stream, max_events, max_values, max_store}
use Rattle.spec_exi.specs.Sizes.{event_cells, reader_work}
use Rattle.spec_exi.specs.Context.{start}
use Rattle.spec_exi.specs.Reader.{Reading, read_reply, read_events, read_body, read_stream}
use Rattle.spec_exi.specs.Reader.{enough_to_read, read_sized}
use Rattle.spec_exi.specs.Reader as format-reader
use Rattle.settings.specs.Meant.{numbers_of, settings_meant, settings_from}
use Rattle.settings.proofs.Laws.{settings-from, capacity-few}
use Rattle.settings.specs.declared.SettingNumbers.{SettingNumbers}
use Rattle.settings.specs.declared.Settings.{Settings}
use Rattle.read_header.specs.Header.{Passed, Passes}
use Rattle.read_body.specs.Reply as body
use Rattle.read_body.specs.Reply.{BodyReply, events_filled, text_filled, Filled, refusal_of}
use Rattle.reader.specs.Read.{lent, reader_room, answer_of, reply_of, ReadPost, Cleared}
use Rattle.reader.specs.Read.{ReadStreamPre}

-- Over cells that are zero, a refusal of the whole leaves them.
filled-refused : {x : Answer Reading} {events text : List ℕ} {r : BodyReply}
    → Cleared events text → (k : Refusal) (number : ℕ) → x ≡ refused k 0 → number ≡ number_of k
    → r ≡ refusal_of number 0 → Filled x events text events text r
unfolding body.reply_of read_reply refusal_of events_filled text_filled
filled-refused h k number e a is =
    record { reply = rw (is, e, a); cells = rw e h.no_events; store = rw e h.no_text }

-- The same answer, for the same lengths.
pub filled-as : {x y : Answer Reading} {events text events₀ text₀ events' text' : List ℕ}
    {r : BodyReply} → x ≡ y → length events ≡ length events₀ → length text ≡ length text₀
    → Filled x events text events' text' r → Filled y events₀ text₀ events' text' r
filled-as e a b h =
    record {
      reply = h.reply ∙ ap read_reply e;
      cells = h.cells ∙ ap₂ events_filled a e;
      store = h.store ∙ ap₂ text_filled b e;
    }

-- ---- the header, then the events

module _ (s : format.Settings) {stream : List ℕ} {p : Passed}
    (passes : Passes (header_of s) stream p) where
  pub header_refused : {events text : List ℕ} → Cleared events text → (p.number ≡ 0 → ⊥)
      → {r : BodyReply} → r ≡ refusal_of p.number 0
      → Filled (read_stream sizes s stream) events text events text r
  unfolding read_stream read_body
  header_refused h some is =
      let d = passes.outcome.refused (omega (arith, some)) in
      filled-refused h d.refusal p.number (rw d.result) d.is is

  module _ (none : p.number ≡ 0) where
    pub header-inside : p.at ≤ 8 * length stream
    header-inside = (passes.outcome.read none).inside

    pub header-passed : read_events max_events sizes s (start s) (drop p.at (unpack stream))
        ≡ read_stream sizes s stream
    unfolding read_stream read_body
    header-passed = rw (passes.outcome.read none).result

-- ---- what is lent

enough : (a b c k m n : ℕ)
    → (leb k a && leb m b && leb n c) ≡ not (ltb a k || ltb b m || ltb c n)
enough a b c k m n =
    split (ltb a k) (λ e. rw (e, lt-leb k a (ltb-true a k e)))
    (λ e. rw (e, le-leb k a (ltb-false a k e))
    (split (ltb b m) (λ f. rw (f, lt-leb m b (ltb-true b m f)))
    (λ f. rw (f, le-leb m b (ltb-false b m f))
    (split (ltb c n) (λ g. rw (g, lt-leb n c (ltb-true c n g)))
    (λ g. rw (g, le-leb n c (ltb-false c n g)))))))

fits : (a b c k m n : ℕ) → (ltb a k || ltb b m || ltb c n) ≡ false
    → (k ≤ a) × (m ≤ b) × (n ≤ c)
fits a b c k m n e =
    split (ltb a k) (λ f. absurd (true≢false (rw f at e)))
    (λ f. split (ltb b m) (λ g. absurd (true≢false (rw (f, g) at e)))
    (λ g. (ltb-false a k f, ltb-false b m g, ltb-false c n (rw (f, g) at e))))

abbrev short : List ℕ → List ℕ → List ℕ → Bool
short events text work =
    ltb (length events) event_cells || ltb (length text) max_store || ltb (length work) reader_work

module _ (s : SettingNumbers) (stream : List ℕ) {events text : List ℕ} (work : List ℕ)
    (h : Cleared events text) where
  lent_is : (leb event_cells (length events) && leb max_store (length text) && leb reader_work (length work))
      ≡ not (short events text work)
  lent_is = enough (length events) (length text) (length work) event_cells max_store reader_work

  pub no_room : short events text work ≡ true → {r : BodyReply} → r ≡ refusal_of number_room 0
      → Filled (answer_of s stream (lent events text work)) events text events text r
  unfolding answer_of reader_room format-reader.read read_sized enough_to_read event_cells
      max_events max_store reader_work number_of
  no_room f is = filled-refused h room number_room (rw (lent_is, f)) refl is

  module _ (few : short events text work ≡ false) {asked : Bool}
      (meant : asked ≡ meaningful (numbers_of s)) where
    pub no-meaning : not asked ≡ true → {r : BodyReply} → r ≡ refusal_of number_settings 0
        → Filled (answer_of s stream (lent events text work)) events text events text r
    unfolding answer_of reader_room format-reader.read read_sized enough_to_read event_cells
        max_events max_store reader_work number_of
    no-meaning f is = filled-refused h settings number_settings (rw (lent_is, few, ← meant, f)) refl is

    module _ (fine : not asked ≡ false) where
      pub too_long : max_stream < length stream → {r : BodyReply} → r ≡ refusal_of number_long 0
          → Filled (answer_of s stream (lent events text work)) events text events text r
      unfolding answer_of reader_room format-reader.read read_sized enough_to_read event_cells
          max_events max_store reader_work max_stream number_of
      too_long l is =
          filled-refused h long number_long
          (rw (lent_is, few, ← meant, fine, lt-leb (length stream) max_stream l)) refl is

      module _ (small : length stream ≤ max_stream) where
        pub stream-asks : ReadStreamPre stream events text work
        unfolding event_cells max_events max_store reader_work max_stream
        stream-asks =
            let (a, b, c) =
            fits (length events) (length text) (length work) event_cells max_store reader_work few in
            record { size = small; cells = a; room = b; rows = c; cleared = h }

        pub capacity-asks : {o : Settings} → o ≡ settings_meant s → o.capacity ≤ max_values + 1
        unfolding settings_meant
        capacity-asks e =
            subst (λ (o : Settings). o.capacity ≤ max_values + 1) (sym e)
            (capacity-few s (sym meant ∙ not-false asked fine))

        answer-stream : answer_of s stream (lent events text work)
            ≡ read_stream sizes (settings_of (numbers_of s)) stream
        unfolding answer_of reader_room format-reader.read read_sized enough_to_read event_cells
            max_events max_store reader_work max_stream
        answer-stream = rw (lent_is, few, ← meant, fine, le-leb (length stream) max_stream small)

        pub stream-answered : {o : Settings} {events' text' : List ℕ} {r : BodyReply}
            → o ≡ settings_meant s
            → Filled (read_stream sizes (settings_from o) stream) events text events' text' r
            → Filled (answer_of s stream (lent events text work)) events text events' text' r
        stream-answered e a =
            filled-as
            (ap (λ o. read_stream sizes (settings_from o) stream) e
            ∙ ap (λ x. read_stream sizes x stream) (settings-from s) ∙ sym answer-stream)
            refl refl a

-- ---- all of it

-- These cells are zero.
same_length : (l : List ℕ) {m : List ℕ} → m ≡ replicate (length l) 0 → length m ≡ length l
same_length l e = ap length e ∙ length-replicate {A = ℕ} (length l) 0

module _ (s : SettingNumbers) (stream events text work : List ℕ) {events₁ text₁ : List ℕ}
    (e : events₁ ≡ replicate (length events) 0) (t : text₁ ≡ replicate (length text) 0) where
  pub cleared-first : Cleared events₁ text₁
  cleared-first =
      record {
        no_events = e ∙ ap (λ (n : ℕ). replicate n 0) (sym (same_length events e));
        no_text = t ∙ ap (λ (n : ℕ). replicate n 0) (sym (same_length text t));
      }

  same_answer : answer_of s stream (lent events₁ text₁ work)
      ≡ answer_of s stream (lent events text work)
  unfolding answer_of reader_room
  same_answer = rw (same_length events e, same_length text t)

  pub read_whole : {events' text' work' : List ℕ} {r : BodyReply}
      → Filled (answer_of s stream (lent events₁ text₁ work)) events₁ text₁ events' text' r
      → work' ≡ replicate (length work) 0
      → ReadPost s stream (lent events text work) (lent events' text' work')
      (record {
        number = r.number;
        index = r.index;
        events = r.events;
        code_points = r.code_points;
      })
  unfolding reply_of body.reply_of
  read_whole {events'} {text'} {r = r} h w =
      let f : Filled (answer_of s stream (lent events text work)) events text events' text' r =
      filled-as same_answer (same_length events e) (same_length text t) h in
      record { reply = f.reply; events = f.cells; text = f.store; work = w }
