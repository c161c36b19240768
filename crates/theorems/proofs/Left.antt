-- What the contracts leave, by the definitions' answer: the reader's and the writer's.
use mathlib.Core.Path.{◌≡◌, refl, sym, ◌∙◌, ap, ap₂, subst}
use mathlib.Core.Logic.{◌↔◌}
use mathlib.Core.List.{List, map}
use mathlib.Core.Option.{some-injective}
use Prim.Native.Nat.{ℕ, ◌*◌, ◌-◌, ◌<◌}
use native.Mathlib.Nat.{sub-zero}
use native.Mathlib.Omega.{arith}
use lib.ListN.{length, take, drop, replicate}
use lib.Seq.{take_at, drop_at}
use Rattle.spec_fields.specs.Refusal.{Answer, refused, accepted}
use Rattle.text.specs.Text.{Text}
use Rattle.spec_exi.specs.Event.{Event}
use Rattle.spec_exi.specs.Sizes.{cells_per_event}
use Rattle.spec_exi.specs.Reader.{Reading, read, read_reply}
use Rattle.spec_exi.specs.Writer.{Stored, write, write_reply}
use Rattle.spec_exi.specs.Meaning.{stored_of, meant, Accepts}
use Rattle.spec_exi.proofs.Demands as demands
use Rattle.settings.specs.Meant.{numbers_of}
use Rattle.settings.specs.declared.SettingNumbers.{SettingNumbers}
use Rattle.event.specs.Cells.{events_of, cells_of_all}
use Rattle.event.proofs.Laws.{cells-mean, cells-size}
use Rattle.receiver.specs.reader.declared.ReadReply.{ReadReply}
use Rattle.receiver.specs.reader.Read.{ReaderLent, reader_room, reply_of, events_filled, text_filled}
use Rattle.receiver.specs.reader.Read.{ReadPost}
use Rattle.receiver.specs.reader.Read as reader
use Rattle.readings.specs.writer.declared.WriteReply.{WriteReply}
use Rattle.readings.specs.writer.Write.{WriterLent, writer_room, WritePost, filled}
use Rattle.readings.specs.writer.Write as writer
use Rattle.theorems.specs.Calls.{ReadCall, events_left, text_left, Leaves, WriteCall, Gives}
use Rattle.theorems.specs.Cells.{Demand1Read, Demand1Write}
use Rattle.theorems.proofs.Claims.{theorems}

-- ---- n cells, by an answer: past the counts they are zero, and all of them after a refusal

module _ (n : ℕ) where
  past-events : (a : Answer Reading)
      → drop (cells_per_event * (read_reply a).events) (events_filled n a)
      ≡ replicate (n - cells_per_event * (read_reply a).events) 0
  unfolding read_reply events_filled
  past-events (refused k i) = rw (sub-zero n)
  past-events (accepted x) =
      rw (cells-size x.events)
      (drop_at (cells_of_all x.events) _ (cells_per_event * length x.events) (cells-size x.events))

  past-text : (a : Answer Reading)
      → drop (read_reply a).code_points (text_filled n a)
      ≡ replicate (n - (read_reply a).code_points) 0
  unfolding read_reply text_filled
  past-text (refused k i) = rw (sub-zero n)
  past-text (accepted x) = drop_at x.store _ (length x.store) refl

  past-octets : (a : Answer (List ℕ))
      → drop (write_reply a).octets (filled n a) ≡ replicate (n - (write_reply a).octets) 0
  unfolding write_reply filled
  past-octets (refused k i) = rw (sub-zero n)
  past-octets (accepted os) = drop_at os _ (length os) refl

  no-events : (a : Answer Reading) → 0 < (read_reply a).number → events_filled n a ≡ replicate n 0
  unfolding read_reply events_filled
  no-events (refused k i) h = refl
  no-events (accepted x) h = absurd (omega arith)

  no_text : (a : Answer Reading) → 0 < (read_reply a).number → text_filled n a ≡ replicate n 0
  unfolding read_reply text_filled
  no_text (refused k i) h = refl
  no_text (accepted x) h = absurd (omega arith)

  no-octets : (a : Answer (List ℕ)) → 0 < (write_reply a).number → filled n a ≡ replicate n 0
  unfolding write_reply filled
  no-octets (refused k i) h = refl
  no-octets (accepted os) h = absurd (omega arith)

-- ---- demand 1

module _ {s : SettingNumbers} {stream : List ℕ} {m m' : ReaderLent} {r : ReadReply}
    (p : ReadPost s stream m m' r) where
  -- Whatever meets the reader's contract meets demand 1.
  pub demand-1-read : Demand1Read s stream m m' r
  unfolding reader.answer_of reply_of read_reply events_filled text_filled
  demand-1-read =
      let a = read (reader_room m) (numbers_of s) stream in
      let number = ap (λ y. y.number) p.reply in
      record {
        reply = rw p.reply (theorems.demand-1-reader (reader_room m) (numbers_of s) stream);
        refused_as = λ k i e.
            let q = p.reply ∙ ap read_reply e in (ap (λ y. y.number) q, ap (λ y. y.index) q);
        refused-zero = λ h.
            let h' = subst (λ k. 0 < k) number h in (
              p.events ∙ no-events (length m.events) a h',
              p.text ∙ no_text (length m.text) a h',
            );
        accepted-as = λ x e. (
          number ∙ ap (λ b. (read_reply b).number) e,
          p.events ∙ ap (events_filled (length m.events)) e,
          p.text ∙ ap (text_filled (length m.text)) e,
        );
        past-events =
            rw (ap (λ y. y.events) p.reply, p.events) (past-events (length m.events) a);
        past-text =
            rw (ap (λ y. y.code_points) p.reply, p.text) (past-text (length m.text) a);
        work = p.work;
      }

module _ {s : SettingNumbers} {events : List ℕ} {text : Text} {m m' : WriterLent} {r : WriteReply}
    (p : WritePost s events text m m' r) where
  -- Whatever meets the writer's contract meets demand 1.
  pub demand-1-write : Demand1Write s events text m m' r
  unfolding writer.answer_of writer.reply_of write_reply filled
  demand-1-write =
      let a = write (writer_room m) (numbers_of s) (events_of events) text in
      let n = length m.octets in
      let number = ap (λ y. y.number) p.reply in
      record {
        reply = rw p.reply
            (theorems.demand-1-writer (writer_room m) (numbers_of s) (events_of events) text);
        refused_as = λ k i e.
            let q = p.reply ∙ ap write_reply e in (ap (λ y. y.number) q, ap (λ y. y.index) q);
        refused-zero = λ h. p.octets ∙ no-octets n a (subst (λ k. 0 < k) number h);
        accepted-as = λ stream e. (
          number ∙ ap (λ b. (write_reply b).number) e,
          p.octets ∙ ap (filled n) e,
        );
        past-octets = rw (ap (λ y. y.octets) p.reply, p.octets) (past-octets n a);
        work = p.work;
      }

-- ---- a call of the reader leaves a list just where the definitions answer it

module _ {s : SettingNumbers} {stream : List ℕ} (c : ReadCall s stream) where
  number_is : c.reply.number
      ≡ (read_reply (read (reader_room c.before) (numbers_of s) stream)).number
  unfolding reader.answer_of reply_of
  number_is = ap (λ y. y.number) c.post.reply

  -- Accepted with this reading.
  module _ (x : Reading) (q : read (reader_room c.before) (numbers_of s) stream ≡ accepted x) where
    -- The counted cells are the events'.
    pub events-left : events_left c ≡ cells_of_all x.events
    unfolding reader.answer_of reply_of read_reply events_filled
    events-left =
        let count = ap (λ y. y.events) (c.post.reply ∙ ap read_reply q) in
        let cells = c.post.events ∙ ap (events_filled (length c.before.events)) q in
        ap₂ (λ (n : ℕ) (l : List ℕ). take (cells_per_event * n) l) count cells
        ∙ take_at (cells_of_all x.events) _ (cells_per_event * length x.events) (cells-size x.events)

    -- The counted code points are the store.
    pub text-left : text_left c ≡ x.store
    unfolding reader.answer_of reply_of read_reply text_filled
    text-left =
        let count = ap (λ y. y.code_points) (c.post.reply ∙ ap read_reply q) in
        let cells = c.post.text ∙ ap (text_filled (length c.before.text)) q in
        ap₂ (λ (n : ℕ) (l : List ℕ). take n l) count cells
        ∙ take_at x.store _ (length x.store) refl

    -- The counted cells mean the events.
    pub stored-left : events_of (events_left c) ≡ map stored_of x.events
    stored-left = ap events_of events-left ∙ cells-mean x.events

  module _ (l : List (Event Text)) where
    leaves-accepted : Accepts (reader_room c.before) (numbers_of s) stream l → Leaves c l
    unfolding read_reply
    leaves-accepted (x, q, t) = (
      number_is ∙ ap (λ a. (read_reply a).number) q,
      ap₂ (λ (y : Text) (xs : List Stored). meant y xs) (text-left x q) (stored-left x q) ∙ t,
    )

  -- Number 0: the definitions accept.
  pub accepted-when-zero : c.reply.number ≡ 0
      → (l : List (Event Text)) × Accepts (reader_room c.before) (numbers_of s) stream l
  accepted-when-zero z =
      (demands.accepted-when-zero (reader_room c.before) (numbers_of s) stream).0
      (sym number_is ∙ z)

  -- Number 0: what is left means a list (demand 3).
  pub a-list : c.reply.number ≡ 0 → (l : List (Event Text)) × Leaves c l
  a-list z = let (l, a) = accepted-when-zero z in (l, leaves-accepted l a)

  -- What is left means l just where the definitions answer l.
  pub leaves : (l : List (Event Text))
      → Leaves c l ↔ Accepts (reader_room c.before) (numbers_of s) stream l
  leaves l = (λ h. accepts h, leaves-accepted l)
    where
      accepts : Leaves c l → Accepts (reader_room c.before) (numbers_of s) stream l
      accepts (z, h) =
          let (k, a) = accepted-when-zero z in
          let same : k ≡ l = some-injective k l (sym (leaves-accepted k a).1 ∙ h) in
          subst (Accepts (reader_room c.before) (numbers_of s) stream) same a

-- ---- a call of the writer gives octets just where the definitions answer them

module _ {s : SettingNumbers} {events : List ℕ} {text : Text} (w : WriteCall s events text) where
  gives-accepted : (stream : List ℕ)
      → write (writer_room w.before) (numbers_of s) (events_of events) text ≡ accepted stream
      → Gives w stream
  unfolding writer.answer_of writer.reply_of write_reply filled
  gives-accepted stream q =
      let reply = w.post.reply ∙ ap write_reply q in
      let octets = w.post.octets ∙ ap (filled (length w.before.octets)) q in (
        ap (λ y. y.number) reply,
        ap₂ (λ (n : ℕ) (l : List ℕ). take n l) (ap (λ y. y.octets) reply) octets
            ∙ take_at stream _ (length stream) refl,
      )

  -- The counted octets are a stream just where the definitions answer it.
  pub gives : (stream : List ℕ)
      → Gives w stream
      ↔ (write (writer_room w.before) (numbers_of s) (events_of events) text ≡ accepted stream)
  unfolding writer.answer_of writer.reply_of
  gives stream = (λ h. written h, gives-accepted stream)
    where
      written : Gives w stream
          → write (writer_room w.before) (numbers_of s) (events_of events) text ≡ accepted stream
      written (z, h) =
          let number = ap (λ y. y.number) w.post.reply in
          let (os, q) =
          (demands.written-when-zero (writer_room w.before) (numbers_of s) (events_of events) text).0
          (sym number ∙ z) in
          q ∙ ap accepted (sym (gives-accepted os q).1 ∙ h)
