-- What the two calls leave, by the course.
use mathlib.Core.Path.{◌≡◌, refl, sym, ap, ◌∙◌}
use mathlib.Core.Bool.{Bool}
use mathlib.Core.List.{List}
use Prim.Native.Nat.{ℕ}
use native.Mathlib.Omega.{arith}
use lib.Dec.{eqb}
use lib.ListN.{length, length-replicate}
use borrow.Author.Tests.{eq-eqb, ne_eqb}
use Rattle.spec_fields.specs.Refusal.{number_of}
use Rattle.spec_fields.proofs.Tests.{split}
use Rattle.receiver_piece.specs.reader.declared.ReadReply.{ReadReply}
use Rattle.receiver_piece.specs.receiver_record.declared.Receiver.{Receiver}
use Rattle.receiver_piece.specs.receiver_record.declared.Handed.{Handed}
use Rattle.receiver_piece.specs.receiver_record.Record.{refusal_at, Lent, cleared, Left, left, handed}
use Rattle.receiver_piece.specs.receiver_course.declared.Course.{Course}
use Rattle.receiver_piece.specs.receiver_course.declared.Course.TheVariants.{Repeats, Refused, Reads}
use Rattle.receiver_piece.specs.receiver_course.Course.{course_of}
use Rattle.receiver_piece.proofs.receiver_course.Ways.{reads-passed}
use Rattle.receiver_piece.specs.receiver_phases.Phases.{repeated, refused, closed_by, closed_whole}
use Rattle.receiver_piece.specs.Piece.{room_in, SameLengths, PiecePre, PiecePost}
use Rattle.receiver.specs.Calls.{Fed, closed_now, closed_to, Closed}

-- ---- courses differ

unfoldable kind_of : Course → ℕ
kind_of Repeats = 0
kind_of (Refused y) = 1
kind_of Reads = 2

unfoldable reply_in : Course → ReadReply
reply_in Repeats = refusal_at 0 0
reply_in (Refused y) = y
reply_in Reads = refusal_at 0 0

module _ {A : Type 0} where
  pub not-refused : {z : ReadReply} → ◌≡◌ {A = Course} Repeats (Refused z) → A
  unfolding kind_of
  not-refused e = let z : ◌≡◌ {A = ℕ} 0 1 = ap kind_of e in absurd (omega arith)

  pub not-reads : ◌≡◌ {A = Course} Repeats Reads → A
  unfolding kind_of
  not-reads e = let z : ◌≡◌ {A = ℕ} 0 2 = ap kind_of e in absurd (omega arith)

  pub refused-not-reads : {z : ReadReply} → ◌≡◌ {A = Course} (Refused z) Reads → A
  unfolding kind_of
  refused-not-reads e = let z : ◌≡◌ {A = ℕ} 1 2 = ap kind_of e in absurd (omega arith)

same-refusal : {y z : ReadReply} → ◌≡◌ {A = Course} (Refused y) (Refused z) → y ≡ z
unfolding reply_in
same-refusal e = ap reply_in e

way_of : (r : Receiver) (k : ℕ) (m : Lent) {way : Course} {roomy : Bool} → roomy ≡ room_in m
    → way ≡ course_of r k roomy → course_of r k (room_in m) ≡ way
way_of r k m a b = ap (λ (t : Bool). course_of r k t) (sym a) ∙ sym b

-- ---- lengths that a call keeps

cleared-lengths : (m : Lent) → SameLengths m (cleared m)
unfolding cleared
cleared-lengths m =
    record {
      held = length-replicate (length m.held) 0;
      events = length-replicate (length m.events) 0;
      text = length-replicate (length m.text) 0;
      work = length-replicate (length m.work) 0;
    }

module _ (r : Receiver) (m : Lent) {r' : Receiver} {m' : Lent} {y : ReadReply} where
  repeated-lengths : left r' m' y ≡ repeated r m → SameLengths m m'
  unfolding repeated
  repeated-lengths e =
      let h = ap (λ (x : Left). x.lent) e in
      split (eqb r.reply.number 0)
      (λ a. rw (h, a) (record { held = refl; events = refl; text = refl; work = refl }))
      (λ a. rw (h, a) (cleared-lengths m))

  refused-lengths : (z : ReadReply) (k : ℕ) → left r' m' y ≡ refused r z k m → SameLengths m m'
  unfolding refused
  refused-lengths z k e = rw (ap (λ (x : Left). x.lent) e) (cleared-lengths m)

-- ---- a piece

module _ (r : Receiver) (p : List ℕ) (m : Lent) {way : Course} {roomy : Bool}
    (a : roomy ≡ room_in m) (b : way ≡ course_of r (length p) roomy) where
  abbrev course : Course
  course = course_of r (length p) (room_in m)

  course-is : course ≡ way
  course-is = way_of r (length p) m a b

  pub piece-asks : way ≡ Reads → PiecePre r p m
  piece-asks e =
      let h = reads-passed r (length p) roomy b e in
      record {
        room = sym a ∙ h.room;
        meant = h.meant;
        sound = h.sound;
        few = h.few;
      }

  module _ {r' : Receiver} {m' : Lent} {y : ReadReply} where
    pub fed-repeats : way ≡ Repeats → left r' m' y ≡ repeated r m → Fed r p m r' m' y
    unfolding repeated
    fed-repeats k e =
        let is : course ≡ Repeats = course-is ∙ k in
        record {
          repeats = λ _. e;
          refuses = λ z c. not-refused (sym is ∙ c);
          starts = λ c. not-reads (sym is ∙ c);
          goes_on = λ c. not-reads (sym is ∙ c);
          settings = ap (λ (x : Left). x.receiver.settings) e;
          lengths = repeated-lengths r m e;
        }

    pub fed-refused : {z : ReadReply} → way ≡ Refused z
        → left r' m' y ≡ refused r z (length p) m → Fed r p m r' m' y
    unfolding refused
    fed-refused {z} k e =
        let is : course ≡ Refused z = course-is ∙ k in
        record {
          repeats = λ c. not-refused (sym c ∙ is);
          refuses = λ x c.
              e ∙ ap (λ (v : ReadReply). refused r v (length p) m) (same-refusal (sym is ∙ c));
          starts = λ c. refused-not-reads (sym is ∙ c);
          goes_on = λ c. refused-not-reads (sym is ∙ c);
          settings = ap (λ (x : Left). x.receiver.settings) e;
          lengths = refused-lengths r m z (length p) e;
        }

  pub fed-reads : {f : Handed} {m' : Lent} → SameLengths m m' → way ≡ Reads
      → PiecePost r p m m' f → Fed r p m f.receiver m' f.reply
  fed-reads same k h =
      let is : course ≡ Reads = course-is ∙ k in
      record {
        repeats = λ c. not-reads (sym c ∙ is);
        refuses = λ z c. refused-not-reads (sym c ∙ is);
        starts = λ _. h.first;
        goes_on = λ _. h.further;
        settings = h.settings;
        lengths = same;
      }

-- ---- the close

module _ (r : Receiver) (m : Lent) where
  module _ {f : Handed} {m' : Lent} where
    pub closes-started : {y : ReadReply} → r.phase ≡ 0 → y ≡ refusal_at 5 0
        → handed f m' ≡ closed_by r y m → handed f m' ≡ closed_now r m
    unfolding closed_now number_of
    closes-started a e h =
        rw (eq-eqb r.phase 0 a) (h ∙ ap (λ (y : ReadReply). closed_by r y m) e)

    module _ (a : r.phase ≡ 0 → ⊥) where
      pub closes-whole : r.state.core.mode ≡ 3 → handed f m' ≡ closed_whole r m
          → handed f m' ≡ closed_now r m
      unfolding closed_now
      closes-whole b h = rw (ne_eqb r.phase 0 a, eq-eqb r.state.core.mode 3 b) h

      pub closes_cut : {y : ReadReply} → (r.state.core.mode ≡ 3 → ⊥)
          → y ≡ refusal_at 5 r.reply.events → handed f m' ≡ closed_by r y m
          → handed f m' ≡ closed_now r m
      unfolding closed_now number_of
      closes_cut b e h =
          rw (ne_eqb r.phase 0 a, ne_eqb r.state.core.mode 3 b)
          (h ∙ ap (λ (y : ReadReply). closed_by r y m) e)

  module _ {way : Course} {roomy : Bool} (a : roomy ≡ room_in m) (b : way ≡ course_of r 0 roomy)
      {f : Handed} {m' : Lent} where
    closed-as : {w : Course} → way ≡ w → handed f m' ≡ closed_to w r m
        → Closed r m f.receiver m' f.reply
    closed-as k e =
        record { is = e ∙ ap (λ (w : Course). closed_to w r m) (sym (way_of r 0 m a b ∙ k)) }

    pub closed-repeats : way ≡ Repeats → handed f m' ≡ repeated r m
        → Closed r m f.receiver m' f.reply
    unfolding closed_to
    closed-repeats k e = closed-as k e

    pub closed-refused : {z : ReadReply} → way ≡ Refused z → handed f m' ≡ closed_by r z m
        → Closed r m f.receiver m' f.reply
    unfolding closed_to
    closed-refused k e = closed-as k e

    pub closed-reads : way ≡ Reads → handed f m' ≡ closed_now r m
        → Closed r m f.receiver m' f.reply
    unfolding closed_to
    closed-reads k e = closed-as k e
