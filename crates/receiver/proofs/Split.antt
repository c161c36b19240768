-- Calls one after the other: each answers by the octets so far, however they were cut.
use mathlib.Core.Path.{◌≡◌, refl, sym, ap, ap₂, subst, ◌∙◌}
use mathlib.Core.Bool.{Bool, true, false, cond, ◌||◌}
use mathlib.Core.List.{List, [], ◌++◌}
use Prim.Native.Nat.{ℕ, ◌+◌, ◌≤◌, ◌<◌}
use native.Mathlib.Omega.{arith}
use native.Mathlib.Decide.{ℕ_discrete}
use lib.ListN.{length, length-append, replicate, length-replicate}
use lib.Dec.{leb, eqb}
use borrow.Author.Tests.{le-leb, lt-leb, leb-true, leb-false, eq-eqb, ne_eqb}
use Rattle.spec_fields.specs.Refusal.{Refusal, number_of, room, settings, long, ended, Answer}
use Rattle.spec_fields.specs.Refusal.{refused, accepted}
use Rattle.spec_fields.proofs.Tests.{split, is_t}
use Rattle.spec_exi.specs.Settings.{meaningful, settings_of}
use Rattle.spec_exi.specs.Settings as format
use Rattle.spec_exi.specs.Sizes.{sizes, max_stream}
use Rattle.spec_exi.specs.Reader.{Reading, enough_to_read, read_stream, read_reply}
use Rattle.spec_exi.specs.Reader as format-reader
use Rattle.spec_exi.specs.Packets.{receive}
use Rattle.spec_exi.proofs.Definitions.{definitions}
use Rattle.spec_exi.proofs.Packets as packets
use Rattle.spec_exi.proofs.ReaderReplies as replies
use Rattle.settings.specs.Meant.{numbers_of}
use Rattle.settings.specs.declared.SettingNumbers.{SettingNumbers}
use Rattle.receiver_piece.specs.reader.declared.ReadReply.{ReadReply}
use Rattle.receiver_piece.specs.reader.Read.{reply_of}
use Rattle.receiver_piece.specs.receiver_record.declared.Receiver.{Receiver}
use Rattle.receiver_piece.specs.receiver_record.Record.{is_refused, is_closed, refusal_at}
use Rattle.receiver_piece.specs.receiver_record.Record.{started_with, with_reply, Lent, zeros, cleared, Left, left}
use Rattle.event_code.specs.Numbers.{is_over}
use Rattle.receiver_piece.specs.receiver_course.declared.Course.{Course}
use Rattle.receiver_piece.specs.receiver_course.declared.Course.TheVariants.{Refused, Reads}
use Rattle.receiver_piece.specs.receiver_course.Course.{is_sound, course_of, counted, refused_after}
use Rattle.receiver_piece.proofs.receiver_course.Ways.{is-refused, sound-few, sound-within, going-not-started}
use Rattle.receiver_piece.proofs.receiver_course.Ways.{roomy-is}
use Rattle.receiver_piece.specs.receiver_phases.Phases as phases
use Rattle.receiver_piece.specs.Piece.{room_in, room_of, SameLengths, Holds, Told, Took}
use Rattle.receiver_piece.specs.receiver_read.On.{Stands}
use Rattle.receiver_piece.proofs.Room.{room-is, same-room, read_is}
use Rattle.receiver_piece.proofs.Told.{told-refused, told-stands}
use Rattle.receiver_piece.proofs.Piece.{cleared-same, told_with}
use Rattle.receiver.specs.Calls.{Fed, closed_now, closed_to, Closed}
use Rattle.receiver.specs.Chain.{Chain, none-fed, one-fed}

-- ---- octets that are counted, and the refusal after them

counted-adds : (a b : ℕ) → counted (counted 0 a) b ≡ counted 0 (a + b)
unfolding counted
counted-adds a b =
    split (leb (0 + a) max_stream)
    (λ e. let x : 0 + a + b ≡ 0 + (a + b) = omega arith in rw (e, x))
    (λ e.
    let l : max_stream < 0 + a = leb-false (0 + a) max_stream e in
    rw (
      e,
      lt-leb (max_stream + 1 + b) max_stream (omega arith),
      lt-leb (0 + (a + b)) max_stream (omega arith),
    ))

counted-few : (n : ℕ) → n ≤ max_stream → counted 0 n ≡ n
unfolding counted
counted-few n l = let x : 0 + n ≡ n = omega arith in rw (x, le-leb n max_stream l)

counted-past : (n : ℕ) → max_stream < n → max_stream < counted 0 n
unfolding counted
counted-past n l =
    let x : 0 + n ≡ n = omega arith in rw (x, lt-leb n max_stream l) (omega arith)

abbrev stays : ReadReply → Bool
stays y = eqb y.number 1 || eqb y.number 2

stays-room : stays (refusal_at 1 0) ≡ true
unfolding refusal_at
stays-room = refl

stays-settings : stays (refusal_at 2 0) ≡ true
unfolding refusal_at
stays-settings = refl

after-few : (n : ℕ) (y : ReadReply) → n ≤ max_stream → refused_after n y ≡ y
unfolding refused_after
after-few n y l = rw (le-leb n max_stream l)

after_same : (n : ℕ) (y : ReadReply) → stays y ≡ true → refused_after n y ≡ y
unfolding refused_after number_of
after_same n y t = split (leb n max_stream) (λ e. rw e) (λ e. rw (e, t))

after-past : (n : ℕ) (y : ReadReply) → max_stream < n → stays y ≡ false
    → refused_after n y ≡ refusal_at 3 0
unfolding refused_after number_of
after-past n y l t = rw (lt-leb n max_stream l, t)

after-long : (n : ℕ) → refused_after n (refusal_at 3 0) ≡ refusal_at 3 0
unfolding refused_after refusal_at number_of
after-long n = split (leb n max_stream) (λ e. rw e) (λ e. rw e)

-- ---- a record that is neither refused nor closed

course-free : (r : Receiver) (k : ℕ) (roomy : Bool) → (r.phase ≡ is_closed → ⊥)
    → (r.phase ≡ is_refused → ⊥) → is_sound r ≡ true
    → course_of r k roomy
    ≡ cond roomy
    (cond (meaningful (numbers_of r.settings))
    (cond (leb (r.octets + k) max_stream) Reads (Refused (refusal_at 3 0))) (Refused (refusal_at 2 0)))
    (Refused (refusal_at 1 0))
unfolding course_of number_of
course-free r k roomy a b s =
    rw (ne_eqb r.phase is_closed a, ne_eqb r.phase is_refused b, s)

-- ---- numbers

reply-same : {a b c d a' b' c' d' : ℕ} → a ≡ a' → b ≡ b' → c ≡ c' → d ≡ d'
    → ◌≡◌ {A = ReadReply}
    (record { number = a; index = b; events = c; code_points = d })
    (record { number = a'; index = b'; events = c'; code_points = d' })
reply-same p q r s = rw (p, q, r, s)

-- A reply that refuses is a refusal's.
told-number : (a : Answer Reading) (y : ReadReply) → reply_of y ≡ read_reply a → 0 < y.number
    → (k : Refusal) × (i : ℕ) × (a ≡ refused k i) × (y ≡ refusal_at (number_of k) i)
unfolding reply_of read_reply refusal_at
told-number (accepted x) y e l =
    let n : y.number ≡ 0 = ap (λ v. v.number) e in absurd (omega arith)
told-number (refused k i) y e l = (
  k,
  i,
  refl,
  reply-same (ap (λ v. v.number) e) (ap (λ v. v.index) e)
      (ap (λ v. v.events) e) (ap (λ v. v.code_points) e),
)

-- ---- the close

closed-reads-is : (r : Receiver) (m : Lent) → course_of r 0 (room_in m) ≡ Reads
    → closed_to (course_of r 0 (room_in m)) r m ≡ closed_now r m
unfolding closed_to
closed-reads-is r m e = rw e

refused-unclosed : (n : ℕ) → n ≡ is_refused → n ≡ is_closed → ⊥
refused-unclosed n e z = let x : ◌≡◌ {A = ℕ} 2 3 = sym e ∙ z in absurd (omega arith)

closed-refused-is : (r : Receiver) (m : Lent) → r.phase ≡ is_refused
    → closed_to (course_of r 0 (room_in m)) r m ≡ phases.closed_by r r.reply m
unfolding closed_to
closed-refused-is r m e =
    rw (sym (is-refused r 0 (room_in m) (refused-unclosed r.phase e) e))

zero-few : 0 ≤ max_stream
zero-few = omega arith

empty-ended : (s : format.Settings) → read_stream sizes s [] ≡ refused ended 0
unfolding definitions
empty-ended s = split s.cookie (λ e. rw e) (λ e. rw e)

-- ---- a chain

module _ (s : SettingNumbers) (m : Lent) where
  abbrev o : format.SettingNumbers
  o = numbers_of s

  abbrev answer : List ℕ → Answer Reading
  answer os = receive (room_of m) o os

  -- What a chain of calls has come to: nothing, octets that are held, or a refusal.
  pub data Come (os : List ℕ) (r : Receiver) (m₁ : Lent) : Type 0 where
    fresh : os ≡ [] → r ≡ started_with s → m₁ ≡ m → Come os r m₁
    going : r.settings ≡ s → SameLengths m m₁ → room_in m ≡ true → meaningful o ≡ true
        → Holds r m₁ os → Come os r m₁
    over : (k : Refusal) (i : ℕ) → answer os ≡ refused k i → r.phase ≡ is_refused
        → r.octets ≡ counted 0 (length os) → r.reply ≡ refusal_at (number_of k) i
        → m₁ ≡ cleared m → Come os r m₁

  -- What a call leaves, after these octets.
  pub record Next (os : List ℕ) (r' : Receiver) (m' : Lent) (y : ReadReply) : Type 0 where
    pub told : Told (answer os) m m' y
    pub clears : 0 < y.number → m' ≡ cleared m
    pub come : Come os r' m'

  enough : (b : Bool) → room_in m ≡ b → enough_to_read sizes (room_of m) ≡ b
  enough b e = room-is m ∙ e

  module _ (os : List ℕ) where
    answer-room : room_in m ≡ false → answer os ≡ refused room 0
    answer-room e = packets.no_room (room_of m) o os (rw (enough false e) tt)

    answer-settings : room_in m ≡ true → meaningful o ≡ false → answer os ≡ refused settings 0
    answer-settings e f =
        packets.no-meaning (room_of m) o os (is_t _ (enough true e)) (rw f tt)

    answer-long : room_in m ≡ true → meaningful o ≡ true → max_stream < length os
        → answer os ≡ refused long 0
    answer-long e f l =
        packets.too_long (room_of m) o os (is_t _ (enough true e)) (is_t _ f) l

    -- With room and a meaning no refusal is ROOM or SETTINGS.
    higher : room_in m ≡ true → meaningful o ≡ true → {k : Refusal} {i : ℕ} → answer os ≡ refused k i
        → stays (refusal_at (number_of k) i) ≡ false
    unfolding read_reply number_of refusal_at
    higher e f {k} {i} a =
        let q = ((packets.refused-alike (room_of m) o os k i).0 a).0 in
        let out = replies.outcome (room_of m) o os in
        let n : (read_reply (format-reader.read (room_of m) o os)).number ≡ number_of k =
        ap (λ x. (read_reply x).number) q in
        let no_room : number_of k ≡ 1 → ⊥ =
        λ z. replies.contrary (enough_to_read sizes (room_of m)) (is_t _ (enough true e))
        ((replies.no_room_lem out).0 (n ∙ z)) in
        let no-meaning : number_of k ≡ 2 → ⊥ =
        λ z. replies.contrary (meaningful o) (is_t _ f) ((replies.no-meaning out).0 (n ∙ z)).1 in
        rw (ne_eqb (number_of k) 1 no_room, ne_eqb (number_of k) 2 no-meaning)

  -- ---- a refusal

  module _ (os p : List ℕ) (r : Receiver) (m₁ : Lent) {r' : Receiver} {m' : Lent} {y : ReadReply}
    where
      over-next : (z : ReadReply) → left r' m' y ≡ phases.refused r z (length p) m₁
          → cleared m₁ ≡ cleared m → r.octets ≡ counted 0 (length os) → (k : Refusal) (i : ℕ)
          → answer (os ++ p) ≡ refused k i
          → refused_after (counted 0 (length (os ++ p))) z ≡ refusal_at (number_of k) i
          → Next (os ++ p) r' m' y
      unfolding phases.refused
      over-next z e c n k i a after =
          let all : counted r.octets (length p) ≡ counted 0 (length (os ++ p)) =
          ap (λ x. counted x (length p)) n ∙ counted-adds (length os) (length p)
          ∙ ap (counted 0) (sym (length-append os p)) in
          let is : left r' m' y
          ≡ left (with_reply r is_refused (counted 0 (length (os ++ p))) (refusal_at (number_of k) i))
          (cleared m) (refusal_at (number_of k) i) = e ∙ rw (all, after, c) in
          let clear : m' ≡ cleared m = ap (λ (x : Left). x.lent) is in
          let reply : y ≡ refusal_at (number_of k) i = ap (λ (x : Left). x.reply) is in
          record {
            told = rw reply (told-refused m a refl clear);
            clears = λ _. clear;
            come = over k i a (ap (λ (x : Left). x.receiver.phase) is)
                (ap (λ (x : Left). x.receiver.octets) is)
                (ap (λ (x : Left). x.receiver.reply) is) clear;
          }

  -- ---- a record that can read on

  record Ready (os : List ℕ) (r : Receiver) (m₁ : Lent) : Type 0 where
    pub settings : r.settings ≡ s
    pub lengths : SameLengths m m₁
    pub count : r.octets ≡ length os
    pub sound : is_sound r ≡ true
    pub unrefused : r.phase ≡ is_refused → ⊥
    pub unclosed : r.phase ≡ is_closed → ⊥
    pub takes : (p : List ℕ) {r' : Receiver} {m' : Lent} {y : ReadReply} → Fed r p m₁ r' m' y
        → course_of r (length p) (room_in m₁) ≡ Reads → Took r (os ++ p) m₁ r' m' y

  same-as : SameLengths m m
  same-as = record { held = refl; events = refl; text = refl; work = refl }

  ready-fresh : Ready [] (started_with s) m
  unfolding started_with is_sound
  ready-fresh =
      record {
        settings = refl;
        lengths = same-as;
        count = refl;
        sound = refl;
        unrefused = λ e. absurd (omega arith);
        unclosed = λ e. absurd (omega arith);
        takes = λ p f c. f.starts c refl;
      }

  ready-going : {os : List ℕ} {r : Receiver} {m₁ : Lent} → r.settings ≡ s → SameLengths m m₁
      → Holds r m₁ os → Ready os r m₁
  ready-going {os} e same h =
      record {
        settings = e;
        lengths = same;
        count = h.count;
        sound = h.sound;
        unrefused = λ z. let x : ◌≡◌ {A = ℕ} 1 2 = sym h.phase ∙ z in absurd (omega arith);
        unclosed = λ z. let x : ◌≡◌ {A = ℕ} 1 3 = sym h.phase ∙ z in absurd (omega arith);
        takes = λ p f c. f.goes_on c os h;
      }

  room-same : {m₁ : Lent} → SameLengths m m₁ → room_in m₁ ≡ room_in m
  room-same {m₁} e = sym (room-is m₁) ∙ ap (enough_to_read sizes) (same-room e) ∙ room-is m

  module _ {os : List ℕ} {r : Receiver} {m₁ : Lent} (h : Ready os r m₁) where
    course-ready : (k : ℕ)
        → course_of r k (room_in m₁)
        ≡ cond (room_in m)
        (cond (meaningful o)
        (cond (leb (length os + k) max_stream) Reads (Refused (refusal_at 3 0)))
        (Refused (refusal_at 2 0)))
        (Refused (refusal_at 1 0))
    course-ready k =
        course-free r k (room_in m₁) h.unclosed h.unrefused h.sound
        ∙ rw (room-same h.lengths, h.settings, h.count)

    few : length os ≤ max_stream
    unfolding max_stream
    few = omega (arith, h.count, sound-few r h.sound)

    counted_ready : r.octets ≡ counted 0 (length os)
    counted_ready = h.count ∙ sym (counted-few (length os) few)

    module _ (p : List ℕ) {r' : Receiver} {m' : Lent} {y : ReadReply} (f : Fed r p m₁ r' m' y) where
      abbrev n : ℕ
      n = counted 0 (length (os ++ p))

      refused-now : (k : Refusal) → course_of r (length p) (room_in m₁) ≡ Refused (refusal_at (number_of k) 0)
          → answer (os ++ p) ≡ refused k 0
          → refused_after n (refusal_at (number_of k) 0) ≡ refusal_at (number_of k) 0
          → Next (os ++ p) r' m' y
      refused-now k c a after =
          over-next os p r m₁ (refusal_at (number_of k) 0) (f.refuses (refusal_at (number_of k) 0) c)
          (cleared-same h.lengths) counted_ready k 0 a after

      -- The octets are read.
      read_next : room_in m ≡ true → meaningful o ≡ true → length (os ++ p) ≤ max_stream
          → course_of r (length p) (room_in m₁) ≡ Reads → Next (os ++ p) r' m' y
      unfolding started_with
      read_next a b l c =
          let t = h.takes p f c in
          let told : Told (answer (os ++ p)) m m' y =
          told_with (os ++ p) h.settings h.lengths t.told in
          elim (ℕ_discrete y.number 0) [
            | yes z ↦
                record {
                  told = told;
                  clears = λ x. absurd (omega arith);
                  come = going (f.settings ∙ h.settings)
                      (record {
                        held = f.lengths.held ∙ h.lengths.held;
                        events = f.lengths.events ∙ h.lengths.events;
                        text = f.lengths.text ∙ h.lengths.text;
                        work = f.lengths.work ∙ h.lengths.work;
                      })
                      a b (t.goes z);
                }
            | no z ↦
                let some : 0 < y.number = omega (arith, z) in
                let x = t.stops some in
                let (k, i, is, reply) = told-number (answer (os ++ p)) y told.reply some in
                let memory = x.memory ∙ cleared-same h.lengths in
                record {
                  told = told;
                  clears = λ _. memory;
                  come = over k i is (ap (λ (v : Receiver). v.phase) x.receiver)
                      (ap (λ (v : Receiver). v.octets) x.receiver
                      ∙ sym (counted-few (length (os ++ p)) l))
                      (ap (λ (v : Receiver). v.reply) x.receiver ∙ reply) memory;
                }
          ]

      total : length os + length p ≡ length (os ++ p)
      total = sym (length-append os p)

      ready-next : Next (os ++ p) r' m' y
      unfolding number_of
      ready-next =
          split (room_in m)
          (λ a. split (meaningful o)
          (λ b. split (leb (length os + length p) max_stream)
          (λ c.
          read_next a b
          (omega (arith, total, leb-true (length os + length p) max_stream c))
          (course-ready (length p) ∙ rw (a, b, c)))
          (λ c.
          refused-now long (course-ready (length p) ∙ rw (a, b, c))
          (answer-long (os ++ p) a b
          (omega (arith, total, leb-false (length os + length p) max_stream c)))
          (after-long n)))
          (λ b.
          refused-now settings (course-ready (length p) ∙ rw (a, b)) (answer-settings (os ++ p) a b)
          (after_same n (refusal_at 2 0) stays-settings)))
          (λ a.
          refused-now room (course-ready (length p) ∙ rw a) (answer-room (os ++ p) a)
          (after_same n (refusal_at 1 0) stays-room))

  -- ---- a refused record

  module _ (os : List ℕ) (r : Receiver) (m₁ : Lent) (k : Refusal) (i : ℕ)
      (a : answer os ≡ refused k i) (phase : r.phase ≡ is_refused)
      (count : r.octets ≡ counted 0 (length os)) (reply : r.reply ≡ refusal_at (number_of k) i)
      (memory : m₁ ≡ cleared m) where
    abbrev kept : ReadReply
    kept = refusal_at (number_of k) i

    cleared-again : cleared m₁ ≡ cleared m
    unfolding cleared
    cleared-again =
        rw (
          memory,
          length-replicate {A = ℕ} (length m.held) 0,
          length-replicate {A = ℕ} (length m.events) 0,
          length-replicate {A = ℕ} (length m.text) 0,
          length-replicate {A = ℕ} (length m.work) 0,
        )

    -- The same refusal as at the beginning.
    same_first : (j : Refusal) → answer os ≡ refused j 0 → kept ≡ refusal_at (number_of j) 0
    unfolding read_reply
    same_first j e =
        let q = ap read_reply (sym a ∙ e) in
        ap₂ refusal_at (ap (λ x. x.number) q) (ap (λ x. x.index) q)

    module _ (p : List ℕ) {r' : Receiver} {m' : Lent} {y : ReadReply} (f : Fed r p m₁ r' m' y) where
      abbrev all : ℕ
      all = counted 0 (length (os ++ p))

      is : left r' m' y ≡ phases.refused r kept (length p) m₁
      is =
          f.refuses r.reply
          (sym (is-refused r (length p) (room_in m₁)
          (refused-unclosed r.phase phase) phase))
          ∙ ap (λ (z : ReadReply). phases.refused r z (length p) m₁) reply

      stays-over : (j : Refusal) (x : ℕ) → answer (os ++ p) ≡ refused j x
          → refused_after all kept ≡ refusal_at (number_of j) x → Next (os ++ p) r' m' y
      stays-over j x e after = over-next os p r m₁ kept is cleared-again count j x e after

      first-still : (j : Refusal) → answer os ≡ refused j 0 → answer (os ++ p) ≡ refused j 0
          → stays (refusal_at (number_of j) 0) ≡ true → Next (os ++ p) r' m' y
      first-still j e g t =
          stays-over j 0 g
          (ap (refused_after all) (same_first j e) ∙ after_same all (refusal_at (number_of j) 0) t)

      refused-next : Next (os ++ p) r' m' y
      unfolding number_of
      refused-next =
          split (room_in m)
          (λ b. split (meaningful o)
          (λ c. split (leb (length (os ++ p)) max_stream)
          (λ l.
          let few = leb-true (length (os ++ p)) max_stream l in
          stays-over k i (packets.stays-refused (room_of m) o os p k i few a)
          (after-few all kept (omega (arith, few, counted-few (length (os ++ p)) few))))
          (λ l.
          let past = leb-false (length (os ++ p)) max_stream l in
          stays-over long 0 (answer-long (os ++ p) b c past)
          (after-past all kept (counted-past (length (os ++ p)) past) (higher os b c a))))
          (λ c.
          first-still settings (answer-settings os b c) (answer-settings (os ++ p) b c)
          stays-settings))
          (λ b.
          first-still room (answer-room os b) (answer-room (os ++ p) b) stays-room)

  -- ---- any chain

  ready-started : {os : List ℕ} {r : Receiver} {m₁ : Lent} → os ≡ [] → r ≡ started_with s → m₁ ≡ m
      → Ready os r m₁
  ready-started {r = r} {m₁} a b c =
      subst (λ (x : List ℕ). Ready x r m₁) (sym a)
      (subst (λ (x : Receiver). Ready [] x m₁) (sym b)
      (subst (λ (x : Lent). Ready [] (started_with s) x) (sym c) ready-fresh))

  next : {os : List ℕ} {r r' : Receiver} {m₁ m' : Lent} {y : ReadReply} (p : List ℕ)
      → Come os r m₁ → Fed r p m₁ r' m' y → Next (os ++ p) r' m' y
  next p (fresh a b c) f = ready-next (ready-started a b c) p f
  next p (going a b c d h) f = ready-next (ready-going a b h) p f
  next {os} {r} {m₁ = m₁} p (over k i a b c d e) f = refused-next os r m₁ k i a b c d e p f

  pub comes : {os : List ℕ} {r : Receiver} {m₁ : Lent} → Chain s m os r m₁ → Come os r m₁
  comes none-fed = fresh refl refl refl
  comes (one-fed p c f) = (next p (comes c) f).come

  pub pieces : {os : List ℕ} {r r' : Receiver} {m₁ m' : Lent} {y : ReadReply} (p : List ℕ)
      → Chain s m os r m₁ → Fed r p m₁ r' m' y → Next (os ++ p) r' m' y
  pieces p c f = next p (comes c) f

  -- ---- the close

  -- What the closing call leaves.
  pub record Ends (os : List ℕ) (m' : Lent) (y : ReadReply) : Type 0 where
    pub told : Told (format-reader.read (room_of m) o os) m m' y
    pub held : m'.held ≡ zeros m.held
    pub work : m'.work ≡ zeros m.work

  module _ (os : List ℕ) (r : Receiver) (m₁ : Lent) {r' : Receiver} {m' : Lent} {y : ReadReply}
    where
      ends-refused : (z : ReadReply) → left r' m' y ≡ phases.closed_by r z m₁ → cleared m₁ ≡ cleared m
          → (k : Refusal) (i : ℕ) → format-reader.read (room_of m) o os ≡ refused k i
          → z ≡ refusal_at (number_of k) i → Ends os m' y
      unfolding phases.closed_by cleared
      ends-refused z e c k i a reply =
          let clear : m' ≡ cleared m = ap (λ (x : Left). x.lent) e ∙ c in
          let is : y ≡ refusal_at (number_of k) i = ap (λ (x : Left). x.reply) e ∙ reply in
          record {
            told = rw is (told-refused m a refl clear);
            held = ap (λ (x : Lent). x.held) clear;
            work = ap (λ (x : Lent). x.work) clear;
          }

  -- Octets that are held.
  module _ (os : List ℕ) {r : Receiver} {m₁ : Lent} (e : r.settings ≡ s) (same : SameLengths m m₁)
      (a : room_in m ≡ true) (b : meaningful o ≡ true) (h : Holds r m₁ os) where
    unstarted : r.phase ≡ 0 → ⊥
    unstarted = going-not-started h.phase

    few-held : length os ≤ max_stream
    unfolding max_stream
    few-held = omega (arith, h.count, sound-few r h.sound)

    read_held : format-reader.read (room_of m) o os ≡ read_stream sizes (settings_of o) os
    read_held = read_is (room_of m) o os (enough true a) b few-held

    stands-as : {x : SettingNumbers} → x ≡ s
        → Stands (settings_of (numbers_of x)) os m₁.events m₁.text m₁.work r.state
        r.reply.events
        → Stands (settings_of o) os m₁.events m₁.text m₁.work r.state
        r.reply.events
    stands-as q t = rw q at t

    stands : Stands (settings_of o) os m₁.events m₁.text m₁.work r.state
        r.reply.events
    stands = stands-as e h.stands

    stored : r.state.core.stored ≤ length m₁.text
    stored =
        omega (
          arith,
          (sound-within r h.sound unstarted).bounded.stored,
          same.text,
          (roomy-is _ _ _ _ a).store,
        )

    now-is : course_of r 0 (room_in m₁) ≡ Reads
    now-is =
        let l : length os + 0 ≤ max_stream = omega (arith, few-held) in
        course-ready (ready-going e same h) 0 ∙ rw (a, b, le-leb (length os + 0) max_stream l)

    module _ {r' : Receiver} {m' : Lent} {y : ReadReply} (c : left r' m' y ≡ closed_now r m₁) where
      ends-whole : r.state.core.mode ≡ is_over → Ends os m' y
      unfolding closed_now phases.closed_whole
      ends-whole z =
          let is : left r' m' y ≡ phases.closed_whole r m₁ =
          c ∙ rw (ne_eqb r.phase 0 unstarted, eq-eqb r.state.core.mode 3 z) in
          let t =
          told-stands stands stored m₁.held m (read_held ∙ stands.whole z) same.events
          same.text in
          record {
            told = record {
              reply = ap (λ (x : Left). reply_of x.reply) is ∙ ap reply_of h.reply ∙ t.reply;
              events = ap (λ (x : Left). x.lent.events) is ∙ t.events;
              text = ap (λ (x : Left). x.lent.text) is ∙ t.text;
            };
            held = ap (λ (x : Left). x.lent.held) is ∙ ap (λ (n : ℕ). replicate n 0) same.held;
            work = ap (λ (x : Left). x.lent.work) is ∙ ap (λ (n : ℕ). replicate n 0) same.work;
          }

      ends-cut : (r.state.core.mode ≡ is_over → ⊥) → Ends os m' y
      unfolding closed_now number_of
      ends-cut z =
          let (k, n, cut) = stands.cut z in
          ends-refused os r m₁ (refusal_at 5 r.reply.events)
          (c ∙ rw (ne_eqb r.phase 0 unstarted, ne_eqb r.state.core.mode 3 z))
          (cleared-same same) k r.reply.events (read_held ∙ cut)
          (ap (λ x. refusal_at x r.reply.events) n)

      ends_held : Ends os m' y
      ends_held = elim (ℕ_discrete r.state.core.mode is_over) [
        | yes z ↦ ends-whole z
        | no z ↦ ends-cut z
      ]

  -- No octet was handed over.
  module _ {r' : Receiver} {m' : Lent} {y : ReadReply} (c : Closed (started_with s) m r' m' y) where
    ends_by : (k : Refusal) → course_of (started_with s) 0 (room_in m) ≡ Refused (refusal_at (number_of k) 0)
        → format-reader.read (room_of m) o [] ≡ refused k 0 → Ends [] m' y
    unfolding closed_to
    ends_by k e a =
        ends-refused [] (started_with s) m (refusal_at (number_of k) 0)
        (c.is ∙ ap (λ (w : Course). closed_to w (started_with s) m) e) refl k 0 a refl

    read_first : {k : Refusal} → answer [] ≡ refused k 0
        → format-reader.read (room_of m) o [] ≡ refused k 0
    read_first {k} e = ((packets.refused-alike (room_of m) o [] k 0).0 e).0

    ends_now : room_in m ≡ true → meaningful o ≡ true
        → course_of (started_with s) 0 (room_in m) ≡ Reads → Ends [] m' y
    unfolding closed_to closed_now started_with
    ends_now a b e =
        ends-refused [] (started_with s) m (refusal_at (number_of ended) 0)
        (c.is ∙ ap (λ (w : Course). closed_to w (started_with s) m) e) refl ended 0
        (read_is (room_of m) o [] (enough true a) b zero-few ∙ empty-ended (settings_of o)) refl

    ends_fresh : Ends [] m' y
    unfolding number_of
    ends_fresh =
        split (room_in m)
        (λ a. split (meaningful o)
        (λ b. ends_now a b (course-ready ready-fresh 0 ∙ rw (a, b, le-leb (0 + 0) max_stream zero-few)))
        (λ b.
        ends_by settings (course-ready ready-fresh 0 ∙ rw (a, b)) (read_first (answer-settings [] a b))))
        (λ a. ends_by room (course-ready ready-fresh 0 ∙ rw a) (read_first (answer-room [] a)))

  pub closing : {os : List ℕ} {r r' : Receiver} {m₁ m' : Lent} {y : ReadReply}
      → Chain s m os r m₁ → Closed r m₁ r' m' y → Ends os m' y
  closing {os} {r} {r'} {m₁} {m'} {y} chain c = by (comes chain)
    where
      by : Come os r m₁ → Ends os m' y
      by (fresh x z w) =
          subst (λ (v : List ℕ). Ends v m' y) (sym x)
          (ends_fresh
          (subst (λ (v : Lent). Closed (started_with s) v r' m' y) w
          (subst (λ (v : Receiver). Closed v m₁ r' m' y) z c)))
      by (going e same a b h) =
          ends_held os e same a b h
          (c.is ∙ closed-reads-is r m₁ (now-is os e same a b h))
      by (over k i a phase count reply memory) =
          ends-refused os r m₁ r.reply (c.is ∙ closed-refused-is r m₁ phase)
          (cleared-again os r m₁ k i a phase count reply memory) k i
          ((packets.refused-alike (room_of m) o os k i).0 a).0 reply
