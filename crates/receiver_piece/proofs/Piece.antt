-- What each function asks of its callees, and leaves.
use mathlib.Core.Path.{◌≡◌, refl, sym, ap, ap₂, subst, ◌∙◌}
use mathlib.Core.Bool.{Bool, true, false, ◌||◌, true≢false}
use mathlib.Core.List.{List, [], ◌++◌}
use Prim.Native.Nat.{ℕ, ◌+◌, ◌*◌, ◌≤◌, ◌<◌}
use native.Mathlib.Omega.{arith}
use native.Mathlib.Decide.{ℕ_discrete}
use lib.ListN.{length, take, drop, length-append}
use lib.Seq.{length-take-le, take_at, drop_at}
use lib.Dec.{eqb}
use borrow.Author.Tests.{le-leb, eq-eqb, eqb-true}
use Rattle.spec_fields.specs.Refusal.{number_of, Answer}
use Rattle.spec_fields.proofs.Tests.{split}
use Rattle.spec_exi.specs.Settings.{Settings, settings_of}
use Rattle.spec_exi.specs.Sizes.{sizes, max_stream, max_events, max_open, max_string, reader_work}
use Rattle.spec_exi.specs.Reader.{Reading, enough_to_read}
use Rattle.spec_exi.specs.Packets.{receive}
use Rattle.settings.specs.Meant.{numbers_of, settings_meant, settings_from}
use Rattle.settings.specs.declared.SettingNumbers.{SettingNumbers}
use Rattle.settings.specs.declared.Settings as declared
use Rattle.grammar_open.specs.declared.State.{State}
use Rattle.settings.proofs.Laws.{settings-from, capacity-few}
use Rattle.mem_state.specs.declared.Core.{Core}
use Rattle.mem_state.specs.Holds.{Bounded}
use Rattle.mem_initial.specs.Initial.{start_at}
use Rattle.mem_initial.proofs.Initial.{start-bounded, BoundsOf}
use Rattle.grammar_open.specs.Opened.{none_open}
use Rattle.receiver_wait.specs.read_run.declared.Advanced.{Advanced}
use Rattle.receiver_wait.specs.read_run.Run.{AdvancePre}
use Rattle.receiver_phases.specs.reader.declared.ReadReply.{ReadReply}
use Rattle.receiver_phases.specs.reader.Read.{events_filled, text_filled}
use Rattle.receiver_phases.specs.receiver_record.declared.Receiver.{Receiver}
use Rattle.receiver_phases.specs.receiver_record.declared.Handed.{Handed}
use Rattle.receiver_phases.specs.receiver_record.declared.Wait.{Wait}
use Rattle.receiver_phases.specs.receiver_record.Record.{is_started, going_on, is_refused, refusal_at, started_with}
use Rattle.receiver_phases.specs.receiver_record.Record.{with_reply, Lent, lent, cleared, Left, handed}
use Rattle.receiver_phases.specs.receiver_course.Course.{counted, refused_after, is_sound, Within}
use Rattle.receiver_phases.proofs.receiver_course.Ways.{Roomy, roomy-is, sound-within, going-not-started}
use Rattle.receiver_phases.proofs.receiver_course.Ways.{within-sound}
use Rattle.receiver_phases.specs.Phases.{kept, refused}
use Rattle.receiver_strings.specs.View.{Skipped}
use Rattle.receiver_strings.specs.Strings.{SkipPost}
use Rattle.receiver_wait.specs.receiver_read.On.{BeginPre, BeginPost, Underway, Stands, Awaiting, Onward, OnPost}
use Rattle.receiver_wait.proofs.receiver_read.Longer.{underway-longer}
use Rattle.receiver_wait.proofs.receiver_read.Beginning.{begin-underway}
use Rattle.receiver_wait.specs.Wait.{StillPre, CutPre, CutPost}
use Rattle.receiver_wait.proofs.Awaiting.{awaiting-looked, awaiting-longer, awaiting-on, awaiting-refused}
use Rattle.receiver_wait.proofs.Stops.{stops-there}
use Rattle.receiver_piece.specs.Piece.{stayed, awaited}
use Rattle.receiver_piece.specs.Piece.{room_in, room_of, SameLengths, Carries, shown, Holds}
use Rattle.receiver_piece.specs.Piece.{Told, Stopped, Took, ConcludePre, went_on, concluded}
use Rattle.receiver_piece.specs.Piece.{AdvancedPre, GoOnPre, GoOnPost}
use Rattle.receiver_piece.specs.Piece.{BegunPost, PiecePre, PiecePost}
use Rattle.receiver_piece.proofs.Room.{room-is, same-room, receive-refused}
use Rattle.receiver_piece.proofs.Told.{told-refused, told-stands, receive-stands}

-- ---- the answer

module _ (r : Receiver) (k : ℕ) (a : Advanced) (w : Wait) (m : Lent) where
  abbrev goes : Bool
  goes = eqb a.number 0 || eqb a.number 5

  pub concludes-on : {f : Handed} → goes ≡ true → f ≡ went_on r k a w
      → handed f m ≡ concluded r k a w m
  unfolding concluded number_of
  concludes-on t e = rw (t, e)

  pub concludes-refused : {f : Handed} {m' : Lent} {y : ReadReply} → goes ≡ false
      → y ≡ refusal_at a.number a.index → handed f m' ≡ refused r y k m
      → handed f m' ≡ concluded r k a w m
  unfolding concluded number_of
  concludes-refused t e g = rw t (g ∙ ap (λ (z : ReadReply). refused r z k m) e)

-- ---- reading on

module _ {r : Receiver} {held : List ℕ} {n : ℕ} {events text work : List ℕ}
    (pre : AdvancedPre r held n events text work) where
  -- Of any number of octets, from those before the piece up to all that can be held.
  module _ (k : ℕ) (more : r.octets ≤ k) (size : k ≤ max_stream) where
    pub held_asks : k ≤ length held
    held_asks = omega (arith, size, pre.kept)

    pub advance-asks : AdvancePre (take k held) events text work r.state r.reply.events
    unfolding reader_work
    advance-asks =
        let l : length (take k held) ≡ k = length-take-le k held held_asks in
        record {
          size = omega (arith, l, size);
          place = omega (arith, l, more, pre.within.place);
          room = pre.store;
          rows = pre.rows;
          cells = pre.cells;
          few = pre.within.few;
          bounded = pre.within.bounded;
          array = pre.array;
        }

pub on-as : {o o' : declared.Settings} {stream events text work : List ℕ} {st : State} {n : ℕ}
    {events' text' work' : List ℕ} {a : Advanced} → o ≡ o'
    → OnPost (settings_from o) stream events text work st n events' text' work' a
    → OnPost (settings_from o') stream events text work st n events' text' work' a
on-as e h = rw e at h

pub cut_as : {o o' : declared.Settings} {stream work : List ℕ} {number : ℕ} {c : Core} {w : Wait}
    → o ≡ o' → CutPost (settings_from o) stream work number c w
    → CutPost (settings_from o') stream work number c w
cut_as e h = rw e at h

-- What a call has reached: a and the literal that is cut, if one is.
pub record Reached (s : Settings) (stream events text work : List ℕ) (r : Receiver)
    (events' text' work' : List ℕ) (a : Advanced) (w : Wait) : Type 0 where
  pub up_to : a.index ≤ max_events
  pub bounded : Bounded a.state.core
  pub inside : a.state.core.at ≤ 8 * length stream
  pub place : w.at ≤ 8 * length stream
  pub small : w.left ≤ max_string
  pub meant : Underway s stream events text work r.state r.reply.events
      → (0 < r.wait.left → Awaiting s stream text work r.state r.reply.events
      r.wait.at r.wait.left)
      → Onward s stream events' text' work' a
  pub awaits : Underway s stream events text work r.state r.reply.events
      → (0 < r.wait.left → Awaiting s stream text work r.state r.reply.events
      r.wait.at r.wait.left)
      → 0 < w.left → Awaiting s stream text' work' a.state a.index w.at w.left

-- ---- the octets

pub cleared-same : {m m₁ : Lent} → SameLengths m m₁ → cleared m₁ ≡ cleared m
unfolding cleared
cleared-same e = rw (e.held, e.events, e.text, e.work)

not-zero : (a : Advanced) → (eqb a.number 0 || eqb a.number 5) ≡ false → a.number ≡ 0 → ⊥
not-zero a t z = true≢false (rw (eq-eqb a.number 0 z) at t)

not_five : (a : Advanced) → (eqb a.number 0 || eqb a.number 5) ≡ false → a.number ≡ 5 → ⊥
not_five a t z =
    split (eqb a.number 0) (λ e. true≢false (rw e at t))
    (λ e. true≢false (rw (e, eq-eqb a.number 5 z) at t))

is-five : (a : Advanced) → (eqb a.number 0 || eqb a.number 5) ≡ true
    → (a.number ≡ 0 → ⊥) → a.number ≡ 5
is-five a t n =
    split (eqb a.number 0) (λ e. absurd (n (eqb-true a.number 0 e)))
    (λ e. eqb-true a.number 5 (rw e at t))

module _ {r : Receiver} {p : List ℕ} {m : Lent} (pre : GoOnPre r p m) where
  roomy : Roomy (length m.held) (length m.events) (length m.text) (length m.work)
  roomy = roomy-is _ _ _ _ pre.room

  pub keep-asks : r.octets + length p ≤ length m.held
  keep-asks = omega (arith, pre.few, roomy.octets)

  pub still-asks : (held₁ : List ℕ) → length held₁ ≡ length m.held
      → StillPre held₁ (r.octets + length p) r.wait.at
  still-asks held₁ e =
      record {
        size = pre.few;
        kept = omega (arith, e, keep-asks);
        place = omega (arith, pre.within.waits);
      }

  pub advanced-asks : length r.state.opened ≡ max_open → (held₁ : List ℕ)
      → length held₁ ≡ length m.held
      → AdvancedPre r held₁ (r.octets + length p) m.events m.text m.work
  advanced-asks array held₁ e =
      record {
        within = pre.within;
        array = array;
        more = omega arith;
        size = pre.few;
        kept = omega (arith, e, roomy.octets);
        cells = roomy.cells;
        store = roomy.store;
        rows = roomy.rows;
      }

  -- ---- what is reached

  abbrev kept-settings : Settings
  kept-settings = settings_from (settings_meant r.settings)

  module _ {held₁ : List ℕ}
      (asks : AdvancedPre r held₁ (r.octets + length p) m.events m.text m.work) where
    abbrev so-far : List ℕ
    so-far = take (r.octets + length p) held₁

    -- Code points are awaited, and one is refused.
    pub reached-still : {y : Skipped} → SkipPost so-far r.wait.at r.wait.left y
        → (y.number ≡ 0 → ⊥)
        → Reached kept-settings so-far m.events m.text m.work r m.events m.text m.work
        (stayed r y) (awaited y)
    reached-still {y} post some =
        let l : 0 < y.number = omega (arith, some) in
        let c = post.cut l in
        let go = advance-asks asks _ asks.more asks.size in
        record {
          up_to = pre.within.few;
          bounded = pre.within.bounded;
          inside = go.place;
          place = post.inside;
          small = omega (arith, post.few, pre.within.awaited);
          meant = λ u f.
              let h = f (omega (arith, c.some, post.few)) in
              (stops-there kept-settings go h.going h.few h.begun y.number l
              (awaiting-refused h c)).meant u;
          awaits = λ u f _. awaiting-on (f (omega (arith, c.some, post.few))) c;
        }

    -- The octets were read on.
    pub reached-on : {events' text' work' : List ℕ} {a : Advanced}
        → OnPost kept-settings so-far m.events m.text m.work r.state r.reply.events events'
        text' work' a
        → {w : Wait} → CutPost kept-settings so-far work' a.number a.state.core w
        → Reached kept-settings so-far m.events m.text m.work r events' text' work' a w
    reached-on post cut =
        record {
          up_to = post.up_to;
          bounded = post.bounded;
          inside = post.inside;
          place = cut.inside;
          small = cut.few;
          meant = λ u _. post.meant u;
          awaits = λ u _ l.
              let c = cut.cut l in
              awaiting-looked (post.ends c.ends c.begun) post.inside cut.inside c;
        }

    pub cut-asks : {events' text' work' : List ℕ} {a : Advanced}
        → OnPost kept-settings so-far m.events m.text m.work r.state r.reply.events events'
        text' work' a → length work' ≡ length m.work
        → CutPre held₁ (r.octets + length p) work' a.state.core
    unfolding reader_work
    cut-asks post e =
        let n : length so-far ≡ r.octets + length p =
        length-take-le (r.octets + length p) held₁ (held_asks asks _ asks.more asks.size) in
        record {
          size = pre.few;
          kept = held_asks asks _ asks.more asks.size;
          place = omega (arith, post.inside, n);
          rows = omega (arith, e, asks.rows);
          bounded = post.bounded;
        }

  module _ {held₁ events' text' work' : List ℕ} {a : Advanced} {w : Wait}
      (keeps : held₁ ≡ kept m.held r.octets p)
      (post : Reached kept-settings (take (r.octets + length p) held₁) m.events m.text m.work r
      events' text' work' a w) where
    pub conclude-asks : ConcludePre r (length p) a
    conclude-asks = record { few = pre.few; up_to = post.up_to; stored = post.bounded.stored }

    module _ (same : SameLengths m (lent held₁ events' text' work')) where
      abbrev m₁ : Lent
      m₁ = lent held₁ events' text' work'

      abbrev s : Settings
      s = settings_of (numbers_of r.settings)

      module _ (os : List ℕ) (c : Carries r m os) where
        total : r.octets + length p ≡ length (os ++ p)
        total = omega (arith, c.count, length-append os p)

        front : take r.octets m.held ≡ os
        front = ap (λ n. take n m.held) c.count ∙ c.held

        stream-is : take (r.octets + length p) held₁ ≡ os ++ p
        unfolding kept
        stream-is =
            ap (take (r.octets + length p)) keeps
            ∙ ap (λ (l : List ℕ). take (r.octets + length p)
            (l ++ p ++ drop (r.octets + length p) m.held)) front
            ∙ take_at (os ++ p) (drop (r.octets + length p) m.held) (r.octets + length p)
            (sym total)

        behind-is : drop (length (os ++ p)) held₁ ≡ drop (length (os ++ p)) m.held
        unfolding kept
        behind-is =
            ap (drop (length (os ++ p))) keeps
            ∙ ap (λ (l : List ℕ). drop (length (os ++ p))
            (l ++ p ++ drop (r.octets + length p) m.held)) front
            ∙ drop_at (os ++ p) (drop (r.octets + length p) m.held) (length (os ++ p)) refl
            ∙ ap (λ n. drop n m.held) total

        reached : Reached s (os ++ p) m.events m.text m.work r events' text' work' a w
        reached = rw (settings-from r.settings, stream-is) at post

        awaited-before : 0 < r.wait.left
            → Awaiting s (os ++ p) m.text m.work r.state r.reply.events r.wait.at
            r.wait.left
        awaited-before l = awaiting-longer os p (c.awaits l)

        onward : Onward s (os ++ p) events' text' work' a
        onward = reached.meant (underway-longer os p c.underway) awaited-before

        enough : enough_to_read sizes (room_of m) ≡ true
        enough = room-is m ∙ pre.room

        short : length (os ++ p) ≤ max_stream
        short = omega (arith, total, pre.few)

        stands : goes r (length p) a w m₁ ≡ true
            → Stands s (os ++ p) events' text' work' a.state a.index
        unfolding number_of
        stands t = elim (ℕ_discrete a.number 0) [
          | yes e ↦ onward.over e
          | no e ↦ onward.waits (is-five a t e)
        ]

        sound-on : is_sound (went_on r (length p) a w).receiver ≡ true
        unfolding went_on shown
        sound-on =
            let n = ap length stream-is in
            within-sound (went_on r (length p) a w).receiver refl pre.few
            (record {
              place = omega (arith, post.inside, n, total);
              bounded = post.bounded;
              few = post.up_to;
              waits = omega (arith, post.place, n, total);
              awaited = post.small;
            })

        took-on : goes r (length p) a w m₁ ≡ true
            → Took r (os ++ p) m (went_on r (length p) a w).receiver m₁ (went_on r (length p) a w).reply
        unfolding went_on shown
        took-on t =
            let h = stands t in
            record {
              told = told-stands h (omega (arith, post.bounded.stored, roomy.store, same.text)) held₁ m
                  (receive-stands (room_of m) (numbers_of r.settings) (os ++ p) enough
                  pre.meant short h)
                  same.events same.text;
              goes = λ _.
                  record {
                    phase = refl;
                    sound = sound-on;
                    count = total;
                    held = ap (λ n. take n held₁) (sym total) ∙ stream-is;
                    reply = refl;
                    stands = h;
                    awaits = reached.awaits (underway-longer os p c.underway) awaited-before;
                  };
              behind = λ _. behind-is;
              stops = λ l. absurd (omega arith);
            }

        counted_is : counted r.octets (length p) ≡ r.octets + length p
        unfolding counted
        counted_is = rw (le-leb (r.octets + length p) max_stream pre.few)

        after_is : (y : ReadReply) → refused_after (counted r.octets (length p)) y ≡ y
        unfolding refused_after
        after_is y = rw (counted_is, le-leb (r.octets + length p) max_stream pre.few)

        abbrev y : ReadReply
        y = refusal_at a.number a.index

        took-refused : goes r (length p) a w m₁ ≡ false
            → Took r (os ++ p) m
            (with_reply r is_refused (counted r.octets (length p))
            (refused_after (counted r.octets (length p)) y))
            (cleared m₁) (refused_after (counted r.octets (length p)) y)
        unfolding number_of refusal_at
        took-refused t =
            let none = not-zero a t in
            let (k, is, answer) = onward.declined (omega (arith, none)) (not_five a t) in
            rw (after_is y, counted_is)
            (record {
              told = told-refused m
                  (receive-refused (room_of m) (numbers_of r.settings) (os ++ p) enough
                  pre.meant short answer (λ e. not_five a t (is ∙ e)))
                  is (cleared-same same);
              goes = λ z. absurd (none z);
              behind = λ z. absurd (none z);
              stops = λ _.
                  record {
                    receiver = ap (λ n. with_reply r is_refused n y) total;
                    memory = cleared-same same;
                  };
            })

      module _ {f : Handed} {m' : Lent} (e : handed f m' ≡ concluded r (length p) a w m₁) where
        abbrev TookAs : List ℕ → Left → Type 0
        TookAs os x = Took r os m x.receiver x.lent x.reply

        concluded-took : (os : List ℕ) → Carries r m os
            → TookAs (os ++ p) (concluded r (length p) a w m₁)
        unfolding concluded refused number_of
        concluded-took os c =
            split (goes r (length p) a w m₁) (λ t. rw t (took-on os c t))
            (λ t. rw t (took-refused os c t))

        settings-kept : (concluded r (length p) a w m₁).receiver.settings ≡ r.settings
        unfolding concluded went_on refused number_of
        settings-kept = split (goes r (length p) a w m₁) (λ t. rw t) (λ t. rw t)

        pub goes_on : GoOnPost r p m m' f
        goes_on =
            record {
              settings = ap (λ (x : Left). x.receiver.settings) e ∙ settings-kept;
              took = λ os c. subst (λ (x : Left). TookAs (os ++ p) x) (sym e) (concluded-took os c);
            }

-- ---- the first piece

-- The settings' numbers mean its bounds of values.
bounds_of : (s : SettingNumbers)
    → BoundsOf (settings_of (numbers_of s)) s.value_length s.value_capacity
unfolding settings_of numbers_of
bounds_of s = record { longest-is = refl; capacity-is = refl }

pub begins : {r b : Receiver} {events text work events' text' work' : List ℕ} → r.phase ≡ is_started
    → b ≡ started_with r.settings → BeginPost events text work events' text' work'
    → BegunPost r events text work events' text' work'
    (with_reply b going_on b.octets b.reply)
unfolding started_with
begins e f h =
    record {
      other = λ n. absurd (n e);
      first = λ _. (ap (λ (x : Receiver). with_reply x going_on x.octets x.reply) f, h);
    }

pub begun-already : (r : Receiver) {events text work : List ℕ} → (r.phase ≡ is_started → ⊥)
    → BegunPost r events text work events text work r
begun-already r n =
    record { other = λ _. (refl, refl, refl, refl); first = λ e. absurd (n e) }

-- ---- any piece

pub told-as : {a : Answer Reading} {m m₁ m' : Lent} {y : ReadReply} → SameLengths m m₁
    → Told a m₁ m' y → Told a m m' y
told-as {a} same h =
    record {
      reply = h.reply;
      events = h.events ∙ ap (λ n. events_filled n a) same.events;
      text = h.text ∙ ap (λ n. text_filled n a) same.text;
    }

pub told_with : {o o₁ : SettingNumbers} (os : List ℕ) {m m₁ m' : Lent} {y : ReadReply} → o₁ ≡ o
    → SameLengths m m₁ → Told (receive (room_of m₁) (numbers_of o₁) os) m₁ m' y
    → Told (receive (room_of m) (numbers_of o) os) m m' y
told_with os {m} {m' = m'} {y} e same h =
    subst (λ a. Told a m m' y)
    (ap₂ (λ room o. receive room (numbers_of o) os) (same-room same) e) (told-as same h)

took-as : {r : Receiver} {os : List ℕ} {m : Lent} {events text work : List ℕ} {r' : Receiver}
    {m' : Lent} {y : ReadReply} → SameLengths m (lent m.held events text work)
    → Took r os (lent m.held events text work) r' m' y → Took r os m r' m' y
took-as {os = os} same h =
    record {
      told = told_with os refl same h.told;
      goes = h.goes;
      behind = h.behind;
      stops = λ l.
          let x = h.stops l in
          record { receiver = x.receiver; memory = x.memory ∙ cleared-same same };
    }

module _ {r : Receiver} {p : List ℕ} {m : Lent} (pre : PiecePre r p m) where
  room_for : Roomy (length m.held) (length m.events) (length m.text) (length m.work)
  room_for = roomy-is _ _ _ _ pre.room

  pub begun-asks : BeginPre m.events m.text m.work
  begun-asks =
      record { cells = room_for.cells; room = room_for.store; rows = room_for.rows }

  module _ {events' text' work' : List ℕ} {b : Receiver}
      (begun : BegunPost r m.events m.text m.work events' text' work' b)
      (e : length events' ≡ length m.events) (t : length text' ≡ length m.text)
      (w : length work' ≡ length m.work) where
    abbrev lent-now : Lent
    lent-now = lent m.held events' text' work'

    same-lengths : SameLengths m lent-now
    same-lengths = record { held = refl; events = e; text = t; work = w }

    room-now : room_in lent-now ≡ true
    room-now =
        sym (room-is lent-now) ∙ ap (enough_to_read sizes) (same-room same-lengths) ∙ room-is m
        ∙ pre.room

    module _ (at-start : r.phase ≡ is_started) where
      abbrev first-record : Receiver
      first-record = with_reply (started_with r.settings) going_on 0 (refusal_at 0 0)

      within_first : Within first-record
      unfolding started_with none_open start_at refusal_at
      within_first =
          record {
            place = omega arith;
            bounded = start-bounded 0 r.settings.value_length r.settings.value_capacity
                (capacity-few r.settings pre.meant);
            few = omega arith;
            waits = omega arith;
            awaited = omega arith;
          }

      asks-first : GoOnPre first-record p lent-now
      unfolding started_with
      asks-first =
          record {
            room = room-now;
            meant = pre.meant;
            few = omega (arith, pre.few);
            within = within_first;
          }

      carries-first : BeginPost m.events m.text m.work events' text' work'
          → Carries first-record lent-now []
      unfolding started_with refusal_at
      carries-first post =
          record {
            count = refl;
            held = refl;
            underway = begin-underway begun-asks post (settings_of (numbers_of r.settings))
                (bounds_of r.settings);
            awaits = λ l. absurd (omega arith);
          }

      kept-first : first-record.settings ≡ r.settings
      unfolding started_with
      kept-first = refl

    asks-other : (r.phase ≡ is_started → ⊥) → GoOnPre r p lent-now
    asks-other n =
        let x = sound-within r pre.sound n in
        record { room = room-now; meant = pre.meant; few = pre.few; within = x }

    pub go-on-asks : GoOnPre b p lent-now
    go-on-asks = elim (ℕ_discrete r.phase is_started) [
      | yes h ↦ subst (λ x. GoOnPre x p lent-now) (sym (begun.first h).0) (asks-first h)
      | no h ↦ subst (λ x. GoOnPre x p lent-now) (sym (begun.other h).0) (asks-other h)
    ]

    settings-same : b.settings ≡ r.settings
    settings-same = elim (ℕ_discrete r.phase is_started) [
      | yes h ↦ ap (λ (x : Receiver). x.settings) (begun.first h).0 ∙ kept-first h
      | no h ↦ ap (λ (x : Receiver). x.settings) (begun.other h).0
    ]

    module _ {m' : Lent} {f : Handed} (post : GoOnPost b p lent-now m' f) where
      took-first : r.phase ≡ is_started
          → Took (started_with r.settings) p m f.receiver m' f.reply
      unfolding started_with
      took-first h =
          let t : Took (first-record h) p lent-now f.receiver m' f.reply =
          (subst (λ x. GoOnPost x p lent-now m' f) (begun.first h).0 post).took []
          (carries-first h (begun.first h).1) in
          took-as same-lengths
          (record { told = t.told; goes = t.goes; behind = t.behind; stops = λ l. took-stops (t.stops l) })
        where
          took-stops : {n : ℕ} {m₁ : Lent}
              → Stopped (first-record h) n m₁ f.receiver m' f.reply
              → Stopped (started_with r.settings) n m₁ f.receiver m' f.reply
          took-stops x = record { receiver = x.receiver; memory = x.memory }

      carries-further : (os : List ℕ) → Holds r m os → Carries b lent-now os
      carries-further os h =
          let (same, x, y, z) = begun.other (λ n. going-not-started h.phase n) in
          rw (same, x, y, z)
          (record {
            count = h.count;
            held = h.held;
            underway = h.stands.underway;
            awaits = h.awaits;
          })

      took-further : (os : List ℕ) → Holds r m os
          → Took r (os ++ p) lent-now f.receiver m' f.reply
      took-further os h =
          subst (λ x. Took x (os ++ p) lent-now f.receiver m' f.reply)
          (begun.other (λ n. going-not-started h.phase n)).0
          (post.took os (carries-further os h))

      pub piece-read : PiecePost r p m m' f
      piece-read =
          record {
            settings = post.settings ∙ settings-same;
            first = took-first;
            further = λ os h.
                took-as same-lengths (took-further os h);
          }
