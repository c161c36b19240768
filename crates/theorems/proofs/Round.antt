-- Demands 2 and 3 over cells, from those over the definitions; and K1 by demand 1 alone.
use mathlib.Core.Path.{◌≡◌, refl, sym, ◌∙◌, ap, ap₂}
use mathlib.Core.Logic.{◌↔◌}
use mathlib.Core.List.{List, [], ◌∷◌, ◌++◌, map}
use mathlib.Core.Option.{some-injective}
use Prim.Native.Nat.{ℕ}
use native.Mathlib.Omega.{arith}
use lib.Dec.{T}
use Rattle.spec_fields.specs.Refusal.{number_of, room, accepted}
use Rattle.spec_fields.proofs.Tests.{split, is_t}
use Rattle.text.specs.Text.{Text}
use Rattle.spec_exi.specs.Event.{Event}
use Rattle.spec_exi.specs.Settings as format
use Rattle.spec_exi.specs.Sizes.{sizes, NoLarger}
use Rattle.spec_exi.specs.Strict.{strict}
use Rattle.spec_exi.specs.Lists.{Good}
use Rattle.spec_exi.specs.Reader.{Reading, ReaderRoom, enough_to_read, read, read_reply}
use Rattle.spec_exi.specs.Writer.{Stored, write}
use Rattle.spec_exi.specs.Meaning.{AreOctets, stored_of, meant}
use Rattle.spec_exi.specs.Examples.{full, in_octets}
use Rattle.spec_exi.proofs.Body.{accepted-same}
use Rattle.spec_exi.proofs.Demands as demands
use Rattle.spec_exi.proofs.Definitions.{definitions}
use Rattle.spec_exi.proofs.Sizes.{accepted-still}
use Rattle.settings.specs.Meant.{numbers_of}
use Rattle.settings.specs.declared.SettingNumbers.{SettingNumbers}
use Rattle.event.specs.Cells.{events_of}
use Rattle.receiver.specs.reader.declared.ReadReply.{ReadReply}
use Rattle.receiver.specs.reader.Read.{ReaderLent, reader_room, answer_of, reply_of}
use Rattle.readings.specs.writer.Write.{writer_room}
use Rattle.theorems.specs.Calls.{asked, Hold, ReadCall, CanRead, events_left, text_left, Leaves}
use Rattle.theorems.specs.Calls.{WriteCall, CanWrite, octets_left, Gives}
use Rattle.theorems.specs.Cells.{Demand1Read}
use Rattle.theorems.proofs.Claims.{theorems}
use Rattle.theorems.proofs.Left.{text-left, stored-left, accepted-when-zero, leaves, gives}

-- ---- any memory that is enough gives the same answer

same-sizes : NoLarger sizes sizes
same-sizes =
    record {
      stream = omega arith;
      events = omega arith;
      opened = omega arith;
      uris = omega arith;
      names = omega arith;
      values = omega arith;
      grammars = omega arith;
      learned = omega arith;
      string = omega arith;
      store = omega arith;
    }

pub elsewhere : (p r : ReaderRoom) (o : format.SettingNumbers) (stream : List ℕ) (x : Reading)
    → T (enough_to_read sizes r) → read p o stream ≡ accepted x → read r o stream ≡ accepted x
unfolding read
elsewhere = accepted-still sizes sizes same-sizes

pub enough : (p : ReaderRoom) (o : format.SettingNumbers) (stream : List ℕ) (x : Reading)
    → read p o stream ≡ accepted x → T (enough_to_read sizes p)
unfolding read_reply number_of
enough p o stream x q =
    split (enough_to_read sizes p) (is_t (enough_to_read sizes p))
    (λ e. let n : (read_reply (read p o stream)).number ≡ number_of room =
    (theorems.demand-1-reader p o stream).no_room.1 (rw e tt) in
    let z : (read_reply (read p o stream)).number ≡ 0 = ap (λ a. (read_reply a).number) q in
    absurd (omega arith))

-- ---- demand 2

module _ {s : SettingNumbers} where
  -- Written are exactly the good lists, in their strict form.
  pub written : {events : List ℕ} {text : Text} (w : WriteCall s events text) (stream : List ℕ)
      → Gives w stream
      ↔ (CanWrite w
      × ((l : List (Event Text)) × Hold events text l × Good (asked s) l
      × (stream ≡ strict (asked s) l)))
  written {events} {text} w stream =
      let r = writer_room w.before in
      let d = demands.written r (numbers_of s) (events_of events) text stream in
      (λ h. d.0 ((gives w stream).0 h), λ g. (gives w stream).1 (d.1 g))

  -- What was written is read as that list.
  pub read_back : {events : List ℕ} {text : Text} (w : WriteCall s events text)
      (c : ReadCall s (octets_left w)) (l : List (Event Text)) → CanRead c
      → w.reply.number ≡ 0 → Hold events text l → Leaves c l
  read_back {events} {text} w c l can z h =
      (leaves c l).1
      (demands.read_back (writer_room w.before) (reader_room c.before) (numbers_of s)
      (events_of events) text l (octets_left w) can.0 h ((gives w (octets_left w)).0 (z, refl)))

  -- What was read is written as those octets.
  pub written_back : {stream : List ℕ} (c : ReadCall s stream)
      (w : WriteCall s (events_left c) (text_left c)) → CanWrite w → AreOctets stream
      → c.reply.number ≡ 0 → Gives w stream
  written_back {stream} c w can octets z =
      let (x, q, t) = (accepted-when-zero c z).1 in
      let r = writer_room w.before in
      (gives w stream).1
      (ap₂ (λ (xs : List Stored) (y : Text). write r (numbers_of s) xs y)
      (stored-left c x q) (text-left c x q)
      ∙ demands.written_back r (reader_room c.before) (numbers_of s) stream x can.0 octets q)

  -- ---- demand 3

  -- Accepted are exactly the strict forms of good lists.
  pub exact : {stream : List ℕ} (c : ReadCall s stream) (l : List (Event Text)) → AreOctets stream
      → Leaves c l ↔ (CanRead c × Good (asked s) l × (stream ≡ strict (asked s) l))
  exact {stream} c l octets =
      let d = demands.exact (reader_room c.before) (numbers_of s) stream l octets in (
        λ h. let (e, m, g, i) = d.0 ((leaves c l).0 h) in ((e, m), g, i),
        λ h. (leaves c l).1 (d.1 (h.0.0, h.0.1, h.1, h.2)),
      )

  -- Two calls on one stream leave one list.
  pub one_list : {stream : List ℕ} (c d : ReadCall s stream) (l k : List (Event Text))
      → Leaves c l → Leaves d k → l ≡ k
  one_list {stream} c d l k a b =
      let (x, q, t) = (leaves c l).0 a in
      let (y, p, u) = (leaves d k).0 b in
      let r = reader_room d.before in
      let o = numbers_of s in
      let e = elsewhere (reader_room c.before) r o stream x (enough r o stream y p) q in
      let same : x ≡ y = accepted-same (sym e ∙ p) in
      some-injective l k
      (sym t ∙ ap (λ (z : Reading). meant z.store (map stored_of z.events)) same ∙ u)

  -- Two streams that leave one list are one.
  pub one-stream : {a b : List ℕ} (c : ReadCall s a) (d : ReadCall s b) (l : List (Event Text))
      → AreOctets a → AreOctets b → Leaves c l → Leaves d l → a ≡ b
  one-stream c d l oa ob h k = ((exact c l oa).0 h).2 ∙ sym ((exact d l ob).0 k).2

  -- No accepted stream begins a longer one.
  pub no-prefix : {a b : List ℕ} (c : ReadCall s a) (d : ReadCall s (a ++ b)) → AreOctets (a ++ b)
      → c.reply.number ≡ 0 → d.reply.number ≡ 0 → b ≡ []
  no-prefix {a} {b} c d octets y z =
      let (l, (x, q, t)) = accepted-when-zero c y in
      let (k, (v, p, u)) = accepted-when-zero d z in
      let r = reader_room d.before in
      let o = numbers_of s in
      let e = elsewhere (reader_room c.before) r o a x (enough r o (a ++ b) v p) q in
      demands.no-prefix r o a b l k octets (x, e, t) (v, p, u)

-- ---- K1

abbrev k1 : List ℕ
k1 = 0x80 ∷ 0x01 ∷ 0x02 ∷ 0x61 ∷ 0x00 ∷ []

k1-reply : read_reply (read full in_octets k1)
    ≡ record { number = 0; index = 0; events = 4; code_points = 100 }
unfolding definitions
k1-reply = refl

-- Demand 1 alone fixes the reply to K1.
pub k1-accepted : (s : SettingNumbers) (m m' : ReaderLent) (r : ReadReply)
    → numbers_of s ≡ in_octets → T (enough_to_read sizes (reader_room m)) → Demand1Read s k1 m m' r
    → (r.number ≡ 0) × (r.events ≡ 4) × (r.code_points ≡ 100)
unfolding answer_of reply_of read_reply
k1-accepted s m m' r e h d =
    let (l, (x, q, t)) =
    (demands.accepted-when-zero full in_octets k1).0 (ap (λ y. y.number) k1-reply) in
    let p : read (reader_room m) (numbers_of s) k1 ≡ accepted x =
    rw e (elsewhere full (reader_room m) in_octets k1 x h q) in
    let counts = d.reply.counts x p in
    let same = sym (ap read_reply q) ∙ k1-reply in (
      (d.accepted-as x p).0,
      counts.0 ∙ ap (λ y. y.events) same,
      counts.1 ∙ ap (λ y. y.code_points) same,
    )
