-- Lists, streams and readings over cells, both ways, from the same over the definitions.
use mathlib.Core.Path.{◌≡◌, refl, sym, ◌∙◌, ap, ap₂, subst}
use mathlib.Core.Bool.{true}
use mathlib.Core.Logic.{◌↔◌}
use mathlib.Core.List.{List, [], ◌∷◌, ◌++◌, map}
use mathlib.Core.Option.{some, some-injective}
use Prim.Native.Nat.{ℕ, ◌*◌}
use lib.Dec.{T}
use lib.ListN.{length, take}
use lib.Seq.{take_at}
use Rattle.spec_fields.proofs.Tests.{T-is, left, right}
use Rattle.text.specs.Text.{Text}
use Rattle.spec_exi.specs.Event.{Event}
use Rattle.spec_exi.specs.Settings as format
use Rattle.spec_exi.specs.Sizes.{sizes, cells_per_event}
use Rattle.spec_exi.specs.Tables.{event_text}
use Rattle.spec_exi.specs.Strict.{strict}
use Rattle.spec_exi.specs.Lists.{every}
use Rattle.spec_exi.specs.Lists as lists
use Rattle.spec_exi.specs.Reader as codec
use Rattle.spec_exi.specs.Writer as codec-writer
use Rattle.spec_exi.specs.Writer.{Stored}
use Rattle.spec_exi.specs.Meaning.{AreOctets, stored_of, meant_one, meant, Accepts}
use Rattle.spec_exi.proofs.Demands as demands
use Rattle.spec_readings.specs.Movements.{is_movement}
use Rattle.spec_readings.specs.Readings.{Reading, Answer, refused, accepted, as_list, read_list}
use Rattle.spec_readings.specs.Readings.{ReadingsRoom, enough_for_readings, readings_of, ReadingsReply}
use Rattle.spec_readings.specs.Readings.{readings_reply, checked, laid_out, ListRoom, enough_for_list}
use Rattle.spec_readings.specs.Readings.{laid_for, list_of, list_reply}
use Rattle.spec_readings.specs.Good.{Good}
use Rattle.spec_readings.specs.Streams.{Outcome, done, Found, from_stream, found_reply, Written}
use Rattle.spec_readings.specs.Streams.{to_stream, written_reply, OfScope}
use Rattle.spec_readings.proofs.Lists.{unless-accepted}
use Rattle.spec_readings.proofs.Answers.{fault-number, meant-each, each-meant}
use Rattle.spec_readings.proofs.BothWays.{lists-accepted, readings-accepted}
use Rattle.spec_readings.proofs.Laid.{laid-means, laid-accepted}
use Rattle.spec_readings.proofs.AsRead.{as_read}
use Rattle.spec_readings.proofs.Streams as streams
use Rattle.settings.specs.Meant.{numbers_of}
use Rattle.settings.specs.declared.SettingNumbers.{SettingNumbers}
use Rattle.event.specs.Cells.{events_of, cells_of_all}
use Rattle.event.proofs.Laws.{cells-mean, cells-size}
use Rattle.readings_stamps.specs.Meaning.{whole_of}
use Rattle.readings_judge.specs.Verdict.{cell_of, stamp_cells, movement_cells, readings_in}
use Rattle.readings_judge.proofs.Standing.{whole_back}
use Rattle.readings_from.specs.Reply as from
use Rattle.readings_from.specs.Reply.{stamps_filled, movements_filled}
use Rattle.readings_to.specs.Reply as to
use Rattle.readings_to.specs.Reply.{events_filled, text_filled}
use Rattle.receiver.specs.reader.Read.{reader_room}
use Rattle.readings.specs.writer.Write as writer
use Rattle.readings.specs.Stream as stream
use Rattle.readings.specs.Stream.{filled, found_of, written_of}
use Rattle.theorems.specs.Calls.{asked, Hold, ReadCall, CanRead, events_left, text_left, Leaves}
use Rattle.theorems.specs.Calls.{WriteCall, octets_left}
use Rattle.theorems.specs.ReadingsCalls.{FromListCall, CanFind, stamps_found, movements_found}
use Rattle.theorems.specs.ReadingsCalls.{Finds, ToListCall, CanLay, events_laid, text_laid}
use Rattle.theorems.specs.ReadingsCalls.{Lays, FromStreamCall, CanFindIn, stamps_in}
use Rattle.theorems.specs.ReadingsCalls.{movements_in, FindsIn, ToStreamCall, CanStream}
use Rattle.theorems.specs.ReadingsCalls.{octets_in, Streams}
use Rattle.theorems.proofs.Left.{events-left, text-left, leaves}
use Rattle.theorems.proofs.Round.{elsewhere, enough, read_back}
use Rattle.theorems.proofs.ReadingsLeft.{stamps-count, movements-count}

-- ---- readings in cells are these readings

same-reading : (r : Reading) → is_movement r.movement ≡ true
    → record { milliseconds = r.milliseconds; movement = whole_of (cell_of r.movement) } ≡ r
same-reading r h =
    λ i. record { milliseconds = r.milliseconds; movement = whole_back r.movement h i }

cells-back : (rs : List Reading) → T (every (λ r. is_movement r.movement) rs)
    → readings_in (stamp_cells rs) (movement_cells rs) ≡ rs
unfolding readings_in stamp_cells movement_cells every
cells-back [] h = refl
cells-back (r ∷ rs) h =
    let ok = is_movement r.movement in
    let oks = every (λ r. is_movement r.movement) rs in
    ap₂ (λ (a : Reading) (l : List Reading). a ∷ l)
    (same-reading r (T-is ok (left ok oks h))) (cells-back rs (right ok oks h))

-- Cells that begin with those of good readings, and are counted.
counted_back : (rs : List Reading) (ns ms more least : List ℕ) (n : ℕ) → Good rs → n ≡ length rs
    → ns ≡ stamp_cells rs ++ more → ms ≡ movement_cells rs ++ least
    → readings_in (take n ns) (take n ms) ≡ rs
counted_back rs ns ms more least n g c e f =
    ap₂ (λ (a b : List ℕ). readings_in a b)
    (ap (take n) e ∙ take_at (stamp_cells rs) more n (stamps-count rs ∙ sym c))
    (ap (take n) f ∙ take_at (movement_cells rs) least n (movements-count rs ∙ sym c))
    ∙ cells-back rs g.movements

-- ---- a list to readings

readings-exactly : (r : ReadingsRoom) (xs : List Stored) (store : Text) (rs : List Reading)
    → (readings_of r xs store ≡ accepted rs)
    ↔ (T (enough_for_readings r) × (meant store xs ≡ some (as_list rs)) × Good rs)
unfolding readings_of
readings-exactly r xs store rs = (
  λ e.
      let (t, f) = unless-accepted (enough_for_readings r) (read_list sizes (map (meant_one store) xs))
      _ _ e in
      let (h, g) = (lists-accepted (map (meant_one store) xs) rs).0 f in
      (t, each-meant store xs (as_list rs) h, g),
  λ h. rw (T-is (enough_for_readings r) h.0)
      ((lists-accepted (map (meant_one store) xs) rs).1 (meant-each store xs (as_list rs) h.1, h.2)),
)

module _ {events : List ℕ} {text : Text} (c : FromListCall events text) where
  abbrev answer : Answer (List Reading)
  answer = readings_of (from.readings_room c.before) (events_of events) text

  finds-accepted : (rs : List Reading) → answer ≡ accepted rs → Finds c rs
  unfolding from.answer_of from.reply_of readings_reply stamps_filled movements_filled
  finds-accepted rs q =
      let g = ((readings-exactly (from.readings_room c.before) (events_of events) text rs).0 q).2 in
      let reply = c.post.reply ∙ ap readings_reply q in (
        ap (λ (y : ReadingsReply). y.number) reply,
        counted_back rs c.after.stamps c.after.movements _ _ c.reply.readings g
            (ap (λ (y : ReadingsReply). y.readings) reply)
            (c.post.stamps ∙ ap (stamps_filled (length c.before.stamps)) q)
            (c.post.movements ∙ ap (movements_filled (length c.before.movements)) q),
      )

  found-answer : c.reply.number ≡ 0 → (rs : List Reading) × (answer ≡ accepted rs)
  unfolding from.answer_of from.reply_of readings_reply
  found-answer z = by answer refl
    where
      by : (a : Answer (List Reading)) → answer ≡ a
          → (rs : List Reading) × (answer ≡ accepted rs)
      by (refused k i) q =
          absurd (fault-number k (sym (ap (λ (y : ReadingsReply). y.number)
          (c.post.reply ∙ ap readings_reply q)) ∙ z))
      by (accepted rs) q = (rs, q)

  finds : (rs : List Reading) → Finds c rs ↔ (answer ≡ accepted rs)
  finds rs = (
    λ h.
        let (ss, q) = found-answer h.0 in
        q ∙ ap accepted (sym (finds-accepted ss q).1 ∙ h.1),
    finds-accepted rs,
  )

  pub found : (rs : List Reading) → Finds c rs ↔ (CanFind c × Hold events text (as_list rs) × Good rs)
  found rs =
      let e = readings-exactly (from.readings_room c.before) (events_of events) text rs in
      (λ h. e.0 ((finds rs).0 h), λ h. (finds rs).1 (e.1 h))

-- ---- readings to a list

list-exactly : (p : ListRoom) (rs : List Reading) (x : codec.Reading)
    → (list_of p rs ≡ accepted x) ↔ (T (enough_for_list p) × Good rs × (laid_out (as_list rs) ≡ x))
unfolding list_of laid_for
list-exactly p rs x = (
  λ e.
      let (t, f) = unless-accepted (enough_for_list p) (laid_for (checked sizes [] rs)) _ _ e in
      let (c, same) = laid-accepted rs x f in
      (t, ((readings-accepted rs rs).0 c).1, same),
  λ h.
      let c = (readings-accepted rs rs).1 (refl, h.1) in
      rw (T-is (enough_for_list p) h.0, c) (ap accepted h.2),
)

module _ {stamps movements : List ℕ} (c : ToListCall stamps movements) where
  abbrev given : List Reading
  given = readings_in stamps movements

  abbrev list : Answer codec.Reading
  list = list_of (to.list_room c.before) given

  module _ (x : codec.Reading) (q : list ≡ accepted x) where
    pub laid-number : c.reply.number ≡ 0
    unfolding to.answer_of to.reply_of list_reply
    laid-number = ap (λ (y : codec.ReadReply). y.number) (c.post.reply ∙ ap list_reply q)

    pub laid-events : events_laid c ≡ cells_of_all x.events
    unfolding to.answer_of to.reply_of list_reply events_filled
    laid-events =
        let count = ap (λ (y : codec.ReadReply). y.events) (c.post.reply ∙ ap list_reply q) in
        let cells = c.post.events ∙ ap (events_filled (length c.before.events)) q in
        ap₂ (λ (n : ℕ) (l : List ℕ). take (cells_per_event * n) l) count cells
        ∙ take_at (cells_of_all x.events) _ (cells_per_event * length x.events) (cells-size x.events)

    pub laid-text : text_laid c ≡ x.store
    unfolding to.answer_of to.reply_of list_reply text_filled
    laid-text =
        let count = ap (λ (y : codec.ReadReply). y.code_points) (c.post.reply ∙ ap list_reply q) in
        let cells = c.post.text ∙ ap (text_filled (length c.before.text)) q in
        ap₂ (λ (n : ℕ) (l : List ℕ). take n l) count cells
        ∙ take_at x.store _ (length x.store) refl

    laid-stored : events_of (events_laid c) ≡ map stored_of x.events
    laid-stored = ap events_of laid-events ∙ cells-mean x.events

    laid-holds : Hold (events_laid c) (text_laid c) (as_list given)
    laid-holds =
        let (t, g, same) = (list-exactly (to.list_room c.before) given x).0 q in
        ap₂ (λ (y : Text) (xs : List Stored). meant y xs) laid-text laid-stored
        ∙ subst (λ z. meant z.store (map stored_of z.events) ≡ some (as_list given)) same
        (laid-means given)

  pub list-answer : c.reply.number ≡ 0 → (x : codec.Reading) × (list ≡ accepted x)
  unfolding to.answer_of to.reply_of list_reply
  list-answer z = by list refl
    where
      by : (a : Answer codec.Reading) → list ≡ a → (x : codec.Reading) × (list ≡ accepted x)
      by (refused k i) q =
          absurd (fault-number k (sym (ap (λ (y : codec.ReadReply). y.number)
          (c.post.reply ∙ ap list_reply q)) ∙ z))
      by (accepted x) q = (x, q)

  pub holds-given : c.reply.number ≡ 0 → Hold (events_laid c) (text_laid c) (as_list given)
  holds-given z = let (x, q) = list-answer z in laid-holds x q

  pub laid : (l : List (Event Text)) → Lays c l ↔ (CanLay c × Good given × (l ≡ as_list given))
  laid l = (
    λ h.
        let (x, q) = list-answer h.0 in
        let (t, g, same) = (list-exactly (to.list_room c.before) given x).0 q in
        (t, g, some-injective l (as_list given) (sym h.1 ∙ laid-holds x q)),
    λ h.
        let x = laid_out (as_list given) in
        let q = (list-exactly (to.list_room c.before) given x).1 (h.0, h.1, refl) in
        (laid-number x q, laid-holds x q ∙ ap some (sym h.2)),
  )

-- ---- there and back

pub found_back : {stamps movements : List ℕ} (w : ToListCall stamps movements)
    (c : FromListCall (events_laid w) (text_laid w)) → CanFind c → w.reply.number ≡ 0
    → Finds c (readings_in stamps movements)
found_back {stamps} {movements} w c can z =
    let rs = readings_in stamps movements in
    let hold = holds-given w z in
    let (t, g, same) = (laid w (as_list rs)).0 (z, hold) in
    (found c rs).1 (can, hold, g)

pub laid-back : {events : List ℕ} {text : Text} (c : FromListCall events text)
    (w : ToListCall (stamps_found c) (movements_found c)) (l : List (Event Text)) → CanLay w
    → c.reply.number ≡ 0 → Hold events text l → Lays w l
laid-back c w l can z hold =
    let rs = readings_in (stamps_found c) (movements_found c) in
    let (t, h, g) = (found c rs).0 (z, refl) in
    (laid w l).1 (can, g, some-injective l (as_list rs) (sym hold ∙ h))

-- ---- a stream to readings

module _ {s : SettingNumbers} {octets : List ℕ} (c : FromStreamCall s octets) where
  abbrev p : ReadingsRoom
  p = stream.readings_room c.before

  abbrev q : codec.ReaderRoom
  q = stream.reader_room c.before

  abbrev outcome : Outcome Found
  outcome = from_stream p q (numbers_of s) octets

  finds-done : (f : Found) → outcome ≡ done f → FindsIn c f.readings
  unfolding found_of from.reply_of found_reply filled
  finds-done f e =
      let d = streams.from-done p q (numbers_of s) octets f e in
      let reply = c.post.reply ∙ ap found_reply e in (
        ap (λ (y : ReadingsReply). y.number) reply,
        counted_back f.readings c.after.stamps c.after.movements _ _
            c.reply.readings d.good (ap (λ (y : ReadingsReply). y.readings) reply)
            (c.post.stamps
            ∙ ap (filled (λ x. stamp_cells x.readings) (length c.before.stamps)) e)
            (c.post.movements
            ∙ ap (filled (λ x. movement_cells x.readings) (length c.before.movements)) e),
      )

  pub accepts-done : (rs : List Reading) → T (enough_for_readings p)
      → Accepts q (numbers_of s) octets (as_list rs) → Good rs
      → (f : Found) × (outcome ≡ done f) × (f.readings ≡ rs)
  accepts-done rs t a g =
      let (x, r, m) = a in
      let same = some-injective (map event_text x.events) (as_list rs)
      (sym (demands.texts q (numbers_of s) octets x r) ∙ m) in
      let f : Found = record { list = x; readings = rs } in (
        f,
        streams.done-from p q (numbers_of s) octets f
            (record { enough = t; read_as = r; list-is = same; good = g }),
        refl,
      )

  pub found-done : c.reply.number ≡ 0 → (f : Found) × (outcome ≡ done f)
  unfolding found_of from.reply_of
  found-done z =
      let number = ap (λ (y : ReadingsReply). y.number) c.post.reply in
      let (t, (rs, a, g)) = (streams.from_zero p q (numbers_of s) octets).0 (sym number ∙ z) in
      let (f, e, i) = accepts-done rs t a g in
      (f, e)

  pub finds-in : (rs : List Reading) → FindsIn c rs
      ↔ (T (enough_for_readings p) × Accepts q (numbers_of s) octets (as_list rs) × Good rs)
  finds-in rs = (
    λ h.
        let (f, e) = found-done h.0 in
        let d = streams.from-done p q (numbers_of s) octets f e in
        let same : f.readings ≡ rs = sym (finds-done f e).1 ∙ h.1 in
        let accepts : Accepts q (numbers_of s) octets (as_list f.readings) = (
          f.list,
          d.read_as,
          demands.texts q (numbers_of s) octets f.list d.read_as
              ∙ ap some d.list-is,
        ) in (
          d.enough,
          subst (λ l. Accepts q (numbers_of s) octets (as_list l)) same accepts,
          subst Good same d.good,
        ),
    λ h.
        let (f, e, i) = accepts-done rs h.0 h.1 h.2 in
        subst (FindsIn c) i (finds-done f e),
  )

-- The same stream is accepted with the same list in any memory that is enough.
accepts-elsewhere : (q r : codec.ReaderRoom) (o : format.SettingNumbers) (octets : List ℕ)
    (l : List (Event Text)) → T (codec.enough_to_read sizes r) → Accepts q o octets l
    → Accepts r o octets l
accepts-elsewhere q r o octets l t a =
    let (x, e, m) = a in (x, elsewhere q r o octets x t e, m)

pub read-in : {s : SettingNumbers} {octets : List ℕ} (c : FromStreamCall s octets)
    (d : ReadCall s octets) (rs : List Reading) → CanRead d
    → FindsIn c rs ↔ (CanFindIn c × Leaves d (as_list rs) × Good rs)
read-in {s} {octets} c d rs can =
    let r = stream.reader_room c.before in
    let o = numbers_of s in (
      λ h.
          let (t, a, g) = (finds-in c rs).0 h in
          let (x, e, m) = a in (
            (t, enough r o octets x e),
            (leaves d (as_list rs)).1
                (accepts-elsewhere r (reader_room d.before) o octets (as_list rs) can.0 a),
            g,
          ),
      λ h.
          (finds-in c rs).1 (
            h.0.0,
            accepts-elsewhere (reader_room d.before) r o octets (as_list rs) h.0.1
                ((leaves d (as_list rs)).0 h.1),
            h.2,
          ),
    )

-- ---- readings to a stream

module _ {s : SettingNumbers} {stamps movements : List ℕ} (c : ToStreamCall s stamps movements)
  where
    abbrev rs : List Reading
    rs = readings_in stamps movements

    abbrev list-room : ListRoom
    list-room = stream.list_room c.before

    abbrev writer-room : codec-writer.WriterRoom
    writer-room = stream.writer_room c.before

    abbrev written_as : Outcome Written
    written_as = to_stream list-room writer-room (numbers_of s) rs

    streams-done : (y : Written) → written_as ≡ done y → Streams c y.octets
    unfolding written_of writer.reply_of written_reply filled
    streams-done y e =
        let reply = c.post.reply ∙ ap written_reply e in
        let octets = c.post.octets ∙ ap (filled (λ x. x.octets) (length c.before.octets)) e in (
          ap (λ (a : codec-writer.WriteReply). a.number) reply,
          ap₂ (λ (n : ℕ) (l : List ℕ). take n l)
              (ap (λ (a : codec-writer.WriteReply). a.octets) reply) octets
              ∙ take_at y.octets _ (length y.octets) refl,
        )

    good-done : CanStream c → Good rs → lists.Good (asked s) (as_list rs)
        → written_as
        ≡ done (record { list = laid_out (as_list rs); octets = strict (asked s) (as_list rs) })
    good-done can g l =
        streams.done-to list-room writer-room (numbers_of s) rs _
        (record {
          enough = can.0;
          means = can.1;
          good = g;
          list-good = l;
          list-is = refl;
          octets-are = refl;
        })

    pub written-done : c.reply.number ≡ 0 → (y : Written) × (written_as ≡ done y)
    unfolding written_of writer.reply_of
    written-done z =
        let number = ap (λ (a : codec-writer.WriteReply). a.number) c.post.reply in
        let (room, means, g, l) = (streams.to-zero list-room writer-room (numbers_of s) rs).0
        (sym number ∙ z) in
        (_, good-done (room, means) g l)

    pub written : (octets : List ℕ) → Streams c octets
        ↔ (CanStream c × Good rs × lists.Good (asked s) (as_list rs)
        × (octets ≡ strict (asked s) (as_list rs)))
    written octets = (
      λ h.
          let (y, e) = written-done h.0 in
          let d = streams.to-done list-room writer-room (numbers_of s) rs y e in (
            (d.enough, d.means),
            d.good,
            d.list-good,
            sym h.1 ∙ (streams-done y e).1 ∙ d.octets-are,
          ),
      λ h.
          let (z, i) = streams-done _ (good-done h.0 h.1 h.2) in
          (z, i ∙ sym h.3),
    )

    pub octets-are : (y : Written) → written_as ≡ done y → octets_in c ≡ y.octets
    octets-are y e = (streams-done y e).1

pub streams-back : {s : SettingNumbers} {stamps movements : List ℕ}
    (w : ToStreamCall s stamps movements) (c : FromStreamCall s (octets_in w)) → CanFindIn c
    → w.reply.number ≡ 0 → FindsIn c (readings_in stamps movements)
streams-back {s} {stamps} {movements} w c can z =
    let rs = readings_in stamps movements in
    let o = numbers_of s in
    let r = stream.readings_room c.before in
    let q = stream.reader_room c.before in
    let (y, e) = written-done w z in
    let (x, f) = streams.readings-back (stream.list_room w.before) (stream.writer_room w.before)
    r q o rs y can.0 can.1 e in
    let g : from_stream r q o (octets_in w) ≡ done (record { list = x; readings = rs }) =
    ap (from_stream r q o) (octets-are w y e) ∙ f in
    finds-done c (record { list = x; readings = rs }) g

pub octets-back : {s : SettingNumbers} {octets : List ℕ} (c : FromStreamCall s octets)
    (w : ToStreamCall s (stamps_in c) (movements_in c)) → CanStream w → AreOctets octets
    → c.reply.number ≡ 0 → Streams w octets
octets-back {s} {octets} c w can are z =
    let rs = readings_in (stamps_in c) (movements_in c) in
    let (t, a, g) = (finds-in c rs).0 (z, refl) in
    let (room, means, fine, is) =
    (demands.exact (stream.reader_room c.before) (numbers_of s) octets (as_list rs) are).0 a in
    (written w octets).1 (can, g, fine, is)

-- ---- the list that is laid, cell by cell as the reader leaves it

pub laid-as-read : {s : SettingNumbers} {stamps movements : List ℕ} (l : ToListCall stamps movements)
    (w : WriteCall s (events_laid l) (text_laid l)) (d : ReadCall s (octets_left w))
    → OfScope (numbers_of s) → CanRead d → l.reply.number ≡ 0 → w.reply.number ≡ 0
    → (events_left d ≡ events_laid l) × (text_left d ≡ text_laid l)
laid-as-read {s} {stamps} {movements} l w d base can z y =
    let rs = readings_in stamps movements in
    let o = numbers_of s in
    let room = reader_room d.before in
    let (x, q) = list-answer l z in
    let (t, g, same) = (list-exactly (to.list_room l.before) rs x).0 q in
    let (a, e, m) = (leaves d (as_list rs)).0 (read_back w d (as_list rs) can y (holds-given l z)) in
    let texts = some-injective (map event_text a.events) (as_list rs)
    (sym (demands.texts room o (octets_left w) a e) ∙ m) in
    let is : a ≡ x = as_read room o (octets_left w) a rs base e texts ∙ same in (
      events-left d a e ∙ ap (λ (b : codec.Reading). cells_of_all b.events) is
          ∙ sym (laid-events l x q),
      text-left d a e ∙ ap (λ (b : codec.Reading). b.store) is ∙ sym (laid-text l x q),
    )
