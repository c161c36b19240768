-- What the contracts of readings leave, by the definitions' answers.
use mathlib.Core.Path.{◌≡◌, refl, ◌∙◌, ap, subst}
use mathlib.Core.List.{List, []}
use Prim.Native.Nat.{ℕ, ◌*◌, ◌-◌, ◌<◌}
use native.Mathlib.Nat.{sub-zero}
use native.Mathlib.Omega.{arith}
use lib.ListN.{length, drop, replicate, length-map}
use lib.Seq.{drop_at}
use Rattle.spec_exi.specs.Sizes.{cells_per_event}
use Rattle.spec_exi.specs.Reader as codec
use Rattle.spec_exi.specs.Writer as codec-writer
use Rattle.spec_readings.specs.Readings.{Reading, Answer, refused, accepted, ReadingsReply}
use Rattle.spec_readings.specs.Readings.{readings_reply, list_reply}
use Rattle.spec_readings.specs.Streams.{Outcome, refused_by, done, Found, Written, found_reply}
use Rattle.spec_readings.specs.Streams.{written_reply}
use Rattle.text.specs.Text.{Text}
use Rattle.settings.specs.declared.SettingNumbers.{SettingNumbers}
use Rattle.event.specs.Cells.{cells_of_all}
use Rattle.event.proofs.Laws.{cells-size}
use Rattle.readings_judge.specs.Verdict.{cell_of, stamp_cells, movement_cells}
use Rattle.readings_from.specs.declared.ReadingsReply as from-declared
use Rattle.readings_from.specs.Reply as from
use Rattle.readings_from.specs.Reply.{stamps_filled, movements_filled, FromListPost}
use Rattle.readings_to.specs.declared.ListReply.{ListReply}
use Rattle.readings_to.specs.Reply as to
use Rattle.readings_to.specs.Reply.{events_filled, text_filled, ToListPost}
use Rattle.readings.specs.writer.declared.WriteReply.{WriteReply}
use Rattle.readings.specs.writer.Write as writer
use Rattle.readings.specs.Stream.{filled, FromLent, found_of, FromStreamPost, ToLent, written_of}
use Rattle.readings.specs.Stream.{ToStreamPost}
use Rattle.theorems.specs.ReadingsCells.{FromListLeft, ToListLeft, FromStreamLeft}
use Rattle.theorems.specs.ReadingsCells.{PastList, ToStreamLeft}

pub stamps-count : (rs : List Reading) → length (stamp_cells rs) ≡ length rs
unfolding stamp_cells
stamps-count rs = length-map rs (λ r. r.milliseconds)

pub movements-count : (rs : List Reading) → length (movement_cells rs) ≡ length rs
unfolding movement_cells
movements-count rs = length-map rs (λ r. cell_of r.movement)

-- ---- n cells, by an answer: past the counts they are zero, and all of them after a refusal

module _ (n : ℕ) where
  past-stamps : (a : Answer (List Reading))
      → drop (readings_reply a).readings (stamps_filled n a)
      ≡ replicate (n - (readings_reply a).readings) 0
  unfolding readings_reply stamps_filled
  past-stamps (refused k i) = rw (sub-zero n)
  past-stamps (accepted rs) = drop_at (stamp_cells rs) _ (length rs) (stamps-count rs)

  past-movements : (a : Answer (List Reading))
      → drop (readings_reply a).readings (movements_filled n a)
      ≡ replicate (n - (readings_reply a).readings) 0
  unfolding readings_reply movements_filled
  past-movements (refused k i) = rw (sub-zero n)
  past-movements (accepted rs) = drop_at (movement_cells rs) _ (length rs) (movements-count rs)

  no-readings : (a : Answer (List Reading)) → 0 < (readings_reply a).number
      → ((readings_reply a).readings ≡ 0) × (stamps_filled n a ≡ replicate n 0)
      × (movements_filled n a ≡ replicate n 0)
  unfolding readings_reply stamps_filled movements_filled
  no-readings (refused k i) h = (refl, refl, refl)
  no-readings (accepted rs) h = absurd (omega arith)

  past-events : (a : Answer codec.Reading)
      → drop (cells_per_event * (list_reply a).events) (events_filled n a)
      ≡ replicate (n - cells_per_event * (list_reply a).events) 0
  unfolding list_reply events_filled
  past-events (refused k i) = rw (sub-zero n)
  past-events (accepted x) =
      rw (cells-size x.events)
      (drop_at (cells_of_all x.events) _ (cells_per_event * length x.events) (cells-size x.events))

  past-text : (a : Answer codec.Reading)
      → drop (list_reply a).code_points (text_filled n a)
      ≡ replicate (n - (list_reply a).code_points) 0
  unfolding list_reply text_filled
  past-text (refused k i) = rw (sub-zero n)
  past-text (accepted x) = drop_at x.store _ (length x.store) refl

  no-list : (a : Answer codec.Reading) → 0 < (list_reply a).number
      → ((list_reply a).events ≡ 0) × ((list_reply a).code_points ≡ 0)
      × (events_filled n a ≡ replicate n 0) × (text_filled n a ≡ replicate n 0)
  unfolding list_reply events_filled text_filled
  no-list (refused k i) h = (refl, refl, refl, refl)
  no-list (accepted x) h = absurd (omega arith)

  past-found : (f : Found → List ℕ) → ((x : Found) → length (f x) ≡ length x.readings)
      → (a : Outcome Found)
      → drop (found_reply a).readings (filled f n a) ≡ replicate (n - (found_reply a).readings) 0
  unfolding found_reply filled
  past-found f c (refused_by k i) = rw (sub-zero n)
  past-found f c (done x) = rw (c x) (drop_at (f x) _ (length x.readings) (c x))

  none_found : (f : Found → List ℕ) (a : Outcome Found) → 0 < (found_reply a).number
      → ((found_reply a).readings ≡ 0) × (filled f n a ≡ replicate n 0)
  unfolding found_reply filled
  none_found f (refused_by k i) h = (refl, refl)
  none_found f (done x) h = absurd (omega arith)

  past-octets : (a : Outcome Written)
      → drop (written_reply a).octets (filled (λ x. x.octets) n a)
      ≡ replicate (n - (written_reply a).octets) 0
  unfolding written_reply filled
  past-octets (refused_by k i) = rw (sub-zero n)
  past-octets (done x) = drop_at x.octets _ (length x.octets) refl

  none_written : (f : Written → List ℕ) (a : Outcome Written) → 0 < (written_reply a).number
      → ((written_reply a).octets ≡ 0) × (filled f n a ≡ replicate n 0)
  unfolding written_reply filled
  none_written f (refused_by k i) h = (refl, refl)
  none_written f (done x) h = absurd (omega arith)

-- The cells of a list that was answered, and zeros past them.
past-list : {A : Type 0} (f : A → codec.Reading) (events text events' text' : List ℕ)
    (a : Outcome A)
    → events' ≡ filled (λ y. cells_of_all (f y).events) (length events) a
    → text' ≡ filled (λ y. (f y).store) (length text) a
    → (x : A) → a ≡ done x → PastList (f x) events text events' text'
unfolding filled
past-list f events text events' text' a e g x h =
    let cells = cells-size (f x).events in
    let n = cells_per_event * length (f x).events in
    let is = e ∙ ap (filled (λ y. cells_of_all (f y).events) (length events)) h in
    let text-is = g ∙ ap (filled (λ y. (f y).store) (length text)) h in
    record {
      events-are = ap (drop n) is ∙ drop_at (cells_of_all (f x).events) _ n cells
          ∙ ap (λ (k : ℕ). replicate (length events - k) 0) cells;
      text-is = ap (drop (length (f x).store)) text-is
          ∙ drop_at (f x).store _ (length (f x).store) refl;
    }

-- ---- the four contracts

module _ {events : List ℕ} {text : Text} {m m' : from.ReadingsLent}
    {r : from-declared.ReadingsReply} (p : FromListPost events text m m' r) where
  pub from-list-left : FromListLeft m m' r
  unfolding from.reply_of
  from-list-left =
      let a = from.answer_of events text m in
      let number = ap (λ (y : ReadingsReply). y.number) p.reply in
      let count = ap (λ (y : ReadingsReply). y.readings) p.reply in
      record {
        refused = λ h.
            let h' = subst (λ k. 0 < k) number h in
            let (none, stamps, _) = no-readings (length m.stamps) a h' in
            let (_, _, movements) = no-readings (length m.movements) a h' in
            (count ∙ none, p.stamps ∙ stamps, p.movements ∙ movements);
        past-stamps = rw (count, p.stamps) (past-stamps (length m.stamps) a);
        past-movements = rw (count, p.movements) (past-movements (length m.movements) a);
      }

module _ {stamps movements : List ℕ} {m m' : to.ListLent} {r : ListReply}
    (p : ToListPost stamps movements m m' r) where
  pub to-list-left : ToListLeft m m' r
  unfolding to.reply_of
  to-list-left =
      let a = to.answer_of stamps movements m in
      let number = ap (λ (y : codec.ReadReply). y.number) p.reply in
      let count = ap (λ (y : codec.ReadReply). y.events) p.reply in
      let points = ap (λ (y : codec.ReadReply). y.code_points) p.reply in
      record {
        refused = λ h.
            let h' = subst (λ k. 0 < k) number h in
            let (none, nothing, events, _) = no-list (length m.events) a h' in
            let (_, _, _, text) = no-list (length m.text) a h' in
            (count ∙ none, points ∙ nothing, p.events ∙ events, p.text ∙ text);
        past-events = rw (count, p.events) (past-events (length m.events) a);
        past-text = rw (points, p.text) (past-text (length m.text) a);
      }

module _ {s : SettingNumbers} {octets : List ℕ} {m m' : FromLent}
    {r : from-declared.ReadingsReply} (p : FromStreamPost s octets m m' r) where
  pub from-stream-left : FromStreamLeft s octets m m' r
  unfolding from.reply_of
  from-stream-left =
      let a = found_of s octets m in
      let number = ap (λ (y : ReadingsReply). y.number) p.reply in
      let count = ap (λ (y : ReadingsReply). y.readings) p.reply in
      record {
        refused = λ h.
            let h' = subst (λ k. 0 < k) number h in (
              count ∙ (none_found 0 (λ x. []) a h').0,
              p.stamps ∙ (none_found (length m.stamps) _ a h').1,
              p.movements ∙ (none_found (length m.movements) _ a h').1,
              p.events ∙ (none_found (length m.events) _ a h').1,
              p.text ∙ (none_found (length m.text) _ a h').1,
            );
        past-stamps = rw (count, p.stamps)
            (past-found (length m.stamps) _ (λ x. stamps-count x.readings) a);
        past-movements = rw (count, p.movements)
            (past-found (length m.movements) _ (λ x. movements-count x.readings) a);
        past-list = past-list (λ x. x.list) m.events m.text m'.events m'.text a
            p.events p.text;
        work = p.work;
      }

module _ {s : SettingNumbers} {stamps movements : List ℕ} {m m' : ToLent} {r : WriteReply}
    (p : ToStreamPost s stamps movements m m' r) where
  pub to-stream-left : ToStreamLeft s stamps movements m m' r
  unfolding writer.reply_of
  to-stream-left =
      let a = written_of s stamps movements m in
      let number = ap (λ (y : codec-writer.WriteReply). y.number) p.reply in
      let count = ap (λ (y : codec-writer.WriteReply). y.octets) p.reply in
      record {
        refused = λ h.
            let h' = subst (λ k. 0 < k) number h in (
              count ∙ (none_written 0 (λ x. []) a h').0,
              p.octets ∙ (none_written (length m.octets) _ a h').1,
              p.events ∙ (none_written (length m.events) _ a h').1,
              p.text ∙ (none_written (length m.text) _ a h').1,
            );
        past-octets = rw (count, p.octets) (past-octets (length m.octets) a);
        past-list = past-list (λ x. x.list) m.events m.text m'.events m'.text a
            p.events p.text;
        work = p.work;
      }
