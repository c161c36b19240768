-- Demand 1, of the reader: what holds of every reply.
use Prim.Native.Nat.{ℕ, zero, suc, ◌≤◌, ◌<◌, zero-le, suc-le-suc}
use native.Mathlib.Omega.{arith}
use mathlib.Core.Path.{◌≡◌, refl, sym, ap, subst}
use mathlib.Core.Logic.{◌↔◌}
use mathlib.Core.Bool.{Bool, true, false, cond, ◌&&◌, not}
use mathlib.Core.List.{List, [], ◌∷◌}
use mathlib.Core.Option.{Option, none, some}
use lib.ListN.{length}
use lib.Dec.{T, leb, leb→le}
use borrow.Author.Tests.{leb-false}
use Rattle.spec_fields.specs.Bits.{Bits, unpack, is_padding}
use Rattle.spec_fields.specs.Refusal.{Refusal, number_of, room, settings, long, header, ended, code}
use Rattle.spec_fields.specs.Refusal.{number, character, reference, loose, name, limit, tail, shape}
use Rattle.spec_fields.specs.Refusal.{Answer, refused, accepted}
use Rattle.spec_fields.specs.Parser.{Result, bad, got, Parser}
use Rattle.spec_fields.specs.Field.{Alignment}
use Rattle.spec_fields.proofs.Tests.{split, is_t, left, right}
use Rattle.spec_fields.proofs.Says.{Says, says-return, says-fail, says-present, says_then}
use Rattle.spec_fields.proofs.Says.{says-guard, says-times, says-octet, says-choice, says-unsigned}
use Rattle.spec_exi.specs.Event.{QName, Event, Kind, SD, ED, SE, AT, EE, CH, CM, PI}
use Rattle.spec_exi.specs.Settings.{Settings, SettingNumbers, meaningful, settings_of}
use Rattle.spec_exi.specs.Settings.{header_of}
use Rattle.spec_exi.specs.Sizes.{Sizes, sizes, max_stream, max_events, max_store}
use Rattle.spec_exi.specs.Tables.{Placed, Slot, Tables, Role, Partitions, compact, literals}
use Rattle.spec_exi.specs.Tables.{partitions_of}
use Rattle.spec_exi.specs.Grammar.{Production, Code, State, choices, is_finished}
use Rattle.spec_exi.specs.Context.{Context, start, after, next}
use Rattle.spec_exi.specs.Lists.{within_tables}
use Rattle.spec_exi.specs.Reader.{read_character, read_literal, read_hit, read_in, read_by_literals}
use Rattle.spec_exi.specs.Reader.{read_entry, read_form, read_string, readName, readContent}
use Rattle.spec_exi.specs.Reader.{read_part, read_code, step, Reading, following, ending}
use Rattle.spec_exi.specs.Reader.{onward, read_events, read_header, read_body, read_stream}
use Rattle.spec_exi.specs.Reader.{ReaderRoom, enough_to_read, read_sized, read, read_reply}
use Rattle.spec_exi.proofs.Content.{NameRead, carried_name, written_name, ContentRead, an_sd}
use Rattle.spec_exi.proofs.Content.{an_ed, an_ee, an_se, an_at, a_ch, a_cm, a_pi}
use Rattle.spec_exi.proofs.Entries.{store-within}
use Rattle.spec_exi.proofs.Step.{StepRead, sane-start}
use Rattle.spec_exi.proofs.Body.{Run, ends, goes, read-runs, not-accepted, refused-same}

-- ---- the refusals of events: ENDED to SHAPE

unfoldable between : Refusal → Refusal → Refusal → Bool
between a b k = leb (number_of a) (number_of k) && leb (number_of k) (number_of b)

bounds : (a b k : Refusal) → T (between a b k)
    → (number_of a ≤ number_of k) × (number_of k ≤ number_of b)
unfolding between
bounds a b k t =
    let least = leb (number_of a) (number_of k) in
    let most = leb (number_of k) (number_of b) in (
      leb→le (number_of a) (number_of k) (left least most t),
      leb→le (number_of k) (number_of b)
          (right least most t),
    )

unfoldable of_events : Refusal → Bool
of_events = between ended shape

module _ (z : Sizes) (s : Settings) where
  says-character : Says of_events (read_character s)
  unfolding read_character of_events between number_of
  says-character = says_then _ (says-unsigned _ tt tt) (λ p. says-guard _ _ character tt (says-return _ p))

  says-literal : (t : Tables) (n : ℕ) → Says of_events (read_literal z s t n)
  unfolding read_literal of_events between number_of
  says-literal t n =
      says-guard _ _ limit tt
      (says-guard _ _ limit tt (says_then _ (says-times _ n says-character) (λ x. says-return _ _)))

  says-in : (t : Tables) (k v : ℕ) (o : Option (List Slot)) → Says of_events (read_in z s t k v o)
  unfolding read_in read_hit of_events between number_of
  says-in t k v none = says-literal t _
  says-in t k v (some es) =
      says_then _ (says-choice _ tt s.alignment reference es tt)
      (λ x. says_then _ (says-present _ reference x.1 tt) (λ e. says-return _ _))

  says-by-literals : (t : Tables) (ess : List (List Slot))
      → Says of_events (read_by_literals z s t ess)
  unfolding read_by_literals of_events between number_of
  says-by-literals t ess = says_then _ (says-unsigned _ tt tt) (λ v. says-in t _ v _)

  says-entry : (t : Tables) (v : ℕ) (o : Option Slot) → Says of_events (read_entry z s t v o)
  unfolding read_entry of_events between number_of
  says-entry t v none = says-by-literals t []
  says-entry t v (some slot) = says_then _ (says-present _ reference slot tt) (λ e. says-return _ _)

  says-form : (t : Tables) (p : Partitions) → Says of_events (read_form z s t p)
  unfolding read_form of_events between number_of
  says-form t (compact es) =
      says_then _ (says-choice _ tt s.alignment reference _ tt) (λ x. says-entry t x.0 x.1)
  says-form t (literals ess) = says-by-literals t ess

  says-string : (t : Tables) (r : Role) → Says of_events (read_string z s t r)
  unfolding read_string of_events between number_of
  says-string t r =
      says_then _ (says-form t (partitions_of t r))
      (λ x. says-guard _ _ character tt (says-guard _ _ loose tt (says-guard _ _ name tt
      (says-guard _ _ limit tt (says-return _ _)))))

  says-name : (t : Tables) (attr : Bool) (n : Option (QName Placed))
      → Says of_events (readName z s t attr n)
  unfolding readName
  says-name t attr none = says_then _ (says-string t _) (λ u. says_then _ (says-string _ _) (λ n. says-return _ _))
  says-name t attr (some q) = says-return _ _

  says-content : (t : Tables) (st : State) (k : Kind) (n : Option (QName Placed))
      → Says of_events (readContent z s t st k n)
  unfolding readContent
  says-content t st SD n = says-return _ _
  says-content t st ED n = says-return _ _
  says-content t st EE n = says-return _ _
  says-content t st SE n = says_then _ (says-name t _ n) (λ q. says-return _ _)
  says-content t st AT n = says_then _ (says-name t _ n) (λ q. says_then _ (says-string _ _) (λ v. says-return _ _))
  says-content t st CH n = says_then _ (says-string t _) (λ v. says-return _ _)
  says-content t st CM n = says_then _ (says-string t _) (λ v. says-return _ _)
  says-content t st PI n = says_then _ (says-string t _) (λ x. says_then _ (says-string _ _) (λ y. says-return _ _))

says-part : (v : ℕ) (o : Option Production) {p : Parser Code} → Says of_events p
    → Says of_events (read_part v o p)
unfolding read_part
says-part v (some x) h = says-return _ _
says-part v none h = says_then _ h (λ x. says-return _ _)

says-code : (a : Alignment) (ls : List (List Production)) → Says of_events (read_code a ls)
unfolding read_code of_events between number_of
says-code a [] = says-fail _ code tt
says-code a (l ∷ ls) = says_then _ (says-choice _ tt a code (choices l ls) tt) (λ v. says-part _ _ (says-code a ls))

says-step : (z : Sizes) (s : Settings) (c : Context) → Says of_events (step z s c)
unfolding step of_events between number_of
says-step z s c =
    says_then _ (says-code _ _) (λ x. says_then _ (says-content z s _ _ _ _)
    (λ e. says-guard _ _ shape tt
    (says-guard _ _ loose tt (says-guard _ _ limit tt (says-return _ _)))))

-- ---- the events

-- A refusal among n more events.
record Among (n : ℕ) (k : Refusal) (i : ℕ) : Type 0 where
  by : T (of_events k)
  index : i ≤ n

among : {n i j : ℕ} {k l : Refusal} → T (of_events k) → i ≤ n → (k ≡ l) × (i ≡ j) → Among n l j
among t h (e, q) = record { by = subst (λ x. T (of_events x)) e t; index = omega arith }

-- What stands after an event is refused where the whole is, one event earlier.
behind : (e : Event Placed) (a : Answer Reading) {n : ℕ} {k : Refusal} {i : ℕ}
    → ((j : ℕ) → a ≡ refused k j → Among n k j)
    → following e a ≡ refused k i → Among (suc n) k i
unfolding following
behind v (refused j m) h e =
    let (same, next) = refused-same e in
    let b = h m (ap (λ x. refused x m) same) in
    record { by = b.by; index = omega (arith, b.index) }
behind v (accepted r) h e = not-accepted (sym e)

module _ (z : Sizes) (s : Settings) where
  events-refuse : (n : ℕ) (c : Context) (bs : Bits) (k : Refusal) (i : ℕ)
      → read_events n z s c bs ≡ refused k i → Among n k i
  unfolding read_events onward ending of_events between number_of
  events-refuse zero c bs k i e = among {k = limit} tt zero-le (refused-same e)
  events-refuse (suc n) c bs k i e = go (λ d b j. events-refuse n d b k j) (step z s c bs) refl e
    where
      go : ((d : Context) (b : Bits) (j : ℕ) → read_events n z s d b ≡ refused k j → Among n k j)
          → (x : Result (Event Placed × Context)) → step z s c bs ≡ x
          → onward s (λ d b. read_events n z s d b) x ≡ refused k i
          → Among (suc n) k i
      go rec (bad j) q e = among ((says-step z s c).refuses bs j q) zero-le (refused-same e)
      go rec (got (v, d) rest) q e =
          behind v _ (λ j h. split (is_finished d.state) (ended_by j h) (λ f. rec d rest j (rw f at h))) e
        where
          ended_by : (j : ℕ)
              → cond (is_finished d.state) (ending s d rest) (read_events n z s d rest)
              ≡ refused k j
              → is_finished d.state ≡ true → Among n k j
          ended_by j h f =
              split (is_padding rest) (λ p. not-accepted (sym (rw (f, p) at h)))
              (λ p. among {k = tail} tt zero-le (refused-same (rw (f, p) at h)))

  -- ---- an accepted list and its store are within the sizes

  run-few : {n : ℕ} {c : Context} {bs : Bits} {r : Reading} → Run z s n c bs r
      → length r.events ≤ n
  run-few (ends f p) = zero-le
  run-few (goes y w h k) = suc-le-suc (run-few k)

  name-room : {t : Tables} {attr : Bool} {a : QName Placed
      × Tables} {w : Bits} {n : Option (QName Placed)}
      → NameRead z s t attr a w n → T (within_tables z t) → T (within_tables z a.1)
  name-room (carried_name q i e) p = rw i p
  name-room (written_name x y u v h l i e) p = rw i l.room

  content-room : {t : Tables} {st : State} {n : Option (QName Placed)} {c : Event Placed
      × Tables} {w : Bits} {k : Kind}
      → ContentRead z s t st n c w k → T (within_tables z t) → T (within_tables z c.1)
  content-room (an_sd i j) p = rw i p
  content-room (an_ed i j) p = rw i p
  content-room (an_ee i j) p = rw i p
  content-room (an_se a h i) p = rw i (name-room h p)
  content-room (an_at a x u v h l i j) p = rw i l.room
  content-room (a_ch x h i) p = rw i h.room
  content-room (a_cm x h i) p = rw i h.room
  content-room (a_pi x y u v h l i j) p = rw i l.room

  step_room : {c : Context} {y : Event Placed × Context} {w : Bits} → StepRead z s c y w
      → T (within_tables z c.tables)
      → T (within_tables z y.1.tables)
  unfolding after
  step_room h p = rw h.leaves (content-room h.read p)

  run_store : {n : ℕ} {c : Context} {bs : Bits} {r : Reading} → T (within_tables z c.tables)
      → Run z s n c bs r
      → length r.store ≤ z.store
  run_store {n} {c} p (ends f q) = store-within z c.tables p
  run_store p (goes y w h k) = run_store (step_room h p) k

-- ---- the whole stream

says-header : (hs : List ℕ) → Says (between header ended) (read_header hs)
unfolding read_header between number_of
says-header [] = says-return _ _
says-header (h ∷ hs) = says_then _ (says-octet _ tt) (λ o. says-guard _ _ header tt (says-header hs))

-- What the octets can lead to.
pub data Inside : Answer Reading → Type 0 where
  stopped : {k : Refusal} {i : ℕ} → number_of header ≤ number_of k → number_of k ≤ number_of shape
      → i ≤ max_events
      → (number_of k ≤ number_of header → i ≡ 0) → Inside (refused k i)
  whole : {x : Reading} → length x.events ≤ max_events → length x.store ≤ max_store
      → Inside (accepted x)

module _ (s : Settings) where
  events-inside : (bs : Bits) (a : Answer Reading) → read_events max_events sizes s (start s) bs ≡ a
      → Inside a
  unfolding of_events number_of
  events-inside bs (refused k i) e =
      let h = events-refuse sizes s max_events (start s) bs k i e in
      let (least, most) = bounds ended shape k h.by in
      stopped {k = k} (omega arith) most h.index (λ l. absurd (omega arith))
  events-inside bs (accepted x) e =
      let h = read-runs sizes s max_events (start s) bs x e in
      whole (run-few sizes s h) (run_store sizes s (sane-start s).room h)

  stream-inside : (stream : List ℕ) → Inside (read_stream sizes s stream)
  unfolding read_stream read_body number_of
  stream-inside stream = go (read_header (header_of s) (unpack stream)) refl
    where
      go : (x : Result (Unit {0})) → read_header (header_of s) (unpack stream) ≡ x
          → Inside (read_body sizes s x)
      go (bad k) e =
          let (least, most) = bounds header ended k ((says-header (header_of s)).refuses (unpack stream) k e) in
          stopped {k = k} least (omega arith) zero-le (λ l. refl)
      go (got u bs) e = events-inside bs _ refl

-- ---- the answer

-- What `read` can answer.
pub data Outcome (r : ReaderRoom) (o : SettingNumbers) (stream : List ℕ) : Answer Reading
    → Type 0 where
  no_room : T (not (enough_to_read sizes r)) → Outcome r o stream (refused room 0)
  no_meaning : T (enough_to_read sizes r) → T (not (meaningful o))
      → Outcome r o stream (refused settings 0)
  too_long : T (enough_to_read sizes r) → T (meaningful o) → max_stream < length stream
      → Outcome r o stream (refused long 0)
  inside : {a : Answer Reading} → T (enough_to_read sizes r) → T (meaningful o)
      → length stream ≤ max_stream → Inside a
      → Outcome r o stream a

-- It answers one of these.
pub outcome : (r : ReaderRoom) (o : SettingNumbers) (stream : List ℕ)
    → Outcome r o stream (read r o stream)
unfolding read read_sized
outcome r o stream =
    split (enough_to_read sizes r)
    (λ e. split (meaningful o)
    (λ m. split (leb (length stream) max_stream)
    (λ l. rw (e, m, l) (inside (is_t _ e) (is_t _ m) (leb→le _ _ (is_t _ l)) (stream-inside (settings_of o) stream)))
    (λ l. rw (e, m, l) (too_long (is_t _ e) (is_t _ m) (leb-false _ _ l))))
    (λ m. rw (e, m) (no_meaning (is_t _ e) (rw m tt))))
    (λ e. rw e (no_room (rw e tt)))

-- A test does not pass and fail.
pub contrary : {X : Type 0} (b : Bool) → T b → T (not b) → X
contrary true t f = absurd f
contrary false t f = absurd t

module _ {r : ReaderRoom} {o : SettingNumbers} {stream : List ℕ} where
  -- PLACE is not among the reader's numbers.
  pub numbers : {a : Answer Reading} → Outcome r o stream a → (read_reply a).number ≤ number_of shape
  unfolding read_reply number_of
  numbers (no_room e) = omega arith
  numbers (no_meaning e m) = omega arith
  numbers (too_long e m l) = omega arith
  numbers (inside e m l (stopped least most i z)) = most
  numbers (inside e m l (whole n c)) = zero-le

  -- ROOM, SETTINGS and LONG come first, in this order (scope, "Refusal numbers", "Order"): ROOM just
  -- where a lent part is too short.
  pub no_room_lem : {a : Answer Reading} → Outcome r o stream a
      → ((read_reply a).number ≡ number_of room) ↔ T (not (enough_to_read sizes r))
  unfolding read_reply number_of
  no_room_lem (no_room e) = (λ q. e, λ f. refl)
  no_room_lem (no_meaning e m) = (λ q. absurd (omega arith), λ f. contrary (enough_to_read sizes r) e f)
  no_room_lem (too_long e m l) = (λ q. absurd (omega arith), λ f. contrary (enough_to_read sizes r) e f)
  no_room_lem (inside e m l (stopped least most i z)) =
      (λ q. absurd (omega (arith, least)), λ f. contrary (enough_to_read sizes r) e f)
  no_room_lem (inside e m l (whole n c)) = (λ q. absurd (omega arith), λ f. contrary (enough_to_read sizes r) e f)

  -- SETTINGS just where memory is enough, and a number has no meaning.
  pub no-meaning : {a : Answer Reading} → Outcome r o stream a
      → ((read_reply a).number ≡ number_of settings)
      ↔ (T (enough_to_read sizes r) × T (not (meaningful o)))
  unfolding read_reply number_of
  no-meaning (no_room e) = (λ q. absurd (omega arith), λ f. contrary (enough_to_read sizes r) f.0 e)
  no-meaning (no_meaning e m) = (λ q. (e, m), λ f. refl)
  no-meaning (too_long e m l) = (λ q. absurd (omega arith), λ f. contrary (meaningful o) m f.1)
  no-meaning (inside e m l (stopped least most i z)) =
      (λ q. absurd (omega (arith, least)), λ f. contrary (meaningful o) m f.1)
  no-meaning (inside e m l (whole n c)) = (λ q. absurd (omega arith), λ f. contrary (meaningful o) m f.1)

  -- LONG just where both are right, and the stream is too long.
  pub too_long_lem : {a : Answer Reading} → Outcome r o stream a
      → ((read_reply a).number ≡ number_of long)
      ↔ (T (enough_to_read sizes r) × T (meaningful o) × (max_stream < length stream))
  unfolding read_reply number_of
  too_long_lem (no_room e) = (λ q. absurd (omega arith), λ f. contrary (enough_to_read sizes r) f.0 e)
  too_long_lem (no_meaning e m) = (λ q. absurd (omega arith), λ f. contrary (meaningful o) f.1 m)
  too_long_lem (too_long e m l) = (λ q. (e, m, l), λ f. refl)
  too_long_lem (inside e m l (stopped least most i z)) =
      (λ q. absurd (omega (arith, least)), λ f. absurd (omega (arith, f.2)))
  too_long_lem (inside e m l (whole n c)) = (λ q. absurd (omega arith), λ f. absurd (omega (arith, f.2)))

  -- The index is 0 on success and up to HEADER.
  pub no_index : {a : Answer Reading} → Outcome r o stream a → (read_reply a).number ≤ number_of header
      → (read_reply a).index ≡ 0
  unfolding read_reply
  no_index (no_room e) h = refl
  no_index (no_meaning e m) h = refl
  no_index (too_long e m l) h = refl
  no_index (inside e m l (stopped least most i z)) h = z h
  no_index (inside e m l (whole n c)) h = refl

  -- Index and counts are within the sizes.
  pub bounded : {a : Answer Reading} → Outcome r o stream a
      → ((read_reply a).index ≤ max_events) × ((read_reply a).events ≤ max_events)
      × ((read_reply a).code_points ≤ max_store)
  unfolding read_reply
  bounded (no_room e) = (zero-le, zero-le, zero-le)
  bounded (no_meaning e m) = (zero-le, zero-le, zero-le)
  bounded (too_long e m l) = (zero-le, zero-le, zero-le)
  bounded (inside e m l (stopped least most i z)) = (i, zero-le, zero-le)
  bounded (inside e m l (whole n c)) = (zero-le, n, c)

-- The counts are those of the reading.
pub counts : (a : Answer Reading) (x : Reading) → a ≡ accepted x
    → ((read_reply a).events ≡ length x.events) × ((read_reply a).code_points ≡ length x.store)
unfolding read_reply
counts a x e = rw e (refl, refl)

-- After a refusal they are 0.
pub no-counts : (a : Answer Reading) → 0 < (read_reply a).number
    → ((read_reply a).events ≡ 0) × ((read_reply a).code_points ≡ 0)
unfolding read_reply
no-counts (refused k i) h = (refl, refl)
no-counts (accepted x) h = absurd (omega arith)
