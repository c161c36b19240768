-- Demand 1, of the writer: what holds of every reply.
use Prim.Native.Nat.{ℕ, zero, suc, ◌≤◌, ◌<◌, zero-le, suc-le-suc}
use native.Mathlib.Omega.{arith}
use mathlib.Core.Path.{◌≡◌, refl, ap, subst}
use mathlib.Core.Logic.{◌↔◌}
use mathlib.Core.Bool.{not}
use mathlib.Core.List.{List, [], ◌∷◌, ◌++◌}
use mathlib.Core.Option.{Option, none, some}
use lib.ListN.{length}
use lib.Dec.{T, leb, leb→le}
use borrow.Author.Tests.{leb-false, lt-leb}
use Rattle.spec_fields.specs.Bits.{Bits, unpack, pack}
use Rattle.spec_fields.specs.Refusal.{Refusal, number_of, is_zero_or, room, settings, long, character}
use Rattle.spec_fields.specs.Refusal.{name, limit, shape, place, Answer, refused, accepted}
use Rattle.spec_fields.proofs.Tests.{split, T-is, is_t}
use Rattle.spec_fields.proofs.Exact.{Every}
use Rattle.text.specs.Text.{Text, Span, part}
use Rattle.spec_exi.specs.Event.{Event, map_event, strings_of}
use Rattle.spec_exi.specs.Settings.{Settings, SettingNumbers, meaningful, settings_of}
use Rattle.spec_exi.specs.Settings.{header_of}
use Rattle.spec_exi.specs.Sizes.{Sizes, sizes, max_stream, max_events}
use Rattle.spec_exi.specs.Tables.{Tables}
use Rattle.spec_exi.specs.Grammar.{Code, code_of, is_finished}
use Rattle.spec_exi.specs.Context.{Context, start, levels_in, Item, items, after_item, next}
use Rattle.spec_exi.specs.Strict.{strict}
use Rattle.spec_exi.specs.Writer.{Stored, Test, first_failed, place_tests, string_tests}
use Rattle.spec_exi.specs.Writer.{content_tests, event_tests, fault_of, prepended, unless}
use Rattle.spec_exi.specs.Writer.{write_events, as_octets, write_list, WriterRoom, enough_to_write}
use Rattle.spec_exi.specs.Writer.{write, write_reply}
use Rattle.spec_exi.specs.Meaning.{TooLong}
use Rattle.spec_exi.proofs.Entries.{every_append}
use Rattle.spec_exi.proofs.Good.{fit-of-good, good-of-fit}
use Rattle.spec_exi.proofs.Writes.{write-sound, write-complete}
use Rattle.spec_exi.proofs.ReaderReplies.{contrary}

-- ---- the refusals of a list

-- What an event, or the list's end, can be refused by.
pub data OfList : Refusal → Type 0 where
  a_character : OfList character
  a_name : OfList name
  a_limit : OfList limit
  a_shape : OfList shape
  a_place : OfList place

abbrev Faults : List Test → Type 0
Faults = Every (λ t. OfList t.1)

first-fault : (ts : List Test) → Faults ts → (k : Refusal) → first_failed ts ≡ some k → OfList k
unfolding first_failed
first-fault [] f k e = let z : ◌≡◌ {A = ℕ} 0 1 = cc in absurd (omega arith)
first-fault (t ∷ ts) f k e =
    split t.0 (λ p. first-fault ts f.1 k (rw p at e))
    (λ p. let q : some t.1 ≡ some k = rw p at e in subst OfList (cc) f.0)

place-faults : (store : Text) (xs : List Span) → Faults (place_tests store xs)
unfolding place_tests
place-faults store [] = tt
place-faults store (x ∷ xs) = (a_place, place-faults store xs)

module _ (z : Sizes) where
  content-faults : (t : Tables) (is : List Item) → Faults (content_tests z t is)
  unfolding content_tests string_tests
  content-faults t [] = tt
  content-faults t (i ∷ is) =
      (a_limit, (a_limit, (a_character, (a_character, (a_name, (a_limit, content-faults (after_item t i) is))))))

  event-faults : (s : Settings) (c : Context) (store : Text) (e : Event Span) (x : Option Code)
      → Faults (event_tests z s c store e x)
  unfolding event_tests
  event-faults s c store e none = (a_shape, tt)
  event-faults s c store e (some x) =
      let is = items c.state x.production (map_event (part store) e) in
      let places = place_tests store (strings_of e) in
      let content = content_tests z c.tables is in
      every_append (λ t. OfList t.1) (places ++ content) _
      (every_append (λ t. OfList t.1) places content (place-faults store (strings_of e))
      (content-faults c.tables is))
      (a_shape, (a_limit, tt))

  fault-of-list : (s : Settings) (c : Context) (store : Text) (e : Event Span) (k : Refusal)
      → fault_of z s c store e ≡ some k → OfList k
  unfolding fault_of
  fault-of-list s c store e k =
      first-fault _ (event-faults s c store e (code_of (levels_in s c) (map_event (part store) e))) k

-- What is refused is of the list, at an index that is at most its length.
Refuses : ℕ → Answer Bits → Type 0
Refuses n a = elim a [ refused k i ↦ OfList k × (i ≤ n) | accepted bs ↦ Unit {0} ]

prepended-refuses : (n : ℕ) (w : Bits) (a : Answer Bits) → Refuses n a
    → Refuses (suc n) (prepended w a)
unfolding Refuses prepended
prepended-refuses n w (refused k i) h = (h.0, suc-le-suc h.1)
prepended-refuses n w (accepted bs) h = tt

unless-refuses : (n : ℕ) (o : Option Refusal) (a : Answer Bits)
    → ((k : Refusal) → o ≡ some k → OfList k) → Refuses n a → Refuses n (unless o a)
unfolding Refuses unless
unless-refuses n none a f h = h
unless-refuses n (some k) a f h = (f k refl, zero-le)

events-refuse : (n : ℕ) (z : Sizes) (s : Settings) (c : Context) (store : Text) (xs : List Stored)
    → Refuses (length xs) (write_events n z s c store xs)
unfolding write_events Refuses
events-refuse n z s c store [] = split (is_finished c.state) (λ e. rw e tt) (λ e. rw e (a_shape, zero-le))
events-refuse zero z s c store (x ∷ xs) = (a_limit, zero-le)
events-refuse (suc n) z s c store (none ∷ xs) = (a_shape, zero-le)
events-refuse (suc n) z s c store (some e ∷ xs) =
    unless-refuses (suc (length xs)) (fault_of z s c store e) _ (fault-of-list z s c store e)
    (prepended-refuses (length xs) _ _ (events-refuse n z s
    (next s c (map_event (part store) e)) store xs))

-- ---- the answer

-- What `write` can answer.
pub data Outcome (r : WriterRoom) (o : SettingNumbers) (xs : List Stored) (store : Text) : Answer
    (List ℕ) → Type 0 where
  no_room : T (not (enough_to_write sizes r)) → Outcome r o xs store (refused room 0)
  no_meaning : T (enough_to_write sizes r) → T (not (meaningful o))
      → Outcome r o xs store (refused settings 0)
  faulty : {k : Refusal} {i : ℕ} → T (enough_to_write sizes r) → T (meaningful o) → OfList k
      → i ≤ length xs
      → Outcome r o xs store (refused k i)
  too_long : T (enough_to_write sizes r) → T (meaningful o) → TooLong (settings_of o) xs store
      → Outcome r o xs store (refused long 0)
  whole : {os : List ℕ} → T (enough_to_write sizes r) → T (meaningful o) → length os ≤ max_stream
      → Outcome r o xs store (accepted os)

list-outcome : {r : WriterRoom} {o : SettingNumbers} (xs : List Stored) (store : Text)
    → T (enough_to_write sizes r) → T (meaningful o)
    → Outcome r o xs store (write_list sizes (settings_of o) xs store)
unfolding write_list as_octets Refuses strict
list-outcome {r} {o} xs store e m =
    let s = settings_of o in
    go s refl (write_events max_events sizes s (start s) store xs) refl
    (events-refuse max_events sizes s (start s) store xs)
  where
    go : (s : Settings) → s ≡ settings_of o → (a : Answer Bits)
        → write_events max_events sizes s (start s) store xs ≡ a
        → Refuses (length xs) a → Outcome r o xs store (as_octets sizes s a)
    go s i (refused k j) w h = faulty e m h.0 h.1
    go s i (accepted bs) w h =
        let (l, means, fit, few, same) = write-sound max_events s (start s) store xs bs w in
        let g = good-of-fit s l fit in
        let octets = pack (unpack (header_of s) ++ bs) in
        let is : octets ≡ strict s l = ap (λ b. pack (unpack (header_of s) ++ b)) same in
        split (leb (length octets) max_stream)
        (λ t. rw t (whole e m (leb→le _ _ (is_t _ t))))
        (λ t. rw t (too_long e m (subst (λ x. TooLong x xs store) i (record {
          list = l;
          meaning = means;
          formed = g.formed;
          inside = record { events = few; strings = g.strings; sizes = g.sizes };
          octets = subst (λ b. max_stream < length b) is (leb-false _ _ t);
        }))))

-- It answers one of these.
pub outcome : (r : WriterRoom) (o : SettingNumbers) (xs : List Stored) (store : Text)
    → Outcome r o xs store (write r o xs store)
unfolding write
outcome r o xs store =
    split (enough_to_write sizes r)
    (λ e. split (meaningful o) (λ m. rw (e, m) (list-outcome xs store (is_t _ e) (is_t _ m)))
    (λ m. rw (e, m) (no_meaning (is_t _ e) (rw m tt))))
    (λ e. rw e (no_room (rw e tt)))

-- A list all of whose events pass, and whose strict form is too long, is LONG.
too-long-refused : (r : WriterRoom) (o : SettingNumbers) (xs : List Stored) (store : Text)
    → T (enough_to_write sizes r) → T (meaningful o)
    → TooLong (settings_of o) xs store → write r o xs store ≡ refused long 0
unfolding write write_list as_octets strict
too-long-refused r o xs store e m h =
    let s = settings_of o in
    let fit = fit-of-good s h.list (record {
      formed = h.formed;
      strings = h.inside.strings;
      sizes = h.inside.sizes;
    }) in
    rw (
      T-is (enough_to_write sizes r) e,
      T-is (meaningful o) m,
      write-complete max_events s (start s) store xs h.list h.meaning fit h.inside.events,
      lt-leb (length (strict s h.list)) max_stream h.octets,
    )

of-list-least : {k : Refusal} → OfList k → number_of character ≤ number_of k
unfolding number_of
of-list-least a_character = omega arith
of-list-least a_name = omega arith
of-list-least a_limit = omega arith
of-list-least a_shape = omega arith
of-list-least a_place = omega arith

module _ {r : WriterRoom} {o : SettingNumbers} {xs : List Stored} {store : Text} where
  -- Only these numbers are the writer's.
  pub numbers : {a : Answer (List ℕ)} → Outcome r o xs store a
      → T (is_zero_or (room ∷ settings ∷ long ∷ character ∷ name ∷ limit ∷ shape ∷ place ∷ [])
      (write_reply a).number)
  unfolding write_reply number_of is_zero_or
  numbers (no_room e) = tt
  numbers (no_meaning e m) = tt
  numbers (faulty e m a_character i) = tt
  numbers (faulty e m a_name i) = tt
  numbers (faulty e m a_limit i) = tt
  numbers (faulty e m a_shape i) = tt
  numbers (faulty e m a_place i) = tt
  numbers (too_long e m h) = tt
  numbers (whole e m l) = tt

  -- ROOM and SETTINGS come first, in this order (scope, "Refusal numbers", "Order"): ROOM just where a
  -- lent part is too short.
  pub no_room_lem : {a : Answer (List ℕ)} → Outcome r o xs store a
      → ((write_reply a).number ≡ number_of room) ↔ T (not (enough_to_write sizes r))
  unfolding write_reply number_of
  no_room_lem (no_room e) = (λ q. e, λ f. refl)
  no_room_lem (no_meaning e m) = (λ q. absurd (omega arith), λ f. contrary (enough_to_write sizes r) e f)
  no_room_lem (faulty e m k i) = (λ q. absurd (omega (arith, of-list-least k)), λ f. contrary (enough_to_write sizes r) e f)
  no_room_lem (too_long e m h) = (λ q. absurd (omega arith), λ f. contrary (enough_to_write sizes r) e f)
  no_room_lem (whole e m l) = (λ q. absurd (omega arith), λ f. contrary (enough_to_write sizes r) e f)

  -- SETTINGS just where memory is enough, and a number has no meaning.
  pub no-meaning : {a : Answer (List ℕ)} → Outcome r o xs store a
      → ((write_reply a).number ≡ number_of settings)
      ↔ (T (enough_to_write sizes r) × T (not (meaningful o)))
  unfolding write_reply number_of
  no-meaning (no_room e) = (λ q. absurd (omega arith), λ f. contrary (enough_to_write sizes r) f.0 e)
  no-meaning (no_meaning e m) = (λ q. (e, m), λ f. refl)
  no-meaning (faulty e m k i) = (λ q. absurd (omega (arith, of-list-least k)), λ f. contrary (meaningful o) m f.1)
  no-meaning (too_long e m h) = (λ q. absurd (omega arith), λ f. contrary (meaningful o) m f.1)
  no-meaning (whole e m l) = (λ q. absurd (omega arith), λ f. contrary (meaningful o) m f.1)

  is-too-long : {a : Answer (List ℕ)} → Outcome r o xs store a
      → (write_reply a).number ≡ number_of long
      → T (enough_to_write sizes r) × T (meaningful o) × TooLong (settings_of o) xs store
  unfolding write_reply number_of
  is-too-long (no_room e) q = absurd (omega arith)
  is-too-long (no_meaning e m) q = absurd (omega arith)
  is-too-long (faulty e m k i) q = absurd (omega (arith, of-list-least k))
  is-too-long (too_long e m h) q = (e, m, h)
  is-too-long (whole e m l) q = absurd (omega arith)

  -- The index is that of a stored event, or the list's length.
  pub index : {a : Answer (List ℕ)} → Outcome r o xs store a → (write_reply a).index ≤ length xs
  unfolding write_reply
  index (no_room e) = zero-le
  index (no_meaning e m) = zero-le
  index (faulty e m k i) = i
  index (too_long e m h) = zero-le
  index (whole e m l) = zero-le

  -- It is 0 on success, and for ROOM, SETTINGS and LONG.
  pub no_index : {a : Answer (List ℕ)} → Outcome r o xs store a
      → (write_reply a).number ≤ number_of long → (write_reply a).index ≡ 0
  unfolding write_reply number_of
  no_index (no_room e) h = refl
  no_index (no_meaning e m) h = refl
  no_index (faulty e m k i) h = absurd (omega (arith, of-list-least k))
  no_index (too_long e m t) h = refl
  no_index (whole e m l) h = refl

  -- The count is within the size of a stream.
  pub bounded : {a : Answer (List ℕ)} → Outcome r o xs store a → (write_reply a).octets ≤ max_stream
  unfolding write_reply
  bounded (no_room e) = zero-le
  bounded (no_meaning e m) = zero-le
  bounded (faulty e m k i) = zero-le
  bounded (too_long e m h) = zero-le
  bounded (whole e m l) = l

-- LONG comes last: everything else passes.
pub too_long_lem : (r : WriterRoom) (o : SettingNumbers) (xs : List Stored) (store : Text)
    → ((write_reply (write r o xs store)).number ≡ number_of long)
    ↔ (T (enough_to_write sizes r) × T (meaningful o) × TooLong (settings_of o) xs store)
unfolding write_reply
too_long_lem r o xs store = (
  is-too-long (outcome r o xs store),
  λ h. ap (λ a. (write_reply a).number) (too-long-refused r o xs store h.0 h.1 h.2),
)

-- The count is that of the octets.
pub counts : (a : Answer (List ℕ)) (os : List ℕ) → a ≡ accepted os
    → (write_reply a).octets ≡ length os
unfolding write_reply
counts a os e = rw e

-- After a refusal it is 0.
pub no-counts : (a : Answer (List ℕ)) → 0 < (write_reply a).number → (write_reply a).octets ≡ 0
unfolding write_reply
no-counts (refused k i) h = refl
no-counts (accepted os) h = absurd (omega arith)
