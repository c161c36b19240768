-- The writer accepts just the stored lists that mean a fitting list (`ListFit`), and gives that
-- list's bits.
use Prim.Native.Nat.{◌-◌, ℕ, zero, suc, ◌≤◌, zero-le, suc-le-suc}
use native.Mathlib.Omega.{arith}
use mathlib.Core.Path.{◌≡◌, refl, ap}
use mathlib.Core.Logic.Iff
use mathlib.Core.Logic.{◌↔◌}
use mathlib.Core.Bool.{Bool, true, false, cond, ◌&&◌}
use mathlib.Core.List.{List, [], ◌∷◌, ◌++◌}
use mathlib.Core.Option.{Option, none, some, none-ne-some, some-ne-none}
use lib.ListN.{length}
use lib.Dec.{T, leb}
use Rattle.spec_fields.specs.Bits.{Bits}
use Rattle.spec_fields.specs.Refusal.{Refusal, Answer, refused, accepted}
use Rattle.spec_fields.proofs.Tests.{T-is, is_t, both, left, right, split}
use Rattle.text.specs.Text.{Text, Span, inside, part}
use Rattle.spec_exi.specs.Event.{Event, map_event, strings_of}
use Rattle.spec_exi.specs.Settings.{Settings}
use Rattle.spec_exi.specs.Sizes.{sizes, max_uris, max_names, max_values, max_store}
use Rattle.spec_exi.specs.Tables.{Tables, gone}
use Rattle.spec_exi.specs.Grammar.{State, document, doc_content, doc_end, finished, start_tag}
use Rattle.spec_exi.specs.Grammar.{fragment_content}
use Rattle.spec_exi.specs.Grammar.{element_content, Learned, Code, levels_with, levels, code_of}
use Rattle.spec_exi.specs.Grammar.{is_finished}
use Rattle.spec_exi.specs.Context.{Context, levels_in, Item, after_item, next}
use Rattle.spec_exi.specs.Strict.{event_bits, list_bits}
use Rattle.spec_exi.specs.Lists.{every, within_tables}
use Rattle.spec_exi.specs.Writer.{Stored, Test, first_failed, place_tests, string_tests}
use Rattle.spec_exi.specs.Writer.{content_tests, event_tests, fault_of, prepended, unless}
use Rattle.spec_exi.specs.Writer.{write_events}
use Rattle.spec_exi.specs.Meaning.{meant_one, together, meant}
use Rattle.spec_exi.proofs.Fit.{ItemFit, ItemsFit, EventFit, ListFit, done, also}

-- ---- tests in order

-- Every test holds.
abbrev Passed : List Test → Type 0
Passed [] = Unit {0}
Passed (x ∷ xs) = T x.0 × Passed xs

one-passed : (b : Bool) (k : Refusal) (o : Option Refusal) → (cond b o (some k) ≡ none) ↔ (T b × (o ≡ none))
one-passed true k o = ((λ e. (tt, e)), (λ h. h.1))
one-passed false k o = ((λ e. absurd (some-ne-none k e)), (λ h. absurd h.0))

none-failed : (xs : List Test) → (first_failed xs ≡ none) ↔ Passed xs
unfolding first_failed
none-failed [] = ((λ e. tt), (λ h. refl))
none-failed (x ∷ xs) = simp (one-passed, none-failed xs) Iff.rfl

both-passed : (xs ys : List Test) → Passed (xs ++ ys) ↔ (Passed xs × Passed ys)
both-passed [] ys = ((λ h. (tt, h)), (λ h. h.1))
both-passed (x ∷ xs) ys =
    let (apart, join) = both-passed xs ys in
    ((λ h. ((h.0, (apart h.1).0), (apart h.1).1)), (λ h. (h.0.0, join (h.0.1, h.1))))

-- ---- the tests of one event

T_and : (a b : Bool) → T (a && b) ↔ (T a × T b)
T_and a b = ((λ h. (left a b h, right a b h)), (λ h. both a b h.0 h.1))

place-passed : (store : Text) (xs : List Span) → Passed (place_tests store xs) ↔ T (every (inside store) xs)
unfolding place_tests every
place-passed store [] = Iff.rfl
place-passed store (x ∷ xs) = simp (T_and, place-passed store xs) Iff.rfl

-- Within the tables' sizes the store limit, which is tested by itself, is kept too.
store-room : (t : Tables) → T (within_tables sizes t) → T (leb (length t.store) max_store)
unfolding within_tables
store-room t =
    right
    (leb (length t.uris) max_uris && leb (length t.names) max_names
    && leb (length t.values.added - gone t.values) max_values)
    (leb (length t.store) max_store)

string-passed : (t : Tables) (i : Item) → Passed (string_tests sizes t i) ↔ ItemFit t i
unfolding string_tests
string-passed t i = (
  (λ (small, (stored, (chars, (clean, (named, (room, u)))))). record {
    chars = chars;
    small = small;
    clean = clean;
    named = named;
    room = room;
  }),
  (λ h. (h.small, (store-room (after_item t i) h.room, (h.chars, (h.clean, (h.named, (h.room, tt))))))),
)

content-passed : (t : Tables) (is : List Item) → Passed (content_tests sizes t is) ↔ ItemsFit t is
unfolding content_tests
content-passed t [] = Iff.rfl
content-passed t (i ∷ is) = simp (both-passed, string-passed, content-passed (after_item t i) is) Iff.rfl

module _ (s : Settings) (c : Context) (store : Text) (e : Event Span) where
  -- By the code that the event has here, if any.
  event-passed : (o : Option Code) → code_of (levels_in s c) (map_event (part store) e) ≡ o
      → Passed (event_tests sizes s c store e o) ↔ (T (every (inside store) (strings_of e))
      × EventFit s c (map_event (part store) e))
  unfolding event_tests
  event-passed none no_code =
      ((λ h. absurd h.0), (λ h. absurd (none-ne-some h.1.code (cc h.1.coded))))
  event-passed (some x) coded = simp (both-passed, place-passed, content-passed) (
    (λ h. (
      h.0.0,
      record {
        code = x;
        coded = coded;
        strings = h.0.1;
        tag = h.1.0;
        grammars = h.1.1.0;
      },
    )),
    (λ h.
        let same : h.1.code ≡ x = cc h.1.coded in
        ((h.0, rw same at h.1.strings), (h.1.tag, (h.1.grammars, tt)))),
  )

  no-fault : (fault_of sizes s c store e ≡ none)
      ↔ (T (every (inside store) (strings_of e)) × EventFit s c (map_event (part store) e))
  unfolding fault_of
  no-fault = simp none-failed (event-passed _ refl)

  -- An event without a fault has its strings inside the store, and may come next.
  pub fault-none-fit : fault_of sizes s c store e ≡ none
      → T (every (inside store) (strings_of e)) × EventFit s c (map_event (part store) e)
  fault-none-fit = no-fault.0

  -- Such an event has no fault.
  pub fit-no-fault : T (every (inside store) (strings_of e)) × EventFit s c (map_event (part store) e)
      → fault_of sizes s c store e ≡ none
  fit-no-fault = no-fault.1

-- ---- the end of a document

-- Only the last state is finished.
pub is-finished : (st : State) → T (is_finished st) → st ≡ finished
unfolding is_finished
is-finished document t = absurd t
is-finished doc_content t = absurd t
is-finished doc_end t = absurd t
is-finished fragment_content t = absurd t
is-finished finished t = refl
is-finished (start_tag q outer) t = absurd t
is-finished (element_content q outer) t = absurd t

-- It is.
pub finished-is : (st : State) → st ≡ finished → T (is_finished st)
unfolding is_finished
finished-is st e = rw e tt

-- There no event has a code.
pub finished-no-code : (s : Settings) (ls : List Learned) (e : Event Text) → code_of (levels s ls finished) e ≡ none
unfolding levels levels_with code_of
finished-no-code s ls e = refl

-- Nothing comes after the end.
pub finished-no-fit : (s : Settings) (c : Context) (e : Event Text) → c.state ≡ finished → EventFit s c e → ⊥
unfolding levels_in
finished-no-fit s c e end f = none-ne-some f.code (cc (finished-no-code s c.learned e, f.coded))

-- ---- the list

refused≢accepted : {k : Refusal} {i : ℕ} {bs : Bits} → refused k i ≡ accepted bs → ⊥
refused≢accepted e = let z : ◌≡◌ {A = ℕ} 0 1 = cc in omega arith

-- Bits are answered only where there is no fault, and they go on with the bits of what comes later.
going_on : (fault : Option Refusal) (w : Bits) (later : Answer Bits) (bs : Bits)
    → unless fault (prepended w later) ≡ accepted bs
    → (rest : Bits) × (fault ≡ none) × (later ≡ accepted rest) × (bs ≡ w ++ rest)
unfolding unless prepended
going_on none w (accepted rest) bs h = (rest, refl, refl, cc)
going_on none w (refused k i) bs h = absurd (refused≢accepted h)
going_on (some k) w later bs h = absurd (refused≢accepted h)

-- What is written means a list that may come next, in the bits of its strict form (demand 2, half
-- of it).
pub write-sound : (n : ℕ) (s : Settings) (c : Context) (store : Text) (xs : List Stored) (bs : Bits)
    → write_events n sizes s c store xs ≡ accepted bs
    → (l : List (Event Text)) × (meant store xs ≡ some l) × ListFit s c l × (length l ≤ n) × (bs ≡ list_bits s c l)
unfolding write_events meant meant_one together list_bits
write-sound n s c store [] bs h =
    split (is_finished c.state)
    (λ e. ([], refl, done (is-finished c.state (is_t (is_finished c.state) e)), zero-le, cc))
    (λ e. absurd (refused≢accepted (rw e at h)))
write-sound zero s c store (x ∷ xs) bs h = absurd (refused≢accepted h)
write-sound (suc n) s c store (none ∷ xs) bs h = absurd (refused≢accepted h)
write-sound (suc n) s c store (some e ∷ xs) bs h =
    let e' = map_event (part store) e in
    let (rest, clean, more, joined) = going_on (fault_of sizes s c store e) (event_bits s c e')
    (write_events n sizes s (next s c e') store xs) bs h in
    let (placed, fit) = fault-none-fit s c store e clean in
    let (l, means, fits, small, same) = write-sound n s (next s c e') store xs rest more in
    (e' ∷ l, rw (T-is (every (inside store) (strings_of e)) placed, means), also e' fit fits, suc-le-suc small, cc)

-- A stored event followed by others means something only where its strings lie inside (b) and the
-- others mean something.
meant-on : (b : Bool) (e : Event Text) (later : Option (List (Event Text))) (l : List (Event Text))
    → together (cond b (some e) none) later ≡ some l
    → (rest : List (Event Text)) × T b × (later ≡ some rest) × (l ≡ e ∷ rest)
unfolding together
meant-on true e (some rest) l h = (rest, tt, refl, cc)
meant-on true e none l h = absurd (none-ne-some l h)
meant-on false e later l h = absurd (none-ne-some l h)

fit-end : {s : Settings} {c : Context} → ListFit s c [] → c.state ≡ finished
fit-end (done e) = e

fit_on : {s : Settings} {c : Context} {e : Event Text} {l : List (Event Text)} → ListFit s c (e ∷ l)
    → EventFit s c e × ListFit s (next s c e) l
fit_on (also e fit fits) = (fit, fits)

-- Stored events that mean such a list are written (the other half).
pub write-complete : (n : ℕ) (s : Settings) (c : Context) (store : Text) (xs : List Stored) (l : List (Event Text))
    → meant store xs ≡ some l → ListFit s c l → length l ≤ n
    → write_events n sizes s c store xs ≡ accepted (list_bits s c l)
unfolding write_events unless prepended meant meant_one together list_bits
write-complete n s c store [] l m f h =
    let empty : l ≡ [] = cc in
    rw (empty, T-is (is_finished c.state) (finished-is c.state (fit-end (rw empty at f))))
write-complete n s c store (none ∷ xs) l m f h = cc
write-complete zero s c store (some e ∷ xs) l m f h =
    let (rest, placed, means, same) = meant-on (every (inside store) (strings_of e)) (map_event (part store) e)
    (meant store xs) l m in
    absurd (omega (arith, ap length same))
write-complete (suc n) s c store (some e ∷ xs) l m f h =
    let e' = map_event (part store) e in
    let (rest, placed, means, same) = meant-on (every (inside store) (strings_of e)) e' (meant store xs) l m in
    let (fit, fits) = fit_on (rw same at f) in
    let more = write-complete n s (next s c e') store xs rest means fits (omega (arith, ap length same)) in
    rw (same, fit-no-fault s c store e (placed, fit), more)
