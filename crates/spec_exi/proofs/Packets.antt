-- A stream in pieces: a refusal stays whatever follows, and what goes on begins with what was
-- complete before.
use Prim.Native.Nat.{ℕ, zero, suc, ◌≤◌, ◌<◌}
use native.Mathlib.Omega.{arith}
use mathlib.Core.Path.{◌≡◌, refl, sym, ◌∙◌, ap, subst}
use mathlib.Core.Logic.{◌↔◌}
use mathlib.Core.Bool.{Bool, true, false, cond, ◌&&◌, not}
use mathlib.Core.List.{List, [], ◌∷◌, ◌++◌, map, append_assoc, append-nil}
use mathlib.Core.Option.{some}
use lib.ListN.{length, length-append}
use lib.Dec.{T, leb, eqb, le→leb, leb→le}
use borrow.Author.Tests.{lt-leb, leb-false}
use Rattle.spec_fields.specs.Bits.{Bits, unpack, all_zero, is_padding}
use Rattle.spec_fields.specs.Refusal.{Refusal, number_of, room, settings, long, header, ended, code}
use Rattle.spec_fields.specs.Refusal.{number, character, reference, loose, name, limit, tail, shape}
use Rattle.spec_fields.specs.Refusal.{place, Answer, refused, accepted}
use Rattle.spec_fields.specs.Parser.{Result, bad, got, fail, and_then, ◌>>=◌}
use Rattle.spec_fields.proofs.Tests.{split, T-is, is_t}
use Rattle.spec_fields.proofs.Pack.{unpack-append}
use Rattle.text.specs.Text.{Text}
use Rattle.spec_exi.specs.Event.{Event, strings_of}
use Rattle.spec_exi.specs.Settings.{Settings, SettingNumbers, meaningful, settings_of}
use Rattle.spec_exi.specs.Settings.{header_of}
use Rattle.spec_exi.specs.Sizes.{Sizes, sizes, max_stream, max_events}
use Rattle.spec_exi.specs.Tables.{Placed, event_text, added}
use Rattle.spec_exi.specs.Grammar.{levels_with, levels, is_finished}
use Rattle.spec_exi.specs.Context.{Context, start, levels_in, after, context_after}
use Rattle.spec_exi.specs.Reader.{Reading, read_code, step, following, ending, onward}
use Rattle.spec_exi.specs.Reader.{read_events, read_header, read_body, read_stream, ReaderRoom}
use Rattle.spec_exi.specs.Reader.{enough_to_read, read_sized, read, read_reply}
use Rattle.spec_exi.specs.Packets.{nothing_yet, with_first, firstThen, first_events, after_header}
use Rattle.spec_exi.specs.Packets.{complete, so_far, receive, Begins}
use Rattle.spec_exi.specs.Meaning.{stored_of, meant}
use Rattle.spec_exi.proofs.Step.{StepRead, step-reads, Sane, sane-next, sane-start}
use Rattle.spec_exi.proofs.Step.{step-next, step-fit}
use Rattle.spec_exi.proofs.Body.{not-accepted, accepted-same, refused-same}
use Rattle.spec_exi.proofs.Places.{Stable, content-stays, every_map, Settled, settled-start}
use Rattle.spec_exi.proofs.Places.{step-settles, Keeps, meant-all}
use Rattle.spec_exi.proofs.Steady.{steady-step, steady-header}
use Rattle.spec_exi.proofs.Writes.{is-finished}
use Rattle.spec_exi.proofs.Demands.{texts, store}

-- ---- padding

-- Where bits are left that are no padding, more bits are none either.
zeros-stay : (bs more : Bits) → all_zero bs ≡ false → all_zero (bs ++ more) ≡ false
unfolding all_zero
zeros-stay [] more e = let z : ◌≡◌ {A = ℕ} 0 1 = ap (λ b. cond b 0 1) e in absurd (omega arith)
zeros-stay (true ∷ bs) more e = refl
zeros-stay (false ∷ bs) more e = zeros-stay bs more e

and-false : (b : Bool) → (b && false) ≡ false
and-false true = refl
and-false false = refl

padding-stays : (bs more : Bits) → is_padding bs ≡ false → is_padding (bs ++ more) ≡ false
unfolding is_padding
padding-stays bs more e =
    split (leb (length bs) 7) (λ l. rw (zeros-stay bs more (rw l at e)) (and-false (leb (length (bs ++ more)) 7)))
    (λ l. rw (lt-leb (length (bs ++ more)) 7 (omega (arith, leb-false (length bs) 7 l, length-append bs more))))

-- ---- answers

abbrev is_ended : Refusal → Bool
is_ended k = eqb (number_of k) (number_of ended)

ended_is : (k : Refusal) → T (is_ended k) → k ≡ ended
unfolding number_of
ended_is = elim [
  | room ↦ λ t. absurd t
  | settings ↦ λ t. absurd t
  | long ↦ λ t. absurd t
  | header ↦ λ t. absurd t
  | ended ↦ λ t. refl
  | code ↦ λ t. absurd t
  | number ↦ λ t. absurd t
  | character ↦ λ t. absurd t
  | reference ↦ λ t. absurd t
  | loose ↦ λ t. absurd t
  | name ↦ λ t. absurd t
  | limit ↦ λ t. absurd t
  | tail ↦ λ t. absurd t
  | shape ↦ λ t. absurd t
  | place ↦ λ t. absurd t
]

is-ended : (k : Refusal) → k ≡ ended → is_ended k ≡ true
unfolding number_of
is-ended k e = rw e

not-ended : (k : Refusal) → is_ended k ≡ false → k ≡ ended → ⊥
not-ended k f e = let z : ◌≡◌ {A = ℕ} 1 0 = ap (λ b. cond b 1 0) (sym (is-ended k e) ∙ f) in omega arith

-- What stands after an event is refused, or accepted, where the whole is.
follow-refused : (e : Event Placed) (a : Answer Reading) (k : Refusal) (i : ℕ)
    → following e a ≡ refused k i
    → (j : ℕ) × (a ≡ refused k j) × (i ≡ suc j)
unfolding following
follow-refused e (refused j m) k i h =
    let (same, index) = refused-same h in (m, ap (λ x. refused x m) same, sym index)
follow-refused e (accepted r) k i h = not-accepted (sym h)

follow-accepted : (e : Event Placed) (a : Answer Reading) (x : Reading) → following e a ≡ accepted x
    → (r : Reading) × (a ≡ accepted r) × (x ≡ with_first e r)
unfolding following with_first
follow-accepted e (refused k i) x h = not-accepted h
follow-accepted e (accepted r) x h = (r, refl, sym (accepted-same h))

ending-refused : (s : Settings) (c : Context) (bs more : Bits) (k : Refusal) (i : ℕ)
    → ending s c bs ≡ refused k i
    → ending s c (bs ++ more) ≡ refused k i
unfolding ending
ending-refused s c bs more k i h =
    split (is_padding bs) (λ p. not-accepted (sym (rw p at h))) (λ p. rw (padding-stays bs more p) (rw p at h))

ending-accepted : (s : Settings) (c : Context) (bs : Bits) (x : Reading)
    → ending s c bs ≡ accepted x → x ≡ nothing_yet c
unfolding ending nothing_yet
ending-accepted s c bs x h = split (is_padding bs) (λ p. sym (accepted-same (rw p at h))) (λ p. not-accepted (rw p at h))

-- ---- text stores grow

abbrev Extends : Text → Text → Type 0
Extends x y = (more : Text) × (y ≡ x ++ more)

extends-on : (x y z : Text) → Extends x y → Extends y z → Extends x z
extends-on x y z (a, e) (b, f) = (a ++ b, f ∙ ap (λ u. u ++ b) e ∙ append_assoc x a b)

extends-stays : (x : Text) → Stable (λ t. Extends x t.store)
unfolding added
extends-stays x t r y (a, e) = (a ++ y, ap (λ u. u ++ y) e ∙ append_assoc x a y)

step-extends : {z : Sizes} {s : Settings} {c : Context} {y : Event Placed × Context} {w : Bits}
    → StepRead z s c y w
    → Extends c.tables.store y.1.tables.store
unfolding after
step-extends {z} {s} {c} h =
    rw h.leaves (content-stays (λ t. Extends c.tables.store t.store) (extends-stays c.tables.store)
    h.read
    ([], sym (append-nil c.tables.store)))

begins-same : (x : Reading) → Begins x x
begins-same x =
    record { events = []; literals = []; more = sym (append-nil x.events); store = sym (append-nil x.store) }

begins-with : (e : Event Placed) (x y : Reading) → Begins x y
    → Begins (with_first e x) (with_first e y)
unfolding with_first
begins-with e x y b =
    record { events = b.events; literals = b.literals; more = ap (λ l. e ∷ l) b.more; store = b.store }

-- ---- the last event

-- After the last event no code is read.
no_code : (s : Settings) (c : Context) (bs : Bits) → is_finished c.state ≡ true
    → read_code s.alignment (levels_in s c) bs ≡ bad code
unfolding levels_in levels levels_with read_code fail
no_code s c bs f =
    subst (λ st. read_code s.alignment (levels s c.learned st) bs ≡ bad code)
    (sym (is-finished c.state (is_t _ f))) refl

no_step : (s : Settings) (c : Context) (bs : Bits) → is_finished c.state ≡ true
    → step sizes s c bs ≡ bad code
unfolding step ◌>>=◌ and_then
no_step s c bs f = rw (no_code s c bs f)

-- ---- the events, however the bits go on

module _ (s : Settings) where
  -- What at most n more events are answered where bits that end are no refusal.
  going : ℕ → Context → Bits → Answer Reading
  going n c bs = so_far (first_events n s c bs) (read_events n sizes s c bs)

  -- An event that is refused.
  stopped : Context → Refusal → Answer Reading
  stopped c k = cond (is_ended k) (accepted (nothing_yet c)) (refused k 0)

  going-bad : (n : ℕ) (c : Context) (bs : Bits) (k : Refusal) → step sizes s c bs ≡ bad k
      → going (suc n) c bs ≡ stopped c k
  unfolding going stopped so_far read_events onward first_events firstThen
  going-bad n c bs k e = rw e

  -- What comes after an event.
  abbrev Then : ℕ → Context → Bits → Answer Reading
  Then n d rest = cond (is_finished d.state) (ending s d rest) (going n d rest)

  going-got : (n : ℕ) (c : Context) (bs : Bits) (e : Event Placed) (d : Context) (rest : Bits)
      → step sizes s c bs ≡ got (e, d) rest
      → going (suc n) c bs ≡ following e (Then n d rest)
  unfolding going so_far read_events onward first_events firstThen following ending with_first number_of
  going-got n c bs e d rest q =
      split (is_finished d.state)
      (λ f. split (is_padding rest) (λ p. rw (q, f, p)) (λ p. rw (q, f, p)))
      (λ f. rw (q, f) (by (read_events n sizes s d rest)))
    where
      by : (a : Answer Reading) → so_far (with_first e (first_events n s d rest)) (following e a)
          ≡ following e (so_far (first_events n s d rest) a)
      by (accepted r) = refl
      by (refused k i) = split (is_ended k) (λ t. rw t) (λ t. rw t)

  then-refused : (n : ℕ) (d : Context) (rest more : Bits) (k : Refusal) (j : ℕ)
      → (going n d rest ≡ refused k j → going n d (rest ++ more) ≡ refused k j)
      → Then n d rest ≡ refused k j
      → Then n d (rest ++ more) ≡ refused k j
  then-refused n d rest more k j later h =
      split (is_finished d.state) (λ f. rw f (ending-refused s d rest more k j (rw f at h)))
      (λ f. rw f (later (rw f at h)))

  refusal-stays : (n : ℕ) (c : Context) (bs more : Bits) (k : Refusal) (i : ℕ)
      → going n c bs ≡ refused k i
      → going n c (bs ++ more) ≡ refused k i
  unfolding going so_far read_events stopped number_of following
  refusal-stays zero c bs more k i e = e
  refusal-stays (suc n) c bs more k i e = go (λ d rest j. refusal-stays n d rest more k j) (step sizes s c bs) refl
    where
      go : ((d : Context) (rest : Bits) (j : ℕ) → going n d rest ≡ refused k j
          → going n d (rest ++ more) ≡ refused k j)
          → (x : Result (Event Placed × Context)) → step sizes s c bs ≡ x
          → going (suc n) c (bs ++ more) ≡ refused k i
      go later (bad j) q =
          let h = sym (going-bad n c bs j q) ∙ e in
          split (is_ended j) (λ t. not-accepted (sym (rw t at h)))
          (λ t. going-bad n c (bs ++ more) j ((steady-step sizes s c).refuses bs j more q (not-ended j t)) ∙ h)
      go later (got (v, d) rest) q =
          let (j, inner, index) = follow-refused v (Then n d rest) k i (sym (going-got n c bs v d rest q) ∙ e) in
          going-got n c (bs ++ more) v d (rest ++ more)
          ((steady-step sizes s c).reads bs (v, d) rest more q)
          ∙ ap (following v) (then-refused n d rest more k j (later d rest j) inner)
          ∙ ap (refused k) (sym index)

  -- The store begins with that of the context.
  going-extends : (n : ℕ) (c : Context) (bs : Bits) (x : Reading) → going n c bs ≡ accepted x
      → Extends c.tables.store x.store
  unfolding going so_far read_events stopped number_of nothing_yet with_first
  going-extends zero c bs x e = not-accepted e
  going-extends (suc n) c bs x e = go (λ d rest y. going-extends n d rest y) (step sizes s c bs) refl
    where
      go : ((d : Context) (rest : Bits) (y : Reading) → going n d rest ≡ accepted y
          → Extends d.tables.store y.store)
          → (r : Result (Event Placed × Context)) → step sizes s c bs ≡ r
          → Extends c.tables.store x.store
      go later (bad j) q =
          let h = sym (going-bad n c bs j q) ∙ e in
          split (is_ended j) (λ t. rw (← accepted-same (rw t at h)) ([], sym (append-nil c.tables.store)))
          (λ t. not-accepted (rw t at h))
      go later (got (v, d) rest) q =
          let (r, inner, same) = follow-accepted v (Then n d rest) x (sym (going-got n c bs v d rest q) ∙ e) in
          let (w, h, j) = (step-reads sizes s c).sound bs (v, d) rest q in
          rw same (extends-on c.tables.store d.tables.store r.store (step-extends h)
          (on d rest r (later d rest r) inner))
        where
          on : (d : Context) (rest : Bits) (r : Reading)
              → (going n d rest ≡ accepted r → Extends d.tables.store r.store)
              → Then n d rest ≡ accepted r → Extends d.tables.store r.store
          on d rest r later h =
              split (is_finished d.state)
              (λ f. rw (ending-accepted s d rest r (rw f at h)) ([], sym (append-nil d.tables.store)))
              (λ f. later (rw f at h))

  then_grows : (n : ℕ) (d : Context) (rest more : Bits) (x y : Reading)
      → (going n d rest ≡ accepted x → going n d (rest ++ more) ≡ accepted y → Begins x y)
      → Then n d rest ≡ accepted x
      → Then n d (rest ++ more) ≡ accepted y → Begins x y
  then_grows n d rest more x y later h k =
      split (is_finished d.state)
      (λ f. rw (ending-accepted s d rest x (rw f at h), ending-accepted s d (rest ++ more) y (rw f at k))
      (begins-same (nothing_yet d)))
      (λ f. later (rw f at h) (rw f at k))

  going-grows : (n : ℕ) (c : Context) (bs more : Bits) (x y : Reading) → going n c bs ≡ accepted x
      → going n c (bs ++ more) ≡ accepted y → Begins x y
  unfolding going so_far read_events stopped number_of nothing_yet
  going-grows zero c bs more x y e f = not-accepted e
  going-grows (suc n) c bs more x y e f = go (λ d rest p q. going-grows n d rest more p q) (step sizes s c bs) refl
    where
      go : ((d : Context) (rest : Bits) (p q : Reading) → going n d rest ≡ accepted p
          → going n d (rest ++ more) ≡ accepted q → Begins p q)
          → (r : Result (Event Placed × Context)) → step sizes s c bs ≡ r → Begins x y
      go later (bad j) q =
          let h = sym (going-bad n c bs j q) ∙ e in
          let (text, store) = going-extends (suc n) c (bs ++ more) y f in
          split (is_ended j)
          (λ t. rw (← accepted-same (rw t at h))
          (record { events = y.events; literals = text; more = refl; store = store }))
          (λ t. not-accepted (rw t at h))
      go later (got (v, d) rest) q =
          let on = (steady-step sizes s c).reads bs (v, d) rest more q in
          let (p, inner, same) = follow-accepted v (Then n d rest) x (sym (going-got n c bs v d rest q) ∙ e) in
          let (r, outer, alike) = follow-accepted v (Then n d (rest ++ more)) y
          (sym (going-got n c (bs ++ more) v d (rest ++ more) on) ∙ f) in
          rw (same, alike) (begins-with v p r
          (then_grows n d rest more p r (later d rest p r) inner outer))

  -- ---- complete events

  first-keeps : (n : ℕ) (c : Context) (bs : Bits) → Settled c
      → Keeps c.tables.store (first_events n s c bs)
  unfolding first_events firstThen nothing_yet with_first
  first-keeps zero c bs b = record { later = λ x h. h; strings = tt }
  first-keeps (suc n) c bs b = go (λ d rest. first-keeps n d rest) (step sizes s c bs) refl
    where
      go : ((d : Context) (rest : Bits) → Settled d
          → Keeps d.tables.store (first_events n s d rest))
          → (r : Result (Event Placed × Context)) → step sizes s c bs ≡ r
          → Keeps c.tables.store (firstThen c (λ d rest. first_events n s d rest) r)
      go later (bad k) q = record { later = λ x h. h; strings = tt }
      go later (got (e, d) rest) q =
          let (w, h, j) = (step-reads sizes s c).sound bs (e, d) rest q in
          let m = step-settles b h in
          let k = later d rest m.settled in
          record {
            later = λ x l. k.later x (m.later x l);
            strings = (every_map k.later (strings_of e) m.strings, k.strings);
          }

  first_store : (n : ℕ) (c : Context) (bs : Bits) → Sane c
      → (first_events n s c bs).store
      ≡ (context_after s c (map event_text (first_events n s c bs).events)).tables.store
  unfolding first_events firstThen nothing_yet with_first context_after
  first_store zero c bs g = refl
  first_store (suc n) c bs g = go (λ d rest. first_store n d rest) (step sizes s c bs) refl
    where
      go : ((d : Context) (rest : Bits) → Sane d
          → (first_events n s d rest).store
          ≡ (context_after s d (map event_text (first_events n s d rest).events)).tables.store)
          → (r : Result (Event Placed × Context)) → step sizes s c bs ≡ r
          → (firstThen c (λ d rest. first_events n s d rest) r).store
          ≡ (context_after s c (map event_text (firstThen c (λ d rest. first_events n s d rest) r).events)).tables.store
      go later (bad k) q = refl
      go later (got (e, d) rest) q =
          let (w, h, j) = (step-reads sizes s c).sound bs (e, d) rest q in
          let same = step-next s c (e, d) w g h in
          later d rest (subst Sane (sym same)
          (sane-next s c (event_text e) g (step-fit s c (e, d) w g h).0))
          ∙ ap (λ b. (context_after s b (map event_text (first_events n s d rest).events)).tables.store) same

  -- No event comes after the last.
  none_after : (n : ℕ) (c : Context) (bs : Bits) → is_finished c.state ≡ true
      → length (first_events n s c bs).events ≡ 0
  unfolding first_events firstThen nothing_yet
  none_after zero c bs f = refl
  none_after (suc n) c bs f = rw (no_step s c bs f)

  -- Where the events are refused at i, i of them are complete.
  first_count : (n : ℕ) (c : Context) (bs : Bits) (k : Refusal) (i : ℕ)
      → read_events n sizes s c bs ≡ refused k i
      → length (first_events n s c bs).events ≡ i
  unfolding read_events onward ending first_events firstThen nothing_yet with_first
  first_count zero c bs k i e = (refused-same e).1
  first_count (suc n) c bs k i e = go (λ d rest j. first_count n d rest k j) (step sizes s c bs) e
    where
      on : (d : Context) (rest : Bits) (j : ℕ)
          → (read_events n sizes s d rest ≡ refused k j
          → length (first_events n s d rest).events ≡ j)
          → cond (is_finished d.state) (ending s d rest) (read_events n sizes s d rest)
          ≡ refused k j
          → length (first_events n s d rest).events ≡ j
      on d rest j later h =
          split (is_finished d.state)
          (λ f. split (is_padding rest) (λ p. not-accepted (sym (rw (f, p) at h)))
          (λ p. none_after n d rest f ∙ (refused-same (rw (f, p) at h)).1))
          (λ f. later (rw f at h))

      go : ((d : Context) (rest : Bits) (j : ℕ) → read_events n sizes s d rest ≡ refused k j
          → length (first_events n s d rest).events ≡ j)
          → (r : Result (Event Placed × Context)) → onward s (λ d rest. read_events n sizes s d rest) r ≡ refused k i
          → length (firstThen c (λ d rest. first_events n s d rest) r).events ≡ i
      go later (bad j) h = (refused-same h).1
      go later (got (v, d) rest) h =
          let (j, inner, index) =
          follow-refused v (cond (is_finished d.state) (ending s d rest) (read_events n sizes s d rest)) k i h in
          rw index (ap suc (on d rest j (later d rest j) inner))

  -- ---- the header, and then the events

  headed : Result (Unit {0}) → Answer Reading
  headed (bad k) = stopped (start s) k
  headed (got u bs) = going max_events (start s) bs

  received : List ℕ → Answer Reading
  received os = so_far (complete s os) (read_stream sizes s os)

  received_is : (os : List ℕ) → received os ≡ headed (read_header (header_of s) (unpack os))
  unfolding received headed read_stream read_body complete after_header so_far stopped going
  received_is os = go (read_header (header_of s) (unpack os))
    where
      go : (x : Result (Unit {0})) → so_far (after_header s x) (read_body sizes s x) ≡ headed x
      go (bad k) = refl
      go (got u bs) = refl

  -- With more octets.
  received-on : (os more : List ℕ)
      → received (os ++ more) ≡ headed (read_header (header_of s) (unpack os ++ unpack more))
  received-on os more = received_is (os ++ more) ∙ ap (λ b. headed (read_header (header_of s) b)) (unpack-append os more)

  received-stays : (os more : List ℕ) (k : Refusal) (i : ℕ) → received os ≡ refused k i
      → received (os ++ more) ≡ refused k i
  unfolding headed stopped
  received-stays os more k i e =
      received-on os more ∙ go (read_header (header_of s) (unpack os)) refl (sym (received_is os) ∙ e)
    where
      go : (x : Result (Unit {0})) → read_header (header_of s) (unpack os) ≡ x
          → headed x ≡ refused k i
          → headed (read_header (header_of s) (unpack os ++ unpack more)) ≡ refused k i
      go (bad j) q h =
          split (is_ended j) (λ t. not-accepted (sym (rw t at h)))
          (λ t. ap headed ((steady-header (header_of s)).refuses (unpack os) j (unpack more) q (not-ended j t)) ∙ h)
      go (got u bs) q h =
          ap headed ((steady-header (header_of s)).reads (unpack os) u bs (unpack more) q)
          ∙ refusal-stays max_events (start s) bs (unpack more) k i h

  headed-extends : (x : Result (Unit {0})) (y : Reading) → headed x ≡ accepted y
      → Extends (start s).tables.store y.store
  unfolding headed stopped nothing_yet
  headed-extends (bad k) y h =
      split (is_ended k) (λ t. rw (← accepted-same (rw t at h)) ([], sym (append-nil (start s).tables.store)))
      (λ t. not-accepted (rw t at h))
  headed-extends (got u bs) y h = going-extends max_events (start s) bs y h

  received-grows : (os more : List ℕ) (x y : Reading) → received os ≡ accepted x
      → received (os ++ more) ≡ accepted y → Begins x y
  unfolding headed stopped nothing_yet
  received-grows os more x y e f =
      go (read_header (header_of s) (unpack os)) refl (sym (received_is os)
      ∙ e) (sym (received-on os more) ∙ f)
    where
      go : (r : Result (Unit {0})) → read_header (header_of s) (unpack os) ≡ r → headed r ≡ accepted x
          → headed (read_header (header_of s) (unpack os ++ unpack more)) ≡ accepted y → Begins x y
      go (bad j) q h k =
          let (text, store) = headed-extends (read_header (header_of s) (unpack os ++ unpack more)) y k in
          split (is_ended j)
          (λ t. rw (← accepted-same (rw t at h))
          (record { events = y.events; literals = text; more = refl; store = store }))
          (λ t. not-accepted (rw t at h))
      go (got u bs) q h k =
          going-grows max_events (start s) bs (unpack more) x y h
          (sym (ap headed ((steady-header (header_of s)).reads (unpack os) u bs (unpack more) q)) ∙ k)

  stream-count : (os : List ℕ) (k : Refusal) (i : ℕ) → read_stream sizes s os ≡ refused k i
      → length (complete s os).events ≡ i
  unfolding read_stream read_body complete after_header nothing_yet
  stream-count os k i e = go (read_header (header_of s) (unpack os)) e
    where
      go : (x : Result (Unit {0})) → read_body sizes s x ≡ refused k i
          → length (after_header s x).events ≡ i
      go (bad j) h = (refused-same h).1
      go (got u bs) h = first_count max_events (start s) bs k i h

  complete-texts : (os : List ℕ)
      → meant (complete s os).store (map stored_of (complete s os).events)
      ≡ some (map event_text (complete s os).events)
  unfolding complete after_header nothing_yet
  complete-texts os = go (read_header (header_of s) (unpack os))
    where
      go : (x : Result (Unit {0}))
          → meant (after_header s x).store (map stored_of (after_header s x).events)
          ≡ some (map event_text (after_header s x).events)
      go (bad k) = meant-all (start s).tables.store [] tt
      go (got u bs) =
          let x = first_events max_events s (start s) bs in
          meant-all x.store x.events
          (first-keeps max_events (start s) bs (settled-start s)).strings

  complete-store : (os : List ℕ)
      → (complete s os).store
      ≡ (context_after s (start s) (map event_text (complete s os).events)).tables.store
  unfolding complete after_header nothing_yet context_after
  complete-store os = go (read_header (header_of s) (unpack os))
    where
      go : (x : Result (Unit {0})) → (after_header s x).store
          ≡ (context_after s (start s) (map event_text (after_header s x).events)).tables.store
      go (bad k) = refl
      go (got u bs) = first_store max_events (start s) bs (sane-start s)

-- ---- the answers

not_t : (b : Bool) → T (not b) → b ≡ false
not_t true t = absurd t
not_t false t = refl

receive-is : (r : ReaderRoom) (o : SettingNumbers) (os : List ℕ) → enough_to_read sizes r ≡ true
    → meaningful o ≡ true
    → length os ≤ max_stream → receive r o os ≡ received (settings_of o) os
unfolding receive received read read_sized
receive-is r o os a b l = rw (a, b, T-is (leb (length os) max_stream) (le→leb (length os) max_stream l))

shorter : (os more : List ℕ) → length (os ++ more) ≤ max_stream → length os ≤ max_stream
shorter os more l = omega (arith, length-append os more)

-- A refusal stays, with its index.
pub stays-refused : (r : ReaderRoom) (o : SettingNumbers) (os more : List ℕ) (k : Refusal) (i : ℕ)
    → length (os ++ more) ≤ max_stream
    → receive r o os ≡ refused k i → receive r o (os ++ more) ≡ refused k i
unfolding receive read read_sized so_far number_of
stays-refused r o os more k i l e =
    split (enough_to_read sizes r)
    (λ a. split (meaningful o)
    (λ b. receive-is r o (os ++ more) a b l
    ∙ received-stays (settings_of o) os more k i (sym (receive-is r o os a b (shorter os more l))
    ∙ e))
    (λ b. rw (a, b) (rw (a, b) at e)))
    (λ a. rw a (rw a at e))

-- The answer only grows.
pub grows : (r : ReaderRoom) (o : SettingNumbers) (os more : List ℕ) (x y : Reading)
    → receive r o os ≡ accepted x
    → receive r o (os ++ more) ≡ accepted y → Begins x y
unfolding receive read read_sized so_far number_of
grows r o os more x y e f =
    split (enough_to_read sizes r)
    (λ a. split (meaningful o)
    (λ b. split (leb (length (os ++ more)) max_stream)
    (λ c.
    let l = leb→le (length (os ++ more)) max_stream (is_t _ c) in
    received-grows (settings_of o) os more x y (sym (receive-is r o os a b (shorter os more l))
    ∙ e) (sym (receive-is r o (os ++ more) a b l) ∙ f))
    (λ c. not-accepted (rw (a, b, c) at f)))
    (λ b. not-accepted (rw (a, b) at e)))
    (λ a. not-accepted (rw a at e))

-- Where a stream is refused at i, by HEADER or above, i events are complete.
refused-count : (r : ReaderRoom) (o : SettingNumbers) (os : List ℕ) (k : Refusal) (i : ℕ)
    → read r o os ≡ refused k i
    → number_of header ≤ number_of k → length (complete (settings_of o) os).events ≡ i
unfolding read read_sized number_of
refused-count r o os k i e h =
    split (enough_to_read sizes r)
    (λ a. split (meaningful o)
    (λ b. split (leb (length os) max_stream)
    (λ c. stream-count (settings_of o) os k i (rw (a, b, c) at e))
    (λ c. early long (rw (a, b, c) at e) (omega arith)))
    (λ b. early settings (rw (a, b) at e) (omega arith)))
    (λ a. early room (rw a at e) (omega arith))
  where
    early : {X : Type 0} (j : Refusal) → ◌≡◌ {A = Answer Reading} (refused j 0) (refused k i)
        → number_of j < number_of header → X
    early j q l = let same = ap number_of (refused-same q).0 in absurd (omega arith)

-- The index counts the complete events.
pub index-counts : (r : ReaderRoom) (o : SettingNumbers) (os : List ℕ)
    → number_of header ≤ (read_reply (read r o os)).number
    → (read_reply (read r o os)).index ≡ length (complete (settings_of o) os).events
unfolding read_reply number_of
index-counts r o os h = go (read r o os) refl h
  where
    go : (a : Answer Reading) → read r o os ≡ a → number_of header ≤ (read_reply a).number
        → (read_reply a).index ≡ length (complete (settings_of o) os).events
    go (refused k i) e h = sym (refused-count r o os k i e h)
    go (accepted x) e h = absurd (omega arith)

module _ (r : ReaderRoom) (o : SettingNumbers) (os : List ℕ) where
  -- A piece is refused where the octets so far, read whole, are refused by any number but ENDED.
  pub refused-alike : (k : Refusal) (i : ℕ) → (receive r o os ≡ refused k i)
      ↔ ((read r o os ≡ refused k i) × (k ≡ ended → ⊥))
  unfolding receive so_far
  refused-alike k i =
      (go (read r o os) refl, λ h. split (is_ended k) (λ t. absurd (h.1 (ended_is k (is_t _ t)))) (λ t. rw (h.0, t)))
    where
      go : (a : Answer Reading) → read r o os ≡ a
          → so_far (complete (settings_of o) os) a ≡ refused k i
          → (read r o os ≡ refused k i) × (k ≡ ended → ⊥)
      go (accepted x) q h = not-accepted (sym h)
      go (refused j m) q h =
          split (is_ended j) (λ t. not-accepted (sym (rw t at h)))
          (λ t. let e : refused j m ≡ refused k i = rw t at h in
          (q ∙ e, λ n. not-ended j t ((refused-same e).0 ∙ n)))

  -- What is accepted whole is accepted as a piece.
  pub accepted-alike : (x : Reading) → read r o os ≡ accepted x → receive r o os ≡ accepted x
  unfolding receive so_far
  accepted-alike x e = rw e

  -- Where they are ENDED at event i, i events are complete.
  pub counted : (i : ℕ) → read r o os ≡ refused ended i
      → (x : Reading) × (receive r o os ≡ accepted x) × (length x.events ≡ i)
  unfolding receive so_far number_of
  counted i e = (complete (settings_of o) os, rw e, refused-count r o os ended i e (omega arith))

  -- What is accepted of a piece is a whole reading, or the complete events.
  so-far : (P : Reading → Type 0) → ((x : Reading) → read r o os ≡ accepted x → P x)
      → P (complete (settings_of o) os)
      → (x : Reading) → receive r o os ≡ accepted x → P x
  unfolding receive so_far
  so-far P whole part x e = go (read r o os) refl e
    where
      go : (a : Answer Reading) → read r o os ≡ a
          → so_far (complete (settings_of o) os) a ≡ accepted x → P x
      go (accepted y) q h = whole x (q ∙ h)
      go (refused k i) q h =
          split (is_ended k) (λ t. subst P (accepted-same (rw t at h)) part) (λ t. not-accepted (rw t at h))

  -- Every string of a complete event is in the text store so far.
  pub texts-so-far : (x : Reading) → receive r o os ≡ accepted x
      → meant x.store (map stored_of x.events) ≡ some (map event_text x.events)
  texts-so-far =
      so-far (λ x. meant x.store (map stored_of x.events) ≡ some (map event_text x.events))
      (texts r o os) (complete-texts (settings_of o) os)

  -- That store is the initial entries and the literals of the complete events, and nothing else.
  pub store-so-far : (x : Reading) → receive r o os ≡ accepted x
      → x.store ≡ (context_after (settings_of o) (start (settings_of o))
      (map event_text x.events)).tables.store
  store-so-far =
      so-far (λ x. x.store ≡ (context_after (settings_of o) (start (settings_of o))
      (map event_text x.events)).tables.store)
      (store r o os) (complete-store (settings_of o) os)

  -- ROOM stays, however many octets come (P8).
  pub no_room : T (not (enough_to_read sizes r)) → receive r o os ≡ refused room 0
  unfolding receive so_far number_of read read_sized
  no_room a = rw (not_t (enough_to_read sizes r) a)

  -- SETTINGS stays, too.
  pub no-meaning : T (enough_to_read sizes r) → T (not (meaningful o))
      → receive r o os ≡ refused settings 0
  unfolding receive so_far number_of read read_sized
  no-meaning a b = rw (T-is (enough_to_read sizes r) a, not_t (meaningful o) b)

  -- Else LONG comes past the longest stream.
  pub too_long : T (enough_to_read sizes r) → T (meaningful o) → max_stream < length os
      → receive r o os ≡ refused long 0
  unfolding receive so_far number_of read read_sized
  too_long a b l = rw (T-is (enough_to_read sizes r) a, T-is (meaningful o) b, lt-leb (length os) max_stream l)
