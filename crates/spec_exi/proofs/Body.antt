-- The events of a stream are read exactly: what is accepted is a list that may come next, in its
-- strict form and with padding after it; and such bits are accepted with that list.
use mathlib.Core.Path.{◌≡◌, refl, sym, ◌∙◌, ap, subst}
use mathlib.Core.List.{List, [], ◌∷◌, ◌++◌, map, append_assoc}
use mathlib.Core.Bool.{cond}
use Prim.Native.Nat.{ℕ, zero, suc, ◌≤◌, zero-le, suc-le-suc}
use native.Mathlib.Omega.{arith}
use lib.ListN.{length}
use lib.Dec.{T}
use Rattle.spec_fields.specs.Bits.{Bits, is_padding}
use Rattle.spec_fields.specs.Refusal.{Refusal, Answer, refused, accepted}
use Rattle.spec_fields.specs.Parser.{Result, bad, got}
use Rattle.spec_fields.proofs.Tests.{split, is_t, T-is}
use Rattle.text.specs.Text.{Text}
use Rattle.spec_exi.specs.Sizes.{Sizes, sizes}
use Rattle.spec_exi.specs.Event.{Event}
use Rattle.spec_exi.specs.Settings.{Settings}
use Rattle.spec_exi.specs.Tables.{Placed, event_text}
use Rattle.spec_exi.specs.Context.{Context, next}
use Rattle.spec_exi.specs.Strict.{event_bits, list_bits}
use Rattle.spec_exi.specs.Reader.{Reading, step, following, ending, onward, read_events}
use Rattle.spec_exi.specs.Grammar.{is_finished}
use Rattle.spec_exi.proofs.Fit.{EventFit, ListFit, done, also}
use Rattle.spec_exi.proofs.Step.{StepRead, step-reads, Sane, step-next, step-fit, step-found}
use Rattle.spec_exi.proofs.Step.{sane-next}
use Rattle.spec_exi.proofs.Writes.{is-finished, finished-is, finished-no-fit}

-- A refusal is no acceptance.
pub not-accepted : {A X : Type 0} {k : Refusal} {i : ℕ} {a : A} → ◌≡◌ {A = Answer A} (refused k i) (accepted a) → X
not-accepted e = let z : ◌≡◌ {A = ℕ} 0 1 = cc in absurd (omega arith)

-- What is accepted is one reading.
pub accepted-same : {A : Type 0} {a b : A} → ◌≡◌ {A = Answer A} (accepted a) (accepted b) → a ≡ b
accepted-same e = cc

-- What is refused is one refusal, at one index.
pub refused-same : {A : Type 0} {j k : Refusal} {m i : ℕ} → ◌≡◌ {A = Answer A} (refused j m) (refused k i)
    → (j ≡ k) × (m ≡ i)
refused-same e = (cc, cc)

-- One accepted event, and what is accepted after it.
record Followed (e : Event Placed) (a : Answer Reading) (r : Reading) : Type 0 where
  rest : Reading
  inner : a ≡ accepted rest
  is : r ≡ record { events = e ∷ rest.events; store = rest.store }

followed : (e : Event Placed) (a : Answer Reading) (r : Reading) → following e a ≡ accepted r
    → Followed e a r
unfolding following
followed e (refused k i) r q = not-accepted q
followed e (accepted x) r q = record { rest = x; inner = refl; is = cc }

-- The end of an accepted stream.
ended : (s : Settings) (c : Context) (rest : Bits) (r : Reading) → ending s c rest ≡ accepted r
    → T (is_padding rest) × (r ≡ record { events = []; store = c.tables.store })
unfolding ending
ended s c rest r q = split (is_padding rest) (λ e. (is_t (is_padding rest) e, sym (accepted-same (rw e at q))))
    (λ e. not-accepted (rw e at q))

-- The answer after an event: the end of the stream where the document is finished, and else more
-- events.
abbrev Afterwards : ℕ → Sizes → Settings → Context → Bits → Answer Reading
Afterwards n z s c rest = cond (is_finished c.state) (ending s c rest) (read_events n z s c rest)

-- How accepted bits are read: event by event, each in the context that the one before it leaves, up
-- to the end of the document.
pub data Run (z : Sizes) (s : Settings) : ℕ → Context → Bits → Reading → Type 0 where
  ends : {n : ℕ} {c : Context} {bs : Bits} → T (is_finished c.state) → T (is_padding bs)
      → Run z s n c bs (record { events = []; store = c.tables.store })
  goes : {n : ℕ} {c : Context} {bs : Bits} {r : Reading} (y : Event Placed × Context) (w : Bits)
      → StepRead z s c y w
      → Run z s n y.1 bs r → Run z s (suc n) c (w ++ bs) (record { events = y.0 ∷ r.events; store = r.store })

module _ (z : Sizes) (s : Settings) where
  then_runs : (n : ℕ) (c : Context) (bs : Bits) (r : Reading)
      → (read_events n z s c bs ≡ accepted r → Run z s n c bs r)
      → Afterwards n z s c bs ≡ accepted r → Run z s n c bs r
  then_runs n c bs r f q =
      split (is_finished c.state) (λ t. let (p, m) = ended s c bs r (rw t at q) in
      rw m (ends (is_t (is_finished c.state) t) p))
      (λ t. f (rw t at q))

  -- What is accepted is a run of events that were read, one after the other.
  pub read-runs : (n : ℕ) (c : Context) (bs : Bits) (r : Reading)
      → read_events n z s c bs ≡ accepted r → Run z s n c bs r
  unfolding read_events onward
  read-runs zero c bs r q = not-accepted q
  read-runs (suc n) c bs r q = go (λ d b x. read-runs n d b x) (step z s c bs) refl q
    where
      go : ((d : Context) (b : Bits) (x : Reading) → read_events n z s d b ≡ accepted x
          → Run z s n d b x)
          → (x : Result (Event Placed × Context)) → step z s c bs ≡ x
          → onward s (λ d b. read_events n z s d b) x ≡ accepted r
          → Run z s (suc n) c bs r
      go rec (bad k) i q = not-accepted q
      go rec (got (e, d) rest) i q =
          let f = followed e (Afterwards n z s d rest) r q in
          let (w, h, j) = (step-reads z s c).sound bs (e, d) rest i in
          rw (f.is, j) (goes (e, d) w h (then_runs n d rest f.rest (rec d rest f.rest)
          f.inner))

-- What stands in accepted bits.
pub record Accepted (s : Settings) (c : Context) (n : ℕ) (bs : Bits)
    (l : List (Event Text)) : Type 0 where
  pub fit : ListFit s c l
  pub few : length l ≤ n
  pub padding : Bits
  pub bits : bs ≡ list_bits s c l ++ padding
  pub padded : T (is_padding padding)

run-fit : {s : Settings} {n : ℕ} {c : Context} {bs : Bits} {r : Reading} → Sane c
    → Run sizes s n c bs r
    → Accepted s c n bs (map event_text r.events)
unfolding list_bits
run-fit {c} {bs} g (ends f p) =
    record { fit = done (is-finished c.state f); few = zero-le; padding = bs; bits = refl; padded = p }
run-fit {s} {n} {c} g (goes {n = m} {bs = bs} {r = r} y w h k) =
    let e = event_text y.0 in
    let (fit, b) = step-fit s c y w g h in
    let d = next s c e in
    let same = step-next s c y w g h in
    let later = run-fit (subst Sane (sym same) (sane-next s c e g fit)) k in
    let a = subst (λ x. Accepted s x m bs (map event_text r.events)) same later in
    record {
      fit = also e fit a.fit;
      few = suc-le-suc a.few;
      padding = a.padding;
      bits =
          cc (b, a.bits)
          ∙ sym (append_assoc (event_bits s c e) (list_bits s d (map event_text r.events)) a.padding);
      padded = a.padded;
    }

-- What is accepted may come next, and its bits are those of its strict form and padding (demand 3,
-- half of it).
pub read-fit : (n : ℕ) (s : Settings) (c : Context) (bs : Bits) (r : Reading) → Sane c
    → read_events n sizes s c bs ≡ accepted r
    → Accepted s c n bs (map event_text r.events)
read-fit n s c bs r g q = run-fit g (read-runs sizes s n c bs r q)

-- A list that may come next is read.
pub record ListFound (a : Answer Reading) (l : List (Event Text)) : Type 0 where
  pub reading : Reading
  pub answer : a ≡ accepted reading
  pub is : map event_text reading.events ≡ l

-- An event that is read, before others.
then_found : (n : ℕ) (s : Settings) (c : Context) (e : Event Text) (rest : Bits)
    (l : List (Event Text)) → EventFit s c e
    → ListFound (Afterwards n sizes s (next s c e) rest) l
    → ListFound (read_events (suc n) sizes s c (event_bits s c e ++ rest)) (e ∷ l)
unfolding read_events onward following
then_found n s c e rest l fit h =
    let m = step-found s c e fit in
    let x = m.event in
    let r = h.reading in
    record {
      reading = record { events = x ∷ r.events; store = r.store };
      answer = ap (onward s (λ d b. read_events n sizes s d b))
          ((step-reads sizes s c).complete (x, next s c e) (event_bits s c e) rest m.read)
          ∙ ap (following x) h.answer;
      is = cc (m.is, h.is);
    }

more : (s : Settings) (c : Context) (e : Event Text) (rest : Bits) (l : List (Event Text)) (n : ℕ)
    → suc (length l) ≤ n → EventFit s c e
    → ((k : ℕ) → length l ≤ k → ListFound (Afterwards k sizes s (next s c e) rest) l)
    → ListFound (read_events n sizes s c (event_bits s c e ++ rest)) (e ∷ l)
more s c e rest l zero m fit f = absurd (omega arith)
more s c e rest l (suc k) m fit f = then_found k s c e rest l fit (f k (omega arith))

-- A list that may come next is read from the bits of its strict form (the other half).
pub read_found : (s : Settings) (n : ℕ) (c : Context) (l : List (Event Text)) (padding : Bits)
    → ListFit s c l → length l ≤ n → T (is_padding padding)
    → ListFound (Afterwards n sizes s c (list_bits s c l ++ padding)) l
unfolding list_bits ending
read_found s n c l padding (done f) m p =
    record {
      reading = record { events = []; store = c.tables.store };
      answer = rw (T-is (is_finished c.state) (finished-is c.state f), T-is (is_padding padding) p);
      is = refl;
    }
read_found s n c l padding (also {l = k} e fit h) m p =
    split (is_finished c.state)
    (λ t. absurd (finished-no-fit s c e (is-finished c.state (is_t (is_finished c.state) t)) fit))
    (λ t. rw (t, append_assoc (event_bits s c e) (list_bits s (next s c e) k) padding)
    (more s c e (list_bits s (next s c e) k ++ padding) k n m fit (λ j q. read_found s j (next s c e) k padding h q p)))
