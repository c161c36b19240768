-- How the outcomes of parsers compose.
use Prim.Native.Nat.{ℕ, zero, suc, ◌+◌, ◌*◌, ◌-◌, ◌≤◌, ◌<◌}
use mathlib.Core.Path.{◌≡◌, refl, sym, ◌∙◌, ap, ap₂}
use mathlib.Core.Bool.{Bool, true, false}
use mathlib.Core.List.{List, [], ◌∷◌, ◌++◌}
use mathlib.Core.Option.{some, none}
use native.Mathlib.Nat.{le_refl, le_trans, zero-add, suc-add}
use native.Mathlib.Omega.{arith}
use lib.ListN.{length, drop, get_elem?}
use Rattle.spec_fields.specs.Bits.{Bits, unpack}
use Rattle.spec_fields.specs.Refusal.{Refusal, number_of}
use Rattle.spec_fields.specs.Parser.{Result, bad, got, Parser, return, fail, present, need, times, and_then, ◌>>=◌, ◌>>◌}
use Rattle.spec_fields.specs.Field.{Alignment, octet, number_field, width, choice, unsigned}
use Rattle.spec_fields.proofs.Refusal.{refusal-number}
use Rattle.spec_fields.proofs.Exact.{Reads, not-got, got-value, got-rest}
use Rattle.spec_fields.proofs.Number.{octet-reads, number-reads, unsigned_reads}
use Rattle.read_field.specs.View.{Value, Refused}
use Rattle.read_field.specs.View.{field_at}
use Rattle.read_field.proofs.View as view
use Rattle.read_contract.specs.Outcome.{Declined, Gotten, Outcome}

-- ---- one parser

module _ {A : Type 0} {p : Parser A} {s : List ℕ} {at : ℕ} where
  -- The number of a refusal is not 0.
  pub declined-number : {n : ℕ} → Declined p s at n → 0 < n
  declined-number d = omega (arith, d.is, refusal-number d.refusal)

  pub refused-outcome : {n q : ℕ} {good : A → Type 0} → Declined p s at n → Outcome p s at n q good
  refused-outcome {n} d =
      record {
        refused = λ _. d;
        read = λ z. absurd (omega (arith, declined-number d));
        is = λ z. absurd (omega (arith, declined-number d));
      }

  pub gotten-outcome : {n q : ℕ} {good : A → Type 0} → n ≡ 0 → (g : Gotten p s at q) → good g.value
      → Outcome p s at n q good
  gotten-outcome e g h = record { refused = λ l. absurd (omega arith); read = λ _. g; is = λ _. h }

  -- What holds of the value, weakened.
  pub outcome-weaken : {n q : ℕ} {good good' : A → Type 0} → (n ≡ 0 → (a : A) → good a → good' a)
      → Outcome p s at n q good
      → Outcome p s at n q good'
  outcome-weaken h o = record { refused = o.refused; read = o.read; is = λ z. h z (o.read z).value (o.is z) }

  -- ---- the same by a parser that does the same there

  module _ {p' : Parser A} (e : p' (drop at (unpack s)) ≡ p (drop at (unpack s))) where
    abbrev pub gotten-as : {q : ℕ} → Gotten p s at q → Gotten p' s at q
    gotten-as g = record { value = g.value; result = e ∙ g.result; after = g.after; inside = g.inside }

    pub declined-as : {n : ℕ} → Declined p s at n → Declined p' s at n
    declined-as d = record { refusal = d.refusal; result = e ∙ d.result; is = d.is }

    pub outcome-as : {n q : ℕ} {good : A → Type 0} → Outcome p s at n q good → Outcome p' s at n q good
    outcome-as o = record { refused = λ l. declined-as (o.refused l); read = λ z. gotten-as (o.read z); is = o.is }

-- ---- a parser and another after it

module _ {A B : Type 0} (f : A → Parser B) where
  then-bad : (p : Parser A) (bs : Bits) {k : Refusal} → p bs ≡ bad k → (p >>= f) bs ≡ bad k
  unfolding ◌>>=◌ and_then
  then-bad p bs e = rw e

  pub then-got : (p : Parser A) (bs : Bits) {rest : Bits} {a : A} → p bs ≡ got a rest → (p >>= f) bs ≡ f a rest
  unfolding ◌>>=◌ and_then
  then-got p bs e = rw e

  module _ {p : Parser A} {s : List ℕ} {at : ℕ} where
    pub declined-then : {n : ℕ} → Declined p s at n → Declined (p >>= f) s at n
    declined-then d = record { refusal = d.refusal; result = then-bad p (drop at (unpack s)) d.result; is = d.is }

    pub declined-outcome : {n q : ℕ} {good : B → Type 0} → Declined p s at n → Outcome (p >>= f) s at n q good
    declined-outcome d = refused-outcome (declined-then d)

    module _ {q : ℕ} (g : Gotten p s at q) where
      abbrev pub gotten-then : {q' : ℕ} → Gotten (f g.value) s q q' → Gotten (p >>= f) s at q'
      gotten-then h =
          record {
            value = h.value;
            result = then-got p (drop at (unpack s)) g.result ∙ h.result;
            after = le_trans g.after h.after;
            inside = h.inside;
          }

      pub gotten-declined : {n : ℕ} → Declined (f g.value) s q n → Declined (p >>= f) s at n
      gotten-declined d =
          record { refusal = d.refusal; result = then-got p (drop at (unpack s)) g.result ∙ d.result; is = d.is }

      pub outcome-then : {n q' : ℕ} {good : B → Type 0} → Outcome (f g.value) s q n q' good
          → Outcome (p >>= f) s at n q' good
      outcome-then o =
          record { refused = λ l. gotten-declined (o.refused l); read = λ z. gotten-then (o.read z); is = o.is }

pub return-got : {A : Type 0} (a : A) (bs : Bits) → return a bs ≡ got a bs
unfolding return
return-got a bs = refl

module _ {A : Type 0} {s : List ℕ} {at : ℕ} where
  abbrev pub return-gotten : (a : A) → at ≤ 8 * length s → Gotten (return a) s at at
  return-gotten a l = record { value = a; result = return-got a (drop at (unpack s)); after = le_refl at; inside = l }

  pub return-outcome : (a : A) {good : A → Type 0} → good a → at ≤ 8 * length s → Outcome (return a) s at 0 at good
  return-outcome a h l = gotten-outcome refl (return-gotten a l) h

-- The value, changed by g.
pub outcome-map : {A B : Type 0} (g : A → B) {p : Parser A} {s : List ℕ} {at n q : ℕ} {good : A → Type 0}
    {good' : B → Type 0}
    → Outcome p s at n q good → (n ≡ 0 → (a : A) → good a → good' (g a))
    → Outcome (p >>= λ a. return (g a)) s at n q good'
outcome-map g o h =
    record {
      refused = λ l. declined-then (λ a. return (g a)) (o.refused l);
      read =
          λ z. gotten-then (λ a. return (g a)) (o.read z) (return-gotten (g (o.read z).value) (o.read z).inside);
      is = λ z. h z (o.read z).value (o.is z);
    }

-- ---- a test before a parser

module _ (t : Bool) (k : Refusal) {A : Type 0} where
  pub need-true : (p : Parser A) (bs : Bits) → t ≡ true → (need t k >> p) bs ≡ p bs
  unfolding need return ◌>>◌ ◌>>=◌ and_then
  need-true p bs e = rw e

  pub need-false : (p : Parser A) (bs : Bits) → t ≡ false → (need t k >> p) bs ≡ bad k
  unfolding need fail ◌>>◌ ◌>>=◌ and_then
  need-false p bs e = rw e

  module _ {p : Parser A} {s : List ℕ} {at : ℕ} where
    pub need-passed : {n q : ℕ} {good : A → Type 0} → t ≡ true → Outcome p s at n q good
        → Outcome (need t k >> p) s at n q good
    need-passed e o = outcome-as (need-true p (drop at (unpack s)) e) o

    abbrev pub need-gotten : {q : ℕ} → t ≡ true → Gotten p s at q → Gotten (need t k >> p) s at q
    need-gotten e g = gotten-as (need-true p (drop at (unpack s)) e) g

  module _ (p : Parser A) {s : List ℕ} {at : ℕ} where
    pub need-declined : t ≡ false → Declined (need t k >> p) s at (number_of k)
    need-declined e = record { refusal = k; result = need-false p (drop at (unpack s)) e; is = refl }

    pub need-failed : {q : ℕ} {good : A → Type 0} → t ≡ false → Outcome (need t k >> p) s at (number_of k) q good
    need-failed e = refused-outcome (need-declined e)

-- ---- n values, one after the other

-- Where a parser with another after it has read, both have.
then-both : {A B : Type 0} (p : Parser A) (f : A → Parser B) (bs : Bits) {b : B} {mid : Bits} → (p >>= f) bs ≡ got b mid
    → (a : A) × (rest : Bits) × (p bs ≡ got a rest) × (f a rest ≡ got b mid)
unfolding ◌>>=◌ and_then
then-both {A} p f bs {b} {mid} e = go (p bs) refl e
  where
    go : (r : Result A) → p bs ≡ r → and_then r f ≡ got b mid
        → (a : A) × (rest : Bits) × (p bs ≡ got a rest) × (f a rest ≡ got b mid)
    go (bad k) i e = not-got e
    go (got a rest) i e = (a, rest, i, e)

module _ {A : Type 0} where
  -- What was read, behind xs.
  unfoldable behind : List A → Result (List A) → Result (List A)
  behind xs (bad k) = bad k
  behind xs (got ys rest) = got (xs ++ ys) rest

  behind-none : (r : Result (List A)) → r ≡ behind [] r
  unfolding behind
  behind-none (bad k) = refl
  behind-none (got ys rest) = refl

  behind-one : (a : A) (ys : List A) (r : Result (List A)) → behind (a ∷ []) (behind ys r) ≡ behind (a ∷ ys) r
  unfolding behind
  behind-one a ys (bad k) = refl
  behind-one a ys (got zs rest) = refl

  then-behind : (a : A) (r : Result (List A)) → and_then r (λ l. return (a ∷ l)) ≡ behind (a ∷ []) r
  unfolding behind and_then return
  then-behind a (bad k) = refl
  then-behind a (got ys rest) = refl

  module _ (p : Parser A) where
    pub times_none : (bs : Bits) → times 0 p bs ≡ got [] bs
    unfolding times return
    times_none bs = refl

    times_more : (n : ℕ) (bs : Bits) → times (suc n) p bs ≡ (p >>= λ x. times n p >>= λ l. return (x ∷ l)) bs
    unfolding times
    times_more n bs = refl

    times-one : (n : ℕ) (bs : Bits) {a : A} {rest : Bits} → p bs ≡ got a rest
        → times (suc n) p bs ≡ behind (a ∷ []) (times n p rest)
    unfolding ◌>>=◌
    times-one n bs {a} {rest} e =
        times_more n bs ∙ then-got (λ x. times n p >>= λ l. return (x ∷ l)) p bs e ∙ then-behind a (times n p rest)

    times-next : (i m : ℕ) (bs : Bits) {rest mid mid' : Bits} {a : A} {ys xs : List A} → p bs ≡ got a rest
        → times (i + m) p rest ≡ behind ys (times m p mid) → ◌≡◌ {A = Result (List A)} (got (a ∷ ys) mid) (got xs mid')
        → times (suc i + m) p bs ≡ behind xs (times m p mid')
    times-next i m bs {mid} {a} {ys} e h e' =
        ap (λ n. times n p bs) (suc-add i m)
        ∙ times-one (i + m) bs e
        ∙ ap (behind (a ∷ [])) h
        ∙ behind-one a ys (times m p mid)
        ∙ ap₂ (λ l r. behind l (times m p r)) (got-value e') (got-rest e')

    -- The first i of i + m values, and the others behind them.
    times-split : (i m : ℕ) (bs : Bits) {xs : List A} {mid : Bits} → times i p bs ≡ got xs mid
        → times (i + m) p bs ≡ behind xs (times m p mid)
    unfolding return
    times-split zero m bs {xs} {mid} e =
        rw (zero-add m, ← got-value (sym (times_none bs) ∙ e), ← got-rest (sym (times_none bs) ∙ e))
        (behind-none (times m p bs))
    times-split (suc i) m bs {xs} {mid} e =
        let (a, rest, j, e₁) = then-both p (λ x. times i p >>= λ l. return (x ∷ l)) bs (sym (times_more i bs) ∙ e) in
        let (ys, mid', j', e₂) = then-both (times i p) (λ l. return (a ∷ l)) rest e₁ in
        times-next i m bs j (times-split i m rest j') e₂

  -- No value yet.
  abbrev pub times-empty : (p : Parser A) {s : List ℕ} {at : ℕ} → at ≤ 8 * length s → Gotten (times 0 p) s at at
  times-empty p {s} {at} l =
      record { value = []; result = times_none p (drop at (unpack s)); after = le_refl at; inside = l }

  module _ (p : Parser A) (i : ℕ) {s : List ℕ} {at q : ℕ} (g : Gotten (times i p) s at q) where
    times-bad : (m : ℕ) {k : Refusal} → p (drop q (unpack s)) ≡ bad k → times (i + suc m) p (drop at (unpack s)) ≡ bad k
    unfolding behind
    times-bad m e =
        times-split p i (suc m) (drop at (unpack s)) g.result
        ∙ ap (behind g.value) (times_more p m (drop q (unpack s))
        ∙ then-bad (λ x. times m p >>= λ l. return (x ∷ l)) p (drop q (unpack s)) e)

    -- One of n values is refused.
    pub times-declined : (n : ℕ) {k : ℕ} → i < n → Declined p s q k → Declined (times n p) s at k
    times-declined n h d =
        let e : i + suc (n - i - 1) ≡ n = omega arith in
        record { refusal = d.refusal; result = rw e at (times-bad (n - i - 1) d.result); is = d.is }

    pub times-got : {q' : ℕ} (h : Gotten p s q q')
        → times (i + 1) p (drop at (unpack s)) ≡ got (g.value ++ h.value ∷ []) (drop q' (unpack s))
    unfolding behind
    times-got {q'} h =
        times-split p i 1 (drop at (unpack s)) g.result
        ∙ ap (behind g.value) (times-one p 0 (drop q (unpack s)) h.result
        ∙ ap (behind (h.value ∷ [])) (times_none p (drop q' (unpack s))))

    -- One value more.
    abbrev pub times-gotten : {q' : ℕ} → Gotten p s q q' → Gotten (times (i + 1) p) s at q'
    times-gotten h =
        record {
          value = g.value ++ h.value ∷ [];
          result = times-got h;
          after = le_trans g.after h.after;
          inside = h.inside;
        }

-- ---- a field, as a function answers it

module _ (p : Parser ℕ) (s : List ℕ) (at : ℕ) where
  abbrev pub value-gotten : {R : ℕ → Bits → Type 0} → Reads p R → at ≤ 8 * length s → {v q : ℕ}
      → field_at p s at ≡ Value v q → Gotten p s at q
  value-gotten h l {v} {q} e =
      let f = view.field-value p s at h l e in
      record { value = v; result = f.result; after = f.after; inside = f.inside }

  pub refused-declined : {k : ℕ} → field_at p s at ≡ Refused k → Declined p s at k
  refused-declined e =
      let d = view.field-refused p s at e in record { refusal = d.refusal; result = d.result; is = d.is }

module _ (s : List ℕ) (at : ℕ) (l : at ≤ 8 * length s) {v q : ℕ} where
  abbrev pub unsigned-gotten : field_at unsigned s at ≡ Value v q → Gotten unsigned s at q
  unsigned-gotten e = value-gotten unsigned s at unsigned_reads l e

  abbrev pub octet-gotten : field_at octet s at ≡ Value v q → Gotten octet s at q
  octet-gotten e = value-gotten octet s at octet-reads l e

  abbrev pub number-gotten : (a : Alignment) (n : ℕ) → field_at (number_field a n) s at ≡ Value v q
      → Gotten (number_field a n) s at q
  number-gotten a n e = value-gotten (number_field a n) s at (number-reads a n) l e

-- ---- a choice among the members of a list

member-none : {A : Type 0} (l : List A) (i : ℕ) → length l ≤ i → get_elem? l i ≡ none
member-none [] i h = refl
member-none (x ∷ l) zero h = absurd (omega arith)
member-none (x ∷ l) (suc i) h = member-none l i (omega arith)

module _ {A : Type 0} (a : Alignment) (k : Refusal) (l : List A) {s : List ℕ} {at : ℕ} where
  pub choice-declined : {n : ℕ} → Declined (number_field a (width (length l))) s at n → Declined (choice a k l) s at n
  unfolding choice
  choice-declined d = declined-then _ d

  module _ {q : ℕ} (g : Gotten (number_field a (width (length l))) s at q) where
    pub choice-got : {x : A} → get_elem? l g.value ≡ some x
        → choice a k l (drop at (unpack s)) ≡ got (g.value, x) (drop q (unpack s))
    unfolding choice present return ◌>>=◌ and_then
    choice-got e = rw (g.result, e)

    choice-bad : get_elem? l g.value ≡ none → choice a k l (drop at (unpack s)) ≡ bad k
    unfolding choice present fail return ◌>>=◌ and_then
    choice-bad e = rw (g.result, e)

    abbrev pub choice-gotten : {x : A} → get_elem? l g.value ≡ some x → Gotten (choice a k l) s at q
    choice-gotten {x} e = record { value = (g.value, x); result = choice-got e; after = g.after; inside = g.inside }

    pub choice-none : length l ≤ g.value → Declined (choice a k l) s at (number_of k)
    choice-none h = record { refusal = k; result = choice-bad (member-none l g.value h); is = refl }
