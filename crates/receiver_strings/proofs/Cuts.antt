-- How parsers pass, and are cut, one after the other.
use mathlib.Core.Path.{◌≡◌, refl, sym, ◌∙◌, ap}
use mathlib.Core.Bool.{Bool, true, false, true≢false}
use mathlib.Core.List.{List}
use Prim.Native.Nat.{ℕ}
use native.Mathlib.Omega.{arith}
use lib.ListN.{drop}
use Rattle.spec_fields.specs.Bits.{Bits, unpack}
use Rattle.spec_fields.specs.Refusal.{Refusal, number_of, ended}
use Rattle.spec_fields.specs.Parser.{Result, bad, got, Parser, return, fail, need, and_then, ◌>>=◌}
use Rattle.spec_fields.specs.Parser.{◌>>◌}
use Rattle.spec_fields.proofs.Steady.{Steady}
use Rattle.spec_exi.specs.Settings.{Settings}
use Rattle.spec_exi.specs.Reader.{read_character}
use Rattle.read_contract.specs.Outcome.{Declined, Gotten}
use Rattle.read_contract.proofs.Outcome.{need-true}
use Rattle.read_literal.specs.Awaits.{Awaits}
use Rattle.read_literal.proofs.Awaits.{awaits-then, awaits-behind, awaits-need}
use Rattle.receiver_strings.specs.View.{Looked}
use Rattle.receiver_strings.specs.Cuts.{Faulty, Passes, faulty, reads, CutAt, cut, Sees}

-- ---- a value that is returned, and tests

pub passes-return : {A : Type 0} (a : A) (bs : Bits) → Passes (return a) bs bs
unfolding return
passes-return a bs = reads a refl

module _ {A : Type 0} (k : Refusal) (other : number_of k ≡ number_of ended → ⊥) (p : Parser A) (bs : Bits) where
  need-faulty : Faulty (need false k >> p) bs
  unfolding need fail ◌>>◌ ◌>>=◌ and_then
  need-faulty = record { refusal = k; other = other; result = refl }

  faulty-on : Faulty p bs → Faulty (need true k >> p) bs
  faulty-on f =
      record {
        refusal = f.refusal;
        other = f.other;
        result = need-true true k p bs refl ∙ f.result;
      }

  pub passes-need : (t : Bool) {rest : Bits} → Passes p bs rest → Passes (need t k >> p) bs rest
  passes-need true (faulty f) = faulty (faulty-on f)
  passes-need true (reads a e) = reads a (need-true true k p bs refl ∙ e)
  passes-need false h = faulty need-faulty

  pub cut-need : (t : Bool) {s : Settings} {mid : Bits} {n : ℕ} → CutAt p bs s mid n
      → CutAt (need t k >> p) bs s mid n
  cut-need true (faulty f) = faulty (faulty-on f)
  cut-need true (cut h) = cut (awaits-need true k refl h)
  cut-need false h = faulty need-faulty

-- ---- one after the other

module _ {A B : Type 0} (p : Parser A) (f : A → Parser B) (bs : Bits) where
  pub faulty-then : Faulty p bs → Faulty (p >>= f) bs
  unfolding ◌>>=◌ and_then
  faulty-then h =
      record { refusal = h.refusal; other = h.other; result = ap (λ r. and_then r f) h.result }

  module _ (a : A) (mid : Bits) (e : p bs ≡ got a mid) where
    faulty-behind : Faulty (f a) mid → Faulty (p >>= f) bs
    unfolding ◌>>=◌ and_then
    faulty-behind h =
        record {
          refusal = h.refusal;
          other = h.other;
          result = ap (λ r. and_then r f) e ∙ h.result;
        }

    pub passes-behind : {rest : Bits} → Passes (f a) mid rest → Passes (p >>= f) bs rest
    unfolding ◌>>=◌ and_then
    passes-behind (faulty h) = faulty (faulty-behind h)
    passes-behind (reads b h) = reads b (ap (λ r. and_then r f) e ∙ h)

    pub cut-behind : Steady p → {s : Settings} {rest : Bits} {n : ℕ} → CutAt (f a) mid s rest n
        → CutAt (p >>= f) bs s rest n
    cut-behind steady (faulty h) = faulty (faulty-behind h)
    cut-behind steady (cut h) = cut (awaits-behind f a steady e h)

  pub passes_then : (mid : Bits) {rest : Bits} → Passes p bs mid
      → ((a : A) → Passes (f a) mid rest) → Passes (p >>= f) bs rest
  passes_then mid (faulty h) g = faulty (faulty-then h)
  passes_then mid (reads a e) g = passes-behind a mid e (g a)

  pub cut-then : {s : Settings} {mid : Bits} {n : ℕ} → CutAt p bs s mid n
      → CutAt (p >>= f) bs s mid n
  cut-then (faulty h) = faulty (faulty-then h)
  cut-then (cut h) = cut (awaits-then f h)

  cut-after : Steady p → {s : Settings} (mid : Bits) {rest : Bits} {n : ℕ} → Passes p bs mid
      → ((a : A) → CutAt (f a) mid s rest n) → CutAt (p >>= f) bs s rest n
  cut-after steady mid (faulty h) g = faulty (faulty-then h)
  cut-after steady mid (reads a e) g = cut-behind a mid e steady (g a)

-- ---- the same by looks

module _ {A B : Type 0} (s : Settings) (p : Parser A) (f : A → Parser B) (stream : List ℕ) (at : ℕ) where
  abbrev bits : ℕ → Bits
  bits q = drop q (unpack stream)

  -- What follows reads nothing.
  pub sees-then : (r : Looked)
      → ((a : A) → Passes (f a) (drop r.at (unpack stream)) (drop r.at (unpack stream)))
      → Sees s p stream at r → Sees s (p >>= f) stream at r
  sees-then r g h =
      record {
        past = λ e. passes_then p f (bits at) (bits r.at) (h.past e) g;
        cut = λ l. cut-then p f (bits at) (h.cut l);
      }

  -- A look after one that has passed.
  pub sees-after : Steady p → (l r : Looked) → Sees s p stream at l → l.past ≡ true
      → ((a : A) → Sees s (f a) stream l.at r) → Sees s (p >>= f) stream at r
  sees-after steady l r h e g =
      record {
        past = λ z. passes_then p f (bits at) (bits l.at) (h.past e) (λ a. (g a).past z);
        cut = λ z. cut-after p f (bits at) steady (bits l.at) (h.past e) (λ a. (g a).cut z);
      }

  -- One that has not passed stays.
  pub sees-stays : (r : Looked) → Sees s p stream at r → r.past ≡ false
      → Sees s (p >>= f) stream at r
  sees-stays r h e =
      record {
        past = λ z. absurd (true≢false (sym z ∙ e));
        cut = λ z. cut-then p f (bits at) (h.cut z);
      }

-- Nothing is seen.
pub sees-nothing : {A : Type 0} (s : Settings) (p : Parser A) (stream : List ℕ) (at q : ℕ)
    → Sees s p stream at (record { past = false; at = q; left = 0 })
sees-nothing s p stream at q =
    record { past = λ z. absurd (true≢false (sym z)); cut = λ z. absurd (omega arith) }

-- After a field that is read.
pub sees-field : {A B : Type 0} (s : Settings) (p : Parser A) (f : A → Parser B) (stream : List ℕ)
    (at : ℕ) → Steady p → {q : ℕ} (g : Gotten p stream at q) {r : Looked}
    → Sees s (f g.value) stream q r → Sees s (p >>= f) stream at r
sees-field s p f stream at steady {q} g h =
    let here = drop at (unpack stream) in
    let there = drop q (unpack stream) in
    record {
      past = λ z. passes-behind p f here g.value there g.result (h.past z);
      cut = λ z. cut-behind p f here g.value there g.result steady (h.cut z);
    }

-- ---- where the bits end

abbrev is_got : {A : Type 0} → Result A → Bool
is_got (got a bs) = true
is_got (bad k) = false

module _ {A : Type 0} {p : Parser A} {stream : List ℕ} {at : ℕ}
    (d : Declined p stream at (number_of ended)) where
  same-refusal : {j k : Refusal} → ◌≡◌ {A = Result A} (bad j) (bad k) → j ≡ k
  same-refusal e = cc

  not-faulty : Faulty p (drop at (unpack stream)) → ⊥
  not-faulty f =
      let e : f.refusal ≡ d.refusal = same-refusal (sym f.result ∙ d.result) in
      f.other (ap number_of e ∙ sym d.is)

  pub not-passed : {rest : Bits} → Passes p (drop at (unpack stream)) rest → ⊥
  not-passed (faulty f) = not-faulty f
  not-passed (reads a e) = true≢false (ap is_got (sym e ∙ d.result))

  pub cut-ended : {s : Settings} {mid : Bits} {n : ℕ} → CutAt p (drop at (unpack stream)) s mid n
      → Awaits (read_character s) p (drop at (unpack stream)) mid n
  cut-ended (cut h) = h
  cut-ended (faulty f) = absurd (not-faulty f)
