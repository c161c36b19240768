-- Parsers that decide by what they have read: bits that follow change neither a value that was read
-- nor a refusal, unless the bits had ended.
use mathlib.Core.Path.{◌≡◌, refl, sym, ◌∙◌, ap}
use mathlib.Core.List.{List, [], ◌∷◌, ◌++◌}
use mathlib.Core.Bool.{Bool, true, false, cond}
use mathlib.Core.Option.{Option, none, some}
use Prim.Native.Nat.{ℕ, zero, suc}
use lib.ListN.{get_elem?}
use lib.Dec.{ltb}
use Rattle.spec_fields.specs.Bits.{Bits}
use Rattle.spec_fields.specs.Refusal.{Refusal, ended}
use Rattle.spec_fields.specs.Parser.{Result, bad, got, Parser, return, fail, present, need}
use Rattle.spec_fields.specs.Parser.{and_then, ◌>>=◌, ◌>>◌, times}
use Rattle.spec_fields.specs.Field.{Alignment, bit_packed, byte_aligned, bit, octet, number_field}
use Rattle.spec_fields.specs.Field.{choice, grouped, unsigned, max_octets}
use Rattle.spec_fields.proofs.Exact.{not-got, got-value, got-rest}

-- More bits change neither what is read nor a refusal, but ENDED.
pub record Steady {A : Type 0} (p : Parser A) : Type 0 where
  pub reads : (bs : Bits) (a : A) (rest more : Bits) → p bs ≡ got a rest → p (bs ++ more) ≡ got a (rest ++ more)
  pub refuses : (bs : Bits) (k : Refusal) (more : Bits) → p bs ≡ bad k → (k ≡ ended → ⊥) → p (bs ++ more) ≡ bad k

-- What is put together of steady parsers is steady.
module _ {A : Type 0} where
  -- Reading nothing.
  pub steady-return : (a : A) → Steady (return a)
  unfolding return
  steady-return a =
      record {
        reads = λ bs x rest more e. let r : ◌≡◌ {A = Result A} (got a (bs ++ more)) (got x (rest ++ more)) =
            cc (got-value e, got-rest e) in r;
        refuses = λ bs k more e n. not-got (sym e);
      }

  -- A refusal.
  pub steady-fail : (k : Refusal) → Steady {A = A} (fail k)
  unfolding fail
  steady-fail k = record { reads = λ bs x rest more e. not-got e; refuses = λ bs j more e n. e }

  -- A value, or the refusal where there is none.
  pub steady-present : (k : Refusal) (o : Option A) → Steady (present k o)
  unfolding present
  steady-present k none = steady-fail k
  steady-present k (some a) = steady-return a

  -- Either of two.
  pub steady-cond : {p q : Parser A} (b : Bool) → Steady p → Steady q → Steady (cond b p q)
  steady-cond true f g = f
  steady-cond false f g = g

-- A test.
pub steady-need : (b : Bool) (k : Refusal) → Steady (need b k)
unfolding need
steady-need true k = steady-return tt
steady-need false k = steady-fail k

module _ {A B : Type 0} where
  -- One, then another that goes by its value.
  pub steady_then : {p : Parser A} {f : A → Parser B} → Steady p → ((a : A) → Steady (f a)) → Steady (p >>= f)
  unfolding ◌>>=◌ and_then
  steady_then {p} {f} h g = record {
    reads = λ bs b rest more e. read-on bs b rest more (p bs) refl e;
    refuses = λ bs k more e n. refuse-on bs k more (p bs) refl e n;
  }
    where
      read-on : (bs : Bits) (b : B) (rest more : Bits) (x : Result A) → p bs ≡ x
          → and_then x f ≡ got b rest → and_then (p (bs ++ more)) f ≡ got b (rest ++ more)
      read-on bs b rest more (bad j) q e = not-got e
      read-on bs b rest more (got a mid) q e =
          ap (λ y. and_then y f) (h.reads bs a mid more q) ∙ (g a).reads mid b rest more e

      refuse-on : (bs : Bits) (k : Refusal) (more : Bits) (x : Result A) → p bs ≡ x
          → and_then x f ≡ bad k → (k ≡ ended → ⊥) → and_then (p (bs ++ more)) f ≡ bad k
      refuse-on bs k more (bad j) q e n =
          let same : j ≡ k = cc in
          ap (λ y. and_then y f) (h.refuses bs j more q (λ z. n (sym same ∙ z))) ∙ e
      refuse-on bs k more (got a mid) q e n =
          ap (λ y. and_then y f) (h.reads bs a mid more q) ∙ (g a).refuses mid k more e n

-- A test, then a parser.
pub steady-guard : {B : Type 0} {p : Parser B} (b : Bool) (k : Refusal) → Steady p → Steady (need b k >> p)
unfolding ◌>>◌
steady-guard b k h = steady_then (steady-need b k) (λ _. h)

-- n times.
pub steady-times : {A : Type 0} {p : Parser A} (n : ℕ) → Steady p → Steady (times n p)
unfolding times
steady-times zero h = steady-return []
steady-times (suc n) h = steady_then h (λ a. steady_then (steady-times n h) (λ rest. steady-return (a ∷ rest)))

-- A bit.
pub steady-bit : Steady bit
unfolding bit
steady-bit =
    record {
      reads = λ bs a rest more e. by_bits bs a rest more e;
      refuses = λ bs k more e n. by_end bs k more e n;
    }
  where
    by_bits : (bs : Bits) (a : Bool) (rest more : Bits) → bit bs ≡ got a rest → bit (bs ++ more) ≡ got a (rest ++ more)
    by_bits [] a rest more e = not-got e
    by_bits (b ∷ bs) a rest more e =
        let r : ◌≡◌ {A = Result Bool} (got b (bs ++ more)) (got a (rest ++ more)) = cc (got-value e, got-rest e) in r

    by_end : (bs : Bits) (k : Refusal) (more : Bits) → bit bs ≡ bad k → (k ≡ ended → ⊥) → bit (bs ++ more) ≡ bad k
    by_end [] k more e n = let same : k ≡ ended = cc in absurd (n same)
    by_end (b ∷ bs) k more e n = not-got (sym e)

-- An octet.
pub steady-octet : Steady octet
unfolding octet
steady-octet = steady_then (steady-times 8 steady-bit) (λ bs. steady-return _)

-- An n-bit number.
pub steady-number : (a : Alignment) (n : ℕ) → Steady (number_field a n)
unfolding number_field
steady-number bit_packed n = steady_then (steady-times n steady-bit) (λ bs. steady-return _)
steady-number byte_aligned n = steady_then (steady-times _ steady-octet) (λ os. steady-return _)

-- A choice among the members of a list.
pub steady-choice : {A : Type 0} (a : Alignment) (k : Refusal) (l : List A) → Steady (choice a k l)
unfolding choice
steady-choice a k l =
    steady_then (steady-number a _) (λ v. steady_then (steady-present k (get_elem? l v)) (λ x. steady-return _))

-- The groups of an Unsigned Integer.
pub steady-grouped : (k : ℕ) → Steady (grouped k)
unfolding grouped
steady-grouped zero = steady-fail _
steady-grouped (suc k) =
    steady_then steady-octet
    (λ o. steady-cond (ltb o 128) (steady-return (o, true)) (steady_then (steady-grouped k) (λ x. steady-return _)))

-- An Unsigned Integer.
pub steady-unsigned : Steady unsigned
unfolding unsigned
steady-unsigned = steady_then (steady-grouped max_octets) (λ x. steady-guard _ _ (steady-return _))
