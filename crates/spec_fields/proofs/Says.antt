-- By which refusals a parser can refuse.
use mathlib.Core.Path.{◌≡◌, refl, sym, ◌∙◌, ap, subst}
use mathlib.Core.List.{List, [], ◌∷◌}
use mathlib.Core.Bool.{Bool, true, false, cond}
use mathlib.Core.Option.{Option, none, some}
use Prim.Native.Nat.{ℕ, zero, suc}
use lib.ListN.{get_elem?}
use lib.Dec.{T, ltb}
use Rattle.spec_fields.specs.Bits.{Bits}
use Rattle.spec_fields.specs.Refusal.{Refusal, ended, number}
use Rattle.spec_fields.specs.Parser.{Result, bad, got, Parser, return, fail, present, need}
use Rattle.spec_fields.specs.Parser.{and_then, ◌>>=◌, ◌>>◌, times}
use Rattle.spec_fields.specs.Field.{Alignment, bit_packed, byte_aligned, bit, octet, number_field}
use Rattle.spec_fields.specs.Field.{choice, grouped, unsigned, max_octets}
use Rattle.spec_fields.proofs.Exact.{not-got}

module _ (P : Refusal → Bool) where
  -- Each refusal of p is as P says.
  pub record Says {A : Type 0} (p : Parser A) : Type 0 where
    pub refuses : (bs : Bits) (k : Refusal) → p bs ≡ bad k → T (P k)

  -- What is put together of parsers refuses as they do, by a test with its refusal too.
  module _ {A : Type 0} where
    -- Reading nothing.
    pub says-return : (a : A) → Says (return a)
    unfolding return
    says-return a = record { refuses = λ bs k e. not-got (sym e) }

    -- A refusal.
    pub says-fail : (k : Refusal) → T (P k) → Says {A = A} (fail k)
    unfolding fail
    says-fail k t = record { refuses = λ bs j e. let same : k ≡ j = cc in subst (λ x. T (P x)) same t }

    -- A value, or the refusal where there is none.
    pub says-present : (k : Refusal) (o : Option A) → T (P k) → Says (present k o)
    unfolding present
    says-present k none t = says-fail k t
    says-present k (some a) t = says-return a

    -- Either of two.
    pub says-cond : {p q : Parser A} (b : Bool) → Says p → Says q → Says (cond b p q)
    says-cond true f g = f
    says-cond false f g = g

  -- One after the other.
  pub says_then : {A B : Type 0} {p : Parser A} {f : A → Parser B} → Says p → ((a : A) → Says (f a)) → Says (p >>= f)
  unfolding ◌>>=◌ and_then
  says_then {A} {B} {p} {f} h g = record { refuses = λ bs k e. go bs k (p bs) refl e }
    where
      go : (bs : Bits) (k : Refusal) (x : Result A) → p bs ≡ x → and_then x f ≡ bad k → T (P k)
      go bs k (bad j) q e = let same : j ≡ k = cc in h.refuses bs k (q ∙ ap bad same)
      go bs k (got a rest) q e = (g a).refuses rest k e

  -- A test, then a parser.
  pub says-guard : {B : Type 0} {p : Parser B} (b : Bool) (k : Refusal) → T (P k) → Says p → Says (need b k >> p)
  unfolding ◌>>◌ need
  says-guard true k t h = says_then (says-return tt) (λ _. h)
  says-guard false k t h = says_then (says-fail k t) (λ _. h)

  -- n times.
  pub says-times : {A : Type 0} {p : Parser A} (n : ℕ) → Says p → Says (times n p)
  unfolding times
  says-times zero h = says-return []
  says-times (suc n) h = says_then h (λ a. says_then (says-times n h) (λ rest. says-return (a ∷ rest)))

  -- Fields refuse by ENDED, Unsigned Integers by NUMBER too, and a choice by what it is given.
  module _ (e : T (P ended)) where
    says-bit : Says bit
    unfolding bit
    says-bit = record { refuses = go }
      where
        go : (bs : Bits) (k : Refusal) → bit bs ≡ bad k → T (P k)
        go [] k q = let same : ended ≡ k = cc in subst (λ x. T (P x)) same e
        go (b ∷ bs) k q = not-got (sym q)

    -- An octet.
    pub says-octet : Says octet
    unfolding octet
    says-octet = says_then (says-times 8 says-bit) (λ bs. says-return _)

    says-number : (a : Alignment) (n : ℕ) → Says (number_field a n)
    unfolding number_field
    says-number bit_packed n = says_then (says-times n says-bit) (λ bs. says-return _)
    says-number byte_aligned n = says_then (says-times _ says-octet) (λ os. says-return _)

    -- A choice among the members of a list.
    pub says-choice : {A : Type 0} (a : Alignment) (k : Refusal) (l : List A) → T (P k) → Says (choice a k l)
    unfolding choice
    says-choice a k l t =
        says_then (says-number a _) (λ v. says_then (says-present k (get_elem? l v) t) (λ x. says-return _))

    module _ (t : T (P number)) where
      says-grouped : (k : ℕ) → Says (grouped k)
      unfolding grouped
      says-grouped zero = says-fail number t
      says-grouped (suc k) =
          says_then says-octet
          (λ o. says-cond (ltb o 128) (says-return (o, true)) (says_then (says-grouped k) (λ x. says-return _)))

      -- An Unsigned Integer.
      pub says-unsigned : Says unsigned
      unfolding unsigned
      says-unsigned = says_then (says-grouped max_octets) (λ x. says-guard _ number t (says-return _))
