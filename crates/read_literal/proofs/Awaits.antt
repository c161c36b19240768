-- A parser that has come to a run of values q, of which n are still to be read:
-- whatever bits follow, the rest of its work begins with them.
use mathlib.Core.Path.{◌≡◌, refl, sym, ◌∙◌, ap}
use mathlib.Core.List.{List, [], ◌∷◌, ◌++◌, append_assoc, append-nil}
use Prim.Native.Nat.{ℕ, zero, suc}
use Rattle.spec_fields.specs.Bits.{Bits}
use Rattle.spec_fields.specs.Refusal.{Refusal}
use Rattle.spec_fields.specs.Parser.{Result, bad, got, Parser, return, and_then, ◌>>=◌, times}
use mathlib.Core.Bool.{Bool, true}
use Rattle.spec_fields.specs.Parser.{need, ◌>>◌}
use Rattle.read_contract.proofs.Outcome.{need-true}
use Rattle.read_literal.specs.Awaits.{Awaits}
use Rattle.spec_fields.proofs.Steady.{Steady}

module _ {A B C : Type 0} where
  pub then-then : (r : Result A) (f : A → Parser B) (g : B → Parser C)
      → and_then (and_then r f) g ≡ and_then r (λ a. f a >>= g)
  unfolding and_then ◌>>=◌
  then-then (bad k) f g = refl
  then-then (got a rest) f g = refl

module _ {A B C : Type 0} {q : Parser B} {p : Parser A} (f : A → Parser C) where
  -- What follows a parser that waits waits with it.
  pub awaits-then : {bs mid : Bits} {n : ℕ} → Awaits q p bs mid n → Awaits q (p >>= f) bs mid n
  unfolding ◌>>=◌
  awaits-then {bs} {mid} {n} h =
      record {
        onward = λ xs. h.onward xs >>= f;
        comes = λ more. ap (λ r. and_then r f) (h.comes more) ∙ then-then (times n q (mid ++ more)) h.onward f;
      }

  -- A parser that waits behind one that has read its value.
  pub awaits-behind : {bs rest mid : Bits} {n : ℕ} (a : A) → Steady p → p bs ≡ got a rest → Awaits q (f a) rest mid n
      → Awaits q (p >>= f) bs mid n
  unfolding ◌>>=◌ and_then
  awaits-behind {bs} {rest} a s e h =
      record { onward = h.onward; comes = λ more. ap (λ r. and_then r f) (s.reads bs a rest more e) ∙ h.comes more }

module _ {A B : Type 0} {q : Parser B} {p : Parser A} where
  -- More bits are there.
  pub awaits-more : {bs mid : Bits} {n : ℕ} (z : Bits) → Awaits q p bs mid n → Awaits q p (bs ++ z) (mid ++ z) n
  awaits-more {bs} {mid} {n} z h =
      record {
        onward = h.onward;
        comes = λ more. ap p (append_assoc bs z more) ∙ h.comes (z ++ more)
            ∙ ap (times n q >>= h.onward) (sym (append_assoc mid z more));
      }

  -- One value more is read.
  pub awaits-one : {bs mid rest : Bits} {n : ℕ} (b : B) → Steady q → q mid ≡ got b rest → Awaits q p bs mid (suc n)
      → Awaits q p bs rest n
  unfolding times ◌>>=◌ and_then return
  awaits-one {bs} {mid} {rest} {n} b s e h =
      record {
        onward = λ xs. h.onward (b ∷ xs);
        comes = λ more.
            h.comes more
            ∙ ap (λ r. and_then (and_then r (λ a. times n q >>= λ l. return (a ∷ l))) h.onward)
            (s.reads mid b rest more e)
            ∙ then-then (times n q (rest ++ more)) (λ l. return (b ∷ l)) h.onward;
      }

  -- The next value is refused, and so is the whole: by ENDED too, where its bits have ended.
  pub awaits-refused : {bs mid : Bits} {n : ℕ} {k : Refusal} → q mid ≡ bad k → Awaits q p bs mid (suc n) → p bs ≡ bad k
  unfolding times ◌>>=◌ and_then return
  awaits-refused {bs} {mid} {n} e h =
      ap p (sym (append-nil bs)) ∙ h.comes [] ∙ ap (times (suc n) q >>= h.onward) (append-nil mid)
      ∙ ap (λ r. and_then (and_then r (λ a. times n q >>= λ l. return (a ∷ l))) h.onward) e

-- n values are to be read, and nothing else has happened.
pub awaits-all : {B : Type 0} (q : Parser B) (bs : Bits) (n : ℕ) → Awaits q (times n q) bs bs n
unfolding ◌>>=◌ and_then return
awaits-all q bs n = record { onward = return; comes = λ more. sym (then-return (times n q (bs ++ more))) }
  where
    then-return : {A : Type 0} (r : Result A) → and_then r return ≡ r
    then-return (bad k) = refl
    then-return (got a rest) = refl

-- Behind a test that passes.
pub awaits-need : {A B : Type 0} {q : Parser B} {p : Parser A} {bs mid : Bits} {n : ℕ} (t : Bool) (k : Refusal)
    → t ≡ true → Awaits q p bs mid n
    → Awaits q (need t k >> p) bs mid n
awaits-need {p = p} {bs = bs} t k e h =
    record { onward = h.onward; comes = λ more. need-true t k p (bs ++ more) e ∙ h.comes more }
