-- Parsers of bits: a refusal, or a value and the bits that are left. They are how the scope's "goes
-- by stream order" is said ("Refusal numbers", "Order"): what fails first is answered.
use Rattle.std.specs.Prelude.{◌∷◌}
use Rattle.spec_fields.specs as Fields
use Fields.{Bits.Bits, Refusal.Refusal}
use Fields.Prelude.{ℕ, zero, suc, Bool, true, false, List, [], Option, none, some}

-- What a parser answers: a refusal, or a value and the bits after it.
pub data Result (A : Type 0) : Type 0 where
  bad : Refusal → Result A
  got : A → Bits → Result A

-- From the bits that are left.
abbrev pub Parser : Type 0 → Type 0
Parser A = Bits → Result A

module _ {A : Type 0} where
  -- Reads nothing.
  unfoldable pub return : A → Parser A
  return a bs = got a bs

  -- Refuses whatever comes.
  unfoldable pub fail : Refusal → Parser A
  fail k bs = bad k

  -- The value, or the refusal where there is none.
  unfoldable pub present : Refusal → Option A → Parser A
  present k none = fail k
  present k (some a) = return a

-- Goes on where the test passes, and else refuses.
unfoldable pub need : Bool → Refusal → Parser (Unit {0})
need true k = return tt
need false k = fail k

module _ {A B : Type 0} where
  -- Goes on after a value; a refusal stays.
  unfoldable pub and_then : Result A → (A → Parser B) → Result B
  and_then (bad k) f = bad k
  and_then (got a bs) f = f a bs

  infixl 20 ◌>>=◌
  -- One parser, then another that goes by its value.
  unfoldable pub ◌>>=◌ : Parser A → (A → Parser B) → Parser B
  ◌>>=◌ p f bs = and_then (p bs) f

infixl 20 ◌>>◌
-- A test, then a parser.
unfoldable pub ◌>>◌ : {B : Type 0} → Parser (Unit {0}) → Parser B → Parser B
◌>>◌ p q = p >>= λ _. q

-- n values, one after the other.
unfoldable pub times : {A : Type 0} → ℕ → Parser A → Parser (List A)
times zero p = return []
times (suc n) p = do
  a ← p
  rest ← times n p
  return (a ∷ rest)
