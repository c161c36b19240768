-- What a parser of the definitions comes to at a bit position of a stream, for a function that
-- answers the number of a refusal or 0 and the position behind what it read.
use Rattle.std.specs.Prelude.{ℕ, ◌*◌, ◌≤◌, ◌<◌, ◌≡◌, List, length, drop}
use Rattle.spec_fields.specs.Bits.{unpack}
use Rattle.spec_fields.specs.Refusal.{Refusal, number_of}
use Rattle.spec_fields.specs.Parser.{bad, got, Parser}

module _ {A : Type 0} where
  -- The parser refuses at bit `at`, with this number.
  pub record Declined (p : Parser A) (stream : List ℕ) (at number : ℕ) : Type 0 where
    pub refusal : Refusal
    pub result : p (drop at (unpack stream)) ≡ bad refusal
    pub is : number ≡ number_of refusal

  -- The parser reads the bits from `at` up to q.
  pub record Gotten (p : Parser A) (stream : List ℕ) (at q : ℕ) : Type 0 where
    pub value : A
    pub result : p (drop at (unpack stream)) ≡ got value (drop q (unpack stream))
    pub after : at ≤ q
    pub inside : q ≤ 8 * length stream

  pub record Outcome (p : Parser A) (stream : List ℕ) (at number q : ℕ) (good : A → Type 0)
      : Type 0 where
    pub refused : 0 < number → Declined p stream at number
    pub read : number ≡ 0 → Gotten p stream at q
    -- what holds of the value that was read
    pub is : (z : number ≡ 0) → good (read z).value
