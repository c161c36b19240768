-- What a parser comes to where bits may end: it passes, or it is cut among code points. Either may
-- be refused instead, by another number than ENDED.
use Rattle.std.specs.Prelude.{◌≡◌, true, List, ℕ, ◌<◌, drop}
use Rattle.spec_fields.specs.Bits.{Bits, unpack}
use Rattle.spec_fields.specs.Refusal.{Refusal, number_of, ended}
use Rattle.spec_fields.specs.Parser.{bad, got, Parser}
use Rattle.spec_exi.specs.Settings.{Settings}
use Rattle.spec_exi.specs.Reader.{read_character}
use Rattle.read_literal.specs.Awaits.{Awaits}
use Rattle.receiver_strings.specs.View.{Looked}

module _ {A : Type 0} (p : Parser A) (bs : Bits) where
  -- Refused, but not because the bits end.
  pub record Faulty : Type 0 where
    pub refusal : Refusal
    pub other : number_of refusal ≡ number_of ended → ⊥
    pub result : p bs ≡ bad refusal

  -- It reads a value, and these bits are left.
  pub data Passes (rest : Bits) : Type 0 where
    faulty : Faulty → Passes rest
    reads : (a : A) → p bs ≡ got a rest → Passes rest

  -- It comes to code points, of which n are to be read, the first at these bits.
  pub data CutAt (s : Settings) (mid : Bits) (n : ℕ) : Type 0 where
    faulty : Faulty → CutAt s mid n
    cut : Awaits (read_character s) p bs mid n → CutAt s mid n

-- A look at what p reads from a position on.
pub record Sees {A : Type 0} (s : Settings) (p : Parser A) (stream : List ℕ) (at : ℕ)
    (r : Looked) : Type 0 where
  pub past : r.past ≡ true → Passes p (drop at (unpack stream)) (drop r.at (unpack stream))
  pub cut : 0 < r.left
      → CutAt p (drop at (unpack stream)) s (drop r.at (unpack stream)) r.left
