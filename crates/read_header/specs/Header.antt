-- What reading the header asks and leaves.
use Rattle.std.specs.Prelude.{ℕ, ◌≤◌, ◌<◌, ◌≡◌, List, [], ◌∷◌, length}
use Rattle.spec_exi.specs.Sizes.{max_stream}
use Rattle.spec_exi.specs.Reader.{read_header}
use Rattle.std.specs.Prelude as std
use Rattle.refusal.specs.declared.Refusal.{Refusal}
use Rattle.refusal.specs.Numbers.{number_in}
use Rattle.read_contract.specs.Outcome.{Outcome}

-- The octets with the cookie, which is first.
abbrev pub header_octets : List ℕ
header_octets = 36 ∷ 69 ∷ 88 ∷ 73 ∷ 128 ∷ []

-- How many of them the cookie has, and how many there are.
abbrev pub cookie_size : ℕ
cookie_size = 4

abbrev pub header_size : ℕ
header_size = 5

-- A stream that is not too long, and one of the octets or their end.
pub record ReadOctetsPre (stream : List ℕ) (first : ℕ) : Type 0 where
  pub size : length stream ≤ max_stream
  pub few : first ≤ header_size

-- The number of the header's refusal or 0, and the position behind it.
pub record Passed : Type 0 where
  pub number : ℕ
  pub at : ℕ

-- What a function that passes the header answered.
abbrev pub view : std.Result ℕ Refusal → Passed
view (std.Ok q) = record { number = 0; at = q }
view (std.Err k) = record { number = number_in k; at = 0 }

-- By the definitions' header parser: the refusal's number, or the position behind the header.
pub record Passes (octets stream : List ℕ) (r : Passed) : Type 0 where
  pub outcome : Outcome (read_header octets) stream 0 r.number r.at (λ _. Unit {0})
  pub refused : 0 < r.number → r.at ≡ 0
