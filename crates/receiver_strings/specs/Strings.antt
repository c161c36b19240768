-- What passing over strings asks and leaves.
use Rattle.std.specs.Prelude.{ℕ, ◌*◌, ◌-◌, ◌≤◌, ◌<◌, ◌≡◌, List, length}
use Rattle.std.proofs.Math.ListN.{get_elem?}
use Rattle.spec_fields.specs.Parser.{times}
use Rattle.spec_exi.specs.Settings.{Settings}
use Rattle.spec_exi.specs.Sizes.{sizes, max_stream, max_string}
use Rattle.spec_exi.specs.Tables.{Slot, Tables}
use Rattle.spec_exi.specs.Reader.{read_character, read_in, read_by_literals}
use Rattle.read_contract.specs.Outcome.{Declined, Gotten}
use Rattle.read_literal.specs.Literal.{base, Cut}
use Rattle.receiver_strings.specs.View.{Point, Skipped, Looked}
use Rattle.receiver_strings.specs.Cuts.{Sees}

-- A bit position in a stream or at its end.
pub record SpotPre (stream : List ℕ) (at : ℕ) : Type 0 where
  pub size : length stream ≤ max_stream
  pub place : at ≤ 8 * length stream

pub record PointRead (stream : List ℕ) (at : ℕ) (r : Point) : Type 0 where
  pub refused : 0 < r.number → Declined (read_character base) stream at r.number
  pub read : r.number ≡ 0 → Gotten (read_character base) stream at r.next

-- All but `left` of n code points are passed: all, or the next is refused.
pub record SkipPost (stream : List ℕ) (at n : ℕ) (r : Skipped) : Type 0 where
  pub inside : r.at ≤ 8 * length stream
  pub few : r.left ≤ n
  pub passed : Gotten (times (n - r.left) (read_character base)) stream at r.at
  pub none : r.number ≡ 0 → r.left ≡ 0
  pub whole : r.number ≡ 0 → Gotten (times n (read_character base)) stream at r.at
  pub cut : 0 < r.number → Cut stream at n r.number r.at r.left

pub record LookBounds (stream : List ℕ) (r : Looked) : Type 0 where
  pub inside : r.at ≤ 8 * length stream
  pub few : r.left ≤ max_string

-- By any k partitions, over any tables.
pub record StringSeen (stream : List ℕ) (at k : ℕ) (r : Looked) : Type 0 where
  pub bounds : LookBounds stream r
  pub sees : (s : Settings) (t : Tables) (ess : List (List Slot)) → length ess ≡ k
      → Sees s (read_by_literals sizes s t ess) stream at r

-- The same after the string's number v.
pub record NumberSeen (stream : List ℕ) (at v k : ℕ) (r : Looked) : Type 0 where
  pub bounds : LookBounds stream r
  pub sees : (s : Settings) (t : Tables) (ess : List (List Slot)) → length ess ≡ k
      → Sees s (read_in sizes s t k v (get_elem? ess v)) stream at r
