-- What reading a literal asks and leaves.
use Rattle.std.specs.Prelude.{ℕ, ◌+◌, ◌*◌, ◌≤◌, ◌<◌, ◌≡◌, false, List, ◌++◌, length, take, drop, replicate, get_or}
use Rattle.std.proofs.Math.Option.{none}
use Rattle.spec_fields.specs.Parser.{times}
use Rattle.spec_fields.specs.Field.{bit_packed}
use Rattle.text.specs.Text.{Text, part}
use Rattle.spec_exi.specs.Settings.{Settings}
use Rattle.spec_exi.specs.Sizes.{max_stream, max_store, max_string, sizes}
use Rattle.spec_exi.specs.Tables.{Tables, Form, literal, Placed}
use Rattle.spec_exi.specs.Reader.{read_character, read_literal}
use Rattle.read_field.specs.View.{Value, Refused, field_at}
use Rattle.mem_entries.specs.Texts.{hash_of}
use Rattle.read_contract.specs.Outcome.{Declined, Outcome}
use Rattle.read_literal.specs.View as seen
use Rattle.read_literal.specs.Awaits.{Waits}

-- Settings do not matter to a code point as yet: these stand for any.
abbrev pub base : Settings
base =
    record {
      alignment = bit_packed;
      cookie = false;
      comments = false;
      instructions = false;
      fragment = false;
      longest = none;
      capacity = none;
    }

-- Bounds alone: a position in a stream, and room in the store.
pub record LiteralPre (stream : List ℕ) (at : ℕ) (text : List ℕ) (stored : ℕ) : Type 0 where
  pub size : length stream ≤ max_stream
  pub place : at ≤ 8 * length stream
  pub room : max_store ≤ length text
  pub few : stored ≤ max_store

pub record CharactersPre (stream : List ℕ) (at : ℕ) (text : List ℕ) (stored n : ℕ) : Type 0 where
  pub literal : LiteralPre stream at text stored
  pub ends : stored + n ≤ max_store

-- Bit k of octet j, in a stream or at its end.
pub record Place (stream : List ℕ) (j k : ℕ) : Type 0 where
  pub size : length stream ≤ max_stream
  pub inside : 8 * j + k ≤ 8 * length stream
  pub low : k < 8

-- A code point of one octet, or 0.
pub record Plain (stream : List ℕ) (at o : ℕ) : Type 0 where
  pub is : 0 < o → field_at (read_character base) stream at ≡ Value o (at + 8)
  pub room : 0 < o → at + 8 ≤ 8 * length stream

-- The code point at bit k of octet j, or a refusal.
pub record PointRead (stream : List ℕ) (j k : ℕ) (r : seen.Point) : Type 0 where
  pub refused : 0 < r.number
      → field_at (read_character base) stream (8 * j + k) ≡ Refused r.number
  pub read : r.number ≡ 0
      → field_at (read_character base) stream (8 * j + k) ≡ Value r.value (8 * r.behind + k)

-- The text x behind the store.
unfoldable pub laid_at : List ℕ → ℕ → Text → List ℕ
laid_at text stored x = take stored text ++ x ++ drop (stored + length x) text

-- Every cell from one on is zero.
pub record ZeroFrom (cells : List ℕ) (at : ℕ) : Type 0 where
  pub zero : (k : ℕ) → at ≤ k → get_or cells k 0 ≡ 0

-- So many cells behind the store were written, and are cleared.
pub record Cleared (text : List ℕ) (stored : ℕ) (text' : List ℕ) : Type 0 where
  pub cells : ℕ
  pub room : stored + cells ≤ max_store
  pub text-is : text' ≡ laid_at text stored (replicate cells 0)

-- Some code points were read, the next one is refused, and so many are left with it.
pub record Cut (stream : List ℕ) (at n number next left : ℕ) : Type 0 where
  pub some : 0 < left
  pub waits : Waits (read_character base) (times n (read_character base)) stream at next left
  pub stops : Declined (read_character base) stream next number

-- The hash of the text behind the store, 0 after a refusal.
pub record LiteralHash (text' : List ℕ) (stored n : ℕ) (r : seen.Literal) : Type 0 where
  pub is : r.number ≡ 0 → r.hash ≡ hash_of (part text' (record { place = stored; size = n }))
  pub none : 0 < r.number → r.hash ≡ 0

-- n code points, read to the store's end.
pub record CharactersRead (stream : List ℕ) (at : ℕ) (text : List ℕ) (stored n : ℕ)
    (text' : List ℕ) (r : seen.Literal) : Type 0 where
  pub outcome : Outcome (times n (read_character base)) stream at r.number r.next
      (λ x. (text' ≡ laid_at text stored x) × (length x ≡ n))
  pub inside : r.next ≤ 8 * length stream
  pub cut : 0 < r.number → Cut stream at n r.number r.next r.left
  pub whole : r.number ≡ 0 → r.left ≡ 0
  pub hashed : LiteralHash text' stored n r
  pub cleared : 0 < r.number → Cleared text stored text'

-- A text of n code points lies behind the store.
pub record Behind (text : List ℕ) (stored n : ℕ) (text' : List ℕ) : Type 0 where
  pub x : Text
  pub size : length x ≡ n
  pub text-is : text' ≡ laid_at text stored x

-- What is read of a literal: its place, its length, and the store with it.
pub record Laid (text : List ℕ) (stored n : ℕ) (text' : List ℕ) (v : Form × Placed) : Type 0 where
  pub form : v.0 ≡ literal
  pub place : v.1.place ≡ stored
  pub size : length v.1.text ≡ n
  pub text-is : text' ≡ laid_at text stored v.1.text

-- By the definitions' literal over any tables whose store has so many code points.
pub record LiteralRead (stream : List ℕ) (at : ℕ) (text : List ℕ) (stored n : ℕ) (text' : List ℕ)
    (r : seen.Literal) : Type 0 where
  pub outcome : (s : Settings) (t : Tables) → length t.store ≡ stored
      → Outcome (read_literal sizes s t n) stream at r.number r.next (Laid text stored n text')
  pub inside : r.next ≤ 8 * length stream
  pub ends : r.number ≡ 0 → stored + n ≤ max_store
  pub small : r.number ≡ 0 → n ≤ max_string
  pub behind : r.number ≡ 0 → Behind text stored n text'
  pub hashed : LiteralHash text' stored n r
  pub cleared : 0 < r.number → Cleared text stored text'
  -- where code points are left, whatever octets follow
  pub waits : 0 < r.left → (s : Settings) (t : Tables) → length t.store ≡ stored
      → Waits (read_character s) (read_literal sizes s t n) stream at r.next r.left
