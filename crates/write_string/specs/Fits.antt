-- What a caller shows before it writes a string.
use Rattle.std.specs.Prelude.{ℕ, ◌+◌, ◌*◌, ◌≤◌, ◌<◌, List, length, T}
use Rattle.spec_fields.specs.Field.{max_unsigned}
use Rattle.text.specs.Text.{Text, all_chars}
use Rattle.spec_exi.specs.Sizes.{max_string}
use Rattle.write_field.specs.Written.{blank_from, farthest}

-- ---- how many bits there can be

-- Of an Unsigned Integer (EXI 7.1.6; scope, "Numbers"): five octets.
abbrev pub max_number_bits : ℕ
max_number_bits = 40

-- Of a string, its number in the table and its length counted.
abbrev pub max_string_bits : ℕ
max_string_bits = max_number_bits * (max_string + 2)

-- ---- what is asked

-- A code point at bit k of octet j, from which on the buffer is blank.
pub record PutCharacterPre (buf : List ℕ) (j k c : ℕ) : Type 0 where
  pub blank : T (blank_from buf (8 * j + k))
  pub near : 8 * j + k ≤ farthest
  pub inside : k < 8
  pub small : c ≤ max_unsigned

-- Chars, one after the other.
pub record CharactersPre (buf : List ℕ) (at : ℕ) (x : Text) : Type 0 where
  pub blank : T (blank_from buf at)
  pub near : at + max_number_bits * length x ≤ farthest
  pub chars : T (all_chars x)

-- A buffer that is blank from bit `at` on, a string of at most max_string Chars, and at most 2 added
-- to its length.
pub record PutStringPre (buf : List ℕ) (at raised : ℕ) (x : Text) : Type 0 where
  pub blank : T (blank_from buf at)
  pub near : at + max_number_bits * (length x + 1) ≤ farthest
  pub few : raised ≤ 2
  pub small : length x ≤ max_string
  pub chars : T (all_chars x)
