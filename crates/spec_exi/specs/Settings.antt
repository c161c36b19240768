-- What the two sides agree on outside the stream (scope, "What is bought"), and the header that
-- follows from it.
use Rattle.std.specs.Prelude.{◌&&◌, ◌∷◌, ◌++◌}
use Rattle.spec_fields.specs.Prelude.{ℕ, zero, suc, Bool, cond, List, [], Option}
use Rattle.spec_fields.specs.Prelude.{none, some, eqb, leb}
use Rattle.spec_fields.specs.Field.{Alignment, bit_packed, byte_aligned}
use Rattle.spec_exi.specs.Sizes.{max_values}

-- There is no schema. All else is as EXI's default options have it: no prefixes, DTD, lexical
-- values or self-contained elements are kept, and nothing is compressed.
pub record Settings : Type 0 where
  pub alignment : Alignment
  pub cookie : Bool
  pub comments : Bool
  pub instructions : Bool
  -- the stream is a fragment, no document (EXI 8.4.2; P1)
  pub fragment : Bool
  -- valueMaxLength and valuePartitionCapacity (EXI 5.4, 7.3.3; P5); none is unbounded
  pub longest : Option ℕ
  pub capacity : Option ℕ

-- The settings' numbers, as a caller hands them over (ours): all 0 is the base.
pub record SettingNumbers : Type 0 where
  pub alignment : ℕ
  pub cookie : ℕ
  pub comments : ℕ
  pub instructions : ℕ
  pub fragment : ℕ
  -- 0 is unbounded, and a bound n is n + 1 (ours)
  pub value_length : ℕ
  pub value_capacity : ℕ
  pub loose : ℕ
  pub prefixes : ℕ
  pub grammar_cap : ℕ

-- Each number has a meaning (which numbers is our choice): alignment 0 is bit-packed and 1
-- byte-aligned, cookie, comments, instructions and fragment 0 is no and 1 yes; any value length has
-- a meaning, and a value capacity up to our value size, as n + 1 (P5). The last three are reserved:
-- no number but 0 has a meaning yet. Else SETTINGS (scope, "Refusal numbers", 2).
unfoldable pub meaningful : SettingNumbers → Bool
meaningful o =
    leb o.alignment 1
    && leb o.cookie 1
    && leb o.comments 1
    && leb o.instructions 1
    && leb o.fragment 1
    && leb o.value_capacity (suc max_values)
    && eqb o.loose 0
    && eqb o.prefixes 0
    && eqb o.grammar_cap 0

-- A bound as its number has it (ours): 0 is none, n + 1 is n.
unfoldable pub bound_of : ℕ → Option ℕ
bound_of zero = none
bound_of (suc n) = some n

-- What the numbers mean (scope, "What is bought").
unfoldable pub settings_of : SettingNumbers → Settings
settings_of o =
    record {
      alignment = cond (eqb o.alignment 1) byte_aligned bit_packed;
      cookie = eqb o.cookie 1;
      comments = eqb o.comments 1;
      instructions = eqb o.instructions 1;
      fragment = eqb o.fragment 1;
      longest = bound_of o.value_length;
      capacity = bound_of o.value_capacity;
    }

-- The octets of the header (EXI 5; scope, "Fields"): the cookie "$EXI" if set, then bits 10, no
-- options, version 1.
unfoldable pub header_of : Settings → List ℕ
header_of s = cond s.cookie (0x24 ∷ 0x45 ∷ 0x58 ∷ 0x49 ∷ []) [] ++ (0x80 ∷ [])
