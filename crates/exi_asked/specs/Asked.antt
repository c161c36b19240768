-- The settings that the words of the command line ask for.
use Rattle.std.specs.Prelude.{ℕ, ◌+◌, ◌%◌, Bool, cond, Option, Some, None}
use Rattle.settings.specs.declared.SettingNumbers.{SettingNumbers}
use Rattle.exi_asked.specs.declared.Asked.{Asked}

-- None where it is not given; else one more than its number (a word has at most nine digits).
abbrev pub bound_of : Option ℕ → ℕ
bound_of None = 0
bound_of (Some n) = (n + 1) % 4294967296

abbrev pub one_if : Bool → ℕ
one_if given = cond given 1 0

-- Bit-packed unless byte-aligned is given. What has no flag is at its base.
abbrev pub numbers_of : Asked → SettingNumbers
numbers_of a =
    record {
      alignment = one_if a.byte_aligned;
      cookie = one_if a.cookie;
      comments = one_if a.comments;
      instructions = one_if a.instructions;
      fragment = one_if a.fragment;
      value_length = bound_of a.max_length;
      value_capacity = bound_of a.capacity;
      loose = 0;
      prefixes = 0;
      grammar_cap = 0;
    }
