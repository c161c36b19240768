-- The cells of the value table.
use Rattle.std.specs.Prelude.{ℕ, ◌+◌, ◌/◌, ◌%◌, Bool, List, get_or}
use Rattle.text.specs.Text.{Text}
use Rattle.mem_layout.specs.Layout.{value_text_heads, value_code_heads, value_counts, value_buckets}
use Rattle.mem_layout.specs.Layout.{value_ring, value_places, value_sizes, value_text_nexts, value_codes}
use Rattle.mem_layout.specs.Layout.{value_code_nexts}
use Rattle.mem_chain.specs.Chain.{linked, walked_from}
use Rattle.mem_index.specs.declared.Index.{Index}
use Rattle.mem_index.specs.Index.{numbers, joined}
use Rattle.mem_entries.specs.Texts.{hash_of, row_has, with_text}
use Rattle.mem_entries.specs.Entries.{Entries, text_at}
use Rattle.mem_values.specs.declared.Value.{Value}

-- Values by owner and number.
abbrev pub value_index : Index
value_index =
    record {
      heads = value_code_heads;
      size = value_buckets;
      codes = value_codes;
      nexts = value_code_nexts;
      ring = value_ring;
    }

-- Values by text.
abbrev pub text_bucket : Entries → ℕ → ℕ
text_bucket es i = hash_of (text_at es i) % value_buckets

unfoldable pub row_has_text : List ℕ → Text → Text → ℕ → Bool
row_has_text work store x row = row_has work store (value_places + row) (value_sizes + row) x

unfoldable pub value_in : List ℕ → ℕ → Value
value_in work row =
    record {
      owner = get_or work (value_codes + row) 0 / numbers;
      number = get_or work (value_codes + row) 0 % numbers;
      place = get_or work (value_places + row) 0;
      size = get_or work (value_sizes + row) 0;
    }

-- What a search by text finds in memory.
unfoldable pub found_in : List ℕ → Text → Text → ℕ → ℕ → ℕ → ℕ
found_in work store x h n low =
    walked_from work (value_text_heads + h % value_buckets) value_text_nexts value_ring n low
    (row_has_text work store x)

-- Work memory with value n: its text, its number, its link.
unfoldable pub with_value : List ℕ → ℕ → ℕ → ℕ → ℕ → ℕ → List ℕ
with_value work n owner place size h =
    linked
    (joined
    (with_text work (value_places + n % value_ring) (value_sizes + n % value_ring) place size)
    value_index
    value_counts
    n
    owner)
    (value_text_heads + h % value_buckets)
    value_text_nexts
    value_ring
    n
