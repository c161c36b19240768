-- The row of a string that was read: of a refusal, of a literal that joins; and that it is the row
-- of what the definitions read.
use Prim.Native.Nat.{ℕ, ◌<◌}
use native.Mathlib.Omega.{arith}
use mathlib.Core.Path.{◌≡◌, refl, sym}
use mathlib.Core.Bool.{true, true≢false}
use mathlib.Core.List.{List}
use Rattle.text.specs.Text.{part}
use Rattle.spec_exi.specs.Sizes.{max_uris, max_names}
use Rattle.mem_entries.specs.Texts.{hash_of}
use Rattle.read_partition.specs.Strings.{refused_as, literal_as}
use Rattle.read_names.specs.Uris.{UriRowed}
use Rattle.read_names.specs.Names.{NameRowed}

-- ---- URIs

module _ {text : List ℕ} {stored : ℕ} {work : List ℕ} {uris : ℕ} {text' : List ℕ} where
  pub uri-refused-row : {k next left : ℕ} → 0 < k
      → UriRowed text stored work uris text' (refused_as k next left stored)
  uri-refused-row h =
      record {
        low = λ z. absurd (omega arith);
        left = λ j. absurd (true≢false (sym j));
        new = λ j. absurd (true≢false (sym j));
        unhashed = refl;
        old = λ z. absurd (omega arith);
      }

  pub uri-new-row : (next n : ℕ) → uris < max_uris
      → UriRowed text stored work uris text' (literal_as next stored n uris true 0)
  unfolding max_uris
  uri-new-row next n h =
      record {
        low = λ _. omega arith;
        left = λ _. h;
        new = λ _. refl;
        unhashed = refl;
        old = λ _ j. absurd (true≢false j);
      }

-- ---- local names

module _ {text : List ℕ} {stored : ℕ} {work : List ℕ} {names uri : ℕ} {text' : List ℕ} where
  pub name-refused-row : {k next left : ℕ} → 0 < k
      → NameRowed text stored work names uri text' (refused_as k next left stored)
  name-refused-row h =
      record {
        low = λ z. absurd (omega arith);
        left = λ j. absurd (true≢false (sym j));
        new = λ j. absurd (true≢false (sym j));
        hashed = record { is = λ j. absurd (true≢false (sym j)) };
        old = λ z. absurd (omega arith);
      }

  pub name-new-row : (next n hash : ℕ) → names < max_names
      → hash ≡ hash_of (part text' (record { place = stored; size = n }))
      → NameRowed text stored work names uri text' (literal_as next stored n names true hash)
  unfolding max_names
  name-new-row next n hash h e =
      record {
        low = λ _. omega arith;
        left = λ _. h;
        new = λ _. refl;
        hashed = record { is = λ _. e };
        old = λ _ j. absurd (true≢false j);
      }
