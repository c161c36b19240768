-- Rows of names as the keys of values: each has a name of its own, and every value has such a key.
use Prim.Native.Nat.{ℕ, ◌<◌}
use mathlib.Core.Path.{◌≡◌}
use mathlib.Core.Bool.{Bool, true}
use lib.ListN.{length}
use lib.Dec.{ltb}
use borrow.Author.Tests.{ltb-true, lt-ltb}
use Rattle.text.specs.Text.{Text}
use Rattle.mem_entries.specs.Entries.{key_at, Alike, Keys, Keyed}
use Rattle.mem_entries.proofs.Alike.{named-alike}
use Rattle.mem_rows.specs.Rows.{Rows, name_at, tables_of}
use Rattle.mem_rows.specs.Valid.{Valid}

abbrev pub is_name : Rows → ℕ → Bool
is_name w i = ltb i (length w.names)

pub is_name_lem : (w : Rows) (n : ℕ) → n < length w.names → is_name w n ≡ true
is_name_lem w n h = lt-ltb n (length w.names) h

module _ {w : Rows} (v : Valid w) where
  pub name-keys : Keys (name_at w) (is_name w)
  name-keys =
      record {
        once = λ i j a b e. v.distinct.names i j (ltb-true i (length w.names) a)
            (ltb-true j (length w.names) b) e;
      }

  pub value-keys : Keyed (is_name w) w.values
  value-keys =
      record { each = λ i h. is_name_lem w (key_at w.values i) (v.refers.values.below i h) }

-- The definitions' values have the texts of the rows, under the names that their keys mean.
pub values-alike : (w : Rows) (store : Text) → Alike (name_at w) (tables_of w store).values.added
    w.values
unfolding tables_of
values-alike w store = named-alike (name_at w) w.values
