-- A string of the list that joins lies in the list's own store.
use Prim.Native.Nat.{ℕ, ◌+◌, ◌≤◌}
use native.Mathlib.Omega.{arith}
use native.Mathlib.Nat.{le_refl}
use mathlib.Core.Path.{◌≡◌, refl, sym, ap}
use mathlib.Core.Bool.{Bool}
use mathlib.Core.List.{List}
use lib.ListN.{length}
use borrow.Author.Tests.{le-ltb}
use Rattle.spec_fields.proofs.Tests.{is_t}
use Rattle.text.specs.Text.{inside, part}
use Rattle.text.proofs.Parts.{inside-fits, part_length}
use Rattle.event.specs.declared.Part.{Part}
use Rattle.event.specs.Cells.{as_span}
use Rattle.spec_exi.specs.Tables.{Placed}
use Rattle.mem_entries.specs.Texts.{up_to}
use Rattle.mem_state.specs.Strung.{Lain}
use Rattle.write_partition.specs.Writable.{source_of}
use Rattle.write_qname.specs.Premise.{Inside, part_at}
use Rattle.write_qname.specs.Qnames.{joining_of}

-- As it joins the rows.
abbrev pub placed_in : List ℕ → Part → Placed
placed_in text x = record { place = x.place; text = part_at text x }

module _ {text : List ℕ} {x : Part} (i : Inside text x) where
  fits_in : x.place + x.size ≤ length text
  unfolding as_span
  fits_in = inside-fits text (as_span x) (is_t (inside text (as_span x)) i.is)

  size_in : length (part_at text x) ≡ x.size
  unfolding as_span
  size_in = part_length text (as_span x) fits_in

  pub lain-in : (joins : Bool) (hash : ℕ)
      → Lain (up_to text (length text)) (joining_of x joins hash) (placed_in text x)
  unfolding as_span
  lain-in joins hash =
      record {
        place = refl;
        size = sym size_in;
        lies = record {
          ends = omega (arith, size_in, fits_in);
          inside = le_refl (length text);
          text = ap (λ n. part text (record { place = x.place; size = n })) size_in;
        };
      }

-- No row after the initial entries lies in the opening text.
pub source-after : (first : ℕ) (opening text : List ℕ) (i : ℕ) → first ≤ i
    → source_of first opening text i ≡ up_to text (length text)
unfolding source_of
source-after first opening text i h = rw (le-ltb i first h)
