-- A hit, written: its partition, then its compact identifier.
use Prim.Native.Nat.{ℕ, ◌-◌, ◌≤◌, ◌<◌}
use native.Mathlib.Omega.{arith}
use mathlib.Core.Path.{◌≡◌}
use mathlib.Core.List.{List, []}
use lib.ListN.{length, get_or}
use lib.Dec.{ltb}
use borrow.Author.Tests.{ltb-true}
use Rattle.spec_fields.specs.Field.{Alignment, max_unsigned, unsigned_bits, choice_bits}
use Rattle.spec_fields.proofs.Tests.{split}
use Rattle.text.specs.Text.{Text}
use Rattle.spec_exi.specs.Tables.{Slot, literals, hit, form_bits}
use Rattle.mem_chain.specs.Chain.{below}
use Rattle.mem_chain.proofs.Last.{below_in}
use Rattle.write_field.specs.Written.{Put, PutChoicePre, PutUnsignedPre}
use Rattle.write_field.proofs.Written.{put-blank, put_then}
use Rattle.write_field.proofs.Lengths.{unsigned-length}
use Rattle.write_partition.specs.Bits.{hit_bits, HitPre}

-- One of m, whatever the identifier is.
below_one : (m i : ℕ) → below m i ≤ m - 1
unfolding below
below_one m i =
    split (ltb i m) (λ t. rw t (omega (arith, ltb-true i m t))) (λ t. rw t (omega arith))

module _ {stream : List ℕ} {at partition among : ℕ} (h : HitPre stream at partition among) where
  pub partition-asks : PutUnsignedPre stream at partition
  unfolding max_unsigned
  partition-asks = record { blank = h.blank; near = omega arith; small = omega arith }

  module _ {mid : List ℕ} {next v : ℕ} (i : ℕ) (p : Put stream at (unsigned_bits partition) mid next)
      (e : v ≡ below among i) where
    pub id-asks : PutChoicePre mid next among v
    id-asks =
        record {
          blank = put-blank p;
          near = omega (arith, p.next, unsigned-length partition);
          few = h.few;
          one = rw e (below_one among i);
        }

    pub hit-put : (a : Alignment) {after : List ℕ} {r : ℕ}
        → Put mid next (choice_bits a among v) after r
        → Put stream at (hit_bits a partition among i) after r
    unfolding hit_bits
    hit-put a q = put_then p (rw e at q)

-- The bits of a hit by the definitions, where the identifier is among so many.
pub hit-form-bits : (a : Alignment) (ess : List (List Slot)) (j i : ℕ) (x : Text) {among : ℕ}
    → length (get_or ess j []) ≡ among → i < among → form_bits a (literals ess) (hit j i) x ≡ hit_bits a j among i
unfolding form_bits hit_bits
hit-form-bits a ess j i x {among} e h = rw (e, below_in among i h)
