-- An Unsigned Integer is its groups, one octet after the other.
use mathlib.Core.Path.{◌≡◌, refl, sym, ap, ◌∙◌}
use Prim.Native.Nat.{ℕ, zero, suc, ◌+◌, ◌*◌, ◌/◌, ◌%◌, ◌^◌, ◌≤◌, ◌<◌}
use native.Mathlib.Nat.{pow-suc}
use native.Mathlib.Omega.{arith}
use mathlib.Core.List.{List, [], ◌++◌, append_assoc, append-nil}
use lib.ListN.{length, get_or, length-append}
use borrow.Author.Tests.{lt-ltb, le-ltb}
use mir.Syntax.{w8}
use mir.Val.{Fits}
use Rattle.spec_fields.specs.Bits.{Bits, bits_of, each, unpack}
use Rattle.spec_fields.specs.Field.{max_octets, max_unsigned, groups, unsigned_bits}
use Rattle.spec_fields.proofs.Number.{length-bits}
use Rattle.write_field.specs.Written.{Put, farthest, PutUnsignedPre}
use Rattle.write_field.proofs.Written.{put_then, put-blank, put-nothing}
use Rattle.write_field.proofs.Field.{FewFit}

last-group : (k v : ℕ) → v < 128 → unpack (groups (suc k) v) ≡ bits_of 8 v
unfolding groups unpack each
last-group k v h = rw (lt-ltb v 128 h) (append-nil (bits_of 8 v))

-- An Unsigned Integer of one octet.
pub unsigned-one : (v : ℕ) → v < 128 → unsigned_bits v ≡ bits_of 8 v
unfolding unsigned_bits max_octets
unsigned-one v h = last-group 4 v h

more-groups : (k v : ℕ) → 128 ≤ v → unpack (groups (suc k) v) ≡ bits_of 8 (v % 128 + 128) ++ unpack (groups k (v / 128))
unfolding groups unpack each
more-groups k v h = rw (le-ltb v 128 h)

-- Some groups of v are written, and those of `rest` are left, at most `left` and one.
pub record Going (buf₀ : List ℕ) (at v : ℕ) (buf : List ℕ) (next rest : ℕ) : Type 0 where
  pub done : Bits
  pub left : ℕ
  pub put : Put buf₀ at done buf next
  pub all : done ++ unpack (groups (suc left) rest) ≡ unsigned_bits v
  pub room : length done + 8 * left ≤ 32
  pub small : rest < 128 ^ suc left

pub started : {buf : List ℕ} {at v : ℕ} → ((i : ℕ) → Fits w8 (get_or buf i 0)) → PutUnsignedPre buf at v
    → Going buf at v buf at v
unfolding unsigned_bits max_octets max_unsigned
started {buf} {at} {v} known h =
    record {
      done = [];
      left = 4;
      put = put-nothing known h.blank;
      all = refl;
      room = omega arith;
      small = omega arith;
    }

pub group-asks : {buf₀ buf : List ℕ} {at v next rest : ℕ} (o : ℕ) → at ≤ farthest
    → Going buf₀ at v buf next rest → o < 256
    → FewFit buf next 8 o
group-asks o l g h = (put-blank g.put, omega (arith, g.room, g.put.next), omega arith, h)

pub finished : {buf₀ buf after : List ℕ} {at v next rest r : ℕ} → Going buf₀ at v buf next rest → rest < 128
    → Put buf next (bits_of 8 rest) after r → Put buf₀ at (unsigned_bits v) after r
finished {rest = rest} g h p = rw (← g.all, last-group g.left rest h) (put_then g.put p)

pub one_more : {buf₀ buf after : List ℕ} {at v next rest r : ℕ} → Going buf₀ at v buf next rest → 128 ≤ rest
    → Put buf next (bits_of 8 (rest % 128 + 128)) after r → Going buf₀ at v after r (rest / 128)
one_more {buf₀} {buf} {after} {at} {v} {next} {rest} {r} g h p = from g.left refl
  where
    from : (k : ℕ) → g.left ≡ k → Going buf₀ at v after r (rest / 128)
    from zero e = let s : rest < 128 ^ 1 = rw e at g.small in absurd (omega arith)
    from (suc k) e =
        let s : rest < 128 ^ suc k * 128 = rw (e, pow-suc 128 (suc k)) at g.small in
        let o = bits_of 8 (rest % 128 + 128) in
        record {
          done = g.done ++ o;
          left = k;
          put = put_then g.put p;
          all =
              append_assoc g.done o (unpack (groups (suc k) (rest / 128)))
              ∙ ap (λ u. g.done ++ u) (sym (more-groups (suc k) rest h))
              ∙ (rw e at g.all);
          room = omega (arith, g.room, length-append g.done o, length-bits 8 (rest % 128 + 128));
          small = omega arith;
        }
