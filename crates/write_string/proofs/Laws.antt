-- What the loop over a string's code points needs: a Char fits an Unsigned Integer, the bits of one
-- code point more, and the positions stay near.
use mathlib.Core.Path.{◌≡◌, sym, ◌∙◌, ap, subst}
use mathlib.Core.List.{List, [], ◌∷◌, ◌++◌, append_assoc, append-nil}
use Prim.Native.Nat.{ℕ, zero, suc, ◌+◌, ◌*◌, ◌/◌, ◌%◌, ◌≤◌, ◌<◌}
use native.Mathlib.Numerals.{add-one}
use native.Mathlib.Omega.{arith}
use lib.ListN.{length, get_or, take}
use lib.Seq.{take-length}
use lib.Dec.{T}
use mir.Syntax.{w8}
use mir.Val.{Fits}
use Rattle.spec_fields.specs.Bits.{each}
use Rattle.spec_fields.specs.Field.{max_unsigned, unsigned_bits}
use Rattle.spec_fields.proofs.Tests.{left, right}
use Rattle.text.specs.Text.{Text, is_char, all_chars}
use Rattle.text.proofs.Char.{char-bound}
use Rattle.write_field.specs.Written.{blank_from, Put, farthest}
use Rattle.write_field.proofs.Written.{put_then, put-blank, put-nothing}
use Rattle.write_field.proofs.Lengths.{unsigned-length}
use Rattle.write_string.specs.Fits.{PutCharacterPre, max_number_bits}

pub chars-small : (x : Text) (i : ℕ) → T (all_chars x) → i < length x → get_or x i 0 ≤ max_unsigned
unfolding all_chars max_unsigned
chars-small [] i t h = absurd (omega arith)
chars-small (p ∷ x) zero t h = omega (arith, char-bound p (left (is_char p) (all_chars x) t))
chars-small (p ∷ x) (suc i) t h = chars-small x i (right (is_char p) (all_chars x) t) (omega arith)

each_more : (x : Text) (i : ℕ) → i < length x
    → each unsigned_bits (take (suc i) x) ≡ each unsigned_bits (take i x) ++ unsigned_bits (get_or x i 0)
unfolding each
each_more [] i h = absurd (omega arith)
each_more (p ∷ x) zero h = append-nil (unsigned_bits p)
each_more (p ∷ x) (suc i) h =
    ap (λ b. unsigned_bits p ++ b) (each_more x i (omega arith))
    ∙ sym (append_assoc (unsigned_bits p) (each unsigned_bits (take i x)) (unsigned_bits (get_or x i 0)))

-- The first i code points are written, and the next stands at bit k of octet j.
pub record Going (buf₀ : List ℕ) (at k : ℕ) (x : Text) (buf : List ℕ) (j i : ℕ) : Type 0 where
  pub passed : i ≤ length x
  pub put : Put buf₀ at (each unsigned_bits (take i x)) buf (8 * j + k)
  pub near : 8 * j + k ≤ at + max_number_bits * i

module _ {buf₀ : List ℕ} {at : ℕ} (x : Text) where
  pub going_start : ((i : ℕ) → Fits w8 (get_or buf₀ i 0)) → T (blank_from buf₀ at)
      → Going buf₀ at (at % 8) x buf₀ (at / 8) 0
  unfolding each
  going_start known blank =
      let e : 8 * (at / 8) + at % 8 ≡ at = omega arith in
      record { passed = omega arith; put = rw e (put-nothing known blank); near = omega arith }

  module _ {buf : List ℕ} {k j i : ℕ} (g : Going buf₀ at k x buf j i) where
    pub going-asks : k < 8 → at + max_number_bits * length x ≤ farthest → T (all_chars x) → i < length x
        → PutCharacterPre buf j k (get_or x i 0)
    going-asks inside near chars h =
        record {
          blank = put-blank g.put;
          near = omega (arith, g.near);
          inside = inside;
          small = chars-small x i chars h;
        }

    pub going_more : {after : List ℕ} {r : ℕ} → i < length x
        → Put buf (8 * j + k) (unsigned_bits (get_or x i 0)) after (8 * r + k)
        → Going buf₀ at k x after r (i + 1)
    going_more {after} {r} h p =
        rw (add-one i)
        (record {
          passed = h;
          put = rw (each_more x i h) (put_then g.put p);
          near = omega (arith, g.near, p.next, unsigned-length (get_or x i 0));
        })

    pub going_done : length x ≤ i → Put buf₀ at (each unsigned_bits x) buf (8 * j + k)
    going_done h =
        let n : i ≡ length x = omega (arith, g.passed) in
        let whole : take i x ≡ x = ap (λ m. take m x) n ∙ take-length x in
        subst (λ l. Put buf₀ at (each unsigned_bits l) buf (8 * j + k)) whole g.put
