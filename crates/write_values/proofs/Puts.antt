-- A value, written: a hit by its partition, or the String.
use Prim.Native.Nat.{ℕ, ◌-◌}
use native.Mathlib.Omega.{arith}
use mathlib.Core.Path.{◌≡◌, subst}
use mathlib.Core.List.{List}
use borrow.Author.Tests.{eq-eqb, ne_eqb}
use Rattle.spec_fields.specs.Field.{Alignment}
use Rattle.spec_fields.proofs.Tests.{is_t}
use Rattle.text.specs.Text.{Text, all_chars}
use Rattle.spec_exi.specs.Sizes.{max_string, max_store}
use Rattle.spec_exi.specs.Tables.{string_bits}
use Rattle.mem_values.specs.Hold.{CountedLocal}
use Rattle.mem_values.specs.Window.{Replaced}
use Rattle.write_field.specs.Written.{Put}
use Rattle.write_string.specs.Fits.{PutStringPre}
use Rattle.write_partition.specs.Bits.{hit_bits, HitPre}
use Rattle.mem_values.specs.declared.Form.{Form}
use Rattle.write_values.specs.Values.{partition_in, own, all, value_bits, PutValuePre}

pub of-form : {stream : List ℕ} {at owner values : ℕ} {x : Text} {work : List ℕ} {f g : Form} → f ≡ g
    → PutValuePre stream at (partition_in f) owner values x work
    → PutValuePre stream at (partition_in g) owner values x work
of-form {stream} {at} {owner} {values} {x} {work} e h =
    subst (λ f. PutValuePre stream at (partition_in f) owner values x work) e h

module _ {stream : List ℕ} {at partition owner values : ℕ} {x : Text} {work : List ℕ}
    (h : PutValuePre stream at partition owner values x work) where
  pub own-asks : {among : ℕ} → CountedLocal work owner among → HitPre stream at 0 among
  unfolding max_string
  own-asks c =
      record {
        blank = h.blank;
        near = omega (arith, h.near);
        which = omega arith;
        few = omega (arith, c.within);
      }

  pub all-asks : {capacity low : ℕ} → Replaced values capacity low → HitPre stream at 1 (values - low)
  unfolding max_string max_store
  all-asks c =
      record {
        blank = h.blank;
        near = omega (arith, h.near);
        which = omega arith;
        few = omega (arith, h.few);
      }

  pub string-asks : (partition ≡ own → ⊥) → (partition ≡ all → ⊥) → PutStringPre stream at 2 x
  unfolding max_string
  string-asks a b =
      let t = h.literal a b in
      record {
        blank = h.blank;
        near = omega (arith, h.near, t.short);
        few = omega arith;
        small = t.short;
        chars = is_t (all_chars x) t.chars;
      }

  module _ (id capacity : ℕ) (a : Alignment) {after : List ℕ} {r : ℕ} where
    pub own_put : partition ≡ own → {among : ℕ} → CountedLocal work owner among
        → Put stream at (hit_bits a 0 among id) after r
        → Put stream at (value_bits work partition id owner values capacity x a) after r
    unfolding value_bits
    own_put e c p = rw (eq-eqb partition own e, ← c.is) p

    pub all-put : (partition ≡ own → ⊥) → partition ≡ all → {low : ℕ} → Replaced values capacity low
        → Put stream at (hit_bits a 1 (values - low) id) after r
        → Put stream at (value_bits work partition id owner values capacity x a) after r
    unfolding value_bits
    all-put n e c p = rw (ne_eqb partition own n, eq-eqb partition all e, ← c.is) p

    pub string-put : (partition ≡ own → ⊥) → (partition ≡ all → ⊥)
        → Put stream at (string_bits 2 x) after r
        → Put stream at (value_bits work partition id owner values capacity x a) after r
    unfolding value_bits
    string-put n m p = rw (ne_eqb partition own n, ne_eqb partition all m) p
