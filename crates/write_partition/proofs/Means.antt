-- What the judgement of a string means, by its form.
use Prim.Native.Nat.{ℕ, ◌+◌, ◌≤◌, ◌<◌}
use native.Mathlib.Omega.{arith}
use mathlib.Core.Path.{◌≡◌, sym, ap, subst, ◌∙◌}
use mathlib.Core.Bool.{Bool, true, false}
use mathlib.Core.List.{[], ◌∷◌, ◌++◌}
use lib.ListN.{length, replicate, length-append}
use Rattle.spec_fields.specs.Bits.{Bits}
use Rattle.spec_fields.specs.Field.{Alignment}
use Rattle.spec_fields.specs.Refusal.{number_of, character, name, limit}
use Rattle.text.specs.Text.{Text}
use Rattle.spec_exi.specs.Sizes.{sizes, max_string, max_store}
use Rattle.spec_exi.specs.Tables.{Role, partitions_of, hit, literal, form_of, form_bits, added}
use Rattle.spec_exi.specs.Tables.{name_allowed, text_allowed}
use Rattle.spec_exi.specs.Context.{item}
use Rattle.spec_exi.specs.Lists.{within_tables}
use Rattle.spec_exi.specs.Writer.{first_failed, string_tests}
use Rattle.spec_exi.specs.Alike.{AlikeTables}
use Rattle.spec_exi.proofs.Alike.{alike_same, alike_then}
use Rattle.mem_rows.specs.Rows.{Rows, tables_of}
use Rattle.mem_rows.specs.Valid.{Valid}
use Rattle.mem_rows.proofs.Alike.{rows-tables}
use Rattle.write_partition.specs.Writable.{Written, Writable, Few, tables_in}
use Rattle.write_partition.specs.Judged.{fault_number, literal_tests, StringMeans}
use Rattle.write_partition.proofs.Tests.{passed-test}
use Rattle.write_partition.proofs.Strings.{long-tests, hit-after, hit-bits, hit-tests}
use Rattle.write_partition.proofs.Strings.{literal-after, literal-bits, literal-tests}
use Rattle.write_partition.proofs.Rows.{zeros, store-count, few-within}

module _ (role : Role) (w : Rows) (stored : ℕ) (x : Text) where
  -- ---- a refusal

  pub refused-means : {v : Rows} {number stored' : ℕ} {bits : Alignment → Bits} → 0 < number
      → number ≡ fault_number (first_failed (string_tests sizes (tables_in w stored) (item role x)))
      → StringMeans role w v stored x number stored' bits
  refused-means h e =
      record {
        fault = e;
        bits_are = λ z. absurd (omega arith);
        after = λ z. absurd (omega arith);
        valid = λ z. absurd (omega arith);
        writable = λ z. absurd (omega arith);
      }

  pub long-means : max_string < length x → {v : Rows} {stored' : ℕ} {bits : Alignment → Bits}
      → StringMeans role w v stored x 12 stored' bits
  unfolding item fault_number number_of
  long-means h =
      refused-means (omega arith)
      (ap fault_number (sym (long-tests (tables_in w stored) (item role x) h)))

  -- ---- a hit

  module _ {j i : ℕ} (e : form_of (partitions_of (tables_in w stored) role) x ≡ hit j i) (few : Few w)
      (low : stored ≤ max_store) (judged : Written x) (whole : text_allowed role x ≡ true) where
    tests-are : first_failed (string_tests sizes (tables_in w stored) (item role x))
        ≡ first_failed ((name_allowed role x, name) ∷ [])
    tests-are = hit-tests (tables_in w stored) role x e judged whole (few-within few low)

    pub hit-refused : name_allowed role x ≡ false → {v : Rows} {stored' : ℕ} {bits : Alignment → Bits}
        → StringMeans role w v stored x 11 stored' bits
    unfolding fault_number number_of first_failed
    hit-refused n = refused-means (omega arith) (rw (tests-are, n))

    pub hit-means : name_allowed role x ≡ true → Valid w → Writable w → {bits : Alignment → Bits}
        → ((a : Alignment)
        → form_bits a (partitions_of (tables_in w stored) role) (hit j i) x ≡ bits a)
        → StringMeans role w w stored x 0 stored bits
    unfolding fault_number first_failed
    hit-means n valid writable bits =
        let t = tables_in w stored in
        record {
          fault = rw (tests-are, n);
          bits_are = λ _ a. hit-bits t role x e a ∙ bits a;
          after = λ _. subst (λ u. AlikeTables u t) (sym (hit-after t role x e)) (alike_same t);
          valid = λ _. valid;
          writable = λ _. writable;
        }

  -- ---- a literal

  module _ (e : form_of (partitions_of (tables_in w stored) role) x ≡ literal) where
    pub literal-fault : length x ≤ max_string → text_allowed role x ≡ true → (left : Bool)
        → (stored + length x ≤ max_store → within_tables sizes (added (tables_in w stored) role x) ≡ left)
        → {number : ℕ}
        → number ≡ fault_number
        (first_failed (literal_tests x stored ++ ((name_allowed role x, name) ∷ (left, limit) ∷ [])))
        → number ≡ fault_number (first_failed (string_tests sizes (tables_in w stored) (item role x)))
    literal-fault s whole left within f =
        f ∙ ap fault_number
        (sym (passed-test (literal_tests x stored) _ (text_allowed role x) character whole)
        ∙ sym (literal-tests (tables_in w stored) role x e (store-count w stored) s left within))

    -- Of the store its length counts alone.
    pub literal-means : {v : Rows} {bits : Alignment → Bits}
        → 0 ≡ fault_number (first_failed (string_tests sizes (tables_in w stored) (item role x)))
        → ((a : Alignment)
        → form_bits a (partitions_of (tables_in w stored) role) literal x ≡ bits a)
        → AlikeTables (added (tables_in w stored) role x) (tables_of v (replicate stored 0 ++ x))
        → Valid v → Writable v
        → StringMeans role w v stored x 0 (stored + length x) bits
    literal-means {v} f bits alike valid writable =
        let t = tables_in w stored in
        let joined : AlikeTables (added t role x) (tables_in v (stored + length x)) =
        alike_then alike
        (rows-tables (alike_same v) (replicate stored 0 ++ x) (replicate (stored + length x) 0)
        (omega (
          arith,
          length-append (replicate {A = ℕ} stored 0) x,
          zeros stored,
          zeros (stored + length x),
        ))) in
        record {
          fault = f;
          bits_are = λ _ a. literal-bits t role x e a ∙ bits a;
          after = λ _. subst (λ u. AlikeTables u (tables_in v (stored + length x)))
              (sym (literal-after t role x e)) joined;
          valid = λ _. valid;
          writable = λ _. writable;
        }
