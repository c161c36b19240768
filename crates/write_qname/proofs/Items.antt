-- What judging strings one after the other means: tests, bits and tables of their items.
use Prim.Native.Nat.{ℕ, ◌<◌}
use native.Mathlib.Omega.{arith}
use mathlib.Core.Path.{◌≡◌, refl, sym, ap, ap₂, subst, ◌∙◌}
use mathlib.Core.List.{List, [], ◌∷◌, ◌++◌, append-nil}
use Rattle.spec_fields.specs.Bits.{Bits}
use Rattle.spec_fields.specs.Field.{Alignment}
use Rattle.text.specs.Text.{Text}
use Rattle.spec_exi.specs.Sizes.{sizes}
use Rattle.spec_exi.specs.Tables.{Tables, Role}
use Rattle.spec_exi.specs.Context.{Item, item, after_items}
use Rattle.spec_exi.specs.Strict.{item_bits, items_bits}
use Rattle.spec_exi.specs.Writer.{first_failed, string_tests, content_tests}
use Rattle.spec_exi.specs.Alike.{AlikeTables}
use Rattle.spec_exi.proofs.Alike.{alike_same, alike_then, after-items-alike, items-bits-alike}
use Rattle.spec_exi.proofs.Alike.{content-tests-alike}
use Rattle.mem_rows.specs.Rows.{Rows}
use Rattle.write_partition.specs.Writable.{tables_in}
use Rattle.write_partition.specs.Judged.{fault_number, StringMeans}
use Rattle.write_partition.proofs.Tests.{number-then, number-first}
use Rattle.write_partition.proofs.Strings.{after-append, content-append, bits-append}

-- The first test that fails, as a number; where none does, the bits, and the tables after them.
pub record ItemsMean (t : Tables) (is : List Item) (number : ℕ) (u : Tables)
    (bits : Alignment → Bits) : Type 0 where
  pub fault : number ≡ fault_number (first_failed (content_tests sizes t is))
  pub bits_are : number ≡ 0 → (a : Alignment) → items_bits a t is ≡ bits a
  pub after : number ≡ 0 → AlikeTables (after_items t is) u

pub no_items : (t : Tables) → ItemsMean t [] 0 t (λ a. [])
unfolding content_tests first_failed fault_number items_bits after_items
no_items t = record { fault = refl; bits_are = λ _ a. refl; after = λ _. alike_same t }

pub one-item : {role : Role} {w v : Rows} {stored : ℕ} {x : Text} {number stored' : ℕ}
    {bits : Alignment → Bits} → StringMeans role w v stored x number stored' bits
    → ItemsMean (tables_in w stored) (item role x ∷ []) number (tables_in v stored') bits
unfolding content_tests items_bits after_items
one-item {role} {w} {stored = stored} {x = x} m =
    let t = tables_in w stored in
    let i = item role x in
    record {
      fault = m.fault
          ∙ ap (λ xs. fault_number (first_failed xs)) (sym (append-nil (string_tests sizes t i)));
      bits_are = λ z a. append-nil (item_bits a t i) ∙ m.bits_are z a;
      after = m.after;
    }

module _ {t : Tables} {is : List Item} {n : ℕ} {t₁ : Tables} {bits : Alignment → Bits}
    (m : ItemsMean t is n t₁ bits) where
  pub items-first : 0 < n → (js : List Item) {u : Tables} {bits₁ : Alignment → Bits}
      → ItemsMean t (is ++ js) n u bits₁
  items-first h js =
      record {
        fault = number-first _ (content_tests sizes (after_items t is) js) m.fault h
            ∙ ap (λ xs. fault_number (first_failed xs)) (sym (content-append t is js));
        bits_are = λ z. absurd (omega arith);
        after = λ z. absurd (omega arith);
      }

  pub items-then : n ≡ 0 → {js : List Item} {k : ℕ} {u : Tables} {bits₁ : Alignment → Bits}
      → ItemsMean t₁ js k u bits₁ → ItemsMean t (is ++ js) k u (λ a. bits a ++ bits₁ a)
  items-then z {js} {k} {u} {bits₁} o =
      let al = m.after z in
      record {
        fault = o.fault
            ∙ ap (λ xs. fault_number (first_failed xs)) (sym (content-tests-alike sizes al js))
            ∙ sym (number-then _ (content_tests sizes (after_items t is) js) m.fault z)
            ∙ ap (λ xs. fault_number (first_failed xs)) (sym (content-append t is js));
        bits_are = λ y a. bits-append a t is js
            ∙ ap₂ ◌++◌ (m.bits_are z a) (items-bits-alike al a js ∙ o.bits_are y a);
        after = λ y. subst (λ v. AlikeTables v u) (sym (after-append t is js))
            (alike_then (after-items-alike al js) (o.after y));
      }

  pub items-passed : n ≡ 0 → ItemsMean t is 0 t₁ bits
  items-passed z = subst (λ k. ItemsMean t is k t₁ bits) z m
