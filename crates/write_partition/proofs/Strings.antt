-- The tests and bits of a string by its form, and of one list of items after another.
use Prim.Native.Nat.{ℕ, ◌+◌, ◌-◌, ◌*◌, ◌≤◌, ◌<◌}
use native.Mathlib.Omega.{arith}
use mathlib.Core.Path.{◌≡◌, refl}
use mathlib.Core.Bool.{Bool, true, false, ◌&&◌}
use mathlib.Core.List.{List, [], ◌∷◌, ◌++◌, append_assoc}
use mathlib.Core.Option.{some}
use lib.ListN.{length, length-append}
use lib.Dec.{leb}
use borrow.Author.Tests.{leb-true, le-leb, lt-leb}
use Rattle.spec_fields.specs.Bits.{each}
use Rattle.spec_fields.specs.Field.{Alignment, unsigned_bits}
use Rattle.spec_fields.specs.Refusal.{character, name, limit}
use Rattle.spec_fields.proofs.Tests.{split, is_t, T-is, right}
use Rattle.text.specs.Text.{Text}
use Rattle.spec_exi.specs.Sizes.{sizes, max_uris, max_names, max_values, max_string, max_store}
use Rattle.spec_exi.specs.Tables.{Tables, gone, Role, partitions_of, hit, literal, form_of}
use Rattle.spec_exi.specs.Tables.{string_bits, form_bits, added, tables_after, name_allowed, text_allowed}
use Rattle.spec_exi.specs.Context.{Item, item, after_item, after_items}
use Rattle.spec_exi.specs.Strict.{item_bits, items_bits}
use Rattle.spec_exi.specs.Lists.{short, within_tables}
use Rattle.spec_exi.specs.Writer.{first_failed, string_tests, content_tests}
use Rattle.write_field.proofs.Lengths.{unsigned-length}
use Rattle.write_partition.specs.Writable.{Written}
use Rattle.write_partition.specs.Judged.{literal_tests}

-- ---- one list of items after another

pub after-append : (t : Tables) (is js : List Item)
    → after_items t (is ++ js) ≡ after_items (after_items t is) js
unfolding after_items
after-append t [] js = refl
after-append t (i ∷ is) js = after-append (after_item t i) is js

pub content-append : (t : Tables) (is js : List Item)
    → content_tests sizes t (is ++ js)
    ≡ content_tests sizes t is ++ content_tests sizes (after_items t is) js
unfolding content_tests after_items
content-append t [] js = refl
content-append t (i ∷ is) js = rw (content-append (after_item t i) is js, append_assoc)

pub bits-append : (a : Alignment) (t : Tables) (is js : List Item)
    → items_bits a t (is ++ js) ≡ items_bits a t is ++ items_bits a (after_items t is) js
unfolding items_bits after_items
bits-append a t [] js = refl
bits-append a t (i ∷ is) js = rw (bits-append a (after_item t i) is js, append_assoc)

-- ---- the length of a String

each-length : (x : Text) → length (each unsigned_bits x) ≤ 40 * length x
unfolding each
each-length [] = omega arith
each-length (p ∷ x) =
    omega (arith, length-append (unsigned_bits p) (each unsigned_bits x), unsigned-length p, each-length x)

pub string-length : (k : ℕ) (x : Text) → length (string_bits k x) ≤ 40 * (length x + 1)
unfolding string_bits
string-length k x =
    omega (
      arith,
      length-append (unsigned_bits (length x + k)) (each unsigned_bits x),
      unsigned-length (length x + k),
      each-length x,
    )

-- ---- a string that is too long, whatever its form

pub long-tests : (t : Tables) (i : Item) → max_string < length i.text
    → first_failed (string_tests sizes t i) ≡ some limit
unfolding string_tests first_failed short
long-tests t i h = rw (lt-leb (length i.text) max_string h)

-- ---- a name that is not written

pub unwritten_after : (t : Tables) (role : Role) (x : Text)
    → after_item t (record { role = role; written = false; text = x }) ≡ t
unfolding after_item
unwritten_after t role x = refl

pub unwritten-bits : (a : Alignment) (t : Tables) (role : Role) (x : Text)
    → item_bits a t (record { role = role; written = false; text = x }) ≡ []
unfolding item_bits
unwritten-bits a t role x = refl

-- ---- a hit

within-store : (t : Tables) → within_tables sizes t ≡ true → leb (length t.store) max_store ≡ true
unfolding within_tables
within-store t e =
    let others : Bool = leb (length t.uris) max_uris && leb (length t.names) max_names
    && leb (length t.values.added - gone t.values) max_values in
    let store : Bool = leb (length t.store) max_store in
    T-is store (right others store (is_t (others && store) e))

module _ (t : Tables) (role : Role) (x : Text) {j i : ℕ}
    (e : form_of (partitions_of t role) x ≡ hit j i) where
  pub hit-after : after_item t (item role x) ≡ t
  unfolding after_item item tables_after
  hit-after = rw e

  pub hit-bits : (a : Alignment)
      → item_bits a t (item role x) ≡ form_bits a (partitions_of t role) (hit j i) x
  unfolding item_bits item
  hit-bits a = rw e

  -- Of a text that was judged, NAME is left to be tested.
  pub hit-tests : Written x → text_allowed role x ≡ true → within_tables sizes t ≡ true
      → first_failed (string_tests sizes t (item role x))
      ≡ first_failed ((name_allowed role x, name) ∷ [])
  unfolding string_tests first_failed short item
  hit-tests w b f =
      rw (
        hit-after,
        le-leb (length x) max_string w.short,
        within-store t f,
        w.chars,
        b,
        f,
      )

  -- Tests are the same of a name that is not written.
  pub hit-unwritten : string_tests sizes t (record { role = role; written = false; text = x })
      ≡ string_tests sizes t (item role x)
  unfolding string_tests item
  hit-unwritten = rw (hit-after, unwritten_after t role x)

-- ---- a literal

module _ (t : Tables) (role : Role) (x : Text) (e : form_of (partitions_of t role) x ≡ literal) where
  pub literal-after : after_item t (item role x) ≡ added t role x
  unfolding after_item item tables_after
  literal-after = rw e

  pub literal-bits : (a : Alignment)
      → item_bits a t (item role x) ≡ form_bits a (partitions_of t role) literal x
  unfolding item_bits item
  literal-bits a = rw e

  added-length : length (added t role x).store ≡ length t.store + length x
  unfolding added
  added-length = length-append t.store x

  -- The tests after the first; whether its table has a row left counts only where the store has room.
  pub literal-tests : {stored : ℕ} → length t.store ≡ stored → length x ≤ max_string → (left : Bool)
      → (stored + length x ≤ max_store → within_tables sizes (added t role x) ≡ left)
      → first_failed (string_tests sizes t (item role x))
      ≡ first_failed (literal_tests x stored
      ++ ((text_allowed role x, character) ∷ (name_allowed role x, name) ∷ (left, limit) ∷ []))
  unfolding string_tests first_failed literal_tests short item
  literal-tests {stored} l s left h =
      split (leb (stored + length x) max_store)
      (λ b. rw (literal-after, added-length, l, le-leb (length x) max_string s, h (leb-true _ _ b)))
      (λ b. rw (literal-after, added-length, l, le-leb (length x) max_string s, b))
