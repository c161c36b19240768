-- Strings by no table: they are always literals, and join nothing.
use Prim.Native.Nat.{ℕ, ◌+◌, ◌≤◌, ◌<◌}
use native.Mathlib.Omega.{arith}
use mathlib.Core.Path.{◌≡◌, refl, sym, ap, ◌∙◌}
use mathlib.Core.Bool.{true, false}
use mathlib.Core.List.{List, [], ◌∷◌, ◌++◌, append_assoc, append-nil}
use lib.ListN.{length, replicate}
use lib.Dec.{leb}
use borrow.Author.Tests.{leb-true, leb-false, le-leb, lt-leb}
use Rattle.spec_fields.specs.Field.{Alignment}
use Rattle.spec_fields.specs.Refusal.{number_of, character, name, limit, number_limit}
use Rattle.spec_fields.proofs.Tests.{split}
use Rattle.text.specs.Text.{Text}
use Rattle.spec_exi.specs.Sizes.{sizes, max_string, max_store}
use Rattle.spec_exi.specs.Tables.{Tables, Role, partitions_of, literal, first_hit, form_of, laid}
use Rattle.spec_exi.specs.Tables.{string_bits, form_bits, added, name_allowed, text_allowed}
use Rattle.spec_exi.specs.Context.{item}
use Rattle.spec_exi.specs.Lists.{short, within_tables}
use Rattle.spec_exi.specs.Writer.{Test, first_failed, string_tests}
use Rattle.spec_exi.proofs.Alike.{alike_same}
use Rattle.mem_rows.specs.Rows.{Rows, tables_of}
use Rattle.mem_rows.specs.Valid.{Valid}
use Rattle.mem_rows.proofs.Joins.{nothing-joins}
use Rattle.mem_rows.proofs.Within.{within_none}
use Rattle.name_rules.specs.declared.Role as declared
use Rattle.name_rules.specs.Texts.{role_in, fault_of}
use Rattle.name_rules.proofs.Texts.{Alone, alone-in}
use Rattle.write_partition.specs.Writable.{Written, Writable, Few, tables_in}
use Rattle.write_partition.specs.Judged.{fault_number, literal_tests, refused_as, literal_as, StringMeans}
use Rattle.write_partition.proofs.Tests.{number-then, number-first, passed-test, Passed, literal-passes}
use Rattle.write_partition.proofs.Strings.{long-tests, literal-tests}
use Rattle.write_partition.proofs.Rows.{store-count, few-within}
use Rattle.write_partition.proofs.Means.{refused-means, literal-means}
use Rattle.write_values.specs.Texts.{text_tests, TextPost}

-- ---- the roles

module _ {role : Role} (k : Alone role) where
  text-form : (t : Tables) (x : Text) → form_of (partitions_of t role) x ≡ literal
  unfolding form_of first_hit
  text-form t x = rw (k.parts t)

  text-bits : (a : Alignment) (t : Tables) (x : Text)
      → form_bits a (partitions_of t role) literal x ≡ string_bits 0 x
  unfolding form_bits
  text-bits a t x = rw (k.parts t)

  text-within : (t : Tables) (x : Text) → within_tables sizes t ≡ true
      → length t.store + length x ≤ max_store → within_tables sizes (added t role x) ≡ true
  text-within t x w h =
      let y = laid t x in within_none t x w h role (k.uris y) (k.names y) (k.values t.values y)

  text-joins : (w : Rows) (store x : Text)
      → added (tables_of w store) role x ≡ tables_of w (store ++ x)
  text-joins w store x =
      let y = laid (tables_of w store) x in
      nothing-joins w store x role (k.uris y) (k.names y) (k.values (tables_of w store).values y)

-- ---- the tests

-- What the text of a literal without a fault has passed.
pub text-passed : (x : Text) (stored : ℕ) {fault : ℕ}
    → fault ≡ fault_number (first_failed (literal_tests x stored)) → fault ≡ 0 → Passed x stored []
text-passed x stored e z = literal-passes x stored [] (rw (append-nil (literal_tests x stored)) e) z

first_tests : Text → ℕ → List Test
first_tests x stored = (short sizes x, limit) ∷ literal_tests x stored

passed-tests : (x : Text) (stored : ℕ) → Written x → stored + length x ≤ max_store
    → 0 ≡ fault_number (first_failed (first_tests x stored))
unfolding first_tests literal_tests first_failed fault_number short
passed-tests x stored w h =
    rw (le-leb (length x) max_string w.short, le-leb (stored + length x) max_store h, w.chars)

-- What is tested after its characters.
own_tests : Role → Text → List Test
own_tests role x = (text_allowed role x, character) ∷ (name_allowed role x, name) ∷ []

module _ (role : Role) (x : Text) (stored : ℕ) where
  own-number : fault_number (first_failed (own_tests role x)) ≡ fault_of role x
  unfolding own_tests first_failed fault_number fault_of
  own-number =
      split (text_allowed role x)
      (λ a. split (name_allowed role x) (λ b. rw (a, b)) (λ b. rw (a, b)))
      (λ a. rw a)

  first-number : {number : ℕ} → 0 < number
      → number ≡ fault_number (first_failed (first_tests x stored))
      → number ≡ fault_number (first_failed (text_tests role x stored))
  unfolding text_tests first_tests
  first-number h e = number-first (first_tests x stored) _ e h

  own-left : Written x → stored + length x ≤ max_store
      → fault_of role x ≡ fault_number (first_failed (text_tests role x stored))
  unfolding text_tests first_tests own_tests
  own-left judged fits =
      sym (number-then (first_tests x stored) (own_tests role x) (passed-tests x stored judged fits) refl
      ∙ own-number)

long-number : (x : Text) (stored : ℕ) → max_string < length x
    → 12 ≡ fault_number (first_failed (first_tests x stored))
unfolding first_tests first_failed fault_number number_of short
long-number x stored h = rw (lt-leb (length x) max_string h)

-- ---- what they mean

module _ {role : Role} (k : Alone role) {w : Rows} (few : Few w) {stored : ℕ} (low : stored ≤ max_store)
    (x : Text) where
  text-tests : first_failed (string_tests sizes (tables_in w stored) (item role x))
      ≡ first_failed (first_tests x stored ++ (own_tests role x ++ ((true, limit) ∷ [])))
  unfolding first_tests own_tests first_failed short item
  text-tests =
      let t = tables_in w stored in
      let within : stored + length x ≤ max_store → within_tables sizes (added t role x) ≡ true =
      λ h. text-within k t x (few-within few low) (omega (arith, store-count w stored)) in
      split (leb (length x) max_string)
      (λ b. rw b
      (literal-tests t role x (text-form k t x) (store-count w stored) (leb-true _ _ b) true within))
      (λ b. rw b (long-tests t (item role x) (leb-false _ _ b)))

  tests-are : first_failed (string_tests sizes (tables_in w stored) (item role x))
      ≡ first_failed (text_tests role x stored)
  unfolding text_tests first_tests own_tests
  tests-are =
      text-tests
      ∙ ap first_failed (sym (append_assoc (first_tests x stored) (own_tests role x) ((true, limit) ∷ [])))
      ∙ passed-test (first_tests x stored ++ own_tests role x) [] true limit refl
      ∙ ap first_failed (append-nil (first_tests x stored ++ own_tests role x))

  text-means : Written x → stored + length x ≤ max_store → fault_of role x ≡ 0 → Valid w → Writable w
      → StringMeans role w w stored x 0 (stored + length x) (λ a. string_bits 0 x)
  text-means judged fits z valid writable =
      let t = tables_in w stored in
      literal-means role w stored x (text-form k t x)
      (sym z ∙ own-left role x stored judged fits ∙ ap fault_number (sym tests-are))
      (λ a. text-bits k a t x)
      (rw (text-joins k w (replicate stored 0) x) (alike_same _)) valid writable

-- ---- the answers

module _ {role : Role} (k : Alone role) {x : Text} {stored : ℕ} (low : stored ≤ max_store) where
  refused_post : {number : ℕ} → 0 < number
      → number ≡ fault_number (first_failed (text_tests role x stored))
      → TextPost role x stored (refused_as number stored)
  refused_post h e =
      record {
        number_is = e;
        refused = λ _. refl;
        judged = λ z. absurd (omega arith);
        written = λ z. absurd (omega arith);
        store = low;
        meant = λ w _ _ few.
            refused-means role w stored x h (e ∙ ap fault_number (sym (tests-are k few low x)));
      }

  laid-post : Written x → stored + length x ≤ max_store → fault_of role x ≡ 0
      → TextPost role x stored (literal_as 0 stored (length x) false 0)
  laid-post judged fits z =
      record {
        number_is = sym z ∙ own-left role x stored judged fits;
        refused = λ h. absurd (omega arith);
        judged = λ _. refl;
        written = λ _. judged;
        store = fits;
        meant = λ w valid writable few. text-means k few low x judged fits z valid writable;
      }

module _ (named : declared.Role) (x : Text) {stored : ℕ} (low : stored ≤ max_store) where
  abbrev role : Role
  role = role_in named

  pub text-long : max_string < length x → TextPost role x stored (refused_as number_limit stored)
  text-long h =
      refused_post (alone-in named) low (omega arith)
      (first-number role x stored (omega arith) (long-number x stored h))

  module _ (brief : length x ≤ max_string) {fault : ℕ}
      (e : fault ≡ fault_number (first_failed (literal_tests x stored))) where
    brief-tests : fault ≡ fault_number (first_failed (first_tests x stored))
    unfolding first_tests first_failed short
    brief-tests = rw (le-leb (length x) max_string brief) e

    pub text-fault : (fault ≡ 0 → ⊥) → TextPost role x stored (refused_as fault stored)
    text-fault ne =
        refused_post (alone-in named) low (omega arith)
        (first-number role x stored (omega arith) brief-tests)

    module _ (z : fault ≡ 0) {k : ℕ} (tested : k ≡ fault_of role x) where
      passed : Passed x stored []
      passed = text-passed x stored e z

      written : Written x
      written = record { short = brief; chars = passed.chars }

      pub text-refused : (k ≡ 0 → ⊥) → TextPost role x stored (refused_as k stored)
      text-refused ne =
          refused_post (alone-in named) low (omega arith)
          (tested ∙ own-left role x stored written passed.store)

      pub text-laid : k ≡ 0 → TextPost role x stored (literal_as 0 stored (length x) false 0)
      text-laid y = laid-post (alone-in named) low written passed.store (sym tested ∙ y)
