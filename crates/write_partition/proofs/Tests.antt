-- Tests in order, each with its refusal; and the number of the first that fails.
use Prim.Native.Nat.{ℕ, ◌+◌, ◌-◌, ◌≤◌, ◌<◌}
use native.Mathlib.Omega.{arith}
use mathlib.Core.Path.{◌≡◌, refl, sym, ◌∙◌}
use mathlib.Core.Bool.{Bool, true, false, not}
use mathlib.Core.List.{List, [], ◌∷◌, ◌++◌}
use mathlib.Core.Option.{Option, none, some, some-ne-none}
use lib.ListN.{length}
use lib.Dec.{leb}
use borrow.Author.Tests.{leb-true, le-leb, lt-leb, not-true, not-false}
use Rattle.spec_fields.specs.Refusal.{Refusal, number_of, character, limit}
use Rattle.spec_fields.proofs.Refusal.{refusal-number}
use Rattle.spec_fields.proofs.Tests.{split}
use Rattle.text.specs.Text.{Text, all_chars}
use Rattle.spec_exi.specs.Sizes.{max_store}
use Rattle.spec_exi.specs.Writer.{Test, first_failed}
use Rattle.refusal.specs.declared.Refusal as declared
use Rattle.refusal.specs.declared.Refusal.TheVariants.{Room, Settings, Long, Header, Ended, Code}
use Rattle.refusal.specs.declared.Refusal.TheVariants.{Number, Character, Reference, Loose, Name}
use Rattle.refusal.specs.declared.Refusal.TheVariants.{Limit, Tail, Shape, Place, Structure}
use Rattle.refusal.specs.declared.Refusal.TheVariants.{BadStamp, BadMovement, NotLater}
use Rattle.refusal.specs.Numbers.{number_in}
use Rattle.write_partition.specs.Judged.{fault_number, literal_tests}

-- ---- the number

pub some-fault : (k : Refusal) → fault_number (some k) ≡ number_of k
unfolding fault_number
some-fault k = refl

pub fault-none : (o : Option Refusal) → fault_number o ≡ 0 → o ≡ none
unfolding fault_number
fault-none none e = refl
fault-none (some k) e = absurd (omega (arith, refusal-number k))

pub some-refusal : (o : Option Refusal) → 0 < fault_number o → (k : Refusal) × (o ≡ some k)
unfolding fault_number
some-refusal none h = absurd (omega arith)
some-refusal (some k) h = (k, refl)

-- No refusal has the number 0.
pub number-some : (k : declared.Refusal) → 0 < number_in k
number-some Room = omega arith
number-some Settings = omega arith
number-some Long = omega arith
number-some Header = omega arith
number-some Ended = omega arith
number-some Code = omega arith
number-some Number = omega arith
number-some Character = omega arith
number-some Reference = omega arith
number-some Loose = omega arith
number-some Name = omega arith
number-some Limit = omega arith
number-some Tail = omega arith
number-some Shape = omega arith
number-some Place = omega arith
number-some Structure = omega arith
number-some BadStamp = omega arith
number-some BadMovement = omega arith
number-some NotLater = omega arith

pub number-ne : (k : declared.Refusal) → number_in k ≡ 0 → ⊥
number-ne k e = omega (arith, number-some k)

-- ---- tests in order

pub failed-then : (xs ys : List Test) → first_failed xs ≡ none
    → first_failed (xs ++ ys) ≡ first_failed ys
unfolding first_failed
failed-then [] ys e = refl
failed-then (x ∷ xs) ys e =
    split x.0 (λ h. rw h (failed-then xs ys (rw h at e)))
    (λ h. absurd (some-ne-none x.1 (rw h at e)))

pub failed-first : (k : Refusal) (xs ys : List Test) → first_failed xs ≡ some k
    → first_failed (xs ++ ys) ≡ some k
unfolding first_failed
failed-first k [] ys e = absurd (some-ne-none k (cc))
failed-first k (x ∷ xs) ys e =
    split x.0 (λ h. rw h (failed-first k xs ys (rw h at e))) (λ h. rw h (rw h at e))

-- By the numbers: the first list's refusal, or the second's.
pub number-then : (xs ys : List Test) {n : ℕ} → n ≡ fault_number (first_failed xs) → n ≡ 0
    → fault_number (first_failed (xs ++ ys)) ≡ fault_number (first_failed ys)
number-then xs ys e z = rw (failed-then xs ys (fault-none (first_failed xs) (cc)))

pub number-first : (xs ys : List Test) {n : ℕ} → n ≡ fault_number (first_failed xs) → 0 < n
    → n ≡ fault_number (first_failed (xs ++ ys))
number-first xs ys {n} e h =
    let (k, f) = some-refusal (first_failed xs) (omega arith) in
    e ∙ rw (f, failed-first k xs ys f)

-- A test that passes says nothing.
pub passed-test : (xs ys : List Test) (b : Bool) (k : Refusal) → b ≡ true
    → first_failed (xs ++ ((b, k) ∷ ys)) ≡ first_failed (xs ++ ys)
unfolding first_failed
passed-test [] ys b k e = rw e
passed-test (x ∷ xs) ys b k e = rw (passed-test xs ys b k e)

-- None fails: the first passes, and the others do.
pub first_passes : (b : Bool) (k : Refusal) (xs : List Test) → first_failed ((b, k) ∷ xs) ≡ none
    → (b ≡ true) × (first_failed xs ≡ none)
unfolding first_failed
first_passes true k xs e = (refl, e)
first_passes false k xs e = absurd (some-ne-none k e)

-- ---- the text of a literal

module _ (x : Text) (stored : ℕ) (low : stored ≤ max_store) where
  pub too_much : max_store - stored < length x → 12 ≡ fault_number (first_failed (literal_tests x stored))
  unfolding fault_number first_failed literal_tests number_of
  too_much h = rw (lt-leb (stored + length x) max_store (omega arith))

  module _ (room : length x ≤ max_store - stored) {b : Bool} (e : b ≡ all_chars x) where
    fits : leb (stored + length x) max_store ≡ true
    fits = le-leb (stored + length x) max_store (omega arith)

    pub no_char : not b ≡ true → 8 ≡ fault_number (first_failed (literal_tests x stored))
    unfolding fault_number first_failed literal_tests number_of
    no_char h = rw (fits, ← e, not-true b h)

    pub no-fault : not b ≡ false → 0 ≡ fault_number (first_failed (literal_tests x stored))
    unfolding fault_number first_failed literal_tests
    no-fault h = rw (fits, ← e, not-false b h)

-- What a literal without a fault has passed; ys are the tests after those of its text.
pub record Passed (x : Text) (stored : ℕ) (ys : List Test) : Type 0 where
  pub store : stored + length x ≤ max_store
  pub chars : all_chars x ≡ true
  pub others : first_failed ys ≡ none

pub literal-passes : (x : Text) (stored : ℕ) (ys : List Test) {n : ℕ}
    → n ≡ fault_number (first_failed (literal_tests x stored ++ ys)) → n ≡ 0 → Passed x stored ys
unfolding literal_tests
literal-passes x stored ys e z =
    let (s, more) = first_passes (leb (stored + length x) max_store) limit _ (fault-none _ (sym e ∙ z)) in
    let (c, others) = first_passes (all_chars x) character ys more in
    record { store = leb-true (stored + length x) max_store s; chars = c; others = others }

pub text-passes : (x : Text) (stored : ℕ) {n : ℕ} → n ≡ fault_number (first_failed (literal_tests x stored))
    → n ≡ 0 → Passed x stored []
unfolding literal_tests
text-passes x stored e z = literal-passes x stored [] e z
