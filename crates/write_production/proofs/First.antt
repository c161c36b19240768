-- A code of one part in an element is a learned production's, or the end tag's in its content.
use Prim.Native.Nat.{ℕ, ◌+◌, ◌≤◌}
use native.Mathlib.Omega.{arith}
use mathlib.Core.Path.{◌≡◌, refl, sym, ap, subst, ◌∙◌}
use mathlib.Core.Bool.{Bool, true, false}
use mathlib.Core.List.{List}
use lib.ListN.{length}
use lib.Dec.{eqb}
use borrow.Author.Tests.{eqb-true, eqb-false}
use Rattle.spec_fields.specs.Field.{Alignment, choice_bits}
use Rattle.spec_fields.proofs.Tests.{split}
use Rattle.spec_exi.specs.Settings.{Settings}
use Rattle.event_code.specs.Numbers.{in_tag, in_element}
use Rattle.mem_chain.specs.Chain.{below}
use Rattle.mem_chain.proofs.Last.{below_in}
use Rattle.grammar_codes.specs.declared.Place.{Place}
use Rattle.grammar_codes.specs.Table.{tables, table_of, level_at, no_kinds, values_at, fixed_bits}
use Rattle.write_field.specs.Written.{PutChoicePre}
use Rattle.write_field.proofs.Lengths.{choice-length}
use Rattle.mem_index.specs.Index.{numbers}
use Rattle.write_production.specs.declared.Code.{Code}
use Rattle.write_production.specs.Codes.{placed_bits, code_bits_as, own_values, first_bits, FirstPre}

own-few : (mode : ℕ) → (1 ≤ own_values mode) × (own_values mode ≤ 2)
unfolding own_values
own-few mode =
    split (eqb mode in_element) (λ t. rw t (omega arith, omega arith)) (λ t. rw t (omega arith, omega arith))

pub among-few : (mode : ℕ) {n : ℕ} → n ≡ own_values mode → n ≤ 2
among-few mode e = omega (arith, e, (own-few mode).1)

pub one-asks : (mode : ℕ) {stream : List ℕ} {at count v n : ℕ} → FirstPre stream at count v
    → n ≡ own_values mode → PutChoicePre stream at (count + n) v
one-asks mode pre e =
    record {
      blank = pre.blank;
      near = pre.near;
      few = omega (arith, pre.few, e, (own-few mode).1);
      one = omega (arith, pre.low, e, (own-few mode).0);
    }

-- How many bits there can be.
pub first-length : (a : Alignment) (mode count v : ℕ) → count ≤ numbers
    → length (first_bits a mode count v) ≤ 16
unfolding first_bits
first-length a mode count v few =
    choice-length a (count + own_values mode) v (omega (arith, few, (own-few mode).1))

own-values : {mode : ℕ} → in_tag ≤ mode → mode ≤ in_element → (c i : Bool)
    → own_values mode ≡ values_at c i mode 0
unfolding own_values tables table_of level_at no_kinds
own-values {mode} l h c i =
    split (eqb mode in_element)
    (λ t. let z : mode ≡ in_element = eqb-true mode in_element t in rw z refl)
    (λ t. let z : mode ≡ in_tag = omega (arith, eqb-false mode in_element t) in rw z refl)

module _ (s : Settings) (count : ℕ) where
  pub learned-first : {mode : ℕ} → in_tag ≤ mode → mode ≤ in_element → (p : Place) {part : ℕ} → part ≤ count
      → first_bits s.alignment mode count part
      ≡ code_bits_as s mode p (record { learned = true; count = count; part = part })
  unfolding first_bits code_bits_as
  learned-first {mode} l h p {part} low =
      let among : ℕ = count + values_at s.comments s.instructions mode 0 in
      let e = own-values l h s.comments s.instructions in
      ap (λ n. choice_bits s.alignment (count + n) part) e
      ∙ ap (choice_bits s.alignment among)
      (sym (below_in among part (omega (arith, low, e, (own-few mode).0))))

  pub end-first : first_bits s.alignment in_element count count
      ≡ code_bits_as s in_element (record { level = 0; value = 0 })
      (record { learned = false; count = count; part = 0 })
  unfolding first_bits own_values code_bits_as placed_bits fixed_bits tables table_of no_kinds
  end-first =
      let e : count ≡ count + 0 = omega arith in ap (choice_bits s.alignment (count + 2)) e
