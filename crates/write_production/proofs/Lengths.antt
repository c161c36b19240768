-- A code has at most three parts of 16 bits.
use Prim.Native.Nat.{ℕ, zero, suc, ◌+◌, ◌*◌, ◌≤◌, ◌<◌}
use native.Mathlib.Omega.{arith}
use mathlib.Core.Path.{◌≡◌}
use lib.ListN.{length, drop, length-append}
use Rattle.spec_fields.specs.Field.{choice_bits}
use Rattle.spec_fields.proofs.Tests.{split}
use Rattle.spec_exi.specs.Settings.{Settings}
use Rattle.mem_chain.specs.Chain.{below}
use Rattle.grammar_codes.specs.declared.Place.{Place}
use Rattle.grammar_codes.specs.Table.{table_of, level_at, values_at, fixed_bits}
use Rattle.grammar_codes.proofs.Bits.{bits-here, bits-on, level-there}
use Rattle.write_field.proofs.Lengths.{choice-length}
use Rattle.mem_index.specs.Index.{numbers}
use Rattle.write_production.specs.declared.Code.{Code}
use Rattle.write_production.specs.Codes.{placed_bits, code_bits_as, InTable}
use Rattle.write_production.proofs.Codes.{few-values}

module _ (s : Settings) (mode : ℕ) (p : Place) (t : InTable s mode p) where
  there : p.level < length (table_of s.comments s.instructions mode)
  there = level-there s.comments s.instructions mode p.level t.value

  part_length : (j n v : ℕ) → n ≤ numbers
      → length (choice_bits s.alignment (n + values_at s.comments s.instructions mode j) v) ≤ 16
  part_length j n v h =
      choice-length s.alignment (n + values_at s.comments s.instructions mode j) v
      (omega (arith, few-values s.comments s.instructions mode j))

  -- From level j on, so many levels further.
  parts-length : (j k n : ℕ) → n ≤ numbers → p.level ≡ j + k → k ≤ 2
      → length (fixed_bits s.alignment (drop j (table_of s.comments s.instructions mode)) n k
      p.value) ≤ 16 + k * 16
  parts-length j zero n h e l =
      rw (bits-here s.alignment s.comments s.instructions mode j (omega (arith, there)) n
      p.value) (part_length j n (n + p.value) h)
  parts-length j (suc k) n h e l =
      rw (bits-on s.alignment s.comments s.instructions mode j (omega (arith, there)) n
      p.value k)
      (omega (
        arith,
        length-append
            (choice_bits s.alignment (n + values_at s.comments s.instructions mode j)
            (n + length (level_at s.comments s.instructions mode j)))
            (fixed_bits s.alignment (drop (suc j) (table_of s.comments s.instructions mode)) 0 k
            p.value),
        part_length j n (n + length (level_at s.comments s.instructions mode j)) h,
        parts-length (suc j) k 0 (omega arith) (omega arith) (omega arith),
      ))

  pub code-length : (code : Code) → code.count ≤ numbers → length (code_bits_as s mode p code) ≤ 48
  unfolding code_bits_as placed_bits
  code-length code h =
      split code.learned
      (λ e. rw e (omega (
        arith,
        part_length 0 code.count
            (below (code.count + values_at s.comments s.instructions mode 0) code.part) h,
      )))
      (λ e. rw e (omega (
        arith,
        parts-length 0 p.level code.count h (omega arith) (omega (arith, t.level)),
        t.level,
      )))
