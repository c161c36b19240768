-- The bits of an event's code and of its content are the definitions'.
use Prim.Native.Nat.{ℕ, ◌+◌, ◌≤◌, ◌<◌}
use native.Mathlib.Omega.{arith}
use mathlib.Core.Path.{◌≡◌, refl, sym}
use mathlib.Core.Bool.{Bool, true, false, true≢false}
use mathlib.Core.List.{List, [], ◌∷◌}
use lib.ListN.{length, replicate}
use Rattle.spec_fields.specs.Field.{Alignment}
use Rattle.spec_exi.specs.Event.{kind_of}
use Rattle.spec_exi.specs.Settings.{Settings}
use Rattle.spec_exi.specs.Grammar.{code_bits}
use Rattle.spec_exi.specs.Context.{levels_in}
use Rattle.event.specs.declared.Event as declared
use Rattle.event.specs.declared.Event.TheVariants.{StartDocument, EndDocument, StartElement}
use Rattle.event.specs.declared.Event.TheVariants.{Attribute, EndElement, Characters, Comment}
use Rattle.event.specs.declared.Event.TheVariants.{Instruction}
use Rattle.event.specs.Cells.{meaning}
use Rattle.mem_chain.proofs.Last.{below_in}
use Rattle.mem_rows.specs.Rows.{Rows, carries, context_of}
use Rattle.mem_rows.specs.Valid.{Valid}
use Rattle.mem_state.specs.declared.Core.{Core}
use Rattle.grammar_codes.specs.declared.Place.{Place}
use Rattle.grammar_codes.specs.Table.{table_of, values_at, code_at, after_learned, PlaceAt, max_levels}
use Rattle.grammar_codes.proofs.Places.{has-place}
use Rattle.grammar_match.specs.Here.{CountedHere, CodeRows, learned_here}
use Rattle.grammar_match.proofs.Codes.{count-is, table-bits, learned-bits}
use Rattle.write_content.specs.Answer.{ContentAnswer}
use Rattle.write_content.specs.Writing.{contentBits}
use Rattle.write_production.specs.declared.Code.{Code}
use Rattle.write_production.specs.Codes.{placed_bits, code_bits_as}
use Rattle.event_code.specs.Numbers.{in_fragment}

-- ---- the code

module _ {work : List ℕ} {learned mode top : ℕ} {w : Rows} {opened : List ℕ} (valid : Valid w)
    (rows : CodeRows work learned mode top w opened) (s : Settings) (stored : ℕ) (code : Code)
    (counted : CountedHere work mode top code.count) where
  -- Of the table's production.
  pub fixed-code-bits : {kind : ℕ} {p : Place}
      → PlaceAt s.comments s.instructions mode kind p → p.level < max_levels
      → code.learned ≡ false
      → code_bits_as s mode p code
      ≡ code_bits s.alignment (levels_in s (context_of w (replicate stored 0) mode opened))
      (after_learned (length (learned_here w mode opened))
      (code_at (table_of s.comments s.instructions mode) p.level p.value)).parts
  unfolding code_bits_as placed_bits
  fixed-code-bits {p = p} at low e =
      rw (e, count-is valid rows counted)
      (sym (table-bits valid rows s (replicate stored 0) s.alignment p.level p.value
      (has-place at low).level))

  -- Of a learned one.
  pub learned-code-bits : (p : Place) → code.learned ≡ true → in_fragment ≤ mode → code.part < code.count
      → code_bits_as s mode p code
      ≡ code_bits s.alignment (levels_in s (context_of w (replicate stored 0) mode opened))
      (code.part ∷ [])
  unfolding code_bits_as
  learned-code-bits p e l h =
      let among : ℕ = code.count + values_at s.comments s.instructions mode 0 in
      rw (e, below_in among code.part (omega arith), count-is valid rows counted)
      (sym (learned-bits valid rows s (replicate stored 0) s.alignment l code.part))

-- ---- the content

-- Without a name nothing is carried.
pub carried-plain : (text work : List ℕ) (e : declared.Event) → carries (kind_of (meaning e)) ≡ false
    → (carried : Bool) (c : Core) (x : ContentAnswer) (a : Alignment)
    → contentBits text work e carried c x a ≡ contentBits text work e false c x a
unfolding contentBits meaning kind_of carries
carried-plain text work StartDocument z carried c x a = refl
carried-plain text work EndDocument z carried c x a = refl
carried-plain text work (StartElement u n) z carried c x a = absurd (true≢false z)
carried-plain text work (Attribute u n v) z carried c x a = absurd (true≢false z)
carried-plain text work EndElement z carried c x a = refl
carried-plain text work (Characters v) z carried c x a = refl
carried-plain text work (Comment v) z carried c x a = refl
carried-plain text work (Instruction t v) z carried c x a = refl
