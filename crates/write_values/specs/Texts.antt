-- What judging a string by no table asks and leaves (EXI 7.1.10).
use Rattle.std.specs.Prelude.{ℕ, ◌≤◌, ◌<◌, ◌≡◌, false, List, [], ◌∷◌, ◌++◌, length}
use Rattle.spec_fields.specs.Refusal.{character, name, limit}
use Rattle.text.specs.Text.{Text}
use Rattle.spec_exi.specs.Sizes.{sizes, max_store}
use Rattle.spec_exi.specs.Tables.{Role, name_allowed, text_allowed, string_bits}
use Rattle.spec_exi.specs.Lists.{short}
use Rattle.spec_exi.specs.Writer.{Test, first_failed}
use Rattle.mem_rows.specs.Rows.{Rows}
use Rattle.mem_rows.specs.Valid.{Valid}
use Rattle.write_partition.specs.Writable.{Written, Writable, Few}
use Rattle.write_partition.specs.Judged.{StringAnswer, fault_number, literal_tests, refused_as, literal_as}
use Rattle.write_partition.specs.Judged.{StringMeans}

pub record TextPre (stored : ℕ) : Type 0 where
  pub store : stored ≤ max_store

-- Its length, the store, its characters, what a comment or an instruction's text may not have, and
-- the name of a target (scope, "Refusal numbers"; P6).
unfoldable pub text_tests : Role → Text → ℕ → List Test
text_tests role x stored =
    ((short sizes x, limit) ∷ literal_tests x stored)
    ++ ((text_allowed role x, character) ∷ (name_allowed role x, name) ∷ [])

-- It is laid each time and joins no table, so the rows stay.
pub record TextPost (role : Role) (x : Text) (stored : ℕ) (r : StringAnswer) : Type 0 where
  pub number_is : r.number ≡ fault_number (first_failed (text_tests role x stored))
  pub refused : 0 < r.number → r ≡ refused_as r.number stored
  pub judged : r.number ≡ 0 → r ≡ literal_as 0 stored (length x) false 0
  pub written : r.number ≡ 0 → Written x
  pub store : r.stored ≤ max_store
  pub meant : (w : Rows) → Valid w → Writable w → Few w
      → StringMeans role w w stored x r.number r.stored (λ a. string_bits 0 x)
