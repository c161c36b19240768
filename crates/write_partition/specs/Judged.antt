-- What judging a string leaves.
use Rattle.std.specs.Prelude.{ℕ, ◌+◌, ◌≡◌, Bool, false, List, [], ◌∷◌, length, leb, Result, Ok, Err}
use Rattle.std.proofs.Math.Option.{Option, none, some}
use Rattle.spec_fields.specs.Bits.{Bits}
use Rattle.spec_fields.specs.Field.{Alignment}
use Rattle.spec_fields.specs.Refusal.{Refusal, number_of, limit, character}
use Rattle.text.specs.Text.{Text, all_chars}
use Rattle.spec_exi.specs.Sizes.{sizes, max_store}
use Rattle.spec_exi.specs.Tables.{Tables, Role, partitions_of, form_of, hit}
use Rattle.spec_exi.specs.Context.{item, after_item}
use Rattle.spec_exi.specs.Strict.{item_bits}
use Rattle.spec_exi.specs.Writer.{Test, first_failed, string_tests}
use Rattle.spec_exi.specs.Alike.{AlikeTables}
use Rattle.mem_rows.specs.Rows.{Rows}
use Rattle.mem_rows.specs.Valid.{Valid}
use Rattle.refusal.specs.declared.Refusal as declared
use Rattle.refusal.specs.Numbers.{number_in}
use Rattle.write_partition.specs.declared.StringJudged.{StringJudged}
use Rattle.write_partition.specs.Writable.{Writable, tables_in}

-- The number of a refusal; 0 is none.
unfoldable pub fault_number : Option Refusal → ℕ
fault_number none = 0
fault_number (some k) = number_of k

-- After its length the text of a literal is tested for the store's size and for its characters
-- (scope, "Refusal numbers").
unfoldable pub literal_tests : Text → ℕ → List Test
literal_tests x stored = (leb (stored + length x) max_store, limit) ∷ (all_chars x, character) ∷ []

-- ---- the answers

-- The number of a refusal; 0 is none.
abbrev pub fault_in : {A : Type 0} → Result A declared.Refusal → ℕ
fault_in (Ok x) = 0
fault_in (Err k) = number_in k

-- Of a string that is judged: the number of a refusal or 0; its row in its table; the code points in
-- the store after it; and whether it is to join, with its hash.
pub record StringAnswer : Type 0 where
  pub number : ℕ
  pub row : ℕ
  pub stored : ℕ
  pub joins : Bool
  pub hash : ℕ

abbrev pub refused_as : ℕ → ℕ → StringAnswer
refused_as number stored =
    record { number = number; row = 0; stored = stored; joins = false; hash = 0 }

abbrev pub found_as : ℕ → ℕ → StringAnswer
found_as row stored = record { number = 0; row = row; stored = stored; joins = false; hash = 0 }

abbrev pub literal_as : ℕ → ℕ → ℕ → Bool → ℕ → StringAnswer
literal_as row stored n joins hash =
    record { number = 0; row = row; stored = stored + n; joins = joins; hash = hash }

abbrev pub told_string : StringJudged → StringAnswer
told_string s =
    record { number = 0; row = s.row; stored = s.stored; joins = s.joins; hash = s.hash }

-- A refusal leaves the store.
abbrev pub string_answer : ℕ → Result StringJudged declared.Refusal → StringAnswer
string_answer stored (Ok s) = told_string s
string_answer stored (Err k) = refused_as (number_in k) stored

-- ---- what they mean

-- The string x in its role, judged where the tables are those of the rows w and the store has so
-- many code points: the first test that fails; its bits; and the rows v after it, with the store's
-- count.
pub record StringMeans (role : Role) (w v : Rows) (stored : ℕ) (x : Text) (number stored' : ℕ)
    (bits : Alignment → Bits) : Type 0 where
  pub fault : number
      ≡ fault_number (first_failed (string_tests sizes (tables_in w stored) (item role x)))
  pub bits_are : number ≡ 0 → (a : Alignment)
      → item_bits a (tables_in w stored) (item role x) ≡ bits a
  pub after : number ≡ 0
      → AlikeTables (after_item (tables_in w stored) (item role x)) (tables_in v stored')
  pub valid : number ≡ 0 → Valid v
  pub writable : number ≡ 0 → Writable v

-- Its table has it: a name that a learned production carries is not written.
pub record IsHit (t : Tables) (role : Role) (x : Text) : Type 0 where
  pub id : ℕ
  pub form : form_of (partitions_of t role) x ≡ hit 0 id
