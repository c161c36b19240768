-- Entries of a string table, by the number of the row that is their key; and what they are in the
-- definitions' tables. The first of them may be replaced: a number that was given stays given, and
-- stands for nothing once its entry is replaced. Where none is replaced these are the definitions'
-- partitions; of values they are those in any case.
use Rattle.std.specs.Prelude.{ℕ, zero, suc, ◌-◌, ◌<◌, ◌≡◌, Bool, true, cond, List, [], ◌∷◌, ◌++◌, length, get_or, eqb, ltb}
use Rattle.std.proofs.Math.Option.{Option, none, some}
use Rattle.text.specs.Text.{Text, eq_text}
use Rattle.spec_exi.specs.Tables.{Placed, Entry, partition, Slot, slot_after}

abbrev pub Entries : Type 0
Entries = List (Entry ℕ)

abbrev pub no_entry : Entry ℕ
no_entry = record { key = 0; string = record { place = 0; text = [] } }

unfoldable pub entry_at : Entries → ℕ → Entry ℕ
entry_at es i = get_or es i no_entry

abbrev pub key_at : Entries → ℕ → ℕ
key_at es i = (entry_at es i).key

abbrev pub text_at : Entries → ℕ → Text
text_at es i = (entry_at es i).string.text

abbrev pub has_text_at : Entries → Text → ℕ → Bool
has_text_at es x i = eq_text (text_at es i) x

-- One entry more.
abbrev pub joined_by : Entries → ℕ → ℕ → Text → Entries
joined_by es key place x =
    es ++ (record { key = key; string = record { place = place; text = x } } ∷ [])

-- The entries of a key that were ever added.
unfoldable pub given : Entries → ℕ → List Placed
given es k = partition (eqb k) es

-- ---- the numbers of a partition, where the first g entries are replaced

unfoldable pub slots : {K : Type 0} → ℕ → (K → Bool) → List (Entry K) → List Slot
slots g has [] = []
slots g has (x ∷ xs) =
    cond (has x.key) (slot_after g x.string ∷ slots (g - 1) has xs) (slots (g - 1) has xs)

-- What a number and 1, or 0, stands for.
unfoldable pub slot_of : Entries → ℕ → ℕ → Option Slot
slot_of es low zero = none
slot_of es low (suc g) = some (cond (ltb g low) none (some (entry_at es g).string))

-- ---- as entries of the definitions' tables

-- The same keys, by their rows, and the same texts. (Places are free: a writer's are those of the
-- caller's own text.)
pub data Alike {K : Type 0} (name : ℕ → K) : List (Entry K) → Entries → Type 0 where
  alike-none : Alike name [] []
  alike-more : {t : Entry K} {e : Entry ℕ} {ts : List (Entry K)} {es : Entries}
      → t.key ≡ name e.key → t.string.text ≡ e.string.text → Alike name ts es
      → Alike name (t ∷ ts) (e ∷ es)

-- The definitions' entry.
unfoldable pub named : {K : Type 0} → (ℕ → K) → Entry ℕ → Entry K
named name e = record { key = name e.key; string = e.string }

-- Of the rows that may be keys no two have one name: keys are first rows of their text.
pub record Keys {K : Type 0} (name : ℕ → K) (is_key : ℕ → Bool) : Type 0 where
  pub once : (i j : ℕ) → is_key i ≡ true → is_key j ≡ true → name i ≡ name j → i ≡ j

pub record Keyed (is_key : ℕ → Bool) (es : Entries) : Type 0 where
  pub each : (i : ℕ) → i < length es → is_key (key_at es i) ≡ true

-- Every row is a key: no two have one name. (A strict reader's and the writer's; a loose reader may
-- add a text again.)
pub record Distinct (is_key : ℕ → Bool) (n : ℕ) : Type 0 where
  pub each : (i : ℕ) → i < n → is_key i ≡ true
