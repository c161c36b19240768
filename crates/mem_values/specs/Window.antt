-- The window of the values present: those before it are replaced (EXI 7.3.3; P5), and global
-- numbers go round.
use Rattle.std.specs.Prelude.{ℕ, zero, suc, ◌+◌, ◌-◌, ◌%◌, ◌≤◌, ◌<◌, ◌≡◌, Bool, cond, ◌&&◌, not, List, map, length, drop, eqb, ltb}
use Rattle.std.proofs.Math.Option.{Option, none, some}
use Rattle.text.specs.Text.{Text}
use Rattle.spec_exi.specs.Event.{QName}
use Rattle.spec_exi.specs.Settings.{bound_of}
use Rattle.spec_exi.specs.Tables.{Entry, Tables, Slot, Form, hit, literal, replaced, global_id}
use Rattle.spec_exi.specs.Tables.{by_number, at_most, is_zero}
use Rattle.mem_index.specs.Index.{tally, has_key}
use Rattle.mem_entries.specs.Entries.{Entries, key_at, text_at, Alike, Keys, Keyed}

-- Under a capacity of zero no value joins.
pub data Capacity : Option ℕ → ℕ → Type 0 where
  unbounded : {n : ℕ} → Capacity none n
  bounded : {c n : ℕ} → 0 < c → Capacity (some c) n
  closed : Capacity (some 0) 0

-- How many of n values have the first global numbers, being the newest: those that were added since
-- number 0 was given. (Where values join this is EXI's exi_global_id.)
unfoldable pub newest_in : Option ℕ → ℕ → ℕ
newest_in none n = n
newest_in (some zero) n = 0
newest_in (some (suc c)) n = n % suc c

-- A value of so many code points joins, by the numbers of the settings.
unfoldable pub joins_by : ℕ → ℕ → ℕ → Bool
joins_by size longest capacity =
    not (is_zero (bound_of capacity)) && not (eqb size 0) && at_most size (bound_of longest)

pub record Replaced (n capacity r : ℕ) : Type 0 where
  pub is : r ≡ replaced (bound_of capacity) n
  pub within : r ≤ n

pub record Newest (n capacity r : ℕ) : Type 0 where
  pub is : r ≡ newest_in (bound_of capacity) n
  pub within : r ≤ n - replaced (bound_of capacity) n

-- The insertion number of a global number, where n values were added, g of them are replaced, and
-- the newest have the numbers below new.
unfoldable pub insertion : ℕ → ℕ → ℕ → ℕ → ℕ
insertion n g new i = cond (ltb i new) (n - new + i) (g + (i - new))

-- Numbers and the values present are one to one.
pub record Ordered (n g new : ℕ) (number_of : ℕ → ℕ) : Type 0 where
  pub have : g ≤ n
  pub few : new ≤ n - g
  pub into : (i : ℕ) → i < n - g → g ≤ insertion n g new i
  pub below : (i : ℕ) → i < n - g → insertion n g new i < n
  pub number : (v : ℕ) → g ≤ v → v < n → number_of v < n - g
  pub back : (v : ℕ) → g ≤ v → v < n → insertion n g new (number_of v) ≡ v
  pub once : (i : ℕ) → i < n - g → number_of (insertion n g new i) ≡ i

unfoldable pub present_strings : {K : Type 0} → Option ℕ → List (Entry K) → List Slot
present_strings cap es =
    map (λ e. some e.string)
    (by_number (global_id cap (length es)) (drop (replaced cap (length es)) es))

-- ---- in terms of insertion numbers

-- How many values of a name are among the first i: the local number of the next.
abbrev pub earlier : Entries → ℕ → ℕ → ℕ
earlier es k i = tally (has_key (key_at es) k) i

-- No two values from low on have one text.
pub record Differ (low : ℕ) (es : Entries) : Type 0 where
  pub texts : (i j : ℕ) → low ≤ i → i < j → j < length es → text_at es i ≡ text_at es j → ⊥

-- The form of a value by what a search for its text answers: local before global.
unfoldable pub value_form : Option ℕ → Entries → ℕ → ℕ → Form
value_form cap es k zero = literal
value_form cap es k (suc g) =
    cond (eqb k (key_at es g)) (hit 0 (earlier es k g)) (hit 1 (global_id cap g))

-- ---- as tables of the definitions

-- The tables have these values, by the rows of their names, under this capacity.
pub record Tabled (name : ℕ → QName Text) (is_key : ℕ → Bool) (t : Tables) (es : Entries)
    (cap : Option ℕ) : Type 0 where
  pub capacity : t.values.capacity ≡ cap
  pub alike : Alike name t.values.added es
  pub keys : Keys name is_key
  pub keyed : Keyed is_key es
