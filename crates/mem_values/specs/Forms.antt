-- Global numbers and forms as the functions answer them. `Form` is the type that src/lib.rt
-- declares.
use Rattle.std.specs.Prelude.{ℕ, zero, suc, ◌+◌, ◌-◌, ◌%◌, ◌≤◌, ◌<◌, ◌≡◌, Bool, true, false, cond, List, length, eqb, ltb}
use Rattle.std.proofs.Math.Option.{Option}
use Rattle.spec_exi.specs.Tables as tables
use Rattle.mem_layout.specs.Layout.{value_ring, work_cells}
use Rattle.mem_chain.specs.Chain.{last_that, since}
use Rattle.mem_index.specs.Index.{numbers}
use Rattle.mem_entries.specs.Texts.{hash_of}
use Rattle.mem_entries.specs.Entries.{Entries, has_text_at}
use Rattle.mem_values.specs.declared.Form.{Form}
use Rattle.mem_values.specs.declared.Form.TheVariants.{Local, Global, Absent}
use Rattle.mem_values.specs.Values.{value_in, found_in}
use Rattle.mem_values.specs.Window.{Capacity, insertion, Differ, value_form}
use Rattle.mem_values.specs.Hold.{ValuesHold}

-- n values were added, those before low are replaced, the newest have the numbers below newer, and
-- g
-- is one of them.
pub record Order (n low newer g : ℕ) : Type 0 where
  pub few : n ≤ numbers
  pub some : low ≤ n
  pub new : newer ≤ n - low
  pub from : low ≤ g
  pub to : g ≤ n

unfoldable pub number_of : ℕ → ℕ → ℕ → ℕ → ℕ
number_of n low newer g = cond (ltb g (n - newer)) (newer + (g - low)) (g - (n - newer))

unfoldable pub nth_of : ℕ → ℕ → ℕ → ℕ → ℕ
nth_of n low newer i = cond (ltb i (n - low)) (insertion n low newer i + 1) 0

pub record FormOfPre (work : List ℕ) (n low newer : ℕ) : Type 0 where
  pub room : work_cells ≤ length work
  pub few : n ≤ numbers
  pub some : low ≤ n
  pub new : newer ≤ n - low

unfoldable pub form_in : Form → tables.Form
form_in (Local i) = tables.hit 0 i
form_in (Global i) = tables.hit 1 i
form_in Absent = tables.literal

-- Memory is a table whose present values differ, under this capacity.
pub record ValuesStand (work store : List ℕ) (stored n low newer : ℕ) (es : Entries)
    (cap : Option ℕ) : Type 0 where
  pub holds : ValuesHold work store stored n es
  pub differ : Differ low es
  pub capacity : Capacity cap n
  pub gone : low ≡ tables.replaced cap n
  pub new : newer ≡ tables.global_id cap n
  pub near : n ≤ low + value_ring

unfoldable pub pick_form : Bool → Form → Form → Form
pick_form true a b = a
pick_form false a b = b

unfoldable pub number_in : Form → ℕ
number_in (Local i) = i
number_in (Global i) = i
number_in Absent = 0

-- The form by what a search answers, as the cells have it.
unfoldable pub form_at : List ℕ → ℕ → ℕ → ℕ → ℕ → ℕ → Form
form_at work n low newer owner zero = Absent
form_at work n low newer owner (suc g) =
    pick_form (eqb (value_in work (g % value_ring)).owner owner)
    (Local (value_in work (g % value_ring)).number) (Global (number_of n low newer g))

pub record Formed (work store x : List ℕ) (h n low newer owner : ℕ) (r : Form) : Type 0 where
  pub is : r ≡ form_at work n low newer owner (found_in work store x h n low)
  pub small : number_in r < numbers
  pub means : (stored : ℕ) (es : Entries) (cap : Option ℕ)
      → ValuesStand work store stored n low newer es cap → h ≡ hash_of x
      → form_in r ≡ value_form cap es owner (since low (last_that (has_text_at es x) n))
