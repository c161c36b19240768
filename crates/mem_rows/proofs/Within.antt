-- Which literals a table has room for (scope, "Sizes").
use Prim.Native.Nat.{ℕ, zero, suc, ◌+◌, ◌-◌, ◌≤◌}
use native.Mathlib.Omega.{arith}
use native.Mathlib.Numerals.{add-one}
use mathlib.Core.Path.{◌≡◌}
use mathlib.Core.Bool.{Bool, true, false, ◌&&◌, and-true}
use mathlib.Core.List.{[]}
use mathlib.Core.Option.{Option, none}
use lib.ListN.{length, length-append, length-map}
use lib.Dec.{T, leb, ltb, leb→le}
use borrow.Author.Tests.{le-leb}
use Rattle.spec_fields.proofs.Tests.{is_t, left, right}
use Rattle.text.specs.Text.{Text}
use Rattle.spec_exi.specs.Event.{QName}
use Rattle.spec_exi.specs.Tables.{Tables, Role, uri, local, value, new_uri, new_name, new_entry}
use Rattle.spec_exi.specs.Tables.{new_value, replaced, gone, joins, with_values, laid, added}
use Rattle.spec_exi.specs.Settings.{bound_of}
use Rattle.spec_exi.specs.Lists.{within_tables}
use Rattle.spec_exi.specs.Sizes.{sizes, max_uris, max_names, max_values, max_store}
use Rattle.mem_rows.specs.Rows.{Rows, tables_of}

-- As many entries as rows.
module _ (w : Rows) (store : Text) where
  pub names-count : length (tables_of w store).names ≡ length w.names
  unfolding tables_of
  names-count = simp length-map

  pub values-count : length (tables_of w store).values.added ≡ length w.values
  unfolding tables_of
  values-count = simp length-map

-- How many of n values are present.
abbrev pub present_of : Option ℕ → ℕ → ℕ
present_of cap n = n - replaced cap n

record Within (t : Tables) : Type 0 where
  uris : length t.uris ≤ max_uris
  names : length t.names ≤ max_names
  values : present_of t.values.capacity (length t.values.added) ≤ max_values

within-parts : (t : Tables) → within_tables sizes t ≡ true → Within t
unfolding within_tables gone
within-parts t e =
    let u : Bool = leb (length t.uris) max_uris in
    let n : Bool = leb (length t.names) max_names in
    let v : Bool = leb (present_of t.values.capacity (length t.values.added)) max_values in
    let s : Bool = leb (length t.store) max_store in
    let unv : T (u && n && v) = left (u && n && v) s (is_t (u && n && v && s) e) in
    let un : T (u && n) = left (u && n) v unv in
    record {
      uris = leb→le (length t.uris) max_uris (left u n un);
      names = leb→le (length t.names) max_names (right u n un);
      values = leb→le (present_of t.values.capacity (length t.values.added)) max_values
          (right (u && n) v unv);
    }

-- The tables with a literal, test by test.
tests : (t : Tables) (r : Role) (x : Text) → within_tables sizes (added t r x)
    ≡ leb (length t.uris + length (new_uri r (laid t x))) max_uris
    && leb (length t.names + length (new_name r (laid t x))) max_names
    && leb (present_of t.values.capacity (length t.values.added + length (new_value t.values r (laid t x))))
    max_values
    && leb (length t.store + length x) max_store
unfolding within_tables added with_values gone
tests t r x = simp length-append

-- A literal that the store has room for is within the sizes if its table has a row left.
module _ (t : Tables) (x : Text) (w : within_tables sizes t ≡ true)
    (few : length t.store + length x ≤ max_store) where
  same-uris : leb (length t.uris + 0) max_uris ≡ true
  same-uris = le-leb (length t.uris + 0) max_uris (omega (arith, within-parts t w))

  same_names : leb (length t.names + 0) max_names ≡ true
  same_names = le-leb (length t.names + 0) max_names (omega (arith, within-parts t w))

  same-values : leb (present_of t.values.capacity (length t.values.added + 0)) max_values ≡ true
  same-values =
      let z : length t.values.added + 0 ≡ length t.values.added = omega arith in
      rw z (le-leb (present_of t.values.capacity (length t.values.added)) max_values (within-parts t w).values)

  store-room : leb (length t.store + length x) max_store ≡ true
  store-room = le-leb (length t.store + length x) max_store few

  pub within-uri : within_tables sizes (added t uri x) ≡ ltb (length t.uris) max_uris
  unfolding new_uri new_name new_value
  within-uri = rw (tests t uri x, same_names, same-values, store-room, add-one) (simp and-true)

  pub within-local : (attr : Bool) (u : Text)
      → within_tables sizes (added t (local attr u) x) ≡ ltb (length t.names) max_names
  unfolding new_uri new_name new_value
  within-local attr u =
      rw (tests t (local attr u) x, same-uris, same-values, store-room, add-one) (simp and-true)

  pub within-value : (q : QName Text) → joins t.values x ≡ true
      → within_tables sizes (added t (value q) x)
      ≡ leb (present_of t.values.capacity (suc (length t.values.added))) max_values
  unfolding new_uri new_name new_value new_entry laid
  within-value q e =
      rw (tests t (value q) x, e, same-uris, same_names, store-room, add-one, and-true)

  -- One that joins no table.
  pub within_none : (r : Role) → new_uri r (laid t x) ≡ [] → new_name r (laid t x) ≡ []
      → new_value t.values r (laid t x) ≡ [] → within_tables sizes (added t r x) ≡ true
  within_none r p q s = rw (tests t r x, p, q, s, same-uris, same_names, same-values, store-room)

-- ---- room for one value more: under a capacity always, else below the size

pub room-bounded : (capacity n : ℕ) → (capacity ≡ 0 → ⊥) → capacity ≤ max_values + 1
    → present_of (bound_of capacity) n ≤ max_values
unfolding bound_of replaced
room-bounded zero n nonzero few = absurd (nonzero (omega arith))
room-bounded (suc c) n nonzero few = omega arith

pub room-unbounded : (n : ℕ) → leb (present_of none (suc n)) max_values ≡ ltb n max_values
unfolding replaced
room-unbounded n = let z : suc n - 0 ≡ suc n = omega arith in rw z
