-- The values of rows that memory holds, as the definitions have them: counts, entries and strict
-- forms.
use Prim.Native.Nat.{ℕ, suc, ◌+◌, ◌-◌, ◌≤◌, ◌<◌}
use native.Mathlib.Omega.{arith}
use mathlib.Core.Path.{◌≡◌, refl, sym, ap, subst, ◌∙◌}
use mathlib.Core.Bool.{true}
use mathlib.Core.List.{List, map}
use mathlib.Core.Option.{some}
use lib.ListN.{length, get_elem?}
use lib.Dec.{ltb}
use borrow.Author.Tests.{eq-eqb, ne_eqb, ltb-true, ltb-false}
use Rattle.spec_fields.proofs.Tests.{split}
use Rattle.text.specs.Text.{Text, part}
use Rattle.spec_exi.specs.Tables.{Placed, Slot, span_of, replaced, global_id, values_of, all_values}
use Rattle.spec_exi.specs.Tables.{partitions_of, hit}
use Rattle.spec_exi.specs.Tables.{eq_form, form_of, name_allowed, text_allowed}
use Rattle.mem_chain.specs.Chain.{last_that, since}
use Rattle.mem_chain.proofs.Last.{last-is, last-only, since-in, since-out}
use Rattle.mem_index.specs.Index.{is_numbered}
use Rattle.mem_index.proofs.Codes.{numbered_is}
use Rattle.mem_entries.specs.Texts.{Names}
use Rattle.mem_entries.specs.Entries.{Entries, entry_at, key_at, text_at, has_text_at, given, named}
use Rattle.mem_entries.proofs.Texts.{is-text}
use Rattle.text.proofs.Equal.{eq_text-no}
use Rattle.mem_values.specs.declared.Value.{Value}
use Rattle.mem_values.specs.Window as window
use Rattle.mem_values.specs.Window.{insertion, Ordered, newest_in, Replaced, Newest, Differ, value_form}
use Rattle.mem_values.specs.Hold.{FoundLocal, IsValue, ValueAt}
use Rattle.mem_values.specs.Forms.{nth_of, ValuesStand}
use Rattle.mem_values.proofs.Order.{ordered}
use Rattle.mem_values.proofs.Tables.{form-is, local-count, global-count}
use Rattle.mem_values.proofs.Entry.{local-entry-is, local-entry-none, global-entry-is}
use Rattle.mem_rows.specs.Rows.{Rows, name_at, tables_of}
use Rattle.mem_rows.specs.Valid.{Valid}
use Rattle.mem_rows.proofs.Owners.{is_name, is_name_lem, name-keys, value-keys, values-alike}
use Rattle.read_partition.specs.Strings.{Tabled}
use Rattle.read_partition.proofs.Hits.{Chosen, Loose}
use Rattle.read_values.specs.Values.{ValueRows, value_role}

bound-is : (w : Rows) (store : Text) → (tables_of w store).values.capacity ≡ w.capacity
unfolding tables_of
bound-is w store = refl

values-are : (w : Rows) (store : Text)
    → (tables_of w store).values.added ≡ map (named (name_at w)) w.values
unfolding tables_of
values-are w store = refl

values-tabled : {w : Rows} → Valid w → (store : Text)
    → window.Tabled (name_at w) (is_name w) (tables_of w store) w.values w.capacity
values-tabled {w} v store =
    record {
      alike = values-alike w store;
      keys = name-keys v;
      keyed = value-keys v;
      capacity = bound-is w store;
    }

-- Of values that differ, the one with the text of value g is value g.
text-last : (es : Entries) (low : ℕ) → Differ low es → (g : ℕ) → low ≤ g → g < length es
    → suc g ≡ since low (last_that (has_text_at es (text_at es g)) (length es))
text-last es low d g l h =
    let z : last_that (has_text_at es (text_at es g)) (length es) ≡ suc g =
    last-only (has_text_at es (text_at es g)) (length es) g h
    (is-text (text_at es g) (text_at es g) refl)
    (λ j a b. eq_text-no (text_at es j) (text_at es g)
    (λ e. d.texts g j l a b (sym e))) in
    sym (ap (since low) z ∙ since-in low (suc g) (omega arith))

-- What is found is the last.
since-last : (low c : ℕ) {g : ℕ} → suc g ≡ since low c → c ≡ suc g
since-last low c e =
    split (ltb low c)
    (λ h. sym (e ∙ since-in low c (ltb-true low c h)))
    (λ h. absurd (omega (arith, e, since-out low c (ltb-false low c h))))

-- ---- the value with a global number, by the answer of `nth_global`

pub record NthValue (n low newer i r : ℕ) : Type 0 where
  pub inside : i < n - low
  pub is : r - 1 ≡ insertion n low newer i
  pub answer : suc (r - 1) ≡ nth_of n low newer i

module _ (n low newer i : ℕ) {r : ℕ} (e : r ≡ nth_of n low newer i) where
  pub nth-some : (r ≡ 0 → ⊥) → NthValue n low newer i r
  unfolding nth_of
  nth-some found =
      split (ltb i (n - low))
      (λ h.
      let z : r ≡ insertion n low newer i + 1 = rw h at e in
      let one : suc (r - 1) ≡ r = omega (arith, z) in
      record { inside = ltb-true i (n - low) h; is = omega (arith, z); answer = one ∙ e })
      (λ h. let z : r ≡ 0 = rw h at e in absurd (found z))

  pub nth-none : r ≡ 0 → n - low ≤ i
  unfolding nth_of
  nth-none z =
      split (ltb i (n - low))
      (λ h.
      let y : r ≡ insertion n low newer i + 1 = rw h at e in
      absurd (omega (arith, y, z)))
      (λ h. ltb-false i (n - low) h)

-- ---- where memory holds the values

module _ {text : List ℕ} {stored : ℕ} {w : Rows} {store : Text} (t : Tabled text stored w store)
    {work : List ℕ} {values longest capacity owner : ℕ}
    (p : ValueRows work text stored values longest capacity owner w) where
  pub count-is : length w.values ≡ values
  count-is = p.stand.holds.count

  owner-key : is_name w owner ≡ true
  owner-key = is_name_lem w owner p.row

  -- The same of the list's own length.
  listed : ValuesStand work text stored (length w.values)
      (replaced w.capacity (length w.values)) (newest_in w.capacity (length w.values))
      w.values w.capacity
  listed =
      subst
      (λ n. ValuesStand work text stored n (replaced w.capacity n) (newest_in w.capacity n)
      w.values w.capacity) (sym count-is) p.stand

  pub gone-is : {low : ℕ} → Replaced values capacity low → low ≡ replaced w.capacity values
  gone-is g = g.is ∙ ap (λ b. replaced b values) p.capacity-is

  pub own-count : length (values_of (tables_of w store) (name_at w owner)) ≡ length
      (given w.values owner)
  own-count = local-count (values-tabled t.valid store) owner owner-key

  pub any-count : {low : ℕ} → Replaced values capacity low
      → length (all_values (tables_of w store)) ≡ values - low
  any-count g =
      global-count (values-tabled t.valid store)
      ∙ ap (λ n. n - replaced w.capacity n) count-is
      ∙ ap (λ k. values - k) (sym (gone-is g))

  -- The strict form of a text, by what a search for it answers.
  form-listed : (x : Text) (r : ℕ)
      → r ≡ since (replaced w.capacity (length w.values))
      (last_that (has_text_at w.values x) (length w.values))
      → form_of (partitions_of (tables_of w store) (value_role owner w)) x
      ≡ value_form w.capacity w.values owner r
  form-listed x r e =
      form-is (values-tabled t.valid store) listed.capacity owner owner-key x
      listed.differ r e

  pub form-of : (x : Text) (r : ℕ)
      → r ≡ since (replaced w.capacity values) (last_that (has_text_at w.values x) values)
      → form_of (partitions_of (tables_of w store) (value_role owner w)) x
      ≡ value_form w.capacity w.values owner r
  form-of x r e =
      form-listed x r
      (e ∙ ap (λ n. since (replaced w.capacity n) (last_that (has_text_at w.values x) n))
      (sym count-is))

  -- Value g is present.
  module _ {g : ℕ} (l : replaced w.capacity values ≤ g) (h : g < values) where
    form-at : form_of (partitions_of (tables_of w store) (value_role owner w)) (text_at w.values g)
        ≡ value_form w.capacity w.values owner (suc g)
    form-at =
        form-listed (text_at w.values g) (suc g)
        (text-last w.values (replaced w.capacity (length w.values)) listed.differ g
        (subst (λ n. replaced w.capacity n ≤ g) (sym count-is) l) (omega (arith, count-is)))

    module _ {v : Value} (a : ValueAt work g v) where
      is-value : IsValue w.values g v
      is-value = a.means text stored values w.values p.stand.holds h
          (omega (arith, p.stand.near))

      value-lies : part text (record { place = v.place; size = v.size }) ≡ text_at w.values g
      unfolding span_of
      value-lies =
          let i = is-value in
          let m : Names work text stored _ _ (entry_at w.values g).string =
          p.stand.holds.rows g h (omega (arith, p.stand.near)) in
          rw (i.place, i.size) m.text

      -- The hit that names value g.
      value-chosen : (j i : ℕ) {es : List Slot}
          → get_elem? es i ≡ some (some (entry_at w.values g).string)
          → value_form w.capacity w.values owner (suc g) ≡ hit j i
          → Chosen (tables_of w store) (value_role owner w) j es i text v.place v.size
      unfolding name_allowed text_allowed
      value-chosen j i s f =
          record {
            x = (entry_at w.values g).string;
            slot = s;
            whole = refl;
            strict = form-at ∙ f;
            allowed = refl;
            place_is = is-value.place;
            size_is = is-value.size;
            text-is = value-lies;
          }

  -- ---- among the name's own

  module _ {low : ℕ} (gone : Replaced values capacity low) {i r : ℕ}
      (f : FoundLocal work owner i values low r) where
    local-is : r ≡ since (replaced w.capacity (length w.values))
        (last_that (is_numbered (key_at w.values) owner i) (length w.values))
    local-is =
        f.newest text stored w.values p.stand.holds
        (omega (arith, p.stand.near, gone-is gone))
        ∙ ap (λ k. since k (last_that (is_numbered (key_at w.values) owner i) values)) (gone-is gone)
        ∙ ap (λ n. since (replaced w.capacity n)
        (last_that (is_numbered (key_at w.values) owner i) n)) (sym count-is)

    pub own-missing : r ≡ 0 → (x : Placed)
        → get_elem? (values_of (tables_of w store) (name_at w owner)) i ≡ some (some x) → ⊥
    own-missing z =
        local-entry-none (name-keys t.valid) (tables_of w store) w.values (bound-is w store)
        (values-are w store) (value-keys t.valid) owner owner-key i (sym z ∙ local-is)

    pub own-chosen : {g : ℕ} → r ≡ suc g → {v : Value} → ValueAt work g v
        → Chosen (tables_of w store) (value_role owner w) 0
        (values_of (tables_of w store) (name_at w owner)) i text
        v.place v.size
    unfolding value_form
    own-chosen {g} z a =
        let e = sym z ∙ local-is in
        let test = is_numbered (key_at w.values) owner i in
        let last : last_that test (length w.values) ≡ suc g =
        since-last _ (last_that test (length w.values)) e in
        let (k, n) =
        numbered_is (key_at w.values) owner i g (last-is test (length w.values) g last) in
        value-chosen (omega (arith, gone-is gone, z, f.above (omega (arith, z))))
        (omega (arith, f.within)) a 0 i
        (local-entry-is (name-keys t.valid) (tables_of w store) w.values (bound-is w store)
        (values-are w store) (value-keys t.valid) owner owner-key i g e)
        (rw (eq-eqb owner (key_at w.values g) (sym k), n))

  -- ---- among all values

  module _ {low newer : ℕ} (gone : Replaced values capacity low)
      (new : Newest values capacity newer) {i r : ℕ} (nth : NthValue values low newer i r) where
    order : Ordered values (replaced w.capacity values) (global_id w.capacity values)
        (global_id w.capacity)
    order = ordered p.stand.capacity

    newer-is : newer ≡ global_id w.capacity values
    newer-is = new.is ∙ ap (λ b. newest_in b values) p.capacity-is ∙ p.stand.new

    inside : i < values - replaced w.capacity values
    inside = omega (arith, nth.inside, gone-is gone)

    value-is : r - 1 ≡ insertion values (replaced w.capacity values)
        (global_id w.capacity values) i
    value-is =
        nth.is ∙ ap (λ k. insertion values k newer i) (gone-is gone)
        ∙ ap (λ k. insertion values (replaced w.capacity values) k i) newer-is

    present : replaced w.capacity values ≤ r - 1
    present = omega (arith, order.into i inside, value-is)

    below : r - 1 < values
    below = omega (arith, order.below i inside, value-is)

    any-slot : get_elem? (all_values (tables_of w store)) i ≡ some
        (some (entry_at w.values (r - 1)).string)
    any-slot =
        global-entry-is (name-keys t.valid) (tables_of w store) w.values (bound-is w store)
        (values-are w store) (value-keys t.valid) listed.capacity
        (newer-is ∙ ap (global_id w.capacity) (sym count-is)) i (r - 1)
        (nth.answer ∙ ap (λ k. nth_of values k newer i) (gone-is gone)
        ∙ ap (λ n. nth_of n (replaced w.capacity n) newer i) (sym count-is))

    module _ {v : Value} (a : ValueAt work (r - 1) v) where
      pub any-loose : v.owner ≡ owner
          → Loose (tables_of w store) (value_role owner w) 1 (all_values (tables_of w store)) i
      unfolding value_form eq_form text_allowed
      any-loose e =
          record {
            x = (entry_at w.values (r - 1)).string;
            slot = any-slot;
            whole = refl;
            other = rw (
              form-at present below,
              eq-eqb owner (key_at w.values (r - 1))
                  (sym e ∙ (is-value present below a).owner),
            );
          }

      pub any-chosen : (v.owner ≡ owner → ⊥)
          → Chosen (tables_of w store) (value_role owner w) 1 (all_values (tables_of w store)) i text
          v.place v.size
      unfolding value_form
      any-chosen e =
          value-chosen present below a 1 i any-slot
          (rw (
            ne_eqb owner (key_at w.values (r - 1))
                (λ z. e ((is-value present below a).owner ∙ sym z)),
            ap (global_id w.capacity) value-is ∙ order.once i inside,
          ))
