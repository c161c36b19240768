-- The form of a value by what `form_of` answers, where memory holds the values of the rows: which row it
-- is, and that its compact identifier is one of its partition's.
use Prim.Native.Nat.{ℕ, zero, suc, ◌-◌, ◌≤◌, ◌<◌}
use native.Mathlib.Omega.{arith}
use mathlib.Core.Path.{◌≡◌, refl, sym, ap, subst, ◌∙◌}
use mathlib.Core.Bool.{true}
use mathlib.Core.List.{List}
use mathlib.Core.Option.{Option}
use lib.ListN.{length, replicate}
use lib.Dec.{eqb}
use Rattle.spec_fields.specs.Field.{Alignment}
use Rattle.spec_fields.proofs.Tests.{split}
use Rattle.text.specs.Text.{Text}
use Rattle.spec_exi.specs.Settings.{bound_of}
use Rattle.spec_exi.specs.Tables.{replaced, global_id, value, values_of, all_values, partitions_of, hit, literal, form_of}
use Rattle.spec_exi.specs.Tables.{form_bits}
use Rattle.mem_layout.specs.Layout.{value_counts, name_rows}
use Rattle.mem_chain.specs.Chain.{last_that, since}
use Rattle.mem_chain.proofs.Last.{below_in}
use Rattle.mem_index.specs.Index.{tally, has_key, count_in}
use Rattle.mem_index.proofs.Codes.{count-is}
use Rattle.mem_index.proofs.Tally.{tally-less}
use Rattle.mem_entries.specs.Texts.{hash_of}
use Rattle.mem_entries.specs.Entries.{Entries, key_at, text_at, has_text_at}
use Rattle.mem_values.specs.declared.Form.{Form}
use Rattle.mem_values.specs.Window.{newest_in, earlier, value_form, Tabled}
use Rattle.mem_values.specs.Forms.{form_in, ValuesStand}
use Rattle.mem_values.proofs.Order.{ordered}
use Rattle.mem_values.proofs.Answers.{FoundAt, found_at, found_none}
use Rattle.mem_values.proofs.Local.{given_is}
use Rattle.mem_values.proofs.Tables.{local-count, global-count}
use Rattle.mem_values.proofs.Stands.{strict-form}
use Rattle.mem_rows.specs.Rows.{Rows, name_at, tables_of}
use Rattle.mem_rows.specs.Valid.{Valid, gone_in}
use Rattle.mem_rows.proofs.Owners.{is_name, is_name_lem, name-keys, value-keys, values-alike}
use Rattle.write_partition.specs.Writable.{Written, Writable, Few, tables_in}
use Rattle.write_partition.specs.Bits.{hit_bits}
use Rattle.write_values.specs.Values.{own, all, neither, FormPost, value_bits, ValuesMeant}

-- ---- by the list of values

-- What a search for a text answers, among those from low on.
abbrev sought : Entries → ℕ → Text → ℕ
sought es low x = since low (last_that (has_text_at es x) (length es))

-- Value g has the text, and this form.
record HitAt (cap : Option ℕ) (low : ℕ) (es : Entries) (owner : ℕ) (x : Text) (j i : ℕ) : Type 0
  where
    g : ℕ
    found : FoundAt es low x g
    form : value_form cap es owner (suc g) ≡ hit j i

hit-at : (cap : Option ℕ) (low : ℕ) (es : Entries) (owner : ℕ) (x : Text) (j i r : ℕ)
    → r ≡ sought es low x → value_form cap es owner r ≡ hit j i → HitAt cap low es owner x j i
unfolding value_form
hit-at cap low es owner x j i zero e h = let z : ◌≡◌ {A = ℕ} 0 1 = cc in absurd (omega arith)
hit-at cap low es owner x j i (suc g) e h =
    record { g = g; found = found_at es low x g e; form = h }

own-number : (cap : Option ℕ) (es : Entries) (owner g i : ℕ)
    → value_form cap es owner (suc g) ≡ hit 0 i
    → (eqb owner (key_at es g) ≡ true) × (i ≡ earlier es owner g)
unfolding value_form
own-number cap es owner g i h =
    split (eqb owner (key_at es g))
    (λ t. let e : hit 0 (earlier es owner g) ≡ hit 0 i = rw t at h in (t, cc))
    (λ t.
    let e : hit 1 (global_id cap g) ≡ hit 0 i = rw t at h in
    let z : ◌≡◌ {A = ℕ} 0 1 = cc in absurd (omega arith))

all-number : (cap : Option ℕ) (es : Entries) (owner g i : ℕ)
    → value_form cap es owner (suc g) ≡ hit 1 i → i ≡ global_id cap g
unfolding value_form
all-number cap es owner g i h =
    split (eqb owner (key_at es g))
    (λ t.
    let e : hit 0 (earlier es owner g) ≡ hit 1 i = rw t at h in
    let z : ◌≡◌ {A = ℕ} 0 1 = cc in absurd (omega arith))
    (λ t. let e : hit 1 (global_id cap g) ≡ hit 1 i = rw t at h in cc)

absent-number : (cap : Option ℕ) (es : Entries) (owner r : ℕ)
    → value_form cap es owner r ≡ literal → 0 ≡ r
unfolding value_form
absent-number cap es owner zero h = refl
absent-number cap es owner (suc g) h =
    split (eqb owner (key_at es g))
    (λ t. let e = rw t at h in let z : ◌≡◌ {A = ℕ} 0 1 = cc in absurd (omega arith))
    (λ t. let e = rw t at h in let z : ◌≡◌ {A = ℕ} 0 1 = cc in absurd (omega arith))

-- ---- by the rows

-- The rows w mean something, and memory holds their values.
pub record Standing (work text : List ℕ) (owner values longest capacity : ℕ) (w : Rows) : Type 0
  where
    pub valid : Valid w
    pub writable : Writable w
    pub few : Few w
    pub stand : ValuesStand work text (length text) values (replaced (bound_of capacity) values)
        (newest_in (bound_of capacity) values) w.values (bound_of capacity)
    pub longest-is : bound_of longest ≡ w.longest
    pub capacity-is : bound_of capacity ≡ w.capacity
    pub row : owner < length w.names

pub standing : {work text : List ℕ} {owner values longest capacity : ℕ} {w : Rows} → Valid w
    → Writable w → Few w → ValuesMeant work text values longest capacity w
    → owner < length w.names → Standing work text owner values longest capacity w
standing {work} {text} {values = values} {w = w} valid writable few m row =
    record {
      valid = valid;
      writable = writable;
      few = few;
      stand = subst
          (λ cap. ValuesStand work text (length text) values (replaced cap values)
          (newest_in cap values) w.values cap) (sym m.capacity-is) m.stand;
      longest-is = m.longest-is;
      capacity-is = m.capacity-is;
      row = row;
    }

module _ {work text : List ℕ} {owner values longest capacity : ℕ} {w : Rows}
    (s : Standing work text owner values longest capacity w) (stored : ℕ) where
  abbrev low : ℕ
  low = replaced (bound_of capacity) values

  tabled : Tabled (name_at w) (is_name w) (tables_in w stored) w.values (bound_of capacity)
  unfolding tables_of
  tabled =
      record {
        capacity = sym s.capacity-is;
        alike = values-alike w (replicate stored 0);
        keys = name-keys s.valid;
        keyed = value-keys s.valid;
      }

  own-count : owner < name_rows
      → length (values_of (tables_in w stored) (name_at w owner)) ≡ count_in work value_counts owner
  own-count few =
      local-count tabled owner (is_name_lem w owner s.row) ∙ sym (given_is s.stand.holds owner)
      ∙ sym (count-is s.stand.holds.by_owner owner few)

  all-count : length (all_values (tables_in w stored)) ≡ values - low
  all-count =
      global-count tabled
      ∙ ap (λ n. n - replaced (bound_of capacity) n) s.stand.holds.count

  -- A literal is the String, its length raised by 2.
  pub literal-bits : (x : Text) (a : Alignment)
      → form_bits a (partitions_of (tables_in w stored) (value (name_at w owner))) literal x
      ≡ value_bits work neither 0 owner values capacity x a
  unfolding form_bits partitions_of value_bits
  literal-bits x a = refl

  module _ {x : Text} {h : ℕ} (b : h ≡ hash_of x) {r : Form}
      (f : FormPost work text x h values capacity owner r) where
    pub form-is : form_of (partitions_of (tables_in w stored) (value (name_at w owner))) x ≡ form_in r
    form-is = sym (strict-form f s.stand b tabled (is_name_lem w owner s.row))

    searched : value_form (bound_of capacity) w.values owner (sought w.values low x) ≡ form_in r
    searched =
        ap (λ n. value_form (bound_of capacity) w.values owner
        (since low (last_that (has_text_at w.values x) n))) s.stand.holds.count
        ∙ sym (f.means (length text) w.values (bound_of capacity) s.stand b)

    -- ---- a hit

    here : {j i : ℕ} → form_in r ≡ hit j i
        → HitAt (bound_of capacity) low w.values owner x j i
    here {j} {i} e =
        hit-at (bound_of capacity) low w.values owner x j i _ refl (searched ∙ e)

    pub hit-written : {j i : ℕ} → form_in r ≡ hit j i → Written x
    hit-written e =
        subst Written (here e).found.text (s.writable.values (here e).g (here e).found.inside)

    pub own_bits : {i : ℕ} → form_in r ≡ hit 0 i → owner < name_rows → (a : Alignment)
        → form_bits a (partitions_of (tables_in w stored) (value (name_at w owner))) (hit 0 i) x
        ≡ value_bits work own i owner values capacity x a
    unfolding form_bits partitions_of value_bits hit_bits
    own_bits {i} e few a =
        let at : HitAt (bound_of capacity) low w.values owner x 0 i = here e in
        let (k, n) = own-number (bound_of capacity) w.values owner at.g i at.form in
        let less : i < count_in work value_counts owner =
        omega (
          arith,
          n,
          tally-less (has_key (key_at w.values) owner) (length w.values) at.g
              at.found.inside k,
          ap (tally (has_key (key_at w.values) owner)) s.stand.holds.count,
          count-is s.stand.holds.by_owner owner few,
        ) in
        rw (own-count few, below_in (count_in work value_counts owner) i less)

    pub all-bits : {i : ℕ} → form_in r ≡ hit 1 i → (a : Alignment)
        → form_bits a (partitions_of (tables_in w stored) (value (name_at w owner))) (hit 1 i) x
        ≡ value_bits work all i owner values capacity x a
    unfolding form_bits partitions_of value_bits hit_bits
    all-bits {i} e a =
        let at : HitAt (bound_of capacity) low w.values owner x 1 i = here e in
        let less : i < values - low =
        subst (λ k. k < values - low)
        (sym (all-number (bound_of capacity) w.values owner at.g i at.form))
        ((ordered s.stand.capacity).number at.g at.found.present
        (subst (λ n. at.g < n) s.stand.holds.count at.found.inside)) in
        rw (all-count, below_in (values - low) i less)

    -- ---- a literal

    pub absent-fresh : form_in r ≡ literal → (i : ℕ) → gone_in w ≤ i → i < length w.values
        → text_at w.values i ≡ x → ⊥
    absent-fresh e i l =
        found_none w.values low x
        (absent-number (bound_of capacity) w.values owner (sought w.values low x)
        (searched ∙ e)) i
        (subst (λ n. n ≤ i)
        (ap (λ cap. replaced cap (length w.values)) (sym s.capacity-is)
        ∙ ap (replaced (bound_of capacity)) s.stand.holds.count) l)
