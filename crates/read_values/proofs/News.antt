-- A value that is a literal: whether a value has its text, and what it leaves.
use Prim.Native.Nat.{ℕ, zero, suc, ◌+◌, ◌-◌, ◌≤◌, ◌<◌}
use native.Mathlib.Omega.{arith}
use mathlib.Core.Path.{◌≡◌, refl, sym, ap, subst, ◌∙◌}
use mathlib.Core.Bool.{Bool, true, false, ◌&&◌, true≢false}
use mathlib.Core.List.{List}
use mathlib.Core.Option.{Option}
use lib.ListN.{length, replicate}
use lib.Dec.{eqb, leb}
use borrow.Author.Tests.{eqb-true, eq-eqb, le-leb, lt-leb, leb-true, leb-false}
use Rattle.spec_fields.specs.Refusal.{number_of, loose, limit}
use Rattle.spec_fields.specs.Field.{Alignment}
use Rattle.spec_fields.proofs.Tests.{split}
use Rattle.text.specs.Text.{Text, part}
use Rattle.spec_exi.specs.Settings.{bound_of}
use Rattle.spec_exi.specs.Sizes.{sizes, max_store, max_values}
use Rattle.spec_exi.specs.Tables.{replaced, partitions_of, literal, eq_form, form_of, is_zero, joins}
use Rattle.spec_exi.specs.Tables.{new_uri, new_name, new_value, new_entry, laid, added, tables_after}
use Rattle.spec_exi.specs.Tables.{name_allowed, text_allowed}
use Rattle.spec_exi.specs.Lists.{within_tables}
use Rattle.mem_chain.specs.Chain.{last_that, since}
use Rattle.mem_entries.specs.Texts.{hash_of}
use Rattle.mem_entries.specs.Entries.{Entries, key_at, has_text_at}
use Rattle.mem_values.specs.Window.{value_form, joins_by}
use Rattle.mem_values.specs.Hold.{FoundText}
use Rattle.mem_values.proofs.Bounds.{joins-some, joins-is}
use Rattle.mem_values.proofs.Answers.{found_none}
use Rattle.mem_values.proofs.Joined.{values-grown}
use Rattle.mem_rows.specs.Rows.{Rows, name_at, tables_of, with_value}
use Rattle.mem_rows.specs.Valid.{gone_in}
use Rattle.mem_rows.proofs.Joins.{value-joins, nothing-joins}
use Rattle.mem_rows.proofs.Grown.{value_grows}
use Rattle.mem_rows.proofs.Within.{values-count, within-value, within_none, room-bounded}
use Rattle.read_literal.specs.View as seen
use Rattle.read_literal.specs.Literal.{laid_at, LiteralRead}
use Rattle.read_partition.specs.Strings.{refused_as, literal_as, Tabled}
use Rattle.read_partition.proofs.Literals.{TextLaid, laid-found, store-grown, text-laid}
use Rattle.read_partition.proofs.Steps.{judge-loose, judge-limit}
use Rattle.read_partition.proofs.Posts.{literal-judged, Passes, literal-passed}
use Rattle.read_values.specs.Values.{NewPre, ValueRows, value_role, as_new, ValuePost}
use Rattle.read_values.specs.Values.{JoinsWithin}
use Rattle.read_values.proofs.Meaning.{count-is, form-of}

-- ---- what joins

-- Where a value joins, the capacity is not zero.
joins-open : (n longest capacity : ℕ) → joins_by n longest capacity ≡ true
    → is_zero (bound_of capacity) ≡ false
unfolding joins_by
joins-open n longest capacity j =
    split (is_zero (bound_of capacity))
    (λ e. absurd (true≢false (sym j ∙ rw e refl)))
    (λ e. e)

-- The test of the table's size: without a capacity alone.
abbrev is_full : ℕ → ℕ → Bool
is_full capacity n = eqb capacity 0 && leb max_values n

full_is : (capacity n : ℕ) → is_full capacity n ≡ true → (capacity ≡ 0) × (max_values ≤ n)
full_is capacity n e =
    split (eqb capacity 0)
    (λ z. (eqb-true capacity 0 z, leb-true max_values n (rw z at e)))
    (λ z. absurd (true≢false (sym (rw z at e))))

full-not : (capacity n : ℕ) → is_full capacity n ≡ false → capacity ≡ 0 → n < max_values
full-not capacity n e z = leb-false max_values n (rw (eq-eqb capacity 0 z) at e)

-- The table has room for one value more: under a capacity always, else up to its size.
room-more : (n capacity : ℕ) → capacity ≤ max_values + 1 → (capacity ≡ 0 → n < max_values)
    → suc n - replaced (bound_of capacity) (suc n) ≤ max_values
unfolding replaced bound_of
room-more n zero few h = omega (arith, h refl)
room-more n (suc c) few h = room-bounded (suc c) (suc n) (λ e. omega arith) few

no_room : (n capacity : ℕ) → capacity ≡ 0 → max_values ≤ n
    → max_values < suc n - replaced (bound_of capacity) (suc n)
unfolding replaced bound_of
no_room n zero e h = omega arith
no_room n (suc c) e h = absurd (omega arith)

-- ---- the form by what a search answers

absent-form : (cap : Option ℕ) (es : Entries) (owner r : ℕ) → r ≡ 0
    → eq_form literal (value_form cap es owner r) ≡ true
unfolding value_form eq_form
absent-form cap es owner r z = rw z

present-form : (cap : Option ℕ) (es : Entries) (owner r : ℕ) → (r ≡ 0 → ⊥)
    → eq_form literal (value_form cap es owner r) ≡ false
unfolding value_form eq_form
present-form cap es owner zero ne = absurd (ne refl)
present-form cap es owner (suc g) ne = split (eqb owner (key_at es g)) (λ e. rw e) (λ e. rw e)

-- What a search for it answered.
abbrev Sought : List ℕ → List ℕ → ℕ → ℕ → ℕ → ℕ → ℕ → ℕ → Type 0
Sought work text' stored n hash values capacity row =
    FoundText work text' (part text' (record { place = stored; size = n })) hash values
    (replaced (bound_of capacity) values) row

module _ {text : List ℕ} {stored : ℕ} {w : Rows} {store : Text} (t : Tabled text stored w store)
    {work : List ℕ} {values longest capacity owner : ℕ}
    (p : ValueRows work text stored values longest capacity owner w)
    {n : ℕ} {text' : List ℕ} {x : Text} (d : TextLaid text stored n text' x)
    {hash row : ℕ} (is : hash ≡ hash_of (part text' (record { place = stored; size = n })))
    (s : Sought work text' stored n hash values capacity row) where
  -- The answer of the search.
  row_is : row
      ≡ since (replaced w.capacity values) (last_that (has_text_at w.values x) values)
  row_is =
      let e = laid-found d in
      let f : FoundText work text' x hash values (replaced w.capacity values) row =
      subst (λ y. FoundText work text' y hash values (replaced w.capacity values) row) e
      (subst
      (λ b. FoundText work text' (part text' (record { place = stored; size = n })) hash values
      (replaced b values) row) p.capacity-is s) in
      f.newest stored w.values (values-grown (store-grown d) p.stand.holds)
      (is ∙ ap hash_of e)
      (omega (arith, p.stand.near))

  absent-strict : row ≡ 0
      → eq_form literal (form_of (partitions_of (tables_of w store) (value_role owner w)) x) ≡ true
  absent-strict z = ap (eq_form literal) (form-of t p x row row_is)
      ∙ absent-form w.capacity w.values owner row z

  present-loose : (row ≡ 0 → ⊥)
      → eq_form literal (form_of (partitions_of (tables_of w store) (value_role owner w)) x) ≡ false
  present-loose ne = ap (eq_form literal) (form-of t p x row row_is)
      ∙ present-form w.capacity w.values owner row ne

  store-fits : length (tables_of w store).store + length x ≤ max_store
  unfolding tables_of
  store-fits = omega (arith, t.size)

  -- Whether it joins.
  joins-as : joins (tables_of w store).values x ≡ joins_by n longest capacity
  unfolding tables_of
  joins-as =
      sym (joins-is (tables_of w store).values x longest capacity p.longest-is
      p.capacity-is)
      ∙ ap (λ k. joins_by k longest capacity) d.size

  stays-passes : row ≡ 0 → joins_by n longest capacity ≡ false
      → Passes (λ w y. with_value w owner y) (value_role owner w) w store x false
  unfolding new_uri new_name new_value new_entry laid name_allowed text_allowed
  stays-passes z e =
      let i : joins (tables_of w store).values x ≡ false = joins-as ∙ e in
      record {
        whole = refl;
        strict = absent-strict z;
        allowed = refl;
        within = within_none (tables_of w store) x t.within store-fits
            (value_role owner w) refl refl (rw i);
        stays = λ _. nothing-joins w store x (value_role owner w) refl refl (rw i);
        joined = λ j. absurd (true≢false (sym j));
        valid = λ j. absurd (true≢false (sym j));
      }

  module _ (j : joins_by n longest capacity ≡ true) where
    within-is : within_tables sizes (added (tables_of w store) (value_role owner w) x)
        ≡ leb (suc values - replaced (bound_of capacity) (suc values)) max_values
    unfolding tables_of
    within-is =
        within-value (tables_of w store) x t.within store-fits (name_at w owner) (joins-as ∙ j)
        ∙ ap (λ m. leb (suc m - replaced w.capacity (suc m)) max_values)
        (values-count w store ∙ count-is t p)
        ∙ ap (λ b. leb (suc values - replaced b (suc values)) max_values) (sym p.capacity-is)

    new-passes : row ≡ 0 → (capacity ≡ 0 → values < max_values)
        → Passes (λ w y. with_value w owner y) (value_role owner w) w store x true
    unfolding name_allowed text_allowed laid tables_of
    new-passes z h =
        let absent : 0 ≡ since (gone_in w)
        (last_that (has_text_at w.values x) (length w.values)) =
        sym z ∙ row_is
        ∙ ap (λ m. since (replaced w.capacity m) (last_that (has_text_at w.values x) m))
        (sym (count-is t p)) in
        let room = room-more values capacity p.few h in
        record {
          whole = refl;
          strict = absent-strict z;
          allowed = refl;
          within = within-is
              ∙ le-leb (suc values - replaced (bound_of capacity) (suc values)) max_values room;
          stays = λ i. absurd (true≢false i);
          joined = λ _. value-joins w t.valid.refers store x owner (joins-as ∙ j);
          valid = λ _.
              value_grows t.valid owner _ p.row
              (λ i l m y. found_none w.values (gone_in w) x absent i l m y)
              (ap is_zero (sym p.capacity-is) ∙ joins-open n longest capacity j)
              (subst (λ m. suc m - replaced w.capacity (suc m) ≤ max_values)
              (sym (count-is t p))
              (subst (λ b. suc values - replaced b (suc values) ≤ max_values) p.capacity-is room));
        }

-- ---- by what `read_literal` and `seek` answer

module _ {stream : List ℕ} {at : ℕ} {text : List ℕ} {stored : ℕ} {work : List ℕ} {values n : ℕ}
    {text' : List ℕ}
    {l : seen.Literal} (fit : NewPre stream at text stored work values)
    (r : LiteralRead stream at text stored n text' l)
    (z : l.number ≡ 0) where
  module _ {longest capacity row : ℕ}
      (s : Sought work text' stored n l.hash values capacity row) where
    pub new-loose : (row ≡ 0 → ⊥) → {text'' : List ℕ}
        → text'' ≡ laid_at text' stored (replicate n 0) → {a : Alignment} {owner : ℕ}
        → ValuePost a (as_new n) stream at text stored work values longest capacity owner text''
        (refused_as (number_of loose) l.next 0 stored)
    unfolding laid number_of text_allowed
    new-loose ne c {owner = owner} =
        literal-judged (value_role owner) r z fit.literal.room (number_of loose) (omega arith) c
        (λ w store t p x e f.
        judge-loose (tables_of w store) (value_role owner w) (literal, laid (tables_of w store) x) refl
        (present-loose t p (text-laid fit.literal r z x e f) (r.hashed.is z) s ne))

    module _ (absent : row ≡ 0) where
      pub new-stays : joins_by n longest capacity ≡ false → {a : Alignment} {owner : ℕ}
          → ValuePost a (as_new n) stream at text stored work values longest capacity owner text'
          (literal_as l.next stored n 0 false 0)
      new-stays e {owner = owner} =
          literal-passed (value_role owner) r z fit.literal.room 0 false 0
          (λ w store t p x b f. stays-passes t p (text-laid fit.literal r z x b f) (r.hashed.is z) s absent e)

      module _ (j : joins_by n longest capacity ≡ true) where
        pub new-full : is_full capacity values ≡ true → {text'' : List ℕ}
            → text'' ≡ laid_at text' stored (replicate n 0) → {a : Alignment} {owner : ℕ}
            → ValuePost a (as_new n) stream at text stored work values longest capacity owner text''
            (refused_as (number_of limit) l.next 0 stored)
        unfolding laid number_of name_allowed text_allowed tables_after
        new-full h c {owner = owner} =
            literal-judged (value_role owner) r z fit.literal.room (number_of limit)
            (omega arith) c
            (λ w store t p x e f.
            let d = text-laid fit.literal r z x e f in
            judge-limit (tables_of w store) (value_role owner w) (literal, laid (tables_of w store) x) refl
            (absent-strict t p d (r.hashed.is z) s absent) refl
            (within-is t p d (r.hashed.is z) s j
            ∙ lt-leb (suc values - replaced (bound_of capacity) (suc values)) max_values
            (no_room values capacity (full_is capacity values h).0 (full_is capacity values h).1)))

        pub new-joins : is_full capacity values ≡ false → {a : Alignment} {owner : ℕ}
            → ValuePost a (as_new n) stream at text stored work values longest capacity owner text'
            (literal_as l.next stored n values true l.hash)
        new-joins h {owner = owner} =
            literal-passed (value_role owner) r z fit.literal.room values true l.hash
            (λ w store t p x e f.
            new-passes t p (text-laid fit.literal r z x e f) (r.hashed.is z) s j absent
            (full-not capacity values h))

  -- On every memory a value that joins has a code point in the store.
  pub new-within : (longest capacity : ℕ) → joins_by n longest capacity ≡ true
      → JoinsWithin values text' (literal_as l.next stored n values true l.hash)
  new-within longest capacity j =
      record {
        left = λ _. omega (arith, fit.few, joins-some n longest capacity j);
        room = λ _. r.ends z;
        hashed = record { is = λ _. r.hashed.is z };
      }
