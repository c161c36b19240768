-- What the judgement of a value answers: a hit among its name's own values or among all, or a literal.
use Prim.Native.Nat.{ℕ, zero, suc, ◌+◌, ◌-◌, ◌≤◌, ◌<◌}
use native.Mathlib.Omega.{arith}
use mathlib.Core.Path.{◌≡◌, refl, sym, ap, subst, ◌∙◌}
use mathlib.Core.Bool.{Bool, true, false, cond, not, ◌&&◌, true≢false}
use mathlib.Core.List.{List, [], ◌∷◌, ◌++◌}
use lib.ListN.{length, replicate}
use lib.Dec.{eqb, leb, ltb}
use borrow.Author.Tests.{eqb-true, eqb-false, ne_eqb, leb-true, leb-false, le-ltb}
use borrow.Author.Tests.{lt-ltb, le-leb, not-true, not-false}
use Rattle.spec_fields.specs.Bits.{Bits}
use Rattle.spec_fields.specs.Field.{Alignment}
use Rattle.spec_fields.specs.Refusal.{number_of, name, limit, number_character, number_limit}
use Rattle.spec_fields.proofs.Tests.{split}
use Rattle.text.specs.Text.{Text, all_chars}
use Rattle.spec_exi.specs.Settings.{bound_of}
use Rattle.spec_exi.specs.Sizes.{sizes, max_string, max_store, max_values}
use Rattle.spec_exi.specs.Tables.{Placed, value, hit, literal, partitions_of, form_of, form_bits}
use Rattle.spec_exi.specs.Tables.{replaced, is_zero, joins, new_uri, new_name, new_entry, new_value, laid}
use Rattle.spec_exi.specs.Tables.{added, name_allowed, text_allowed}
use Rattle.spec_exi.specs.Context.{item}
use Rattle.spec_exi.specs.Lists.{within_tables}
use Rattle.spec_exi.specs.Writer.{first_failed, string_tests}
use Rattle.spec_exi.proofs.Alike.{alike_same}
use Rattle.mem_entries.specs.Texts.{hash_of}
use Rattle.mem_values.specs.declared.Form.{Form}
use Rattle.mem_values.specs.declared.Form.TheVariants.{Local, Global, Absent}
use Rattle.mem_values.specs.Window.{newest_in, joins_by, Replaced, Newest}
use Rattle.mem_values.specs.Forms.{form_in, FormOfPre, Formed}
use Rattle.mem_values.proofs.Bounds.{joins-some, joins-is}
use Rattle.mem_rows.specs.Rows.{Rows, name_at, tables_of}
use Rattle.mem_rows.proofs.Joins.{nothing-joins}
use Rattle.mem_rows.proofs.Alike.{value-joins-alike}
use Rattle.mem_rows.proofs.Grown.{value_grows}
use Rattle.mem_rows.proofs.Within.{values-count, within-value, within_none, room-bounded}
use Rattle.mem_rows.proofs.Within.{room-unbounded}
use Rattle.mem_state.specs.Strung.{value_added}
use Rattle.write_partition.specs.Writable.{Written, tables_in}
use Rattle.write_partition.specs.Judged.{fault_number, literal_tests, StringMeans}
use Rattle.write_partition.proofs.Tests.{number-then, number-first, passed-test, first_passes, Passed}
use Rattle.write_partition.proofs.Tests.{literal-passes, too_much, no_char, no-fault}
use Rattle.write_partition.proofs.Rows.{store-count, few-within, value-writable}
use Rattle.write_partition.proofs.Means.{refused-means, long-means, hit-means, literal-fault}
use Rattle.write_partition.proofs.Means.{literal-means}
use Rattle.write_values.specs.Values.{ValueAnswer, partition_in, id_in, own, all, neither, refused_as, found_as, literal_as}
use Rattle.write_values.specs.Values.{has_row, NewValuePost, FormPre, FormPost, ValuePre}
use Rattle.write_values.specs.Values.{value_bits, ValuePost}
use Rattle.write_values.proofs.Forms.{Standing, standing, literal-bits, form-is, hit-written}
use Rattle.write_values.proofs.Forms.{own_bits, all-bits, absent-fresh}

both_true : (a b : Bool) → (a && b) ≡ true → (a ≡ true) × (b ≡ true)
both_true true b e = (refl, e)
both_true false b e = absurd (true≢false (sym e))

-- ---- a literal: the store's size, its characters, the table's size

module _ (x : Text) (values longest capacity stored h : ℕ) (low : stored ≤ max_store) where
  abbrev Judged : ValueAnswer → Type 0
  Judged = NewValuePost x values longest capacity stored h

  new-fault : {fault : ℕ} → fault ≡ fault_number (first_failed (literal_tests x stored)) → 0 < fault
      → Judged (refused_as fault stored)
  new-fault e l =
      record {
        number_is = number-first (literal_tests x stored) _ e l;
        refused = λ _. refl;
        judged = λ z. absurd (omega arith);
      }

  pub new-much : max_store - stored < length x → Judged (refused_as number_limit stored)
  new-much l = new-fault (too_much x stored low l) (omega arith)

  module _ (room : length x ≤ max_store - stored) {chars : Bool} (e : chars ≡ all_chars x) where
    pub new-no-char : not chars ≡ true → Judged (refused_as number_character stored)
    new-no-char t = new-fault (no_char x stored low room e t) (omega arith)

    module _ (t : not chars ≡ false) where
      room-left : (left : Bool) → has_row (length x) values longest capacity ≡ left
          → fault_number (first_failed (literal_tests x stored
          ++ ((has_row (length x) values longest capacity, limit) ∷ [])))
          ≡ fault_number (first_failed ((left, limit) ∷ []))
      room-left left r =
          number-then (literal_tests x stored) _ (no-fault x stored low room e t) refl
          ∙ ap (λ b. fault_number (first_failed ((b, limit) ∷ []))) r

      new-taken : (joins : Bool) → joins_by (length x) longest capacity ≡ joins
          → has_row (length x) values longest capacity ≡ true
          → Judged (literal_as stored (length x) joins (cond joins h 0))
      unfolding first_failed fault_number
      new-taken joins j r =
          record {
            number_is = sym (room-left true r);
            refused = λ y. absurd (omega arith);
            judged = λ _. ap (λ b. literal_as stored (length x) b (cond b h 0)) (sym j);
          }

      -- One that joins no table.
      pub new-kept-out : {joins : Bool} → joins ≡ joins_by (length x) longest capacity
          → not joins ≡ true → Judged (literal_as stored (length x) false 0)
      unfolding has_row
      new-kept-out {joins} j n =
          let f : joins_by (length x) longest capacity ≡ false = sym j ∙ not-true joins n in
          new-taken false f (rw f)

      module _ {joins : Bool} (j : joins ≡ joins_by (length x) longest capacity)
          (y : not joins ≡ false) where
        in_table : joins_by (length x) longest capacity ≡ true
        in_table = sym j ∙ not-false joins y

        pub new-full : (eqb capacity 0 && leb max_values values) ≡ true
            → Judged (refused_as number_limit stored)
        unfolding first_failed fault_number number_of has_row
        new-full l =
            let (c, v) = both_true (eqb capacity 0) (leb max_values values) l in
            let r : has_row (length x) values longest capacity ≡ false =
            rw (in_table, c, le-ltb values max_values (leb-true max_values values v)) in
            record {
              number_is = sym (room-left false r);
              refused = λ _. refl;
              judged = λ y. absurd (omega arith);
            }

        pub new-laid : (eqb capacity 0 && leb max_values values) ≡ false
            → Judged (literal_as stored (length x) true h)
        unfolding has_row
        new-laid l = new-taken true in_table (rw in_table (free l))
          where
            free : (eqb capacity 0 && leb max_values values) ≡ false
                → cond (eqb capacity 0) (ltb values max_values) true ≡ true
            free l =
                split (eqb capacity 0)
                (λ c.
                let m : leb max_values values ≡ false = rw c at l in
                rw c (lt-ltb values max_values (leb-false max_values values m)))
                (λ c. rw c refl)

-- ---- what the numbers of the settings say

joins-open : (size longest capacity : ℕ) → joins_by size longest capacity ≡ true
    → is_zero (bound_of capacity) ≡ false
unfolding joins_by
joins-open size longest capacity j =
    split (is_zero (bound_of capacity)) (λ t. let z = rw t at j in absurd (true≢false (sym z)))
    (λ t. t)

row_is : (values capacity : ℕ) → capacity ≤ max_values + 1
    → leb (suc values - replaced (bound_of capacity) (suc values)) max_values
    ≡ cond (eqb capacity 0) (ltb values max_values) true
unfolding bound_of replaced
row_is values zero h = room-unbounded values
row_is values (suc c) h =
    rw (ne_eqb (suc c) 0 (λ e. omega arith))
    (le-leb (suc values - (suc values - c)) max_values
    (room-bounded (suc c) (suc values) (λ e. omega arith) h))

-- ---- any value

tables-capacity : (w : Rows) (store : Text) → (tables_of w store).values.capacity ≡ w.capacity
unfolding tables_of
tables-capacity w store = refl

pub form-asks : {work : List ℕ} {values : ℕ} → FormPre work values → {capacity low newer : ℕ}
    → Replaced values capacity low → Newest values capacity newer → FormOfPre work values low newer
unfolding max_store
form-asks ask r n =
    record {
      room = ask.room;
      few = omega (arith, ask.few);
      some = r.within;
      new = rw r.is n.within;
    }

pub form-given : {work text : List ℕ} {x : Text} {h values capacity low newer owner : ℕ} {r : Form}
    → Replaced values capacity low → Newest values capacity newer
    → Formed work text x h values low newer owner r
    → FormPost work text x h values capacity owner r
form-given {work} {text} {x} {h} {values} {capacity} {low} {newer} {owner} {r} p n f =
    subst (λ k. Formed work text x h values k (newest_in (bound_of capacity) values) owner r) p.is
    (subst (λ k. Formed work text x h values low k owner r) n.is f)

absent-form : {r : Form} → r ≡ Absent → form_in r ≡ literal
unfolding form_in
absent-form e = ap form_in e

pub sought-asks : {work : List ℕ} {owner values capacity stored : ℕ}
    → ValuePre work owner values capacity stored → FormPre work values
sought-asks ask = record { room = ask.room; few = omega (arith, ask.few, ask.store) }

module _ {text : List ℕ} {x : Text} {owner values longest capacity stored : ℕ} {work : List ℕ}
    (ask : ValuePre work owner values capacity stored) where
  value-refused : {number : ℕ} → 0 < number
      → ((w : Rows) → Standing work text owner values longest capacity w → (v : Rows) (bits : Alignment → Bits)
      → StringMeans (value (name_at w owner)) w v stored x number stored bits)
      → ValuePost text x owner values longest capacity stored work (refused_as number stored)
  value-refused h means =
      record {
        refused = λ _. refl;
        bounds = λ z. absurd (omega arith);
        meant = λ w valid writable few meant row place.
            means w (standing valid writable few meant row) _ _;
      }

  pub value-long : max_string < length x
      → ValuePost text x owner values longest capacity stored work (refused_as number_limit stored)
  value-long h =
      value-refused (omega arith) (λ w _ _ _. long-means (value (name_at w owner)) w stored x h)

  -- ---- a hit

  module _ {h : ℕ} (b : h ≡ hash_of x) {r : Form}
      (f : FormPost work text x h values capacity owner r) where
    value_found : {j i : ℕ} → form_in r ≡ hit j i → j < neither
        → ((w : Rows) → Standing work text owner values longest capacity w → (a : Alignment)
        → form_bits a (partitions_of (tables_in w stored) (value (name_at w owner))) (hit j i) x
        ≡ value_bits work j i owner values capacity x a)
        → ValuePost text x owner values longest capacity stored work (found_as j i stored)
    unfolding name_allowed text_allowed value_added
    value_found {j} {i} e l bits =
        record {
          refused = λ m. absurd (omega arith);
          bounds = λ _.
              record {
                which = omega arith;
                literal = λ z. absurd (omega arith);
                new = λ z. absurd (true≢false (sym z));
                unhashed = λ _. refl;
                unnumbered = λ z. absurd (omega arith);
                stored_is = rw (ne_eqb j neither (λ z. omega arith)) (omega arith);
                store = ask.store;
              };
          meant = λ w valid writable few meant row place.
              let s : Standing work text owner values longest capacity w = standing valid writable few meant row in
              hit-means (value (name_at w owner)) w stored x (form-is s stored b f ∙ e) few ask.store
              (hit-written s stored b f e) refl refl valid writable (bits w s);
        }

    pub value-own : {i : ℕ} → r ≡ Local i
        → ValuePost text x owner values longest capacity stored work (found_as own i stored)
    unfolding form_in
    value-own e =
        value_found (ap form_in e) (omega arith) (λ w s. own_bits s stored b f (ap form_in e) ask.low)

    pub value-all : {i : ℕ} → r ≡ Global i
        → ValuePost text x owner values longest capacity stored work (found_as all i stored)
    unfolding form_in
    value-all e =
        value_found (ap form_in e) (omega arith) (λ w s. all-bits s stored b f (ap form_in e))

    hit-by : (q : Form) → r ≡ q → (q ≡ Absent → ⊥)
        → ValuePost text x owner values longest capacity stored work
        (found_as (partition_in q) (id_in q) stored)
    hit-by (Local i) e n = value-own e
    hit-by (Global i) e n = value-all e
    hit-by Absent e n = absurd (n refl)

    pub value-hit : (r ≡ Absent → ⊥) → ValuePost text x owner values longest capacity stored work
        (found_as (partition_in r) (id_in r) stored)
    value-hit n = hit-by r refl n

    -- ---- a literal

    module _ (e : r ≡ Absent) where
      module _ {w : Rows} (s : Standing work text owner values longest capacity w) where
        form : form_of (partitions_of (tables_in w stored) (value (name_at w owner))) x ≡ literal
        form = form-is s stored b f ∙ (absent-form e)

        within : within_tables sizes (tables_in w stored) ≡ true
        within = few-within s.few ask.store

        store-fits : stored + length x ≤ max_store
            → length (tables_in w stored).store + length x ≤ max_store
        store-fits l = omega (arith, store-count w stored)

        -- Whether it joins, by the settings' numbers.
        in_rows : joins (tables_in w stored).values x ≡ joins_by (length x) longest capacity
        unfolding tables_of
        in_rows =
            sym (joins-is (tables_in w stored).values x longest capacity s.longest-is
            s.capacity-is)

        row-left : joins (tables_in w stored).values x ≡ true → stored + length x ≤ max_store
            → within_tables sizes (added (tables_in w stored) (value (name_at w owner)) x)
            ≡ cond (eqb capacity 0) (ltb values max_values) true
        row-left j l =
            within-value (tables_in w stored) x within (store-fits l) (name_at w owner) j
            ∙ ap (λ n. leb (suc n - replaced (tables_in w stored).values.capacity (suc n)) max_values)
            (values-count w (replicate stored 0) ∙ s.stand.holds.count)
            ∙ ap (λ cap. leb (suc values - replaced cap (suc values)) max_values)
            (tables-capacity w (replicate stored 0) ∙ sym s.capacity-is)
            ∙ row_is values capacity ask.bound

        within-is : stored + length x ≤ max_store
            → within_tables sizes (added (tables_in w stored) (value (name_at w owner)) x)
            ≡ has_row (length x) values longest capacity
        unfolding has_row new_uri new_name new_value new_entry laid
        within-is l =
            split (joins (tables_in w stored).values x)
            (λ j. rw (sym in_rows ∙ j) (row-left j l))
            (λ j.
            rw (sym in_rows ∙ j)
            (within_none (tables_in w stored) x within (store-fits l) (value (name_at w owner)) refl refl (rw j)))

        new-tests : {number : ℕ} → length x ≤ max_string
            → number ≡ fault_number (first_failed (literal_tests x stored
            ++ ((has_row (length x) values longest capacity, limit) ∷ [])))
            → number ≡ fault_number
            (first_failed (string_tests sizes (tables_in w stored) (item (value (name_at w owner)) x)))
        unfolding name_allowed text_allowed
        new-tests l e =
            literal-fault (value (name_at w owner)) w stored x form l refl
            (has_row (length x) values longest capacity) within-is
            (e ∙ ap fault_number
            (sym
            (passed-test (literal_tests x stored)
            ((has_row (length x) values longest capacity, limit) ∷ []) true name refl)))

        -- One row more is within the size.
        room_for : joins_by (length x) longest capacity ≡ true
            → has_row (length x) values longest capacity ≡ true
            → leb (suc (length w.values) - replaced w.capacity (suc (length w.values)))
            max_values ≡ true
        unfolding has_row
        room_for j r =
            let k : cond (eqb capacity 0) (ltb values max_values) true ≡ true = rw j at r in
            ap (λ cap. leb (suc (length w.values) - replaced cap (suc (length w.values))) max_values)
            (sym s.capacity-is)
            ∙ ap (λ n. leb (suc n - replaced (bound_of capacity) (suc n)) max_values) s.stand.holds.count
            ∙ row_is values capacity ask.bound ∙ k

        new-means : (joins : Bool) → joins_by (length x) longest capacity ≡ joins
            → has_row (length x) values longest capacity ≡ true → (place : ℕ) → Written x
            → 0 ≡ fault_number
            (first_failed (string_tests sizes (tables_in w stored) (item (value (name_at w owner)) x)))
            → StringMeans (value (name_at w owner)) w
            (value_added joins owner w (record { place = place; text = x })) stored x 0
            (stored + length x) (value_bits work neither 0 owner values capacity x)
        unfolding value_added new_uri new_name new_value new_entry laid
        new-means true j r place judged k =
            let y : Placed = record { place = place; text = x } in
            literal-means (value (name_at w owner)) w stored x form k
            (literal-bits s stored x)
            (value-joins-alike w s.valid.refers (replicate stored 0) y owner (in_rows ∙ j))
            (value_grows s.valid owner y s.row (absent-fresh s stored b f (absent-form e))
            (subst (λ cap. is_zero cap ≡ false) s.capacity-is (joins-open (length x) longest capacity j))
            (leb-true _ _ (room_for j r)))
            (value-writable s.writable y judged owner)
        new-means false j r place judged k =
            literal-means (value (name_at w owner)) w stored x form k
            (literal-bits s stored x)
            (rw (nothing-joins w (replicate stored 0) x (value (name_at w owner)) refl refl
            (rw (in_rows ∙ j))) (alike_same _))
            s.valid s.writable

      module _ (short : length x ≤ max_string) {j : ValueAnswer}
          (p : NewValuePost x values longest capacity stored h j) where
        abbrev enters : Bool
        enters = joins_by (length x) longest capacity

        value_taken : j.number ≡ 0
            → ValuePost text x owner values longest capacity stored work
            (literal_as stored (length x) enters (cond enters h 0))
        value_taken z =
            let q : Passed x stored ((has_row (length x) values longest capacity, limit) ∷ []) =
            literal-passes x stored _ p.number_is z in
            let judged : Written x = record { short = short; chars = q.chars } in
            let (l, _) =
            first_passes (has_row (length x) values longest capacity) limit [] q.others in
            record {
              refused = λ l. absurd (omega arith);
              bounds = λ _.
                  record {
                    which = omega arith;
                    literal = λ _. judged;
                    new = λ j. (
                      refl,
                      omega (arith, joins-some (length x) longest capacity j, ask.few),
                      rw j b,
                    );
                    unhashed = λ j. rw j;
                    unnumbered = λ _. refl;
                    stored_is = refl;
                    store = q.store;
                  };
              meant = λ w valid writable few meant row place.
                  let s : Standing work text owner values longest capacity w = standing valid writable few meant row in
                  new-means s enters refl l place judged (sym z ∙ new-tests s short p.number_is);
            }

        pub value-new : ValuePost text x owner values longest capacity stored work j
        value-new =
            split (eqb j.number 0)
            (λ t.
            let z : j.number ≡ 0 = eqb-true j.number 0 t in
            subst (ValuePost text x owner values longest capacity stored work) (sym (p.judged z)) (value_taken z))
            (λ t.
            let l : 0 < j.number = omega (arith, eqb-false j.number 0 t) in
            subst (ValuePost text x owner values longest capacity stored work) (sym (p.refused l))
            (value-refused l (λ w s v bits.
            refused-means (value (name_at w owner)) w stored x l (new-tests s short p.number_is))))
