-- A value joins the table: memory with its cells is the table with one value more. What other
-- tables
-- change leaves the value table as it is, and the other way round.
use Prim.Native.Nat.{ℕ, suc, ◌+◌, ◌%◌, ◌≤◌, ◌<◌}
use native.Mathlib.Omega.{arith}
use mathlib.Core.Path.{◌≡◌, refl, sym, ap, subst, ◌∙◌}
use mathlib.Core.List.{List, [], ◌∷◌}
use lib.ListN.{length, get_or, length-append}
use lib.Dec.{eqb}
use borrow.Author.Tests.{eqb-true, eqb-false}
use Rattle.text.specs.Text.{Text}
use Rattle.spec_exi.specs.Tables.{Entry}
use Rattle.mem_layout.specs.Layout.{value_text_heads, value_code_heads, value_counts, value_buckets}
use Rattle.mem_layout.specs.Layout.{value_ring}
use Rattle.mem_layout.specs.Layout.{value_places, value_sizes, value_text_nexts, value_codes}
use Rattle.mem_layout.specs.Layout.{value_code_nexts}
use Rattle.mem_layout.specs.Layout.{name_rows, prefixes, work_cells}
use Rattle.mem_chain.specs.Chain.{linked, Chained}
use Rattle.mem_chain.proofs.Last.{split}
use Rattle.mem_chain.proofs.More.{ring-apart, chained-none, chained_same, chained_more}
use Rattle.mem_chain.proofs.More.{linked-length}
use Rattle.mem_chain.proofs.More.{linked-other}
use Rattle.mem_index.specs.declared.Index.{Index}
use Rattle.mem_index.specs.Index.{numbers, joined, Numbered}
use Rattle.mem_index.proofs.More.{OrderedCounts, Off, SameIndex, numbered-same}
use Rattle.mem_index.proofs.More.{numbered-none}
use Rattle.mem_index.proofs.More.{numbered_more, joined_length, joined-other}
use Rattle.mem_entries.specs.Texts.{hash_of, with_text, Names, Grown, Lies}
use Rattle.mem_entries.specs.Entries.{Entries, entry_at, key_at, joined_by}
use Rattle.mem_entries.proofs.Texts.{names_same, names-grown, put-length, put_other, put-names}
use Rattle.mem_entries.proofs.Entries.{entry_old, entry_new}
use Rattle.mem_values.specs.Values.{value_index, text_bucket, with_value}
use Rattle.mem_values.specs.Hold.{ValuesHold}

index-order : OrderedCounts value_index value_counts name_rows
index-order =
    record {
      order = record
          { some = omega arith; sized = omega arith; heads = omega arith; codes = omega arith };
      from = omega arith;
      to = omega arith;
    }

-- ---- cells of other tables

-- The cells of the value table are the same.
pub record SameValues (work after : List ℕ) : Type 0 where
  pub room : work_cells ≤ length after
  pub heads : (j : ℕ) → j < value_code_heads + value_buckets → get_or after j 0 ≡ get_or work j 0
  pub counts : (j : ℕ) → value_counts ≤ j → j < value_counts + name_rows
      → get_or after j 0 ≡ get_or work j 0
  pub columns : (j : ℕ) → value_places ≤ j → j < prefixes → get_or after j 0 ≡ get_or work j 0

same_index : {work after : List ℕ} → SameValues work after → SameIndex work after value_index
same_index s =
    record {
      heads = record { cells = λ i l. s.heads (value_code_heads + i) (omega arith) };
      codes = record { cells = λ i l. s.columns (value_codes + i) (omega arith) (omega arith) };
      nexts = record { cells = λ i l. s.columns (value_code_nexts + i) (omega arith) (omega arith) };
    }

pub values-kept : {work after store : List ℕ} {stored n : ℕ} {es : Entries} → SameValues work after
    → ValuesHold work store stored n es → ValuesHold after store stored n es
values-kept s h =
    record {
      room = s.room;
      inside = h.inside;
      count = h.count;
      rows = λ i l near.
          names_same (s.columns (value_places + i % value_ring) (omega arith) (omega arith))
          (s.columns (value_sizes + i % value_ring) (omega arith) (omega arith)) (h.rows i l near);
      by_owner = numbered-same (omega arith) (same_index s)
          (record { cells = λ i l. s.counts (value_counts + i) (omega arith) (omega arith) })
          h.by_owner;
      by_text = chained_same (omega arith)
          (record { cells = λ i l. s.heads (value_text_heads + i) (omega arith) })
          (record { cells = λ i l. s.columns (value_text_nexts + i) (omega arith) (omega arith) })
          h.by_text;
    }

-- The first cells of the store stay, and it grows.
pub values-grown : {work before after : List ℕ} {stored more n : ℕ} {es : Entries}
    → Grown before after stored more → ValuesHold work before stored n es
    → ValuesHold work after more n es
values-grown g h =
    record {
      room = h.room;
      inside = g.inside;
      count = h.count;
      rows = λ i l near. names-grown g h.inside (h.rows i l near);
      by_owner = h.by_owner;
      by_text = h.by_text;
    }

-- Memory whose counts are zero has no value.
pub values-none : (work store : List ℕ) (stored : ℕ) → work_cells ≤ length work
    → stored ≤ length store
    → ((k : ℕ) → k < name_rows → get_or work (value_counts + k) 0 ≡ 0)
    → ValuesHold work store stored 0 []
values-none work store stored room inside zeros =
    record {
      room = room;
      inside = inside;
      count = refl;
      rows = λ i l near. absurd (omega arith);
      by_owner = numbered-none work value_index value_counts name_rows (key_at []) zeros;
      by_text = chained-none work value_text_heads value_buckets value_text_nexts value_ring
          (text_bucket []);
    }

-- ---- the steps of `add`

pub add-steps : (work : List ℕ) (n owner place size h : ℕ) {a b d : List ℕ} {x : Index}
    → x ≡ value_index
    → a ≡ with_text work (value_places + n % value_ring) (value_sizes + n % value_ring) place size
    → b ≡ joined a x value_counts n owner
    → d ≡ linked b (value_text_heads + h % value_buckets) value_text_nexts value_ring n
    → d ≡ with_value work n owner place size h
unfolding with_value
add-steps work n owner place size h {a} {b} {d} {x} e s j l =
    l
    ∙ ap (λ m. linked m (value_text_heads + h % value_buckets) value_text_nexts value_ring n)
    (j ∙ ap (λ y. joined a y value_counts n owner) e
    ∙ ap (λ m. joined m value_index value_counts n owner) s)

module _ (work : List ℕ) (n owner place size h : ℕ) where
  row : n % value_ring < value_ring
  row = omega arith

  cells : List ℕ
  cells = with_text work (value_places + n % value_ring) (value_sizes + n % value_ring) place size

  mid : List ℕ
  mid = joined cells value_index value_counts n owner

  cells-length : length cells ≡ length work
  unfolding cells
  cells-length =
      put-length work (value_places + n % value_ring) (value_sizes + n % value_ring) place size

  mid-length : length mid ≡ length work
  unfolding mid
  mid-length = joined_length cells value_index value_counts n owner ∙ cells-length

  pub added-length : length (with_value work n owner place size h) ≡ length work
  unfolding with_value mid cells
  added-length = linked-length mid (value_text_heads + h % value_buckets) value_text_nexts value_ring n
      ∙ mid-length

  cells-other : (j : ℕ) → (j ≡ value_places + n % value_ring → ⊥)
      → (j ≡ value_sizes + n % value_ring → ⊥)
      → get_or cells j 0 ≡ get_or work j 0
  unfolding cells
  cells-other j p q =
      put_other work (value_places + n % value_ring) (value_sizes + n % value_ring) place size j p q

  module _ (low : owner < name_rows) where
    mid-other : (j : ℕ) → Off value_index j → (value_counts ≤ j → j < value_counts + name_rows → ⊥)
        → get_or mid j 0 ≡ get_or cells j 0
    unfolding mid
    mid-other j f g =
        joined-other cells value_index value_counts n owner name_rows index-order low j f g

    last-other : (j : ℕ) → (j < value_text_heads + value_buckets → ⊥)
        → (value_text_nexts ≤ j → j < value_text_nexts + value_ring → ⊥)
        → get_or (with_value work n owner place size h) j 0 ≡ get_or mid j 0
    unfolding with_value mid cells
    last-other j f g =
        let t : n % value_ring < value_ring = row in
        linked-other mid (value_text_heads + h % value_buckets) value_text_nexts value_ring n j
        (λ e. f (omega arith)) (λ e. g (omega arith) (omega arith))

    -- A cell outside the value table is as it was.
    pub added-other : (j : ℕ) → value_code_heads + value_buckets ≤ j
        → (value_counts ≤ j → value_counts + name_rows ≤ j) → (value_places ≤ j → prefixes ≤ j)
        → get_or (with_value work n owner place size h) j 0 ≡ get_or work j 0
    added-other j a b c =
        let t : n % value_ring < value_ring = row in
        let off : value_places ≤ j → j < prefixes → ⊥ = λ p q. let z : prefixes ≤ j = c p in
        omega arith in
        last-other j (λ e. omega arith) (λ p q. off (omega arith) (omega arith))
        ∙ mid-other j
        (record {
          heads = λ p q. omega arith;
          codes = λ p q. off (omega arith) (omega arith);
          nexts = λ p q. off (omega arith) (omega arith);
        })
        (λ p q. let z : value_counts + name_rows ≤ j = b p in omega arith)
        ∙ cells-other j (λ e. off (omega arith) (omega arith))
        (λ e. off (omega arith) (omega arith))

    -- ---- the table with it

    module _ {store : List ℕ} {stored : ℕ} {es : Entries} (t : ValuesHold work store stored n es)
        (x : Text)
        (few : n < numbers) (lies : Lies store stored place size x) (hash : h ≡ hash_of x) where
      new : Entry ℕ
      new = record { key = owner; string = record { place = place; text = x } }

      after : Entries
      after = joined_by es owner place x

      entry-same : (i : ℕ) → i < n → entry_at after i ≡ entry_at es i
      unfolding after
      entry-same i l =
          entry_old es (record { key = owner; string = record { place = place; text = x } }) i
          (omega (arith, t.count))

      entry_here : entry_at after n ≡ new
      unfolding after new
      entry_here =
          ap (λ i. entry_at (joined_by es owner place x) i) (sym t.count)
          ∙ entry_new es (record { key = owner; string = record { place = place; text = x } })

      cells_same : SameIndex work cells value_index
      cells_same =
          let r : n % value_ring < value_ring = row in
          record {
            heads = record {
              cells =
                  λ i l. cells-other (value_code_heads + i) (λ e. omega arith) (λ e. omega arith);
            };
            codes = record {
              cells =
                  λ i l. cells-other (value_codes + i) (λ e. omega arith) (λ e. omega arith);
            };
            nexts = record {
              cells =
                  λ i l. cells-other (value_code_nexts + i) (λ e. omega arith) (λ e. omega arith);
            };
          }

      owner-cells : Numbered cells value_index value_counts name_rows (key_at es) n
      owner-cells =
          numbered-same (omega arith) cells_same
          (record {
            cells =
                λ i l. cells-other (value_counts + i) (λ e. omega arith) (λ e. omega arith);
          })
          t.by_owner

      owner-mid : Numbered mid value_index value_counts name_rows (key_at after) (suc n)
      unfolding mid new
      owner-mid =
          let r : work_cells ≤ length work = t.room in
          numbered_more cells value_index value_counts n owner name_rows index-order low
          (omega (arith, cells-length))
          (key_at es) (key_at after) (λ i l. ap (λ (e : Entry ℕ). e.key) (entry-same i l))
          (ap (λ (e : Entry ℕ). e.key) entry_here) few owner-cells

      last-same : SameIndex mid (with_value work n owner place size h) value_index
      last-same =
          record {
            heads = record {
              cells =
                  λ i l. last-other (value_code_heads + i) (λ e. omega arith) (λ p q. omega arith);
            };
            codes = record {
              cells =
                  λ i l. last-other (value_codes + i) (λ e. omega arith) (λ p q. omega arith);
            };
            nexts = record {
              cells =
                  λ i l. last-other (value_code_nexts + i) (λ e. omega arith) (λ p q. omega arith);
            };
          }

      text-mid : Chained mid value_text_heads value_buckets value_text_nexts value_ring (text_bucket es) n
      text-mid =
          let r : n % value_ring < value_ring = row in
          chained_same (omega arith)
          (record {
            cells = λ i l.
                mid-other (value_text_heads + i)
                (record {
                  heads = λ p q. omega arith;
                  codes = λ p q. omega arith;
                  nexts =
                      λ p q. omega arith;
                })
                (λ p q. omega arith)
                ∙ cells-other (value_text_heads + i) (λ e. omega arith) (λ e. omega arith);
          })
          (record {
            cells = λ i l.
                mid-other (value_text_nexts + i)
                (record {
                  heads = λ p q. omega arith;
                  codes = λ p q. omega arith;
                  nexts =
                      λ p q. omega arith;
                })
                (λ p q. omega arith)
                ∙ cells-other (value_text_nexts + i) (λ e. omega arith) (λ e. omega arith);
          })
          t.by_text

      text-last : Chained (with_value work n owner place size h) value_text_heads value_buckets
          value_text_nexts value_ring (text_bucket after) (suc n)
      unfolding with_value mid cells new
      text-last =
          let r : work_cells ≤ length work = t.room in
          chained_more mid value_text_heads value_buckets value_text_nexts value_ring n (h % value_buckets)
          (omega arith) (omega arith)
          (omega arith) (omega (arith, mid-length)) (text_bucket es) (text_bucket after)
          (λ i l. ap (λ (e : Entry ℕ). hash_of e.string.text % value_buckets) (entry-same i l))
          (ap (λ (e : Entry ℕ). hash_of e.string.text % value_buckets) entry_here
          ∙ ap (λ k. k % value_buckets) (sym hash))
          text-mid

      -- A cell of the places' or sizes' column.
      column-cells : (j : ℕ) → value_places ≤ j → j < value_text_nexts
          → get_or (with_value work n owner place size h) j 0 ≡ get_or cells j 0
      column-cells j p q =
          last-other j (λ e. omega arith) (λ a b. omega arith)
          ∙ mid-other j
          (record {
            heads = λ a b. omega arith;
            codes = λ a b. omega arith;
            nexts =
                λ a b. omega arith;
          })
          (λ a b. omega arith)

      rows-old : (i : ℕ) → i < n → n < i + value_ring
          → Names (with_value work n owner place size h) store stored (value_places + i % value_ring)
          (value_sizes + i % value_ring) (entry_at after i).string
      rows-old i l near =
          let r : n % value_ring < value_ring = row in
          let s : i % value_ring < value_ring = omega arith in
          let d : i % value_ring ≡ n % value_ring → ⊥ = ring-apart value_ring i n l near in
          subst (λ (e : Entry ℕ). Names (with_value work n owner place size h) store stored
          (value_places + i % value_ring) (value_sizes + i % value_ring) e.string)
          (sym (entry-same i l))
          (names_same
          (column-cells (value_places + i % value_ring) (omega arith) (omega arith)
          ∙ cells-other (value_places + i % value_ring) (λ e. d (omega arith)) (λ e. omega arith))
          (column-cells (value_sizes + i % value_ring) (omega arith) (omega arith)
          ∙ cells-other (value_sizes + i % value_ring) (λ e. omega arith) (λ e. d (omega arith)))
          (t.rows i l (omega arith)))

      rows_new : Names (with_value work n owner place size h) store stored
          (value_places + n % value_ring) (value_sizes + n % value_ring) (entry_at after n).string
      unfolding cells new
      rows_new =
          let r : n % value_ring < value_ring = row in
          let w : work_cells ≤ length work = t.room in
          subst (λ (e : Entry ℕ). Names (with_value work n owner place size h) store stored
          (value_places + n % value_ring) (value_sizes + n % value_ring) e.string)
          (sym entry_here)
          (names_same (column-cells (value_places + n % value_ring) (omega arith) (omega arith))
          (column-cells (value_sizes + n % value_ring) (omega arith) (omega arith))
          (put-names work (value_places + n % value_ring) (value_sizes + n % value_ring) place size
          (omega arith) (omega arith)
          (λ e. omega arith) store stored x lies))

      pub values-more : ValuesHold (with_value work n owner place size h) store stored (suc n)
          (joined_by es owner place x)
      unfolding after new
      values-more =
          record {
            room = omega (arith, added-length, t.room);
            inside = t.inside;
            count = length-append es (new ∷ []) ∙ (omega (arith, t.count));
            rows = λ i l near.
                split (eqb i n)
                (λ e. let z : i ≡ n = eqb-true i n e in rw z rows_new)
                (λ e. let m : i < n = omega (arith, eqb-false i n e) in rows-old i m (omega arith));
            by_owner = numbered-same (omega arith) last-same
                (record {
                  cells =
                      λ i l. last-other (value_counts + i) (λ e. omega arith) (λ p q. omega arith);
                })
                owner-mid;
            by_text = text-last;
          }
