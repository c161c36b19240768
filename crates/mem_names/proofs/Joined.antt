-- A name joins the table: memory with its cells is the table with one name more. What other tables
-- change leaves the names as they are, and the other way round.
use Prim.Native.Nat.{ℕ, suc, ◌+◌, ◌%◌, ◌≤◌, ◌<◌}
use native.Mathlib.Omega.{arith}
use mathlib.Core.Path.{◌≡◌, refl, sym, ap, subst, ◌∙◌}
use mathlib.Core.Logic.{◌≢◌}
use mathlib.Core.List.{List, [], ◌∷◌}
use lib.ListN.{length, get_or, set, length-set, length-append}
use lib.Seq.{get_or-set_same, get_or-set_other}
use lib.Dec.{eqb}
use borrow.Author.Tests.{eqb-true, eqb-false}
use Rattle.text.specs.Text.{Text}
use Rattle.spec_exi.specs.Tables.{Entry}
use Rattle.mem_layout.specs.Layout.{name_text_heads, name_code_heads, name_counts, name_buckets, name_rows}
use Rattle.mem_layout.specs.Layout.{name_places, name_sizes, name_codes, name_text_nexts, name_code_nexts}
use Rattle.mem_layout.specs.Layout.{name_firsts, name_marks, learned_name_codes, uri_rows, value_counts}
use Rattle.mem_layout.specs.Layout.{work_cells}
use Rattle.mem_chain.specs.Chain.{first_that, linked, Chained}
use Rattle.mem_chain.proofs.Last.{split}
use Rattle.mem_chain.proofs.More.{chained-none, chained_same, chained_more}
use Rattle.mem_chain.proofs.More.{linked-length, linked-other}
use Rattle.mem_index.specs.declared.Index.{Index}
use Rattle.mem_index.specs.Index.{joined, Numbered}
use Rattle.mem_index.proofs.More.{OrderedCounts, Off, SameIndex, numbered-same, numbered-none}
use Rattle.mem_index.proofs.More.{numbered_more, joined_length, joined-other}
use Rattle.mem_entries.specs.Texts.{hash_of, with_text, Names, Grown, Lies, Source, throughout}
use Rattle.mem_entries.specs.Entries.{Entries, entry_at, key_at, joined_by}
use Rattle.mem_entries.proofs.Texts.{names_same, names-grown, put-length, put_other, put-names}
use Rattle.mem_entries.proofs.Entries.{entry_old, entry_new}
use Rattle.mem_names.specs.Names.{is_entry, first_name, name_index, name_spot, name_bucket}
use Rattle.mem_names.specs.Names.{NamesHold}
use Rattle.mem_names.specs.Names.{with_cells, with_name}
use Rattle.mem_names.proofs.Names.{first-old, first-fresh, bucket-old, bucket-is}

index-order : OrderedCounts name_index name_counts uri_rows
index-order =
    record {
      order = record
          { some = omega arith; sized = omega arith; heads = omega arith; codes = omega arith };
      from = omega arith;
      to = omega arith;
    }

-- ---- cells of other tables

-- The cells of the table of names are the same.
pub record SameNames (work after : List ℕ) : Type 0 where
  pub room : work_cells ≤ length after
  pub heads : (j : ℕ) → name_text_heads ≤ j → j < value_counts → get_or after j 0 ≡ get_or work j 0
  pub counts : (j : ℕ) → name_counts ≤ j → j < name_marks → get_or after j 0 ≡ get_or work j 0
  pub columns : (j : ℕ) → name_places ≤ j → j < learned_name_codes → get_or after j 0 ≡ get_or work j 0

same_index : {work after : List ℕ} → SameNames work after → SameIndex work after name_index
same_index s =
    record {
      heads = record { cells = λ i l. s.heads (name_code_heads + i) (omega arith) (omega arith) };
      codes = record { cells = λ i l. s.columns (name_codes + i) (omega arith) (omega arith) };
      nexts = record { cells = λ i l. s.columns (name_code_nexts + i) (omega arith) (omega arith) };
    }

pub names-kept : {work after : List ℕ} {from : ℕ → Source} {n : ℕ} {ns : Entries}
    → SameNames work after → NamesHold work from n ns → NamesHold after from n ns
names-kept s h =
    record {
      room = s.room;
      inside = h.inside;
      count = h.count;
      few = h.few;
      rows = λ i l.
          let f = h.few in
          names_same (s.columns (name_places + i) (omega arith) (omega arith))
          (s.columns (name_sizes + i) (omega arith) (omega arith)) (h.rows i l);
      firsts = λ i l.
          let f = h.few in ap suc (s.columns (name_firsts + i) (omega arith) (omega arith))
          ∙ h.firsts i l;
      by_uri = numbered-same (omega arith) (same_index s)
          (record { cells = λ i l. s.counts (name_counts + i) (omega arith) (omega arith) })
          h.by_uri;
      by_text = chained_same (omega arith)
          (record { cells = λ i l. s.heads (name_text_heads + i) (omega arith) (omega arith) })
          (record { cells = λ i l. s.columns (name_text_nexts + i) (omega arith) (omega arith) })
          h.by_text;
    }

-- The first cells of the store stay, and it grows.
pub names-longer : {work before after : List ℕ} {stored more n : ℕ} {ns : Entries}
    → Grown before after stored more → NamesHold work (throughout before stored) n ns
    → NamesHold work (throughout after more) n ns
names-longer g h =
    record {
      room = h.room;
      inside = λ i l. g.inside;
      count = h.count;
      few = h.few;
      rows = λ i l. names-grown g (h.inside i l) (h.rows i l);
      firsts = h.firsts;
      by_uri = h.by_uri;
      by_text = h.by_text;
    }

-- Memory whose counts are zero has no name.
pub names-none : (work : List ℕ) (from : ℕ → Source) → work_cells ≤ length work
    → ((k : ℕ) → k < uri_rows → get_or work (name_counts + k) 0 ≡ 0) → NamesHold work from 0 []
names-none work from room zeros =
    record {
      room = room;
      inside = λ i l. absurd (omega arith);
      count = refl;
      few = omega arith;
      rows = λ i l. absurd (omega arith);
      firsts = λ i l. absurd (omega arith);
      by_uri = numbered-none work name_index name_counts uri_rows (key_at []) zeros;
      by_text = chained-none work name_text_heads name_buckets name_text_nexts name_rows (name_bucket []);
    }

-- ---- the steps of `add_name`

pub add-steps : (work : List ℕ) (n uri place size h : ℕ) {a b d : List ℕ} {x : Index} {s : ℕ}
    → x ≡ name_index → s ≡ name_spot h uri → a ≡ with_cells work n place size
    → b ≡ joined a x name_counts n uri → d ≡ linked b (name_text_heads + s) name_text_nexts name_rows n
    → d ≡ with_name work n uri place size h
unfolding with_name
add-steps work n uri place size h {a} {b} {d} {x} {s} e q c j l =
    l
    ∙ ap (λ k. linked b (name_text_heads + k) name_text_nexts name_rows n) q
    ∙ ap (λ m. linked m (name_text_heads + name_spot h uri) name_text_nexts name_rows n)
    (j ∙ ap (λ y. joined a y name_counts n uri) e ∙ ap (λ m. joined m name_index name_counts n uri) c)

spot-low : (h uri : ℕ) → name_spot h uri < name_buckets
unfolding name_spot
spot-low h uri = omega arith

module _ (work : List ℕ) (n uri place size h : ℕ) where
  cells : List ℕ
  cells = with_cells work n place size

  mid : List ℕ
  mid = joined cells name_index name_counts n uri

  cells-length : length cells ≡ length work
  unfolding cells with_cells
  cells-length = simp length-set (put-length work (name_places + n) (name_sizes + n) place size)

  mid-length : length mid ≡ length work
  unfolding mid
  mid-length = joined_length cells name_index name_counts n uri ∙ cells-length

  pub added-length : length (with_name work n uri place size h) ≡ length work
  unfolding with_name mid cells
  added-length = linked-length mid (name_text_heads + name_spot h uri) name_text_nexts name_rows n
      ∙ mid-length

  -- Cells of the row's own three.
  text-cells : (j : ℕ) → (j ≡ name_firsts + n → ⊥)
      → get_or cells j 0 ≡ get_or (with_text work (name_places + n) (name_sizes + n) place size) j 0
  unfolding cells with_cells
  text-cells j ne = let p : j ≢ name_firsts + n = ne in simp get_or-set_other

  first_cell : name_firsts + n < length work → get_or cells (name_firsts + n) 0 ≡ n
  unfolding cells with_cells
  first_cell l =
      let m : name_firsts + n < length (with_text work (name_places + n) (name_sizes + n) place size) =
      omega (arith, put-length work (name_places + n) (name_sizes + n) place size) in
      simp get_or-set_same

  cells-other : (j : ℕ) → (j ≡ name_places + n → ⊥) → (j ≡ name_sizes + n → ⊥)
      → (j ≡ name_firsts + n → ⊥)
      → get_or cells j 0 ≡ get_or work j 0
  cells-other j p q r =
      text-cells j r ∙ put_other work (name_places + n) (name_sizes + n) place size j p q

  module _ (few : n < name_rows) (low : uri < uri_rows) where
    mid-other : (j : ℕ) → Off name_index j → (name_counts ≤ j → j < name_counts + uri_rows → ⊥)
        → get_or mid j 0 ≡ get_or cells j 0
    unfolding mid
    mid-other j f g = joined-other cells name_index name_counts n uri uri_rows index-order low j f g

    last-other : (j : ℕ) → (name_text_heads ≤ j → j < name_text_heads + name_buckets → ⊥)
        → (name_text_nexts ≤ j → j < name_text_nexts + name_rows → ⊥)
        → get_or (with_name work n uri place size h) j 0 ≡ get_or mid j 0
    unfolding with_name mid cells
    last-other j f g =
        let s : name_spot h uri < name_buckets = spot-low h uri in
        let t : n % name_rows < name_rows = omega arith in
        linked-other mid (name_text_heads + name_spot h uri) name_text_nexts name_rows n j
        (λ e. f (omega arith) (omega arith)) (λ e. g (omega arith) (omega arith))

    -- A cell outside the table is as it was.
    pub added-other : (j : ℕ) → (name_text_heads ≤ j → value_counts ≤ j)
        → (name_counts ≤ j → name_marks ≤ j)
        → (name_places ≤ j → learned_name_codes ≤ j) → get_or (with_name work n uri place size h) j 0
        ≡ get_or work j 0
    added-other j a b c =
        let heads : name_text_heads ≤ j → j < value_counts → ⊥ = λ p q. let z : value_counts ≤ j =
        a p in omega arith in
        let off : name_places ≤ j → j < learned_name_codes → ⊥ =
        λ p q. let z : learned_name_codes ≤ j = c p in omega arith in
        last-other j (λ p q. heads (omega arith) (omega arith))
        (λ p q. off (omega arith) (omega arith))
        ∙ mid-other j
        (record {
          heads = λ p q. heads (omega arith) (omega arith);
          codes = λ p q. off (omega arith) (omega arith);
          nexts = λ p q. off (omega arith) (omega arith);
        })
        (λ p q. let z : name_marks ≤ j = b p in omega arith)
        ∙ cells-other j (λ e. off (omega arith) (omega arith))
        (λ e. off (omega arith) (omega arith))
        (λ e. off (omega arith) (omega arith))

    -- ---- the table with it

    module _ {from : ℕ → Source} {ns : Entries} (t : NamesHold work from n ns)
        (x : Text)
        (lies : Lies (from n).store (from n).stored place size x) (hash : h ≡ hash_of x)
        (fresh : first_that (is_entry ns uri x) n ≡ 0) where
      abbrev new : Entry ℕ
      new = record { key = uri; string = record { place = place; text = x } }

      after : Entries
      after = joined_by ns uri place x

      entry-same : (i : ℕ) → i < n → entry_at after i ≡ entry_at ns i
      unfolding after
      entry-same i l = entry_old ns new i (omega (arith, t.count))

      entry_here : entry_at after n ≡ new
      unfolding after
      entry_here = ap (λ i. entry_at (joined_by ns uri place x) i) (sym t.count) ∙ entry_new ns new

      first-same : (i : ℕ) → i < n → first_name after i ≡ first_name ns i
      unfolding after
      first-same i l = first-old ns new i (omega (arith, t.count))

      none : first_that (is_entry ns uri x) (length ns) ≡ 0
      none = ap (first_that (is_entry ns uri x)) t.count ∙ fresh

      first-now : first_name after n ≡ suc n
      unfolding after
      first-now =
          ap (first_name (joined_by ns uri place x)) (sym t.count) ∙ first-fresh ns new none
          ∙ ap suc t.count

      bucket-here : name_bucket after n ≡ name_spot h uri
      bucket-here =
          bucket-is after n first-now
          ∙ ap (λ (e : Entry ℕ). name_spot (hash_of e.string.text) e.key) entry_here
          ∙ ap (λ k. name_spot k uri) (sym hash)

      bucket-same : (i : ℕ) → i < n → name_bucket after i ≡ name_bucket ns i
      unfolding after
      bucket-same i l = bucket-old ns new i (omega (arith, t.count))

      cells_same : SameIndex work cells name_index
      cells_same =
          record {
            heads = record {
              cells =
                  λ i l. cells-other (name_code_heads + i) (λ e. omega arith) (λ e. omega arith)
                  (λ e. omega arith);
            };
            codes = record {
              cells =
                  λ i l. cells-other (name_codes + i) (λ e. omega arith) (λ e. omega arith)
                  (λ e. omega arith);
            };
            nexts = record {
              cells =
                  λ i l. cells-other (name_code_nexts + i) (λ e. omega arith) (λ e. omega arith)
                  (λ e. omega arith);
            };
          }

      uri-mid : Numbered mid name_index name_counts uri_rows (key_at after) (suc n)
      unfolding mid
      uri-mid =
          let r : work_cells ≤ length work = t.room in
          numbered_more cells name_index name_counts n uri uri_rows index-order low
          (omega (arith, cells-length))
          (key_at ns) (key_at after) (λ i l. ap (λ (e : Entry ℕ). e.key) (entry-same i l))
          (ap (λ (e : Entry ℕ). e.key) entry_here) (omega arith)
          (numbered-same (omega arith) cells_same
          (record {
            cells =
                λ i l. cells-other (name_counts + i) (λ e. omega arith) (λ e. omega arith)
                (λ e. omega arith);
          })
          t.by_uri)

      last-same : SameIndex mid (with_name work n uri place size h) name_index
      last-same =
          record {
            heads = record {
              cells =
                  λ i l. last-other (name_code_heads + i) (λ p q. omega arith) (λ p q. omega arith);
            };
            codes = record {
              cells =
                  λ i l. last-other (name_codes + i) (λ p q. omega arith) (λ p q. omega arith);
            };
            nexts = record {
              cells =
                  λ i l. last-other (name_code_nexts + i) (λ p q. omega arith) (λ p q. omega arith);
            };
          }

      text-mid : Chained mid name_text_heads name_buckets name_text_nexts name_rows (name_bucket ns) n
      text-mid =
          chained_same (omega arith)
          (record {
            cells = λ i l.
                mid-other (name_text_heads + i)
                (record {
                  heads = λ p q. omega arith;
                  codes = λ p q. omega arith;
                  nexts =
                      λ p q. omega arith;
                })
                (λ p q. omega arith)
                ∙ cells-other (name_text_heads + i) (λ e. omega arith) (λ e. omega arith)
                (λ e. omega arith);
          })
          (record {
            cells = λ i l.
                mid-other (name_text_nexts + i)
                (record {
                  heads = λ p q. omega arith;
                  codes = λ p q. omega arith;
                  nexts =
                      λ p q. omega arith;
                })
                (λ p q. omega arith)
                ∙ cells-other (name_text_nexts + i) (λ e. omega arith) (λ e. omega arith)
                (λ e. omega arith);
          })
          t.by_text

      text-last : Chained (with_name work n uri place size h) name_text_heads name_buckets name_text_nexts
          name_rows (name_bucket after) (suc n)
      unfolding with_name mid cells
      text-last =
          let r : work_cells ≤ length work = t.room in
          chained_more mid name_text_heads name_buckets name_text_nexts name_rows n (name_spot h uri)
          (omega arith)
          (spot-low h uri) (omega arith) (omega (arith, mid-length)) (name_bucket ns)
          (name_bucket after)
          bucket-same bucket-here text-mid

      -- A cell of the columns of places, sizes or first rows.
      column-cells : (j : ℕ) → name_places ≤ j → j < learned_name_codes
          → (name_codes ≤ j → name_firsts ≤ j)
          → get_or (with_name work n uri place size h) j 0 ≡ get_or cells j 0
      column-cells j p q f =
          let off : name_codes ≤ j → j < name_firsts → ⊥ = λ a b. let z : name_firsts ≤ j = f a in
          omega arith in
          last-other j (λ a b. omega arith) (λ a b. off (omega arith) (omega arith))
          ∙ mid-other j
          (record {
            heads = λ a b. omega arith;
            codes = λ a b. off (omega arith) (omega arith);
            nexts = λ a b. off (omega arith) (omega arith);
          })
          (λ a b. omega arith)

      rows-old : (i : ℕ) → i < n
          → Names (with_name work n uri place size h) (from i).store (from i).stored
          (name_places + i) (name_sizes + i) (entry_at after i).string
      rows-old i l =
          subst (λ (e : Entry ℕ). Names (with_name work n uri place size h) (from i).store
          (from i).stored (name_places + i) (name_sizes + i) e.string)
          (sym (entry-same i l))
          (names_same
          (column-cells (name_places + i) (omega arith) (omega arith) (λ a. omega arith)
          ∙ cells-other (name_places + i) (λ e. omega arith) (λ e. omega arith) (λ e. omega arith))
          (column-cells (name_sizes + i) (omega arith) (omega arith) (λ a. omega arith)
          ∙ cells-other (name_sizes + i) (λ e. omega arith) (λ e. omega arith) (λ e. omega arith))
          (t.rows i l))

      rows_new : Names (with_name work n uri place size h) (from n).store (from n).stored
          (name_places + n) (name_sizes + n) (entry_at after n).string
      rows_new =
          let w : work_cells ≤ length work = t.room in
          subst (λ (e : Entry ℕ). Names (with_name work n uri place size h) (from n).store
          (from n).stored (name_places + n) (name_sizes + n) e.string)
          (sym entry_here)
          (names_same
          (column-cells (name_places + n) (omega arith) (omega arith) (λ a. omega arith)
          ∙ text-cells (name_places + n) (λ e. omega arith))
          (column-cells (name_sizes + n) (omega arith) (omega arith) (λ a. omega arith)
          ∙ text-cells (name_sizes + n) (λ e. omega arith))
          (put-names work (name_places + n) (name_sizes + n) place size (omega arith) (omega arith)
          (λ e. omega arith) (from n).store (from n).stored x lies))

      pub names_more : NamesHold (with_name work n uri place size h) from (suc n)
          (joined_by ns uri place x)
      unfolding after
      names_more =
          let w : work_cells ≤ length work = t.room in
          record {
            room = omega (arith, added-length, t.room);
            inside = λ i l.
                split (eqb i n)
                (λ e. let z : i ≡ n = eqb-true i n e in rw z lies.inside)
                (λ e. t.inside i (omega (arith, eqb-false i n e)));
            count = length-append ns (new ∷ []) ∙ (omega (arith, t.count));
            few = omega arith;
            rows = λ i l.
                split (eqb i n)
                (λ e. let z : i ≡ n = eqb-true i n e in rw z rows_new)
                (λ e. rows-old i (omega (arith, eqb-false i n e)));
            firsts = λ i l.
                split (eqb i n)
                (λ e.
                let z : i ≡ n = eqb-true i n e in
                rw z (ap suc
                (column-cells (name_firsts + n) (omega arith) (omega arith) (λ a. omega arith)
                ∙ first_cell (omega arith)) ∙ sym first-now))
                (λ e.
                let m : i < n = omega (arith, eqb-false i n e) in
                ap suc (column-cells (name_firsts + i) (omega arith) (omega arith) (λ a. omega arith)
                ∙ cells-other (name_firsts + i) (λ y. omega arith) (λ y. omega arith)
                (λ y. omega arith))
                ∙ t.firsts i m ∙ sym (first-same i m));
            by_uri = numbered-same (omega arith) last-same
                (record {
                  cells =
                      λ i l. last-other (name_counts + i) (λ p q. omega arith) (λ p q. omega arith);
                })
                uri-mid;
            by_text = text-last;
          }

pub put-steps : (work : List ℕ) (n place size : ℕ) {a : List ℕ}
    → a ≡ with_text work (name_places + n) (name_sizes + n) place size
    → set a (name_firsts + n) n ≡ with_cells work n place size
unfolding with_cells
put-steps work n place size e = ap (λ l. set l (name_firsts + n) n) e
