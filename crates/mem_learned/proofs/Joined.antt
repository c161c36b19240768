-- A production is learned: memory with its cells is the table with one more. What other tables
-- change leaves learned productions as they are, and the other way round.
use Prim.Native.Nat.{ℕ, suc, ◌+◌, ◌*◌, ◌≤◌, ◌<◌}
use native.Mathlib.Omega.{arith}
use mathlib.Core.Path.{◌≡◌, refl, sym, ap, subst, ◌∙◌}
use mathlib.Core.Logic.{◌≢◌}
use mathlib.Core.List.{List, [], ◌∷◌, ◌++◌}
use lib.ListN.{length, get_or, length-set, length-append, get_or-append}
use lib.Seq.{lt-length-set, get_or-set_same, get_or-set_other, get_or-append_seam}
use lib.Dec.{eqb}
use borrow.Author.Tests.{eqb-true, eqb-false}
use Rattle.spec_exi.specs.Event.{Kind}
use Rattle.spec_exi.specs.Grammar.{kind_number}
use Rattle.mem_layout.specs.Layout.{learned_name_heads, learned_code_heads, learned_counts}
use Rattle.mem_layout.specs.Layout.{learned_name_codes, learned_name_nexts, learned_codes}
use Rattle.mem_layout.specs.Layout.{learned_code_nexts}
use Rattle.mem_layout.specs.Layout.{learned_uri_rows, learned_name_rows, learned_rows, name_text_heads}
use Rattle.mem_layout.specs.Layout.{grammar_flags, value_places, uri_rows, name_rows, sites, work_cells}
use Rattle.mem_chain.proofs.Last.{split}
use Rattle.mem_index.specs.declared.Index.{Index}
use Rattle.mem_index.specs.Index.{Coded, Numbered, entered, joined, numbers}
use Rattle.mem_index.proofs.More.{Ordered, OrderedCounts, Off, coded-same, coded_none}
use Rattle.mem_index.proofs.More.{coded-more, entered-length, entered-other, numbered-same}
use Rattle.mem_index.proofs.More.{numbered-none, numbered_more, joined_length, joined-other}
use Rattle.mem_learned.specs.Learned.{Taught, no_row, row_at, site_of_row, name_code, name_code_at}
use Rattle.mem_learned.specs.Learned.{site_index, name_index, LearnedHold, with_rows}
use Rattle.mem_learned.specs.Learned.{with_learned}

name-order : Ordered name_index
name-order =
    record { some = omega arith; sized = omega arith; heads = omega arith; codes = omega arith }

site-order : OrderedCounts site_index learned_counts sites
site-order =
    record {
      order = record
          { some = omega arith; sized = omega arith; heads = omega arith; codes = omega arith };
      from = omega arith;
      to = omega arith;
    }

-- ---- one row more

module _ (rs : List Taught) (r : Taught) where
  pub row_old : (i : ℕ) → i < length rs → row_at (rs ++ (r ∷ [])) i ≡ row_at rs i
  unfolding row_at
  row_old i h = get_or-append rs (r ∷ []) no_row i h

  pub row_new : row_at (rs ++ (r ∷ [])) (length rs) ≡ r
  unfolding row_at
  row_new = get_or-append_seam rs r [] no_row

-- ---- cells of other tables

-- The cells of the table are the same.
pub record SameLearned (work after : List ℕ) : Type 0 where
  pub room : work_cells ≤ length after
  pub heads : (j : ℕ) → learned_name_heads ≤ j → j < name_text_heads → get_or after j 0 ≡ get_or work j 0
  pub counts : (j : ℕ) → learned_counts ≤ j → j < grammar_flags → get_or after j 0 ≡ get_or work j 0
  pub columns : (j : ℕ) → learned_name_codes ≤ j → j < value_places → get_or after j 0 ≡ get_or work j 0

pub learned-kept : {work after : List ℕ} {n : ℕ} {rs : List Taught} → SameLearned work after
    → LearnedHold work n rs → LearnedHold after n rs
learned-kept s h =
    record {
      room = s.room;
      count = h.count;
      few = h.few;
      names = h.names;
      uri_row = λ i l.
          let f = h.few in s.columns (learned_uri_rows + i) (omega arith) (omega arith)
          ∙ h.uri_row i l;
      uri_low = h.uri_low;
      name_row = λ i l.
          let f = h.few in s.columns (learned_name_rows + i) (omega arith) (omega arith)
          ∙ h.name_row i l;
      name_low = h.name_low;
      by_site = numbered-same (omega arith)
          (record {
            heads = record
                { cells = λ i l. s.heads (learned_code_heads + i) (omega arith) (omega arith) };
            codes = record
                { cells = λ i l. s.columns (learned_codes + i) (omega arith) (omega arith) };
            nexts = record
                { cells = λ i l. s.columns (learned_code_nexts + i) (omega arith) (omega arith) };
          })
          (record { cells = λ i l. s.counts (learned_counts + i) (omega arith) (omega arith) })
          h.by_site;
      by_name = coded-same (omega arith)
          (record {
            heads = record
                { cells = λ i l. s.heads (learned_name_heads + i) (omega arith) (omega arith) };
            codes = record
                { cells = λ i l. s.columns (learned_name_codes + i) (omega arith) (omega arith) };
            nexts = record
                { cells = λ i l. s.columns (learned_name_nexts + i) (omega arith) (omega arith) };
          })
          h.by_name;
    }

-- Memory whose counts are zero has no learned production.
pub learned-none : (work : List ℕ) → work_cells ≤ length work
    → ((k : ℕ) → k < sites → get_or work (learned_counts + k) 0 ≡ 0) → LearnedHold work 0 []
learned-none work room zeros =
    record {
      room = room;
      count = refl;
      few = omega arith;
      names = λ i l. absurd (omega arith);
      uri_row = λ i l. absurd (omega arith);
      uri_low = λ i l. absurd (omega arith);
      name_row = λ i l. absurd (omega arith);
      name_low = λ i l. absurd (omega arith);
      by_site = numbered-none work site_index learned_counts sites (site_of_row []) zeros;
      by_name = coded_none work name_index (name_code_at []);
    }

-- ---- the steps of `add`

pub add-steps : (work : List ℕ) (n site kind name uri local : ℕ) {a b d : List ℕ} {x y : Index}
    → x ≡ name_index → y ≡ site_index → a ≡ with_rows work n uri local
    → b ≡ entered a x n (site * numbers + kind * name_rows + name) → d ≡ joined b y learned_counts n site
    → d ≡ with_learned work n site kind name uri local
unfolding with_learned name_code
add-steps work n site kind name uri local {a} {b} {d} {x} {y} e f p q r =
    r ∙ ap (λ z. joined b z learned_counts n site) f
    ∙ ap (λ m. joined m site_index learned_counts n site)
    (q ∙ ap (λ z. entered a z n (site * numbers + kind * name_rows + name)) e
    ∙ ap (λ m. entered m name_index n (site * numbers + kind * name_rows + name)) p)

module _ (work : List ℕ) (n site : ℕ) (kind : Kind) (name uri local : ℕ) where
  code : ℕ
  code = name_code site (kind_number kind) name

  cells : List ℕ
  cells = with_rows work n uri local

  mid : List ℕ
  mid = entered cells name_index n code

  after : List ℕ
  after = with_learned work n site (kind_number kind) name uri local

  cells-length : length cells ≡ length work
  unfolding cells with_rows
  cells-length = simp length-set

  mid-length : length mid ≡ length work
  unfolding mid
  mid-length = entered-length cells name_index n code ∙ cells-length

  pub added-length : length (with_learned work n site (kind_number kind) name uri local) ≡ length work
  unfolding with_learned mid cells code
  added-length = joined_length mid site_index learned_counts n site ∙ mid-length

  cells-other : (j : ℕ) → (j ≡ learned_uri_rows + n → ⊥) → (j ≡ learned_name_rows + n → ⊥)
      → get_or cells j 0 ≡ get_or work j 0
  unfolding cells with_rows
  cells-other j p q =
      let p' : j ≢ learned_uri_rows + n = p in
      let q' : j ≢ learned_name_rows + n = q in
      simp get_or-set_other

  mid-other : (j : ℕ) → Off name_index j → get_or mid j 0 ≡ get_or cells j 0
  unfolding mid
  mid-other j f = entered-other cells name_index n code name-order j f

  module _ (few : n < learned_rows) (low : site < sites) where
    last-other : (j : ℕ) → Off site_index j → (learned_counts ≤ j → j < grammar_flags → ⊥)
        → get_or after j 0 ≡ get_or mid j 0
    unfolding after with_learned mid cells code
    last-other j f g =
        joined-other mid site_index learned_counts n site sites site-order low j f
        (λ p q. g p (omega arith))

    -- A cell outside the table is as it was.
    pub added-other : (j : ℕ) → (learned_name_heads ≤ j → name_text_heads ≤ j)
        → (learned_counts ≤ j → grammar_flags ≤ j)
        → (learned_name_codes ≤ j → value_places ≤ j)
        → get_or (with_learned work n site (kind_number kind) name uri local) j 0 ≡ get_or work j 0
    unfolding after
    added-other j a b c =
        let heads : learned_name_heads ≤ j → j < name_text_heads → ⊥ =
        λ p q. let z : name_text_heads ≤ j = a p in omega arith in
        let off : learned_name_codes ≤ j → j < value_places → ⊥ =
        λ p q. let z : value_places ≤ j = c p in omega arith in
        last-other j
        (record {
          heads = λ p q. heads (omega arith) (omega arith);
          codes = λ p q. off (omega arith) (omega arith);
          nexts = λ p q. off (omega arith) (omega arith);
        })
        (λ p q. let z : grammar_flags ≤ j = b p in omega arith)
        ∙ mid-other j
        (record {
          heads = λ p q. heads (omega arith) (omega arith);
          codes = λ p q. off (omega arith) (omega arith);
          nexts = λ p q. off (omega arith) (omega arith);
        })
        ∙ cells-other j (λ e. off (omega arith) (omega arith))
        (λ e. off (omega arith) (omega arith))

    -- ---- the table with it

    module _ {rs : List Taught} (t : LearnedHold work n rs) (name_low : name < name_rows)
        (uri_low : uri < uri_rows)
        (local_low : local < name_rows) where
      abbrev new : Taught
      new = record { site = site; kind = kind; name = name; uri_row = uri; name_row = local }

      more : List Taught
      more = rs ++ (new ∷ [])

      old : (i : ℕ) → i < n → row_at more i ≡ row_at rs i
      unfolding more
      old i l = row_old rs new i (omega (arith, t.count))

      here : row_at more n ≡ new
      unfolding more
      here = ap (λ i. row_at (rs ++ (new ∷ [])) i) (sym t.count) ∙ row_new rs new

      cells-room : learned_name_nexts + learned_rows ≤ length cells
      cells-room = omega (arith, cells-length, t.room)

      mid-room : learned_code_nexts + learned_rows ≤ length mid
      mid-room = omega (arith, mid-length, t.room)

      names-mid : Coded mid name_index (name_code_at more) (suc n)
      unfolding mid code
      names-mid =
          coded-more cells name_index n code name-order cells-room (name_code_at rs) (name_code_at more)
          (λ i l. ap (λ (r : Taught). name_code r.site (kind_number r.kind) r.name)
          (old i l))
          (ap (λ (r : Taught). name_code r.site (kind_number r.kind) r.name) here)
          (coded-same (omega arith)
          (record {
            heads = record {
              cells =
                  λ i l. cells-other (learned_name_heads + i) (λ e. omega arith) (λ e. omega arith);
            };
            codes = record {
              cells =
                  λ i l. cells-other (learned_name_codes + i) (λ e. omega arith) (λ e. omega arith);
            };
            nexts = record {
              cells =
                  λ i l. cells-other (learned_name_nexts + i) (λ e. omega arith) (λ e. omega arith);
            };
          })
          t.by_name)

      -- A cell of the index by site, before the row joins it.
      site-cell : (j : ℕ) → Off name_index j → j < learned_uri_rows → get_or mid j 0 ≡ get_or work j 0
      site-cell j f l = mid-other j f ∙ cells-other j (λ e. omega arith) (λ e. omega arith)

      sites-mid : Numbered mid site_index learned_counts sites (site_of_row rs) n
      sites-mid =
          numbered-same (omega arith)
          (record {
            heads = record {
              cells = λ i l. site-cell (learned_code_heads + i)
                  (record {
                    heads = λ p q. omega arith;
                    codes = λ p q. omega arith;
                    nexts =
                        λ p q. omega arith;
                  }) (omega arith);
            };
            codes = record {
              cells = λ i l. site-cell (learned_codes + i)
                  (record {
                    heads = λ p q. omega arith;
                    codes = λ p q. omega arith;
                    nexts =
                        λ p q. omega arith;
                  }) (omega arith);
            };
            nexts = record {
              cells = λ i l. site-cell (learned_code_nexts + i)
                  (record {
                    heads = λ p q. omega arith;
                    codes = λ p q. omega arith;
                    nexts =
                        λ p q. omega arith;
                  }) (omega arith);
            };
          })
          (record {
            cells = λ i l. site-cell (learned_counts + i)
                (record {
                  heads = λ p q. omega arith;
                  codes = λ p q. omega arith;
                  nexts =
                      λ p q. omega arith;
                }) (omega arith);
          })
          t.by_site

      sites-last : Numbered after site_index learned_counts sites (site_of_row more) (suc n)
      unfolding after with_learned mid cells code
      sites-last =
          numbered_more mid site_index learned_counts n site sites site-order low mid-room
          (site_of_row rs)
          (site_of_row more) (λ i l. ap (λ (r : Taught). r.site) (old i l))
          (ap (λ (r : Taught). r.site) here)
          (omega arith) sites-mid

      names-last : Coded after name_index (name_code_at more) (suc n)
      names-last =
          coded-same (omega arith)
          (record {
            heads = record {
              cells = λ i l. last-other (learned_name_heads + i)
                  (record {
                    heads = λ p q. omega arith;
                    codes = λ p q. omega arith;
                    nexts =
                        λ p q. omega arith;
                  }) (λ p q. omega arith);
            };
            codes = record {
              cells = λ i l. last-other (learned_name_codes + i)
                  (record {
                    heads = λ p q. omega arith;
                    codes = λ p q. omega arith;
                    nexts =
                        λ p q. omega arith;
                  }) (λ p q. omega arith);
            };
            nexts = record {
              cells = λ i l. last-other (learned_name_nexts + i)
                  (record {
                    heads = λ p q. omega arith;
                    codes = λ p q. omega arith;
                    nexts =
                        λ p q. omega arith;
                  }) (λ p q. omega arith);
            };
          })
          names-mid

      -- A cell of the two columns of rows.
      row-cell : (j : ℕ) → learned_uri_rows ≤ j → j < value_places → get_or after j 0 ≡ get_or cells j 0
      row-cell j p q =
          last-other j
          (record {
            heads = λ a b. omega arith;
            codes = λ a b. omega arith;
            nexts =
                λ a b. omega arith;
          }) (λ a b. omega arith)
          ∙ mid-other j
          (record {
            heads = λ a b. omega arith;
            codes = λ a b. omega arith;
            nexts =
                λ a b. omega arith;
          })

      uri-new : get_or cells (learned_uri_rows + n) 0 ≡ uri
      unfolding cells with_rows
      uri-new =
          let p : learned_uri_rows + n ≢ learned_name_rows + n = λ e. omega arith in
          let l : learned_uri_rows + n < length work = omega (arith, t.room) in
          simp (get_or-set_other, get_or-set_same)

      local-new : get_or cells (learned_name_rows + n) 0 ≡ local
      unfolding cells with_rows
      local-new =
          let l : learned_name_rows + n < length work = omega (arith, t.room) in
          simp (get_or-set_same, lt-length-set)

      each : (P : Taught → Type 0) (i : ℕ) → i < suc n → (i < n → P (row_at rs i)) → P new
          → P (row_at more i)
      each P i l f g =
          split (eqb i n)
          (λ e.
          let z : i ≡ n = eqb-true i n e in
          subst (λ j. P (row_at more j)) (sym z) (subst P (sym here) g))
          (λ e. let m : i < n = omega (arith, eqb-false i n e) in subst P (sym (old i m)) (f m))

      pub learned-more : LearnedHold (with_learned work n site (kind_number kind) name uri local)
          (suc n)
          (rs ++ (record { site = site; kind = kind; name = name; uri_row = uri; name_row = local }
          ∷ []))
      unfolding after more
      learned-more =
          record {
            room = omega (arith, added-length, t.room);
            count = length-append rs (new ∷ []) ∙ (omega (arith, t.count));
            few = omega arith;
            names = λ i l. each (λ r. r.name < name_rows) i l (λ m. t.names i m) name_low;
            uri_row = λ i l.
                split (eqb i n)
                (λ e.
                let z : i ≡ n = eqb-true i n e in
                rw z (row-cell (learned_uri_rows + n) (omega arith) (omega arith) ∙ uri-new
                ∙ sym (ap (λ (r : Taught). r.uri_row) here)))
                (λ e.
                let m : i < n = omega (arith, eqb-false i n e) in
                row-cell (learned_uri_rows + i) (omega arith) (omega arith)
                ∙ cells-other (learned_uri_rows + i) (λ y. omega arith) (λ y. omega arith)
                ∙ t.uri_row i m ∙ sym (ap (λ (r : Taught). r.uri_row) (old i m)));
            uri_low = λ i l. each (λ r. r.uri_row < uri_rows) i l (λ m. t.uri_low i m) uri_low;
            name_row = λ i l.
                split (eqb i n)
                (λ e.
                let z : i ≡ n = eqb-true i n e in
                rw z (row-cell (learned_name_rows + n) (omega arith) (omega arith) ∙ local-new
                ∙ sym (ap (λ (r : Taught). r.name_row) here)))
                (λ e.
                let m : i < n = omega (arith, eqb-false i n e) in
                row-cell (learned_name_rows + i) (omega arith) (omega arith)
                ∙ cells-other (learned_name_rows + i) (λ y. omega arith) (λ y. omega arith)
                ∙ t.name_row i m ∙ sym (ap (λ (r : Taught). r.name_row) (old i m)));
            name_low = λ i l. each (λ r. r.name_row < name_rows) i l (λ m. t.name_low i m) local_low;
            by_site = sites-last;
            by_name = names-last;
          }
