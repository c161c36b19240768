-- What the functions over learned productions answer where memory is a table of them.
use Prim.Native.Nat.{ℕ, ◌+◌, ◌-◌, ◌*◌, ◌/◌, ◌%◌, ◌≤◌, ◌<◌}
use native.Mathlib.Omega.{arith}
use mathlib.Core.Path.{◌≡◌, refl, sym, ap, subst, ◌∙◌}
use mathlib.Core.Bool.{◌&&◌}
use mathlib.Core.List.{List}
use lib.ListN.{length, get_or}
use lib.Dec.{eqb}
use borrow.Author.Tests.{eqb-true, eqb-false, eq-eqb, lt-ltb, le-ltb}
use Rattle.spec_exi.specs.Event.{Kind, SD, ED, SE, AT, EE, CH, CM, PI}
use Rattle.spec_exi.specs.Grammar.{kind_number}
use Rattle.mem_layout.specs.Layout.{learned_counts, learned_rows, learned_name_codes, learned_codes}
use Rattle.mem_layout.specs.Layout.{learned_uri_rows, learned_name_rows, uri_rows, name_rows, sites}
use Rattle.mem_layout.specs.Layout.{work_cells}
use Rattle.mem_chain.specs.Chain.{below, has_code}
use Rattle.mem_chain.proofs.Last.{split, last-same, since-all, below_in, below_less}
use Rattle.mem_index.specs.declared.Index.{Index}
use Rattle.mem_index.specs.Index.{numbers, code_at, Counted, NthFound, Found, SeekPre, NthPre}
use Rattle.mem_index.specs.Index.{Joining}
use Rattle.mem_index.proofs.Codes.{and-true, and_no, both, code-number}
use Rattle.event_code.specs.Numbers.{kinds}
use Rattle.mem_learned.specs.Learned.{Taught, row_at, site_of_row, name_code, name_code_at, is_row}
use Rattle.mem_learned.specs.Learned.{site_index, name_index, production_in, part_in}
use Rattle.mem_learned.specs.Learned.{newest_in, CountedAt, NthLearned, FoundLearned}
use Rattle.mem_learned.specs.Learned.{ProductionAt}

pub kind-low : (k : Kind) → kind_number k < kinds
unfolding kind_number
kind-low SD = omega arith
kind-low ED = omega arith
kind-low SE = omega arith
kind-low AT = omega arith
kind-low EE = omega arith
kind-low CH = omega arith
kind-low CM = omega arith
kind-low PI = omega arith

-- ---- what the index is asked

pub site-asking : {work : List ℕ} {x : Index} {site n : ℕ} → x ≡ site_index → work_cells ≤ length work
    → site < sites → n ≤ learned_rows → NthPre work x site n
site-asking {work} {x} {site} {n} e room low few =
    subst (λ y. NthPre work y site n) (sym e)
    (record {
      some = omega arith;
      sized = omega arith;
      head_room = omega arith;
      code_room = omega arith;
      next_room = omega arith;
      few = omega arith;
      low = omega arith;
    })

pub site-joining : {work : List ℕ} {x : Index} {site n : ℕ} → x ≡ site_index
    → work_cells ≤ length work
    → site < sites → n ≤ learned_rows → Joining work x learned_counts n site
site-joining e room low few =
    record { asking = site-asking e room low few; count_room = omega arith }

pub name-seeking : {work : List ℕ} {x : Index} {site kind name n : ℕ} → x ≡ name_index
    → work_cells ≤ length work → site < sites → kind < kinds → name < name_rows → n ≤ learned_rows
    → SeekPre work x n (site * numbers + kind * name_rows + name)
name-seeking {work} {x} {site} {kind} {name} {n} e room low k l few =
    subst (λ y. SeekPre work y n (site * numbers + kind * name_rows + name)) (sym e)
    (record {
      some = omega arith;
      sized = omega arith;
      head_room = omega arith;
      code_room = omega arith;
      next_room = omega arith;
      few = omega arith;
      small = omega arith;
    })

-- ---- answers

pub counted-at : {work : List ℕ} {site r : ℕ} → site < sites → Counted work learned_counts site r
    → CountedAt work site r
counted-at l f =
    record {
      is = f.is;
      within = f.within;
      count = λ n rs h. f.means site_index sites (site_of_row rs) n h.by_site l;
    }

pub nth-out : {work : List ℕ} {site count v n : ℕ} → count ≤ v → NthLearned work site count v n 0
unfolding newest_in
nth-out {count = count} {v = v} l =
    record {
      is = sym (rw (le-ltb v count l));
      within = omega arith;
      means = λ rs h m. absurd (omega arith);
    }

pub nth_in : {work : List ℕ} {x : Index} {site count v n r : ℕ} → x ≡ site_index → v < count
    → NthFound work x site (count - 1 - v) n 0 r → NthLearned work site count v n r
unfolding newest_in
nth_in {work} {x} {site} {count} {v} {n} {r} e l f =
    let g : NthFound work site_index site (count - 1 - v) n 0 r =
    subst (λ y. NthFound work y site (count - 1 - v) n 0 r) e f in
    record {
      is = g.is ∙ sym (rw (lt-ltb v count l));
      within = g.within;
      means = λ rs h m. g.newest learned_counts sites (site_of_row rs) h.by_site h.few
          ∙ since-all _;
    }

-- Codes of site, kind and name are one to one.
row-test : (rs : List Taught) (site kind name i : ℕ) → kind < kinds → name < name_rows
    → (row_at rs i).name < name_rows
    → has_code (name_code_at rs) (name_code site kind name) i ≡ is_row rs site kind name i
unfolding name_code is_row
row-test rs site kind name i k l m =
    let s : ℕ = site_of_row rs i in
    let b : kind_number (row_at rs i).kind < kinds = kind-low (row_at rs i).kind in
    split (eqb (site_of_row rs i * numbers + kind_number (row_at rs i).kind * name_rows + (row_at rs i).name)
    (site * numbers + kind * name_rows + name))
    (λ y.
    let z : site_of_row rs i * numbers + kind_number (row_at rs i).kind * name_rows + (row_at rs i).name
    ≡ site * numbers + kind * name_rows + name =
    eqb-true _ _ y in
    y ∙ sym (and-true _ _ (eq-eqb site (site_of_row rs i) (omega arith))
    (and-true _ _ (eq-eqb kind (kind_number (row_at rs i).kind) (omega arith))
    (eq-eqb name (row_at rs i).name (omega arith)))))
    (λ y.
    y ∙ sym (and_no (eqb site (site_of_row rs i))
    (eqb kind (kind_number (row_at rs i).kind) && eqb name (row_at rs i).name) (λ p q.
    let (u, v) = both (eqb kind (kind_number (row_at rs i).kind)) (eqb name (row_at rs i).name) q in
    let a : site ≡ site_of_row rs i = eqb-true _ _ p in
    let d : kind ≡ kind_number (row_at rs i).kind = eqb-true _ _ u in
    let e : name ≡ (row_at rs i).name = eqb-true _ _ v in
    let z : site_of_row rs i * numbers + kind_number (row_at rs i).kind * name_rows + (row_at rs i).name
    ≡ site * numbers + kind * name_rows + name =
    omega arith in
    eqb-false (site_of_row rs i * numbers + kind_number (row_at rs i).kind * name_rows + (row_at rs i).name)
    (site * numbers + kind * name_rows + name) y z)))

pub found-learned : {work : List ℕ} {x : Index} {site kind name n r : ℕ} → x ≡ name_index → kind < kinds
    → name < name_rows → Found work x n 0 (site * numbers + kind * name_rows + name) r
    → FoundLearned work site kind name n r
unfolding name_code
found-learned {work} {x} {site} {kind} {name} {n} {r} e k l f =
    let g : Found work name_index n 0 (site * numbers + kind * name_rows + name) r =
    subst (λ y. Found work y n 0 (site * numbers + kind * name_rows + name) r) e f in
    record {
      is = g.is;
      within = g.within;
      means = λ rs h.
          g.newest (name_code_at rs) h.by_name h.few ∙ since-all _
          ∙ last-same (has_code (name_code_at rs) (name_code site kind name)) (is_row rs site kind name)
          n
          (λ i m. row-test rs site kind name i k l (h.names i m));
    }

pub production-is : {work : List ℕ} {row : ℕ} → row < learned_rows
    → ProductionAt work row (production_in work row)
unfolding production_in name_code
production-is {work} {row} low =
    record {
      is = refl;
      kind_low = omega arith;
      name_low = omega arith;
      small = omega arith;
      uri_row_low = below_less uri_rows (get_or work (learned_uri_rows + row) 0) (omega arith);
      name_row_low = below_less name_rows (get_or work (learned_name_rows + row) 0) (omega arith);
      means = λ n rs h l.
          let few : n ≤ learned_rows = h.few in
          let z : row % learned_rows ≡ row = omega arith in
          let k : get_or work (learned_name_codes + row) 0 ≡ name_code_at rs row =
          ap (λ j. get_or work (learned_name_codes + j) 0) (sym z)
          ∙ h.by_name.cells row l (omega arith) in
          let c : get_or work (learned_codes + row) 0 ≡ code_at (site_of_row rs) row =
          ap (λ j. get_or work (learned_codes + j) 0) (sym z)
          ∙ h.by_site.coded.cells row l (omega arith) in
          let b : kind_number (row_at rs row).kind < kinds = kind-low (row_at rs row).kind in
          let m : (row_at rs row).name < name_rows = h.names row l in
          record {
            kind = ap (λ j. j % numbers / name_rows) k ∙ (omega arith);
            name = ap (λ j. j % name_rows) k ∙ (omega arith);
            number = ap (λ j. j % numbers) c ∙ code-number (site_of_row rs) row (omega arith);
            uri_row =
                below_in uri_rows (get_or work (learned_uri_rows + row) 0)
                (omega (arith, h.uri_row row l, h.uri_low row l)) ∙ h.uri_row row l;
            name_row =
                below_in name_rows (get_or work (learned_name_rows + row) 0)
                (omega (arith, h.name_row row l, h.name_low row l)) ∙ h.name_row row l;
          };
    }

pub production-made : {work : List ℕ} {row u v : ℕ} → row < learned_rows
    → u ≡ below uri_rows (get_or work (learned_uri_rows + row) 0)
    → v ≡ below name_rows (get_or work (learned_name_rows + row) 0)
    → ProductionAt work row
    (record {
      kind = get_or work (learned_name_codes + row) 0 % numbers / name_rows;
      name =
          get_or work (learned_name_codes + row) 0 % name_rows;
      number =
          get_or work (learned_codes + row) 0 % numbers;
      uri = u;
      local = v;
    })
unfolding production_in
production-made {work} {row} {u} {v} low d e =
    subst (λ y. ProductionAt work row
    (record {
      kind = get_or work (learned_name_codes + row) 0 % numbers / name_rows;
      name =
          get_or work (learned_name_codes + row) 0 % name_rows;
      number =
          get_or work (learned_codes + row) 0 % numbers;
      uri = u;
      local = y;
    })) (sym e)
    (subst (λ y. ProductionAt work row
    (record {
      kind = get_or work (learned_name_codes + row) 0 % numbers / name_rows;
      name =
          get_or work (learned_name_codes + row) 0 % name_rows;
      number =
          get_or work (learned_codes + row) 0 % numbers;
      uri = y;
      local =
          below name_rows (get_or work (learned_name_rows + row) 0);
    })) (sym d)
    (production-is low))

module _ (count number : ℕ) where
  pub part_in_lem : number < count → count - 1 - number ≡ part_in count number
  unfolding part_in
  part_in_lem l = rw (lt-ltb number count l)

  pub part_out : count ≤ number → 0 ≡ part_in count number
  unfolding part_in
  part_out l = rw (le-ltb number count l)
