-- The table of URIs: what the functions answer where memory is one, and one URI more.
use Prim.Native.Nat.{ℕ, suc, ◌+◌, ◌≤◌, ◌<◌}
use native.Mathlib.Omega.{arith}
use mathlib.Core.Path.{◌≡◌, refl, sym, ap, subst, ◌∙◌}
use mathlib.Core.Bool.{Bool, true, false}
use mathlib.Core.Logic.{◌≢◌}
use mathlib.Core.List.{List, [], ◌∷◌, ◌++◌}
use lib.ListN.{length, get_or, set, length-set, length-append, get_or-append}
use lib.Seq.{get_or-set_same, get_or-set_other, get_or-append_seam}
use lib.Dec.{eqb, ltb}
use borrow.Author.Tests.{eqb-true, eqb-false, eq-eqb, lt-ltb, le-ltb}
use Rattle.text.specs.Text.{Text, eq_text}
use Rattle.spec_exi.specs.Tables.{Placed}
use Rattle.mem_layout.specs.Layout.{uri_places, uri_sizes, uri_firsts, uri_rows, name_places, work_cells}
use Rattle.mem_layout.specs.Layout.{opening_uris}
use Rattle.mem_chain.specs.Chain.{first_that, below}
use Rattle.mem_chain.proofs.Last.{split, below_in, below_less}
use Rattle.mem_chain.proofs.First.{first-start, first-here, first_on, first-most, first-is}
use Rattle.mem_chain.proofs.First.{first-before, first_found, first-same, first-zero}
use Rattle.mem_index.proofs.Codes.{and-true}
use Rattle.mem_entries.specs.Texts.{row_has, with_text, Names, Grown, Lies, Source, throughout, store_of}
use Rattle.mem_entries.proofs.Texts.{text-is, is-text, row-text, names_same, names-grown}
use Rattle.mem_entries.proofs.Texts.{put-length}
use Rattle.mem_entries.proofs.Texts.{put_other, put-names}
use Rattle.mem_names.specs.Uris.{no_uri, uri_at, uri_text, has_uri, first_uri, is_uri, UrisHold}
use Rattle.mem_names.specs.Uris.{uri_has_text, uri_store, uri_in, with_uri, FoundUri, UriAt}

-- ---- first rows

module _ (us : List Placed) where
  pub first-within : (i : ℕ) → first_uri us i ≤ suc i
  unfolding first_uri
  first-within i = first-most (has_uri us (uri_text us i)) (suc i)

  pub is-uri : (i : ℕ) → i < length us → first_uri us i ≡ suc i → is_uri us i ≡ true
  unfolding is_uri
  is-uri i l e =
      and-true (ltb i (length us)) (eqb (first_uri us i) (suc i)) (lt-ltb i (length us) l)
      (eq-eqb (first_uri us i) (suc i) e)

  -- What a search finds is a first row with the text.
  pub found-uri : (x : Text) (i : ℕ) → suc i ≡ first_that (has_uri us x) (length us)
      → (is_uri us i ≡ true) × (uri_text us i ≡ x)
  unfolding first_uri
  found-uri x i e =
      let t : uri_text us i ≡ x =
      text-is (uri_text us i) x (first-is (has_uri us x) (length us) i (sym e)) in
      let z : first_that (has_uri us x) i ≡ 0 =
      none_before i (λ j h. first-before (has_uri us x) (length us) i j (sym e) h) in (
        is-uri i (omega (arith, first-most (has_uri us x) (length us)))
            (ap (λ y. first_that (has_uri us y) (suc i)) t
            ∙ first-here (has_uri us x) i z (is-text (uri_text us i) x t)),
        t,
      )
    where
      none_before : (n : ℕ) → ((j : ℕ) → j < n → has_uri us x j ≡ false)
          → first_that (has_uri us x) n ≡ 0
      none_before n f = first-zero (has_uri us x) n f

-- ---- one URI more

module _ (us : List Placed) (u : Placed) where
  pub uri-old : (i : ℕ) → i < length us → uri_at (us ++ (u ∷ [])) i ≡ uri_at us i
  unfolding uri_at
  uri-old i h = get_or-append us (u ∷ []) no_uri i h

  pub uri-new : uri_at (us ++ (u ∷ [])) (length us) ≡ u
  unfolding uri_at
  uri-new = get_or-append_seam us u [] no_uri

  pub has-old : (x : Text) (i : ℕ) → i < length us → has_uri (us ++ (u ∷ [])) x i ≡ has_uri us x i
  has-old x i h = ap (λ (y : Placed). eq_text y.text x) (uri-old i h)

  pub first-old : (i : ℕ) → i < length us → first_uri (us ++ (u ∷ [])) i ≡ first_uri us i
  unfolding first_uri
  first-old i h =
      ap (λ (y : Placed). first_that (has_uri (us ++ (u ∷ [])) y.text) (suc i)) (uri-old i h)
      ∙ first-same (has_uri (us ++ (u ∷ [])) (uri_text us i)) (has_uri us (uri_text us i)) (suc i)
      (λ j m. has-old (uri_text us i) j (omega arith))

  -- The row is the first of its text where no row before has it.
  pub first-fresh : first_that (has_uri us u.text) (length us) ≡ 0
      → first_uri (us ++ (u ∷ [])) (length us) ≡ suc (length us)
  unfolding first_uri
  first-fresh z =
      ap (λ (y : Placed). first_that (has_uri (us ++ (u ∷ [])) y.text) (suc (length us))) uri-new
      ∙ first-here (has_uri (us ++ (u ∷ [])) u.text) (length us)
      (first-same (has_uri (us ++ (u ∷ [])) u.text) (has_uri us u.text) (length us)
      (λ j m. has-old u.text j m) ∙ z)
      (is-text (uri_text (us ++ (u ∷ [])) (length us)) u.text
      (ap (λ (y : Placed). y.text) uri-new))

-- ---- cells

module _ {work : List ℕ} {from : ℕ → Source} {n : ℕ} {us : List Placed}
    (h : UrisHold work from n us) {stores : ℕ → List ℕ}
    (e : (i : ℕ) → (from i).store ≡ stores i) where
  pub row_has_lem : (x : Text) (i : ℕ) → i < n → uri_has_text work stores x i ≡ has_uri us x i
  unfolding uri_has_text
  row_has_lem x i l =
      ap (λ s. row_has work s (uri_places + i) (uri_sizes + i) x) (sym (e i)) ∙ row-text x (h.rows i l)

-- Whether a row has the text, by the store that it lies in.
module _ (work opening store : List ℕ) (x : List ℕ) (row : ℕ) {b : Bool} where
  pub opening-has : row < opening_uris → b ≡ row_has work opening (uri_places + row) (uri_sizes + row) x
      → b ≡ uri_has_text work (uri_store opening store) x row
  unfolding uri_has_text store_of
  opening-has l e = rw (lt-ltb row opening_uris l) e

  pub store-has : opening_uris ≤ row → b ≡ row_has work store (uri_places + row) (uri_sizes + row) x
      → b ≡ uri_has_text work (uri_store opening store) x row
  unfolding uri_has_text store_of
  store-has l e = rw (le-ltb row opening_uris l) e

-- The turns of `find_uri`: no row before i has the text.
pub record Looking (work : List ℕ) (store : ℕ → List ℕ) (x : List ℕ) (n i : ℕ) : Type 0 where
  pub inside : i ≤ n
  pub none : first_that (uri_has_text work store x) i ≡ 0

module _ {work : List ℕ} {store : ℕ → List ℕ} {x : List ℕ} {n : ℕ} where
  found : {r : ℕ} → r ≡ first_that (uri_has_text work store x) n → FoundUri work store x n r
  found e =
      record {
        is = e;
        within = omega (arith, first-most (uri_has_text work store x) n);
        means = λ from us h same. e
            ∙ first-same (uri_has_text work store x) (has_uri us x) n (λ i l. row_has_lem h same x i l);
      }

  pub look-start : Looking work store x n 0
  look-start = record { inside = omega arith; none = first-start (uri_has_text work store x) }

  pub look-here : {i : ℕ} → Looking work store x n i → i < n → true ≡ uri_has_text work store x i
      → FoundUri work store x n (suc i)
  look-here {i} t l e = found (sym (first_found (uri_has_text work store x) n i l t.none (sym e)))

  pub look-on : {i : ℕ} → Looking work store x n i → i < n → false ≡ uri_has_text work store x i
      → Looking work store x n (i + 1)
  look-on {i} t l e =
      let z : i + 1 ≡ suc i = omega arith in
      record {
        inside = omega arith;
        none =
            rw z (first_on (uri_has_text work store x) i t.none (sym e));
      }

  pub look-end : {i : ℕ} → Looking work store x n i → n ≤ i → FoundUri work store x n 0
  look-end {i} t l =
      let z : n ≡ i = omega (arith, t.inside) in
      found (rw z (sym t.none))

pub uri-at-is : {work : List ℕ} {row : ℕ} → row < uri_rows → UriAt work row (uri_in work row)
unfolding uri_in
uri-at-is {work} {row} low =
    record {
      is = refl;
      low = below_less uri_rows (get_or work (uri_firsts + row) 0) (omega arith);
      means = λ from n us h l.
          let f : suc (get_or work (uri_firsts + row) 0) ≡ first_uri us row = h.firsts row l in
          record {
            place = (h.rows row l).place_is;
            size = (h.rows row l).size_is;
            first = ap suc (below_in uri_rows (get_or work (uri_firsts + row) 0)
                (omega (arith, first-within us row, h.few))) ∙ f;
          };
    }

-- The cells of the table are the same.
pub record SameUris (work after : List ℕ) : Type 0 where
  pub room : work_cells ≤ length after
  pub cells : (j : ℕ) → uri_places ≤ j → j < name_places → get_or after j 0 ≡ get_or work j 0

pub uris-kept : {work after : List ℕ} {from : ℕ → Source} {n : ℕ} {us : List Placed}
    → SameUris work after → UrisHold work from n us → UrisHold after from n us
uris-kept s h =
    record {
      room = s.room;
      inside = h.inside;
      count = h.count;
      few = h.few;
      rows = λ i l.
          let f = h.few in
          names_same (s.cells (uri_places + i) (omega arith) (omega arith))
          (s.cells (uri_sizes + i) (omega arith) (omega arith)) (h.rows i l);
      firsts = λ i l.
          let f = h.few in ap suc (s.cells (uri_firsts + i) (omega arith) (omega arith))
          ∙ h.firsts i l;
    }

pub uris-grown : {work before after : List ℕ} {stored more n : ℕ} {us : List Placed}
    → Grown before after stored more → UrisHold work (throughout before stored) n us
    → UrisHold work (throughout after more) n us
uris-grown g h =
    record {
      room = h.room;
      inside = λ i l. g.inside;
      count = h.count;
      few = h.few;
      rows = λ i l. names-grown g (h.inside i l) (h.rows i l);
      firsts = h.firsts;
    }

pub uris-none : (work : List ℕ) (from : ℕ → Source) → work_cells ≤ length work
    → UrisHold work from 0 []
uris-none work from room =
    record {
      room = room;
      inside = λ i l. absurd (omega arith);
      count = refl;
      few = omega arith;
      rows = λ i l. absurd (omega arith);
      firsts = λ i l. absurd (omega arith);
    }

module _ (work : List ℕ) (n place size first : ℕ) where
  pub uri-length : length (with_uri work n place size first) ≡ length work
  unfolding with_uri
  uri-length = simp length-set (put-length work (uri_places + n) (uri_sizes + n) place size)

  uri-cells : (j : ℕ) → (j ≡ uri_firsts + n → ⊥)
      → get_or (with_uri work n place size first) j 0
      ≡ get_or (with_text work (uri_places + n) (uri_sizes + n) place size) j 0
  unfolding with_uri
  uri-cells j ne = let p : j ≢ uri_firsts + n = ne in simp get_or-set_other

  uri-first : uri_firsts + n < length work → get_or (with_uri work n place size first) (uri_firsts + n) 0
      ≡ first
  unfolding with_uri
  uri-first l =
      let m : uri_firsts + n < length (with_text work (uri_places + n) (uri_sizes + n) place size) =
      omega (arith, put-length work (uri_places + n) (uri_sizes + n) place size) in
      simp get_or-set_same

  -- A cell that is none of the row's is as it was.
  uri-far : (j : ℕ) → (j ≡ uri_places + n → ⊥) → (j ≡ uri_sizes + n → ⊥) → (j ≡ uri_firsts + n → ⊥)
      → get_or (with_uri work n place size first) j 0 ≡ get_or work j 0
  uri-far j p q r = uri-cells j r ∙ put_other work (uri_places + n) (uri_sizes + n) place size j p q

  module _ (low : n < uri_rows) where
    pub uri-other : (j : ℕ) → (uri_places ≤ j → name_places ≤ j)
        → get_or (with_uri work n place size first) j 0 ≡ get_or work j 0
    uri-other j f =
        let off : uri_places ≤ j → j < name_places → ⊥ = λ p q. let z : name_places ≤ j = f p in
        omega arith in
        uri-far j (λ e. off (omega arith) (omega arith)) (λ e. off (omega arith) (omega arith))
        (λ e. off (omega arith) (omega arith))

    module _ {from : ℕ → Source} {us : List Placed} (h : UrisHold work from n us) (x : Text)
        (lies : Lies (from n).store (from n).stored place size x)
        (is : suc first ≡ first_uri (us ++ (record { place = place; text = x } ∷ [])) n) where
      abbrev new : Placed
      new = record { place = place; text = x }

      at_new : uri_at (us ++ (new ∷ [])) n ≡ new
      at_new = ap (uri_at (us ++ (new ∷ []))) (sym h.count) ∙ uri-new us new

      rows-old : (i : ℕ) → i < n
          → Names (with_uri work n place size first) (from i).store (from i).stored (uri_places + i)
          (uri_sizes + i) (uri_at (us ++ (new ∷ [])) i)
      rows-old i l =
          subst (λ (y : Placed). Names (with_uri work n place size first) (from i).store
          (from i).stored (uri_places + i) (uri_sizes + i) y)
          (sym (uri-old us new i (omega (arith, h.count))))
          (names_same
          (uri-far (uri_places + i) (λ e. omega arith) (λ e. omega arith) (λ e. omega arith))
          (uri-far (uri_sizes + i) (λ e. omega arith) (λ e. omega arith) (λ e. omega arith))
          (h.rows i l))

      rows_new : Names (with_uri work n place size first) (from n).store (from n).stored
          (uri_places + n) (uri_sizes + n) (uri_at (us ++ (new ∷ [])) n)
      rows_new =
          let w : work_cells ≤ length work = h.room in
          subst (λ (y : Placed). Names (with_uri work n place size first) (from n).store
          (from n).stored (uri_places + n) (uri_sizes + n) y)
          (sym at_new)
          (names_same (uri-cells (uri_places + n) (λ e. omega arith))
          (uri-cells (uri_sizes + n) (λ e. omega arith))
          (put-names work (uri_places + n) (uri_sizes + n) place size (omega arith) (omega arith)
          (λ e. omega arith) (from n).store (from n).stored x lies))

      pub uris-more : UrisHold (with_uri work n place size first) from (suc n)
          (us ++ (record { place = place; text = x } ∷ []))
      uris-more =
          let w : work_cells ≤ length work = h.room in
          record {
            room = omega (arith, uri-length, h.room);
            inside = λ i l.
                split (eqb i n)
                (λ e. let z : i ≡ n = eqb-true i n e in rw z lies.inside)
                (λ e. h.inside i (omega (arith, eqb-false i n e)));
            count = length-append us (new ∷ []) ∙ (omega (arith, h.count));
            few = omega arith;
            rows = λ i l.
                split (eqb i n)
                (λ e. let z : i ≡ n = eqb-true i n e in rw z rows_new)
                (λ e. rows-old i (omega (arith, eqb-false i n e)));
            firsts = λ i l.
                split (eqb i n)
                (λ e. let z : i ≡ n = eqb-true i n e in
                rw z (ap suc (uri-first (omega arith)) ∙ is))
                (λ e.
                let m : i < n = omega (arith, eqb-false i n e) in
                ap suc (uri-far (uri_firsts + i) (λ y. omega arith) (λ y. omega arith)
                (λ y. omega arith))
                ∙ h.firsts i m ∙ sym (first-old us new i (omega (arith, h.count))));
          }

pub uri-at-made : {work : List ℕ} {row f : ℕ} → row < uri_rows
    → f ≡ below uri_rows (get_or work (uri_firsts + row) 0)
    → UriAt work row
    (record {
      place = get_or work (uri_places + row) 0;
      size = get_or work (uri_sizes + row) 0;
      first =
          f;
    })
unfolding uri_in
uri-at-made {work} {row} low e =
    subst (λ f. UriAt work row
    (record {
      place = get_or work (uri_places + row) 0;
      size =
          get_or work (uri_sizes + row) 0;
      first = f;
    }))
    (sym e) (uri-at-is low)

pub uri-steps : (work : List ℕ) (n place size first : ℕ) {a : List ℕ}
    → a ≡ with_text work (uri_places + n) (uri_sizes + n) place size
    → set a (uri_firsts + n) first ≡ with_uri work n place size first
unfolding with_uri
uri-steps work n place size first e = ap (λ l. set l (uri_firsts + n) first) e
