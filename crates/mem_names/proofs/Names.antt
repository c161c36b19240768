-- Names by URI and text: first rows, one name more, and the turns of `find_name`.
use Prim.Native.Nat.{ℕ, suc, ◌+◌, ◌-◌, ◌/◌, ◌%◌, ◌≤◌, ◌<◌}
use native.Mathlib.Omega.{arith}
use mathlib.Core.Path.{◌≡◌, refl, sym, ap, subst, ◌∙◌}
use mathlib.Core.Bool.{Bool, true, false, cond, ◌&&◌, true≢false}
use mathlib.Core.List.{List, [], ◌∷◌, ◌++◌}
use lib.ListN.{length, get_or}
use lib.Dec.{eqb, ltb}
use borrow.Author.Tests.{eqb-true, eqb-false, eq-eqb, ne_eqb, ltb-true, ltb-false, lt-ltb, le-ltb}
use Rattle.text.specs.Text.{Text, eq_text}
use Rattle.spec_exi.specs.Tables.{Entry}
use Rattle.mem_layout.specs.Layout.{name_text_heads, name_text_nexts, name_buckets, name_rows, name_counts}
use Rattle.mem_layout.specs.Layout.{name_places, name_sizes, name_codes, name_firsts, uri_rows}
use Rattle.mem_layout.specs.Layout.{work_cells, opening_names}
use Rattle.mem_chain.specs.Chain.{first_that, last_that, below, walked_from, in_bucket}
use Rattle.mem_chain.proofs.Last.{split, last-same, since-all, below_in, below_less}
use Rattle.mem_chain.proofs.First.{first-here, first-most, first-is, first-before, first-same}
use Rattle.mem_chain.proofs.First.{first-none, first-zero, last-first}
use Rattle.mem_chain.proofs.Walk.{walk-member}
use Rattle.mem_chain.proofs.Turn.{Turn, Answer, turn-start, turn_end, turn-row, turn-here}
use Rattle.mem_chain.proofs.Sought.{sought-by}
use Rattle.mem_chain.proofs.Turn.{turn-next}
use Rattle.mem_index.specs.declared.Index.{Index}
use Rattle.mem_index.specs.Index.{numbers, tally, has_key, code_at, Counted, NthFound, NthPre}
use Rattle.mem_index.specs.Index.{Joining}
use Rattle.mem_index.proofs.Codes.{and-true, both, code-key, code-number}
use Rattle.mem_entries.specs.Texts.{hash_of, row_has, Source, store_of}
use Rattle.mem_entries.specs.Entries.{Entries, key_at, text_at, has_text_at}
use Rattle.mem_entries.proofs.Texts.{text-is, is-text, row-text}
use Rattle.mem_entries.proofs.Entries.{entry_old, entry_new, given-tally}
use Rattle.mem_names.specs.declared.Name.{Name}
use Rattle.mem_names.specs.Names.{is_entry, first_name, is_name, name_index, name_spot}
use Rattle.mem_names.specs.Names.{name_bucket, NamesHold, row_is_name, name_found_in, name_in}
use Rattle.mem_names.specs.Names.{FoundName, CountedNames, NthName, NameAt, name_store}

pub entry-is : (ns : Entries) (k : ℕ) (x : Text) (i : ℕ) → key_at ns i ≡ k → text_at ns i ≡ x
    → is_entry ns k x i ≡ true
entry-is ns k x i p q =
    and-true (eqb k (key_at ns i)) (eq_text (text_at ns i) x) (eq-eqb k (key_at ns i) (sym p))
    (is-text (text_at ns i) x q)

pub is-entry : (ns : Entries) (k : ℕ) (x : Text) (i : ℕ) → is_entry ns k x i ≡ true
    → (key_at ns i ≡ k) × (text_at ns i ≡ x)
is-entry ns k x i e =
    let (a, b) = both (eqb k (key_at ns i)) (eq_text (text_at ns i) x) e in
    (sym (eqb-true k (key_at ns i) a), text-is (text_at ns i) x b)

-- ---- first rows

module _ (ns : Entries) where
  pub name-within : (i : ℕ) → first_name ns i ≤ suc i
  unfolding first_name
  name-within i = first-most (is_entry ns (key_at ns i) (text_at ns i)) (suc i)

  pub is_name_lem : (i : ℕ) → i < length ns → first_name ns i ≡ suc i → is_name ns i ≡ true
  unfolding is_name
  is_name_lem i l e =
      and-true (ltb i (length ns)) (eqb (first_name ns i) (suc i)) (lt-ltb i (length ns) l)
      (eq-eqb (first_name ns i) (suc i) e)

  -- The first row of a URI and a text is a key.
  first_alike : (k : ℕ) (x : Text) (i : ℕ) → is_entry ns k x i ≡ true
      → first_name ns i ≡ first_that (is_entry ns k x) (suc i)
  unfolding first_name
  first_alike k x i e =
      let (p, q) = is-entry ns k x i e in
      ap (λ j. first_that (is_entry ns j (text_at ns i)) (suc i)) p
      ∙ ap (λ y. first_that (is_entry ns k y) (suc i)) q

  pub found_name : (k : ℕ) (x : Text) (i : ℕ) → suc i ≡ first_that (is_entry ns k x) (length ns)
      → (is_name ns i ≡ true) × (key_at ns i ≡ k) × (text_at ns i ≡ x)
  found_name k x i e =
      let t : is_entry ns k x i ≡ true = first-is (is_entry ns k x) (length ns) i (sym e) in
      let z : first_that (is_entry ns k x) i ≡ 0 =
      first-zero (is_entry ns k x) i (λ j h. first-before (is_entry ns k x) (length ns) i j (sym e) h)
      in
      let (p, q) = is-entry ns k x i t in (
        is_name_lem i (omega (arith, first-most (is_entry ns k x) (length ns)))
            (first_alike k x i t ∙ first-here (is_entry ns k x) i z t),
        p,
        q,
      )

  -- ---- the chain that has a URI and a text

  pub bucket-first : (i : ℕ) → name_bucket ns i < name_buckets → first_name ns i ≡ suc i
  unfolding name_bucket
  bucket-first i h =
      split (eqb (first_name ns i) (suc i))
      (λ e. eqb-true (first_name ns i) (suc i) e)
      (λ e. absurd (omega (arith, out e)))
    where
      out : eqb (first_name ns i) (suc i) ≡ false
          → cond (eqb (first_name ns i) (suc i)) (name_spot (hash_of (text_at ns i)) (key_at ns i))
          name_buckets ≡ name_buckets
      out e = rw e

  pub bucket-is : (i : ℕ) → first_name ns i ≡ suc i
      → name_bucket ns i ≡ name_spot (hash_of (text_at ns i)) (key_at ns i)
  unfolding name_bucket
  bucket-is i e = rw (eq-eqb (first_name ns i) (suc i) e)

  -- Rows that are first, and have this URI and text.
  abbrev pub sought : ℕ → Text → ℕ → Bool
  sought k x i = is_entry ns k x i && eqb (first_name ns i) (suc i)

  pub last-sought : (k : ℕ) (x : Text) (n : ℕ)
      → last_that (sought k x) n ≡ first_that (is_entry ns k x) n
  last-sought k x n =
      last-same (sought k x)
      (λ i. is_entry ns k x i && eqb (first_that (is_entry ns k x) (suc i)) (suc i)) n
      (λ i l. same i)
      ∙ last-first (is_entry ns k x) n
    where
      same : (i : ℕ)
          → sought k x i ≡ (is_entry ns k x i && eqb (first_that (is_entry ns k x) (suc i)) (suc i))
      same i =
          split (is_entry ns k x i)
          (λ e. ap (λ j. is_entry ns k x i && eqb j (suc i)) (first_alike k x i e))
          (λ e. rw e)

-- ---- one name more

module _ (ns : Entries) (e : Entry ℕ) where
  pub has-old : (k : ℕ) (x : Text) (i : ℕ) → i < length ns → is_entry (ns ++ (e ∷ [])) k x i
      ≡ is_entry ns k x i
  has-old k x i h =
      ap (λ (y : Entry ℕ). eqb k y.key && eq_text y.string.text x) (entry_old ns e i h)

  pub first-old : (i : ℕ) → i < length ns → first_name (ns ++ (e ∷ [])) i ≡ first_name ns i
  unfolding first_name
  first-old i h =
      ap (λ (y : Entry ℕ). first_that (is_entry (ns ++ (e ∷ [])) y.key y.string.text) (suc i))
      (entry_old ns e i h)
      ∙ first-same (is_entry (ns ++ (e ∷ [])) (key_at ns i) (text_at ns i))
      (is_entry ns (key_at ns i) (text_at ns i)) (suc i)
      (λ j m. has-old (key_at ns i) (text_at ns i) j (omega arith))

  pub first-fresh : first_that (is_entry ns e.key e.string.text) (length ns) ≡ 0
      → first_name (ns ++ (e ∷ [])) (length ns) ≡ suc (length ns)
  unfolding first_name
  first-fresh z =
      ap (λ (y : Entry ℕ). first_that (is_entry (ns ++ (e ∷ [])) y.key y.string.text)
      (suc (length ns))) (entry_new ns e)
      ∙ first-here (is_entry (ns ++ (e ∷ [])) e.key e.string.text) (length ns)
      (first-same (is_entry (ns ++ (e ∷ [])) e.key e.string.text)
      (is_entry ns e.key e.string.text) (length ns)
      (λ j m. has-old e.key e.string.text j m) ∙ z)
      (entry-is (ns ++ (e ∷ [])) e.key e.string.text (length ns)
      (ap (λ (y : Entry ℕ). y.key) (entry_new ns e))
      (ap (λ (y : Entry ℕ). y.string.text) (entry_new ns e)))

  pub bucket-old : (i : ℕ) → i < length ns → name_bucket (ns ++ (e ∷ [])) i ≡ name_bucket ns i
  unfolding name_bucket
  bucket-old i h =
      ap (λ j. cond (eqb j (suc i))
      (name_spot (hash_of (text_at (ns ++ (e ∷ [])) i)) (key_at (ns ++ (e ∷ [])) i)) name_buckets)
      (first-old i h)
      ∙ ap (λ (y : Entry ℕ). cond (eqb (first_name ns i) (suc i))
      (name_spot (hash_of y.string.text) y.key) name_buckets) (entry_old ns e i h)

-- ---- the turns of `find_name`

module _ {work : List ℕ} {from : ℕ → Source} {n : ℕ} {ns : Entries} (h : NamesHold work from n ns)
  where
    code-uri : (i : ℕ) → i < n → get_or work (name_codes + i) 0 / numbers ≡ key_at ns i
    code-uri i l =
        let few : n ≤ name_rows = h.few in
        let z : i % name_rows ≡ i = omega arith in
        let c : get_or work (name_codes + i % name_rows) 0 ≡ code_at (key_at ns) i =
        h.by_uri.coded.cells i l (omega arith) in
        ap (λ j. get_or work (name_codes + j) 0 / numbers) (sym z) ∙ ap (λ k. k / numbers) c
        ∙ code-key (key_at ns) i (omega arith)

    pub row-name : {stores : ℕ → List ℕ} → ((i : ℕ) → (from i).store ≡ stores i)
        → (uri : ℕ) (x : Text) (i : ℕ) → i < n → row_is_name work stores uri x i ≡ is_entry ns uri x i
    unfolding row_is_name
    row-name {stores = stores} same uri x i l =
        ap (λ k. eqb k uri && row_has work (stores i) (name_places + i) (name_sizes + i) x)
        (code-uri i l)
        ∙ ap (λ s. eqb (key_at ns i) uri && row_has work s (name_places + i) (name_sizes + i) x)
        (sym (same i))
        ∙ ap (λ b. eqb (key_at ns i) uri && b) (row-text x (h.rows i l))
        ∙ ap (λ b. b && has_text_at ns x i) (turned (key_at ns i) uri)
      where
        turned : (a b : ℕ) → eqb a b ≡ eqb b a
        turned a b =
            split (eqb a b)
            (λ e. e ∙ sym (eq-eqb b a (sym (eqb-true a b e))))
            (λ e. e ∙ sym (ne_eqb b a (λ z. eqb-false a b e (sym z))))

pub record Premise (work : List ℕ) (stores : ℕ → List ℕ) (uri : ℕ) (x : List ℕ) (h n : ℕ)
    : Type 0 where
  pub from : ℕ → Source
  pub names : Entries
  pub holds : NamesHold work from n names
  pub same : (i : ℕ) → (from i).store ≡ stores i
  pub hash : h ≡ hash_of x

spot-low : (h uri : ℕ) → name_spot h uri < name_buckets
unfolding name_spot
spot-low h uri = omega arith

module _ (work : List ℕ) (store : ℕ → List ℕ) (uri : ℕ) (x : List ℕ) (h n : ℕ) where
  abbrev P : Type 0
  P = Premise work store uri x h n

  abbrev seeks : P → ℕ → Bool
  seeks p = sought p.names uri x

  abbrev Seek : ℕ → Type 0
  Seek =
      Turn P work (name_text_heads + name_spot h uri) name_text_nexts name_rows n 0
      (λ p. in_bucket (name_bucket p.names) (name_spot h uri)) seeks

  chained : (p : P) (i : ℕ) → i < n → seeks p i ≡ true
      → in_bucket (name_bucket p.names) (name_spot h uri) i ≡ true
  chained p i l e =
      let (a, b) = both (is_entry p.names uri x i) (eqb (first_name p.names i) (suc i)) e in
      let (k, t) = is-entry p.names uri x i a in
      eq-eqb (name_bucket p.names i) (name_spot h uri)
      (bucket-is p.names i (eqb-true (first_name p.names i) (suc i) b)
      ∙ ap (λ y. name_spot (hash_of y) (key_at p.names i)) t ∙ ap (λ j. name_spot (hash_of x) j) k
      ∙ ap (λ j. name_spot j uri) (sym p.hash))

  module _ {c : ℕ} (t : Seek c) (up : 0 < c) where
    row : (p : P) → row_is_name work store uri x ((c - 1) % name_rows) ≡ is_entry p.names uri x (c - 1)
    row p =
        let l : c - 1 < n = turn-row t up in
        let few : n ≤ name_rows = p.holds.few in
        let z : (c - 1) % name_rows ≡ c - 1 = omega arith in
        ap (row_is_name work store uri x) z ∙ row-name p.holds p.same uri x (c - 1) l

    -- A row of this text has a first one, which is sought.
    left : (p : P) → is_entry p.names uri x (c - 1) ≡ true → 0 < last_that (seeks p) c
    left p e =
        let k : ℕ = last_that (seeks p) c in
        split (ltb 0 k) (λ y. ltb-true 0 k y)
        (λ y.
        let z : k ≡ 0 = omega (arith, ltb-false 0 k y) in
        absurd (true≢false (sym e ∙ first-none (is_entry p.names uri x) c (c - 1)
        (sym (last-sought p.names uri x c) ∙ z) (omega arith))))

    -- A row of this text that the walk meets is of the chain, and so first of its text.
    first : (p : P) → is_entry p.names uri x (c - 1) ≡ true → first_name p.names (c - 1) ≡ suc (c - 1)
    first p e =
        let m : in_bucket (name_bucket p.names) (name_spot h uri) (c - 1) ≡ true =
        walk-member (t.walking p) (c - 1) (omega arith) (left p e) in
        let z : name_bucket p.names (c - 1) ≡ name_spot h uri =
        eqb-true (name_bucket p.names (c - 1)) (name_spot h uri) m in
        bucket-first p.names (c - 1) (omega (arith, spot-low h uri))

    here : true ≡ row_is_name work store uri x ((c - 1) % name_rows) → Answer P n 0 seeks (suc (c - 1))
    here e =
        turn-here t up (λ p.
        let w : is_entry p.names uri x (c - 1) ≡ true = sym (row p) ∙ sym e in
        and-true (is_entry p.names uri x (c - 1))
        (eqb (first_name p.names (c - 1)) (suc (c - 1)))
        w (eq-eqb (first_name p.names (c - 1)) (suc (c - 1)) (first p w)))

    next : false ≡ row_is_name work store uri x ((c - 1) % name_rows) → (d : ℕ)
        → d ≡ below c (get_or work (name_text_nexts + (c - 1) % name_rows) 0) → Seek d
    next f =
        turn-next t up (λ p.
        let w : is_entry p.names uri x (c - 1) ≡ false = sym (row p) ∙ sym f in
        ap (λ b. b && eqb (first_name p.names (c - 1)) (suc (c - 1))) w)

  pub name-found : {spot r : ℕ} → spot ≡ name_spot h uri
      → r ≡ walked_from work (name_text_heads + spot) name_text_nexts name_rows n 0
      (row_is_name work store uri x)
      → FoundName work store uri x h n r
  unfolding name_found_in
  name-found z found =
      let head : ℕ = name_text_heads + name_spot h uri in
      let is = rw z at found in
      let a =
      sought-by work head name_text_nexts name_rows n 0 (row_is_name work store uri x)
      (Answer P n 0 seeks) Seek
      (turn-start (λ p. p.holds.few)
      (λ p. p.holds.by_text.thread (name_spot h uri) (spot-low h uri)) chained)
      (λ c. turn_end) (λ c. here) (λ c. next) is in
      record {
        is = is;
        within = a.within;
        means = λ from ns t e b.
            a.newest (record { from = from; names = ns; holds = t; same = e; hash = b })
            ∙ since-all (last_that (sought ns uri x) n) ∙ last-sought ns uri x n;
      }

-- ---- by URI and number, counts, and the cells of one name

pub uri-asking : {work : List ℕ} {x : Index} {uri n : ℕ} → x ≡ name_index → work_cells ≤ length work
    → uri < uri_rows → n ≤ name_rows → NthPre work x uri n
uri-asking {work} {x} {uri} {n} e room low few =
    subst (λ y. NthPre work y uri n) (sym e)
    (record {
      some = omega arith;
      sized = omega arith;
      head_room = omega arith;
      code_room = omega arith;
      next_room = omega arith;
      few = omega arith;
      low = omega arith;
    })

pub uri-joining : {work : List ℕ} {x : Index} {uri n : ℕ} → x ≡ name_index → work_cells ≤ length work
    → uri < uri_rows → n ≤ name_rows → Joining work x name_counts n uri
uri-joining e room low few = record { asking = uri-asking e room low few; count_room = omega arith }

pub nth-is : {work : List ℕ} {x : Index} {uri number n r : ℕ} → x ≡ name_index
    → NthFound work x uri number n 0 r → NthName work uri number n r
nth-is {work} {x} {uri} {number} {n} {r} e f =
    let g : NthFound work name_index uri number n 0 r =
    subst (λ y. NthFound work y uri number n 0 r) e f in
    record {
      is = g.is;
      within = g.within;
      means = λ from ns h. g.newest name_counts uri_rows (key_at ns) h.by_uri h.few
          ∙ since-all _;
    }

pub counted-names : {work : List ℕ} {uri r : ℕ} → uri < uri_rows → Counted work name_counts uri r
    → CountedNames work uri r
counted-names {uri = uri} l f =
    record {
      is = f.is;
      within = f.within;
      count = λ from n ns h.
          f.means name_index uri_rows (key_at ns) n h.by_uri l
          ∙ ap (tally (has_key (key_at ns) uri)) (sym h.count) ∙ sym (given-tally ns uri);
    }

pub name-at-is : {work : List ℕ} {row : ℕ} → row < name_rows → NameAt work row (name_in work row)
unfolding name_in
name-at-is {work} {row} low =
    record {
      is = refl;
      low = below_less uri_rows (get_or work (name_codes + row) 0 / numbers) (omega arith);
      small = omega arith;
      low_first = below_less name_rows (get_or work (name_firsts + row) 0) (omega arith);
      means = λ from n ns h l.
          let few : n ≤ name_rows = h.few in
          let z : row % name_rows ≡ row = omega arith in
          let k : get_or work (name_codes + row) 0 ≡ code_at (key_at ns) row =
          ap (λ j. get_or work (name_codes + j) 0) (sym z)
          ∙ h.by_uri.coded.cells row l (omega arith) in
          let u : get_or work (name_codes + row) 0 / numbers ≡ key_at ns row = code-uri h row l in
          record {
            uri = below_in uri_rows (get_or work (name_codes + row) 0 / numbers)
                (omega (arith, h.by_uri.owned row l)) ∙ u;
            number = ap (λ j. j % numbers) k ∙ code-number (key_at ns) row (omega arith);
            place = (h.rows row l).place_is;
            size = (h.rows row l).size_is;
            first = ap suc (below_in name_rows (get_or work (name_firsts + row) 0)
                (omega (arith, h.firsts row l, name-within ns row))) ∙ h.firsts row l;
          };
    }

pub name-at-made : {work : List ℕ} {row u f : ℕ} → row < name_rows
    → u ≡ below uri_rows (get_or work (name_codes + row) 0 / numbers)
    → f ≡ below name_rows (get_or work (name_firsts + row) 0)
    → NameAt work row
    (record {
      uri = u;
      number = get_or work (name_codes + row) 0 % numbers;
      place =
          get_or work (name_places + row) 0;
      size = get_or work (name_sizes + row) 0;
      first = f;
    })
unfolding name_in
name-at-made {work} {row} {u} {f} low d e =
    let made : ℕ → ℕ → Name =
    λ u f. record {
      uri = u;
      number = get_or work (name_codes + row) 0 % numbers;
      place =
          get_or work (name_places + row) 0;
      size = get_or work (name_sizes + row) 0;
      first = f;
    } in
    subst (λ f. NameAt work row
    (record {
      uri = u;
      number = get_or work (name_codes + row) 0 % numbers;
      place =
          get_or work (name_places + row) 0;
      size = get_or work (name_sizes + row) 0;
      first = f;
    }))
    (sym e)
    (subst (λ u. NameAt work row
    (record {
      uri = u;
      number = get_or work (name_codes + row) 0 % numbers;
      place =
          get_or work (name_places + row) 0;
      size = get_or work (name_sizes + row) 0;
      first =
          below name_rows (get_or work (name_firsts + row) 0);
    })) (sym d)
    (name-at-is low))

-- Whether a row has URI and text, by the tests.
module _ (work opening store : List ℕ) (uri : ℕ) (x : List ℕ) (row : ℕ) where
  pub other-uri : (get_or work (name_codes + row) 0 / numbers ≡ uri → ⊥)
      → false ≡ row_is_name work (name_store opening store) uri x row
  unfolding row_is_name
  other-uri ne = rw (ne_eqb (get_or work (name_codes + row) 0 / numbers) uri ne)

  module _ (z : get_or work (name_codes + row) 0 / numbers ≡ uri) {b : Bool} where
    pub opening-has : row < opening_names
        → b ≡ row_has work opening (name_places + row) (name_sizes + row) x
        → b ≡ row_is_name work (name_store opening store) uri x row
    unfolding row_is_name store_of
    opening-has l e =
        rw (eq-eqb (get_or work (name_codes + row) 0 / numbers) uri z, lt-ltb row opening_names l) e

    pub store-has : opening_names ≤ row
        → b ≡ row_has work store (name_places + row) (name_sizes + row) x
        → b ≡ row_is_name work (name_store opening store) uri x row
    unfolding row_is_name store_of
    store-has l e =
        rw (eq-eqb (get_or work (name_codes + row) 0 / numbers) uri z, le-ltb row opening_names l) e
