-- A row joins an index: what was indexed stays, and the row is indexed too.
use Prim.Native.Nat.{ℕ, suc, ◌+◌, ◌*◌, ◌%◌, ◌≤◌, ◌<◌}
use native.Mathlib.Omega.{arith}
use native.Mathlib.Nat.{mod-lt}
use mathlib.Core.Path.{◌≡◌, sym, ap, ◌∙◌}
use mathlib.Core.Logic.{◌≢◌}
use mathlib.Core.List.{List}
use lib.ListN.{length, get_or, set, length-set}
use lib.Seq.{get_or-set_same, get_or-set_other}
use lib.Dec.{eqb}
use borrow.Author.Tests.{eqb-true, eqb-false, eq-eqb, ne_eqb}
use Rattle.mem_chain.specs.Chain.{linked, Chained}
use Rattle.mem_chain.proofs.Last.{split}
use Rattle.mem_chain.proofs.More.{SameCells, ring-apart, chained-none, chained_same, chained_more}
use Rattle.mem_chain.proofs.More.{linked-length, linked-other}
use Rattle.mem_index.specs.declared.Index.{Index}
use Rattle.mem_index.specs.Index.{numbers, spot_of, Coded, entered, tally, has_key, number_at}
use Rattle.mem_index.specs.Index.{code_at, Numbered, count_in, joined}
use Rattle.mem_index.proofs.Tally.{tally-same, tally-here, tally-on}
use Rattle.mem_index.proofs.Codes.{spot-low, count-is}

-- The parts of an index in their order, each apart from the others.
pub record Ordered (x : Index) : Type 0 where
  pub some : 0 < x.ring
  pub sized : 0 < x.size
  pub heads : x.heads + x.size ≤ x.codes
  pub codes : x.codes + x.ring ≤ x.nexts

pub record OrderedCounts (x : Index) (counts keys : ℕ) : Type 0 where
  pub order : Ordered x
  pub from : x.heads + x.size ≤ counts
  pub to : counts + keys ≤ x.codes

-- ---- cells of other tables

-- A cell of none of the index's parts.
pub record Off (x : Index) (j : ℕ) : Type 0 where
  pub heads : x.heads ≤ j → j < x.heads + x.size → ⊥
  pub codes : x.codes ≤ j → j < x.codes + x.ring → ⊥
  pub nexts : x.nexts ≤ j → j < x.nexts + x.ring → ⊥

-- The cells of an index are the same.
pub record SameIndex (work after : List ℕ) (x : Index) : Type 0 where
  pub heads : SameCells work after x.heads x.size
  pub codes : SameCells work after x.codes x.ring
  pub nexts : SameCells work after x.nexts x.ring

pub coded-same : {work after : List ℕ} {x : Index} {code_of : ℕ → ℕ} {n : ℕ} → 0 < x.ring
    → SameIndex work after x → Coded work x code_of n → Coded after x code_of n
coded-same {x = x} some s h =
    record {
      cells = λ i l near. s.codes.cells (i % x.ring) (mod-lt i some) ∙ h.cells i l near;
      chain = chained_same some s.heads s.nexts h.chain;
    }

pub numbered-same : {work after : List ℕ} {x : Index} {counts keys : ℕ} {key_of : ℕ → ℕ} {n : ℕ}
    → 0 < x.ring → SameIndex work after x → SameCells work after counts keys
    → Numbered work x counts keys key_of n → Numbered after x counts keys key_of n
numbered-same some s c h =
    record {
      few = h.few;
      owned = h.owned;
      coded = coded-same some s h.coded;
      counted = λ k l. c.cells k l ∙ h.counted k l;
    }

-- Of no row any memory is an index.
pub coded_none : (work : List ℕ) (x : Index) (code_of : ℕ → ℕ) → Coded work x code_of 0
coded_none work x code_of =
    record {
      cells = λ i l near. absurd (omega arith);
      chain = chained-none work x.heads x.size x.nexts x.ring
          (λ i. spot_of (code_of i) x.size);
    }

-- Where the counts are zero.
pub numbered-none : (work : List ℕ) (x : Index) (counts keys : ℕ) (key_of : ℕ → ℕ)
    → ((k : ℕ) → k < keys → get_or work (counts + k) 0 ≡ 0) → Numbered work x counts keys key_of 0
unfolding tally
numbered-none work x counts keys key_of c =
    record {
      few = omega arith;
      owned = λ i l. absurd (omega arith);
      coded = coded_none work x (code_at key_of);
      counted = c;
    }

-- ---- a row under a code

module _ (work : List ℕ) (x : Index) (n code : ℕ) where
  pub entered-length : length (entered work x n code) ≡ length work
  unfolding entered
  entered-length =
      linked-length (set work (x.codes + n % x.ring) code) (x.heads + spot_of code x.size)
      x.nexts x.ring n ∙ simp length-set

  module _ (o : Ordered x) where
    pub entered-other : (j : ℕ) → Off x j → get_or (entered work x n code) j 0 ≡ get_or work j 0
    unfolding entered
    entered-other j f =
        let m : n % x.ring < x.ring = mod-lt n o.some in
        let s : spot_of code x.size < x.size = spot-low code x.size o.sized in
        let p : j ≢ x.codes + n % x.ring = λ e. f.codes (omega arith) (omega arith) in
        linked-other _ (x.heads + spot_of code x.size) x.nexts x.ring n j
        (λ e. f.heads (omega arith) (omega arith)) (λ e. f.nexts (omega arith) (omega arith))
        ∙ simp get_or-set_other

    module _ (room : x.nexts + x.ring ≤ length work) where
      base : List ℕ
      base = set work (x.codes + n % x.ring) code

      base-length : length base ≡ length work
      unfolding base
      base-length = simp length-set

      base-other : (j : ℕ) → (j ≡ x.codes + n % x.ring → ⊥) → get_or base j 0 ≡ get_or work j 0
      unfolding base
      base-other j ne = let p : j ≢ x.codes + n % x.ring = ne in simp get_or-set_other

      code-new : get_or (entered work x n code) (x.codes + n % x.ring) 0 ≡ code
      unfolding entered
      code-new =
          let m : n % x.ring < x.ring = mod-lt n o.some in
          let s : spot_of code x.size < x.size = spot-low code x.size o.sized in
          let l : x.codes + n % x.ring < length work = omega (arith, o.codes) in
          linked-other _ (x.heads + spot_of code x.size) x.nexts x.ring n
          (x.codes + n % x.ring)
          (λ e. omega (arith, o.heads)) (λ e. omega (arith, o.codes))
          ∙ simp get_or-set_same

      code-old : (i : ℕ) → i < n → n < i + x.ring
          → get_or (entered work x n code) (x.codes + i % x.ring) 0
          ≡ get_or work (x.codes + i % x.ring) 0
      unfolding entered
      code-old i h g =
          let m : i % x.ring < x.ring = mod-lt i o.some in
          let s : spot_of code x.size < x.size = spot-low code x.size o.sized in
          let p : x.codes + i % x.ring ≢ x.codes + n % x.ring =
          λ e. ring-apart x.ring i n h g (omega arith) in
          linked-other _ (x.heads + spot_of code x.size) x.nexts x.ring n
          (x.codes + i % x.ring)
          (λ e. omega (arith, o.heads)) (λ e. omega (arith, o.codes))
          ∙ simp get_or-set_other

      module _ (old new : ℕ → ℕ) (same : (i : ℕ) → i < n → new i ≡ old i) (here : new n ≡ code)
        where
          chain_more : Coded work x old n
              → Chained (entered work x n code) x.heads x.size x.nexts x.ring
              (λ i. spot_of (new i) x.size) (suc n)
          unfolding entered base
          chain_more h =
              let m : n % x.ring < x.ring = mod-lt n o.some in
              chained_more base x.heads x.size x.nexts x.ring n (spot_of code x.size)
              o.some
              (spot-low code x.size o.sized) (omega (arith, o.heads, o.codes))
              (omega (arith, base-length))
              (λ i. spot_of (old i) x.size) (λ i. spot_of (new i) x.size)
              (λ i l. ap (λ c. spot_of c x.size) (same i l))
              (ap (λ c. spot_of c x.size) here)
              (chained_same o.some
              (record { cells = λ i l. base-other (x.heads + i) (λ e. omega (arith, o.heads)) })
              (record { cells = λ i l. base-other (x.nexts + i) (λ e. omega (arith, o.codes)) })
              h.chain)

          pub coded-more : Coded work x old n → Coded (entered work x n code) x new (suc n)
          coded-more h =
              record {
                cells = λ i l near.
                    split (eqb i n)
                    (λ e.
                    let z : i ≡ n = eqb-true i n e in
                    ap (λ k. get_or (entered work x n code) (x.codes + k % x.ring) 0) z ∙ code-new
                    ∙ sym here ∙ ap new (sym z))
                    (λ e.
                    let m : i < n = omega (arith, eqb-false i n e) in
                    code-old i m (omega arith) ∙ h.cells i m (omega arith) ∙ sym (same i m));
                chain = chain_more h;
              }

pub enter-steps : (work : List ℕ) (x : Index) (n code : ℕ) {a : List ℕ} {s : ℕ}
    → s ≡ spot_of code x.size
    → a ≡ linked (set work (x.codes + n % x.ring) code) (x.heads + s) x.nexts x.ring n
    → a ≡ entered work x n code
unfolding entered
enter-steps work x n code e l =
    l ∙ ap (λ s. linked (set work (x.codes + n % x.ring) code) (x.heads + s) x.nexts x.ring
    n) e

-- ---- a row under its key

-- Two key functions that agree on the first rows number them alike.
pub code-agrees : (old new : ℕ → ℕ) (n : ℕ) → ((i : ℕ) → i < n → new i ≡ old i) → (i : ℕ) → i < n
    → code_at new i ≡ code_at old i
unfolding code_at number_at
code-agrees old new n same i l =
    let e : new i ≡ old i = same i l in
    rw (
      e,
      tally-same (has_key new (old i)) (has_key old (old i)) i
          (λ j m. rw (same j (omega arith))),
    )

pub tally-agrees : (old new : ℕ → ℕ) (n k : ℕ) → ((i : ℕ) → i < n → new i ≡ old i)
    → tally (has_key new k) n ≡ tally (has_key old k) n
tally-agrees old new n k same = tally-same (has_key new k) (has_key old k) n (λ j m. rw (same j m))

pub join-steps : (work : List ℕ) (x : Index) (counts n key : ℕ) {a : List ℕ} {number : ℕ}
    → number ≡ count_in work counts key → a ≡ entered work x n (key * numbers + number)
    → set a (counts + key) (number + 1) ≡ joined work x counts n key
unfolding joined
join-steps work x counts n key {a} {number} c e =
    ap (λ l. set l (counts + key) (number + 1)) e
    ∙ ap (λ k. set (entered work x n (key * numbers + k)) (counts + key) (k + 1)) c

module _ (work : List ℕ) (x : Index) (counts n key : ℕ) where
  pub joined_length : length (joined work x counts n key) ≡ length work
  unfolding joined
  joined_length =
      simp length-set (entered-length work x n (key * numbers + count_in work counts key))

  mid : List ℕ
  mid = entered work x n (key * numbers + count_in work counts key)

  mid-other : (j : ℕ) → (j ≡ counts + key → ⊥) → get_or (joined work x counts n key) j 0
      ≡ get_or mid j 0
  unfolding mid joined
  mid-other j ne = let p : j ≢ counts + key = ne in simp get_or-set_other

  module _ (keys : ℕ) (o : OrderedCounts x counts keys) (low : key < keys) where
    pub joined-other : (j : ℕ) → Off x j → (counts ≤ j → j < counts + keys → ⊥)
        → get_or (joined work x counts n key) j 0 ≡ get_or work j 0
    unfolding mid
    joined-other j f g =
        mid-other j (λ e. g (omega arith) (omega arith))
        ∙ entered-other work x n (key * numbers + count_in work counts key) o.order j f

    module _ (room : x.nexts + x.ring ≤ length work) where
      count-off : (k : ℕ) → k < keys → Off x (counts + k)
      count-off k l =
          record {
            heads = λ a b. omega (arith, o.from);
            codes = λ a b. omega (arith, o.to);
            nexts = λ a b. omega (arith, o.to, o.order.codes);
          }

      count-new : get_or (joined work x counts n key) (counts + key) 0 ≡ count_in work counts key + 1
      unfolding joined
      count-new =
          let l : counts + key < length
          (entered work x n (key * numbers + count_in work counts key)) =
          omega (
            arith,
            entered-length work x n (key * numbers + count_in work counts key),
            o.to,
            o.order.codes,
          ) in
          simp get_or-set_same

      count-old : (k : ℕ) → k < keys → (k ≡ key → ⊥)
          → get_or (joined work x counts n key) (counts + k) 0 ≡ get_or work (counts + k) 0
      unfolding mid
      count-old k l ne =
          mid-other (counts + k) (λ e. ne (omega arith))
          ∙ entered-other work x n (key * numbers + count_in work counts key) o.order (counts + k)
          (count-off k l)

      module _ (old new : ℕ → ℕ) (same : (i : ℕ) → i < n → new i ≡ old i) (here : new n ≡ key)
          (few : n < numbers) where
        code_here : Numbered work x counts keys old n
            → code_at new n ≡ key * numbers + count_in work counts key
        unfolding code_at number_at
        code_here h =
            rw (here, tally-agrees old new n key same, count-is h key low)

        entered-same : SameIndex mid (joined work x counts n key) x
        entered-same =
            record {
              heads = record
                  { cells = λ i l. mid-other (x.heads + i) (λ e. omega (arith, o.from)) };
              codes = record
                  { cells = λ i l. mid-other (x.codes + i) (λ e. omega (arith, o.to)) };
              nexts = record {
                cells =
                    λ i l. mid-other (x.nexts + i) (λ e. omega (arith, o.to, o.order.codes));
              };
            }

        pub numbered_more : Numbered work x counts keys old n
            → Numbered (joined work x counts n key) x counts keys new (suc n)
        unfolding mid
        numbered_more h =
            record {
              few = omega arith;
              owned = λ i l.
                  split (eqb i n)
                  (λ e. let z : i ≡ n = eqb-true i n e in rw (z, here) low)
                  (λ e. let m : i < n = omega (arith, eqb-false i n e) in
                  rw (same i m) (h.owned i m));
              coded = coded-same o.order.some entered-same
                  (coded-more work x n (key * numbers + count_in work counts key) o.order room
                  (code_at old) (code_at new)
                  (λ i l. code-agrees old new n same i l) (code_here h) h.coded);
              counted = λ k l.
                  split (eqb k key)
                  (λ e.
                  let z : k ≡ key = eqb-true k key e in
                  rw z (count-new
                  ∙ (omega (
                    arith,
                    count-is h key low,
                    tally-agrees old new n key same,
                    tally-here
                        (has_key new key) n (eq-eqb key (new n) (sym here)),
                  ))))
                  (λ e.
                  let ne : k ≡ key → ⊥ = eqb-false k key e in
                  count-old k l ne ∙ h.counted k l ∙ sym (tally-agrees old new n k same)
                  ∙ sym (tally-on (has_key new k) n (ne_eqb k (new n) (λ q. ne (q ∙ here)))));
            }
