-- A row joins its chain: what was chained stays, and the row is chained too.
use Prim.Native.Nat.{ℕ, suc, ◌+◌, ◌*◌, ◌/◌, ◌%◌, ◌≤◌, ◌<◌}
use native.Mathlib.Omega.{arith}
use native.Mathlib.Nat.{mod-lt, div-add-mod, mul-le-mul_left}
use native.Mathlib.Decide.{dec_le}
use mathlib.Core.Path.{◌≡◌, refl, sym, ap, ◌∙◌}
use mathlib.Core.Logic.{◌≢◌}
use mathlib.Core.Bool.{false, true≢false}
use mathlib.Core.List.{List}
use lib.ListN.{length, get_or, length-set}
use lib.Seq.{lt-length-set, get_or-set_same, get_or-set_other}
use lib.Dec.{eqb}
use borrow.Author.Tests.{eqb-true, eqb-false, eq-eqb, ne_eqb}
use Rattle.mem_chain.specs.Chain.{last_that, Threaded, in_bucket, Chained, linked}
use Rattle.mem_chain.proofs.Last.{split, last-here, last_on, last-same}

-- Two rows of the ring lie apart.
pub ring-apart : (ring i n : ℕ) → i < n → n < i + ring → i % ring ≡ n % ring → ⊥
ring-apart ring i n l h e =
    let a : ring * (i / ring) + i % ring ≡ i = div-add-mod i ring in
    let b : ring * (n / ring) + n % ring ≡ n = div-add-mod n ring in
    elim (dec_le (n / ring) (i / ring)) [
      | yes y ↦ let m : ring * (n / ring) ≤ ring * (i / ring) = mul-le-mul_left ring y in
          omega arith
      | no x ↦
          let s : ring * (i / ring + 1) ≤ ring * (n / ring) = mul-le-mul_left ring (omega arith) in
          let d : ring * (i / ring + 1) ≡ ring * (i / ring) + ring = omega arith in
          omega arith
    ]

-- The cells that a chain speaks of are the same.
pub record SameCells (work after : List ℕ) (from size : ℕ) : Type 0 where
  pub cells : (i : ℕ) → i < size → get_or after (from + i) 0 ≡ get_or work (from + i) 0

pub chained_same : {work after : List ℕ} {heads size nexts ring : ℕ} {bucket : ℕ → ℕ} {n : ℕ}
    → 0 < ring
    → SameCells work after heads size → SameCells work after nexts ring
    → Chained work heads size nexts ring bucket n → Chained after heads size nexts ring bucket n
chained_same {nexts = nexts} {ring = ring} some h x w =
    record {
      thread = λ b l. record {
        first = λ s. h.cells b l ∙ (w.thread b l).first s;
        next = λ i lt near e s.
            x.cells (i % ring) (mod-lt i some) ∙ (w.thread b l).next i lt near e s;
      };
    }

-- No row is chained on any memory.
pub chained-none : (work : List ℕ) (heads size nexts ring : ℕ) (bucket : ℕ → ℕ)
    → Chained work heads size nexts ring bucket 0
unfolding last_that
chained-none work heads size nexts ring bucket =
    record {
      thread = λ b l. record {
        first = λ s. absurd (omega arith);
        next = λ i h near t s. absurd (omega arith);
      };
    }

module _ (work : List ℕ) (head nexts ring n : ℕ) where
  pub linked-length : length (linked work head nexts ring n) ≡ length work
  unfolding linked
  linked-length = simp length-set

  -- Every other cell is as it was.
  pub linked-other : (j : ℕ) → (j ≡ head → ⊥) → (j ≡ nexts + n % ring → ⊥)
      → get_or (linked work head nexts ring n) j 0 ≡ get_or work j 0
  unfolding linked
  linked-other j p q =
      let p' : j ≢ head = p in
      let q' : j ≢ nexts + n % ring = q in
      simp get_or-set_other

module _ (work : List ℕ) (heads size nexts ring n b : ℕ) (some : 0 < ring) (low : b < size)
    (apart : heads + size ≤ nexts) (room : nexts + ring ≤ length work) where
  after : List ℕ
  after = linked work (heads + b) nexts ring n

  next-new : get_or after (nexts + n % ring) 0 ≡ get_or work (heads + b) 0
  unfolding after linked
  next-new =
      let m : n % ring < ring = mod-lt n some in
      let l : nexts + n % ring < length work = omega arith in
      let q : nexts + n % ring ≢ heads + b = λ e. omega arith in
      simp (get_or-set_other, get_or-set_same)

  next-old : (i : ℕ) → i < n → n < i + ring → get_or after (nexts + i % ring) 0
      ≡ get_or work (nexts + i % ring) 0
  unfolding after linked
  next-old i h g =
      let p : nexts + i % ring ≢ nexts + n % ring = λ e. ring-apart ring i n h g (omega arith) in
      let q : nexts + i % ring ≢ heads + b = λ e. omega arith in
      simp get_or-set_other

  head-new : get_or after (heads + b) 0 ≡ n + 1
  unfolding after linked
  head-new =
      let l : heads + b < length work = omega arith in
      simp (get_or-set_same, lt-length-set)

  head-old : (a : ℕ) → a < size → (a ≡ b → ⊥) → get_or after (heads + a) 0 ≡ get_or work (heads + a) 0
  unfolding after
  head-old a h ne =
      linked-other work (heads + b) nexts ring n (heads + a) (λ e. ne (omega arith))
      (λ e. omega arith)

  module _ (old new : ℕ → ℕ) (same : (i : ℕ) → i < n → new i ≡ old i) (here : new n ≡ b) where
    kept : (a k : ℕ) → k ≤ n → last_that (in_bucket new a) k ≡ last_that (in_bucket old a) k
    kept a k h = last-same (in_bucket new a) (in_bucket old a) k (λ i l. rw (same i (omega arith)))

    there : (a i k : ℕ) → k ≤ n → i ≡ k → 0 < last_that (in_bucket new a) i
        → 0 < last_that (in_bucket old a) k
    there a i k h e s =
        let z : last_that (in_bucket new a) i ≡ last_that (in_bucket old a) k =
        ap (last_that (in_bucket new a)) e ∙ kept a k h in
        omega arith

    mine : Threaded work (heads + b) nexts ring n (in_bucket old b)
        → Threaded after (heads + b) nexts ring (suc n) (in_bucket new b)
    mine w =
        record {
          first = λ s. head-new ∙ (omega arith)
              ∙ sym (last-here (in_bucket new b) n (eq-eqb (new n) b here));
          next = λ i h g e s.
              split (eqb i n)
              (λ x.
              let z : i ≡ n = eqb-true i n x in
              ap (λ k. get_or after (nexts + k % ring) 0) z ∙ next-new
              ∙ w.first (there b i n (omega arith) z s)
              ∙ sym (kept b n (omega arith)) ∙ ap (last_that (in_bucket new b)) (sym z))
              (λ x.
              let l : i < n = omega (arith, eqb-false i n x) in
              next-old i l (omega arith)
              ∙ w.next i l (omega arith) (rw (same i l) at e) (there b i i (omega arith) refl s)
              ∙ sym (kept b i (omega arith)));
        }

    other : (a : ℕ) → a < size → (a ≡ b → ⊥)
        → Threaded work (heads + a) nexts ring n (in_bucket old a)
        → Threaded after (heads + a) nexts ring (suc n) (in_bucket new a)
    other a la ne w =
        let no : eqb (new n) a ≡ false = ne_eqb (new n) a (λ e. ne (sym e ∙ here)) in
        record {
          first = λ s.
              let on : last_that (in_bucket new a) (suc n) ≡ last_that (in_bucket new a) n =
              last_on (in_bucket new a) n no in
              head-old a la ne ∙ w.first (there a n n (omega arith) refl (omega (arith, s, on)))
              ∙ sym (kept a n (omega arith)) ∙ sym on;
          next = λ i h g e s.
              split (eqb i n)
              (λ x. let z : i ≡ n = eqb-true i n x in absurd (true≢false (sym (rw z at e) ∙ no)))
              (λ x.
              let l : i < n = omega (arith, eqb-false i n x) in
              next-old i l (omega arith)
              ∙ w.next i l (omega arith) (rw (same i l) at e) (there a i i (omega arith) refl s)
              ∙ sym (kept a i (omega arith)));
        }

    pub chained_more : Chained work heads size nexts ring old n
        → Chained (linked work (heads + b) nexts ring n) heads size nexts ring new (suc n)
    unfolding after
    chained_more w =
        record {
          thread = λ a la.
              split (eqb a b)
              (λ x. let z : a ≡ b = eqb-true a b x in rw z (mine (w.thread b low)))
              (λ x. other a la (eqb-false a b x) (w.thread a la));
        }
