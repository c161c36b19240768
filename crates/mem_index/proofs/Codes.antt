-- Key and number in one code, and what a search by them finds.
use Prim.Native.Nat.{ℕ, ◌+◌, ◌*◌, ◌/◌, ◌%◌, ◌≤◌, ◌<◌}
use native.Mathlib.Omega.{arith}
use native.Mathlib.Nat.{mod-lt}
use mathlib.Core.Path.{◌≡◌, refl, sym, ap, ◌∙◌}
use mathlib.Core.Bool.{Bool, true, false, ◌&&◌, true≢false}
use mathlib.Core.List.{List}
use lib.ListN.{get_or}
use lib.Dec.{eqb}
use borrow.Author.Tests.{eqb-true, eqb-false, eq-eqb, lt-ltb, le-ltb}
use Rattle.mem_chain.specs.Chain.{last_that, since, below, in_bucket, has_code, CodeChain, Newest}
use Rattle.mem_chain.proofs.Last.{split, last-same, last-zero, since-out, below_in, below_less}
use Rattle.mem_index.specs.declared.Index.{Index}
use Rattle.mem_index.specs.Index.{numbers, stride, spot_of, Coded, found_in, tally, has_key, number_at}
use Rattle.mem_index.specs.Index.{code_at, is_numbered, Numbered, count_in, nth_in}
use Rattle.mem_index.specs.Index.{Found, Counted, NthFound}
use Rattle.mem_index.proofs.Tally.{tally-most}

pub spot-low : (code size : ℕ) → 0 < size → spot_of code size < size
unfolding spot_of
spot-low code size h = mod-lt (code + code / numbers * stride) h

pub and-true : (a b : Bool) → a ≡ true → b ≡ true → (a && b) ≡ true
and-true a b p q = rw (p, q)

pub and_no : (a b : Bool) → (a ≡ true → b ≡ true → ⊥) → (a && b) ≡ false
and_no true true h = absurd (h refl refl)
and_no true false h = refl
and_no false b h = refl

pub both : (a b : Bool) → (a && b) ≡ true → (a ≡ true) × (b ≡ true)
both true b e = (refl, e)
both false b e = absurd (true≢false (sym e))

-- ---- rows by a code

pub code-chain : {work : List ℕ} {x : Index} {code_of : ℕ → ℕ} {n : ℕ} → 0 < x.size
    → Coded work x code_of n → (code : ℕ)
    → CodeChain work (x.heads + spot_of code x.size) x.codes x.nexts x.ring n code
    code_of
code-chain {x = x} {code_of = code_of} sized h code =
    record {
      test = in_bucket (λ i. spot_of (code_of i) x.size) (spot_of code x.size);
      threaded = h.chain.thread (spot_of code x.size) (spot-low code x.size sized);
      all = λ i l e. eq-eqb (spot_of (code_of i) x.size) (spot_of code x.size)
          (ap (λ c. spot_of c x.size) e);
      cells = h.cells;
    }

pub found : {work : List ℕ} {x : Index} {n low code r : ℕ} → 0 < x.size
    → Newest work (x.heads + spot_of code x.size) x.codes x.nexts x.ring n low code r
    → Found work x n low code r
unfolding found_in
found {code = code} sized f =
    record {
      is = f.is;
      within = f.within;
      above = f.above;
      newest = λ code_of h near. f.newest code_of (code-chain sized h code) near;
    }

-- ---- rows by a key and a number

module _ (key_of : ℕ → ℕ) (i : ℕ) where
  pub number-most : number_at key_of i ≤ i
  unfolding number_at
  number-most = tally-most (has_key key_of (key_of i)) i

  module _ (few : i < numbers) where
    pub code-key : code_at key_of i / numbers ≡ key_of i
    unfolding code_at
    code-key = let m = number-most in omega arith

    pub code-number : code_at key_of i % numbers ≡ number_at key_of i
    unfolding code_at
    code-number = let m = number-most in omega arith

    pub code-test : (key number : ℕ) → number < numbers
        → has_code (code_at key_of) (key * numbers + number) i ≡ is_numbered key_of key number i
    unfolding is_numbered
    code-test key number h =
        let o : code_at key_of i / numbers ≡ key_of i = code-key in
        let m : code_at key_of i % numbers ≡ number_at key_of i = code-number in
        split (eqb (code_at key_of i) (key * numbers + number))
        (λ y.
        let z : code_at key_of i ≡ key * numbers + number = eqb-true _ _ y in
        y ∙ sym (and-true _ _ (eq-eqb key (key_of i) (omega arith))
        (eq-eqb (number_at key_of i) number (omega arith))))
        (λ y.
        y ∙ sym (and_no (eqb key (key_of i)) (eqb (number_at key_of i) number) (λ a b.
        let p : key ≡ key_of i = eqb-true _ _ a in
        let q : number_at key_of i ≡ number = eqb-true _ _ b in
        let z : code_at key_of i ≡ key * numbers + number = omega arith in
        eqb-false (code_at key_of i) (key * numbers + number) y z)))

    pub number-large : (key number : ℕ) → numbers ≤ number → is_numbered key_of key number i ≡ false
    unfolding is_numbered
    number-large key number h =
        and_no (eqb key (key_of i)) (eqb (number_at key_of i) number) (λ a b.
        let q : number_at key_of i ≡ number = eqb-true _ _ b in
        omega (arith, number-most))

-- The row that has key and number.
pub numbered_is : (key_of : ℕ → ℕ) (key number g : ℕ) → is_numbered key_of key number g ≡ true
    → (key_of g ≡ key) × (tally (has_key key_of key) g ≡ number)
unfolding is_numbered number_at
numbered_is key_of key number g t =
    let (a, b) = both (eqb key (key_of g)) (eqb (tally (has_key key_of (key_of g)) g) number) t in
    let o : key_of g ≡ key = sym (eqb-true key (key_of g) a) in
    let m : tally (has_key key_of (key_of g)) g ≡ number =
    eqb-true (tally (has_key key_of (key_of g)) g) number b in
    (o, ap (λ k. tally (has_key key_of k) g) (sym o) ∙ m)

pub is-numbered : (key_of : ℕ → ℕ) (key number g : ℕ) → key_of g ≡ key
    → tally (has_key key_of key) g ≡ number → is_numbered key_of key number g ≡ true
unfolding is_numbered number_at
is-numbered key_of key number g o m =
    and-true (eqb key (key_of g)) (eqb (tally (has_key key_of (key_of g)) g) number)
    (eq-eqb key (key_of g) (sym o))
    (eq-eqb (tally (has_key key_of (key_of g)) g) number (ap (λ k. tally (has_key key_of k) g) o ∙ m))

pub nth-found : {work : List ℕ} {x : Index} {key number n low r : ℕ} → number < numbers
    → Found work x n low (key * numbers + number) r → NthFound work x key number n low r
unfolding nth_in
nth-found {key = key} {number = number} {n = n} {low = low} l f =
    record {
      is = f.is ∙ sym (rw (lt-ltb number numbers l));
      within = f.within;
      above = f.above;
      newest = λ counts keys key_of h near.
          f.newest (code_at key_of) h.coded near
          ∙ ap (since low) (last-same (has_code (code_at key_of) (key * numbers + number))
          (is_numbered key_of key number) n
          (λ i m. code-test key_of i (omega (arith, h.few)) key number l));
    }

pub nth-none : {work : List ℕ} {x : Index} {key number n low : ℕ} → numbers ≤ number
    → NthFound work x key number n low 0
unfolding nth_in
nth-none {key = key} {number = number} {n = n} {low = low} l =
    record {
      is = sym (rw (le-ltb number numbers l));
      within = omega arith;
      above = λ h. absurd (omega arith);
      newest = λ counts keys key_of h near.
          let z : last_that (is_numbered key_of key number) n ≡ 0 =
          last-zero (is_numbered key_of key number) n
          (λ i m. number-large key_of i (omega (arith, h.few)) key number l) in
          sym (since-out low (last_that (is_numbered key_of key number) n) (omega arith));
    }

-- ---- counts

pub count-is : {work : List ℕ} {x : Index} {counts keys : ℕ} {key_of : ℕ → ℕ} {n : ℕ}
    → Numbered work x counts keys key_of n → (k : ℕ) → k < keys
    → count_in work counts k ≡ tally (has_key key_of k) n
unfolding count_in
count-is {work} {counts = counts} {key_of = key_of} {n = n} h k l =
    let e : get_or work (counts + k) 0 ≡ tally (has_key key_of k) n = h.counted k l in
    below_in (numbers + 1) (get_or work (counts + k) 0)
    (omega (arith, tally-most (has_key key_of k) n, h.few)) ∙ e

pub counted : {work : List ℕ} {counts key r : ℕ}
    → r ≡ below (numbers + 1) (get_or work (counts + key) 0) → Counted work counts key r
unfolding count_in
counted {work} {counts} {key} e =
    record {
      is = e;
      within = omega (arith, below_less (numbers + 1) (get_or work (counts + key) 0) (omega arith));
      means = λ x keys key_of n h l. e ∙ count-is h key l;
    }
