-- Global numbers and insertion numbers: without a bound they are the same; with a capacity a number
-- is the insertion number modulo the capacity.
use Prim.Native.Nat.{ℕ, zero, suc, ◌+◌, ◌-◌, ◌*◌, ◌/◌, ◌%◌, ◌≤◌, ◌<◌}
use native.Mathlib.Omega.{arith}
use native.Mathlib.Nat.{mod-lt, div-add-mod, mod-eq_of_lt, mul-add-mod_self_left, add-mod_right}
use native.Mathlib.Nat.{zero-mod, suc-mod, mod_self}
use mathlib.Core.Path.{◌≡◌, refl, sym, ap, subst, ◌∙◌}
use mathlib.Core.Option.{Option, none, some}
use lib.Dec.{eqb, ltb}
use borrow.Author.Tests.{ltb-true, ltb-false, eqb-true, eqb-false}
use Rattle.mem_chain.proofs.Last.{split}
use Rattle.mem_chain.proofs.More.{ring-apart}
use Rattle.spec_exi.specs.Tables.{replaced, global_id}
use Rattle.mem_values.specs.Window.{insertion, Ordered, newest_in}
use Rattle.mem_values.specs.Window.{Capacity, unbounded, bounded, closed}

pub insertion-new : (n g new i : ℕ) → i < new → insertion n g new i ≡ n - new + i
unfolding insertion
insertion-new n g new i h =
    split (ltb i new) (λ e. rw e) (λ e. absurd (omega (arith, ltb-false i new e)))

pub insertion-old : (n g new i : ℕ) → new ≤ i → insertion n g new i ≡ g + (i - new)
unfolding insertion
insertion-old n g new i h =
    split (ltb i new) (λ e. absurd (omega (arith, ltb-true i new e))) (λ e. rw e)

ordered-all : (n : ℕ) → Ordered n 0 n (λ v. v)
ordered-all n =
    record {
      have = omega arith;
      few = omega arith;
      into = λ i h. omega (arith, insertion-new n 0 n i (omega arith));
      below = λ i h. omega (arith, insertion-new n 0 n i (omega arith));
      number = λ v l h. omega arith;
      back = λ v l h. insertion-new n 0 n v h ∙ (omega arith);
      once = λ i h. insertion-new n 0 n i (omega arith) ∙ (omega arith);
    }

module _ (c n : ℕ) (pos : 0 < c) where
  rest : n % c < c
  rest = mod-lt n pos

  whole : c * (n / c) + n % c ≡ n
  whole = div-add-mod n c

  low-rest : n % c ≤ n - (n - c)
  low-rest = omega (arith, rest, whole)

  old-whole : (i : ℕ) → n % c ≤ i → i < n - (n - c) → c ≤ n
  old-whole i l h =
      split (ltb n c)
      (λ e. absurd (omega (arith, mod-eq_of_lt (ltb-true n c e))))
      (λ e. ltb-false n c e)

  into : (i : ℕ) → i < n - (n - c)
      → (n - c ≤ insertion n (n - c) (n % c) i) × (insertion n (n - c) (n % c) i < n)
  into i h =
      split (ltb i (n % c))
      (λ e. let z = insertion-new n (n - c) (n % c) i (ltb-true i (n % c) e) in let l =
      ltb-true i (n % c) e in (omega (arith, rest, whole), omega (arith, rest, whole)))
      (λ e. let z = insertion-old n (n - c) (n % c) i (ltb-false i (n % c) e) in let l =
      ltb-false i (n % c) e in (omega (arith, rest, whole), omega (arith, rest, whole)))

  once : (i : ℕ) → i < n - (n - c) → insertion n (n - c) (n % c) i % c ≡ i
  once i h =
      let same : (c * (n / c) + i) % c ≡ i = mul-add-mod_self_left c (n / c) i
      ∙ mod-eq_of_lt (omega arith) in
      split (ltb i (n % c))
      (λ e.
      let l : i < n % c = ltb-true i (n % c) e in
      let z : insertion n (n - c) (n % c) i ≡ c * (n / c) + i = insertion-new n (n - c) (n % c) i l
      ∙ (omega (arith, whole)) in
      ap (λ k. k % c) z ∙ same)
      (λ e.
      let l : n % c ≤ i = ltb-false i (n % c) e in
      let m : c ≤ n = old-whole i l h in
      let z : insertion n (n - c) (n % c) i + c ≡ c * (n / c) + i =
      omega (arith, insertion-old n (n - c) (n % c) i l, whole) in
      sym (add-mod_right (insertion n (n - c) (n % c) i) c) ∙ ap (λ k. k % c) z ∙ same)

  number : (v : ℕ) → n - c ≤ v → v < n → v % c < n - (n - c)
  number v l h =
      split (ltb n c)
      (λ e. let m : n < c = ltb-true n c e in let k : v < c = omega arith in
      omega (arith, mod-eq_of_lt k))
      (λ e. omega (arith, ltb-false n c e, mod-lt v pos))

  back : (v : ℕ) → n - c ≤ v → v < n → insertion n (n - c) (n % c) (v % c) ≡ v
  back v l h =
      let k : v % c < n - (n - c) = number v l h in
      let (a, b) = into (v % c) k in
      let e : insertion n (n - c) (n % c) (v % c) % c ≡ v % c = once (v % c) k in
      split (ltb (insertion n (n - c) (n % c) (v % c)) v)
      (λ t. absurd
      (ring-apart c (insertion n (n - c) (n % c) (v % c)) v (ltb-true _ _ t) (omega arith) e))
      (λ t.
      split (ltb v (insertion n (n - c) (n % c) (v % c)))
      (λ u. absurd
      (ring-apart c v (insertion n (n - c) (n % c) (v % c)) (ltb-true _ _ u) (omega arith) (sym e)))
      (λ u.
      let p : v ≤ insertion n (n - c) (n % c) (v % c) = ltb-false _ _ t in
      let q : insertion n (n - c) (n % c) (v % c) ≤ v = ltb-false _ _ u in
      omega arith))

  pub ordered-ring : Ordered n (n - c) (n % c) (λ v. v % c)
  ordered-ring =
      record {
        have = omega arith;
        few = low-rest;
        into = λ i h. (into i h).0;
        below = λ i h. (into i h).1;
        number = number;
        back = back;
        once = once;
      }

-- ---- EXI's exi_global_id

-- Under a capacity it is the number of values modulo the capacity.
pub global-id : (c : ℕ) → 0 < c → (n : ℕ) → global_id (some c) n ≡ n % c
unfolding global_id
global-id c pos zero = sym (zero-mod c)
global-id c pos (suc n) =
    let r : global_id (some c) n ≡ n % c = global-id c pos n in
    let m : n % c < c = mod-lt n pos in
    split (eqb (suc (global_id (some c) n)) c)
    (λ e.
    let z : suc (n % c) ≡ c = ap suc (sym r) ∙ eqb-true (suc (global_id (some c) n)) c e in
    rw e (sym (suc-mod n c ∙ ap (λ k. k % c) z ∙ mod_self c)))
    (λ e.
    let l : suc (n % c) < c = omega (arith, eqb-false (suc (global_id (some c) n)) c e, r) in
    rw e (ap suc r ∙ sym (suc-mod n c ∙ mod-eq_of_lt l)))

-- The same numbers, said otherwise.
ordered-as : {n g new : ℕ} {f : ℕ → ℕ} (h : ℕ → ℕ) → ((v : ℕ) → h v ≡ f v)
    → Ordered n g new f → Ordered n g new h
ordered-as {n} {g} {new} h e o =
    record {
      have = o.have;
      few = o.few;
      into = o.into;
      below = o.below;
      number = λ v l k. subst (λ i. i < n - g) (sym (e v)) (o.number v l k);
      back = λ v l k. ap (insertion n g new) (e v) ∙ o.back v l k;
      once = λ i k. e (insertion n g new i) ∙ o.once i k;
    }

pub ordered : {cap : Option ℕ} {n : ℕ} → Capacity cap n
    → Ordered n (replaced cap n) (global_id cap n) (global_id cap)
unfolding replaced global_id
ordered {n = n} unbounded = ordered-all n
ordered {n = n} (bounded {c} pos) =
    subst (λ k. Ordered n (n - c) k (global_id (some c))) (sym (global-id c pos n))
    (ordered-as (global_id (some c)) (global-id c pos) (ordered-ring c n pos))
ordered closed =
    record {
      have = omega arith;
      few = omega arith;
      into = λ i h. absurd (omega arith);
      below = λ i h. absurd (omega arith);
      number = λ v l h. absurd (omega arith);
      back = λ v l h. absurd (omega arith);
      once = λ i h. absurd (omega arith);
    }

-- ---- the numbers of `replaced` and `newest_numbers`

newest-ring : (c n : ℕ) → 0 < c → newest_in (some c) n ≡ n % c
unfolding newest_in
newest-ring zero n pos = absurd (omega arith)
newest-ring (suc c) n pos = refl

pub newest-is : {cap : Option ℕ} {n : ℕ} → Capacity cap n → newest_in cap n ≡ global_id cap n
unfolding newest_in global_id
newest-is unbounded = refl
newest-is {n = n} (bounded {c} pos) = newest-ring c n pos ∙ sym (global-id c pos n)
newest-is closed = refl

pub newest-few : (cap : Option ℕ) (n : ℕ) → newest_in cap n ≤ n - replaced cap n
unfolding newest_in replaced
newest-few none n = omega arith
newest-few (some zero) n = omega arith
newest-few (some (suc c)) n = low-rest (suc c) n (omega arith)

pub replaced-few : (cap : Option ℕ) (n : ℕ) → replaced cap n ≤ n
unfolding replaced
replaced-few none n = omega arith
replaced-few (some c) n = omega arith
