-- Walking a chain passes no row that has what is sought.
use Prim.Native.Nat.{ℕ, suc, ◌+◌, ◌%◌, ◌≤◌, ◌<◌}
use native.Mathlib.Omega.{arith}
use mathlib.Core.Path.{◌≡◌, refl, sym, ap, subst, ◌∙◌}
use mathlib.Core.Bool.{Bool, true, false}
use mathlib.Core.List.{List}
use lib.ListN.{get_or}
use lib.Dec.{ltb}
use borrow.Author.Tests.{ltb-true, ltb-false}
use Rattle.mem_chain.specs.Chain.{last_that, since, below, Threaded}
use Rattle.mem_chain.proofs.Last.{split, last-here, last_on, last_more, last-most, last-is}
use Rattle.mem_chain.proofs.Last.{last_none, last-zero, last-below}
use Rattle.mem_chain.proofs.Last.{since-in, since-out, below_in, below_less}

-- Before a turn: no row from c on is sought, and c is a row of the chain, unless none of the chain
-- is below c. (Then c may be any row: a head or link that is no row of its chain led there.)
pub record Walking (work : List ℕ) (head nexts ring n : ℕ) (chain sought : ℕ → Bool) (c : ℕ) : Type
    0 where
  pub threaded : Threaded work head nexts ring n chain
  pub wide : (i : ℕ) → i < n → sought i ≡ true → chain i ≡ true
  pub inside : c ≤ n
  pub member : (i : ℕ) → c ≡ suc i → 0 < last_that chain c → chain i ≡ true
  pub same : last_that sought c ≡ last_that sought n

module _ {work : List ℕ} {head nexts ring n : ℕ} {chain sought : ℕ → Bool}
    (th : Threaded work head nexts ring n chain)
    (wide : (i : ℕ) → i < n → sought i ≡ true → chain i ≡ true) where
  -- None of the chain is below c, so none that is sought.
  none_left : (c : ℕ) → c ≤ n → last_that chain c ≡ 0 → last_that sought c ≡ 0
  unfolding last_that
  none_left c h e =
      sym (last-below chain sought c (λ i l. wide i (omega arith))) ∙ ap (last_that sought) e

  walk_from : (c k : ℕ) → c ≤ k → k ≤ n → last_that sought k ≡ last_that sought n
      → (0 < last_that chain k → c ≡ last_that chain k)
      → Walking work head nexts ring n chain sought c
  walk_from c k low h s e =
      split (ltb 0 (last_that chain k))
      (λ y.
      let z : c ≡ last_that chain k = e (ltb-true 0 (last_that chain k) y) in
      record {
        threaded = th;
        wide = wide;
        inside = omega arith;
        member = λ i x _. last-is chain k i (sym z ∙ x);
        same = ap (last_that sought) z ∙ last-below chain sought k (λ i l. wide i (omega arith)) ∙ s;
      })
      (λ y.
      let z : last_that chain k ≡ 0 = omega (arith, ltb-false 0 (last_that chain k) y) in
      let none : last_that chain c ≡ 0 =
      last-zero chain c (λ j l. last_none chain k j (omega arith) (omega arith)) in
      record {
        threaded = th;
        wide = wide;
        inside = omega arith;
        member = λ i x p. absurd (omega arith);
        same = none_left c (omega arith) none ∙ sym (none_left k h z) ∙ s;
      })

  pub walk_start : (c : ℕ) → c ≡ below (n + 1) (get_or work head 0)
      → Walking work head nexts ring n chain sought c
  walk_start c e =
      walk_from c n (omega (arith, below_less (n + 1) (get_or work head 0) (omega arith)))
      (omega arith) refl
      (λ s.
      let f : get_or work head 0 ≡ last_that chain n = th.first s in
      e ∙ below_in (n + 1) (get_or work head 0) (omega (arith, last-most chain n)) ∙ f)

module _ {work : List ℕ} {head nexts ring n : ℕ} {chain sought : ℕ → Bool} {c : ℕ}
    (w : Walking work head nexts ring n chain sought c) where
  -- Where a row that is sought is left, c is a row of the chain.
  pub walk-member : (i : ℕ) → c ≡ suc i → 0 < last_that sought c → chain i ≡ true
  walk-member i e s =
      split (ltb 0 (last_that chain c))
      (λ y. w.member i e (ltb-true 0 (last_that chain c) y))
      (λ y.
      absurd (omega (
        arith,
        none_left w.threaded w.wide c w.inside
            (omega (arith, ltb-false 0 (last_that chain c) y)),
      )))

module _ {work : List ℕ} {head nexts ring n : ℕ} {chain sought : ℕ → Bool} {c : ℕ}
    (w : Walking work head nexts ring n chain sought c) (low : ℕ) where
  pub walk_end : c ≤ low → 0 ≡ since low (last_that sought n)
  walk_end h = sym (since-out low (last_that sought n) (omega (arith, w.same, last-most sought c)))

  module _ (r : ℕ) (z : c ≡ suc r) (up : low < c) where
    pub walk_here : sought r ≡ true → c ≡ since low (last_that sought n)
    walk_here e =
        let s : last_that sought n ≡ c = sym w.same ∙ ap (last_that sought) z
        ∙ last-here sought r e ∙ sym z in
        sym (since-in low (last_that sought n) (omega (arith, s)) ∙ s)

    pub walk-next : n ≤ low + ring → (d : ℕ) → sought r ≡ false
        → d ≡ below c (get_or work (nexts + r % ring) 0)
        → Walking work head nexts ring n chain sought d
    walk-next b d f e =
        walk_from w.threaded w.wide d r
        (omega (arith, below_less c (get_or work (nexts + r % ring) 0) (omega arith)))
        (omega (arith, w.inside))
        (sym (last_on sought r f) ∙ ap (last_that sought) (sym z) ∙ w.same)
        (λ s.
        let m : last_that chain r ≤ r = last-most chain r in
        let l : get_or work (nexts + r % ring) 0 ≡ last_that chain r =
        w.threaded.next r (omega (arith, w.inside)) (omega arith)
        (w.member r z (subst (λ k. 0 < last_that chain k) (sym z) (last_more chain r s))) s in
        e ∙ below_in c (get_or work (nexts + r % ring) 0) (omega arith) ∙ l)
