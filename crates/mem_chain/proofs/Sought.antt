-- The turns of `seek`, for every test that its closure computes; and what it finds, by the turns of
-- a search.
use Prim.Native.Nat.{ℕ, zero, suc, ◌+◌, ◌-◌, ◌%◌, ◌≤◌, ◌<◌}
use native.Mathlib.Omega.{arith}
use mathlib.Core.Path.{◌≡◌, refl, sym, ap, subst, ◌∙◌}
use mathlib.Core.Bool.{Bool, true, false}
use mathlib.Core.List.{List}
use lib.ListN.{get_or}
use lib.Dec.{ltb}
use borrow.Author.Tests.{ltb-true, ltb-false}
use Rattle.mem_chain.specs.Chain.{below, walked, walked_from}
use Rattle.mem_chain.proofs.Last.{split, below_less}
use Rattle.mem_chain.proofs.Left.{walked_same, walked-out, walked_here, walked_on}
use Rattle.mem_chain.proofs.Left.{left_end, left_here, left-on}

-- Before a turn at c: the walk that is left is the whole one's.
pub record Seeking (work : List ℕ) (head nexts ring n low : ℕ) (agrees : (ℕ → Bool) → Type 0)
    (c : ℕ) : Type 0 where
  pub left : (test : ℕ → Bool) → agrees test
      → walked work nexts ring low test c c ≡ walked_from work head nexts ring n low test
  pub inside : c ≤ n

module _ {work : List ℕ} {head nexts ring n low : ℕ} {agrees : (ℕ → Bool) → Type 0} where
  pub seek-start : (c : ℕ) → c ≡ below (n + 1) (get_or work head 0)
      → Seeking work head nexts ring n low agrees c
  unfolding walked_from
  seek-start c e =
      let b : below (n + 1) (get_or work head 0) ≤ n =
      omega (arith, below_less (n + 1) (get_or work head 0) (omega arith)) in
      record {
        left = λ test a. walked_same work nexts ring low test c n c (omega arith) (omega arith)
            ∙ ap (walked work nexts ring low test n) e;
        inside = omega arith;
      }

  module _ {c : ℕ} (t : Seeking work head nexts ring n low agrees c) where
    pub seek-end : c ≤ low → (test : ℕ → Bool) → agrees test
        → 0 ≡ walked_from work head nexts ring n low test
    seek-end l test a = sym (left_end work nexts ring low test c l) ∙ t.left test a

    module _ (up : low < c) where
      pub seek-here : ((test : ℕ → Bool) → agrees test → true ≡ test ((c - 1) % ring))
          → (test : ℕ → Bool) → agrees test
          → suc (c - 1) ≡ walked_from work head nexts ring n low test
      seek-here h test a =
          let z : suc (c - 1) ≡ c = omega arith in
          z ∙ sym (left_here work nexts ring low test c up (sym (h test a))) ∙ t.left test a

      pub seek-next : ((test : ℕ → Bool) → agrees test → false ≡ test ((c - 1) % ring)) → (d : ℕ)
          → d ≡ below c (get_or work (nexts + (c - 1) % ring) 0)
          → Seeking work head nexts ring n low agrees d
      seek-next h d e =
          record {
            left = λ test a. left-on work nexts ring low test c d up (sym (h test a)) e ∙ t.left test a;
            inside =
                omega (
                  arith,
                  t.inside,
                  below_less c (get_or work (nexts + (c - 1) % ring) 0)
                      (omega arith),
                );
          }

      pub seek-less : (d : ℕ) → d ≡ below c (get_or work (nexts + (c - 1) % ring) 0) → d < c
      seek-less d e =
          omega (arith, below_less c (get_or work (nexts + (c - 1) % ring) 0) (omega arith))

-- What holds of the row at which the walk ends, by what holds before each turn.
module _ (work : List ℕ) (head nexts ring n low : ℕ) (has : ℕ → Bool) (Good Before : ℕ → Type 0)
    (start : (c : ℕ) → c ≡ below (n + 1) (get_or work head 0) → Before c)
    (end : (c : ℕ) → Before c → c ≤ low → Good 0)
    (here : (c : ℕ) → Before c → low < c → true ≡ has ((c - 1) % ring) → Good (suc (c - 1)))
    (next : (c : ℕ) → Before c → low < c → false ≡ has ((c - 1) % ring) → (d : ℕ)
    → d ≡ below c (get_or work (nexts + (c - 1) % ring) 0) → Before d) where
  from-here : (k c : ℕ) → c ≤ k → Before c → Good (walked work nexts ring low has k c)
  from-here zero c m b =
      subst Good (sym (walked-out work nexts ring low has 0 c (omega arith))) (end c b (omega arith))
  from-here (suc k) c m b =
      split (ltb low c)
      (λ e.
      let up : low < c = ltb-true low c e in
      let d : ℕ = below c (get_or work (nexts + (c - 1) % ring) 0) in
      let less : d < c = below_less c (get_or work (nexts + (c - 1) % ring) 0) (omega arith) in
      let z : suc (c - 1) ≡ c = omega arith in
      split (has ((c - 1) % ring))
      (λ t. subst Good (z ∙ sym (walked_here work nexts ring low has k c up t)) (here c b up (sym t)))
      (λ t.
      subst Good (sym (walked_on work nexts ring low has k c up t))
      (from-here k d (omega arith) (next c b up (sym t) d refl))))
      (λ e.
      let l : c ≤ low = ltb-false low c e in
      subst Good (sym (walked-out work nexts ring low has (suc k) c l)) (end c b l))

  pub sought-by : {r : ℕ} → r ≡ walked_from work head nexts ring n low has → Good r
  unfolding walked_from
  sought-by is =
      let c : ℕ = below (n + 1) (get_or work head 0) in
      subst Good (sym is)
      (from-here n c (omega (arith, below_less (n + 1) (get_or work head 0) (omega arith)))
      (start c refl))
