-- The walk along a chain, turn by turn, on any memory.
use Prim.Native.Nat.{ℕ, zero, suc, ◌+◌, ◌-◌, ◌%◌, ◌≤◌, ◌<◌}
use native.Mathlib.Omega.{arith}
use mathlib.Core.Path.{◌≡◌, refl, sym, ap, ◌∙◌}
use mathlib.Core.Bool.{Bool, true, false}
use mathlib.Core.List.{List}
use lib.ListN.{get_or}
use lib.Dec.{ltb}
use borrow.Author.Tests.{ltb-true, ltb-false, lt-ltb, le-ltb}
use Rattle.mem_chain.specs.Chain.{below, walked}
use Rattle.mem_chain.proofs.Last.{split, below_less}

module _ (work : List ℕ) (nexts ring low : ℕ) (has : ℕ → Bool) where
  pub walked-out : (k c : ℕ) → c ≤ low → walked work nexts ring low has k c ≡ 0
  unfolding walked
  walked-out zero c h = refl
  walked-out (suc k) c h = rw (le-ltb low c h)

  pub walked_here : (k c : ℕ) → low < c → has ((c - 1) % ring) ≡ true
      → walked work nexts ring low has (suc k) c ≡ c
  unfolding walked
  walked_here k c h t = rw (lt-ltb low c h, t)

  pub walked_on : (k c : ℕ) → low < c → has ((c - 1) % ring) ≡ false
      → walked work nexts ring low has (suc k) c ≡ walked work nexts ring low has k
      (below c (get_or work (nexts + (c - 1) % ring) 0))
  unfolding walked
  walked_on k c h t = rw (lt-ltb low c h, t)

  -- More turns than rows make no difference.
  pub walked_same : (k j c : ℕ) → c ≤ k → c ≤ j → walked work nexts ring low has k c
      ≡ walked work nexts ring low has j c
  walked_same zero j c p q = walked-out 0 c (omega arith) ∙ sym (walked-out j c (omega arith))
  walked_same (suc k) zero c p q = walked-out (suc k) c (omega arith)
      ∙ sym (walked-out 0 c (omega arith))
  walked_same (suc k) (suc j) c p q =
      let on = walked_same k j (below c (get_or work (nexts + (c - 1) % ring) 0)) in
      split (ltb low c)
      (λ e.
      let l : low < c = ltb-true low c e in
      let d : below c (get_or work (nexts + (c - 1) % ring) 0) < c =
      below_less c (get_or work (nexts + (c - 1) % ring) 0) (omega arith) in
      split (has ((c - 1) % ring))
      (λ t. walked_here k c l t ∙ sym (walked_here j c l t))
      (λ t. walked_on k c l t ∙ on (omega arith) (omega arith) ∙ sym (walked_on j c l t)))
      (λ e. let l : c ≤ low = ltb-false low c e in
      walked-out (suc k) c l ∙ sym (walked-out (suc j) c l))

  pub left_end : (c : ℕ) → c ≤ low → walked work nexts ring low has c c ≡ 0
  left_end c h = walked-out c c h

  pub left_here : (c : ℕ) → low < c → has ((c - 1) % ring) ≡ true
      → walked work nexts ring low has c c ≡ c
  left_here zero h t = absurd (omega arith)
  left_here (suc k) h t = walked_here k (suc k) h t

  pub left-on : (c d : ℕ) → low < c → has ((c - 1) % ring) ≡ false
      → d ≡ below c (get_or work (nexts + (c - 1) % ring) 0)
      → walked work nexts ring low has d d ≡ walked work nexts ring low has c c
  left-on zero d h t e = absurd (omega arith)
  left-on (suc k) d h t e =
      let l : d < suc k =
      omega (arith, below_less (suc k) (get_or work (nexts + (suc k - 1) % ring) 0) (omega arith)) in
      walked_same d k d (omega arith) (omega arith) ∙ ap (walked work nexts ring low has k) e
      ∙ sym (walked_on k (suc k) h t)
