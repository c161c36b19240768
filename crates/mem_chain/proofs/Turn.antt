-- The turns of a search along a chain: a bound on any memory, and the walk where a premise P says
-- what memory means.
use Prim.Native.Nat.{ℕ, suc, ◌+◌, ◌-◌, ◌%◌, ◌≤◌, ◌<◌}
use native.Mathlib.Omega.{arith}
use mathlib.Core.Path.{◌≡◌, subst}
use mathlib.Core.Bool.{Bool, true, false}
use mathlib.Core.List.{List}
use lib.ListN.{get_or}
use Rattle.mem_chain.specs.Chain.{last_that, since, below, Threaded}
use Rattle.mem_chain.proofs.Last.{below_less}
use Rattle.mem_chain.proofs.Walk.{Walking, walk_start, walk_end, walk_here, walk-next}

-- Before a turn at c. The chain and what is sought are known where P holds; what is sought lies in
-- the chain, and the rows from low on in the ring.
pub record Turn (P : Type 0) (work : List ℕ) (head nexts ring n low : ℕ)
    (chain sought : P → ℕ → Bool) (c : ℕ) : Type 0 where
  pub inside : c ≤ n
  pub near : P → n ≤ low + ring
  pub walking : (p : P) → Walking work head nexts ring n (chain p) (sought p) c

-- The newest row from low on that is sought, or none.
pub record Answer (P : Type 0) (n low : ℕ) (sought : P → ℕ → Bool) (r : ℕ) : Type 0 where
  pub within : r ≤ n
  pub above : 0 < r → low < r
  pub newest : (p : P) → r ≡ since low (last_that (sought p) n)

module _ {P : Type 0} {work : List ℕ} {head nexts ring n low : ℕ} {chain sought : P → ℕ → Bool} where
  pub turn-start : (P → n ≤ low + ring) → ((p : P) → Threaded work head nexts ring n (chain p))
      → ((p : P) (i : ℕ) → i < n → sought p i ≡ true → chain p i ≡ true) → (c : ℕ)
      → c ≡ below (n + 1) (get_or work head 0)
      → Turn P work head nexts ring n low chain sought c
  turn-start near threaded wide c e =
      let b : below (n + 1) (get_or work head 0) ≤ n =
      omega (arith, below_less (n + 1) (get_or work head 0) (omega arith)) in
      record {
        inside = omega arith;
        near = near;
        walking = λ p. walk_start (threaded p) (wide p) c e;
      }

  module _ {c : ℕ} (t : Turn P work head nexts ring n low chain sought c) where
    pub turn_end : c ≤ low → Answer P n low sought 0
    turn_end l =
        record {
          within = omega arith;
          above = λ h. absurd (omega arith);
          newest =
              λ p. walk_end (t.walking p) low l;
        }

    module _ (up : low < c) where
      -- The row at c is among the n, and in the ring.
      pub turn-row : c - 1 < n
      turn-row = omega (arith, t.inside)

      pub turn-ring : P → n ≤ c - 1 + ring
      turn-ring p = omega (arith, t.near p)

      pub turn-here : ((p : P) → sought p (c - 1) ≡ true) → Answer P n low sought (suc (c - 1))
      turn-here e =
          subst (Answer P n low sought) (omega arith)
          (record {
            within = t.inside;
            above = λ h. up;
            newest =
                λ p. walk_here (t.walking p) low (c - 1) (omega arith) up (e p);
          })

      pub turn-next : ((p : P) → sought p (c - 1) ≡ false) → (d : ℕ)
          → d ≡ below c (get_or work (nexts + (c - 1) % ring) 0)
          → Turn P work head nexts ring n low chain sought d
      turn-next f d e =
          record {
            inside =
                omega (
                  arith,
                  t.inside,
                  below_less c (get_or work (nexts + (c - 1) % ring) 0)
                      (omega arith),
                );
            near = t.near;
            walking =
                λ p. walk-next (t.walking p) low (c - 1) (omega arith) up (t.near p) d (f p) e;
          }
