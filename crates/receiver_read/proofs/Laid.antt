-- Cells after other cells, and zeros after them.
use mathlib.Core.Path.{◌≡◌, sym, ap, ◌∙◌}
use mathlib.Core.List.{List, ◌++◌}
use Prim.Native.Nat.{ℕ, ◌+◌, ◌-◌}
use native.Mathlib.Omega.{arith}
use lib.ListN.{length, get_or, take, drop, replicate, length-append}
use lib.Seq.{get_or-append-add, take_at, drop_at, drop-drop}
use Rattle.read_literal.specs.Literal.{laid_at, ZeroFrom}
use Rattle.reader.proofs.read_body.Cells.{drop-zeros}
use Rattle.reader.proofs.Start.{zeros-at}

-- Cells b are laid after a, over zeros.
module _ (l a b : List ℕ) (n : ℕ) (size : length a ≡ n)
    (is : l ≡ a ++ replicate (length l - length a) 0) where
  abbrev rest : List ℕ
  rest = replicate (length l - length a) 0

  over_zeros : drop (n + length b) l ≡ replicate (length l - length (a ++ b)) 0
  over_zeros =
      let k : length l - length a - length b ≡ length l - length (a ++ b) =
      omega (arith, length-append a b) in
      sym (drop-drop (length b) n l)
      ∙ ap (λ (m : List ℕ). drop (length b) (drop n m)) is
      ∙ ap (drop (length b)) (drop_at a rest n size)
      ∙ drop-zeros (length b) (length l - length a)
      ∙ ap (λ (m : ℕ). replicate m 0) k

  pub laid_next : laid_at l n b ≡ a ++ b ++ replicate (length l - length (a ++ b)) 0
  unfolding laid_at
  laid_next =
      ap (λ (m : List ℕ). take n m ++ b ++ drop (n + length b) l) is
      ∙ ap (λ (m : List ℕ). m ++ b ++ drop (n + length b) l) (take_at a rest n size)
      ∙ ap (λ (m : List ℕ). a ++ b ++ m) over_zeros

-- After something there are zeros alone.
pub zero-after : (l front : List ℕ) (n k : ℕ) → l ≡ front ++ replicate k 0 → length front ≡ n
    → ZeroFrom l n
zero-after l front n k e size =
    record {
      zero = λ i h.
          let j : i ≡ length front + (i - n) = omega (arith, size) in
          ap (λ (m : List ℕ). get_or m i 0) e
          ∙ ap (λ m. get_or (front ++ replicate k 0) m 0) j
          ∙ get_or-append-add front (replicate k 0) (i - n) 0 ∙ zeros-at k (i - n);
    }
