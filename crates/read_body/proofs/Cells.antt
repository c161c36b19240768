-- Cells that hold something, and zeros behind it.
use mathlib.Core.Path.{◌≡◌, sym, ap, ◌∙◌}
use mathlib.Core.List.{List, ◌++◌, append_assoc}
use Prim.Native.Nat.{ℕ, zero, suc, ◌+◌, ◌-◌, ◌≤◌}
use native.Mathlib.Omega.{arith}
use lib.ListN.{length, take, drop, replicate, length-append, length-replicate}
use lib.ListN.{replicate-append-replicate}
use lib.Seq.{length-take-le, take_at}
use Rattle.text.specs.Text.{Text}
use Rattle.spec_exi.specs.Sizes.{max_store}
use Rattle.read_literal.specs.Literal.{laid_at, ZeroFrom}
use Rattle.read_literal.proofs.Store.{zero-drop}
use Rattle.read_run.specs.Run.{TextLaid}

pub drop-zeros : (k n : ℕ) → drop {A = ℕ} k (replicate n 0) ≡ replicate (n - k) 0
drop-zeros zero n = let e : n - 0 ≡ n = omega arith in rw e
drop-zeros (suc k) zero = let e : 0 - suc k ≡ 0 = omega arith in rw e
drop-zeros (suc k) (suc n) = let e : suc n - suc k ≡ n - k = omega arith in rw e (drop-zeros k n)

-- Cells at the beginning of zeros.
pub laid-first : (events cells : List ℕ) → events ≡ replicate (length events) 0
    → laid_at events 0 cells ≡ cells ++ replicate (length events - length cells) 0
unfolding laid_at
laid-first events cells e =
    let n : 0 + length cells ≡ length cells = omega arith in
    rw n
    (ap (λ (l : List ℕ). cells ++ l)
    (ap (drop (length cells)) e ∙ drop-zeros (length cells) (length events)))

-- A store that grows, and zeros behind it.
pub laid-store : (text text' : List ℕ) (stored now : ℕ) → max_store ≤ length text
    → ZeroFrom text stored → TextLaid text stored text' now
    → text' ≡ take now text' ++ replicate (length text - now) 0
unfolding laid_at
laid-store text text' stored now room z h =
    let x : Text = h.x in
    let k : ℕ = h.cleared in
    let front : List ℕ = take stored text ++ x in
    let m : ℕ = length text - (now + k) in
    let long : stored + length (x ++ replicate k 0) ≡ now + k =
    omega (arith, length-append x (replicate k 0), length-replicate {A = ℕ} k 0, h.grows) in
    let behind : drop (now + k) text ≡ replicate m 0 =
    zero-drop text (now + k)
    (record { zero = λ i l. z.zero i (omega (arith, h.grows)) }) in
    let sum : k + m ≡ length text - now = omega (arith, h.room) in
    let is : text' ≡ front ++ replicate (length text - now) 0 =
    h.is
    ∙ ap (λ i. take stored text ++ (x ++ replicate k 0) ++ drop i text) long
    ∙ ap (λ (l : List ℕ). take stored text ++ (x ++ replicate k 0) ++ l) behind
    ∙ ap (λ (l : List ℕ). l ++ replicate m 0)
    (sym (append_assoc (take stored text) x (replicate k 0)))
    ∙ append_assoc front (replicate k 0) (replicate m 0)
    ∙ ap (λ (l : List ℕ). front ++ l) (replicate-append-replicate {A = ℕ} k m 0)
    ∙ ap (λ i. front ++ replicate i 0) sum in
    let size : length front ≡ now =
    length-append (take stored text) x
    ∙ (let a : length (take stored text) ≡ stored =
    length-take-le stored text (omega (arith, h.grows, h.room)) in omega (arith, a, h.grows)) in
    is ∙ ap (λ (l : List ℕ). l ++ replicate (length text - now) 0)
    (sym (ap (take now) is ∙ take_at front (replicate (length text - now) 0) now size))
