-- What `newest` finds.
use Prim.Native.Nat.{ℕ, suc, ◌+◌, ◌-◌, ◌%◌, ◌≤◌, ◌<◌}
use mathlib.Core.Path.{◌≡◌, sym, ◌∙◌}
use mathlib.Core.Bool.{Bool, true, false}
use mathlib.Core.List.{List}
use lib.ListN.{get_or}
use borrow.Author.Tests.{eqb-true, eqb-false, eq-eqb, ne_eqb}
use Rattle.mem_chain.specs.Chain.{below, walked_from, CodeChain, row_has_code, has_code, Newest}
use Rattle.mem_chain.proofs.Sought.{sought-by}
use Rattle.mem_chain.proofs.Turn.{Turn, Answer, turn-start, turn_end, turn-row, turn-ring}
use Rattle.mem_chain.proofs.Turn.{turn-here, turn-next}

record Premise (work : List ℕ) (head codes nexts ring n low code : ℕ) : Type 0 where
  code_of : ℕ → ℕ
  chain : CodeChain work head codes nexts ring n code code_of
  near : n ≤ low + ring

module _ (work : List ℕ) (head codes nexts ring n low code : ℕ) where
  abbrev P : Type 0
  P = Premise work head codes nexts ring n low code

  abbrev sought : P → ℕ → Bool
  sought p = has_code p.code_of code

  abbrev Coded : ℕ → Type 0
  Coded = Turn P work head nexts ring n low (λ p. p.chain.test) sought

  module _ {c : ℕ} (t : Coded c) (up : low < c) where
    -- The cell of the row has its code.
    cell : (p : P) → get_or work (codes + (c - 1) % ring) 0 ≡ p.code_of (c - 1)
    cell p = p.chain.cells (c - 1) (turn-row t up) (turn-ring t up p)

    here : true ≡ row_has_code work codes code ((c - 1) % ring) → Answer P n low sought (suc (c - 1))
    here e =
        turn-here t up
        (λ p. eq-eqb (p.code_of (c - 1)) code (sym (cell p) ∙ eqb-true _ _ (sym e)))

    next : false ≡ row_has_code work codes code ((c - 1) % ring) → (d : ℕ)
        → d ≡ below c (get_or work (nexts + (c - 1) % ring) 0) → Coded d
    next e =
        turn-next t up
        (λ p. ne_eqb (p.code_of (c - 1)) code (λ z. eqb-false _ _ (sym e) (cell p ∙ z)))

  pub code-found : {r : ℕ}
      → r ≡ walked_from work head nexts ring n low (row_has_code work codes code)
      → Newest work head codes nexts ring n low code r
  code-found is =
      let a =
      sought-by work head nexts ring n low (row_has_code work codes code) (Answer P n low sought) Coded
      (turn-start (λ p. p.near) (λ p. p.chain.threaded)
      (λ p i l x. p.chain.all i l (eqb-true (p.code_of i) code x)))
      (λ c. turn_end) (λ c. here) (λ c. next) is in
      record {
        is = is;
        within = a.within;
        above = a.above;
        newest =
            λ code_of h near. a.newest (record { code_of = code_of; chain = h; near = near });
      }
