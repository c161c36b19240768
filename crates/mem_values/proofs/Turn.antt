-- What `find` finds.
use Prim.Native.Nat.{ℕ, suc, ◌+◌, ◌-◌, ◌%◌, ◌≤◌, ◌<◌}
use mathlib.Core.Path.{◌≡◌, sym, ap, ◌∙◌}
use mathlib.Core.Bool.{Bool, true, false}
use mathlib.Core.List.{List}
use lib.ListN.{get_or}
use borrow.Author.Tests.{eq-eqb}
use native.Mathlib.Omega.{arith}
use Rattle.mem_layout.specs.Layout.{value_ring, value_text_heads, value_text_nexts, value_buckets}
use Rattle.mem_chain.specs.Chain.{below, walked_from, in_bucket}
use Rattle.mem_chain.proofs.Sought.{sought-by}
use Rattle.mem_chain.proofs.Turn.{Turn, Answer, turn-start, turn_end, turn-row, turn-ring}
use Rattle.mem_chain.proofs.Turn.{turn-here, turn-next}
use Rattle.mem_entries.specs.Texts.{hash_of}
use Rattle.mem_entries.specs.Entries.{Entries, text_at, has_text_at}
use Rattle.mem_entries.proofs.Texts.{text-is, row-text}
use Rattle.mem_values.specs.Values.{text_bucket, row_has_text, found_in}
use Rattle.mem_values.specs.Hold.{ValuesHold, FoundText}

record Premise (work store x : List ℕ) (h n low : ℕ) : Type 0 where
  stored : ℕ
  values : Entries
  holds : ValuesHold work store stored n values
  hash : h ≡ hash_of x
  near : n ≤ low + value_ring

module _ (work store x : List ℕ) (h n low : ℕ) where
  abbrev P : Type 0
  P = Premise work store x h n low

  abbrev sought : P → ℕ → Bool
  sought p = has_text_at p.values x

  abbrev head : ℕ
  head = value_text_heads + h % value_buckets

  abbrev Seek : ℕ → Type 0
  Seek =
      Turn P work head value_text_nexts value_ring n low
      (λ p. in_bucket (text_bucket p.values) (h % value_buckets)) sought

  module _ {c : ℕ} (t : Seek c) (up : low < c) where
    row : (p : P) → row_has_text work store x ((c - 1) % value_ring) ≡ sought p (c - 1)
    unfolding row_has_text
    row p = row-text x (p.holds.rows (c - 1) (turn-row t up) (turn-ring t up p))

    here : true ≡ row_has_text work store x ((c - 1) % value_ring) → Answer P n low sought (suc (c - 1))
    here e = turn-here t up (λ p. sym (row p) ∙ sym e)

    next : false ≡ row_has_text work store x ((c - 1) % value_ring) → (d : ℕ)
        → d ≡ below c (get_or work (value_text_nexts + (c - 1) % value_ring) 0) → Seek d
    next e = turn-next t up (λ p. sym (row p) ∙ sym e)

  pub text-found : {r : ℕ}
      → r ≡ walked_from work (value_text_heads + h % value_buckets) value_text_nexts value_ring n low
      (row_has_text work store x)
      → FoundText work store x h n low r
  unfolding found_in
  text-found is =
      let a =
      sought-by work head value_text_nexts value_ring n low (row_has_text work store x)
      (Answer P n low sought) Seek
      (turn-start (λ p. p.near) (λ p. p.holds.by_text.thread (h % value_buckets) (omega arith))
      (λ p i m t. eq-eqb (text_bucket p.values i) (h % value_buckets)
      (ap (λ y. hash_of y % value_buckets) (text-is (text_at p.values i) x t)
      ∙ ap (λ k. k % value_buckets) (sym p.hash))))
      (λ c. turn_end) (λ c. here) (λ c. next) is in
      record {
        is = is;
        within = a.within;
        above = a.above;
        newest = λ stored es t b near.
            a.newest (record { stored = stored; values = es; holds = t; hash = b; near = near });
      }
