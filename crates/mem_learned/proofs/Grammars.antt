-- Element grammars: which names have one, and one more.
use Prim.Native.Nat.{ℕ, ◌+◌, ◌≤◌, ◌<◌}
use native.Mathlib.Omega.{arith}
use mathlib.Core.Path.{◌≡◌, refl, sym, ap, ◌∙◌}
use mathlib.Core.Bool.{Bool, true, false, cond, ◌||◌}
use mathlib.Core.Logic.{◌≢◌}
use mathlib.Core.List.{List, [], ◌∷◌, ◌++◌}
use lib.ListN.{length, get_or, length-set}
use lib.Seq.{get_or-set_same, get_or-set_other}
use lib.Dec.{eqb}
use borrow.Author.Tests.{eqb-true, eqb-false, eq-eqb, ne_eqb}
use Rattle.mem_layout.specs.Layout.{grammar_flags, name_counts, name_rows, work_cells}
use Rattle.mem_chain.proofs.Last.{split}
use Rattle.mem_learned.specs.Grammars.{has_row, GrammarsHold, flag_in, with_grammar_of}

-- The list with one name more, where it is not there yet.
abbrev pub grown : List ℕ → ℕ → List ℕ
grown gs k = cond (has_row gs k) gs (gs ++ (k ∷ []))

row-append : (gs : List ℕ) (k j : ℕ) → has_row (gs ++ (k ∷ [])) j ≡ (has_row gs j || eqb k j)
unfolding has_row
row-append [] k j = or-false (eqb k j)
  where
    or-false : (b : Bool) → (b || false) ≡ b
    or-false true = refl
    or-false false = refl
row-append (g ∷ gs) k j = split (eqb g j) (λ e. rw e) (λ e. rw e (row-append gs k j))

pub grown-row : (gs : List ℕ) (k j : ℕ) → has_row (grown gs k) j ≡ (has_row gs j || eqb k j)
grown-row gs k j =
    split (has_row gs k)
    (λ e.
    split (eqb k j)
    (λ y. let z : k ≡ j = eqb-true k j y in rw (e, y) (known (rw z at e)))
    (λ y. rw (e, y) (sym (or-false (has_row gs j)))))
    (λ e. rw e (row-append gs k j))
  where
    or-false : (b : Bool) → (b || false) ≡ b
    or-false true = refl
    or-false false = refl

    known : has_row gs j ≡ true → has_row gs j ≡ (has_row gs j || true)
    known e = rw e

-- ---- cells

pub flag_is : {work gs : List ℕ} → GrammarsHold work gs → (k : ℕ) → k < name_rows
    → flag_in work k ≡ has_row gs k
unfolding flag_in
flag_is {work} {gs} h k l =
    split (has_row gs k)
    (λ e. rw e (eq-eqb (get_or work (grammar_flags + k) 0) 1 (h.flags k l ∙ rw e)))
    (λ e.
    let z : get_or work (grammar_flags + k) 0 ≡ 0 = h.flags k l ∙ rw e in
    rw e (ne_eqb (get_or work (grammar_flags + k) 0) 1 (λ y. omega arith)))

pub grammars-kept : {work after gs : List ℕ} → work_cells ≤ length after
    → ((j : ℕ) → grammar_flags ≤ j → j < name_counts → get_or after j 0 ≡ get_or work j 0)
    → GrammarsHold work gs → GrammarsHold after gs
grammars-kept room same h =
    record {
      room = room;
      flags = λ k l. same (grammar_flags + k) (omega arith) (omega arith)
          ∙ h.flags k l;
    }

pub grammars-none : (work : List ℕ) → work_cells ≤ length work
    → ((k : ℕ) → k < name_rows → get_or work (grammar_flags + k) 0 ≡ 0) → GrammarsHold work []
unfolding has_row
grammars-none work room zeros =
    record { room = room; flags = zeros }

module _ (work : List ℕ) (k : ℕ) where
  pub grammar-length : length (with_grammar_of work k) ≡ length work
  unfolding with_grammar_of
  grammar-length = simp length-set

  flag-far : (j : ℕ) → (j ≡ grammar_flags + k → ⊥) → get_or (with_grammar_of work k) j 0 ≡ get_or work j 0
  unfolding with_grammar_of
  flag-far j ne = let p : j ≢ grammar_flags + k = ne in simp get_or-set_other

  pub grammar-other : k < name_rows → (j : ℕ) → (grammar_flags ≤ j → name_counts ≤ j)
      → get_or (with_grammar_of work k) j 0 ≡ get_or work j 0
  grammar-other l j f = flag-far j (λ e. let z : name_counts ≤ j = f (omega arith) in omega arith)

  flag-new : grammar_flags + k < length work → get_or (with_grammar_of work k) (grammar_flags + k) 0 ≡ 1
  unfolding with_grammar_of
  flag-new l = simp get_or-set_same

  pub grammars-more : {gs : List ℕ} → k < name_rows → GrammarsHold work gs
      → GrammarsHold (with_grammar_of work k) (grown gs k)
  grammars-more {gs} l h =
      record {
        room = omega (arith, grammar-length, h.room);
        flags = λ j m.
            split (eqb k j)
            (λ e.
            let z : j ≡ k = sym (eqb-true k j e) in
            ap (λ i. get_or (with_grammar_of work k) (grammar_flags + i) 0) z
            ∙ flag-new (omega (arith, h.room))
            ∙ sym (ap (λ b. cond b 1 0) (grown-row gs k j ∙ or-true (has_row gs j) (eqb k j) e)))
            (λ e.
            flag-far (grammar_flags + j) (λ y. eqb-false k j e (omega arith)) ∙ h.flags j m
            ∙ sym (ap (λ b. cond b 1 0) (grown-row gs k j ∙ or_same (has_row gs j) (eqb k j) e)));
      }
    where
      or-true : (a b : Bool) → b ≡ true → (a || b) ≡ true
      or-true true b e = refl
      or-true false b e = e

      or_same : (a b : Bool) → b ≡ false → (a || b) ≡ a
      or_same true b e = refl
      or_same false b e = e
