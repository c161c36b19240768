-- Marks: one more, and those of another start tag.
use Prim.Native.Nat.{ℕ, ◌+◌, ◌≤◌, ◌<◌}
use native.Mathlib.Omega.{arith}
use mathlib.Core.Path.{◌≡◌, refl, sym, ap, ◌∙◌}
use mathlib.Core.Bool.{Bool, false, ◌||◌}
use mathlib.Core.Logic.{◌≢◌}
use mathlib.Core.List.{List}
use lib.ListN.{length, get_or, length-set}
use lib.Seq.{get_or-set_same, get_or-set_other}
use lib.Dec.{eqb}
use native.Mathlib.Decide.{ℕ_discrete}
use borrow.Author.Tests.{eq-eqb, ne_eqb}
use Rattle.mem_layout.specs.Layout.{name_marks, prefix_counts, name_rows, work_cells}
use Rattle.mem_marks.specs.Marks.{mark_of, marked_in, with_mark, MarksHold}

-- At the start no name has a mark.
pub marks-none : (work : List ℕ) → work_cells ≤ length work
    → ((k : ℕ) → k < name_rows → get_or work (name_marks + k) 0 ≡ 0) → {tag : ℕ} → 0 < tag
    → MarksHold work tag (λ _. false)
unfolding marked_in
marks-none work room zeros {tag} h =
    record {
      room = room;
      most = λ i l. omega (arith, zeros i l);
      are = λ i l. ne_eqb (mark_of work i) tag (λ e. omega (arith, zeros i l));
    }

-- The marks are the same.
pub record SameMarks (work after : List ℕ) : Type 0 where
  pub room : work_cells ≤ length after
  pub cells : (j : ℕ) → name_marks ≤ j → j < prefix_counts → get_or after j 0 ≡ get_or work j 0

pub marks-kept : {work after : List ℕ} {tag : ℕ} {has : ℕ → Bool} → SameMarks work after
    → MarksHold work tag has → MarksHold after tag has
unfolding marked_in
marks-kept {tag = tag} s h =
    record {
      room = s.room;
      most = λ i l.
          omega (arith, s.cells (name_marks + i) (omega arith) (omega arith), h.most i l);
      are = λ i l. ap (λ m. eqb m tag) (s.cells (name_marks + i) (omega arith) (omega arith))
          ∙ h.are i l;
    }

-- Of a later start tag no name has the mark.
pub marks-later : {work : List ℕ} {tag later : ℕ} {has : ℕ → Bool} → tag < later
    → MarksHold work tag has → MarksHold work later (λ _. false)
unfolding marked_in
marks-later {work} {tag} {later} l h =
    record {
      room = h.room;
      most = λ i m. omega (arith, h.most i m);
      are = λ i m. ne_eqb (mark_of work i) later (λ e. omega (arith, h.most i m));
    }

-- ---- one more

module _ (work : List ℕ) (tag k : ℕ) where
  pub mark-length : length (with_mark work tag k) ≡ length work
  unfolding with_mark
  mark-length = simp length-set

  mark-far : (j : ℕ) → (j ≡ name_marks + k → ⊥) → get_or (with_mark work tag k) j 0 ≡ get_or work j 0
  unfolding with_mark
  mark-far j ne = let p : j ≢ name_marks + k = ne in simp get_or-set_other

  pub mark-other : k < name_rows → (j : ℕ) → (name_marks ≤ j → prefix_counts ≤ j)
      → get_or (with_mark work tag k) j 0 ≡ get_or work j 0
  mark-other l j f = mark-far j (λ e. let z : prefix_counts ≤ j = f (omega arith) in omega arith)

  mark-new : name_marks + k < length work → mark_of (with_mark work tag k) k ≡ tag
  unfolding with_mark
  mark-new l = simp get_or-set_same

  pub marks-more : {has : ℕ → Bool} → k < name_rows → MarksHold work tag has
      → MarksHold (with_mark work tag k) tag (λ i. eqb k i || has i)
  unfolding marked_in
  marks-more {has} l h =
      let new = mark-new (omega (arith, h.room)) in
      record {
        room = omega (arith, mark-length, h.room);
        most = λ i m. elim (ℕ_discrete k i) [
          | yes e ↦ omega (arith, ap (mark_of (with_mark work tag k)) e, new)
          | no e ↦ omega (arith, old i e, h.most i m)
        ];
        are = λ i m. elim (ℕ_discrete k i) [
          | yes e ↦ ap (λ n. eqb n tag) (ap (mark_of (with_mark work tag k)) (sym e) ∙ new)
              ∙ eq-eqb tag tag refl ∙ sym (ap (λ b. b || has i) (eq-eqb k i e))
          | no e ↦ ap (λ n. eqb n tag) (old i e) ∙ h.are i m
              ∙ sym (ap (λ b. b || has i) (ne_eqb k i e))
        ];
      }
    where
      old : (i : ℕ) → (k ≡ i → ⊥) → mark_of (with_mark work tag k) i ≡ mark_of work i
      old i e = mark-far (name_marks + i) (λ z. e (omega arith))
