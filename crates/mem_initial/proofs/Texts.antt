-- Texts that lie one behind the other in the store.
use Prim.Native.Nat.{ℕ, ◌+◌, ◌≤◌}
use native.Mathlib.Omega.{arith}
use mathlib.Core.Path.{◌≡◌, refl, sym, ap, ◌∙◌}
use mathlib.Core.List.{List, ◌++◌, append_assoc}
use lib.ListN.{length, take, drop, length-append, length-take, length-drop}
use lib.Seq.{length-take-le, take_at, drop_at}
use Rattle.text.specs.Text.{Text}
use Rattle.text.proofs.Parts.{part-inside}
use Rattle.mem_entries.specs.Texts.{Lies}
use Rattle.mem_initial.specs.Initial.{initial_text, with_text, initial_size}
use Rattle.mem_initial.proofs.Turn.{text-length}

-- The store has this text at a place, in its first cells.
pub record Has (store : List ℕ) (stored place : ℕ) (x : Text) : Type 0 where
  pub before : List ℕ
  pub after : List ℕ
  pub is : store ≡ before ++ (x ++ after)
  pub starts : length before ≡ place
  pub ends : place + length x ≤ stored
  pub inside : stored ≤ length store

module _ {store : List ℕ} {stored place : ℕ} (x y : Text)
    (h : Has store stored place (x ++ y)) where
  both-are : store ≡ h.before ++ (x ++ (y ++ h.after))
  both-are = h.is ∙ ap (λ l. h.before ++ l) (append_assoc x y h.after)

  pub first-lies : Lies store stored place (length x) x
  first-lies =
      let n : length (x ++ y) ≡ length x + length y = length-append x y in
      record {
        ends = omega (arith, h.ends);
        inside = h.inside;
        text = part-inside store (record { place = place; size = length x })
            (omega (arith, h.ends, h.inside))
            ∙ ap (λ l. take (length x) (drop place l)) both-are
            ∙ ap (take (length x)) (drop_at h.before (x ++ (y ++ h.after)) place h.starts)
            ∙ take_at x (y ++ h.after) (length x) refl;
      }

  pub first-has : (at : ℕ) → at ≡ place → Has store stored at x
  first-has at e =
      let n : length (x ++ y) ≡ length x + length y = length-append x y in
      record {
        before = h.before;
        after = y ++ h.after;
        is = both-are;
        starts = h.starts ∙ sym e;
        ends = omega (arith, h.ends);
        inside = h.inside;
      }

  pub rest_has : (at : ℕ) → at ≡ place + length x → Has store stored at y
  rest_has at e =
      let n : length (x ++ y) ≡ length x + length y = length-append x y in
      record {
        before = h.before ++ x;
        after = h.after;
        is = both-are ∙ sym (append_assoc h.before x (y ++ h.after));
        starts = length-append h.before x ∙ omega (arith, h.starts);
        ends = omega (arith, h.ends);
        inside = h.inside;
      }

-- ---- the initial texts

module _ (cells : List ℕ) (origin : ℕ) (fits : origin + initial_size ≤ length cells) where
  pub text-same-length : length (with_text cells origin) ≡ length cells
  unfolding with_text
  text-same-length =
      let l : length initial_text ≡ initial_size = text-length in
      simp (length-append, length-take, length-drop) (omega arith)

  pub text-has : (stored : ℕ) → origin + initial_size ≤ stored → stored ≤ length cells
      → Has (with_text cells origin) stored origin initial_text
  unfolding with_text
  text-has stored h k =
      let l : length initial_text ≡ initial_size = text-length in
      record {
        before = take origin cells;
        after = drop (origin + initial_size) cells;
        is = append_assoc (take origin cells) initial_text (drop (origin + initial_size) cells);
        starts = length-take-le origin cells (omega arith);
        ends = omega arith;
        inside = omega (arith, text-same-length);
      }
