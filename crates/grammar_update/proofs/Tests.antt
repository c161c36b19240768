-- The tests after an event's content, over rows: they are the definitions'.
use Prim.Native.Nat.{ℕ, ◌+◌, ◌-◌, ◌≤◌, ◌<◌}
use native.Mathlib.Omega.{arith}
use mathlib.Core.Path.{◌≡◌, refl, sym, ap, ◌∙◌}
use mathlib.Core.Bool.{Bool, true, false, cond, ◌&&◌, not, true≢false}
use mathlib.Core.List.{List, [], ◌∷◌, map}
use lib.ListN.{length, length-append, length-map, length-drop}
use lib.Dec.{eqb, leb}
use borrow.Author.Tests.{eq-eqb, leb-true, leb-false, le-leb, lt-leb}
use borrow.Author.Tests.{not-true}
use Rattle.spec_fields.proofs.Tests.{split}
use Rattle.text.specs.Text.{Text}
use Rattle.spec_exi.specs.Sizes.{sizes, max_open, max_grammars, max_learned}
use Rattle.spec_exi.specs.Event.{SE, EE}
use Rattle.spec_exi.specs.Grammar.{kind_number}
use Rattle.spec_exi.specs.Grammar.{open_elements}
use Rattle.spec_exi.specs.Lists.{within_grammars}
use Rattle.mem_rows.specs.Rows.{Learnt, Rows, name_at}
use Rattle.mem_rows.specs.Rows.{state_of, is_among}
use Rattle.mem_rows.specs.Rows.{opened_after, after_grammar, after_learned, leaves, learned_of}
use Rattle.mem_rows.specs.Rows.{grammars_of, context_of, backward, with_grammar, with_learned}
use Rattle.mem_rows.specs.Rows.{with_attributes}
use Rattle.mem_rows.proofs.States.{open_of}
use Rattle.mem_state.specs.declared.Core.{Core}
use Rattle.mem_state.specs.declared.Growth.{Growth}
use Rattle.mem_state.specs.Holds.{Bounded}
use Rattle.mem_state.specs.Commit.{depth_after}
use Rattle.mem_state.specs.Grows.{learnt_of, enters_in}
use Rattle.event_code.specs.Numbers.{number_of_se}
use Rattle.grammar_update.specs.Growth.{fits_in}

-- ---- how many of each there are after the event

module _ (v : Rows) (kind n : ℕ) (b : Bool) (l : Learnt) where
  pub learned-after : length (leaves kind n b l v).learned ≡ length v.learned + cond b 1 0
  unfolding leaves with_attributes after_learned after_grammar with_learned with_grammar
  learned-after = go (eqb kind (kind_number SE)) (is_among n v.grammars) b
    where
      go : (p q d : Bool)
          → length (after_learned d l (cond p (cond q v (with_grammar v n)) v)).learned
          ≡ length v.learned + cond d 1 0
      go true true true = length-append v.learned (l ∷ [])
      go true true false = omega arith
      go true false true = length-append v.learned (l ∷ [])
      go true false false = omega arith
      go false q true = length-append v.learned (l ∷ [])
      go false q false = omega arith

  pub grammars-after : length (leaves kind n b l v).grammars
      ≡ length v.grammars + cond (enters_in v kind n) 1 0
  unfolding leaves with_attributes after_learned after_grammar with_learned with_grammar
  grammars-after = go (eqb kind (kind_number SE)) (is_among n v.grammars) b
    where
      go : (p q d : Bool)
          → length (after_learned d l (cond p (cond q v (with_grammar v n)) v)).grammars
          ≡ length v.grammars + cond (p && not q) 1 0
      go true true true = omega arith
      go true true false = omega arith
      go true false true = length-append v.grammars (n ∷ [])
      go true false false = length-append v.grammars (n ∷ [])
      go false q true = omega arith
      go false q false = omega arith

pub opened_after_lem : (kind n : ℕ) (opened : List ℕ)
    → length (opened_after kind n opened) ≡ depth_after kind (length opened)
unfolding opened_after depth_after
opened_after_lem kind n opened =
    split (eqb kind (kind_number SE))
    (λ a. rw a (omega arith))
    (λ a. rw a (split (eqb kind (kind_number EE))
    (λ e. rw e (length-drop 1 opened))
    (λ e. rw e)))

backward-length : {A : Type 0} (xs : List A) → length (backward xs) ≡ length xs
unfolding backward
backward-length [] = refl
backward-length (x ∷ xs) = omega (arith, length-append (backward xs) (x ∷ []), backward-length xs)

-- ---- the three sizes

-- One more, where there is room.
room-one : (b : Bool) (m most : ℕ) → m ≤ most → leb (m + cond b 1 0) most ≡ not (b && leb most m)
room-one true m most h =
    split (leb most m)
    (λ e. rw e (lt-leb (m + 1) most (omega (arith, leb-true most m e))))
    (λ e. rw e (le-leb (m + 1) most (omega (arith, leb-false most m e))))
room-one false m most h = le-leb (m + 0) most (omega arith)

room_open : (kind depth : ℕ) → depth ≤ max_open
    → leb (depth_after kind depth) max_open ≡ not (eqb kind (kind_number SE) && leb max_open depth)
unfolding depth_after
room_open kind depth h =
    split (eqb kind (kind_number SE))
    (λ a. rw a (room-one true depth max_open h))
    (λ a. rw a (split (eqb kind (kind_number EE))
    (λ e. rw e (le-leb (depth - 1) max_open (omega arith)))
    (λ e. rw e (le-leb depth max_open h))))

module _ (v : Rows) {c : Core} (g : Growth) (store : Text) (mode : ℕ) (opened : List ℕ)
    (bounded : Bounded c) (depth : length opened ≡ c.depth)
    (grammars : c.grammars ≡ length v.grammars) (learned : c.learned ≡ length v.learned)
    (enters : g.enters ≡ enters_in v g.kind g.name) where
  abbrev left : Rows
  left = leaves g.kind g.name g.teaches (learnt_of g) v

  abbrev after : List ℕ
  after = opened_after g.kind g.name opened

  open-within : leb (length (open_elements (state_of mode (map (name_at left) after)))) max_open
      ≡ not (eqb g.kind (kind_number SE) && leb max_open c.depth)
  open-within =
      ap (λ m. leb m max_open)
      (ap length (open_of mode (map (name_at left) after)) ∙ length-map after (name_at left)
      ∙ opened_after_lem g.kind g.name opened ∙ ap (depth_after g.kind) depth)
      ∙ room_open g.kind c.depth bounded.depth

  grammars-within : leb (length (grammars_of left)) max_grammars
      ≡ not (g.enters && leb max_grammars c.grammars)
  unfolding grammars_of
  grammars-within =
      ap (λ m. leb m max_grammars)
      (length-map left.grammars (name_at left)
      ∙ grammars-after v g.kind g.name g.teaches (learnt_of g)
      ∙ ap (λ m. m + cond (enters_in v g.kind g.name) 1 0) (sym grammars)
      ∙ ap (λ b. c.grammars + cond b 1 0) (sym enters))
      ∙ room-one g.enters c.grammars max_grammars bounded.grammars

  learned-within : leb (length (learned_of left)) max_learned
      ≡ not (g.teaches && leb max_learned c.learned)
  unfolding learned_of
  learned-within =
      ap (λ m. leb m max_learned)
      (length-map (backward left.learned) _ ∙ backward-length left.learned
      ∙ learned-after v g.kind g.name g.teaches (learnt_of g)
      ∙ ap (λ m. m + cond g.teaches 1 0) (sym learned))
      ∙ room-one g.teaches c.learned max_learned bounded.learned

  -- The code's test is the definitions'.
  pub fits-within : within_grammars sizes (context_of left store mode after) ≡ fits_in c g
  unfolding within_grammars context_of fits_in
  fits-within = rw (open-within, grammars-within, learned-within)

-- ---- what the test gives

module _ (c : Core) (g : Growth) (h : fits_in c g ≡ true) where
  fits-parts : (not (eqb g.kind (kind_number SE) && leb max_open c.depth) ≡ true)
      × (not (g.enters && leb max_grammars c.grammars) ≡ true)
      × (not (g.teaches && leb max_learned c.learned) ≡ true)
  unfolding fits_in
  fits-parts = three _ _ _ h
    where
      three : (a b d : Bool) → (a && b && d) ≡ true → (a ≡ true) × (b ≡ true) × (d ≡ true)
      three true true true e = (refl, refl, refl)
      three true true false e = absurd (true≢false (sym e))
      three true false d e = absurd (true≢false (sym e))
      three false b d e = absurd (true≢false (sym e))

  room-left : (b : Bool) (m most : ℕ) → not (b && leb most m) ≡ true → b ≡ true → m < most
  room-left true m most n e = leb-false most m (not-true (leb most m) n)
  room-left false m most n e = absurd (true≢false (sym e))

  pub fits-open : g.kind ≡ kind_number SE → c.depth < max_open
  fits-open k = room-left _ c.depth max_open fits-parts.0 (eq-eqb g.kind (kind_number SE) k)

  pub fits-grammars : g.enters ≡ true → c.grammars < max_grammars
  fits-grammars e = room-left g.enters c.grammars max_grammars fits-parts.1 e

  pub fits-learned : g.teaches ≡ true → c.learned < max_learned
  fits-learned e = room-left g.teaches c.learned max_learned fits-parts.2 e

-- ---- the code's tests, one after the other

module _ (c : Core) (g : Growth) where
  pub not-open : (eqb g.kind number_of_se && leb max_open c.depth) ≡ true → false ≡ fits_in c g
  unfolding fits_in kind_number max_open
  not-open h = rw h

  module _ (a : (eqb g.kind number_of_se && leb max_open c.depth) ≡ false) where
    pub not-grammars : (g.enters && leb max_grammars c.grammars) ≡ true → false ≡ fits_in c g
    unfolding fits_in kind_number max_open max_grammars
    not-grammars h = rw (a, h)

    module _ (d : (g.enters && leb max_grammars c.grammars) ≡ false) where
      pub not-learned : (g.teaches && leb max_learned c.learned) ≡ true → false ≡ fits_in c g
      unfolding fits_in kind_number max_open max_grammars max_learned
      not-learned h = rw (a, d, h)

      pub all_fit : (g.teaches && leb max_learned c.learned) ≡ false → true ≡ fits_in c g
      unfolding fits_in kind_number max_open max_grammars max_learned
      all_fit h = rw (a, d, h)
