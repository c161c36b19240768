-- The grammar's state and the open elements after an event.
use Prim.Native.Nat.{ℕ, zero, suc, ◌+◌, ◌-◌, ◌*◌, ◌≤◌, ◌<◌}
use native.Mathlib.Omega.{arith}
use mathlib.Core.Path.{◌≡◌, refl, sym, ap, subst, ◌∙◌}
use mathlib.Core.Bool.{Bool, true, false, cond, true≢false}
use mathlib.Core.List.{List, [], ◌∷◌, ◌++◌}
use lib.ListN.{length, get_or, drop, length-drop}
use lib.Seq.{get_or-drop}
use lib.Dec.{eqb}
use borrow.Author.Tests.{eqb-true, eqb-false, eq-eqb, ne_eqb}
use Rattle.spec_fields.proofs.Tests.{split}
use Rattle.spec_exi.specs.Sizes.{max_open}
use Rattle.spec_exi.specs.Event.{SD, ED, SE, AT, EE, CH, CM, PI}
use Rattle.spec_exi.specs.Grammar.{kind_number}
use Rattle.grammar_codes.specs.Table.{Stands}
use Rattle.mem_layout.specs.Layout.{name_rows}
use Rattle.mem_rows.specs.Rows.{Rows, ModeFits, mode_after, opened_after}
use Rattle.mem_state.specs.declared.Core.{Core}
use Rattle.mem_state.specs.Holds.{Bounded, Topped}
use Rattle.mem_state.specs.Commit.{top_after, depth_after, turned, counted}
use Rattle.event_code.specs.Numbers.{in_doc_content, in_doc_end, in_fragment, in_tag, in_element, number_of_se}
use Rattle.event_code.specs.Numbers.{number_of_ee}
use Rattle.grammar_open.specs.Opened.{Turned}

-- ---- the grammar's state

mode-stays : {mode depth : ℕ} → ModeFits mode depth
    → ModeFits (cond (eqb mode in_tag) in_element mode) depth
mode-stays {mode} {depth} f =
    split (eqb mode in_tag)
    (λ e. rw e (record {
      known = omega arith;
      outer = λ h. absurd (omega arith);
      inner = λ _. f.inner (omega (arith, eqb-true mode in_tag e));
    }))
    (λ e. rw e f)

-- Outside of every element, one of two states by the setting.
either-fits : (fragment : Bool) (mode : ℕ) {depth : ℕ} → mode < in_tag → depth ≡ 0
    → ModeFits (cond fragment in_fragment mode) depth
either-fits true mode l z =
    record { known = omega arith; outer = λ _. z; inner = λ h. absurd (omega arith) }
either-fits false mode l z =
    record { known = omega arith; outer = λ _. z; inner = λ h. absurd (omega arith) }

pub mode-fits : (fragment : Bool) (kind : ℕ) {mode depth : ℕ} → Stands mode kind
    → ModeFits mode depth → ModeFits (mode_after fragment kind mode depth) (depth_after kind depth)
unfolding mode_after depth_after kind_number
mode-fits fragment zero s f =
    either-fits fragment in_doc_content (omega arith) (f.outer (s.outside (omega arith)))
mode-fits fragment (suc zero) s f =
    record {
      known = omega arith;
      outer = λ _. f.outer (s.outside (omega arith));
      inner = λ h. absurd (omega arith);
    }
mode-fits fragment (suc (suc zero)) s f =
    record { known = omega arith; outer = λ h. absurd (omega arith); inner = λ _. omega arith }
mode-fits fragment (suc (suc (suc zero))) s f = f
mode-fits fragment (suc (suc (suc (suc zero)))) {mode} {depth} s f =
    let d : 0 < depth = f.inner (s.inside (omega arith) (omega arith)) in
    split (eqb depth 1)
    (λ e.
    let z : depth ≡ 1 = eqb-true depth 1 e in
    rw e (either-fits fragment in_doc_end (omega arith) (omega arith)))
    (λ e.
    let z : depth ≡ 1 → ⊥ = eqb-false depth 1 e in
    rw e (record {
      known = omega arith;
      outer = λ h. absurd (omega arith);
      inner = λ _. omega (arith, z);
    }))
mode-fits fragment (suc (suc (suc (suc (suc zero))))) s f = mode-stays f
mode-fits fragment (suc (suc (suc (suc (suc (suc zero)))))) s f = mode-stays f
mode-fits fragment (suc (suc (suc (suc (suc (suc (suc zero))))))) s f = mode-stays f
mode-fits fragment (suc (suc (suc (suc (suc (suc (suc (suc k)))))))) s f = absurd (omega (arith, s.known))

-- ---- the open elements

-- Where an event leads: in, out, or nowhere.
module _ (kind name : ℕ) (opened : List ℕ) {c : Core} (size : length opened ≡ c.depth)
    (inside : kind ≡ kind_number EE → 0 < c.depth) (top : Topped c opened) {d : Core}
    (depth : d.depth ≡ depth_after kind c.depth) (top-is : d.top ≡ top_after kind name c.top)
  where
    pub opened-turned : Turned c d opened (opened_after kind name opened)
    unfolding opened_after depth_after top_after kind_number
    opened-turned =
        split (eqb kind number_of_se)
        (λ a.
        let x : d.depth ≡ c.depth + 1 = depth ∙ rw a in
        let y : d.top ≡ name = top-is ∙ rw a in
        rw a (record {
          enters = λ _. (x, ap (λ n. n ∷ opened) (sym y));
          stays = λ h. absurd (omega arith);
          leaves = λ h. absurd (omega arith);
        }))
        (λ a. split (eqb kind number_of_ee)
        (λ e.
        let p : 0 < c.depth = inside (eqb-true kind number_of_ee e) in
        let x : d.depth ≡ c.depth - 1 = depth ∙ rw (a, e) in
        rw (a, e) (record {
          enters = λ h. absurd (omega arith);
          stays = λ h. absurd (omega arith);
          leaves = λ _. (omega arith, cut opened (omega arith) (top.is p));
        }))
        (λ e.
        let x : d.depth ≡ c.depth = depth ∙ rw (a, e) in
        rw (a, e) (record {
          enters = λ h. absurd (omega arith);
          stays = λ _. refl;
          leaves = λ h. absurd (omega arith);
        })))
      where
        cut : (ns : List ℕ) → 0 < length ns → get_or ns 0 0 ≡ c.top → ns ≡ c.top ∷ drop 1 ns
        cut [] h e = absurd (omega arith)
        cut (n ∷ ns) h e = ap (λ m. m ∷ ns) e

-- Every open element has a row.
pub opened_rows : (kind name : ℕ) (opened : List ℕ) {few many : ℕ} → few ≤ many
    → ((i : ℕ) → i < length opened → get_or opened i 0 < few)
    → (kind ≡ kind_number SE → name < many) → (i : ℕ) → i < length (opened_after kind name opened)
    → get_or (opened_after kind name opened) i 0 < many
unfolding opened_after
opened_rows kind name opened {few} {many} l f h =
    split (eqb kind (kind_number SE))
    (λ a. rw a (λ i m. started i m (h (eqb-true kind (kind_number SE) a))))
    (λ a. split (eqb kind (kind_number EE))
    (λ e. rw (a, e) (λ i m. ended i m))
    (λ e. rw (a, e) (λ i m. omega (arith, f i m))))
  where
    started : (i : ℕ) → i < length (name ∷ opened) → name < many → get_or (name ∷ opened) i 0 < many
    started zero m n = n
    started (suc i) m n = omega (arith, f i (omega arith))

    ended : (i : ℕ) → i < length (drop 1 opened) → get_or (drop 1 opened) i 0 < many
    ended i m =
        let e = get_or-drop 1 opened i 0 in
        let n = length-drop 1 opened in
        omega (arith, e, f (1 + i) (omega (arith, n, m)))

-- ---- the numbers

pub raise : (b : Bool) (m most : ℕ) → m ≤ most → (b ≡ true → m < most) → m + cond b 1 0 ≤ most
raise true m most l h = omega (arith, h refl)
raise false m most l h = omega arith

pub depth-few : (kind depth : ℕ) → depth ≤ max_open → (kind ≡ kind_number SE → depth < max_open)
    → depth_after kind depth ≤ max_open
unfolding depth_after
depth-few kind depth l h =
    split (eqb kind (kind_number SE))
    (λ a. rw a (omega (arith, h (eqb-true kind (kind_number SE) a))))
    (λ a. split (eqb kind (kind_number EE))
    (λ e. rw (a, e) (omega arith))
    (λ e. rw (a, e) l))

pub top-low : (kind name top : ℕ) → name < name_rows → top < name_rows
    → top_after kind name top < name_rows
unfolding top_after
top-low kind name top n t =
    split (eqb kind (kind_number SE)) (λ a. rw a n) (λ a. rw a t)
