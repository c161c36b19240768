-- Kinds by their numbers, and which of them are learned in a state.
use Prim.Native.Nat.{ℕ, zero, suc, ◌/◌, ◌%◌, ◌≤◌, ◌<◌}
use native.Mathlib.Omega.{arith}
use mathlib.Core.Path.{◌≡◌, refl, sym, ap, ◌∙◌}
use mathlib.Core.Bool.{false}
use mathlib.Core.List.{List, map}
use mathlib.Core.Option.{none}
use lib.ListN.{length}
use lib.Dec.{eqb}
use borrow.Author.Tests.{eqb-true, ne_eqb}
use Rattle.spec_fields.proofs.Tests.{split}
use Rattle.text.specs.Text.{Text}
use Rattle.spec_exi.specs.Event.{Event, Kind, SD, ED, SE, AT, EE, CH, CM, PI, kind_of}
use Rattle.spec_exi.specs.Grammar.{kind_number, fits, learned_in, first_fit}
use Rattle.mem_rows.specs.Rows.{Learnt, Rows, kind_at, site_at, production_of, learned_of}
use Rattle.mem_rows.specs.Valid.{no_learnt, SiteFits, LearntFits, Valid}
use Rattle.mem_layout.specs.Layout.{fragment_site}
use Rattle.mem_rows.proofs.Kept.{All, more, all-backward, all-at}
use Rattle.mem_rows.proofs.Kept as kept
use Rattle.mem_rows.proofs.Learned.{learnt_in, learned-at}
use Rattle.event_code.specs.Numbers.{in_fragment, number_of_se}
use Rattle.grammar_match.specs.Here.{site_in, CodeRows, learned_here}
use Rattle.grammar_match.proofs.Here.{site-fits, outer-here, inner-here}

-- ---- kinds by their numbers

pub kind-number : (n : ℕ) → n < 8 → kind_number (kind_at n) ≡ n
unfolding kind_at kind_number
kind-number zero h = refl
kind-number (suc zero) h = refl
kind-number (suc (suc zero)) h = refl
kind-number (suc (suc (suc zero))) h = refl
kind-number (suc (suc (suc (suc zero)))) h = refl
kind-number (suc (suc (suc (suc (suc zero))))) h = refl
kind-number (suc (suc (suc (suc (suc (suc zero)))))) h = refl
kind-number (suc (suc (suc (suc (suc (suc (suc zero))))))) h = refl
kind-number (suc (suc (suc (suc (suc (suc (suc (suc n)))))))) h = absurd (omega arith)

pub number-kind : (k : Kind) → kind_at (kind_number k) ≡ k
unfolding kind_at kind_number
number-kind SD = refl
number-kind ED = refl
number-kind SE = refl
number-kind AT = refl
number-kind EE = refl
number-kind CH = refl
number-kind CM = refl
number-kind PI = refl

-- ---- what is learned

-- SE, AT, EE and CH are, AT in a start tag alone, and SE alone in a fragment's content.
module _ {w : Rows} (valid : Valid w) (site : ℕ) (e : Event Text)
    (other : (k : ℕ) → 2 ≤ k → k ≤ 5 → (k ≡ 3 → site % 2 ≡ 1) → (site ≡ fragment_site → k ≡ number_of_se)
    → kind_number (kind_of e) ≡ k → ⊥)
  where
    row-unfit : {l : Learnt} → LearntFits (length w.names) l → site ≡ l.site
        → fits (production_of w l) e ≡ false
    unfolding fits production_of
    row-unfit {l} f s =
        let n : kind_number (kind_at l.kind) ≡ l.kind =
        kind-number l.kind (omega (arith, f.up_to)) in
        rw (ne_eqb (kind_number (kind_at l.kind)) (kind_number (kind_of e))
        (λ z. other l.kind f.from f.up_to
        (λ a. ap (λ m. m % 2) s ∙ f.tag a) (λ a. f.alone (sym s ∙ a)) (sym z ∙ n)))

    rows-unfit : {ls : List Learnt} → All (LearntFits (length w.names)) ls
        → first_fit (map (production_of w) (learnt_in site ls)) e ≡ none
    unfolding learnt_in first_fit
    rows-unfit kept.none = refl
    rows-unfit (more {x} {xs} f fs) =
        split (eqb site x.site)
        (λ t. rw (t, row-unfit f (eqb-true site x.site t), rows-unfit fs))
        (λ t. rw t (rows-unfit fs))

    kind-apart : SiteFits (length w.names) site
        → first_fit (learned_in (site_at w site) (learned_of w)) e ≡ none
    kind-apart there =
        ap (λ ps. first_fit ps e) (learned-at valid site there)
        ∙ rows-unfit (all-backward (all-at no_learnt w.learned valid.refers.learned))

module _ {work : List ℕ} {learned mode top : ℕ} {w : Rows} {opened : List ℕ} (valid : Valid w)
    (rows : CodeRows work learned mode top w opened) (e : Event Text) where
  pub kind-none : in_fragment ≤ mode
      → ((k : ℕ) → 2 ≤ k → k ≤ 5 → (k ≡ 3 → site_in mode top % 2 ≡ 1)
      → (site_in mode top ≡ fragment_site → k ≡ number_of_se) → kind_number (kind_of e) ≡ k → ⊥)
      → first_fit (learned_here w mode opened) e ≡ none
  kind-none l other =
      ap (λ ps. first_fit ps e) (inner-here rows l)
      ∙ kind-apart valid (site_in mode top) e other (site-fits rows l)

  pub outer-none : mode < in_fragment → first_fit (learned_here w mode opened) e ≡ none
  unfolding first_fit
  outer-none l = rw (outer-here rows l)
