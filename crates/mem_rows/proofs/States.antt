-- The grammar's states by their numbers: the open elements, the site, and where an event leads.
use Prim.Native.Nat.{ℕ, zero, suc, ◌+◌, ◌*◌, ◌/◌, ◌%◌, ◌≤◌, ◌<◌}
use native.Mathlib.Omega.{arith}
use mathlib.Core.Path.{◌≡◌, refl, sym, ap, ◌∙◌}
use mathlib.Core.Bool.{Bool, true, false, cond}
use mathlib.Core.List.{List, [], ◌∷◌, map}
use mathlib.Core.Option.{Option, none, some}
use lib.ListN.{length, length-map}
use lib.Dec.{eqb}
use borrow.Author.Tests.{ne_eqb}
use Rattle.spec_fields.proofs.Tests.{split}
use Rattle.text.specs.Text.{Text}
use Rattle.spec_exi.specs.Settings.{Settings}
use Rattle.spec_exi.specs.Event.{QName, Event, start_document, end_document, end_element, start_element}
use Rattle.spec_exi.specs.Event.{attribute, characters, comment, instruction, kind_of, name_of}
use Rattle.spec_exi.specs.Grammar.{State, kind_number, open_elements, in_content, outermost, closed}
use Rattle.spec_exi.specs.Grammar.{state_after, site_of, fragment, doc_content, doc_end}
use Rattle.spec_exi.specs.Grammar.{fragment_content}
use Rattle.event_code.specs.Numbers.{in_doc_content, in_doc_end, in_fragment, in_tag, in_element, number_of_ed}
use Rattle.event_code.specs.Numbers.{number_of_se, number_of_ee}
use Rattle.mem_layout.specs.Layout.{name_rows, fragment_site}
use Rattle.mem_rows.specs.Rows.{Rows, name_at, state_of, mode_after, opened_after}
use Rattle.mem_rows.specs.Rows.{ModeFits, site_at, site_number}

-- The open elements of a state are those that it was made of.
pub open_of : (mode : ℕ) (qs : List (QName Text)) → open_elements (state_of mode qs) ≡ qs
unfolding open_elements state_of
open_of mode (q ∷ outer) = split (eqb mode in_tag) (λ e. rw e) (λ e. rw e)
open_of zero [] = refl
open_of (suc zero) [] = refl
open_of (suc (suc zero)) [] = refl
open_of (suc (suc (suc zero))) [] = refl
open_of (suc (suc (suc (suc zero)))) [] = refl
open_of (suc (suc (suc (suc (suc m))))) [] = refl

-- In an element's grammar the site is that of the innermost element.
pub site-of : (w : Rows) (mode n : ℕ) (qs : List (QName Text)) → n < name_rows
    → site_of (state_of mode (name_at w n ∷ qs)) ≡ some (site_at w (site_number n (eqb mode in_tag)))
unfolding site_of state_of site_at
site-of w mode n qs low =
    split (eqb mode in_tag)
    (λ e. rw e (
    let a : (2 * n + 1) % 2 ≡ 1 = omega arith in
    let b : (2 * n + 1) / 2 ≡ n = omega arith in
    rw (ne_eqb (2 * n + 1) fragment_site (λ z. omega arith), a, b)))
    (λ e. rw e (
    let a : (2 * n) % 2 ≡ 0 = omega arith in
    let b : (2 * n) / 2 ≡ n = omega arith in
    rw (ne_eqb (2 * n) fragment_site (λ z. omega arith), a, b)))

-- In a fragment's content it is the fragment's.
pub site-fragment : (w : Rows) → site_of (state_of in_fragment []) ≡ some (site_at w fragment_site)
unfolding site_of state_of site_at
site-fragment w = refl

-- Elsewhere nothing is learned.
pub site-none : (mode : ℕ) → mode < in_fragment → site_of (state_of mode []) ≡ none
unfolding site_of state_of
site-none zero h = refl
site-none (suc zero) h = refl
site-none (suc (suc zero)) h = refl
site-none (suc (suc (suc zero))) h = refl
site-none (suc (suc (suc (suc m)))) h = absurd (omega arith)

-- A start tag's content begins.
in-content : (mode : ℕ) (qs : List (QName Text)) → ModeFits mode (length qs)
    → in_content (state_of mode qs) ≡ state_of (cond (eqb mode in_tag) in_element mode) qs
unfolding in_content state_of
in-content mode (q ∷ outer) f =
    split (eqb mode in_tag)
    (λ e. rw e)
    (λ e. rw (e, e))
in-content zero [] f = refl
in-content (suc zero) [] f = refl
in-content (suc (suc zero)) [] f = refl
in-content (suc (suc (suc zero))) [] f = refl
in-content (suc (suc (suc (suc zero)))) [] f = refl
in-content (suc (suc (suc (suc (suc m))))) [] f = absurd (omega (arith, f.inner (omega arith)))

-- What an event needs of the state: the document starts and ends outside of every element, an element
-- ends inside, and the name of one that starts has this row.
pub record Leads (w : Rows) (n depth : ℕ) (e : Event Text) : Type 0 where
  pub outside : kind_number (kind_of e) ≤ number_of_ed → depth ≡ 0
  pub inside : kind_number (kind_of e) ≡ number_of_ee → 0 < depth
  pub named : kind_number (kind_of e) ≡ number_of_se → name_of e ≡ some (name_at w n)

some_same : {A : Type 0} {a b : A} → some a ≡ some b → a ≡ b
some_same {A} {a} e = ap (λ (o : Option A). elim o [ none ↦ a | some x ↦ x ]) e

content : (w : Rows) (mode : ℕ) (opened : List ℕ) → ModeFits mode (length opened)
    → in_content (state_of mode (map (name_at w) opened))
    ≡ state_of (cond (eqb mode in_tag) in_element mode) (map (name_at w) opened)
content w mode opened f =
    in-content mode (map (name_at w) opened)
    (record {
      known = f.known;
      outer = λ h. length-map opened (name_at w) ∙ f.outer h;
      inner = λ h. omega (arith, length-map opened (name_at w), f.inner h);
    })

ends : (s : Settings) (w : Rows) (q : ℕ) (outer : List ℕ)
    → closed s (name_at w q ∷ map (name_at w) outer)
    ≡ state_of (cond (eqb (suc (length outer)) 1) (cond s.fragment in_fragment in_doc_end) in_element)
    (map (name_at w) outer)
unfolding outermost closed state_of
ends s w q [] = go s.fragment
  where
    go : (b : Bool) → cond b fragment_content doc_end ≡ state_of (cond b in_fragment in_doc_end) []
    go true = refl
    go false = refl
ends s w q (p ∷ outer) =
    let z : eqb (suc (suc (length outer))) 1 ≡ false = ne_eqb (suc (suc (length outer))) 1 (λ e. omega arith) in
    rw z

-- Where an event leads: its kind, the number and the open elements decide.
module _ (s : Settings) (w : Rows) (mode n : ℕ) where
  pub state-after : (opened : List ℕ) → ModeFits mode (length opened) → (e : Event Text)
      → Leads w n (length opened) e
      → state_after s (state_of mode (map (name_at w) opened)) e
      ≡ state_of (mode_after s.fragment (kind_number (kind_of e)) mode (length opened))
      (map (name_at w) (opened_after (kind_number (kind_of e)) n opened))
  unfolding state_after mode_after opened_after kind_number kind_of name_of state_of
  state-after [] f start_document l = go s.fragment
    where
      go : (b : Bool) → cond b fragment_content doc_content ≡ state_of (cond b in_fragment in_doc_content) []
      go true = refl
      go false = refl
  state-after (q ∷ outer) f start_document l = absurd (omega (arith, l.outside (omega arith)))
  state-after [] f end_document l = refl
  state-after (q ∷ outer) f end_document l = absurd (omega (arith, l.outside (omega arith)))
  state-after [] f end_element l = absurd (omega (arith, l.inside refl))
  state-after (q ∷ outer) f end_element l = rw (open_of mode (map (name_at w) (q ∷ outer))) (ends s w q outer)
  state-after opened f (start_element x) l =
      rw (open_of mode (map (name_at w) opened), some_same (l.named refl))
  state-after opened f (attribute x y) l = refl
  state-after opened f (characters x) l = content w mode opened f
  state-after opened f (comment x) l = content w mode opened f
  state-after opened f (instruction x y) l = content w mode opened f
