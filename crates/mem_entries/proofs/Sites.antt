-- Sites by their numbers: the fragment's has its own, and a name has two, an odd one for its start
-- tag and an even one for its content.
use Prim.Native.Nat.{ℕ, ◌/◌, ◌%◌, ◌<◌}
use native.Mathlib.Omega.{arith}
use mathlib.Core.Path.{◌≡◌, refl, sym, ap, ◌∙◌}
use mathlib.Core.Bool.{Bool, true, false, cond}
use mathlib.Core.Logic.{◌≢◌}
use lib.Dec.{eqb}
use borrow.Author.Tests.{eqb-true, eqb-false, eq-eqb, ne_eqb}
use Rattle.text.specs.Text.{Text}
use Rattle.spec_exi.specs.Event.{QName, eq_name}
use Rattle.spec_exi.specs.Grammar.{Site, tag_of, content_of, fragment, eq_site}
use Rattle.mem_chain.proofs.Last.{split}

fragments : eq_site fragment fragment ≡ true
unfolding eq_site
fragments = refl

not-fragment : (b : Bool) (p q : QName Text) → eq_site fragment (cond b (tag_of p) (content_of q)) ≡ false
unfolding eq_site
not-fragment true p q = refl
not-fragment false p q = refl

no-fragment : (b : Bool) (p q : QName Text) → eq_site (cond b (tag_of p) (content_of q)) fragment ≡ false
unfolding eq_site
no-fragment true p q = refl
no-fragment false p q = refl

module _ (name : ℕ → QName Text) where
  abbrev named : ℕ → Site
  named s = cond (eqb (s % 2) 1) (tag_of (name (s / 2))) (content_of (name (s / 2)))

  tag_is : (s : ℕ) → s % 2 ≡ 1 → named s ≡ tag_of (name (s / 2))
  tag_is s e = rw (eq-eqb (s % 2) 1 e)

  content-is : (s : ℕ) → (s % 2 ≡ 1 → ⊥) → named s ≡ content_of (name (s / 2))
  content-is s ne = rw (ne_eqb (s % 2) 1 ne)

  module _ (s u : ℕ) where
    half-test : s % 2 ≡ u % 2 → eqb (s / 2) (u / 2) ≡ eqb s u
    half-test e =
        split (eqb s u)
        (λ y. let z : s ≡ u = eqb-true s u y in eq-eqb (s / 2) (u / 2) (omega arith) ∙ sym y)
        (λ y. ne_eqb (s / 2) (u / 2) (λ z. eqb-false s u y (omega arith)) ∙ sym y)

    even : (a b : ℕ) → a < 2 → b < 2 → (a ≡ 1 → ⊥) → (b ≡ 1 → ⊥) → a ≡ b
    even a b m n x y =
        let x' : a ≢ 1 = x in
        let y' : b ≢ 1 = y in
        omega arith

    -- Those of names, where the names are compared as their numbers are.
    name-test : eq_name (name (s / 2)) (name (u / 2)) ≡ eqb (s / 2) (u / 2)
        → eq_site (named s) (named u) ≡ eqb s u
    unfolding eq_site
    name-test k =
        split (eqb (s % 2) 1)
        (λ a.
        let x : s % 2 ≡ 1 = eqb-true (s % 2) 1 a in
        split (eqb (u % 2) 1)
        (λ b.
        let y : u % 2 ≡ 1 = eqb-true (u % 2) 1 b in
        rw (tag_is s x, tag_is u y) (k ∙ half-test (omega arith)))
        (λ b.
        let y : u % 2 ≡ 1 → ⊥ = eqb-false (u % 2) 1 b in
        rw (tag_is s x, content-is u y) (sym (ne_eqb s u (λ z. y (ap (λ j. j % 2) (sym z) ∙ x))))))
        (λ a.
        let x : s % 2 ≡ 1 → ⊥ = eqb-false (s % 2) 1 a in
        split (eqb (u % 2) 1)
        (λ b.
        let y : u % 2 ≡ 1 = eqb-true (u % 2) 1 b in
        rw (content-is s x, tag_is u y) (sym (ne_eqb s u (λ z. x (ap (λ j. j % 2) z ∙ y)))))
        (λ b.
        let y : u % 2 ≡ 1 → ⊥ = eqb-false (u % 2) 1 b in
        let m : s % 2 < 2 = omega arith in
        let n : u % 2 < 2 = omega arith in
        rw (content-is s x, content-is u y) (k ∙ half-test (even (s % 2) (u % 2) m n x y))))

    -- All are compared as their numbers are; f is the fragment's.
    pub site-test : (f : ℕ)
        → ((s ≡ f → ⊥) → (u ≡ f → ⊥) → eq_name (name (s / 2)) (name (u / 2)) ≡ eqb (s / 2) (u / 2))
        → eq_site (cond (eqb s f) fragment (named s)) (cond (eqb u f) fragment (named u)) ≡ eqb s u
    site-test f k =
        split (eqb s f)
        (λ a.
        let x : s ≡ f = eqb-true s f a in
        split (eqb u f)
        (λ b.
        let y : u ≡ f = eqb-true u f b in
        rw (a, b) (fragments ∙ sym (eq-eqb s u (x ∙ sym y))))
        (λ b.
        rw (a, b) (not-fragment (eqb (u % 2) 1) (name (u / 2)) (name (u / 2))
        ∙ sym (ne_eqb s u (λ z. eqb-false u f b (sym z ∙ x))))))
        (λ a. split (eqb u f)
        (λ b.
        let y : u ≡ f = eqb-true u f b in
        rw (a, b) (no-fragment (eqb (s % 2) 1) (name (s / 2)) (name (s / 2))
        ∙ sym (ne_eqb s u (λ z. eqb-false s f a (z ∙ y)))))
        (λ b. rw (a, b) (name-test (k (eqb-false s f a) (eqb-false u f b)))))
