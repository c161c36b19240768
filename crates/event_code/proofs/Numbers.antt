-- What is taught, and where.
use Prim.Native.Nat.{ℕ, ◌≤◌}
use native.Mathlib.Omega.{arith}
use mathlib.Core.Path.{◌≡◌, sym}
use mathlib.Core.Bool.{true, true≢false}
use lib.Dec.{eqb, leb}
use borrow.Author.Tests.{eqb-true, ne_eqb, leb-true}
use Rattle.spec_fields.proofs.Tests.{split}
use Rattle.event_code.specs.Numbers.{teaches_in, in_fragment, in_tag, in_element, number_of_se}
use Rattle.event_code.specs.Numbers.{number_of_ch}

pub teaches-in : (mode kind : ℕ) → teaches_in mode kind ≡ true
    → (in_fragment ≤ mode) × (number_of_se ≤ kind) × (kind ≤ number_of_ch)
unfolding teaches_in
teaches-in mode kind e =
    split (eqb mode in_tag)
    (λ a.
    let tag : mode ≡ in_tag = eqb-true mode in_tag a in
    let f = rw (a, ne_eqb mode in_element (λ z. omega arith), ne_eqb mode in_fragment (λ z. omega arith)) at e in
    split (leb number_of_se kind)
    (λ p. split (leb kind number_of_ch) (λ q. (omega arith, leb-true number_of_se kind p, leb-true kind number_of_ch q))
    (λ q. absurd (true≢false (sym (rw (p, q) at f)))))
    (λ p. absurd (true≢false (sym (rw p at f)))))
    (λ a. split (eqb mode in_element)
    (λ b.
    let content : mode ≡ in_element = eqb-true mode in_element b in
    let f = rw (a, b, ne_eqb mode in_fragment (λ z. omega arith)) at e in
    split (eqb kind number_of_se)
    (λ p. let two : kind ≡ number_of_se = eqb-true kind number_of_se p in omega arith)
    (λ p. split (eqb kind number_of_ch)
    (λ q. let last : kind ≡ number_of_ch = eqb-true kind number_of_ch q in omega arith)
    (λ q. absurd (true≢false (sym (rw (p, q) at f))))))
    (λ b. split (eqb mode in_fragment)
    (λ d.
    let fragment : mode ≡ in_fragment = eqb-true mode in_fragment d in
    let two : kind ≡ number_of_se = eqb-true kind number_of_se (rw (a, b, d) at e) in
    omega arith)
    (λ d. absurd (true≢false (sym (rw (a, b, d) at e))))))
