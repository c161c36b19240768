-- The end document, by the number of the grammar's state.
use Prim.Native.Nat.{ℕ, zero, suc}
use native.Mathlib.Omega.{arith}
use mathlib.Core.Path.{◌≡◌, refl, ap, ◌∙◌}
use mathlib.Core.Bool.{true, false}
use mathlib.Core.List.{List, [], ◌∷◌, map}
use lib.ListN.{length, length-map}
use lib.Dec.{eqb}
use borrow.Author.Tests.{ne_eqb}
use Rattle.spec_fields.proofs.Tests.{split}
use Rattle.text.specs.Text.{Text}
use Rattle.spec_exi.specs.Event.{QName}
use Rattle.spec_exi.specs.Grammar.{is_finished}
use Rattle.mem_rows.specs.Rows.{Rows, name_at, state_of, ModeFits, context_of}
use Rattle.mem_state.specs.declared.Core.{Core}
use Rattle.mem_state.specs.Holds.{Stores, Bounded, Represents}
use Rattle.event_code.specs.Numbers.{is_over, in_tag}

finished-mode : (mode : ℕ) (qs : List (QName Text)) → ModeFits mode (length qs)
    → is_finished (state_of mode qs) ≡ eqb mode is_over
unfolding is_finished state_of
finished-mode mode (q ∷ outer) f =
    let other : mode ≡ is_over → ⊥ = λ e. omega (arith, f.outer (omega arith)) in
    rw (ne_eqb mode is_over other) (split (eqb mode in_tag) (λ e. rw e) (λ e. rw e))
finished-mode zero [] f = refl
finished-mode (suc zero) [] f = refl
finished-mode (suc (suc zero)) [] f = refl
finished-mode (suc (suc (suc zero))) [] f = refl
finished-mode (suc (suc (suc (suc zero)))) [] f = refl
finished-mode (suc (suc (suc (suc (suc m))))) [] f = absurd (omega (arith, f.inner (omega arith)))

module _ {work : List ℕ} {from : Stores} {c : Core} {w : Rows} {opened : List ℕ} (b : Bounded c)
    (h : Represents work from c w opened) (store : Text) where
  context-mode : is_finished (context_of w store c.mode opened).state ≡ eqb c.mode is_over
  unfolding context_of
  context-mode =
      let n : length (map (name_at w) opened) ≡ c.depth =
      length-map opened (name_at w) ∙ h.opens.size in
      finished-mode c.mode (map (name_at w) opened)
      (record {
        known = b.fits.known;
        outer = λ l. n ∙ b.fits.outer l;
        inner = λ l. omega (arith, n, b.fits.inner l);
      })

  pub context-over : c.mode ≡ is_over → is_finished (context_of w store c.mode opened).state ≡ true
  context-over e = context-mode ∙ ap (λ m. eqb m is_over) e

  pub context-going : (c.mode ≡ is_over → ⊥)
      → is_finished (context_of w store c.mode opened).state ≡ false
  context-going e = context-mode ∙ ne_eqb c.mode is_over e
