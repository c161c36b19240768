-- What memory that represents rows gives: of the state, and of what is learned there.
use Prim.Native.Nat.{ℕ, ◌≤◌, ◌<◌}
use native.Mathlib.Omega.{arith}
use mathlib.Core.Path.{◌≡◌, sym, ap, subst}
use mathlib.Core.List.{List, [], ◌∷◌, map}
use lib.ListN.{length, get_or}
use lib.Dec.{eqb}
use Rattle.spec_fields.proofs.Tests.{split}
use Rattle.spec_exi.specs.Tables.{value}
use Rattle.spec_exi.specs.Context.{character_role}
use Rattle.mem_learned.specs.Learned.{LearnedHold}
use Rattle.mem_rows.specs.Rows.{Rows, name_at, state_of, ModeFits}
use Rattle.mem_state.specs.declared.Core.{Core}
use Rattle.mem_state.specs.Holds.{taught_in, Stores, Bounded, Topped, Represents}
use Rattle.grammar_match.specs.Here.{CodeRows}
use Rattle.event_code.specs.Numbers.{in_tag}

module _ {work : List ℕ} {from : Stores} {c : Core} {w : Rows} {opened : List ℕ}
    (r : Represents work from c w opened) (b : Bounded c) (t : Topped c opened) where
  pub code-rows : CodeRows work c.learned c.mode c.top w opened
  code-rows =
      record {
        hold = subst (λ n. LearnedHold work n (taught_in w)) (sym r.counts.learned)
            r.holds.learned;
        fits = subst (ModeFits c.mode) (sym r.opens.size) b.fits;
        rows = r.opens.rows;
        topped = λ h. t.is (omega (arith, r.opens.size, h));
        low = b.top;
      }

  -- In an element, characters are values of the innermost one, which has a row.
  inner-role : (ns : List ℕ) → 0 < length ns → get_or ns 0 0 ≡ c.top
      → character_role (state_of c.mode (map (name_at w) ns)) ≡ value (name_at w c.top)
  unfolding character_role state_of
  inner-role [] h e = absurd (omega arith)
  inner-role (n ∷ ns) h e =
      split (eqb c.mode in_tag)
      (λ a. rw a (ap (λ m. value (name_at w m)) e))
      (λ a. rw a (ap (λ m. value (name_at w m)) e))

  pub inner-state : in_tag ≤ c.mode
      → (character_role (state_of c.mode (map (name_at w) opened)) ≡ value (name_at w c.top))
      × (c.top < length w.names)
  inner-state h =
      let d : 0 < c.depth = b.fits.inner h in
      let l : 0 < length opened = omega (arith, r.opens.size) in
      let e = t.is d in
      (inner-role opened l e, omega (arith, e, r.opens.rows 0 l))
