-- What is learned at a site (EXI 8.4.2, 8.4.3), by the rows.
use Prim.Native.Nat.{ℕ, ◌/◌}
use mathlib.Core.Path.{◌≡◌, refl, ap}
use mathlib.Core.Bool.{cond}
use mathlib.Core.List.{List, [], ◌∷◌, map}
use lib.ListN.{length}
use lib.Dec.{eqb}
use Rattle.spec_fields.proofs.Tests.{split}
use Rattle.spec_exi.specs.Event.{eq_name}
use Rattle.spec_exi.specs.Grammar.{eq_site}
use Rattle.spec_exi.specs.Grammar.{learned_in}
use Rattle.mem_layout.specs.Layout.{fragment_site}
use Rattle.spec_exi.proofs.Codes.{eq_name-refl, eq_name-eq}
use Rattle.mem_entries.proofs.Sites as sites
use Rattle.mem_rows.specs.Rows.{Learnt, Rows, name_at, site_at, production_of, learnt_as}
use Rattle.mem_rows.specs.Rows.{backward, learned_of}
use Rattle.mem_rows.specs.Valid.{no_learnt, SiteFits, LearntFits, Valid}
use Rattle.mem_rows.proofs.Partitions.{key-test}
use Rattle.mem_rows.proofs.Kept.{All, none, more, all-backward, all-at}

-- The learned productions of a site number, in the order of the list.
unfoldable pub learnt_in : ℕ → List Learnt → List Learnt
learnt_in k [] = []
learnt_in k (l ∷ ls) = cond (eqb k l.site) (l ∷ learnt_in k ls) (learnt_in k ls)

module _ {w : Rows} (v : Valid w) where
  -- Sites are compared as their numbers are.
  pub site-test : (k j : ℕ) → SiteFits (length w.names) k → SiteFits (length w.names) j
      → eq_site (site_at w k) (site_at w j) ≡ eqb k j
  unfolding site_at
  site-test k j h l =
      sites.site-test (name_at w) k j fragment_site
      (λ x y. key-test eq_name eq_name-refl eq_name-eq (name_at w) (length w.names) v.distinct.names
      (k / 2) (j / 2) (h x) (l y))

  learned-part : (k : ℕ) → SiteFits (length w.names) k → {ls : List Learnt} → All (LearntFits (length w.names)) ls
      → learned_in (site_at w k) (map (learnt_as w) ls) ≡ map (production_of w) (learnt_in k ls)
  unfolding learned_in learnt_as learnt_in
  learned-part k h none = refl
  learned-part k h (more {x} {xs} p a) =
      let t = site-test k x.site h p.site in
      split (eqb k x.site)
      (λ u. rw (t, u) (ap (λ l. production_of w x ∷ l) (learned-part k h a)))
      (λ u. rw (t, u) (learned-part k h a))

  -- What is learned at a site, the newest first.
  pub learned-at : (k : ℕ) → SiteFits (length w.names) k
      → learned_in (site_at w k) (learned_of w) ≡ map (production_of w) (learnt_in k (backward w.learned))
  unfolding learned_of
  learned-at k h = learned-part k h (all-backward (all-at no_learnt w.learned v.refers.learned))
