-- Rows that grew mean what they meant: names, sites, learned productions, grammars and open elements.
use Prim.Native.Nat.{ℕ, zero, suc, ◌+◌, ◌/◌, ◌≤◌, ◌<◌}
use native.Mathlib.Omega.{arith}
use mathlib.Core.Path.{◌≡◌, refl, sym, ap, ◌∙◌}
use mathlib.Core.Bool.{Bool, true, false, cond}
use mathlib.Core.List.{List, [], ◌∷◌, ◌++◌, map}
use lib.ListN.{length, get_or}
use lib.Dec.{eqb}
use borrow.Author.Tests.{eqb-false}
use Rattle.spec_fields.proofs.Tests.{split}
use Rattle.spec_exi.specs.Event.{QName}
use Rattle.spec_exi.specs.Tables.{Placed, Entry}
use Rattle.spec_exi.specs.Grammar.{Production, Learned}
use Rattle.mem_rows.specs.Rows.{Learnt, Rows, placed_at, name_at, site_at, carried_at, production_of}
use Rattle.mem_rows.specs.Rows.{kind_at, learnt_as, backward, learned_of, grammars_of, tag_in}
use Rattle.mem_layout.specs.Layout.{fragment_site}
use Rattle.mem_rows.specs.Valid.{no_learnt, learnt_at, SiteFits, LearntFits, Refers}

-- The names of w are those of v too, at the same rows.
pub record Kept (w v : Rows) : Type 0 where
  pub fewer : length w.names ≤ length v.names
  pub names : (n : ℕ) → n < length w.names → placed_at v n ≡ placed_at w n

-- What holds of every member of a list.
pub data All {A : Type 0} (P : A → Type 0) : List A → Type 0 where
  none : All P []
  more : {x : A} {xs : List A} → P x → All P xs → All P (x ∷ xs)

pub all_snoc : {A : Type 0} {P : A → Type 0} {xs : List A} {x : A} → All P xs → P x → All P (xs ++ (x ∷ []))
all_snoc none p = more p none
all_snoc (more q a) p = more q (all_snoc a p)

pub all-backward : {A : Type 0} {P : A → Type 0} {xs : List A} → All P xs → All P (backward xs)
unfolding backward
all-backward none = none
all-backward (more p a) = all_snoc (all-backward a) p

pub all-at : {A : Type 0} {P : A → Type 0} (d : A) (xs : List A) → ((i : ℕ) → i < length xs → P (get_or xs i d))
    → All P xs
all-at d [] f = none
all-at d (x ∷ xs) f = more (f 0 (omega arith)) (all-at d xs (λ i h. f (suc i) (omega arith)))

pub map_same : {A B : Type 0} {P : A → Type 0} (f g : A → B) → ((x : A) → P x → f x ≡ g x) → {xs : List A} → All P xs
    → map f xs ≡ map g xs
map_same f g e none = refl
map_same f g e (more {x} {xs} p a) = cc (e x p, map_same f g e a)

module _ {w v : Rows} (k : Kept w v) where
  pub name-kept : (n : ℕ) → n < length w.names → name_at v n ≡ name_at w n
  unfolding name_at
  name-kept n h = ap (λ (q : QName Placed). record { uri = q.uri.text; local = q.local.text }) (k.names n h)

  pub site-kept : (k : ℕ) → SiteFits (length w.names) k → site_at v k ≡ site_at w k
  unfolding site_at
  site-kept k f =
      split (eqb k fragment_site) (λ t. rw t)
      (λ t. rw (t, name-kept (k / 2) (f (eqb-false k fragment_site t))))

  pub learnt-kept : (l : Learnt) → LearntFits (length w.names) l → learnt_as v l ≡ learnt_as w l
  unfolding learnt_as production_of carried_at
  learnt-kept l f = rw (site-kept l.site f.site, k.names l.name f.name)

  pub names-kept : (ns : List ℕ) → All (λ n. n < length w.names) ns → map (name_at v) ns ≡ map (name_at w) ns
  names-kept ns a = map_same (name_at v) (name_at w) (λ n h. name-kept n h) a

  module _ (r : Refers w) where
    pub learned-kept : v.learned ≡ w.learned → learned_of v ≡ learned_of w
    unfolding learned_of
    learned-kept e =
        ap (λ ls. map (learnt_as v) (backward ls)) e
        ∙ map_same (learnt_as v) (learnt_as w) (λ l f. learnt-kept l f)
        (all-backward (all-at no_learnt w.learned r.learned))

    pub grammars-kept : v.grammars ≡ w.grammars → grammars_of v ≡ grammars_of w
    unfolding grammars_of
    grammars-kept e = ap (map (name_at v)) e ∙ names-kept w.grammars (all-at 0 w.grammars r.grammars)

    pub tag-kept : v.attributes ≡ w.attributes → tag_in v ≡ tag_in w
    unfolding tag_in
    tag-kept e =
        ap (λ qs. record { attributes = qs })
        (ap (map (name_at v)) e
        ∙ names-kept w.attributes (all-at 0 w.attributes r.attributes))
