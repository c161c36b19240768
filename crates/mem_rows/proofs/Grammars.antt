-- Learned productions and element grammars with one more, by the rows.
use Prim.Native.Nat.{ℕ, zero, suc, ◌+◌, ◌/◌, ◌≤◌, ◌<◌}
use native.Mathlib.Omega.{arith}
use mathlib.Core.Path.{◌≡◌, refl, sym, ap, ◌∙◌}
use mathlib.Core.Bool.{Bool, true, false, cond, ◌||◌}
use mathlib.Core.List.{List, [], ◌∷◌, ◌++◌, map}
use lib.ListN.{length, get_or}
use lib.Dec.{eqb}
use Rattle.text.specs.Text.{Text}
use Rattle.spec_exi.specs.Event.{QName, eq_name}
use Rattle.spec_exi.specs.Grammar.{Learned, has_name}
use Rattle.spec_exi.proofs.Codes.{eq_name-refl, eq_name-eq}
use Rattle.mem_rows.specs.Rows.{Learnt, Rows, name_at, placed_at, learnt_as, production_of, carried_at}
use Rattle.mem_rows.specs.Rows.{site_at, backward, learned_of, grammars_of, with_learned, with_grammar}
use Rattle.mem_rows.specs.Rows.{tag_in, is_among}
use Rattle.mem_rows.specs.Valid.{Refers, Valid}
use Rattle.mem_rows.proofs.Partitions.{key-test}
use Rattle.mem_rows.proofs.Joins.{map_snoc}
use Rattle.mem_rows.proofs.Kept.{All, none, more, all-at}

backward-snoc : {A : Type 0} (l : List A) (x : A) → backward (l ++ (x ∷ [])) ≡ x ∷ backward l
unfolding backward
backward-snoc [] x = refl
backward-snoc (y ∷ l) x = ap (λ m. m ++ (y ∷ [])) (backward-snoc l x)

-- The newest learned production is first.
pub learned-more : (w : Rows) (l : Learnt) → learned_of (with_learned w l) ≡ learnt_as w l ∷ learned_of w
unfolding learned_of with_learned learnt_as production_of carried_at site_at name_at placed_at
learned-more w l = ap (map (learnt_as w)) (backward-snoc w.learned l)

pub grammars-more : (w : Rows) (n : ℕ) → grammars_of (with_grammar w n) ≡ grammars_of w ++ (name_at w n ∷ [])
unfolding grammars_of with_grammar name_at placed_at
grammars-more w n = map_snoc (name_at w) w.grammars n

has-among : {w : Rows} → Valid w → (n : ℕ) → n < length w.names → {gs : List ℕ}
    → All (λ g. g < length w.names) gs → has_name (map (name_at w) gs) (name_at w n) ≡ is_among n gs
unfolding has_name is_among
has-among v n h none = refl
has-among {w} v n h (more {x} {xs} l a) =
    let t = key-test eq_name eq_name-refl eq_name-eq (name_at w) (length w.names) v.distinct.names x n l h in
    rw (t, has-among v n h a)

-- An attribute has come in the start tag exactly if its row is among theirs.
pub has-attribute : {w : Rows} → Valid w → (n : ℕ) → n < length w.names
    → has_name (tag_in w).attributes (name_at w n) ≡ is_among n w.attributes
unfolding tag_in
has-attribute {w} v n h = has-among v n h (all-at 0 w.attributes v.refers.attributes)

-- An element has a grammar exactly if its row is among them.
pub has-grammar : {w : Rows} → Valid w → (n : ℕ) → n < length w.names
    → has_name (grammars_of w) (name_at w n) ≡ is_among n w.grammars
unfolding grammars_of
has-grammar {w} v n h = has-among v n h (all-at 0 w.grammars v.refers.grammars)
