-- The learned rows as the cells have them: the definitions' list, and strings that are ahead of
-- memory.
use Prim.Native.Nat.{ℕ, zero, suc, ◌<◌}
use native.Mathlib.Omega.{arith}
use mathlib.Core.Path.{◌≡◌, refl, sym, ap, subst, ◌∙◌}
use mathlib.Core.Bool.{Bool, true, false, cond}
use mathlib.Core.List.{List, [], ◌∷◌, ◌++◌, map, map-append}
use mathlib.Core.Option.{none, some}
use lib.ListN.{length, length-map}
use lib.Dec.{ltb}
use borrow.Author.Tests.{lt-ltb, ltb-true}
use Rattle.spec_fields.proofs.Tests.{split}
use Rattle.spec_exi.specs.Event.{QName, map_name, Kind, SD, ED, SE, AT, EE, CH, CM, PI}
use Rattle.spec_exi.specs.Tables.{Placed, Entry, name_text}
use Rattle.spec_exi.specs.Grammar.{Production, kind_number}
use Rattle.mem_entries.specs.Entries.{entry_at, key_at, Keys}
use Rattle.mem_names.specs.Uris.{uri_at}
use Rattle.mem_learned.specs.Learned.{Taught, row_at, newest_first, SiteKnown, is_named, Learns}
use Rattle.mem_learned.specs.Learned as cells
use Rattle.mem_rows.specs.Rows.{Learnt, Rows, placed_at, name_at, kind_at, carries, site_at, carried_at}
use Rattle.mem_rows.specs.Rows.{production_of, learnt_as, backward, learned_of}
use Rattle.mem_rows.specs.Valid.{learnt_at, LearntFits, Refers, Valid}
use Rattle.mem_rows.proofs.Kept.{Kept, learned-kept}
use Rattle.mem_learned.proofs.Newest.{newest-same}
use Rattle.mem_state.specs.Holds.{taught_of, taught_in, Ahead}
use Rattle.mem_state.proofs.Joins.{taught-same}

-- ---- what keys are, and where a name lies

-- Every row of a name is a key.
abbrev pub is_row : Rows → ℕ → Bool
is_row w i = ltb i (length w.names)

-- The name that the rows of a URI and of a name give.
abbrev pub place_of : Rows → ℕ → ℕ → QName Placed
place_of w u n = record { uri = uri_at w.uris u; local = (entry_at w.names n).string }

pub keys_of : {w : Rows} → Valid w → Keys (name_at w) (is_row w)
keys_of {w} v =
    record {
      once = λ i j a b e. v.distinct.names i j (ltb-true i (length w.names) a)
          (ltb-true j (length w.names) b) e;
    }

-- ---- sites and productions are said alike

pub site-same : (w : Rows) (k : ℕ) → cells.site_at (name_at w) k ≡ site_at w k
unfolding cells.site_at site_at
site-same w k = refl

pub is-named : (k : Kind) → is_named k ≡ carries k
unfolding is_named carries kind_number
is-named SD = refl
is-named ED = refl
is-named SE = refl
is-named AT = refl
is-named EE = refl
is-named CH = refl
is-named CM = refl
is-named PI = refl

pub production-same : (w : Rows) (l : Learnt)
    → cells.production_of (place_of w) (taught_of w l) ≡ production_of w l
unfolding cells.production_of production_of taught_of carried_at placed_at
production-same w l = go (kind_at l.kind)
  where
    go : (k : Kind)
        → ◌≡◌ {A = Production}
        (record {
          kind = k;
          qname = cond (is_named k)
              (some (place_of w (cond (carries k) (key_at w.names l.name) 0) l.name)) none;
        })
        (record { kind = k; qname = cond (carries k) (some (placed_at w l.name)) none })
    go k = split (carries k) (λ t. rw (is-named k, t)) (λ t. rw (is-named k, t))

-- ---- the rows

module _ (w : Rows) where
  pub taught-count : length (taught_in w) ≡ length w.learned
  unfolding taught_in
  taught-count = length-map w.learned (taught_of w)

  row_of : (ls : List Learnt) (i : ℕ) → i < length ls
      → row_at (map (taught_of w) ls) i ≡ taught_of w (learnt_at ls i)
  unfolding row_at
  row_of [] i h = absurd (omega arith)
  row_of (l ∷ ls) zero h = refl
  row_of (l ∷ ls) (suc i) h = row_of ls i (omega arith)

  pub taught-row : (i : ℕ) → i < length w.learned
      → row_at (taught_in w) i ≡ taught_of w (learnt_at w.learned i)
  unfolding taught_in
  taught-row i h = row_of w.learned i h

-- ---- the newest first

module _ {A : Type 0} where
  newest-last : (g : ℕ → A) (n : ℕ)
      → newest_first g (suc n) ≡ newest_first (λ i. g (suc i)) n ++ (g 0 ∷ [])
  unfolding newest_first
  newest-last g zero = refl
  newest-last g (suc n) = ap (λ l. g (suc n) ∷ l) (newest-last g n)

  newest-of : (f : Learnt → A) (ls : List Learnt)
      → map f (backward ls) ≡ newest_first (λ i. f (learnt_at ls i)) (length ls)
  unfolding backward newest_first
  newest-of f [] = refl
  newest-of f (l ∷ ls) =
      map-append f (backward ls) (l ∷ []) ∙ ap (λ xs. xs ++ (f l ∷ [])) (newest-of f ls)
      ∙ sym (newest-last (λ i. f (learnt_at (l ∷ ls) i)) (length ls))

module _ {w : Rows} (v : Valid w) where
  learnt-same : (l : Learnt) → learnt_as w l ≡ cells.learned_of (name_at w) (place_of w) (taught_of w l)
  unfolding learnt_as cells.learned_of cells.site_at site_at taught_of
  learnt-same l =
      ap (λ (p : Production). record { site = site_at w l.site; production = p })
      (sym (production-same w l))

  list-is : learned_of w ≡ newest_first
      (λ i. cells.learned_of (name_at w) (place_of w) (row_at (taught_in w) i)) (length (taught_in w))
  unfolding learned_of
  list-is =
      newest-of (learnt_as w) w.learned
      ∙ newest-same _ _ (length w.learned)
      (λ i l. learnt-same (learnt_at w.learned i)
      ∙ ap (cells.learned_of (name_at w) (place_of w)) (sym (taught-row w i l)))
      ∙ ap (newest_first (λ i. cells.learned_of (name_at w) (place_of w) (row_at (taught_in w) i)))
      (sym (taught-count w))

  module _ (i : ℕ) (l : i < length (taught_in w)) where
    within : i < length w.learned
    within = omega (arith, taught-count w, l)

    fit : LearntFits (length w.names) (learnt_at w.learned i)
    fit = v.refers.learned i within

    -- What holds of the row as its cells have it, by what holds of the learned production.
    by_row : (P : Taught → Type 0) → P (taught_of w (learnt_at w.learned i))
        → P (row_at (taught_in w) i)
    by_row P p = subst P (sym (taught-row w i within)) p

  -- The definitions' list has these rows.
  pub learns-of : Learns (name_at w) (is_row w) (place_of w) (learned_of w) (taught_in w)
  unfolding taught_of name_text map_name name_at placed_at
  learns-of =
      record {
        list = list-is;
        site = λ i l. by_row i l (λ r. SiteKnown (is_row w) r.site)
            (λ n. lt-ltb _ (length w.names) ((fit i l).site n));
        key = λ i l. by_row i l (λ r. is_named r.kind ≡ true → is_row w r.name ≡ true)
            (λ _. lt-ltb _ (length w.names) (fit i l).name);
        named = λ i l. by_row i l
            (λ r. is_named r.kind ≡ true
            → name_text (place_of w r.uri_row r.name_row) ≡ name_at w r.name)
            (λ t. rw (sym (is-named _) ∙ t));
        unnamed = λ i l. by_row i l (λ r. is_named r.kind ≡ false → r.name ≡ 0)
            (λ t. (fit i l).plain (sym (is-named _) ∙ t));
      }

-- ---- strings ahead of memory

module _ {w v : Rows} (a : Ahead w v) (r : Refers w) where
  pub ahead-kept : Kept w v
  unfolding placed_at
  ahead-kept =
      record {
        fewer = a.fewer_names;
        names = λ n h.
            ap (λ (x : Entry ℕ). record { uri = uri_at v.uris x.key; local = x.string })
            (a.names n h)
            ∙ ap (λ (u : Placed). record { uri = u; local = (entry_at w.names n).string })
            (a.uris (key_at w.names n) (r.names.below n h));
      }

  pub learned-ahead : learned_of v ≡ learned_of w
  learned-ahead = learned-kept ahead-kept r a.learned

  pub taught-ahead : taught_in v ≡ taught_in w
  taught-ahead = taught-same w v r a.learned a.names
