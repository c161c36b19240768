-- The table's levels, with what is learned before the first, as they are read.
use Prim.Native.Nat.{ℕ, zero, suc, ◌+◌, ◌≤◌, ◌<◌}
use native.Mathlib.Omega.{arith}
use native.Mathlib.Nat.{zero-add}
use mathlib.Core.Path.{◌≡◌, refl, sym, ap, subst, ◌∙◌}
use mathlib.Core.Bool.{false, cond}
use mathlib.Core.List.{List, [], ◌∷◌, ◌++◌, map}
use mathlib.Core.Option.{Option, none, some, none-ne-some}
use lib.ListN.{length, get_or, get_elem?, drop, length-map}
use lib.Dec.{ltb}
use borrow.Author.Tests.{ltb-true, ltb-false}
use Rattle.spec_fields.specs.Bits.{Bits, octets_for}
use Rattle.spec_fields.specs.Refusal.{code}
use Rattle.spec_fields.specs.Parser.{fail, return, present, times, and_then, ◌>>=◌}
use Rattle.spec_fields.specs.Field.{Alignment, bit_packed, byte_aligned, number_field}
use Rattle.spec_fields.specs.Field.{width_from, width, choice}
use Rattle.spec_fields.proofs.Tests.{split}
use Rattle.spec_exi.specs.Event.{Kind, SD}
use Rattle.spec_exi.specs.Grammar.{Production, Code, unnamed, kind_number, all_empty, choices}
use Rattle.spec_exi.specs.Grammar.{at_level, below}
use Rattle.spec_exi.specs.Reader.{read_code}
use Rattle.grammar_codes.specs.Table.{no_kinds, values_of, leveled, with_learned, on_level, in-next}
use Rattle.grammar_codes.specs.Table.{FixedCode, raised_by, after_learned}
use Rattle.grammar_codes.proofs.Bits.{none_left, level-count, choices-count}
use Rattle.read_contract.specs.Outcome.{Outcome}
use Rattle.read_contract.proofs.Outcome.{refused-outcome, declined-as, declined-then}
use Rattle.read_production.specs.Levels.{PartRead}
use Rattle.read_production.proofs.Parts.{level-refused, level-here, level-below}

-- ---- choices

module _ {A : Type 0} where
  -- A member of a list is one of a longer list too.
  at_front : (l k : List A) (v : ℕ) {x : A} → get_elem? l v ≡ some x → get_elem? (l ++ k) v ≡ some x
  at_front [] k v e = absurd (none-ne-some _ e)
  at_front (y ∷ l) k zero e = e
  at_front (y ∷ l) k (suc v) e = at_front l k v e

  at_back : (l k : List A) (v : ℕ) {x : A} → get_elem? k v ≡ some x
      → get_elem? (l ++ k) (length l + v) ≡ some x
  at_back [] k v e = rw (zero-add v) e
  at_back (y ∷ l) k v e =
      let z : suc (length l) + v ≡ suc (length l + v) = omega arith in
      ap (get_elem? (y ∷ (l ++ k))) z ∙ at_back l k v e

  at_map : {B : Type 0} (f : A → B) (l : List A) (v : ℕ) {x : A} → get_elem? l v ≡ some x
      → get_elem? (map f l) v ≡ some (f x)
  at_map f [] v e = absurd (none-ne-some _ e)
  at_map f (y ∷ l) zero {x} e = let z : y ≡ x = cc in rw z
  at_map f (y ∷ l) (suc v) e = at_map f l v e

  at-nth : (d : A) (l : List A) (v : ℕ) → v < length l → get_elem? l v ≡ some (get_or l v d)
  at-nth d [] v h = absurd (omega arith)
  at-nth d (y ∷ l) zero h = refl
  at-nth d (y ∷ l) (suc v) h = at-nth d l v (omega arith)

module _ (ps : List Production) (l : List Kind) (ls : List (List Kind)) where
  abbrev level : List Production
  level = ps ++ map unnamed l

  choices-at : (v : ℕ) {p : Production} → get_elem? level v ≡ some p
      → get_elem? (choices level (leveled ls)) v ≡ some (some p)
  unfolding choices
  choices-at v e =
      at_front (map some level) (cond (all_empty (leveled ls)) [] (none ∷ [])) v
      (at_map some level v e)

  choices-learned : (v : ℕ) {p : Production} → get_elem? ps v ≡ some p
      → get_elem? (choices level (leveled ls)) v ≡ some (some p)
  choices-learned v e = choices-at v (at_front ps (map unnamed l) v e)

  choices-kind : (v : ℕ) → v < length l
      → get_elem? (choices level (leveled ls)) (length ps + v) ≡ some (some (unnamed (get_or l v SD)))
  choices-kind v h =
      choices-at (length ps + v)
      (at_back ps (map unnamed l) v (at_map unnamed l v (at-nth SD l v h)))

  choices-on : no_kinds ls ≡ false
      → get_elem? (choices level (leveled ls)) (length ps + length l) ≡ some none
  unfolding choices
  choices-on t =
      let n : length (map some level) + 0 ≡ length ps + length l =
      omega (arith, length-map level (λ (p : Production). some p), level-count ps l ls) in
      ap (get_elem? (map some level ++ cond (all_empty (leveled ls)) [] (none ∷ []))) (sym n)
      ∙ at_back (map some level) (cond (all_empty (leveled ls)) [] (none ∷ [])) 0
      (rw (none_left ls, t))

-- ---- a code of a level

pub after_none : (x : Code) → after_learned 0 x ≡ x
unfolding after_learned raised_by
after_none x = go x.parts
  where
    go : (vs : List ℕ)
        → ◌≡◌ {A = Code} (record { parts = raised_by 0 vs; production = x.production })
        (record { parts = vs; production = x.production })
    go [] = refl
    go (v ∷ vs) =
        ap (λ n. record { parts = n ∷ vs; production = x.production }) (zero-add v)

module _ {a : Alignment} (ps : List Production) (l : List Kind) (ls : List (List Kind))
    {stream : List ℕ} {at number value next : ℕ}
    (g : PartRead a stream at (length ps + values_of l ls) number value next) where
  abbrev Answers : ℕ → ℕ → (Code → Type 0) → Type 0
  Answers n q good = Outcome (read_code a (with_learned ps (l ∷ ls))) stream at n q good

  pub first-refused : 0 < number → {q : ℕ} {good : Code → Type 0} → Answers number q good
  unfolding with_learned
  first-refused h = level-refused a _ (leveled ls) g (choices-count ps l ls) h

  module _ (z : number ≡ 0) where
    pub first-learned : {p : Production} → get_elem? ps value ≡ some p
        → {good : Code → Type 0} → good (at_level value p) → Answers 0 next good
    unfolding with_learned
    first-learned e h =
        level-here a _ (leveled ls) g (choices-count ps l ls) z
        (choices-learned ps l ls value e) h

    -- A production of the level that is not learned, the one with number v.
    pub first-fixed : (v : ℕ) → length ps + v ≡ value → v < length l → {k : ℕ}
        → k ≡ kind_number (get_or l v SD) → {good : Code → Type 0}
        → ((x : Code) → FixedCode (l ∷ ls) k x → good (after_learned (length ps) x))
        → Answers 0 next good
    unfolding with_learned after_learned raised_by at_level unnamed
    first-fixed v e b k {good} h =
        level-here a _ (leveled ls) g (choices-count ps l ls) z
        (ap (get_elem? (choices (ps ++ map unnamed l) (leveled ls))) (sym e)
        ∙ choices-kind ps l ls v b)
        (subst (λ n. good (at_level n (unnamed (get_or l v SD)))) e
        (h (at_level v (unnamed (get_or l v SD))) (record { reaches = on_level v b; is = sym k })))

    more : length ps + length l ≤ value
        → (no_kinds ls ≡ false) × (value ≡ length ps + length l)
    more b =
        split (no_kinds ls)
        (λ y. absurd (omega (arith, rw y at (g.below z))))
        (λ y. (y, omega (arith, rw y at (g.below z))))

    -- One of a level below.
    pub first_below : length ps + length l ≤ value → {n q k : ℕ}
        → Outcome (read_code a (leveled ls)) stream next n q (FixedCode ls k)
        → {good : Code → Type 0}
        → (n ≡ 0 → (x : Code) → FixedCode (l ∷ ls) k x → good (after_learned (length ps) x))
        → Answers n q good
    unfolding with_learned after_learned raised_by below
    first_below b o {good} h =
        let (some_left, e) = more b in
        level-below a _ (leveled ls) g (choices-count ps l ls) z
        (ap (get_elem? (choices (ps ++ map unnamed l) (leveled ls))) e
        ∙ choices-on ps l ls some_left) o
        (λ y x f. subst (λ n. good (below n x)) (sym e)
        (h y (below (length l) x) (record { reaches = in-next f.reaches; is = f.is })))

-- ---- where a table has no level

-- A choice among nothing takes no bits.
nothing_read : (a : Alignment) (bs : Bits)
    → read_code a [] bs ≡ (choice {A = Option Production} a code [] >>= λ x. fail code) bs
unfolding read_code choice present fail return ◌>>=◌ and_then width width_from number_field times
    octets_for
nothing_read bit_packed bs = refl
nothing_read byte_aligned bs = refl

-- There a part is refused.
module _ {a : Alignment} {stream : List ℕ} {at number value next : ℕ}
    (g : PartRead a stream at (0 + values_of [] []) number value next) where
  over-number : 0 < number
  unfolding no_kinds
  over-number =
      split (ltb 0 number) (λ t. ltb-true 0 number t)
      (λ t. absurd (omega (arith, g.below (omega (arith, ltb-false 0 number t)))))

  over-refused : {q : ℕ} {good : Code → Type 0} → Outcome (read_code a []) stream at number q good
  unfolding no_kinds
  over-refused =
      refused-outcome
      (declined-as (nothing_read a _)
      (declined-then (λ x. fail code) (g.refused over-number [] (omega arith))))

-- ---- a whole table, where these are learned

-- The part of its first level.
abbrev pub FirstRead :
    Alignment → List Production → List (List Kind) → List ℕ → ℕ → ℕ → ℕ → ℕ → Type 0
FirstRead a ps t stream at number value next =
    PartRead a stream at (length ps + values_of (get_or t 0 []) (drop 1 t)) number value next

module _ {a : Alignment} (ps : List Production) {stream : List ℕ}
    {at number value next : ℕ} where
  -- Nothing is learned where the table is empty.
  over_first : ps ≡ [] → FirstRead a ps [] stream at number value next
      → PartRead a stream at (0 + values_of [] []) number value next
  over_first empty g =
      subst (λ n. PartRead a stream at (n + values_of [] []) number value next) (ap length empty) g

  pub table-refused : (t : List (List Kind)) → (t ≡ [] → ps ≡ [])
      → FirstRead a ps t stream at number value next → 0 < number
      → {q : ℕ} {good : Code → Type 0}
      → Outcome (read_code a (with_learned ps t)) stream at number q good
  unfolding with_learned
  table-refused [] empty g h = over-refused (over_first (empty refl) g)
  table-refused (l ∷ ls) empty g h = first-refused ps l ls g h

  module _ (z : number ≡ 0) where
    pub table-learned : (t : List (List Kind)) → (t ≡ [] → ps ≡ [])
        → FirstRead a ps t stream at number value next
        → {p : Production} → get_elem? ps value ≡ some p → {good : Code → Type 0}
        → good (at_level value p)
        → Outcome (read_code a (with_learned ps t)) stream at 0 next good
    unfolding with_learned
    table-learned [] empty g e h = absurd (omega (arith, over-number (over_first (empty refl) g)))
    table-learned (l ∷ ls) empty g e h = first-learned ps l ls g z e h

    pub table-fixed : (t : List (List Kind)) → (t ≡ [] → ps ≡ [])
        → FirstRead a ps t stream at number value next
        → (v : ℕ) → length ps + v ≡ value → v < length (get_or t 0 []) → {k : ℕ}
        → k ≡ kind_number (get_or (get_or t 0 []) v SD) → {good : Code → Type 0}
        → ((x : Code) → FixedCode t k x → good (after_learned (length ps) x))
        → Outcome (read_code a (with_learned ps t)) stream at 0 next good
    table-fixed [] empty g v e b k h = absurd (omega arith)
    table-fixed (l ∷ ls) empty g v e b k h = first-fixed ps l ls g z v e b k h

    pub table_below : (t : List (List Kind)) → (t ≡ [] → ps ≡ [])
        → FirstRead a ps t stream at number value next
        → length ps + length (get_or t 0 []) ≤ value → {n q k : ℕ}
        → Outcome (read_code a (leveled (drop 1 t))) stream next n q (FixedCode (drop 1 t) k)
        → {good : Code → Type 0}
        → (n ≡ 0 → (x : Code) → FixedCode t k x → good (after_learned (length ps) x))
        → Outcome (read_code a (with_learned ps t)) stream at n q good
    table_below [] empty g b o h = absurd (omega (arith, over-number (over_first (empty refl) g)))
    table_below (l ∷ ls) empty g b o h = first_below ps l ls g z b o h

-- ---- where nothing is learned

pub unlearned : (t : List (List Kind)) → with_learned [] t ≡ leveled t
unfolding with_learned leveled
unlearned [] = refl
unlearned (l ∷ ls) = refl

same_code : (t : List (List Kind)) (k : ℕ) (x : Code) → FixedCode t k x
    → FixedCode t k (after_learned 0 x)
same_code t k x f = subst (FixedCode t k) (sym (after_none x)) f

module _ {a : Alignment} (t : List (List Kind)) {stream : List ℕ} {at number value next : ℕ}
    (g : FirstRead a [] t stream at number value next) where
  abbrev ReadAs : ℕ → ℕ → ℕ → Type 0
  ReadAs n q k = Outcome (read_code a (leveled t)) stream at n q (FixedCode t k)

  pub lower-refused : 0 < number → {q k : ℕ} → ReadAs number q k
  lower-refused h = rw (sym (unlearned t)) (table-refused [] t (λ e. refl) g h)

  pub lower-fixed : number ≡ 0 → value < length (get_or t 0 []) → {k : ℕ}
      → k ≡ kind_number (get_or (get_or t 0 []) value SD) → ReadAs 0 next k
  lower-fixed z b {k} e =
      rw (sym (unlearned t))
      (table-fixed [] z t (λ e. refl) g value (omega arith) b e (same_code t k))

  pub lower-below : number ≡ 0 → length (get_or t 0 []) ≤ value → {n q k : ℕ}
      → Outcome (read_code a (leveled (drop 1 t))) stream next n q (FixedCode (drop 1 t) k)
      → ReadAs n q k
  lower-below z b {k = k} o =
      rw (sym (unlearned t))
      (table_below [] z t (λ e. refl) g (omega arith) o (λ _. same_code t k))
