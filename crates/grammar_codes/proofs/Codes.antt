-- The table's event codes are the definitions'.
use Prim.Native.Nat.{ℕ, zero, suc, ◌+◌, ◌<◌}
use native.Mathlib.Omega.{arith}
use mathlib.Core.Path.{◌≡◌, refl, sym, ap, ◌∙◌}
use mathlib.Core.Bool.{Bool, true, false, cond, ◌&&◌, not, true≢false}
use mathlib.Core.List.{List, [], ◌∷◌, ◌++◌, map, append-nil}
use mathlib.Core.Option
use mathlib.Core.Option.{Option, none, some, none-ne-some}
use lib.ListN.{length, get_or, length-append, length-map}
use lib.Dec.{T, eqb}
use borrow.Author.Tests.{eqb-true, eq-eqb, not-true}
use Rattle.spec_fields.proofs.Tests.{split, T-is, left, right}
use Rattle.text.specs.Text.{Text}
use Rattle.text.proofs.Equal.{eq_text-no}
use Rattle.spec_exi.specs.Event.{Event, Kind, SD, CM, PI, kind_of}
use Rattle.spec_exi.specs.Settings.{Settings}
use Rattle.spec_exi.specs.Grammar.{Production, Code, unnamed, kind_number, fits_name, fits, State}
use Rattle.spec_exi.specs.Grammar.{document, doc_content, doc_end, finished, fragment_content}
use Rattle.spec_exi.specs.Grammar.{start_tag, element_content}
use Rattle.spec_exi.specs.Grammar.{Learned, site_of, learned_at, kept, levels_with, levels, at_level}
use Rattle.spec_exi.specs.Grammar.{below, raised, first_fit, code_or, code_of, same_code}
use Rattle.event_code.specs.Numbers.{mode_of}
use Rattle.grammar_codes.specs.Table.{kept_kinds, tables, table_of, leveled, with_learned}
use Rattle.grammar_codes.specs.Table.{Reaches, on_level, in-next, raised_by, after_learned}
use Rattle.grammar_codes.proofs.Table.{has_in, in_table, once, all_once}

-- ---- the definitions' levels

kept_table : (c i : Bool) → map unnamed (kept_kinds c i)
    ≡ cond c (unnamed CM ∷ []) [] ++ cond i (unnamed PI ∷ []) []
unfolding kept_kinds
kept_table true true = refl
kept_table true false = refl
kept_table false true = refl
kept_table false false = refl

-- The levels of a state are the table's, with the learned productions before the first.
pub levels-table : (s : Settings) (ls : List Learned) (st : State)
    → levels s ls st
    ≡ with_learned (learned_at (site_of st) ls) (table_of s.comments s.instructions (mode_of st))
unfolding levels levels_with kept site_of learned_at with_learned leveled table_of tables mode_of
levels-table s ls document = refl
levels-table s ls doc_content = rw (kept_table s.comments s.instructions)
levels-table s ls doc_end = rw (kept_table s.comments s.instructions)
levels-table s ls finished = refl
levels-table s ls fragment_content = rw (kept_table s.comments s.instructions)
levels-table s ls (start_tag q outer) =
    rw (kept_table s.comments s.instructions, append-nil)
levels-table s ls (element_content q outer) = rw (kept_table s.comments s.instructions)

-- ---- the first that fits

module _ (e : Event Text) where
  -- Where more productions follow.
  pub fit-left : (l k : List Production) {x : ℕ × Production} → first_fit l e ≡ some x
      → first_fit (l ++ k) e ≡ some x
  unfolding first_fit
  fit-left [] k h = absurd (none-ne-some _ h)
  fit-left (p ∷ l) k {x} h =
      split (fits p e) (λ t. rw t (rw t at h))
      (λ t. rw t (go (first_fit l e) (first_fit (l ++ k) e) (λ y q. fit-left l k q) (rw t at h)))
    where
      go : (o o' : Option (ℕ × Production)) → ((y : ℕ × Production) → o ≡ some y → o' ≡ some y)
          → Option.map raised o ≡ some x → Option.map raised o' ≡ some x
      go none o' f h = absurd (none-ne-some _ h)
      go (some y) o' f h = rw (f y refl) h

  pub fit-right : (l k : List Production) → first_fit l e ≡ none
      → first_fit (l ++ k) e ≡ Option.map (λ x. (length l + x.0, x.1)) (first_fit k e)
  unfolding first_fit raised
  fit-right [] k h = same (first_fit k e)
    where
      same : (o : Option (ℕ × Production)) → o ≡ Option.map (λ x. (0 + x.0, x.1)) o
      same none = refl
      same (some x) = let z : x.0 ≡ 0 + x.0 = omega arith in λ i. some (z i, x.1)
  fit-right (p ∷ l) k h =
      split (fits p e)
      (λ t. absurd (none-ne-some _ (sym (rw t at h))))
      (λ t. rw (t, fit-right l k (empty (first_fit l e) (rw t at h))) (next (first_fit k e)))
    where
      empty : (o : Option (ℕ × Production)) → Option.map raised o ≡ none → o ≡ none
      empty none h = refl
      empty (some x) h = absurd (none-ne-some _ (sym h))

      next : (o : Option (ℕ × Production))
          → Option.map raised (Option.map (λ x. (length l + x.0, x.1)) o)
          ≡ Option.map (λ x. (suc (length l) + x.0, x.1)) o
      next none = refl
      next (some x) =
          let z : suc (length l + x.0) ≡ suc (length l) + x.0 = omega arith in
          λ i. some (z i, x.1)

  -- The first production that fits is one of them.
  fit-below : (l : List Production) {y : ℕ × Production} → first_fit l e ≡ some y → y.0 < length l
  unfolding first_fit raised
  fit-below [] h = absurd (none-ne-some _ h)
  fit-below (p ∷ l) {y} h =
      split (fits p e) (λ t. first (rw t at h))
      (λ t. later (first_fit l e) (λ x z. fit-below l z) (rw t at h))
    where
      first : some (0, p) ≡ some y → y.0 < suc (length l)
      first z = let i : 0 ≡ y.0 = cc in omega arith

      later : (o : Option (ℕ × Production))
          → ((x : ℕ × Production) → o ≡ some x → x.0 < length l) → Option.map raised o ≡ some y
          → y.0 < suc (length l)
      later none f z = absurd (none-ne-some _ z)
      later (some x) f z = let i : suc x.0 ≡ y.0 = cc in omega (arith, f x refl)

  -- ---- among kinds

  abbrev number : ℕ
  number = kind_number (kind_of e)

  kind-none : (l : List Kind) → has_in number l ≡ false → first_fit (map unnamed l) e ≡ none
  unfolding has_in first_fit fits fits_name unnamed
  kind-none [] h = refl
  kind-none (k ∷ l) h =
      split (eqb (kind_number k) number)
      (λ t. absurd (true≢false (rw t at h)))
      (λ t. rw (t, kind-none l (rw t at h)))

  has-at : (l : List Kind) (v : ℕ) {n : ℕ} → v < length l → kind_number (get_or l v SD) ≡ n
      → has_in n l ≡ true
  unfolding has_in
  has-at [] v h k = absurd (omega arith)
  has-at (x ∷ xs) zero {n} h k = rw (eq-eqb (kind_number x) n k)
  has-at (x ∷ xs) (suc v) {n} h k =
      split (eqb (kind_number x) n) (λ t. rw t) (λ t. rw (t, has-at xs v (omega arith) k))

  -- The first of a level's kinds stands neither after it nor in a later level.
  once-parts : (x : Kind) (xs : List Kind) (ls : List (List Kind)) → T (once (x ∷ xs) ls)
      → (has_in (kind_number x) xs ≡ false) × (in_table (kind_number x) ls ≡ false) × T (once xs ls)
  unfolding once
  once-parts x xs ls o =
      let a : Bool = not (has_in (kind_number x) xs) in
      let b : Bool = not (in_table (kind_number x) ls) in
      let both : T (a && b) = left (a && b) (once xs ls) o in (
        not-true _ (T-is a (left a b both)),
        not-true _ (T-is b (right a b both)),
        right (a && b) (once xs ls) o,
      )

  kind-at : (l : List Kind) (ls : List (List Kind)) (v : ℕ) → v < length l → T (once l ls)
      → kind_number (get_or l v SD) ≡ number
      → first_fit (map unnamed l) e ≡ some (v, unnamed (get_or l v SD))
  unfolding once first_fit fits fits_name unnamed raised
  kind-at [] ls v h o k = absurd (omega arith)
  kind-at (x ∷ xs) ls zero h o k = rw (eq-eqb (kind_number x) number k)
  kind-at (x ∷ xs) ls (suc v) h o k =
      let (new, _, rest) = once-parts x xs ls o in
      split (eqb (kind_number x) number)
      (λ t.
      let z : kind_number x ≡ number = eqb-true (kind_number x) number t in
      absurd (true≢false (sym (has-at xs v (omega arith) (k ∙ sym z)) ∙ new)))
      (λ t. rw (t, kind-at xs ls v (omega arith) rest k))

  -- No kind of a level stands in a later one.
  apart : (l : List Kind) (ls : List (List Kind)) (n : ℕ) → T (once l ls) → in_table n ls ≡ true
      → has_in n l ≡ false
  unfolding once has_in
  apart [] ls n o h = refl
  apart (x ∷ xs) ls n o h =
      let (_, new, rest) = once-parts x xs ls o in
      split (eqb (kind_number x) n)
      (λ t.
      let z : kind_number x ≡ n = eqb-true (kind_number x) n t in
      absurd (true≢false (sym h ∙ ap (λ m. in_table m ls) (sym z) ∙ new)))
      (λ t. rw (t, apart xs ls n rest h))

  -- ---- a code of the table

  reached : {t : List (List Kind)} {x : Code} → Reaches t x → {n : ℕ}
      → kind_number x.production.kind ≡ n → in_table n t ≡ true
  unfolding in_table at_level below unnamed
  reached (on_level {l} {ls} v h) {n} k = rw (has-at l v h k)
  reached (in-next {l} {ls} {x} r) {n} k =
      split (has_in n l) (λ t. rw t) (λ t. rw (t, reached r k))

  reach-code : {t : List (List Kind)} {x : Code} → Reaches t x → T (all_once t)
      → kind_number x.production.kind ≡ number → code_of (leveled t) e ≡ some x
  unfolding all_once leveled code_of code_or at_level below unnamed
  reach-code (on_level {l} {ls} v h) o k =
      rw (kind-at l ls v h (left (once l ls) (all_once ls) o) k)
  reach-code (in-next {l} {ls} {x} r) o k =
      rw (
        kind-none l (apart l ls number (left (once l ls) (all_once ls) o) (reached r k)),
        reach-code r (right (once l ls) (all_once ls) o) k,
        length-map l unnamed,
      )

  module _ (ps : List Production) where
    -- Where no learned production fits, it is the event's.
    pub fixed-code : {t : List (List Kind)} {x : Code} → Reaches t x → T (all_once t)
        → kind_number x.production.kind ≡ kind_number (kind_of e) → first_fit ps e ≡ none
        → code_of (with_learned ps t) e ≡ some (after_learned (length ps) x)
    unfolding all_once with_learned after_learned raised_by code_of code_or at_level below unnamed
    fixed-code (on_level {l} {ls} v h) o k miss =
        rw (fit-right ps (map unnamed l) miss, kind-at l ls v h (left (once l ls) (all_once ls) o) k)
    fixed-code (in-next {l} {ls} {x} r) o k miss =
        rw (
          fit-right ps (map unnamed l) miss,
          kind-none l (apart l ls number (left (once l ls) (all_once ls) o) (reached r k)),
          reach-code r (right (once l ls) (all_once ls) o) k,
          length-append ps (map unnamed l),
          length-map l unnamed,
        )

    -- Where one fits, it is the event's.
    pub learned-code : (l : List Kind) (ls : List (List Kind)) {y : ℕ × Production}
        → first_fit ps e ≡ some y
        → code_of (with_learned ps (l ∷ ls)) e ≡ some (at_level y.0 y.1)
    unfolding with_learned code_of code_or
    learned-code l ls h = rw (fit-left ps (map unnamed l) h)

    loose : (l : List Kind) (ls : List (List Kind)) {y : ℕ × Production} → first_fit ps e ≡ some y
        → (v : ℕ) (vs : List ℕ)
        → same_code ((length ps + v) ∷ vs) (code_of (with_learned ps (l ∷ ls)) e) ≡ false
    unfolding same_code at_level
    loose l ls {y} h v vs =
        rw (learned-code l ls h)
        (eq_text-no ((length ps + v) ∷ vs) (y.0 ∷ [])
        (λ z. let i : length ps + v ≡ y.0 = cc in omega (arith, fit-below ps h)))

    -- And a code of the table is not.
    pub fixed-loose : {t : List (List Kind)} {x : Code} → Reaches t x → {y : ℕ × Production}
        → first_fit ps e ≡ some y
        → same_code (after_learned (length ps) x).parts (code_of (with_learned ps t) e) ≡ false
    unfolding after_learned raised_by at_level below
    fixed-loose (on_level {l} {ls} v h) f = loose l ls f v []
    fixed-loose (in-next {l} {ls} {x} r) f = loose l ls f (length l) x.parts
