-- The table, cell by cell, and what one computed test says of it.
use Prim.Native.Nat.{ℕ, zero, suc, ◌+◌, ◌≤◌, ◌<◌}
use native.Mathlib.Omega.{arith}
use mathlib.Core.Path.{◌≡◌, refl, sym, ap, ◌∙◌}
use mathlib.Core.Bool.{Bool, true, false, ◌&&◌, ◌||◌, not, true≢false}
use mathlib.Core.List.{List, [], ◌∷◌}
use lib.ListN.{length, get_or, drop, length-drop}
use lib.Dec.{T, eqb, leb, ltb, leb→le}
use borrow.Author.Tests.{eqb-true, eq-eqb, ne_eqb, ltb-true, leb-true, le-ltb, lt-leb}
use Rattle.spec_fields.proofs.Tests.{split, T-is, is_t, left, right}
use Rattle.spec_exi.specs.Event.{Kind, SD, ED, SE, AT, EE, CH, CM, PI}
use Rattle.spec_exi.specs.Grammar.{kind_number}
use Rattle.event_code.specs.Numbers.{in_document, in_doc_content, in_doc_end, in_fragment, in_tag, in_element}
use Rattle.event_code.specs.Numbers.{number_of_se, number_of_ee, number_of_ch}
use Rattle.event_code.specs.Numbers.{number_of_cm, number_of_pi, kinds}
use Rattle.grammar_codes.specs.Table.{kept_kinds, tables, table_of, level_at, no_kinds, values_at, max_levels}
use Rattle.grammar_codes.specs.Table.{CountAt, Stands}

-- What `nth` answers, for a list of at most four.
pub nth-is : (f : ℕ → ℕ) {a b c d : ℕ} → a ≡ f 0 → b ≡ f 1 → c ≡ f 2 → d ≡ f 3
    → ((n : ℕ) → f (suc (suc (suc (suc n)))) ≡ 0) → (i : ℕ)
    → get_or (a ∷ b ∷ c ∷ d ∷ []) i 0 ≡ f i
nth-is f e g h k z zero = e
nth-is f e g h k z (suc zero) = g
nth-is f e g h k z (suc (suc zero)) = h
nth-is f e g h k z (suc (suc (suc zero))) = k
nth-is f e g h k z (suc (suc (suc (suc n)))) = sym (z n)

-- ---- one test of the whole table

-- A kind with this number is among these.
unfoldable pub has_in : ℕ → List Kind → Bool
has_in k [] = false
has_in k (x ∷ xs) = eqb (kind_number x) k || has_in k xs

unfoldable pub in_table : ℕ → List (List Kind) → Bool
in_table k [] = false
in_table k (l ∷ ls) = has_in k l || in_table k ls

-- No kind stands twice.
unfoldable pub once : List Kind → List (List Kind) → Bool
once [] ls = true
once (x ∷ xs) ls =
    not (has_in (kind_number x) xs) && not (in_table (kind_number x) ls) && once xs ls

unfoldable pub all_once : List (List Kind) → Bool
all_once [] = true
all_once (l ∷ ls) = once l ls && all_once ls

unfoldable stands_test : ℕ → ℕ → Bool
stands_test mode k = (leb number_of_se k || ltb mode in_tag) && (ltb k number_of_ee || ltb number_of_ch k || leb in_tag mode)

unfoldable pub every : (Kind → Bool) → List Kind → Bool
every p [] = true
every p (x ∷ xs) = p x && every p xs

-- Each level is short, and its kinds stand in this state.
unfoldable fitting : ℕ → List (List Kind) → Bool
fitting mode [] = true
fitting mode (l ∷ ls) =
    leb (length l) 4 && every (λ k. stands_test mode (kind_number k)) l && fitting mode ls

unfoldable sound : ℕ → List (List Kind) → Bool
sound mode t = leb (length t) max_levels && all_once t && fitting mode t

unfoldable all_sound : (ℕ → List (List Kind) → Bool) → List (List (List Kind)) → Bool
all_sound p [] = true
all_sound p (t ∷ ts) = p 0 t && all_sound (λ n. p (suc n)) ts

each-sound : (p : ℕ → List (List Kind) → Bool) → ((n : ℕ) → p n [] ≡ true)
    → (ts : List (List (List Kind))) → all_sound p ts ≡ true → (n : ℕ) → p n (get_or ts n []) ≡ true
unfolding all_sound
each-sound p z [] h n = z n
each-sound p z (t ∷ ts) h zero =
    T-is (p 0 t) (left (p 0 t) (all_sound (λ n. p (suc n)) ts) (is_t _ h))
each-sound p z (t ∷ ts) h (suc n) =
    each-sound (λ m. p (suc m)) (λ m. z (suc m)) ts
    (T-is _ (right (p 0 t) (all_sound (λ n. p (suc n)) ts) (is_t _ h))) n

tables-sound : (c i : Bool) → all_sound sound (tables c i) ≡ true
unfolding all_sound sound all_once once has_in in_table fitting every stands_test tables kept_kinds
    kind_number
tables-sound true true = refl
tables-sound true false = refl
tables-sound false true = refl
tables-sound false false = refl

table-sound : (c i : Bool) (mode : ℕ) → sound mode (table_of c i mode) ≡ true
unfolding table_of sound all_once fitting
table-sound c i mode = each-sound sound (λ n. refl) (tables c i) (tables-sound c i) mode

-- ---- what the test says

module _ (c i : Bool) (mode : ℕ) where
  abbrev t : List (List Kind)
  t = table_of c i mode

  parts : T (leb (length t) max_levels && all_once t && fitting mode t)
  unfolding sound
  parts = is_t _ (table-sound c i mode)

  short-once : T (leb (length t) max_levels && all_once t)
  short-once = left (leb (length t) max_levels && all_once t) (fitting mode t) parts

  pub few-levels : length (table_of c i mode) ≤ max_levels
  few-levels = leb→le (length t) max_levels (left (leb (length t) max_levels) (all_once t) short-once)

  pub kinds-once : all_once (table_of c i mode) ≡ true
  kinds-once = T-is (all_once t) (right (leb (length t) max_levels) (all_once t) short-once)

  fitted : T (fitting mode t)
  fitted = right (leb (length t) max_levels && all_once t) (fitting mode t) parts

pub every-at : (p : Kind → Bool) (l : List Kind) (v : ℕ) → T (every p l) → v < length l
    → T (p (get_or l v SD))
unfolding every
every-at p [] v h b = absurd (omega arith)
every-at p (x ∷ xs) zero h b = left (p x) (every p xs) h
every-at p (x ∷ xs) (suc v) h b = every-at p xs v (right (p x) (every p xs) h) (omega arith)

module _ (mode : ℕ) where
  level-fits : (ls : List (List Kind)) (level : ℕ) → T (fitting mode ls)
      → T (leb (length (get_or ls level [])) 4
      && every (λ k. stands_test mode (kind_number k)) (get_or ls level []))
  unfolding fitting every
  level-fits [] level h = tt
  level-fits (l ∷ ls) zero h =
      left (leb (length l) 4 && every (λ k. stands_test mode (kind_number k)) l) (fitting mode ls) h
  level-fits (l ∷ ls) (suc level) h = level-fits ls level
      (right (leb (length l) 4 && every (λ k. stands_test mode (kind_number k)) l)
      (fitting mode ls) h)

  stands-is : (k : ℕ) → k < kinds → T (stands_test mode k) → Stands mode k
  unfolding stands_test
  stands-is k known h =
      let a = left (leb number_of_se k || ltb mode in_tag) (ltb k number_of_ee || ltb number_of_ch k || leb in_tag mode) h in
      let b = right (leb number_of_se k || ltb mode in_tag) (ltb k number_of_ee || ltb number_of_ch k || leb in_tag mode) h in
      record {
        known = known;
        outside = λ l. ltb-true mode in_tag (T-is _ (rw (lt-leb number_of_se k (omega arith)) at a));
        inside = λ l m. leb-true in_tag mode
            (T-is _ (rw (le-ltb k number_of_ee l, le-ltb number_of_ch k m) at b));
      }

kind-below : (k : Kind) → kind_number k < kinds
unfolding kind_number
kind-below SD = omega arith
kind-below ED = omega arith
kind-below SE = omega arith
kind-below AT = omega arith
kind-below EE = omega arith
kind-below CH = omega arith
kind-below CM = omega arith
kind-below PI = omega arith

module _ (c i : Bool) (mode level : ℕ) where
  pub few-kinds : length (level_at c i mode level) ≤ 4
  unfolding level_at
  few-kinds = leb→le _ 4
      (left (leb (length (get_or (table_of c i mode) level [])) 4) _
      (level-fits mode (table_of c i mode) level (fitted c i mode)))

  pub kind-stands : (v : ℕ) → v < length (level_at c i mode level)
      → Stands mode (kind_number (get_or (level_at c i mode level) v SD))
  unfolding level_at
  kind-stands v h =
      let l = get_or (table_of c i mode) level [] in
      stands-is mode _ (kind-below (get_or l v SD))
      (every-at (λ k. stands_test mode (kind_number k)) l v
      (right (leb (length l) 4) _ (level-fits mode (table_of c i mode) level (fitted c i mode))) h)

-- ---- how many values a part has

-- Whether one of two levels has a production.
two-levels : (ls : List (List Kind)) → length ls ≤ 2
    → no_kinds ls ≡ eqb (length (get_or ls 0 []) + length (get_or ls 1 [])) 0
unfolding no_kinds
two-levels [] h = refl
two-levels ([] ∷ []) h = refl
two-levels ((k ∷ ks) ∷ []) h =
    sym (ne_eqb (suc (length ks) + 0) 0 (λ (z : suc (length ks) + 0 ≡ 0). omega arith))
two-levels ([] ∷ [] ∷ []) h = refl
two-levels ([] ∷ (k ∷ ks) ∷ []) h =
    sym (ne_eqb (0 + suc (length ks)) 0 (λ (z : 0 + suc (length ks) ≡ 0). omega arith))
two-levels ((k ∷ ks) ∷ l ∷ []) h =
    sym (ne_eqb (suc (length ks) + length l) 0
    (λ (z : suc (length ks) + length l ≡ 0). omega arith))
two-levels (l ∷ m ∷ n ∷ ls) h = absurd (omega arith)

pub dropped : (ls : List (List Kind)) (n : ℕ) → get_or (drop n ls) 0 [] ≡ get_or ls n []
dropped ls zero = refl
dropped [] (suc n) = refl
dropped (l ∷ ls) (suc n) = dropped ls n

dropped-next : (ls : List (List Kind)) (n : ℕ) → get_or (drop n ls) 1 [] ≡ get_or ls (suc n) []
dropped-next ls zero = refl
dropped-next [] (suc n) = refl
dropped-next (l ∷ ls) (suc n) = dropped-next ls n

module _ (c i : Bool) (mode level : ℕ) where
  -- Whether a later level has a production, by the counts of two.
  later : no_kinds (drop (suc level) (table_of c i mode))
      ≡ eqb (length (level_at c i mode (suc level)) + length (level_at c i mode (suc (suc level)))) 0
  unfolding level_at
  later =
      two-levels (drop (suc level) (table_of c i mode))
      (omega (arith, few-levels c i mode, length-drop (suc level) (table_of c i mode)))
      ∙ ap (λ (l : List Kind). eqb
      (length l + length (get_or (drop (suc level) (table_of c i mode)) 1 [])) 0)
      (dropped (table_of c i mode) (suc level))
      ∙ ap (λ (l : List Kind). eqb (length (get_or (table_of c i mode) (suc level) []) + length l) 0)
      (dropped-next (table_of c i mode) (suc level))

  module _ {here next last : ℕ} (a : CountAt c i mode level here)
      (b : CountAt c i mode (level + 1) next) (d : CountAt c i mode (level + 2) last) where
    both : no_kinds (drop (suc level) (table_of c i mode)) ≡ eqb (next + last) 0
    both =
        let x : level + 1 ≡ suc level = omega arith in
        let y : level + 2 ≡ suc (suc level) = omega arith in
        let m : next ≡ length (level_at c i mode (suc level)) =
        b.is ∙ ap (λ n. length (level_at c i mode n)) x in
        let n : last ≡ length (level_at c i mode (suc (suc level))) =
        d.is ∙ ap (λ n. length (level_at c i mode n)) y in
        rw (m, n) later

    pub values-last : next + last ≡ 0 → here ≡ values_at c i mode level
    values-last z = rw (both, eq-eqb (next + last) 0 z) (omega (arith, a.is))

    pub values-more : (next + last ≡ 0 → ⊥) → here + 1 ≡ values_at c i mode level
    values-more z = rw (both, ne_eqb (next + last) 0 z) (omega (arith, a.is))

-- ---- the table's cells, state by state

pub one-kind : (v : ℕ) (k : Kind)
    → get_or (kind_number k ∷ 0 ∷ 0 ∷ 0 ∷ []) v 0 ≡ kind_number (get_or (k ∷ []) v SD)
unfolding kind_number
one-kind v k = nth-is (λ n. kind_number (get_or (k ∷ []) n SD)) refl refl refl refl (λ n. refl) v

-- The states that have no production.
pub beyond : (c i : Bool) (mode : ℕ) → (mode ≡ in_document → ⊥) → (mode ≡ in_doc_content → ⊥) → (mode ≡ in_doc_end → ⊥)
    → (mode ≡ in_tag → ⊥) → (mode ≡ in_element → ⊥) → (mode ≡ in_fragment → ⊥) → table_of c i mode ≡ []
unfolding table_of tables
beyond c i zero a b d e f g = absurd (a refl)
beyond c i (suc zero) a b d e f g = absurd (b refl)
beyond c i (suc (suc zero)) a b d e f g = absurd (d refl)
beyond c i (suc (suc (suc zero))) a b d e f g = refl
beyond c i (suc (suc (suc (suc zero)))) a b d e f g = absurd (g refl)
beyond c i (suc (suc (suc (suc (suc zero))))) a b d e f g = absurd (e refl)
beyond c i (suc (suc (suc (suc (suc (suc zero)))))) a b d e f g = absurd (f refl)
beyond c i (suc (suc (suc (suc (suc (suc (suc mode))))))) a b d e f g = refl

module _ (c i : Bool) where
  pub count-is : {mode level r : ℕ} → r ≡ length (level_at c i mode level) → CountAt c i mode level r
  count-is {mode} {level} e = record { is = e; few = omega (arith, e, few-kinds c i mode level) }

  module _ (level : ℕ) where
    pub document-count : get_or (1 ∷ 0 ∷ 0 ∷ 0 ∷ []) level 0 ≡ length (level_at c i 0 level)
    unfolding level_at table_of tables
    document-count = nth-is (λ n. length (level_at c i 0 n)) refl refl refl refl (λ n. refl) level

    pub content-count : {kept : ℕ} → kept ≡ length (kept_kinds c i)
        → get_or (1 ∷ kept ∷ 0 ∷ 0 ∷ []) level 0 ≡ length (level_at c i 1 level)
    unfolding level_at table_of tables
    content-count k =
        nth-is (λ n. length (level_at c i 1 n)) refl k refl refl (λ n. refl) level

    pub end-count : {kept : ℕ} → kept ≡ length (kept_kinds c i)
        → get_or (1 ∷ kept ∷ 0 ∷ 0 ∷ []) level 0 ≡ length (level_at c i 2 level)
    unfolding level_at table_of tables
    end-count k =
        nth-is (λ n. length (level_at c i 2 n)) refl k refl refl (λ n. refl) level

    pub tag-count : {kept : ℕ} → kept ≡ length (kept_kinds c i)
        → get_or (0 ∷ 4 ∷ kept ∷ 0 ∷ []) level 0 ≡ length (level_at c i in_tag level)
    unfolding level_at table_of tables
    tag-count k =
        nth-is (λ n. length (level_at c i in_tag n)) refl refl k refl (λ n. refl) level

    pub element-count : {kept : ℕ} → kept ≡ length (kept_kinds c i)
        → get_or (1 ∷ 2 ∷ kept ∷ 0 ∷ []) level 0 ≡ length (level_at c i in_element level)
    unfolding level_at table_of tables
    element-count k =
        nth-is (λ n. length (level_at c i in_element n)) refl refl k refl (λ n. refl) level

    pub fragment-count : {kept : ℕ} → kept ≡ length (kept_kinds c i)
        → get_or (2 ∷ kept ∷ 0 ∷ 0 ∷ []) level 0 ≡ length (level_at c i in_fragment level)
    unfolding level_at table_of tables
    fragment-count k =
        nth-is (λ n. length (level_at c i in_fragment n)) refl k refl refl (λ n. refl) level

    pub no-count : {mode : ℕ} → (mode ≡ in_document → ⊥) → (mode ≡ in_doc_content → ⊥)
        → (mode ≡ in_doc_end → ⊥) → (mode ≡ in_tag → ⊥) → (mode ≡ in_element → ⊥)
        → (mode ≡ in_fragment → ⊥) → 0 ≡ length (level_at c i mode level)
    unfolding level_at
    no-count {mode} a b d e f g = rw (beyond c i mode a b d e f g)

-- The kept kinds.
module _ (v : ℕ) where
  pub kept-both : get_or (number_of_cm ∷ number_of_pi ∷ 0 ∷ 0 ∷ []) v 0 ≡ kind_number (get_or (kept_kinds true true) v SD)
  unfolding kept_kinds kind_number
  kept-both =
      nth-is (λ n. kind_number (get_or (kept_kinds true true) n SD)) refl refl refl refl (λ n. refl) v

  pub kept-comment : get_or (number_of_cm ∷ 0 ∷ 0 ∷ 0 ∷ []) v 0 ≡ kind_number (get_or (kept_kinds true false) v SD)
  unfolding kept_kinds kind_number
  kept-comment = one-kind v CM

  pub kept-instruction : get_or (number_of_pi ∷ 0 ∷ 0 ∷ 0 ∷ []) v 0
      ≡ kind_number (get_or (kept_kinds false true) v SD)
  unfolding kept_kinds kind_number
  kept-instruction = one-kind v PI

-- `nth` past the last.
pub nth-none : (a b c d i : ℕ) → (i ≡ 0 → ⊥) → (i ≡ 1 → ⊥) → (i ≡ 2 → ⊥) → (i ≡ 3 → ⊥)
    → 0 ≡ get_or (a ∷ b ∷ c ∷ d ∷ []) i 0
nth-none a b c d zero p q r s = absurd (p refl)
nth-none a b c d (suc zero) p q r s = absurd (q refl)
nth-none a b c d (suc (suc zero)) p q r s = absurd (r refl)
nth-none a b c d (suc (suc (suc zero))) p q r s = absurd (s refl)
nth-none a b c d (suc (suc (suc (suc n)))) p q r s = refl

-- ---- an element's first part

both-are : (mode level m : ℕ) → (eqb mode m && eqb level 0) ≡ true → (mode ≡ m) × (level ≡ 0)
both-are mode level m e =
    split (eqb mode m)
    (λ a. split (eqb level 0)
    (λ b. (eqb-true mode m a, eqb-true level 0 b))
    (λ b. absurd (true≢false (sym e ∙ rw (a, b)))))
    (λ a. absurd (true≢false (sym e ∙ rw a)))

module _ (comments instructions : Bool) (mode level : ℕ) where
  pub values-content : (eqb mode in_element && eqb level 0) ≡ true
      → 2 ≡ values_at comments instructions mode level
  unfolding tables table_of level_at no_kinds
  values-content e = let (a, b) = both-are mode level in_element e in rw (a, b)

  pub values-tag : (eqb mode in_tag && eqb level 0) ≡ true
      → 1 ≡ values_at comments instructions mode level
  unfolding tables table_of level_at no_kinds
  values-tag e = let (a, b) = both-are mode level in_tag e in rw (a, b)
