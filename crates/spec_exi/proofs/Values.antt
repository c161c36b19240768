-- Adding a value does what EXI 7.3.3 says (specs/Values.antt): the list of all values that were ever
-- added, cut where the one with exi_global_id stands.
use Prim.Native.Nat.{ℕ, zero, suc, ◌+◌, ◌-◌, ◌≤◌, ◌<◌}
use native.Mathlib.Omega.{arith}
use mathlib.Core.Path.{◌≡◌, refl, sym, ap, ◌∙◌, subst}
use mathlib.Core.Bool.{true, false, cond, not, ◌&&◌}
use mathlib.Core.List.{List, [], ◌∷◌, ◌++◌, map, map-append, append-nil, append_assoc}
use mathlib.Core.Option.{Option, none, some}
use lib.ListN.{length, take, drop, length-append, length-drop, length-map}
use lib.ListN.{take-append-drop, get_or-eq_default}
use lib.Dec.{T, eqb, ltb}
use borrow.Author.Tests.{eqb-true, eqb-false, ltb-true, ltb-false}
use Rattle.spec_fields.proofs.Tests.{T-is, split}
use Rattle.text.specs.Text.{Text, is_empty}
use Rattle.spec_exi.specs.Event.{QName, eq_name}
use Rattle.spec_exi.specs.Tables.{Entry, Values, Tables, Slot, partition, replaced}
use Rattle.spec_exi.specs.Tables.{global_id, gone, present_values, slot_after, local_slots}
use Rattle.spec_exi.specs.Tables.{values_of, by_number, all_values, value, joins, is_zero, at_most}
use Rattle.spec_exi.specs.Tables.{new_entry, new_value, with_values, laid, added}
use Rattle.spec_exi.specs.Values.{exi_global_id, next_id, slot_at, put_at, given, with_own, Removes}
use Rattle.spec_exi.specs.Values.{nothing, removes, AddsValue, ValueRules}
use Rattle.spec_exi.proofs.Codes.{eq_name-refl}
use Rattle.spec_exi.proofs.Unplaced.{map-take, map-drop}

-- ---- exi_global_id

module _ (c : ℕ) (pos : 0 < c) where
  id_below : (n : ℕ) → global_id (some c) n < c
  unfolding global_id
  id_below zero = pos
  id_below (suc n) =
      let l : global_id (some c) n < c = id_below n in
      split (eqb (suc (global_id (some c) n)) c) (λ e. rw e pos)
      (λ e. rw e (omega (arith, eqb-false (suc (global_id (some c) n)) c e)))

  -- Until the capacity is reached it counts the values.
  id-first : (n : ℕ) → n < c → global_id (some c) n ≡ n
  unfolding global_id
  id-first zero h = refl
  id-first (suc n) h =
      let r : global_id (some c) n ≡ n = id-first n (omega arith) in
      split (eqb (suc (global_id (some c) n)) c)
      (λ e. absurd (omega (arith, eqb-true (suc (global_id (some c) n)) c e)))
      (λ e. rw e (ap suc r))

-- ---- lists

module _ {A : Type 0} where
  drop-front : (a b : List A) → drop (length a) (a ++ b) ≡ b
  drop-front [] b = refl
  drop-front (x ∷ a) b = drop-front a b

  take-front : (a b : List A) → take (length a) (a ++ b) ≡ a
  take-front [] b = refl
  take-front (x ∷ a) b = ap (λ l. x ∷ l) (take-front a b)

  -- The newest come first.
  numbered : (a b : List A) → by_number (length b) (a ++ b) ≡ b ++ a
  unfolding by_number
  numbered a b =
      let e : length (a ++ b) - length b ≡ length a = omega (arith, length-append a b) in
      rw e (rw (drop-front a b, take-front a b) refl)

  all_new : (l : List A) → by_number (length l) l ≡ l
  all_new l = numbered [] l ∙ append-nil l

  none-new : (l : List A) → by_number 0 l ≡ l
  none-new l = ap (by_number 0) (sym (append-nil l)) ∙ numbered l []

  put : ℕ → A → List A → List A
  put i x l = take i l ++ (x ∷ drop (suc i) l)

  put-end : (x : A) (l : List A) → put (length l) x l ≡ l ++ (x ∷ [])
  unfolding put
  put-end x [] = refl
  put-end x (y ∷ l) = ap (λ m. y ∷ m) (put-end x l)

  put_in : (x v : A) (b a : List A) → put (length b) x (b ++ (v ∷ a)) ≡ b ++ (x ∷ a)
  unfolding put
  put_in x v [] a = refl
  put_in x v (y ∷ b) a = ap (λ m. y ∷ m) (put_in x v b a)

  drop-behind : (h : List A) (v : A) (m : List A) → drop (suc (length h)) (h ++ (v ∷ m)) ≡ m
  drop-behind [] v m = refl
  drop-behind (x ∷ h) v m = drop-behind h v m

  -- One more, where the oldest goes: it takes the oldest one's place.
  turning : (a b : List A) (e : A) (c : ℕ) → c ≡ suc (length a + length b)
      → by_number (next_id (some c) (length b)) (a ++ (b ++ (e ∷ []))) ≡ b ++ (e ∷ a)
  turning [] b e c s =
      split (eqb (suc (length b)) c) (λ t. rw t (none-new (b ++ (e ∷ []))))
      (λ t. absurd (omega (arith, eqb-false (suc (length b)) c t)))
  turning (x ∷ a) b e c s =
      split (eqb (suc (length b)) c)
      (λ t. absurd (omega (arith, eqb-true (suc (length b)) c t)))
      (λ t.
      let n : suc (length b) ≡ length (b ++ (e ∷ [])) =
      sym (length-append b (e ∷ []) ∙ (omega arith)) in
      rw t
      (ap (λ i. by_number i ((x ∷ a) ++ (b ++ (e ∷ [])))) n ∙ numbered (x ∷ a) (b ++ (e ∷ []))
      ∙ append_assoc b (e ∷ []) (x ∷ a)))

-- ---- where the value with exi_global_id stands among all that were added: nowhere, or after those that
-- are gone, and before the newest

data Stands {A : Type 0} (l : List A) : Option ℕ → Type 0 where
  room : {cap : Option ℕ} → global_id cap (length l) ≡ length l → replaced cap (length l) ≡ 0
      → replaced cap (suc (length l)) ≡ 0 → Stands l cap
  full : {c : ℕ} (h a b : List A) (v : A) → l ≡ h ++ (v ∷ (a ++ b))
      → c ≡ suc (length a + length b) → global_id (some c) (length l) ≡ length b
      → Stands l (some c)

module _ {A : Type 0} (l : List A) where
  cut : (c : ℕ) (h x b : List A) → l ≡ h ++ (x ++ b) → length x + length b ≡ c
      → global_id (some c) (length l) ≡ length b → length b < c → Stands l (some c)
  cut c h [] b e s g lt = absurd (omega arith)
  cut c h (v ∷ a) b e s g lt = full {c = c} h a b v e (omega arith) g

  stands : (cap : Option ℕ) → is_zero cap ≡ false → Stands l cap
  unfolding global_id replaced is_zero
  stands none z = room refl refl refl
  stands (some c) z =
      let pos : 0 < c = omega (arith, eqb-false c 0 z) in
      split (ltb (length l) c)
      (λ t.
      let lt : length l < c = ltb-true (length l) c t in
      room (id-first c pos (length l) lt) (omega arith) (omega arith))
      (λ t.
      let le : c ≤ length l = ltb-false (length l) c t in
      let p : List A = drop (length l - c) l in
      let k : ℕ = c - global_id (some c) (length l) in
      let below : global_id (some c) (length l) < c = id_below c pos (length l) in
      let many : length (drop (length l - c) l) ≡ c =
      length-drop (length l - c) l ∙ (omega arith) in
      let news : length (drop k p) ≡ global_id (some c) (length l) =
      length-drop k p ∙ (omega (arith, many)) in
      cut c (take (length l - c) l) (take k p) (drop k p)
      (sym (take-append-drop (length l - c) l)
      ∙ ap (λ m. take (length l - c) l ++ m) (sym (take-append-drop k p)))
      (sym (length-append (take k p) (drop k p)) ∙ ap length (take-append-drop k p) ∙ many)
      (sym news) (omega (arith, news, below)))

  grown : (e : A) → length (l ++ (e ∷ [])) ≡ suc (length l)
  grown e = length-append l (e ∷ []) ∙ (omega arith)

next-is : (cap : Option ℕ) (n : ℕ) → global_id cap (suc n) ≡ next_id cap (global_id cap n)
unfolding global_id
next-is none n = refl
next-is (some c) n = refl

-- ---- the global partition

-- The values present, by their numbers.
present : {A : Type 0} → Option ℕ → List A → List A
present cap l = by_number (global_id cap (length l)) (drop (replaced cap (length l)) l)

module _ {A : Type 0} where
  whole : (cap : Option ℕ) (n : ℕ) (m : List A) → global_id cap n ≡ n → length m ≡ suc n
      → by_number (global_id cap (suc n)) m ≡ m
  unfolding global_id
  whole none n m g s = ap (λ i. by_number i m) (sym s) ∙ all_new m
  whole (some c) n m g s =
      split (eqb (suc (global_id (some c) n)) c) (λ t. rw t (none-new m))
      (λ t. rw t (ap (λ i. by_number i m) (ap suc g ∙ sym s) ∙ all_new m))

  present-all : (cap : Option ℕ) (l : List A) → global_id cap (length l) ≡ length l
      → replaced cap (length l) ≡ 0 → present cap l ≡ l
  unfolding present
  present-all cap l g z = rw (g, z) (all_new l)

  full-before : (c : ℕ) (h a b : List A) (v : A) → c ≡ suc (length a + length b)
      → global_id (some c) (length (h ++ (v ∷ (a ++ b)))) ≡ length b
      → present (some c) (h ++ (v ∷ (a ++ b))) ≡ b ++ (v ∷ a)
  unfolding present replaced
  full-before c h a b v s g =
      let n : length (h ++ (v ∷ (a ++ b))) - c ≡ length h =
      omega (arith, length-append h (v ∷ (a ++ b)), length-append a b) in
      rw (g, n) (rw (drop-front h (v ∷ (a ++ b))) (numbered (v ∷ a) b))

  full-after : (c : ℕ) (h a b : List A) (v e : A) → c ≡ suc (length a + length b)
      → global_id (some c) (length (h ++ (v ∷ (a ++ b)))) ≡ length b
      → present (some c) ((h ++ (v ∷ (a ++ b))) ++ (e ∷ [])) ≡ b ++ (e ∷ a)
  unfolding present replaced
  full-after c h a b v e s g =
      let l : List A = h ++ (v ∷ (a ++ b)) in
      let many : length (h ++ (v ∷ (a ++ b))) ≡ length h + c =
      length-append h (v ∷ (a ++ b)) ∙ (omega (arith, length-append a b)) in
      let n : length ((h ++ (v ∷ (a ++ b))) ++ (e ∷ [])) - c ≡ suc (length h) =
      omega (arith, grown l e) in
      let i : global_id (some c) (length ((h ++ (v ∷ (a ++ b))) ++ (e ∷ [])))
      ≡ next_id (some c) (length b) =
      ap (global_id (some c)) (grown l e) ∙ next-is (some c) (length l)
      ∙ ap (next_id (some c)) g in
      rw (i, n)
      (rw (append_assoc h (v ∷ (a ++ b)) (e ∷ []))
      (rw (drop-behind h v ((a ++ b) ++ (e ∷ [])))
      (ap (by_number (next_id (some c) (length b))) (append_assoc a b (e ∷ []))
      ∙ turning a b e c s)))

  -- The new value is put where exi_global_id is.
  turned : (cap : Option ℕ) (l : List A) (e : A) → Stands l cap
      → present cap (l ++ (e ∷ [])) ≡ put (global_id cap (length l)) e (present cap l)
  unfolding present
  turned cap l e (room g z y) =
      rw (grown l e, z, y)
      (whole cap (length l) (l ++ (e ∷ [])) g (grown l e)
      ∙ sym (ap (λ i. put i e (by_number i l)) g ∙ ap (put (length l) e) (all_new l) ∙ put-end e l))
  turned (some c) l e (full h a b v k s g) =
      subst (λ m. global_id (some c) (length m) ≡ length b
      → present (some c) (m ++ (e ∷ []))
      ≡ put (global_id (some c) (length m)) e (present (some c) m)) (sym k)
      (λ i.
      full-after c h a b v e s i
      ∙ sym (ap (λ j. put j e (present (some c) (h ++ (v ∷ (a ++ b))))) i
      ∙ ap (put (length b) e) (full-before c h a b v s i) ∙ put_in e v b a)) g

-- ---- the local partitions

-- A new value is its name's last.
local-own : (g : ℕ) (p : QName Text) (es : List (Entry (QName Text))) (e : Entry (QName Text))
    → g ≤ length es
    → local_slots g p (es ++ (e ∷ []))
    ≡ local_slots g p es ++ cond (eq_name p e.key) (some e.string ∷ []) []
unfolding local_slots slot_after
local-own zero p [] e h = split (eq_name p e.key) (λ t. rw t refl) (λ t. rw t refl)
local-own (suc g) p [] e h = absurd (omega arith)
local-own g p (y ∷ es) e h =
    let r : local_slots (g - 1) p (es ++ (e ∷ []))
    ≡ local_slots (g - 1) p es ++ cond (eq_name p e.key) (some e.string ∷ []) [] =
    local-own (g - 1) p es e (omega arith) in
    split (eq_name p y.key) (λ t. rw t (ap (λ m. slot_after g y.string ∷ m) r)) (λ t. rw t r)

module _ (p : QName Text) (v : Entry (QName Text)) (m : List (Entry (QName Text))) where
  -- One more is gone: its number alone is unassigned.
  local-off : (h : List (Entry (QName Text)))
      → local_slots (suc (length h)) p (h ++ (v ∷ m))
      ≡ cond (eq_name p v.key) (put_at (given p h) none (local_slots (length h) p (h ++ (v ∷ m))))
      (local_slots (length h) p (h ++ (v ∷ m)))
  unfolding local_slots slot_after partition
  local-off [] = split (eq_name p v.key) (λ t. rw t refl) (λ t. rw t refl)
  local-off (y ∷ h) =
      let r : local_slots (suc (length h)) p (h ++ (v ∷ m))
      ≡ cond (eq_name p v.key) (put_at (given p h) none (local_slots (length h) p (h ++ (v ∷ m))))
      (local_slots (length h) p (h ++ (v ∷ m))) = local-off h in
      let a : suc (suc (length h)) - 1 ≡ suc (length h) = omega arith in
      let b : suc (length h) - 1 ≡ length h = omega arith in
      split (eq_name p y.key)
      (λ t. rw (t, a, b, r) (split (eq_name p v.key) (λ u. rw u refl) (λ u. rw u refl)))
      (λ t. rw (t, a, b, r) refl)

  local-had : T (eq_name p v.key) → (h : List (Entry (QName Text)))
      → slot_at (local_slots (length h) p (h ++ (v ∷ m))) (given p h) ≡ some v.string
  unfolding local_slots slot_after partition
  local-had k [] = rw (T-is (eq_name p v.key) k) refl
  local-had k (y ∷ h) =
      let b : suc (length h) - 1 ≡ length h = omega arith in
      split (eq_name p y.key) (λ t. rw (t, b) (local-had k h)) (λ t. rw (t, b) (local-had k h))

-- ---- one value more

string-of : Entry (QName Text) → Slot
string-of x = some x.string

last-slot : (b a : List (Entry (QName Text))) (v : Entry (QName Text))
    → slot_at (map string-of (b ++ (v ∷ a))) (length b) ≡ some v.string
unfolding string-of
last-slot [] a v = refl
last-slot (y ∷ b) a v = last-slot b a v

map-put : {A B : Type 0} (f : A → B) (i : ℕ) (x : A) (l : List A)
    → map f (put i x l) ≡ put i (f x) (map f l)
unfolding put
map-put f i x l =
    map-append f (take i l) (x ∷ drop (suc i) l)
    ∙ cc (map-take f i l, map-drop f (suc i) l)

module _ (t : Tables) (q : QName Text) (x : Text) (j : joins t.values x ≡ true) where
  new : Entry (QName Text)
  new = record { key = q; string = laid t x }

  abbrev es : List (Entry (QName Text))
  es = t.values.added

  abbrev cap : Option ℕ
  cap = t.values.capacity

  more : (added t (value q) x).values.added ≡ es ++ (new ∷ [])
  unfolding added with_values new_value new_entry laid new
  more = rw j refl

  global-is : all_values t ≡ map string-of (present cap es)
  unfolding all_values present_values gone present string-of
  global-is = refl

  global-more : all_values (added t (value q) x) ≡ map string-of (present cap (es ++ (new ∷ [])))
  unfolding all_values present_values gone present string-of added with_values new_value new_entry laid new
  global-more = rw j refl

  not-closed : is_zero cap ≡ false
  unfolding joins
  not-closed =
      split (is_zero cap)
      (λ e.
      absurd (false-true
      (subst (λ b. (not b && not (is_empty x) && at_most (length x) t.values.longest) ≡ true) e j)))
      (λ e. e)
    where
      false-true : false ≡ true → ⊥
      false-true e = subst T (sym e) tt

  global-put : Stands es cap
      → all_values (added t (value q) x) ≡ put_at (exi_global_id t) (some (laid t x)) (all_values t)
  unfolding put string-of new
  global-put s =
      global-more ∙ ap (map string-of) (turned cap es new s)
      ∙ map-put string-of (exi_global_id t) new (present cap es)
      ∙ ap (put_at (exi_global_id t) (some (laid t x))) (sym global-is)

  next_more : exi_global_id (added t (value q) x) ≡ next_id cap (exi_global_id t)
  unfolding added with_values
  next_more =
      ap (λ l. global_id cap (length l)) more ∙ ap (global_id cap) (grown es new)
      ∙ next-is cap (length es)

  local-more : (p : QName Text) (g : ℕ) → replaced cap (suc (length es)) ≡ g → g ≤ length es
      → values_of (added t (value q) x) p ≡ with_own t q x p (local_slots g p es)
  unfolding values_of gone new added with_values
  local-more p g e h =
      ap (λ l. local_slots (replaced cap (length l)) p l) more
      ∙ ap (λ n. local_slots (replaced cap n) p (es ++ (new ∷ []))) (grown es new)
      ∙ ap (λ n. local_slots n p (es ++ (new ∷ []))) e ∙ local-own g p es new h

  -- The slots of a name, where those of h are gone.
  local-was : (p : QName Text) (g : ℕ) (l : List (Entry (QName Text)))
      → replaced cap (length es) ≡ g → es ≡ l → values_of t p ≡ local_slots g p l
  unfolding values_of gone
  local-was p g l e k = ap (λ n. local_slots n p es) e ∙ ap (local_slots g p) k

  slot_is : (b a : List (Entry (QName Text))) (v : Entry (QName Text)) → exi_global_id t ≡ length b
      → present cap es ≡ b ++ (v ∷ a) → slot_at (all_values t) (exi_global_id t) ≡ some v.string
  slot_is b a v g e =
      ap (λ l. slot_at l (exi_global_id t)) (global-is ∙ ap (map string-of) e)
      ∙ ap (slot_at (map string-of (b ++ (v ∷ a)))) g ∙ last-slot b a v

  local-removes : (d : Option ℕ) → cap ≡ d → Stands es d → Removes t q x
  unfolding replaced
  local-removes d e (room g z y) =
      let z : replaced cap (length es) ≡ 0 = ap (λ k. replaced k (length es)) e ∙ z in
      let i : exi_global_id t ≡ length es = ap (λ k. global_id k (length es)) e ∙ g in
      nothing
      (ap (λ l. slot_at l (exi_global_id t)) (global-is ∙ ap (map string-of) (present-all cap es i z))
      ∙ get_or-eq_default (map string-of es) none
      (omega (arith, length-map es string-of, i)))
      (λ p.
      local-more p 0 (ap (λ k. replaced k (suc (length es))) e ∙ y) (omega arith)
      ∙ ap (with_own t q x p) (sym (local-was p 0 es z refl)))
  local-removes (some c) e (full h a b v k s g) =
      let i : exi_global_id t ≡ length b = ap (λ d. global_id d (length es)) e ∙ g in
      let many : length es ≡ length h + c =
      ap length k ∙ length-append h (v ∷ (a ++ b)) ∙ (omega (arith, length-append a b)) in
      let was : (p : QName Text) → values_of t p ≡ local_slots (length h) p (h ++ (v ∷ (a ++ b))) =
      λ p. local-was p (length h) (h ++ (v ∷ (a ++ b)))
      (ap (λ d. replaced d (length es)) e ∙ (omega arith)) k in
      removes h (a ++ b) v k (slot_is b a v i (full-present c h a b v e k s g))
      (ap (λ l. slot_at l (given v.key h)) (was v.key)
      ∙ local-had v.key v (a ++ b) (eq_name-refl v.key) h)
      (λ p.
      local-more p (suc (length h))
      (ap (λ d. replaced d (suc (length es))) e ∙ (omega arith)) (omega arith)
      ∙ ap (with_own t q x p)
      (ap (local_slots (suc (length h)) p) k ∙ local-off p v (a ++ b) h
      ∙ ap (λ l. cond (eq_name p v.key) (put_at (given p h) none l) l) (sym (was p))))
    where
      full-present : (c : ℕ) (h a b : List (Entry (QName Text))) (v : Entry (QName Text))
          → cap ≡ some c → es ≡ h ++ (v ∷ (a ++ b)) → c ≡ suc (length a + length b)
          → global_id (some c) (length es) ≡ length b → present cap es ≡ b ++ (v ∷ a)
      full-present c h a b v e k s g =
          ap (λ d. present d es) e ∙ ap (present (some c)) k
          ∙ full-before c h a b v s (subst (λ l. global_id (some c) (length l) ≡ length b) k g)

  adds : AddsValue t q x
  adds =
      let s : Stands es cap = stands es cap not-closed in
      record { global = global-put s; next = next_more; local = local-removes cap refl s }

-- EXI 7.3.3, as specs/Values.antt has it.
pub value-rules : ValueRules
unfolding added with_values new_value new_entry laid
value-rules =
    record {
      adds = λ t q x j. adds t q x (T-is (joins t.values x) j);
      stays = λ t q x j. rw j
          (λ i. record {
            longest = t.values.longest;
            capacity = t.values.capacity;
            added = append-nil t.values.added i;
          });
    }
