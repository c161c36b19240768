-- The same entries by rows and by names: counts, numbers of texts, and the entries themselves.
use Prim.Native.Nat.{ℕ, zero, suc, ◌-◌, ◌<◌}
use native.Mathlib.Omega.{arith}
use mathlib.Core.Path.{◌≡◌, refl, ap, ◌∙◌}
use mathlib.Core.Bool.{Bool, true, false}
use mathlib.Core.List.{List, [], ◌∷◌, ◌++◌, map}
use mathlib.Core.Option
use mathlib.Core.Option.{some}
use lib.ListN.{length, get_elem?, take, drop}
use lib.Dec.{eqb, T}
use borrow.Author.Tests.{eqb-true, eqb-false}
use Rattle.text.specs.Text.{Text}
use Rattle.spec_exi.specs.Tables.{Placed, Entry, partition, slot_after, has_text, index_of}
use Rattle.mem_chain.proofs.Last.{split}
use Rattle.mem_entries.specs.Entries.{Entries, entry_at, slots, Alike}
use Rattle.mem_entries.specs.Entries.{alike-none, alike-more, named, Keys, Keyed}

pub at_map : {A B : Type 0} (f : A → B) (l : List A) (i : ℕ)
    → get_elem? (map f l) i ≡ Option.map f (get_elem? l i)
at_map f [] i = refl
at_map f (x ∷ l) zero = refl
at_map f (x ∷ l) (suc i) = at_map f l i

pub at_entry : (es : Entries) (i : ℕ) → i < length es → get_elem? es i ≡ some (entry_at es i)
unfolding entry_at
at_entry [] i h = absurd (omega arith)
at_entry (e ∷ es) zero h = refl
at_entry (e ∷ es) (suc i) h = at_entry es i (omega arith)

pub is_true : (b : Bool) → T b → b ≡ true
is_true true t = refl
is_true false t = absurd t

pub is_false : (b : Bool) → (T b → ⊥) → b ≡ false
is_false true f = absurd (f tt)
is_false false f = refl

-- A test of names is a test of their rows, where it says T for equal names alone.
pub key-test : {K : Type 0} {name : ℕ → K} {is_key : ℕ → Bool} (same : K → K → Bool)
    → ((q : K) → T (same q q)) → ((p q : K) → T (same p q) → p ≡ q) → Keys name is_key
    → (k j : ℕ) → is_key k ≡ true → is_key j ≡ true → same (name k) (name j) ≡ eqb k j
key-test {name = name} same reflexive equal d k j p q =
    split (eqb k j)
    (λ e.
    let z : k ≡ j = eqb-true k j e in
    rw (e, z) (is_true (same (name j) (name j)) (reflexive (name j))))
    (λ e.
    rw e (is_false (same (name k) (name j))
    (λ t. eqb-false k j e (d.once k j p q (equal (name k) (name j) t)))))

keyed-tail : {is_key : ℕ → Bool} {e : Entry ℕ} {es : Entries} → Keyed is_key (e ∷ es) → Keyed is_key es
unfolding entry_at
keyed-tail o = record { each = λ i h. o.each (suc i) (omega arith) }

keyed-head : {is_key : ℕ → Bool} {e : Entry ℕ} {es : Entries} → Keyed is_key (e ∷ es)
    → is_key e.key ≡ true
unfolding entry_at
keyed-head o = o.each 0 (omega arith)

-- ---- partitions

module _ {K : Type 0} {name : ℕ → K} {is_key : ℕ → Bool} (hasT : K → Bool) (hasE : ℕ → Bool)
    (same : (j : ℕ) → is_key j ≡ true → hasT (name j) ≡ hasE j) where
  slot_same : (x : Text) (low : ℕ) (a b : Placed) → a.text ≡ b.text
      → has_text (slot_after low a) x ≡ has_text (slot_after low b) x
  unfolding has_text slot_after
  slot_same x zero a b e = rw e
  slot_same x (suc low) a b e = refl

  pub alike-index : {ts : List (Entry K)} {es : Entries} → Alike name ts es → Keyed is_key es
      → (x : Text) (low : ℕ) → index_of (slots low hasT ts) x ≡ index_of (slots low hasE es) x
  unfolding slots index_of
  alike-index alike-none o x low = refl
  alike-index (alike-more {t} {e} {ts} {es} key text rest) o x low =
      let r : index_of (slots (low - 1) hasT ts) x ≡ index_of (slots (low - 1) hasE es) x =
      alike-index rest (keyed-tail o) x (low - 1) in
      let q : hasT t.key ≡ hasE e.key = ap hasT key ∙ same e.key (keyed-head o) in
      let s : has_text (slot_after low t.string) x ≡ has_text (slot_after low e.string) x =
      slot_same x low t.string e.string text in
      split (hasE e.key)
      (λ u. rw (q, u, s, r))
      (λ u. rw (q, u, r))

  pub alike-count : {ts : List (Entry K)} {es : Entries} → Alike name ts es → Keyed is_key es
      → length (partition hasT ts) ≡ length (partition hasE es)
  unfolding partition
  alike-count alike-none o = refl
  alike-count (alike-more {t} {e} {ts} {es} key text rest) o =
      let r : length (partition hasT ts) ≡ length (partition hasE es) =
      alike-count rest (keyed-tail o) in
      let q : hasT t.key ≡ hasE e.key = ap hasT key ∙ same e.key (keyed-head o) in
      split (hasE e.key) (λ u. rw (q, u, r)) (λ u. rw (q, u, r))

  pub named-slots : (low : ℕ) (es : Entries) → Keyed is_key es
      → slots low hasT (map (named name) es) ≡ slots low hasE es
  unfolding slots named
  named-slots low [] o = refl
  named-slots low (e ∷ es) o =
      let r : slots (low - 1) hasT (map (named name) es) ≡ slots (low - 1) hasE es =
      named-slots (low - 1) es (keyed-tail o) in
      let q : hasT (name e.key) ≡ hasE e.key = same e.key (keyed-head o) in
      split (hasE e.key) (λ u. rw (q, u, r)) (λ u. rw (q, u, r))

pub alike-length : {K : Type 0} {name : ℕ → K} {ts : List (Entry K)} {es : Entries}
    → Alike name ts es
    → length ts ≡ length es
alike-length alike-none = refl
alike-length (alike-more key text rest) = ap suc (alike-length rest)

pub named-alike : {K : Type 0} (name : ℕ → K) (es : Entries) → Alike name (map (named name) es) es
unfolding named
named-alike name [] = alike-none
named-alike name (e ∷ es) = alike-more refl refl (named-alike name es)

-- ---- some of the entries

pub alike-take : {K : Type 0} {name : ℕ → K} {ts : List (Entry K)} {es : Entries} (n : ℕ)
    → Alike name ts es → Alike name (take n ts) (take n es)
alike-take zero a = alike-none
alike-take (suc n) alike-none = alike-none
alike-take (suc n) (alike-more key text rest) = alike-more key text (alike-take n rest)

pub alike-drop : {K : Type 0} {name : ℕ → K} {ts : List (Entry K)} {es : Entries} (n : ℕ)
    → Alike name ts es → Alike name (drop n ts) (drop n es)
alike-drop zero a = a
alike-drop (suc n) alike-none = alike-none
alike-drop (suc n) (alike-more key text rest) = alike-drop n rest

pub alike_both : {K : Type 0} {name : ℕ → K} {ts us : List (Entry K)} {es fs : Entries}
    → Alike name ts es → Alike name us fs → Alike name (ts ++ us) (es ++ fs)
alike_both alike-none b = b
alike_both (alike-more key text rest) b = alike-more key text (alike_both rest b)

-- The number of a text among all of them.
pub alike-texts : {K : Type 0} {name : ℕ → K} {ts : List (Entry K)} {es : Entries} (x : Text)
    → Alike name ts es
    → index_of (map (λ e. some e.string) ts) x ≡ index_of (map (λ e. some e.string) es) x
unfolding index_of has_text
alike-texts x alike-none = refl
alike-texts x (alike-more key text rest) = rw (text, alike-texts x rest)

-- ---- one entry more

pub map-append : {A B : Type 0} (f : A → B) (xs ys : List A)
    → map f (xs ++ ys) ≡ map f xs ++ map f ys
map-append f [] ys = refl
map-append f (x ∷ xs) ys = ap (λ l. f x ∷ l) (map-append f xs ys)
