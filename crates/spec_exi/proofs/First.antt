-- A name that is written lies, strictly read, where the first entries with its texts lie: a hit is
-- strict only if it is the first one, and a literal only if there is none.
use mathlib.Core.Path.{◌≡◌, refl, sym, ◌∙◌, ap, subst}
use mathlib.Core.List.{List, [], ◌∷◌, ◌++◌, map, append-nil}
use mathlib.Core.Bool.{Bool}
use mathlib.Core.Option
use mathlib.Core.Option.{Option, none, some, none-ne-some, some-injective}
use Prim.Native.Nat.{ℕ, zero, suc}
use native.Mathlib.Omega.{arith}
use lib.ListN.{get_elem?}
use Rattle.spec_fields.specs.Bits.{Bits}
use Rattle.spec_fields.proofs.Tests.{split, T-is}
use Rattle.text.specs.Text.{Text, eq_text}
use Rattle.text.proofs.Equal.{eq_text-refl}
use Rattle.spec_exi.specs.Event.{QName}
use Rattle.spec_exi.specs.Settings.{Settings}
use Rattle.spec_exi.specs.Sizes.{Sizes}
use Rattle.spec_exi.specs.Tables.{Role, Placed, Slot, Entry, Tables, partition, names_of}
use Rattle.spec_exi.specs.Tables.{has_text, index_of, uri, local, value, compact, literals}
use Rattle.spec_exi.specs.Tables.{partitions_of, Form, hit, literal, hit_or, first_hit, form_of}
use Rattle.spec_exi.specs.Tables.{new_uri, new_name, laid, added, tables_after}
use Rattle.spec_exi.specs.Context.{entry_of, entries_of}
use Rattle.spec_exi.proofs.Derivation.{Spelled, compact_hit, compact_miss, literal_hit}
use Rattle.spec_exi.proofs.Derivation.{literal_miss}
use Rattle.spec_exi.proofs.Strings.{StringRead}

-- ---- the first entry

no_number : {X : Type 0} (o : Option ℕ) → Option.map suc o ≡ some 0 → X
no_number none e = absurd (none-ne-some 0 e)
no_number (some n) e = absurd (omega (arith, some-injective (suc n) 0 e))

lower : (o : Option ℕ) (i : ℕ) → Option.map suc o ≡ some (suc i) → o ≡ some i
lower none i e = absurd (none-ne-some (suc i) e)
lower (some n) i e = let same : n ≡ i = omega (arith, some-injective (suc n) (suc i) e) in ap some same

-- An entry at the number that its text has is the first with the text.
index-entry : (es : List Placed) (y : Text) (i : ℕ) (e : Placed) → index_of (map some es) y ≡ some i
    → get_elem? (map some es) i ≡ some (some e) → entry_of es y ≡ e
unfolding index_of has_text entry_of
index-entry [] y i e q m = absurd (none-ne-some i q)
index-entry (x ∷ es) y zero e q m =
    split (eq_text x.text y) (λ t. rw t (cc)) (λ t. no_number (index_of (map some es) y) (rw t at q))
index-entry (x ∷ es) y (suc i) e q m =
    split (eq_text x.text y)
    (λ t. let n : 0 ≡ suc i = some-injective 0 (suc i) (rw t at q) in absurd (omega arith))
    (λ t. rw t (index-entry es y i e (lower (index_of (map some es) y) i (rw t at q)) m))

none_before : (o : Option ℕ) → Option.map suc o ≡ none → o ≡ none
none_before none e = refl
none_before (some n) e = absurd (none-ne-some (suc n) (sym e))

-- A new entry is the first where there was none.
last_entry : (es : List Placed) (e : Placed) → index_of (map some es) e.text ≡ none
    → entry_of (es ++ (e ∷ [])) e.text ≡ e
unfolding index_of has_text entry_of
last_entry [] e q = rw (T-is (eq_text e.text e.text) (eq_text-refl e.text))
last_entry (x ∷ es) e q =
    split (eq_text x.text e.text) (λ t. absurd (none-ne-some 0 (sym (rw t at q))))
    (λ t. rw t (last_entry es e (none_before (index_of (map some es) e.text) (rw t at q))))

-- ---- a string of a single partition

-- What its form names: an entry, or a text at the end of the store.
data Names (t : Tables) (es : List Slot) (x : Placed) : Form → Type 0 where
  entry : (i : ℕ) → get_elem? es i ≡ some (some x) → Names t es x (hit 0 i)
  new : (y : Text) → x ≡ laid t y → Names t es x literal

only : (es table : List Slot) (j : ℕ) → get_elem? (es ∷ []) j ≡ some table → (j ≡ 0) × (table ≡ es)
only es table zero e = (refl, cc)
only es table (suc j) e = absurd (none-ne-some table e)

module _ {s : Settings} {t : Tables} {es : List Slot} where
  compact-names : {f : Form} {x : Placed} {w : Bits} → Spelled s t (compact es) f x w → Names t es x f
  compact-names (compact_hit {i = i} e) = entry i e
  compact-names (compact_miss {x = y} l) = new y refl

  literals-names : {f : Form} {x : Placed} {w : Bits} → Spelled s t (literals (es ∷ [])) f x w
      → Names t es x f
  literals-names (literal_hit {es = table} {j = j} {i = i} {x = x} k e n) =
      let (j0, same) = only es table j k in
      rw j0 (entry i (subst (λ b. get_elem? b i ≡ some (some x)) same e))
  literals-names (literal_miss {x = y} l) = new y refl

hit-number : (o : Option ℕ) (i : ℕ) → hit 0 i ≡ hit_or 0 o literal → o ≡ some i
unfolding hit_or
hit-number none i e = let z : ◌≡◌ {A = ℕ} 0 1 = cc in absurd (omega arith)
hit-number (some n) i e = let same : n ≡ i = cc in ap some same

no-number-literal : (o : Option ℕ) → literal ≡ hit_or 0 o literal → o ≡ none
unfolding hit_or
no-number-literal none e = refl
no-number-literal (some n) e = let z : ◌≡◌ {A = ℕ} 0 1 = cc in absurd (omega arith)

-- The entries after a string x of this form.
abbrev grown : List Placed → Form → Placed → List Placed
grown es (hit j i) x = es
grown es literal x = es ++ (x ∷ [])

first : {t : Tables} (es : List Placed) (x : Placed) (f : Form) → Names t (map some es) x f
    → f ≡ first_hit 0 (map some es ∷ []) x.text → entry_of (grown es f (laid t x.text)) x.text ≡ x
unfolding first_hit laid
first es x f (entry i m) e = index-entry es x.text i x (hit-number (index_of (map some es) x.text) i e) m
first {t} es x f (new y q) e =
    rw q (last_entry es (laid t y) (no-number-literal (index_of (map some es) y) (rw q at e)))

-- ---- names

partition-append : {K : Type 0} (has : K → Bool) (a b : List (Entry K))
    → partition has (a ++ b) ≡ partition has a ++ partition has b
unfolding partition
partition-append has [] b = refl
partition-append has (x ∷ a) b =
    split (has x.key) (λ e. rw (e, partition-append has a b)) (λ e. rw (e, partition-append has a b))

uris-grow : (t : Tables) (f : Form) (y : Text) → (tables_after t uri f y).uris ≡ grown t.uris f (laid t y)
unfolding tables_after added new_uri
uris-grow t (hit j i) y = refl
uris-grow t literal y = refl

names-grow : (t : Tables) (attr : Bool) (u : Text) (f : Form) (y : Text)
    → names_of (tables_after t (local attr u) f y) u ≡ grown (names_of t u) f (laid t y)
unfolding tables_after names_of added new_name partition
names-grow t attr u (hit j i) y = refl
names-grow t attr u literal y = rw (partition-append, T-is (eq_text u u) (eq_text-refl u))

-- A local name leaves the URIs, and a value names too.
local-uris : (t : Tables) (attr : Bool) (u : Text) (f : Form) (y : Text)
    → (tables_after t (local attr u) f y).uris ≡ t.uris
unfolding tables_after added new_uri
local-uris t attr u (hit j i) y = refl
local-uris t attr u literal y = append-nil t.uris

value-uris : (t : Tables) (q : QName Text) (f : Form) (y : Text) → (tables_after t (value q) f y).uris ≡ t.uris
unfolding tables_after added new_uri
value-uris t q (hit j i) y = refl
value-uris t q literal y = append-nil t.uris

value-names : (t : Tables) (q : QName Text) (f : Form) (y : Text) → (tables_after t (value q) f y).names ≡ t.names
unfolding tables_after added new_name
value-names t q (hit j i) y = refl
value-names t q literal y = append-nil t.names

-- A string in its strict form.
abbrev pub InStrict : {z : Sizes} {s : Settings} {t : Tables} {r : Role} {x : Placed × Tables}
    {w : Bits} → StringRead z s t r x w → Type 0
InStrict {t = t} {r = r} {x = x} h = h.form ≡ form_of (partitions_of t r) x.0.text

module _ {z : Sizes} {s : Settings} {t : Tables} where
  uri-first : {x : Placed × Tables} {w : Bits} (h : StringRead z s t uri x w) → InStrict h
      → entry_of x.1.uris x.0.text ≡ x.0
  unfolding partitions_of form_of
  uri-first {x} h strict =
      rw (h.after, uris-grow t h.form x.0.text)
      (first t.uris x.0 h.form (compact-names h.spelled) strict)

  local-first : {attr : Bool} {u : Text} {x : Placed × Tables} {w : Bits}
      (h : StringRead z s t (local attr u) x w) → InStrict h → entry_of (names_of x.1 u) x.0.text ≡ x.0
  unfolding partitions_of form_of
  local-first {attr} {u} {x} h strict =
      rw (h.after, names-grow t attr u h.form x.0.text)
      (first (names_of t u) x.0 h.form (literals-names h.spelled) strict)

module _ {z : Sizes} {s : Settings} {t : Tables} where
  -- URI and local name in the strict form lie at the first entries of the name.
  pub pair-first : {attr : Bool} {n : Text} {x y : Placed × Tables} {u v : Bits} (h : StringRead z s t uri x u)
      → InStrict h
      → x.0.text ≡ n → (l : StringRead z s x.1 (local attr n) y v) → InStrict l
      → entries_of y.1 (record { uri = x.0.text; local = y.0.text }) ≡ record { uri = x.0; local = y.0 }
  unfolding entries_of
  pair-first {attr} {n} {x} {y} h p e l q =
      let kept : y.1.uris ≡ x.1.uris = ap (λ τ. τ.uris) l.after
      ∙ local-uris x.1 attr n l.form y.0.text in
      let one : entry_of y.1.uris x.0.text ≡ x.0 = ap (λ es. entry_of es x.0.text) kept ∙ uri-first h p in
      let two : entry_of (names_of y.1 x.0.text) y.0.text ≡ y.0 =
      ap (λ b. entry_of (names_of y.1 b) y.0.text) e ∙ local-first l q in
      rw (one, two)

  -- A value moves no name.
  pub value-first : {p : QName Text} {x : Placed × Tables} {w : Bits} (q : QName Text) → StringRead z s t (value p) x w
      → entries_of x.1 q ≡ entries_of t q
  unfolding entries_of names_of
  value-first {p} {x} q l =
      let uris : x.1.uris ≡ t.uris = ap (λ τ. τ.uris) l.after ∙ value-uris t p l.form x.0.text in
      let names : x.1.names ≡ t.names = ap (λ τ. τ.names) l.after ∙ value-names t p l.form x.0.text in
      rw (uris, names)
