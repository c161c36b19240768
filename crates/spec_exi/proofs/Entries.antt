-- The entries of the tables are strings that were good where they stood, so a hit is as good as a
-- literal: a string that is read is a fit item, and a fit item is read.
use mathlib.Core.Path.{◌≡◌, refl, ◌∙◌, ap, subst}
use mathlib.Core.List.{List, [], ◌∷◌, ◌++◌, map}
use mathlib.Core.Bool.{Bool, ◌&&◌}
use mathlib.Core.Option.{some, none-ne-some}
use Prim.Native.Nat.{ℕ, zero, suc, ◌+◌, ◌-◌, ◌≤◌}
use native.Mathlib.Omega.{arith}
use lib.ListN.{length, get_elem?, take, drop, length-append}
use lib.Dec.{T, leb, leb→le, le→leb}
use Rattle.spec_fields.specs.Bits.{Bits}
use Rattle.spec_fields.proofs.Tests.{split, right}
use Rattle.spec_fields.proofs.Exact.{Every}
use Rattle.text.specs.Text.{Text, eq_text, is_empty, all_chars}
use Rattle.spec_exi.specs.Settings.{Settings}
use Rattle.spec_exi.specs.Sizes.{Sizes, sizes, max_store, max_string}
use Rattle.spec_exi.specs.Tables.{Placed, Entry, Tables, partition, names_of, values_of}
use Rattle.spec_exi.specs.Tables.{all_values, Role, uri, local, value, target, comment_text}
use Rattle.spec_exi.specs.Tables.{instruction_text, plain, gone, global_id, present_values, slot_after, local_slots}
use Rattle.spec_exi.specs.Tables.{by_number, joins, with_values}
use Rattle.spec_exi.specs.Tables.{Partitions, compact, literals, partitions_of, Form, hit}
use Rattle.spec_exi.specs.Tables.{literal, form_of, form_bits, new_uri, new_name, new_entry}
use Rattle.spec_exi.specs.Tables.{new_value, laid, added, tables_after}
use Rattle.spec_exi.specs.Event.{QName, eq_name}
use Rattle.spec_exi.specs.Context.{Item, item, after_item, after_items}
use Rattle.spec_exi.specs.Strict.{item_bits}
use Rattle.spec_exi.specs.Lists.{short, within_tables}
use Rattle.spec_exi.proofs.Codes.{If-some}
use Rattle.spec_exi.proofs.Fit.{ItemFit, ItemsFit}
use Rattle.spec_exi.proofs.Derivation.{Spelled, compact_hit, compact_miss, literal_hit}
use Rattle.spec_exi.proofs.Derivation.{literal_miss}
use Rattle.spec_exi.proofs.Strings.{Fits, a_hit, laid_out, StringRead}
use Rattle.spec_exi.proofs.Spelling.{same-form, form-same, spelled-bits, strict-spelling}

-- ---- members of lists

module _ {A : Type 0} (P : A → Type 0) where
  -- What holds of all of two lists holds of all of both together.
  pub every_append : (a b : List A) → Every P a → Every P b → Every P (a ++ b)
  every_append [] b h k = k
  every_append (x ∷ a) b h k = (h.0, every_append a b h.1 k)

  -- What holds of all holds of each.
  pub every-member : (l : List A) (i : ℕ) (x : A) → Every P l → get_elem? l i ≡ some x → P x
  every-member [] i x h e = absurd (none-ne-some x e)
  every-member (a ∷ l) zero x h e = let same : a ≡ x = cc in subst P same h.0
  every-member (a ∷ l) (suc i) x h e = every-member l i x h.1 e

-- ---- entries

module _ (P : Placed → Type 0) where
  -- P holds of every entry.
  pub record AllEntries (t : Tables) : Type 0 where
    pub uris : Every P t.uris
    pub names : Every P (map (λ x. x.string) t.names)
    pub values : Every P (map (λ x. x.string) t.values.added)

  -- What holds of all entries holds of a partition's.
  pub partition-all : {K : Type 0} (has : K → Bool) (l : List (Entry K)) → Every P (map (λ x. x.string) l)
      → Every P (partition has l)
  unfolding partition
  partition-all has [] h = tt
  partition-all has (x ∷ l) h =
      split (has x.key) (λ e. rw e (h.0, partition-all has l h.1)) (λ e. rw e (partition-all has l h.1))

  slots-all : (l : List Placed) → Every P l → Every (If-some P) (map some l)
  slots-all [] h = tt
  slots-all (x ∷ l) h = (h.0, slots-all l h.1)

  values-all : {K : Type 0} (l : List (Entry K)) → Every P (map (λ x. x.string) l)
      → Every (If-some P) (map (λ x. some x.string) l)
  values-all [] h = tt
  values-all (x ∷ l) h = (h.0, values-all l h.1)

  string-append : {K : Type 0} (a b : List (Entry K)) → Every P (map (λ x. x.string) a)
      → Every P (map (λ x. x.string) b) → Every P (map (λ x. x.string) (a ++ b))
  string-append [] b h k = k
  string-append (x ∷ a) b h k = (h.0, string-append a b h.1 k)

  take_all : {K : Type 0} (n : ℕ) (l : List (Entry K)) → Every P (map (λ x. x.string) l)
      → Every P (map (λ x. x.string) (take n l))
  take_all zero l h = tt
  take_all (suc n) [] h = tt
  take_all (suc n) (x ∷ l) h = (h.0, take_all n l h.1)

  drop_all : {K : Type 0} (n : ℕ) (l : List (Entry K)) → Every P (map (λ x. x.string) l)
      → Every P (map (λ x. x.string) (drop n l))
  drop_all zero l h = h
  drop_all (suc n) [] h = tt
  drop_all (suc n) (x ∷ l) h = drop_all n l h.1

  local-all : (g : ℕ) (q : QName Text) (l : List (Entry (QName Text)))
      → Every P (map (λ x. x.string) l) → Every (If-some P) (local_slots g q l)
  unfolding local_slots slot_after
  local-all g q [] h = tt
  local-all zero q (x ∷ l) h =
      split (eq_name q x.key) (λ e. rw e (h.0, local-all (0 - 1) q l h.1))
      (λ e. rw e (local-all (0 - 1) q l h.1))
  local-all (suc g) q (x ∷ l) h =
      split (eq_name q x.key) (λ e. rw e (tt, local-all (suc g - 1) q l h.1))
      (λ e. rw e (local-all (suc g - 1) q l h.1))

  number-all : {K : Type 0} (n : ℕ) (l : List (Entry K)) → Every P (map (λ x. x.string) l)
      → Every P (map (λ x. x.string) (by_number n l))
  unfolding by_number
  number-all n l h =
      string-append (drop (length l - n) l) (take (length l - n) l) (drop_all (length l - n) l h)
      (take_all (length l - n) l h)

  -- P holds of every entry of these partitions.
  abbrev pub AllSlots : Partitions → Type 0
  AllSlots (compact es) = Every (If-some P) es
  AllSlots (literals ess) = Every (Every (If-some P)) ess

  -- What holds of all entries holds of every slot of a role's partitions.
  pub partitions-all : (t : Tables) (r : Role) → AllEntries t → AllSlots (partitions_of t r)
  unfolding partitions_of names_of values_of all_values present_values
  partitions-all t uri g = slots-all t.uris g.uris
  partitions-all t (local attr u) g =
      (slots-all (names_of t u) (partition-all (eq_text u) t.names g.names), tt)
  partitions-all t (value q) g = (
    local-all (gone t.values) q t.values.added g.values,
    (
      values-all (by_number (global_id t.values.capacity (length t.values.added)) (present_values t.values))
          (number-all (global_id t.values.capacity (length t.values.added))
          (present_values t.values) (drop_all (gone t.values) t.values.added g.values)),
      tt,
    ),
  )
  partitions-all t target g = tt
  partitions-all t comment_text g = tt
  partitions-all t instruction_text g = tt
  partitions-all t plain g = tt

  -- What a hit names is an entry; a literal is to be as P says.
  pub spelled-all : {s : Settings} {t : Tables} {ps : Partitions} {f : Form} {x : Placed} {w : Bits}
      → AllSlots ps → Spelled s t ps f x w → (f ≡ literal → P x) → P x
  spelled-all g (compact_hit {es = es} {i = i} {x = x} e) h =
      every-member (If-some P) es i (some x) g e
  spelled-all g (compact_miss l) h = h refl
  spelled-all g (literal_hit {ess = ess} {es = es} {j = j} {i = i} {x = x} k e n) h =
      every-member (If-some P) es i (some x) (every-member (Every (If-some P)) ess j es g k) e
  spelled-all g (literal_miss l) h = h refl

  -- What holds of all entries and of a literal holds once the literal is added.
  pub added-all : (t : Tables) (r : Role) (y : Text) → AllEntries t → P (laid t y) → AllEntries (added t r y)
  unfolding added laid new_uri new_name new_entry new_value with_values
  added-all t r y g p =
      record {
        uris = every_append P t.uris (new_uri r (laid t y)) g.uris (uris r);
        names = string-append t.names (new_name r (laid t y)) g.names (names r);
        values = string-append t.values.added (new_value t.values r (laid t y)) g.values (values r);
      }
    where
      uris : (r : Role) → Every P (new_uri r (laid t y))
      uris uri = (p, tt)
      uris (local attr u) = tt
      uris (value q) = tt
      uris target = tt
      uris comment_text = tt
      uris instruction_text = tt
      uris plain = tt

      names : (r : Role) → Every P (map (λ x. x.string) (new_name r (laid t y)))
      names uri = tt
      names (local attr u) = (p, tt)
      names (value q) = tt
      names target = tt
      names comment_text = tt
      names instruction_text = tt
      names plain = tt

      values : (r : Role) → Every P (map (λ x. x.string) (new_value t.values r (laid t y)))
      values uri = tt
      values (local attr u) = tt
      values (value q) = split (joins t.values y) (λ e. rw e (p, tt)) (λ e. rw e tt)
      values target = tt
      values comment_text = tt
      values instruction_text = tt
      values plain = tt

-- Only Chars, and short.
pub record GoodString (x : Placed) : Type 0 where
  pub chars : T (all_chars x.text)
  pub small : T (short sizes x.text)

-- All entries are good strings.
abbrev pub GoodTables : Tables → Type 0
GoodTables = AllEntries GoodString

-- ---- what is read is fit, and what is fit is read

-- The form that the strict form of a list has for a text.
abbrev pub form_in : Tables → Role → Text → Form
form_in t r x = form_of (partitions_of t r) x

no-hit-literal : {X : Type 0} {j i : ℕ} → hit j i ≡ literal → X
no-hit-literal e = let z : ◌≡◌ {A = ℕ} 0 1 = cc in absurd (omega arith)

fits-good : {s : Settings} {t : Tables} {f : Form} {x : Placed} → Fits sizes s t f x → f ≡ literal → GoodString x
unfolding short
fits-good a_hit e = no-hit-literal e
fits-good (laid_out {x = x} c l m) e = record { chars = c; small = le→leb (length x.text) max_string l }

-- A string that is read is a fit item.
pub record ReadItem (s : Settings) (t : Tables) (r : Role) (x : Placed) (t' : Tables) (w : Bits) : Type 0 where
  pub fit : ItemFit t (item r x.text)
  pub bits : w ≡ item_bits s.alignment t (item r x.text)
  pub after : t' ≡ after_item t (item r x.text)

-- A string that is read is fit, has the strict form's bits, and leaves the strict form's tables.
pub item-of-read : (s : Settings) (t : Tables) (r : Role) (x : Placed) (t' : Tables) (w : Bits)
    → GoodTables t → StringRead sizes s t r (x, t') w → ReadItem s t r x t' w
unfolding item after_item item_bits
item-of-read s t r x t' w g h =
    let b = spelled-all GoodString (partitions-all GoodString t r g) h.spelled (fits-good h.fits) in
    let same = same-form h.form (form_in t r x.text) h.strictly in
    let after = h.after ∙ ap (λ f. tables_after t r f x.text) same in
    record {
      fit = record {
        chars = b.chars;
        small = b.small;
        clean = h.clean;
        named = h.named;
        room = rw after at h.room;
      };
      bits = spelled-bits h.spelled ∙ ap (λ f. form_bits s.alignment (partitions_of t r) f x.text) same;
      after = after;
    }

-- Tables within the sizes have a store that is within them.
pub store-within : (z : Sizes) (t : Tables) → T (within_tables z t) → length t.store ≤ z.store
unfolding within_tables
store-within z t h =
    leb→le (length t.store) z.store
    (right (leb (length t.uris) z.uris && leb (length t.names) z.names
    && leb (length t.values.added - gone t.values) z.values)
    (leb (length t.store) z.store) h)

literal-fits : (t : Tables) (r : Role) (y : Text) → T (within_tables sizes (added t r y))
    → length t.store + length y ≤ max_store
unfolding added
literal-fits t r y h = rw (← length-append t.store y) (store-within sizes (added t r y) h)

-- A fit item is read.
pub record ItemRead (s : Settings) (t : Tables) (r : Role) (y : Text) : Type 0 where
  pub string : Placed
  pub is : string.text ≡ y
  pub read : StringRead sizes s t r (string, after_item t (item r y)) (item_bits s.alignment t (item r y))
  pub strictly : read.form ≡ form_in t r string.text

-- A string that is fit is read from the strict form's bits.
pub read-of-item : (s : Settings) (t : Tables) (r : Role) (y : Text) → ItemFit t (item r y) → ItemRead s t r y
unfolding item after_item item_bits short tables_after
read-of-item s t r y h =
    let m = strict-spelling s t r y h.chars (leb→le (length y) max_string h.small) in
    let e = m.is in
    record {
      string = m.string;
      is = e;
      read = record {
        form = form_in t r y;
        spelled = m.spelled;
        fits = fit (form_in t r y) m.string e h.room;
        strictly = rw e (form-same (form_in t r y));
        clean = rw e h.clean;
        named = rw e h.named;
        after = rw e;
        room = h.room;
      };
      strictly = rw e;
    }
  where
    fit : (f : Form) (x : Placed) → x.text ≡ y → T (within_tables sizes (tables_after t r f y)) → Fits sizes s t f x
    fit (hit j i) x e q = a_hit
    fit literal x e q =
        laid_out {x = x} (rw e h.chars) (rw e (leb→le (length y) max_string h.small)) (rw e (literal-fits t r y q))

-- ---- the tables stay good

-- A fit string leaves good tables.
pub item-good : (t : Tables) (i : Item) → GoodTables t → ItemFit t i → GoodTables (after_item t i)
unfolding after_item tables_after laid
item-good t i g h = split i.written (λ e. rw e (form (form_in t i.role i.text))) (λ e. rw e g)
  where
    form : (f : Form) → GoodTables (tables_after t i.role f i.text)
    form (hit j k) = g
    form literal = added-all GoodString t i.role i.text g (record { chars = h.chars; small = h.small })

-- Fit strings leave good tables.
pub items-good : (t : Tables) (is : List Item) → GoodTables t → ItemsFit t is → GoodTables (after_items t is)
unfolding after_items
items-good t [] g h = g
items-good t (i ∷ is) g h = items-good (after_item t i) is (item-good t i g h.0) h.1
