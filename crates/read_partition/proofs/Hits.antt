-- A hit in a partition: the number of a choice among its entries, and the entry that it names.
use Prim.Native.Nat.{ℕ, ◌*◌, ◌≤◌}
use native.Mathlib.Omega.{arith}
use mathlib.Core.Path.{◌≡◌, refl, sym, ◌∙◌}
use mathlib.Core.Bool.{true, false}
use mathlib.Core.List.{List}
use mathlib.Core.Option.{Option, none, some}
use lib.ListN.{length, drop, get_elem?}
use Rattle.spec_fields.specs.Bits.{unpack}
use Rattle.spec_fields.specs.Refusal.{number_of, reference, loose}
use Rattle.spec_fields.specs.Parser.{bad, return, fail, present, and_then, ◌>>=◌}
use Rattle.spec_fields.specs.Field.{Alignment, number_field, width, choice}
use Rattle.text.specs.Text.{Text, part}
use Rattle.spec_exi.specs.Settings.{Settings}
use Rattle.spec_exi.specs.Sizes.{max_store}
use Rattle.spec_exi.specs.Tables.{Placed, Slot, Tables, Role, partitions_of, hit, eq_form, form_of}
use Rattle.spec_exi.specs.Tables.{name_allowed, text_allowed}
use Rattle.spec_exi.specs.Reader.{read_hit}
use Rattle.mem_rows.specs.Rows.{Rows, tables_of}
use Rattle.read_field.specs.View.{Seen, Value, Refused, field_at}
use Rattle.read_contract.specs.Outcome.{Declined, Gotten}
use Rattle.read_contract.proofs.Outcome.{declined-number, declined-then}
use Rattle.read_contract.proofs.Outcome.{refused-declined}
use Rattle.read_contract.proofs.Outcome.{number-gotten, choice-declined, choice-gotten}
use Rattle.read_partition.specs.Strings.{refused_as, found_as, Tabled, judge, as_hit, StringPost}
use Rattle.read_partition.proofs.Steps.{judge-loose}
use Rattle.read_partition.proofs.Posts.{post-refused, post-hit}

-- ---- by the definitions

-- Number i names an entry, which lies at this place; the hit is its strict form.
pub record Chosen (t : Tables) (r : Role) (j : ℕ) (es : List Slot) (i : ℕ) (text : List ℕ)
    (place size : ℕ) : Type 0 where
  pub x : Placed
  pub slot : get_elem? es i ≡ some (some x)
  pub whole : text_allowed r x.text ≡ true
  pub strict : form_of (partitions_of t r) x.text ≡ hit j i
  pub allowed : name_allowed r x.text ≡ true
  pub place_is : place ≡ x.place
  pub size_is : size ≡ length x.text
  pub text-is : part text (record { place = place; size = size }) ≡ x.text

-- Number i names an entry, and the hit is not its strict form.
pub record Loose (t : Tables) (r : Role) (j : ℕ) (es : List Slot) (i : ℕ) : Type 0 where
  pub x : Placed
  pub slot : get_elem? es i ≡ some (some x)
  pub whole : text_allowed r x.text ≡ true
  pub other : eq_form (hit j i) (form_of (partitions_of t r) x.text) ≡ false

module _ {a : Alignment} (s : Settings) (b : s.alignment ≡ a) (t : Tables) (r : Role) (j : ℕ)
    (es : List Slot)
    {stream : List ℕ} {at : ℕ} where
  hit-declined : {k : ℕ} → Declined (choice a reference es) stream at k
      → Declined (as_hit r j es s t) stream at k
  unfolding read_hit
  hit-declined d = rw b (declined-then (judge t r) (declined-then _ d))

  module _ {q : ℕ} (g : Gotten (number_field a (width (length es))) stream at q) where
    hit-none : ((x : Placed) → get_elem? es g.value ≡ some (some x) → ⊥)
        → as_hit r j es s t (drop at (unpack stream)) ≡ bad reference
    unfolding read_hit choice present fail return ◌>>=◌ and_then
    hit-none ne = go (get_elem? es g.value) refl
      where
        go : (o : Option Slot) → get_elem? es g.value ≡ o
            → as_hit r j es s t (drop at (unpack stream)) ≡ bad reference
        go none e = rw (b, g.result, e)
        go (some none) e = rw (b, g.result, e)
        go (some (some x)) e = absurd (ne x e)

    hit-loose : Loose t r j es g.value → Declined (as_hit r j es s t) stream at (number_of loose)
    unfolding read_hit present return ◌>>=◌ and_then
    hit-loose h =
        let d = judge-loose t r (hit j g.value, h.x) {stream = stream} {at = q}
        h.whole h.other in
        let c = choice-gotten a reference es g h.slot in
        record { refusal = d.refusal; result = rw (b, c.result) d.result; is = d.is }

-- ---- as a function answers it

-- The number of a choice among so many.
module _ (a : Alignment) (stream : List ℕ) (at : ℕ) {n : ℕ} {f : Seen}
    (answer : f ≡ field_at (number_field a (width n)) stream at)
    (es : List Slot) (count : length es ≡ n) where
  number-refused : {k : ℕ} → f ≡ Refused k → Declined (choice a reference es) stream at k
  number-refused z = choice-declined a reference es
      (refused-declined _ stream at (rw count (sym answer ∙ z)))

  abbrev number_read : {i q : ℕ} → f ≡ Value i q → at ≤ 8 * length stream
      → Gotten (number_field a (width (length es))) stream at q
  number_read {i} {q} z l =
      let e : field_at (number_field a (width (length es))) stream at ≡ Value i q =
      rw count (sym answer ∙ z) in
      number-gotten stream at l a (width (length es)) e

module _ {a : Alignment} {Premise : Rows → Type 0} (role : Rows → Role) (j : ℕ)
    (es : Rows → Text → List Slot)
    {join : Rows → Placed → Rows} {stream : List ℕ} {at : ℕ} (text : List ℕ) {stored : ℕ}
    (l : at ≤ 8 * length stream)
    (few : stored ≤ max_store) {n : ℕ} {f : Seen}
    (answer : f ≡ field_at (number_field a (width n)) stream at)
    (count : (w : Rows) (store : Text) → Tabled text stored w store → Premise w
    → length (es w store) ≡ n) where
  -- The number is refused.
  pub post-choice : {k : ℕ} → f ≡ Refused k
      → StringPost a Premise (λ w store. as_hit (role w) j (es w store)) join
      stream at text stored text (refused_as k at 0 stored)
  post-choice {k} z =
      post-refused k at (declined-number (refused-declined _ stream at (sym answer ∙ z))) l few
      (λ s b w store t p.
      hit-declined s b (tables_of w store) (role w) j (es w store)
      (number-refused a stream at answer (es w store) (count w store t p) z))

  module _ {i q : ℕ} (z : f ≡ Value i q) where
    -- It names no entry.
    pub post-missing : ((w : Rows) (store : Text) → Tabled text stored w store → Premise w
        → (x : Placed)
        → get_elem? (es w store) i ≡ some (some x) → ⊥)
        → StringPost a Premise (λ w store. as_hit (role w) j (es w store)) join
        stream at text stored text
        (refused_as (number_of reference) at 0 stored)
    unfolding number_of
    post-missing ne =
        post-refused (number_of reference) at (omega arith) l few
        (λ s b w store t p.
        record {
          refusal = reference;
          result = hit-none s b (tables_of w store) (role w) j (es w store)
              (number_read a stream at answer (es w store) (count w store t p) z l)
              (ne w store t p);
          is = refl;
        })

    -- It names an entry, and is loose.
    pub post-loose : ((w : Rows) (store : Text) → Tabled text stored w store → Premise w
        → Loose (tables_of w store) (role w) j (es w store) i)
        → StringPost a Premise (λ w store. as_hit (role w) j (es w store)) join
        stream at text stored text
        (refused_as (number_of loose) q 0 stored)
    unfolding number_of
    post-loose h =
        post-refused (number_of loose) q (omega arith)
        (number-gotten stream at l a (width n) (sym answer ∙ z)).inside few
        (λ s b w store t p.
        hit-loose s b (tables_of w store) (role w) j (es w store)
        (number_read a stream at answer (es w store) (count w store t p) z l) (h w store t p))

    -- It names an entry, and is strict.
    pub post-chosen : (place size row : ℕ)
        → ((w : Rows) (store : Text) → Tabled text stored w store → Premise w
        → Chosen (tables_of w store) (role w) j (es w store) i text place size)
        → StringPost a Premise (λ w store. as_hit (role w) j (es w store)) join
        stream at text stored text
        (found_as q place size row stored)
    post-chosen place size row h =
        post-hit q place size row
        (number-gotten stream at l a (width n) (sym answer ∙ z)).inside few
        (λ w store t p.
        let c = h w store t p in
        record {
          chosen = choice-gotten a reference (es w store)
              (number_read a stream at answer (es w store) (count w store t p) z l) c.slot;
          x = c.x;
          slot = refl;
          whole = c.whole;
          strict = c.strict;
          allowed = c.allowed;
          place_is = c.place_is;
          size_is = c.size_is;
          text-is = c.text-is;
        })
