-- A local name that is a hit, and the number before every local name: what `own_name` and
-- `read_local` answer, return by return.
use Prim.Native.Nat.{ℕ, suc, ◌-◌}
use native.Mathlib.Omega.{arith}
use mathlib.Core.Path.{◌≡◌, refl, sym, ap, ◌∙◌}
use mathlib.Core.Bool.{Bool, true, false, not, ◌&&◌, true≢false}
use mathlib.Core.List.{List, [], ◌∷◌}
use mathlib.Core.Option.{some}
use lib.ListN.{length, get_elem?}
use Rattle.spec_fields.specs.Refusal.{number_of, reference, name}
use Rattle.spec_fields.specs.Parser.{present, return, and_then, ◌>>=◌}
use Rattle.spec_fields.specs.Field.{Alignment, number_field, width, unsigned}
use Rattle.text.specs.Text.{Text, part}
use Rattle.spec_exi.specs.Settings.{Settings}
use Rattle.spec_exi.specs.Sizes.{max_names}
use Rattle.spec_exi.specs.Tables.{Placed, Slot, Tables, Role, partitions_of, hit, eq_form, form_of}
use Rattle.spec_exi.specs.Tables.{name_allowed, text_allowed}
use Rattle.spec_exi.specs.Reader.{read_hit}
use Rattle.mem_entries.specs.Texts.{throughout}
use Rattle.mem_entries.specs.Entries.{entry_at, text_at}
use Rattle.mem_entries.proofs.Slots.{at_none}
use Rattle.mem_names.specs.declared.Name.{Name}
use Rattle.mem_names.specs.Uris.{uri_text}
use Rattle.mem_names.specs.Names.{CountedNames, NthName, NameAt}
use Rattle.mem_rows.specs.Rows.{Rows, tables_of}
use Rattle.mem_rows.proofs.Forms.{own-count}
use Rattle.name_rules.specs.Names.{is_reserved}
use Rattle.name_rules.proofs.Laws.{attribute-allowed}
use Rattle.read_field.specs.View.{Seen, Value, Refused, field_at}
use Rattle.read_contract.specs.Outcome.{Declined, Gotten}
use Rattle.read_contract.proofs.Outcome.{declined-number, refused-declined, number-gotten}
use Rattle.read_contract.proofs.Outcome.{choice-gotten}
use Rattle.read_partition.specs.View.{StringRead}
use Rattle.read_partition.specs.Strings.{Reading, refused_as, found_as, Tabled, as_hit}
use Rattle.read_partition.proofs.Steps.{judge-name}
use Rattle.read_partition.proofs.Posts.{post-refused}
use Rattle.read_partition.proofs.Hits.{post-choice, post-missing, post-chosen}
use Rattle.read_partition.proofs.Numbers.{Parted, post-number, post-number-hit}
use Rattle.read_partition.proofs.Numbers.{post-number-literal}
use Rattle.read_names.specs.Names.{NamePre, NameRows, name_role, own_names, as_name, as_own}
use Rattle.read_names.specs.Names.{as_new_name, NamePost, NameRowed}
use Rattle.read_names.proofs.Rows.{name-refused-row}
use Rattle.read_names.proofs.Compact.{same-form}
use Rattle.read_names.proofs.Meaning.{is_name_lem, name-lies, nth_inside}
use Rattle.read_names.proofs.Meaning.{nth-key, own-missing, own-there}
use Rattle.read_names.proofs.Meaning.{own-strict, own-judged}

-- What `read_local` and its parts leave.
abbrev pub NameAnswer : Alignment → Bool → (Bool → ℕ → Rows → Text → Reading) → List ℕ → ℕ → List ℕ
    → ℕ → List ℕ → ℕ → ℕ → ℕ → ℕ → List ℕ → StringRead → Type 0
NameAnswer a attr read stream at text stored work names uri place size text' r =
    NamePost a attr read stream at text stored work names uri place size text' r
    × NameRowed text stored work names uri text' r

-- ---- a hit that its role does not allow

-- Number i names an entry, the hit is its strict form, and it is no name for its role.
record Forbidden (t : Tables) (r : Role) (j : ℕ) (es : List Slot) (i : ℕ) : Type 0 where
  x : Placed
  slot : get_elem? es i ≡ some (some x)
  whole : text_allowed r x.text ≡ true
  strict : form_of (partitions_of t r) x.text ≡ hit j i
  forbidden : name_allowed r x.text ≡ false

hit-forbidden : {a : Alignment} (s : Settings) (b : s.alignment ≡ a) (t : Tables) (r : Role)
    (j : ℕ) (es : List Slot) {stream : List ℕ} {at q : ℕ}
    (g : Gotten (number_field a (width (length es))) stream at q) → Forbidden t r j es g.value
    → Declined (as_hit r j es s t) stream at (number_of name)
unfolding read_hit present return ◌>>=◌ and_then
hit-forbidden {a} s b t r j es {stream} {at} {q} g h =
    let e : eq_form (hit j g.value) (form_of (partitions_of t r) h.x.text) ≡ true =
    rw h.strict (same-form j g.value) in
    let d = judge-name t r (hit j g.value, h.x) {stream = stream} {at = q} h.whole e
    h.forbidden in
    let c = choice-gotten a reference es g h.slot in
    record { refusal = d.refusal; result = rw (b, c.result) d.result; is = d.is }

-- ---- among the URI's own

module _ (a : Alignment) {stream : List ℕ} {at : ℕ} {text : List ℕ} {stored : ℕ} {work : List ℕ}
    {names uri : ℕ} (fit : NamePre stream at text stored work names uri) {among : ℕ}
    (c : CountedNames work uri among) {f : Seen}
    (answer : f ≡ field_at (number_field a (width among)) stream at) (attr : Bool) (place size : ℕ)
  where
    counted : (w : Rows) (store : Text) → Tabled text stored w store
        → NameRows work text stored names uri place size w → length (own_names uri w store) ≡ among
    counted w store t p =
        own-count t.valid uri p.row store ∙ sym (c.count (throughout text stored) names w.names p.hold)

    pub own-refused : {k : ℕ} → f ≡ Refused k
        → NameAnswer a attr as_own stream at text stored work names uri place size text
        (refused_as k at 0 stored)
    own-refused z = (
      post-choice (name_role attr uri) 0 (own_names uri) text fit.literal.place
          fit.literal.few answer counted z,
      name-refused-row (declined-number (refused-declined _ stream at (sym answer ∙ z))),
    )

    module _ {i q : ℕ} (z : f ≡ Value i q) {r : ℕ} (n : NthName work uri i names r) where
      pub own-absent : r ≡ 0
          → NameAnswer a attr as_own stream at text stored work names uri place size text
          (refused_as (number_of reference) at 0 stored)
      unfolding number_of
      own-absent e = (
        post-missing (name_role attr uri) 0 (own_names uri) text fit.literal.place
            fit.literal.few answer counted z
            (λ w store t p x s. own-missing t p n e x s),
        name-refused-row (omega arith),
      )

      module _ {row : ℕ} (row_of : r ≡ suc row) {v : Name} (h : NameAt work row v) {b : Bool}
          (tested : b ≡ (attr && is_reserved (part text (record { place = place; size = size }))
          (part text (record { place = v.place; size = v.size })))) where
        -- Whether the name in the row is allowed, by what was tested.
        own-allowed : {w : Rows} {store : Text} → Tabled text stored w store
            → NameRows work text stored names uri place size w
            → name_allowed (name_role attr uri w) (text_at w.names row) ≡ not b
        own-allowed {w} t p =
            let u = uri_text w.uris uri in
            let x = text_at w.names row in
            let e : b ≡ (attr && is_reserved u x) =
            rw (← p.lies.text, ← name-lies p.hold (nth_inside p.hold n row_of) h) tested in
            attribute-allowed attr u x (own-judged t p n row_of) ∙ ap not (sym e)

        pub own-reserved : b ≡ true
            → NameAnswer a attr as_own stream at text stored work names uri place size text
            (refused_as (number_of name) q 0 stored)
        unfolding number_of text_allowed
        own-reserved taken = (
          post-refused (number_of name) q (omega arith)
              (number-gotten stream at fit.literal.place a (width among) (sym answer ∙ z)
              ).inside fit.literal.few
              (λ s d w store t p.
              let own = own_names uri w store in
              let e : field_at (number_field a (width (length own))) stream at ≡ Value i q =
              rw (counted w store t p) (sym answer ∙ z) in
              hit-forbidden s d (tables_of w store) (name_role attr uri w) 0 own
              (number-gotten stream at fit.literal.place a (width (length own)) e)
              (record {
                x = (entry_at w.names row).string;
                slot = own-there t p n row_of;
                whole = refl;
                strict = own-strict t p n row_of attr;
                forbidden = own-allowed t p ∙ ap not taken;
              })),
          name-refused-row (omega arith),
        )

        pub own-found : b ≡ false
            → NameAnswer a attr as_own stream at text stored work names uri place size text
            (found_as q v.place v.size row stored)
        unfolding max_names text_allowed
        own-found e = (
          post-chosen (name_role attr uri) 0 (own_names uri) text fit.literal.place
              fit.literal.few answer counted z v.place v.size row
              (λ w store t p.
              let l = nth_inside p.hold n row_of in
              record {
                x = (entry_at w.names row).string;
                slot = own-there t p n row_of;
                whole = refl;
                strict = own-strict t p n row_of attr;
                allowed = own-allowed t p ∙ ap not e;
                place_is = (is_name_lem p.hold l h).place;
                size_is = (is_name_lem p.hold l h).size;
                text-is = name-lies p.hold l h;
              }),
          record {
            low = λ _. omega (arith, n.within, fit.few);
            left = λ j. absurd (true≢false (sym j));
            new = λ j. absurd (true≢false (sym j));
            hashed = record { is = λ j. absurd (true≢false (sym j)) };
            old = λ _ _ ns p.
                let l = nth_inside p n row_of in
                record {
                  inside = omega (arith, l, p.count);
                  key = nth-key p n row_of;
                  spans = record {
                    place = (is_name_lem p l h).place;
                    size = (is_name_lem p l h).size;
                    found = name-lies p l h;
                  };
                };
          },
        )

-- ---- from the number on

parted : (attr : Bool) (uri : ℕ)
    → Parted (name_role attr uri) (λ w store. own_names uri w store ∷ [])
unfolding partitions_of
parted attr uri = record { are = λ w store. refl }

module _ (a : Alignment) {stream : List ℕ} {at : ℕ} {text : List ℕ} {stored : ℕ} {work : List ℕ}
    {names uri : ℕ} (fit : NamePre stream at text stored work names uri) {f : Seen}
    (answer : f ≡ field_at unsigned stream at) (attr : Bool) (place size : ℕ) where
  pub name-refused : {k : ℕ} → f ≡ Refused k
      → NameAnswer a attr as_name stream at text stored work names uri place size text
      (refused_as k at 0 stored)
  name-refused z = (
    post-number (parted attr uri) fit.literal.place answer fit.literal.few z,
    name-refused-row (declined-number (refused-declined unsigned stream at (sym answer ∙ z))),
  )

  module _ {v q : ℕ} (z : f ≡ Value v q) {text' : List ℕ} {r : StringRead} where
    pub name-own : v ≡ 0
        → NameAnswer a attr as_own stream q text stored work names uri place size text' r
        → NameAnswer a attr as_name stream at text stored work names uri place size text' r
    name-own e (post, row) = (
      post-number-hit (parted attr uri) fit.literal.place answer (z ∙ same) (own_names uri)
          (λ w store. refl) post,
      row,
    )
      where
        same : Value v q ≡ Value 0 q
        same = cc

    pub name_new_lem : (v ≡ 0 → ⊥)
        → NameAnswer a attr (as_new_name (v - 1)) stream q text stored work names uri place size text'
        r
        → NameAnswer a attr as_name stream at text stored work names uri place size text' r
    name_new_lem e (post, row) = (
      post-number-literal (parted attr uri) fit.literal.place answer z 1 (λ w store. refl)
          (λ w store. at_none (own_names uri w store ∷ []) v (omega arith)) post,
      row,
    )
