-- A URI that is a hit, and the number before every URI: what they mean where memory holds the URIs
-- of rows, and what `read_uri` answers, return by return.
use Prim.Native.Nat.{ℕ, suc, ◌+◌, ◌-◌, ◌*◌, ◌≤◌, ◌<◌}
use native.Mathlib.Omega.{arith}
use mathlib.Core.Path.{◌≡◌, refl, sym, ap, subst, ◌∙◌}
use mathlib.Core.Bool.{true≢false}
use mathlib.Core.List.{List, map}
use mathlib.Core.Option
use mathlib.Core.Option.{none, some}
use lib.ListN.{length, get_elem?, length-map}
use Rattle.spec_fields.specs.Refusal.{number_of, reference}
use Rattle.spec_fields.specs.Field.{Alignment, number_field, width, unsigned}
use Rattle.text.specs.Text.{Text, part}
use Rattle.text.proofs.Equal.{eq_text-no}
use Rattle.spec_exi.specs.Sizes.{max_uris}
use Rattle.spec_exi.specs.Tables.{Placed, span_of, uri, partitions_of, literal, hit_or}
use Rattle.spec_exi.specs.Tables.{form_of, name_allowed, text_allowed}
use Rattle.mem_chain.specs.Chain.{first_that}
use Rattle.mem_chain.proofs.First.{first_found, first-zero}
use Rattle.mem_entries.specs.Texts.{Names, throughout}
use Rattle.mem_entries.proofs.Texts.{is-text}
use Rattle.mem_entries.proofs.Alike.{at_map}
use Rattle.mem_names.specs.declared.Uri.{Uri}
use Rattle.mem_names.specs.Uris.{uri_at, uri_text, has_uri, row_of, UrisHold, IsUri, UriAt}
use Rattle.mem_names.proofs.Tables.{uri-nth}
use Rattle.mem_rows.specs.Rows.{Rows, tables_of}
use Rattle.mem_rows.proofs.Forms.{uri-form}
use Rattle.read_field.specs.View.{Seen, Value, Refused, field_at}
use Rattle.read_contract.specs.Outcome.{Gotten}
use Rattle.read_contract.proofs.Outcome.{declined-number, refused-declined, number-gotten}
use Rattle.read_contract.proofs.Outcome.{unsigned-gotten, choice-declined, choice-gotten}
use Rattle.read_contract.proofs.Outcome.{choice-none}
use Rattle.read_partition.specs.View.{StringRead}
use Rattle.read_partition.specs.Strings.{refused_as, found_as, Tabled, Reading}
use Rattle.read_partition.proofs.Hits.{Chosen}
use Rattle.read_partition.proofs.Posts.{post-refused}
use Rattle.read_names.specs.Uris.{UriPre, UriRows, as_uri, as_missed, as_new_uri, UriPost}
use Rattle.read_names.specs.Uris.{UriRowed}
use Rattle.read_names.proofs.Rows.{uri-refused-row}
use Rattle.read_names.proofs.Compact.{entries, uri-declined, missed-declined, missed-leads}
use Rattle.read_names.proofs.Compact.{hit-comes, literal-leads, post-leads, post-entry}

-- ---- where memory holds the URIs

module _ {text : List ℕ} {stored : ℕ} {work : List ℕ} {uris : ℕ} {us : List Placed}
    (p : UrisHold work (throughout text stored) uris us) {i : ℕ} (h : i < uris) {u : Uri} (at : UriAt work i u)
  where
    is-uri : IsUri us i u
    is-uri = at.means _ uris us p h

    uri-lies : part text (record { place = u.place; size = u.size }) ≡ uri_text us i
    unfolding span_of
    uri-lies =
        let l : Names work text stored _ _ (uri_at us i) = p.rows i h in
        rw (is-uri.place, is-uri.size) l.text

module _ {text : List ℕ} {stored : ℕ} {w : Rows} {store : Text} (t : Tabled text stored w store)
    {work : List ℕ} {uris : ℕ} (p : UriRows work text stored uris w) where
  pub count-is : length w.uris ≡ uris
  count-is = p.hold.count

  entries-count : length (entries (tables_of w store)) ≡ uris + 1
  unfolding tables_of
  entries-count =
      let outer : length (map some (map some w.uris)) ≡ length (map some w.uris) =
      length-map (map some w.uris) some in
      let inner : length (map some w.uris) ≡ length w.uris = length-map w.uris some in
      omega (arith, count-is)

  -- The strict form of a text, by what a search for it answers.
  pub form-of : (x : Text) (r : ℕ) → r ≡ first_that (has_uri w.uris x) uris
      → form_of (partitions_of (tables_of w store) uri) x ≡ hit_or 0 (row_of r) literal
  form-of x r e = uri-form w x r (e ∙ ap (first_that (has_uri w.uris x)) (sym count-is)) store

  module _ {i : ℕ} (h : i < uris) where
    -- No URI before it has its text.
    first_of : suc i ≡ first_that (has_uri w.uris (uri_text w.uris i)) uris
    first_of =
        let x = uri_text w.uris i in
        sym (first_found (has_uri w.uris x) uris i h
        (first-zero (has_uri w.uris x) i
        (λ j l. eq_text-no (uri_text w.uris j) x
        (λ e.
        let same : j ≡ i = t.valid.distinct.uris j i (omega (arith, count-is))
        (omega (arith, count-is)) e in
        omega arith)))
        (is-text x x refl))

    uri-chosen : {u : Uri} → UriAt work i u
        → Chosen (tables_of w store) uri 0 (map some (tables_of w store).uris) i text u.place
        u.size
    unfolding tables_of name_allowed text_allowed row_of hit_or
    uri-chosen a =
        record {
          x = uri_at w.uris i;
          slot = at_map some w.uris i
              ∙ ap (Option.map some) (uri-nth w.uris i (omega (arith, count-is)));
          whole = refl;
          strict = form-of (uri_text w.uris i) (suc i) first_of;
          allowed = refl;
          place_is = (is-uri p.hold h a).place;
          size_is = (is-uri p.hold h a).size;
          text-is = uri-lies p.hold h a;
        }

-- ---- the number

-- What `read_uri` and its parts leave.
abbrev pub UriAnswer : Alignment → Reading → List ℕ → ℕ → List ℕ → ℕ → List ℕ → ℕ → List ℕ
    → StringRead → Type 0
UriAnswer a read stream at text stored work uris text' r =
    UriPost a read stream at text stored work uris text' r
    × UriRowed text stored work uris text' r

module _ (a : Alignment) {stream : List ℕ} {at : ℕ} {text : List ℕ} {stored : ℕ} {work : List ℕ}
    {uris : ℕ} (fit : UriPre stream at text stored work uris) {f : Seen}
    (answer : f ≡ field_at (number_field a (width (uris + 1))) stream at) where
  pub uri-refused : {k : ℕ} → f ≡ Refused k
      → UriAnswer a as_uri stream at text stored work uris text (refused_as k at 0 stored)
  uri-refused {k} z =
      let Some-number = declined-number (refused-declined _ stream at (sym answer ∙ z)) in (
        post-refused k at Some-number fit.literal.place fit.literal.few
            (λ s b w store t p.
            uri-declined s b (tables_of w store)
            (choice-declined a reference (entries (tables_of w store))
            (refused-declined _ stream at
            (subst (λ m. field_at (number_field a (width m)) stream at ≡ Refused k)
            (sym (entries-count t p)) (sym answer ∙ z))))),
        uri-refused-row Some-number,
      )

  module _ {i q : ℕ} (z : f ≡ Value i q) where
    pub uri-next : q ≤ 8 * length stream
    uri-next =
        (number-gotten stream at fit.literal.place a (width (uris + 1)) (sym answer ∙ z)).inside

    abbrev number_read : {w : Rows} {store : Text} → Tabled text stored w store
        → UriRows work text stored uris w
        → Gotten (number_field a (width (length (entries (tables_of w store))))) stream at q
    number_read {w} {store} t p =
        number-gotten stream at fit.literal.place a
        (width (length (entries (tables_of w store))))
        (subst (λ m. field_at (number_field a (width m)) stream at ≡ Value i q)
        (sym (entries-count t p)) (sym answer ∙ z))

    -- It names no entry.
    pub uri-beyond : uris < i
        → UriAnswer a as_uri stream at text stored work uris text
        (refused_as (number_of reference) at 0 stored)
    unfolding number_of
    uri-beyond h = (
      post-refused (number_of reference) at (omega arith) fit.literal.place fit.literal.few
          (λ s b w store t p.
          uri-declined s b (tables_of w store)
          (choice-none a reference (entries (tables_of w store)) (number_read t p)
          (omega (arith, entries-count t p)))),
      uri-refused-row (omega arith),
    )

    -- A miss: a String follows.
    pub uri-missed : i ≡ 0 → {text' : List ℕ} {r : StringRead}
        → UriAnswer a as_missed stream q text stored work uris text' r
        → UriAnswer a as_uri stream at text stored work uris text' r
    uri-missed e (post, row) = (
      post-leads
          (λ s b w store t p.
          missed-leads s b (tables_of w store)
          (choice-gotten a reference (entries (tables_of w store)) (number_read t p)
          (ap (get_elem? (entries (tables_of w store))) e))
          (ap (λ n. (n, none)) e))
          post,
      row,
    )

    -- An entry.
    pub uri-hit : (i ≡ 0 → ⊥) → i ≤ uris → {u : Uri} → UriAt work (i - 1) u
        → UriAnswer a as_uri stream at text stored work uris text
        (found_as q u.place u.size (i - 1) stored)
    unfolding max_uris
    uri-hit ne h {u} r =
        let e : i ≡ suc (i - 1) = omega arith in
        let l : i - 1 < uris = omega arith in (
          post-entry (i - 1) q u.place u.size (i - 1) uri-next fit.literal.few
              (λ s b w store t p.
              let c = uri-chosen t p l r in
              record {
                chosen = c;
                comes = hit-comes s b (tables_of w store)
                    (choice-gotten a reference (entries (tables_of w store)) (number_read t p)
                    (ap (get_elem? (entries (tables_of w store))) e
                    ∙ at_map some (map some (tables_of w store).uris) (i - 1)
                    ∙ ap (Option.map some) c.slot))
                    (i - 1) c.x (ap (λ n. (n, some (some c.x))) e);
              }),
          record {
            low = λ _. omega (arith, fit.few);
            left = λ j. absurd (true≢false (sym j));
            new = λ j. absurd (true≢false (sym j));
            unhashed = refl;
            old = λ _ _ us p. record {
              inside = omega (arith, p.count);
              spans = record {
                place = (is-uri p l r).place;
                size = (is-uri p l r).size;
                found = uri-lies p l r;
              };
            };
          },
        )

-- ---- the length of a literal

module _ {stream : List ℕ} {at : ℕ} {text : List ℕ} {stored : ℕ} {work : List ℕ} {uris : ℕ}
    (fit : UriPre stream at text stored work uris) {f : Seen}
    (answer : f ≡ field_at unsigned stream at) where
  pub missed-refused : {k : ℕ} → f ≡ Refused k → {a : Alignment}
      → UriPost a as_missed stream at text stored work uris text (refused_as k at 0 stored)
  missed-refused {k} z =
      let d = refused-declined unsigned stream at (sym answer ∙ z) in
      post-refused k at (declined-number d) fit.literal.place fit.literal.few
      (λ s b w store t p. missed-declined s b (tables_of w store) d)

  pub missed-refused-row : {k : ℕ} → f ≡ Refused k
      → UriRowed text stored work uris text (refused_as k at 0 stored)
  missed-refused-row {k} z =
      uri-refused-row (declined-number (refused-declined unsigned stream at (sym answer ∙ z)))

  pub missed-new : {v q : ℕ} → f ≡ Value v q → {a : Alignment} {text' : List ℕ} {r : StringRead}
      → UriPost a (as_new_uri v) stream q text stored work uris text' r
      → UriPost a as_missed stream at text stored work uris text' r
  missed-new z post =
      post-leads
      (λ s b w store t p.
      literal-leads s b (tables_of w store)
      (unsigned-gotten stream at fit.literal.place (sym answer ∙ z)))
      post
