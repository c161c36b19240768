-- What a string function's answers mean: a refusal, a hit, a literal.
use Prim.Native.Nat.{ℕ, ◌*◌, ◌≤◌, ◌<◌}
use native.Mathlib.Omega.{arith}
use mathlib.Core.Path.{◌≡◌, refl, sym, ap, subst, ◌∙◌}
use mathlib.Core.Bool.{Bool, true, false, true≢false}
use mathlib.Core.List.{List, ◌++◌, append-nil}
use mathlib.Core.Option.{some}
use lib.ListN.{length, drop, replicate, length-replicate}
use Rattle.spec_fields.specs.Bits.{unpack}
use Rattle.spec_fields.specs.Refusal.{reference}
use Rattle.spec_fields.specs.Parser.{got, return, present, and_then, ◌>>=◌}
use Rattle.spec_fields.specs.Field.{Alignment, choice}
use borrow.Author.Tests.{eq-eqb}
use Rattle.text.specs.Text.{Text, part}
use Rattle.spec_exi.specs.Settings.{Settings}
use Rattle.spec_exi.specs.Sizes.{sizes, max_store}
use Rattle.spec_exi.specs.Tables.{Placed, Slot, Tables, Role, partitions_of, hit, literal}
use Rattle.spec_exi.specs.Tables.{eq_form, form_of, laid, added, tables_after, name_allowed}
use Rattle.spec_exi.specs.Tables.{text_allowed}
use Rattle.spec_exi.specs.Lists.{within_tables}
use Rattle.spec_exi.specs.Reader.{read_hit, read_literal}
use Rattle.mem_rows.specs.Rows.{Rows, tables_of}
use Rattle.mem_rows.specs.Valid.{Valid}
use Rattle.read_contract.specs.Outcome.{Declined, Gotten}
use Rattle.read_contract.proofs.Outcome.{refused-outcome, gotten-outcome, declined-then}
use Rattle.read_literal.proofs.Awaits.{awaits-then}
use Rattle.read_literal.specs.View as seen
use Rattle.read_literal.specs.Literal.{laid_at, LiteralRead}
use Rattle.read_literal.specs.Literal as lit
use Rattle.read_literal.proofs.Store.{laid_none, laid-over, laid-part}
use Rattle.read_partition.specs.Strings.{refused_as, found_as, literal_as, Laid, Tabled, Means}
use Rattle.read_partition.specs.Strings.{judge, Reading, as_hit, as_literal, StringPost}
use Rattle.read_partition.proofs.Literals.{nothing-laid}
use Rattle.read_partition.proofs.Steps.{judge-got}

module _ {a : Alignment} {Premise : Rows → Type 0} {read : Rows → Text → Reading} {join : Rows → Placed → Rows}
    {stream : List ℕ} {at : ℕ} {text : List ℕ} {stored : ℕ} where
  -- A refusal before anything was laid.
  pub post-refused : (k next : ℕ) → 0 < k → next ≤ 8 * length stream → stored ≤ max_store
      → ((s : Settings) → s.alignment ≡ a → (w : Rows) (store : Text) → Tabled text stored w store → Premise w
      → Declined (read w store s (tables_of w store)) stream at k)
      → StringPost a Premise read join stream at text stored text (refused_as k next 0 stored)
  post-refused k next h l few d =
      record {
        inside = l;
        refused = λ _. record {
          is = refl;
          cleared = record { cells = 0; room = omega (arith, few); text-is = laid_none text stored };
        };
        laid = λ z. absurd (omega arith);
        meant = λ s e w store t p. refused-outcome (d s e w store t p);
        waits = λ z. absurd (omega arith);
      }

store-size : {text : List ℕ} {stored : ℕ} {w : Rows} {store : Text} → Tabled text stored w store
    → length (tables_of w store).store ≡ stored
unfolding tables_of
store-size t = t.size

-- ---- a hit

-- The choice names an entry that lies at this place; the hit is its strict form.
pub record HitRead (a : Alignment) (t : Tables) (r : Role) (j : ℕ) (es : List Slot) (stream : List ℕ) (at next : ℕ)
    (text : List ℕ)
    (place size : ℕ) : Type 0 where
  pub chosen : Gotten (choice a reference es) stream at next
  pub x : Placed
  pub slot : chosen.value.1 ≡ some x
  pub whole : text_allowed r x.text ≡ true
  pub strict : form_of (partitions_of t r) x.text ≡ hit j chosen.value.0
  pub allowed : name_allowed r x.text ≡ true
  pub place_is : place ≡ x.place
  pub size_is : size ≡ length x.text
  pub text-is : part text (record { place = place; size = size }) ≡ x.text

same-form : (j i : ℕ) → eq_form (hit j i) (hit j i) ≡ true
unfolding eq_form
same-form j i = rw (eq-eqb j j refl, eq-eqb i i refl)

module _ (s : Settings) {t : Tables} {r : Role} {j : ℕ} {es : List Slot} {stream : List ℕ} {at next : ℕ} {text : List ℕ}
    {place size : ℕ} where
  -- A hit that is strict is read, and leaves the tables.
  pub hit-gotten : HitRead s.alignment t r j es stream at next text place size → within_tables sizes t ≡ true
      → (g : Gotten (as_hit r j es s t) stream at next) × (x : Placed) × (g.value ≡ (x, t)) × (place ≡ x.place)
      × (size ≡ length x.text)
      × (part text (record { place = place; size = size }) ≡ x.text)
  unfolding read_hit present return ◌>>=◌ and_then tables_after
  hit-gotten h w =
      let i = h.chosen.value.0 in
      let f : eq_form (hit j i) (form_of (partitions_of t r) h.x.text) ≡ true = rw h.strict (same-form j i) in
      let m = judge-got t r (hit j i, h.x) h.whole f h.allowed w (drop next (unpack stream)) in (
        record {
          value = (h.x, t);
          result = rw (h.chosen.result, h.slot) m;
          after = h.chosen.after;
          inside = h.chosen.inside;
        },
        h.x,
        refl,
        h.place_is,
        h.size_is,
        h.text-is,
      )

module _ {a : Alignment} {Premise : Rows → Type 0} {role : Rows → Role} {j : ℕ} {es : Rows → Text → List Slot}
    {join : Rows → Placed → Rows} {stream : List ℕ} {at : ℕ} {text : List ℕ} {stored : ℕ} where
  pub post-hit : (next place size row : ℕ) → next ≤ 8 * length stream → stored ≤ max_store
      → ((w : Rows) (store : Text) → Tabled text stored w store → Premise w
      → HitRead a (tables_of w store) (role w) j (es w store) stream at next text place size)
      → StringPost a Premise (λ w store. as_hit (role w) j (es w store)) join stream at text stored text
      (found_as next place size row stored)
  post-hit next place size row l few h =
      record {
        inside = l;
        refused = λ z. absurd (omega arith);
        laid = λ _. nothing-laid next place size row few;
        meant = λ s e w store t p.
            let (g, x, v, c, d, f) = hit-gotten s
            (subst (λ b. HitRead b (tables_of w store) (role w) j (es w store) stream at next text place size) (sym e)
            (h w store t p)) t.within in
            gotten-outcome refl g
            (subst (λ u. Means join w store text stored text (found_as next place size row stored) u) (sym v)
            (record {
              laid = nothing-laid next place size row few;
              place = c;
              size = d;
              found = f;
              old = λ _. ap (tables_of w) (sym (append-nil store));
              new = λ z. absurd (true≢false (sym z));
              valid = λ z. absurd (true≢false (sym z));
            }));
        waits = λ z. absurd (omega arith);
      }

-- ---- a literal

-- A text of n code points lies after the store, and the definitions have read it.
record LiteralIs (s : Settings) (t : Tables) (n : ℕ) (stream : List ℕ) (at next : ℕ) (text : List ℕ) (stored : ℕ)
    (text' : List ℕ) : Type 0 where
  x : Text
  size : length x ≡ n
  text-is : text' ≡ laid_at text stored x
  result : read_literal sizes s t n (drop at (unpack stream)) ≡ got (literal, laid t x) (drop next (unpack stream))
  after : at ≤ next
  inside : next ≤ 8 * length stream

literal-is : {n : ℕ} {stream : List ℕ} {at : ℕ} {text : List ℕ} {stored : ℕ} {text' : List ℕ} {l : seen.Literal}
    → LiteralRead stream at text stored n text' l → l.number ≡ 0 → (s : Settings) (t : Tables)
    → length t.store ≡ stored
    → LiteralIs s t n stream at l.next text stored text'
unfolding laid
literal-is {stream = stream} {l = l} r z s t e =
    let o = r.outcome s t e in
    let v = o.is z in
    let same : (o.read z).value ≡ (literal, laid t (o.read z).value.1.text) =
    λ i. (v.form i, record { place = (v.place ∙ sym e) i; text = (o.read z).value.1.text }) in
    record {
      x = (o.read z).value.1.text;
      size = v.size;
      text-is = v.text-is;
      result = (o.read z).result ∙ ap (λ u. got u (drop l.next (unpack stream))) same;
      after = (o.read z).after;
      inside = (o.read z).inside;
    }

-- What is judged after a literal, and what it leaves: it joins its table, or is laid alone.
pub record Passes (join : Rows → Placed → Rows) (role : Role) (w : Rows) (store x : Text) (joins : Bool) : Type 0 where
  pub whole : text_allowed role x ≡ true
  pub strict : eq_form literal (form_of (partitions_of (tables_of w store) role) x) ≡ true
  pub allowed : name_allowed role x ≡ true
  pub within : within_tables sizes (added (tables_of w store) role x) ≡ true
  pub stays : joins ≡ false → added (tables_of w store) role x ≡ tables_of w (store ++ x)
  pub joined : joins ≡ true
      → added (tables_of w store) role x ≡ tables_of (join w (laid (tables_of w store) x)) (store ++ x)
  pub valid : joins ≡ true → Valid (join w (laid (tables_of w store) x))

module _ {n : ℕ} {stream : List ℕ} {at : ℕ} {text : List ℕ} {stored : ℕ} {text' : List ℕ} {l : seen.Literal}
    (r : LiteralRead stream at text stored n text' l) where
  literal-laid : l.number ≡ 0 → (row : ℕ) (joins : Bool) (hash : ℕ)
      → Laid text stored text' (literal_as l.next stored n row joins hash)
  literal-laid z row joins hash =
      let q = r.behind z in
      record {
        x = q.x;
        text-is = q.text-is;
        stored_is = omega (arith, q.size);
        room = omega (arith, r.ends z);
        whole = refl;
        place = λ _. refl;
        size = λ _. sym q.size;
      }

literal-result : {join : Rows → Placed → Rows} {n : ℕ} {stream : List ℕ} {at next : ℕ} {text : List ℕ} {stored : ℕ}
    {text' : List ℕ} {joins : Bool}
    (role : Role) (w : Rows) (store : Text) (s : Settings)
    (q : LiteralIs s (tables_of w store) n stream at next text stored text')
    → Passes join role w store q.x joins
    → as_literal role n s (tables_of w store) (drop at (unpack stream))
    ≡ got (laid (tables_of w store) q.x, added (tables_of w store) role q.x) (drop next (unpack stream))
unfolding ◌>>=◌ and_then tables_after laid
literal-result {stream = stream} {next = next} role w store s q v =
    rw q.result
    (judge-got (tables_of w store) role (literal, laid (tables_of w store) q.x) v.whole v.strict v.allowed
    v.within (drop next (unpack stream)))

abbrev literal-gotten : {join : Rows → Placed → Rows} {n : ℕ} {stream : List ℕ} {at next : ℕ} {text : List ℕ}
    {stored : ℕ} {text' : List ℕ} {joins : Bool}
    (role : Role) (w : Rows) (store : Text) (s : Settings)
    (q : LiteralIs s (tables_of w store) n stream at next text stored text')
    → Passes join role w store q.x joins → Gotten (as_literal role n s (tables_of w store)) stream at next
literal-gotten role w store s q v =
    record {
      value = (laid (tables_of w store) q.x, added (tables_of w store) role q.x);
      result = literal-result role w store s q v;
      after = q.after;
      inside = q.inside;
    }

module _ {a : Alignment} {Premise : Rows → Type 0} (role : Rows → Role) {join : Rows → Placed → Rows} {n : ℕ}
    {stream : List ℕ} {at : ℕ}
    {text : List ℕ} {stored : ℕ} {text' : List ℕ} {l : seen.Literal}
    (r : LiteralRead stream at text stored n text' l) where
  -- It is refused, and waits for more where it was cut.
  pub literal-refused : 0 < l.number
      → StringPost a Premise (λ w store. as_literal (role w) n) join stream at text stored text'
      (refused_as l.number l.next l.left stored)
  literal-refused h =
      record {
        inside = r.inside;
        refused = λ _. record { is = refl; cleared = r.cleared h };
        laid = λ z. absurd (omega arith);
        meant = λ s e w store t p. refused-outcome
            (declined-then (judge (tables_of w store) (role w))
            ((r.outcome s (tables_of w store) (store-size t)).refused h));
        waits = λ z s e w store t p.
            let v = r.waits z s (tables_of w store) (store-size t) in
            record {
              after = v.after;
              inside = v.inside;
              comes = awaits-then (judge (tables_of w store) (role w)) v.comes;
            };
      }

  module _ (z : l.number ≡ 0) (room : max_store ≤ length text) where
    -- It is refused by what is judged after it, and cleared.
    pub literal-judged : (k : ℕ) → 0 < k → {text'' : List ℕ} → text'' ≡ laid_at text' stored (replicate n 0)
        → ((w : Rows) (store : Text) → Tabled text stored w store → Premise w → (x : Text) → length x ≡ n
        → text' ≡ laid_at text stored x
        → Declined (judge (tables_of w store) (role w) (literal, laid (tables_of w store) x)) stream l.next k)
        → StringPost a Premise (λ w store. as_literal (role w) n) join stream at text stored text''
        (refused_as k l.next 0 stored)
    unfolding ◌>>=◌ and_then
    literal-judged k h {text''} c d =
        record {
          inside = r.inside;
          refused = λ _. record {
            is = refl;
            cleared = record { cells = n; room = r.ends z; text-is = cleared (r.behind z) };
          };
          laid = λ y. absurd (omega arith);
          meant = λ s e w store t p.
              let q = literal-is r z s (tables_of w store) (store-size t) in
              let v = d w store t p q.x q.size q.text-is in
              refused-outcome (record { refusal = v.refusal; result = rw q.result v.result; is = v.is });
          waits = λ y. absurd (omega arith);
        }
      where
        cleared : lit.Behind text stored n text' → text'' ≡ laid_at text stored (replicate n 0)
        cleared b =
            let m : length (replicate {A = ℕ} n 0) ≡ length b.x = length-replicate n 0 ∙ sym b.size in
            c ∙ ap (λ u. laid_at u stored (replicate n 0)) b.text-is
            ∙ laid-over text stored b.x (replicate n 0) m (omega (arith, b.size, r.ends z))

    -- It passes what is judged after it.
    pub literal-passed : (row : ℕ) (joins : Bool) (hash : ℕ)
        → ((w : Rows) (store : Text) → Tabled text stored w store → Premise w → (x : Text) → length x ≡ n
        → text' ≡ laid_at text stored x
        → Passes join (role w) w store x joins)
        → StringPost a Premise (λ w store. as_literal (role w) n) join stream at text stored text'
        (literal_as l.next stored n row joins hash)
    unfolding laid
    literal-passed row joins hash f =
        record {
          inside = r.inside;
          refused = λ y. absurd (omega arith);
          laid = λ _. literal-laid r z row joins hash;
          meant = λ s e w store t p.
              let q = literal-is r z s (tables_of w store) (store-size t) in
              let v = f w store t p q.x q.size q.text-is in
              gotten-outcome refl (passed-gotten (role w) w store s q v) (passed-means w store t q v);
          waits = λ y. absurd (omega arith);
        }
      where
        passed-gotten : (role : Role) (w : Rows) (store : Text) (s : Settings)
            (q : LiteralIs s (tables_of w store) n stream at l.next text stored text')
            → Passes join role w store q.x joins → Gotten (as_literal role n s (tables_of w store)) stream at l.next
        passed-gotten role w store s q v = literal-gotten role w store s q v

        passed-means : (w : Rows) (store : Text) → Tabled text stored w store → {s : Settings}
            (q : LiteralIs s (tables_of w store) n stream at l.next text stored text')
            (v : Passes join (role w) w store q.x joins)
            → Means join w store text stored text' (literal_as l.next stored n row joins hash)
            (laid (tables_of w store) q.x, added (tables_of w store) (role w) q.x)
        passed-means w store t q v =
            record {
              laid = record {
                x = q.x;
                text-is = q.text-is;
                stored_is = omega (arith, q.size);
                room = omega (arith, r.ends z);
                whole = refl;
                place = λ _. refl;
                size = λ _. sym q.size;
              };
              place = sym (store-size t);
              size = sym q.size;
              found = ap (λ m. part text' (record { place = stored; size = m })) (sym q.size)
                  ∙ ap (λ u. part u (record { place = stored; size = length q.x })) q.text-is
                  ∙ laid-part text stored q.x (omega (arith, q.size, r.ends z));
              old = v.stays;
              new = λ j. (refl, v.joined j);
              valid = v.valid;
            }
