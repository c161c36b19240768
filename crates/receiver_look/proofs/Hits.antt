-- A name whose URI and local name both come by their numbers.
use Prim.Native.Nat.{ℕ, zero, suc, ◌+◌, ◌-◌, ◌≤◌, ◌<◌}
use mathlib.Core.Path.{◌≡◌, refl, sym, ◌∙◌, ap, ap₂}
use mathlib.Core.Bool.{Bool, true, false, true≢false}
use mathlib.Core.List.{List, [], ◌∷◌, map}
use mathlib.Core.Option.{Option, none, some, none-ne-some}
use native.Mathlib.Omega.{arith}
use lib.ListN.{length, drop, get_or, get_elem?}
use lib.Dec.{leb}
use borrow.Author.Tests.{leb-true, leb-false}
use Rattle.spec_fields.specs.Bits.{Bits, unpack}
use Rattle.spec_fields.specs.Refusal.{Refusal, number_of, ended, character, reference, loose}
use Rattle.spec_fields.specs.Refusal.{name, limit}
use Rattle.spec_fields.specs.Parser.{Parser, got, return, fail, need, present, and_then}
use Rattle.spec_fields.specs.Parser.{◌>>=◌, ◌>>◌}
use Rattle.spec_fields.specs.Field.{Alignment, number_field, width, unsigned}
use Rattle.spec_fields.proofs.Steady.{steady-choice, steady-unsigned}
use Rattle.spec_fields.proofs.Tests.{split}
use Rattle.spec_exi.specs.Settings.{Settings}
use Rattle.spec_exi.specs.Sizes.{sizes, max_stream, max_uris}
use Rattle.spec_exi.specs.Tables.{Placed, Slot, Tables, hit, uri, local, compact, literals}
use Rattle.spec_exi.specs.Tables.{partitions_of, names_of, tables_after}
use Rattle.spec_exi.specs.Reader.{read_by_literals, read_in, read_hit, read_entry, read_form}
use Rattle.spec_exi.specs.Reader.{read_string, readName}
use Rattle.read_field.specs.View.{Seen}
use Rattle.read_field.specs.View.{Value}
use Rattle.read_field.specs.View.{field_at, NumberPre}
use Rattle.mem_layout.specs.Layout.{uri_rows}
use Rattle.mem_names.specs.Uris.{uri_at, uri_text}
use Rattle.mem_names.specs.Names.{NthNamePre, CountedNames}
use Rattle.mem_rows.specs.Rows.{tables_of}
use Rattle.mem_rows.proofs.Forms.{own-count}
use Rattle.read_contract.specs.Outcome.{Gotten}
use Rattle.read_contract.proofs.Outcome.{need-true, choice-gotten, choice-none}
use Rattle.read_contract.proofs.Outcome.{number-gotten, unsigned-gotten}
use Rattle.receiver_strings.specs.View.{Looked}
use Rattle.receiver_strings.specs.Cuts.{Passes, faulty, reads, Sees}
use Rattle.receiver_strings.specs.Strings.{SpotPre, LookBounds}
use Rattle.receiver_strings.proofs.Cuts.{passes-return, passes_then, faulty-then, sees-field}
use Rattle.receiver_strings.proofs.Cuts.{sees-nothing}
use Rattle.receiver_look.specs.Look.{UriPre, HitPre, Tabled, own_names, OwnSeen, LocalSeen}
use Rattle.receiver_look.specs.Look.{HitSeen}
use Rattle.receiver_look.proofs.Names.{not-ended, faulty-declined, some_at, length_some}
use Rattle.receiver_look.proofs.Names.{passes-present, sees-string}

-- ---- members

module _ {A : Type 0} where
  member-map : {B : Type 0} (f : A → B) (l : List A) (i : ℕ) {x : A} → get_elem? l i ≡ some x
      → get_elem? (map f l) i ≡ some (f x)
  member-map f [] i e = absurd (none-ne-some _ e)
  member-map f (y ∷ l) zero {x} e = let z : y ≡ x = cc in rw z
  member-map f (y ∷ l) (suc i) e = member-map f l i e

  member-there : (l : List A) (d : A) (i : ℕ) → i < length l → get_elem? l i ≡ some (get_or l i d)
  member-there [] d i h = absurd (omega arith)
  member-there (y ∷ l) d zero h = refl
  member-there (y ∷ l) d (suc i) h = member-there l d i (omega arith)

-- ---- parsers

passes_same : {A : Type 0} {p q : Parser A} {bs mid : Bits} → p bs ≡ q mid → {rest : Bits}
    → Passes q mid rest → Passes p bs rest
passes_same e (faulty f) =
    faulty (record { refusal = f.refusal; other = f.other; result = e ∙ f.result })
passes_same e (reads a x) = reads a (e ∙ x)

module _ {A B : Type 0} (f : A → Parser B) where
  return-on : (a : A) {bs rest : Bits} → Passes (f a) bs rest → Passes (return a >>= f) bs rest
  unfolding return ◌>>=◌ and_then
  return-on a h = passes_same refl h

  need-on : (k : Refusal) → (number_of k ≡ number_of ended → ⊥) → (t : Bool) (p : Parser A)
      {bs rest : Bits} → Passes (p >>= f) bs rest → Passes ((need t k >> p) >>= f) bs rest
  unfolding need fail ◌>>◌ ◌>>=◌ and_then
  need-on k other true p {bs} h =
      passes_same (ap (λ r. and_then r f) (need-true true k p bs refl)) h
  need-on k other false p h = faulty (record { refusal = k; other = other; result = refl })

  got-on : {C : Type 0} (p : Parser C) (g : C → Parser A) (c : C) {bs mid rest : Bits}
      → p bs ≡ got c mid → Passes (g c >>= f) mid rest → Passes ((p >>= g) >>= f) bs rest
  unfolding ◌>>=◌ and_then
  got-on p g c e h = passes_same (ap (λ r. and_then (and_then r g) f) e) h

-- ---- a name

abbrev entries : List Slot → List (Option Slot)
entries es = none ∷ map some es

module _ (s : Settings) (t : Tables) (stream : List ℕ) where
  abbrev bits : ℕ → Bits
  bits q = drop q (unpack stream)

  -- A URI that is there is read as it is.
  uri-on : {B : Type 0} (f : Placed × Tables → Parser B) (x : Placed) (i : ℕ) {at q : ℕ}
      (g : Gotten (number_field s.alignment (width (length (entries (map some t.uris))))) stream
      at q) → g.value ≡ suc i → get_elem? (entries (map some t.uris)) (suc i) ≡ some (some (some x))
      → {rest : Bits} → Passes (f (x, t)) (bits q) rest
      → Passes (read_string sizes s t uri >>= f) (bits at) rest
  unfolding read_string read_form read_entry partitions_of tables_after present return ◌>>=◌ and_then number_of
  uri-on f x i {at} g v e h =
      let there : get_elem? (entries (map some t.uris)) g.value ≡ some (some (some x)) =
      ap (get_elem? (entries (map some t.uris))) v ∙ e in
      let c = choice-gotten s.alignment reference (entries (map some t.uris)) g there in
      got-on f (read_form sizes s t (compact (map some t.uris))) _ (hit 0 (g.value - 1), x)
      (ap (λ r. and_then r (λ y. read_entry sizes s t y.0 y.1)) c.result)
      (need-on f character (λ e. absurd (omega arith)) _ _
      (need-on f loose (λ e. absurd (omega arith)) _ _
      (need-on f name (λ e. absurd (omega arith)) _ _
      (need-on f limit (λ e. absurd (omega arith)) _ _ (return-on f (x, t) h)))))

  module _ (es : List Placed) where
    abbrev seen : ℕ → Looked
    seen q = record { past = true; at = q; left = 0 }

    own-seen : {at q : ℕ}
        (g : Gotten (number_field s.alignment (width (length (map some es)))) stream at q)
        → Sees s (read_hit sizes s 0 (map some es)) stream at (seen q)
    unfolding read_hit
    own-seen {at} {q} g =
        split (leb (suc g.value) (length es))
        (λ y.
        let (x, m) = some_at es g.value (omega (arith, leb-true (suc g.value) (length es) y)) in
        sees-field s _ _ stream at (steady-choice s.alignment reference (map some es))
        (choice-gotten s.alignment reference (map some es) g m)
        (record { past = λ _. passes-present (some x) _ _; cut = λ l. absurd (omega arith) }))
        (λ y.
        record {
          past = λ _.
              faulty (faulty-then _ _ _
              (faulty-declined (choice-none s.alignment reference (map some es) g
              (omega (arith, length_some es, leb-false (suc g.value) (length es) y))) not-ended));
          cut = λ l. absurd (omega arith);
        })

    -- The number before it is 0.
    hit-seen : {at mid : ℕ} (g : Gotten unsigned stream at mid) → g.value ≡ 0 → {r : Looked}
        → Sees s (read_hit sizes s 0 (map some es)) stream mid r
        → Sees s (read_by_literals sizes s t (map some es ∷ [])) stream at r
    unfolding read_by_literals read_in
    hit-seen {at} g z h = sees-field s _ _ stream at steady-unsigned g (rw z h)

-- ---- what is left

module _ {stream work : List ℕ} {at : ℕ} (pre : HitPre stream work at) where
  abbrev unseen : Looked
  unseen = record { past = false; at = at; left = 0 }

  pub unseen-bounds : LookBounds stream unseen
  unseen-bounds = record { inside = pre.spot.place; few = omega arith }

  pub name-asks : {uris : ℕ} → uris ≤ max_uris → UriPre stream at uris
  name-asks l = record { spot = pre.spot; few = l }

  pub value-spot : {l : Looked} → LookBounds stream l → SpotPre stream l.at
  value-spot b = record { size = pre.spot.size; place = b.inside }

  pub own-nothing : (a : Alignment) (row : ℕ) → OwnSeen a stream work at row unseen
  own-nothing a row =
      record { bounds = unseen-bounds; sees = λ s b h l. sees-nothing s _ stream at at }

  pub local-nothing : (a : Alignment) (row : ℕ) → LocalSeen a stream work at row unseen
  local-nothing a row =
      record { bounds = unseen-bounds; sees = λ s b h l. sees-nothing s _ stream at at }

  pub hit-nothing : (a : Alignment) (uris : ℕ) → HitSeen a stream work at uris unseen
  hit-nothing a uris =
      record { bounds = unseen-bounds; past = λ z. absurd (true≢false (sym z)) }

  pub count-asks : {row : ℕ} → row < uri_rows → NthNamePre work row 0
  count-asks l = record { room = pre.rows; low = l; few = omega arith }

  pub own-asks : {row among : ℕ} → CountedNames work row among → NumberPre stream at among 65536
  unfolding max_stream
  own-asks c = omega (arith, pre.spot, c.within)

  pub uri-asks : {uris : ℕ} → uris ≤ max_uris → NumberPre stream at (uris + 1) 65536
  unfolding max_stream max_uris
  uri-asks l = omega (arith, pre.spot)

  module _ (a : Alignment) {row among : ℕ} (c : CountedNames work row among) {f : Seen}
      (answer : f ≡ field_at (number_field a (width among)) stream at) {v q : ℕ} (z : f ≡ Value v q)
    where
      abbrev field : Gotten (number_field a (width among)) stream at q
      field = number-gotten stream at pre.spot.place a (width among) (sym answer ∙ z)

      pub own-found : OwnSeen a stream work at row (record { past = true; at = q; left = 0 })
      own-found =
          record {
            bounds = record { inside = field.inside; few = omega arith };
            sees = λ s b h l.
                let es = names_of (tables_of h.rows h.store) (uri_text h.rows.uris row) in
                let n : among ≡ length (map (λ (x : Placed). some x) es) =
                c.count h.from _ _ h.hold ∙ sym (own-count h.valid row l h.store) in
                own-seen s (tables_of h.rows h.store) stream es
                (record {
                  value = v;
                  result =
                      ap₂ (λ y m. number_field y (width m) (drop at (unpack stream))) b (sym n)
                      ∙ field.result;
                  after = field.after;
                  inside = field.inside;
                });
          }

  module _ {f : Seen} (answer : f ≡ field_at unsigned stream at) {v q : ℕ} (z : f ≡ Value v q) where
    abbrev first : Gotten unsigned stream at q
    first = unsigned-gotten stream at pre.spot.place (sym answer ∙ z)

    pub own-pre : HitPre stream work q
    own-pre =
        record {
          spot = record { size = pre.spot.size; place = first.inside };
          rows = pre.rows;
        }

    pub local-found : v ≡ 0 → {a : Alignment} {row : ℕ} {r : Looked}
        → OwnSeen a stream work q row r → LocalSeen a stream work at row r
    local-found e {row = row} y =
        record {
          bounds = y.bounds;
          sees = λ s b {t = t} h l.
              hit-seen s t stream
              (names_of (tables_of h.rows h.store) (uri_text h.rows.uris row)) first e
              (y.sees s b h l);
        }

-- ---- the URI before it

module _ {stream work : List ℕ} {at : ℕ} (pre : HitPre stream work at) (a : Alignment) (uris : ℕ)
    {f : Seen} (answer : f ≡ field_at (number_field a (width (uris + 1))) stream at) {v q : ℕ}
    (z : f ≡ Value v q) where
  abbrev field-uri : Gotten (number_field a (width (uris + 1))) stream at q
  field-uri = number-gotten stream at pre.spot.place a (width (uris + 1)) (sym answer ∙ z)

  pub local-pre : HitPre stream work q
  local-pre =
      record {
        spot = record { size = pre.spot.size; place = field-uri.inside };
        rows = pre.rows;
      }

  module _ (some_is : v ≡ 0 → ⊥) (low : v ≤ uris) {r : Looked}
      (y : LocalSeen a stream work q (v - 1) r) where
    module _ (s : Settings) (b : s.alignment ≡ a) {t : Tables} (h : Tabled work uris t) where
      counted : uris + 1 ≡ length (entries (map some t.uris))
      unfolding tables_of
      counted =
          let n : length t.uris ≡ uris =
          ap (λ (x : Tables). length x.uris) h.is ∙ h.count in
          omega (arith, length_some (map (λ (x : Placed). some x) t.uris), length_some t.uris)

      abbrev number : Gotten (number_field s.alignment
          (width (length (entries (map some t.uris))))) stream at q
      number =
          record {
            value = v;
            result =
                ap₂ (λ x n. number_field x (width n) (drop at (unpack stream))) b (sym counted)
                ∙ field-uri.result;
            after = field-uri.after;
            inside = field-uri.inside;
          }

      row_low : v - 1 < length h.rows.uris
      row_low = omega (arith, some_is, h.count)

      uri-there : get_elem? (entries (map some t.uris)) (suc (v - 1))
          ≡ some (some (some (uri_at h.rows.uris (v - 1))))
      unfolding tables_of uri_at
      uri-there =
          rw h.is
          (member-map some (map some h.rows.uris) (v - 1)
          (member-map some h.rows.uris (v - 1) (member-there h.rows.uris _ (v - 1) row_low)))

      hit-passes : r.past ≡ true
          → Passes (readName sizes s t true none) (drop at (unpack stream))
          (drop r.at (unpack stream))
      unfolding readName partitions_of
      hit-passes p =
          uri-on s t stream _ (uri_at h.rows.uris (v - 1)) (v - 1) number (omega (arith, some_is))
          uri-there
          (passes_then _ _ _ _
          ((sees-string s t stream q r
          (local true (uri_text h.rows.uris (v - 1)))
          (own_names h.rows h.store (v - 1) ∷ []) (own_is h)
          (y.sees s b h row_low)).past p) (λ n. passes-return _ _))
        where
          own_is : {t : Tables} (h : Tabled work uris t)
              → partitions_of t (local true (uri_text h.rows.uris (v - 1)))
              ≡ literals (own_names h.rows h.store (v - 1) ∷ [])
          own_is h = rw h.is

    pub hit-found : HitSeen a stream work at uris r
    hit-found = record { bounds = y.bounds; past = λ p s b h. hit-passes s b h p }
