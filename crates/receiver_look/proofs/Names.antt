-- Strings and names, as looks see them.
use Prim.Native.Nat.{ℕ, zero, suc, ◌+◌, ◌-◌, ◌<◌}
use mathlib.Core.Path.{◌≡◌, refl, sym, ◌∙◌, ap, ap₂, subst}
use mathlib.Core.Bool.{true, false, true≢false}
use mathlib.Core.List.{List, [], ◌∷◌, map}
use mathlib.Core.Option.{Option, none, some}
use native.Mathlib.Omega.{arith}
use lib.ListN.{length, drop, get_elem?}
use lib.Dec.{leb}
use borrow.Author.Tests.{leb-true, leb-false}
use Rattle.spec_fields.specs.Bits.{Bits, unpack}
use Rattle.spec_fields.specs.Refusal.{number_of, ended, character, reference, loose, name, limit}
use Rattle.spec_fields.specs.Parser.{Parser, return, fail, present, and_then, ◌>>=◌}
use Rattle.spec_fields.specs.Field.{Alignment, number_field, width, choice}
use Rattle.spec_fields.proofs.Steady.{Steady, steady-choice}
use Rattle.spec_fields.proofs.Tests.{split}
use Rattle.spec_exi.specs.Settings.{Settings}
use Rattle.spec_exi.specs.Sizes.{sizes, max_stream, max_uris}
use Rattle.spec_exi.specs.Tables.{Slot, Tables, Role, uri, local, compact, literals, partitions_of}
use Rattle.spec_exi.specs.Reader.{read_by_literals, read_entry, read_form, read_string, readName}
use Rattle.spec_exi.proofs.Steady.{steady-string}
use Rattle.read_field.specs.View.{Seen}
use Rattle.read_field.specs.View.{Value}
use Rattle.read_field.specs.View.{field_at, NumberPre}
use Rattle.read_contract.specs.Outcome.{Declined, Gotten}
use Rattle.read_contract.proofs.Outcome.{number-gotten, choice-gotten, choice-none}
use Rattle.receiver_strings.specs.View.{Looked}
use Rattle.receiver_strings.specs.Cuts.{Faulty, Passes, faulty, reads, Sees}
use Rattle.receiver_strings.specs.Strings.{SpotPre, LookBounds, StringSeen}
use Rattle.receiver_strings.proofs.Cuts.{passes-return, passes-need, passes-behind, faulty-then}
use Rattle.receiver_strings.proofs.Cuts.{sees-then, sees-after, sees-stays, sees-nothing, sees-field}
use Rattle.receiver_look.specs.Look.{UriPre, UriSeen, ThenPre, ThenSeen, NameSeen}

-- ---- refusals that are not ENDED

pub not-ended : number_of reference ≡ number_of ended → ⊥
unfolding number_of
not-ended e = absurd (omega arith)

pub faulty-declined : {A : Type 0} {p : Parser A} {stream : List ℕ} {at n : ℕ}
    → Declined p stream at n → (n ≡ number_of ended → ⊥) → Faulty p (drop at (unpack stream))
faulty-declined d n =
    record {
      refusal = d.refusal;
      other = λ e. n (d.is ∙ e);
      result = d.result;
    }

-- ---- a string

module _ (s : Settings) (t : Tables) (stream : List ℕ) (at : ℕ) (r : Looked) where
  -- The tests after a string's form read nothing.
  pub sees-judged : (role : Role) → Sees s (read_form sizes s t (partitions_of t role)) stream at r
      → Sees s (read_string sizes s t role) stream at r
  unfolding read_string number_of
  sees-judged role h =
      sees-then s _ _ stream at r (λ v.
      passes-need character (λ e. absurd (omega arith)) _ _ _
      (passes-need loose (λ e. absurd (omega arith)) _ _ _
      (passes-need name (λ e. absurd (omega arith)) _ _ _
      (passes-need limit (λ e. absurd (omega arith)) _ _ _ (passes-return _ _)))))
      h

  pub sees-string : (role : Role) (ess : List (List Slot)) → partitions_of t role ≡ literals ess
      → Sees s (read_by_literals sizes s t ess) stream at r
      → Sees s (read_string sizes s t role) stream at r
  unfolding read_form
  sees-string role ess e h = sees-judged role (rw e h)

-- ---- a string after others

module _ {stream : List ℕ} {l : Looked} where
  pub then-spot : {at : ℕ} → SpotPre stream at → LookBounds stream l → ThenPre stream l
  then-spot pre b =
      record { spot = record { size = pre.size; place = b.inside }; few = b.few }

  pub then-after : (pre : ThenPre stream l) → l.past ≡ true → {k : ℕ} {r : Looked}
      → StringSeen stream l.at k r → ThenSeen stream l k r
  then-after pre e h =
      record { bounds = h.bounds; after = λ _. h; stays = λ f. absurd (true≢false (sym e ∙ f)) }

  pub then-stays : (pre : ThenPre stream l) → l.past ≡ false → {k : ℕ} → ThenSeen stream l k l
  then-stays pre e =
      record {
        bounds = record { inside = pre.spot.place; few = pre.few };
        after = λ f. absurd (true≢false (sym f ∙ e));
        stays = λ _. refl;
      }

module _ {A B : Type 0} (s : Settings) (p : Parser A) (f : A → Parser B) (stream : List ℕ) (at : ℕ)
    (l r : Looked) where
  pub sees-two : Steady p → {k : ℕ} → Sees s p stream at l → ThenSeen stream l k r
      → ((a : A) → StringSeen stream l.at k r → Sees s (f a) stream l.at r)
      → Sees s (p >>= f) stream at r
  sees-two steady h y g =
      split l.past
      (λ e. sees-after s p f stream at steady l r h e (λ a. g a (y.after e)))
      (λ e.
      subst (λ x. Sees s (p >>= f) stream at x) (sym (y.stays e)) (sees-stays s p f stream at l h e))

-- ---- a URI

pub some_at : {A : Type 0} (l : List A) (i : ℕ) → i < length l
    → (x : A) × (get_elem? (map some l) i ≡ some (some x))
some_at [] i h = absurd (omega arith)
some_at (x ∷ l) zero h = (x, refl)
some_at (x ∷ l) (suc i) h = some_at l i (omega arith)

pub length_some : {A : Type 0} (l : List A) → length (map (λ (x : A). some x) l) ≡ length l
length_some [] = refl
length_some (x ∷ l) = ap suc (length_some l)

pub passes-present : {A B : Type 0} (slot : Option A) (g : A → B) (bs : Bits)
    → Passes (present reference slot >>= λ e. return (g e)) bs bs
unfolding present fail return ◌>>=◌ and_then number_of
passes-present none g bs =
    faulty (record {
      refusal = reference;
      other = λ e. absurd (omega arith);
      result = refl;
    })
passes-present (some e) g bs = reads (g e) refl

module _ {stream : List ℕ} {at uris : ℕ} (pre : UriPre stream at uris) where
  pub choice-asks : NumberPre stream at (uris + 1) 65536
  unfolding max_stream max_uris
  choice-asks = omega (arith, pre.spot, pre.few)

  pub uri-nothing : (a : Alignment)
      → UriSeen a stream at uris (record { past = false; at = at; left = 0 })
  uri-nothing a =
      record {
        bounds = record { inside = pre.spot.place; few = omega arith };
        sees = λ s b t e. sees-nothing s _ stream at at;
      }

  module _ (a : Alignment) {f : Seen}
      (answer : f ≡ field_at (number_field a (width (uris + 1))) stream at) {v q : ℕ}
      (z : f ≡ Value v q) where
    abbrev field : Gotten (number_field a (width (uris + 1))) stream at q
    field = number-gotten stream at pre.spot.place a (width (uris + 1)) (sym answer ∙ z)

    pub uri-spot : SpotPre stream q
    uri-spot = record { size = pre.spot.size; place = field.inside }

    module _ (s : Settings) (b : s.alignment ≡ a) (t : Tables) (e : length t.uris ≡ uris) where
      abbrev slots : List Slot
      slots = map some t.uris

      abbrev entries : List (Option Slot)
      entries = none ∷ map some slots

      counted : uris + 1 ≡ length entries
      counted =
          omega (arith, length_some slots, length_some t.uris)

      abbrev here : Bits
      here = drop at (unpack stream)

      abbrev number : Gotten (number_field s.alignment (width (length entries))) stream at q
      number =
          record {
            value = v;
            result = ap₂ (λ y n. number_field y (width n) here) b (sym counted) ∙ field.result;
            after = field.after;
            inside = field.inside;
          }

      abbrev chosen : Parser (ℕ × Option Slot)
      chosen = choice s.alignment reference entries

      uri-miss : v ≡ 0 → {r : Looked} → StringSeen stream q 0 r
          → Sees s (read_form sizes s t (compact slots)) stream at r
      unfolding read_form read_entry
      uri-miss none_is {r} h =
          let there : get_elem? entries v ≡ some none = ap (get_elem? entries) none_is in
          sees-field s chosen _ stream at (steady-choice s.alignment reference entries)
          (choice-gotten s.alignment reference entries number there) (h.sees s t [] refl)

      entry-passes : (x : ℕ × Option Slot) (slot : Slot) → x.1 ≡ some slot
          → Passes (read_entry sizes s t x.0 x.1) (drop q (unpack stream))
          (drop q (unpack stream))
      unfolding read_entry
      entry-passes x slot m = rw m (passes-present slot _ _)

      uri-passes : (v ≡ 0 → ⊥)
          → Passes (read_form sizes s t (compact slots)) here (drop q (unpack stream))
      unfolding read_form
      uri-passes some_is =
          split (leb v uris)
          (λ y.
          let i : ℕ = v - 1 in
          let n : v ≡ suc i = omega arith in
          let (x, m) = some_at slots i (omega (arith, length_some t.uris, leb-true v uris y)) in
          let there : get_elem? entries v ≡ some (some x) = ap (get_elem? entries) n ∙ m in
          passes-behind chosen _ here _ _
          (choice-gotten s.alignment reference entries number there).result
          (entry-passes (v, some x) x refl))
          (λ y.
          faulty (faulty-then chosen _ here
          (faulty-declined
          (choice-none s.alignment reference entries number
          (omega (arith, counted, leb-false v uris y)))
          not-ended)))

    pub uri-missed : v ≡ 0 → {r : Looked} → StringSeen stream q 0 r → UriSeen a stream at uris r
    unfolding partitions_of
    uri-missed none_is {r} h =
        record {
          bounds = h.bounds;
          sees = λ s b t e. sees-judged s t stream at r uri (uri-miss s b t e none_is h);
        }

    pub uri-found : (v ≡ 0 → ⊥)
        → UriSeen a stream at uris (record { past = true; at = q; left = 0 })
    unfolding partitions_of
    uri-found some_is =
        record {
          bounds = record { inside = field.inside; few = omega arith };
          sees = λ s b t e.
              sees-judged s t stream at _ uri
              (record { past = λ _. uri-passes s b t e some_is; cut = λ l. absurd (omega arith) });
        }

-- ---- a name

module _ {a : Alignment} {stream : List ℕ} {at uris : ℕ} {u r : Looked}
    (h : UriSeen a stream at uris u) (y : ThenSeen stream u 1 r) where
  pub name-seen : NameSeen a stream at uris r
  unfolding readName partitions_of
  name-seen =
      record {
        bounds = y.bounds;
        sees = λ s b t e attr.
            sees-two s _ _ stream at u r (steady-string sizes s t uri) (h.sees s b t e) y
            (λ x z.
            sees-then s _ _ stream u.at r (λ n. passes-return _ _)
            (sees-string s x.1 stream u.at r (local attr x.0.text) _ refl
            (z.sees s x.1 _ refl)));
      }
