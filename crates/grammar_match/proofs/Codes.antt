-- An event's code in the definitions, by what is found: that of a learned production, that of one of
-- the table, or none; what it teaches, and its bits.
use Prim.Native.Nat.{ℕ, suc, ◌+◌, ◌%◌, ◌≤◌, ◌<◌}
use native.Mathlib.Omega.{arith}
use mathlib.Core.Path.{◌≡◌, refl, sym, ap, subst, ◌∙◌}
use mathlib.Core.Bool.{true, false, cond}
use mathlib.Core.List.{List, [], ◌∷◌}
use mathlib.Core.Option.{Option, none, some, none-ne-some}
use lib.ListN.{length}
use lib.Dec.{eqb, ltb}
use borrow.Author.Tests.{eqb-true, ltb-true, ltb-false}
use Rattle.spec_fields.specs.Field.{Alignment, choice_bits}
use Rattle.spec_fields.proofs.Tests.{split, T-is, is_t}
use Rattle.text.specs.Text.{Text}
use Rattle.spec_exi.specs.Event.{QName, Event, start_document, end_document, end_element, start_element}
use Rattle.spec_exi.specs.Event.{attribute, characters, comment, instruction}
use Rattle.spec_exi.specs.Event.{Kind, SD, ED, SE, AT, EE, CH, CM, PI, kind_of, name_of}
use Rattle.spec_exi.specs.Settings.{Settings}
use Rattle.spec_exi.specs.Tables.{Placed}
use Rattle.spec_exi.specs.Grammar.{Production, Code, kind_number, is_wildcard, at_level, first_fit}
use Rattle.spec_exi.specs.Grammar.{code_of, same_code, code_bits, has_kind, teaches, taught}
use Rattle.spec_exi.specs.Context.{levels_in}
use Rattle.spec_exi.proofs.Codes.{code_same}
use Rattle.event_code.specs.Numbers.{teaches_in, in_fragment, in_tag, number_of_se, number_of_ee}
use Rattle.event_code.specs.Numbers.{number_of_ch}
use Rattle.grammar_codes.specs.declared.Place.{Place}
use Rattle.grammar_codes.specs.Table.{table_of, values_at, place_in, with_learned, FixedCode, code_at, max_levels}
use Rattle.grammar_codes.specs.Table.{after_learned, fixed_bits, PlaceAt}
use Rattle.grammar_codes.proofs.Table.{kinds-once}
use Rattle.grammar_codes.proofs.Codes.{fixed-code, fixed-loose}
use Rattle.grammar_codes.proofs.Codes as codes
use Rattle.grammar_codes.proofs.Places.{place_none, no_place, has-place, element-has, fragment-has}
use Rattle.grammar_codes.proofs.Bits.{code-bits, learning-levels}
use Rattle.grammar_codes.proofs.Bits as bits
use Rattle.grammar_codes.proofs.Teaches.{fixed-teaches}
use Rattle.mem_index.specs.Index.{tally}
use Rattle.mem_rows.specs.Rows.{Learnt, Rows, kind_at, carries, carried_at, production_of, context_of}
use Rattle.mem_learned.specs.Learned.{CountedAt}
use Rattle.mem_rows.specs.Valid.{learnt_at, Valid}
use Rattle.mem_state.specs.Holds.{taught_in}
use Rattle.grammar_match.specs.Here.{site_in, CountedHere, CodeRows, learned_here, code_here}
use Rattle.grammar_match.specs.Codes.{Strict, Unlearned}
use Rattle.grammar_match.specs.Found.{FitsAt, PartHere}
use Rattle.grammar_match.proofs.Here.{outer-site, levels-here, outer-here, inner-here}
use Rattle.grammar_match.proofs.Here.{site-fits, table_empty}
use Rattle.grammar_match.proofs.Unfit.{number-kind, kind-none, outer-none}
use Rattle.grammar_match.proofs.Rows.{here-count, kind-unlearned}

-- A learned production teaches nothing: one with a name is no wildcard, and its code has one part.
untaught : (ls : List Production) (v : ℕ) (p : Production) (k : Kind)
    → (carries k ≡ true → is_wildcard p.qname ≡ false) → (q : Option (QName Placed))
    → taught ls (at_level v p) k q ≡ none
unfolding taught teaches at_level carries
untaught ls v p SD n q = refl
untaught ls v p ED n q = refl
untaught ls v p SE n q = rw (n refl)
untaught ls v p AT n q = rw (n refl)
untaught ls v p EE n q = refl
untaught ls v p CH n q = refl
untaught ls v p CM n q = refl
untaught ls v p PI n q = refl

-- EE and CH have no name.
nameless : (e : Event Text) → number_of_ee ≤ kind_number (kind_of e) → kind_number (kind_of e) ≤ number_of_ch → name_of e ≡ none
unfolding kind_of kind_number name_of
nameless start_document a b = refl
nameless end_document a b = refl
nameless end_element a b = refl
nameless (start_element q) a b = absurd (omega arith)
nameless (attribute q v) a b = absurd (omega arith)
nameless (characters v) a b = refl
nameless (comment x) a b = refl
nameless (instruction x y) a b = refl

-- A site of a start tag has an odd number.
odd-tag : (mode top : ℕ) → site_in mode top % 2 ≡ 1 → mode ≡ in_tag
odd-tag mode top h =
    split (eqb mode in_tag)
    (λ t. eqb-true mode in_tag t)
    (λ t. absurd (split (ltb mode in_tag)
    (λ u. let z = rw u at h in omega (arith, z))
    (λ u. let z = rw (u, t) at h in omega (arith, z))))

module _ {work : List ℕ} {learned mode top : ℕ} {w : Rows} {opened : List ℕ} (valid : Valid w)
    (h : CodeRows work learned mode top w opened) where
  abbrev here : List Production
  here = learned_here w mode opened

  -- How many are learned.
  pub count-is : {count : ℕ} → CountedHere work mode top count
      → count ≡ length (learned_here w mode opened)
  count-is counted =
      split (ltb mode in_fragment)
      (λ t.
      let l = ltb-true mode in_fragment t in
      counted.outside l ∙ ap length (sym (outer-here h l)))
      (λ t.
      let l = ltb-false mode in_fragment t in
      (counted.counted l).count learned (taught_in w) h.hold
      ∙ ap (tally _) (sym h.hold.count)
      ∙ sym (here-count valid (site_in mode top) (site-fits h l))
      ∙ ap length (sym (inner-here h l)))

  unlearned : in_fragment ≤ mode → (e : Event Text) → first_fit here e ≡ none → name_of e ≡ none
      → has_kind (kind_of e) here ≡ false
  unlearned l e miss n =
      rw (inner-here h l)
      (kind-unlearned valid (site_in mode top) (site-fits h l) e n
      (rw (inner-here h l) at miss))

  module _ (s : Settings) (store : Text) where
    abbrev t : List (List Kind)
    t = table_of s.comments s.instructions mode

    pub same_parts : {x : Code} (e : Event Text) → code_here s w store mode opened e ≡ some x
        → same_code x.parts (code_here s w store mode opened e) ≡ true
    same_parts {x} e is =
        T-is _ (code_same x.parts (code_here s w store mode opened e) x is refl)

    -- ---- a production of the table

    module _ {kind : ℕ} {x : Code} (f : FixedCode t kind x) (e : Event Text)
        (k : kind_number (kind_of e) ≡ kind) where
      pub fixed-strict : first_fit (learned_here w mode opened) e ≡ none
          → Unlearned s w store mode opened kind (after_learned (length here) x) e
      unfolding taught
      fixed-strict miss =
          record {
            is = rw (levels-here h s store)
                (fixed-code e here f.reaches
                (is_t _ (kinds-once s.comments s.instructions mode)) (f.is ∙ sym k) miss);
            taught-is = λ l q.
                ap (λ b. cond b (some (record { kind = kind_of e; qname = q })) none)
                (fixed-teaches s.comments s.instructions l h.fits.known (kind_of e)
                (subst (λ n. FixedCode t n x) (sym k) f) (length here) here
                (λ a b. unlearned l e miss (nameless e a b))
                ∙ ap (teaches_in mode) k);
          }

      -- Where a learned one fits, it is not the event's.
      pub fixed-other : {y : ℕ × Production} → first_fit (learned_here w mode opened) e ≡ some y
          → same_code (after_learned (length here) x).parts (code_here s w store mode opened e) ≡ false
      fixed-other j = rw (levels-here h s store) (fixed-loose e here f.reaches j)

    -- ---- a learned production

    first_code : (u : List (List Kind)) → (u ≡ [] → here ≡ []) → (e : Event Text)
        {y : ℕ × Production} → first_fit here e ≡ some y
        → code_of (with_learned here u) e ≡ some (at_level y.0 y.1)
    unfolding first_fit
    first_code [] empty e f = absurd (none-ne-some _ (rw (empty refl) at f))
    first_code (k ∷ ks) empty e f = codes.learned-code e here k ks f

    wildcard : (row : Learnt) (k : Kind) → kind_at row.kind ≡ k → carries k ≡ true
        → is_wildcard (production_of w row).qname ≡ false
    unfolding production_of carried_at is_wildcard
    wildcard row k e t = rw (e, t)

    learned-code : (e : Event Text) {y : ℕ × Production} → first_fit here e ≡ some y
        → code_here s w store mode opened e ≡ some (at_level y.0 y.1)
    learned-code e f =
        rw (levels-here h s store)
        (first_code t (table_empty h s.comments s.instructions) e f)

    pub learned-strict : (row : Learnt) {v : ℕ} (e : Event Text)
        → first_fit (learned_here w mode opened) e ≡ some (v, production_of w row)
        → kind_at row.kind ≡ kind_of e
        → Strict s w store mode opened (at_level v (production_of w row)) e
    learned-strict row {v} e f k =
        record {
          is = learned-code e f;
          untaught = untaught here v (production_of w row) (kind_of e) (wildcard row (kind_of e) k);
        }

    -- The one that `find_learned` answers, with its part.
    pub found-strict : {name g : ℕ} {e : Event Text} → FitsAt w mode top name opened e g
        → {row count r : ℕ} → row ≡ suc g → CountedHere work mode top count
        → PartHere work row count r
        → Strict s w store mode opened (at_level r (production_of w (learnt_at w.learned g))) e
        × (r < count)
    found-strict {g = g} {e = e} f {count = count} z counted part =
        let (is, low) = part.means w learned g h.hold z f.inside
        (subst (λ k. CountedAt work k count) (sym f.site) (counted.counted f.learns)) in (
          learned-strict (learnt_at w.learned g) e
              (f.first ∙ ap (λ n. some (n, production_of w (learnt_at w.learned g))) (sym is))
              (ap kind_at f.kind ∙ number-kind (kind_of e)),
          low,
        )

    -- ---- by the kind and the state alone

    module _ {kind : ℕ} {p : Place} (at : PlaceAt s.comments s.instructions mode kind p)
        (e : Event Text) (k : kind_number (kind_of e) ≡ kind) where
      unplaced : place_in t kind ≡ none → first_fit here e ≡ none
      unplaced z =
          split (ltb mode in_fragment)
          (λ a. outer-none valid h e (ltb-true mode in_fragment a))
          (λ a.
          let l = ltb-false mode in_fragment a in
          kind-none valid h e l (λ j b d tag alone y.
          let gone : place_in t j ≡ none = ap (place_in t) (sym (sym k ∙ y)) ∙ z in
          split (ltb mode in_tag)
          (λ u.
          let m = ltb-true mode in_tag u in
          let f : mode ≡ in_fragment = omega arith in
          let only : j ≡ number_of_se = alone (sym (outer-site top m)) in
          fragment-has s.comments s.instructions
          (ap (λ n. place_in (table_of s.comments s.instructions n) number_of_se) (sym f)
          ∙ ap (place_in t) (sym only) ∙ gone))
          (λ u.
          element-has s.comments s.instructions (ltb-false mode in_tag u) h.fits.known j b d
          (λ o. odd-tag mode top (tag o)) gone)))

      -- The state has no such production: SHAPE.
      pub no_code : p.level ≡ max_levels → code_here s w store mode opened e ≡ none
      no_code z =
          let none-there = no_place at z in
          rw (levels-here h s store)
          (place_none e here t (ap (place_in t) k ∙ none-there) (unplaced none-there))

      -- It has one.
      pub code-there : p.level < max_levels
          → (x : Code) × (code_here s w store mode opened e ≡ some x)
      code-there l = go (first_fit here e) refl
        where
          go : (o : Option (ℕ × Production)) → first_fit here e ≡ o
              → (x : Code) × (code_here s w store mode opened e ≡ some x)
          go none f = (_, (fixed-strict (has-place at l).code e k f).is)
          go (some y) f = (_, learned-code e f)

    -- ---- bits

    module _ (a : Alignment) where
      -- Of the table's production in a level.
      pub table-bits : (level v : ℕ) → level < length (table_of s.comments s.instructions mode)
          → code_bits a (levels_in s (context_of w store mode opened))
          (after_learned (length here) (code_at t level v)).parts
          ≡ fixed_bits a t (length here) level v
      table-bits level v l = rw (levels-here h s store) (code-bits a here t level v l)

      -- Of a learned one.
      pub learned-bits : in_fragment ≤ mode → (v : ℕ)
          → code_bits a (levels_in s (context_of w store mode opened)) (v ∷ [])
          ≡ choice_bits a (length here + values_at s.comments s.instructions mode 0) v
      learned-bits l v =
          rw (levels-here h s store)
          (bits.learned-bits a s.comments s.instructions mode
          (learning-levels s.comments s.instructions l h.fits.known) here v)
