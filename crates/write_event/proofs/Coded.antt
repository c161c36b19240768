-- The code of an event: whose name it carries is in the tables, and its bits.
use Prim.Native.Nat.{ℕ, ◌<◌}
use native.Mathlib.Omega.{arith}
use mathlib.Core.Path.{◌≡◌, refl, sym, ap, subst, ◌∙◌}
use mathlib.Core.Bool.{true, false, true≢false}
use mathlib.Core.List.{List}
use mathlib.Core.Option.{Option, none, some, none-ne-some}
use lib.ListN.{length, replicate}
use lib.Dec.{ltb}
use borrow.Author.Tests.{ltb-true, ltb-false}
use Rattle.spec_fields.proofs.Tests.{split}
use Rattle.text.specs.Text.{Text}
use Rattle.spec_exi.specs.Event.{Event, start_document, end_document, end_element, start_element}
use Rattle.spec_exi.specs.Event.{attribute, characters, comment, instruction, Kind, kind_of, name_of}
use Rattle.spec_exi.specs.Settings.{Settings}
use Rattle.spec_exi.specs.Grammar.{State, Production, Code, kind_number, is_wildcard, unnamed, at_level}
use Rattle.spec_exi.specs.Grammar.{first_fit}
use Rattle.spec_exi.specs.Context.{name_items, items}
use Rattle.grammar_codes.specs.declared.Place.{Place}
use Rattle.grammar_codes.specs.Table.{FixedCode, after_learned, PlaceAt, max_levels}
use Rattle.grammar_codes.proofs.Places.{has-place}
use Rattle.grammar_codes.proofs.Teaches.{reached-unnamed}
use Rattle.grammar_match.specs.Here.{site_in, CodeRows, learned_here, code_here}
use Rattle.grammar_match.proofs.Here.{site-fits, inner-here}
use Rattle.grammar_match.proofs.Unfit.{outer-none}
use Rattle.grammar_match.proofs.Codes.{fixed-strict, learned-strict}
use Rattle.mem_rows.specs.Rows.{Rows, name_at, carries}
use Rattle.mem_rows.specs.Valid.{no_learnt, Valid}
use Rattle.mem_rows.proofs.Kept.{all-backward, all-at}
use Rattle.mem_rows.proofs.Learned.{learned-at}
use Rattle.write_partition.specs.Writable.{tables_in}
use Rattle.write_qname.specs.Qnames.{name_as, NameHits}
use Rattle.write_content.specs.Contents.{items_as, NamedHits}
use Rattle.event_code.specs.Numbers.{in_fragment}
use Rattle.write_event.proofs.Names.{row-hits, RowFits, fit_row, row-kind, row_plain, row-name}

-- ---- strings, by whether the name is written

pub items_as_lem : (st : State) (p : Production) (e : Event Text)
    → items st p e ≡ items_as (is_wildcard p.qname) st e
unfolding items items_as name_items name_as
items_as_lem st p start_document = refl
items_as_lem st p end_document = refl
items_as_lem st p end_element = refl
items_as_lem st p (start_element q) = refl
items_as_lem st p (attribute q v) = refl
items_as_lem st p (characters v) = refl
items_as_lem st p (comment x) = refl
items_as_lem st p (instruction x y) = refl

-- A production of the table carries no name.
pub fixed-wild : {t : List (List Kind)} {kind : ℕ} {x : Code} → FixedCode t kind x
    → is_wildcard x.production.qname ≡ true
unfolding is_wildcard unnamed
fixed-wild f = rw (reached-unnamed f.reaches)

-- ---- a learned production that fits

named-hits : {w : Rows} → Valid w → (stored : ℕ) (n : ℕ) → n < length w.names → (e : Event Text)
    → name_of e ≡ some (name_at w n) → NamedHits (tables_in w stored) e
unfolding NamedHits name_of
named-hits v stored n h start_document z = absurd (none-ne-some _ z)
named-hits v stored n h end_document z = absurd (none-ne-some _ z)
named-hits v stored n h end_element z = absurd (none-ne-some _ z)
named-hits {w} v stored n h (start_element q) z =
    let e : name_at w n ≡ q = cc in
    subst (NameHits (tables_in w stored) false) e (row-hits v stored n h false)
named-hits {w} v stored n h (attribute q x) z =
    let e : name_at w n ≡ q = cc in
    subst (NameHits (tables_in w stored) true) e (row-hits v stored n h true)
named-hits v stored n h (characters x) z = absurd (none-ne-some _ z)
named-hits v stored n h (comment x) z = absurd (none-ne-some _ z)
named-hits v stored n h (instruction x y) z = absurd (none-ne-some _ z)

module _ {work : List ℕ} {learned mode top : ℕ} {w : Rows} {opened : List ℕ} (valid : Valid w)
    (rows : CodeRows work learned mode top w opened) where
  fitting-row : (e : Event Text) {y : ℕ × Production}
      → first_fit (learned_here w mode opened) e ≡ some y → RowFits w e y.1
  fitting-row e {y} f =
      split (ltb mode in_fragment)
      (λ t. absurd (none-ne-some _ (sym (outer-none valid rows e (ltb-true mode in_fragment t)) ∙ f)))
      (λ t.
      let l = ltb-false mode in_fragment t in
      fit_row w e (site_in mode top)
      (all-backward (all-at no_learnt w.learned valid.refers.learned))
      (sym (ap (λ ps. first_fit ps e) (inner-here rows l
      ∙ learned-at valid (site_in mode top) (site-fits rows l))) ∙ f))

  -- Where the event's code carries a name, both its strings are in their tables.
  module _ (s : Settings) (stored : ℕ) {kind : ℕ} {p : Place}
      (at : PlaceAt s.comments s.instructions mode kind p) (low : p.level < max_levels)
      (e : Event Text) (k : kind_number (kind_of e) ≡ kind) where
    pub code-hits : {x : Code} → code_here s w (replicate stored 0) mode opened e ≡ some x
        → is_wildcard x.production.qname ≡ false → NamedHits (tables_in w stored) e
    unfolding after_learned at_level is_wildcard
    code-hits {x} is named = go (first_fit (learned_here w mode opened) e) refl
      where
        same : {z : Code} → code_here s w (replicate stored 0) mode opened e ≡ some z → z ≡ x
        same f = cc

        go : (o : Option (ℕ × Production)) → first_fit (learned_here w mode opened) e ≡ o
            → NamedHits (tables_in w stored) e
        go none f =
            let h = (has-place at low).code in
            let z = same (fixed-strict valid rows s (replicate stored 0) h e k f).is in
            absurd (true≢false (sym (fixed-wild h)
            ∙ ap (λ (y : Code). is_wildcard y.production.qname) z ∙ named))
        go (some y) f =
            let r = fitting-row e f in
            let z = same (learned-strict valid rows s (replicate stored 0) r.row e
            (f ∙ ap (λ q. some (y.0, q)) r.is) (row-kind w e r)).is in
            split (carries (kind_of e))
            (λ t. named-hits valid stored r.row.name r.fit.name e (row-name w e r t))
            (λ t. absurd (true≢false (sym (ap is_wildcard (row_plain w e r t))
            ∙ ap (λ (q : Production). is_wildcard q.qname) r.is
            ∙ ap (λ (c : Code). is_wildcard c.production.qname) z ∙ named)))
