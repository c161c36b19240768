-- The answers of the quick step of an attribute.
use Prim.Native.Nat.{ℕ, ◌<◌}
use native.Mathlib.Omega.{arith}
use mathlib.Core.Path.{◌≡◌, refl, sym, ap, ◌∙◌}
use mathlib.Core.Bool.{Bool, true, false, not}
use mathlib.Core.List.{List}
use borrow.Author.Tests.{not-true, not-false}
use Rattle.spec_fields.specs.Field.{Alignment}
use Rattle.spec_fields.specs.Refusal.{number_of, place}
use Rattle.text.specs.Text.{Text, inside, part}
use Rattle.spec_exi.specs.Settings.{Settings}
use Rattle.spec_exi.specs.Sizes.{max_events}
use Rattle.spec_exi.specs.Event.{AT, kind_of, strings_of}
use Rattle.spec_exi.specs.Grammar.{kind_number}
use Rattle.spec_exi.specs.Lists.{every}
use Rattle.event.specs.declared.Part.{Part}
use Rattle.event.specs.declared.Event.TheVariants.{Attribute}
use Rattle.event.specs.Cells.{as_span, as_name, meaning}
use Rattle.mem_marks.specs.Marks.{marked_in, with_mark}
use Rattle.event_code.specs.Numbers.{in_tag}
use Rattle.mem_rows.specs.Rows.{mode_after}
use Rattle.mem_state.specs.declared.Core.{Core}
use Rattle.mem_state.specs.Commit.{joined_uri, joined_name, joined_strings, entered}
use Rattle.mem_state.specs.Commit.{learnt, marked, grown, top_after, depth_after, tag_number}
use Rattle.mem_state.specs.Commit.{counted, turned}
use Rattle.grammar_match.specs.Here.{site_in}
use Rattle.grammar_update.specs.Growth.{growth_of, fits_in}
use Rattle.grammar_stepped.specs.Stepped.{stepped_as, moved_on}
use Rattle.grammar_stepped.proofs.Moved.{moved-core, attribute-allowed}
use Rattle.write_values.specs.Values.{ValueAnswer, ValuePost}
use Rattle.write_qname.specs.Qnames.{joining_of}
use Rattle.write_content.specs.Writing.{named_bits, valued_bits, contentBits}
use Rattle.write_content.proofs.Named.{attribute-value-refused, attribute-judged}
use Rattle.write_event.specs.Step.{StepPre}
use Rattle.write_event.proofs.Events.{every-three}
use Rattle.write_known.specs.Known.{LearnedPut, ValueKept, LearnedPre, AttributePost}
use Rattle.write_known.proofs.Known.{Placed, inner-placed, learned-here, learned-put}
use Rattle.write_known.proofs.Known.{quick-outside, quick-refused, quick-written}
use Rattle.write_known.proofs.Values.{content-pre, kept_put}

numbered : {stream work : List ℕ} {c : Core} {m n : ℕ} → StepPre stream work c m → n < max_events
    → StepPre stream work c n
numbered pre early =
    record {
      blank = pre.blank;
      near = pre.near;
      rows = pre.rows;
      bounded = pre.bounded;
      early = early;
    }

lies : (text : List ℕ) (uri local value : Part) {b : Bool} → inside text (as_span uri) ≡ true
    → inside text (as_span local) ≡ true → b ≡ inside text (as_span value)
    → every (inside text) (strings_of (meaning (Attribute uri local value))) ≡ b
unfolding strings_of meaning as_name
lies text uri local value u l is =
    sym (every-three (inside text) (as_span uri) (as_span local) (as_span value)) ∙ rw (u, l) (sym is)

module _ {stream work : List ℕ} {c : Core} (pre : StepPre stream work c 0) {name row : ℕ}
    (known : LearnedPre AT work c name row) (in-tag : c.mode ≡ in_tag) where
  stands : (s : Settings) → Placed s c.mode 3
  stands s =
      inner-placed s 3 known.inner pre.bounded.fits.known (omega arith) (omega arith)
      (λ _. in-tag)

  module _ (text : List ℕ) (value : Part) {b : Bool} (is : b ≡ inside text (as_span value)) where
    pub attribute-outside : not b ≡ true → {a : Alignment}
        → AttributePost a text value name stream work c stream work (stepped_as (number_of place) c)
    unfolding kind_of meaning kind_number
    attribute-outside o =
        record {
          steps = λ n early s same opening uri local u l named.
              quick-outside (numbered pre early) opening text s (Attribute uri local value) refl
              (stands s) (lies text uri local value u l is ∙ not-true b o);
        }

    module _ (i : not b ≡ false) {y : Text}
        (look : y ≡ part text (record { place = value.place; size = value.size }))
        {v : ValueAnswer} (post : ValuePost text y name c.values c.longest c.capacity c.stored work v)
      where
        pub attribute-stopped : 0 < v.number → {a : Alignment}
            → AttributePost a text value name stream work c stream work (stepped_as v.number c)
        unfolding kind_of meaning kind_number
        attribute-stopped h =
            record {
              steps = λ n early s same opening uri local u l named.
                  quick-refused (numbered pre early) opening text s (Attribute uri local value) refl
                  (stands s) (lies text uri local value u l is ∙ not-false b i)
                  (attribute-value-refused (content-pre pre) named.post value refl look post h) h;
            }

        pub attribute-stepped : v.number ≡ 0 → marked_in work c.tag name ≡ false → {a : Alignment}
            {mid : List ℕ} {next : ℕ}
            → LearnedPut a stream work c.at c.mode c.top row mid next
            → {stream' work₁ work' : List ℕ} {at : ℕ}
            → ValueKept a mid next y value v name c.values c.capacity work stream' work₁ at
            → work' ≡ with_mark work₁ c.tag name
            → AttributePost a text value name stream work c stream' work'
            (stepped_as 0
            (moved_on c at v.stored v.joins false c.mode c.top c.depth c.tag))
        unfolding kind_of meaning kind_number growth_of fits_in grown learnt entered marked joined_strings
            joined_uri joined_name mode_after top_after depth_after tag_number contentBits named_bits
            valued_bits counted turned
        attribute-stepped z f q {at = at} kept w =
            let x = joining_of value v.joins v.hash in
            record {
              steps = λ n early s same opening uri local u l named.
                  quick-written (numbered pre early) opening text s (Attribute uri local value) refl
                  (stands s) (lies text uri local value u l is ∙ not-false b i)
                  (attribute-judged (content-pre pre) named.post value refl look post z) refl
                  (learned-here c q known.found known.some)
                  (attribute-allowed work c.tag name refl (sym f)) refl refl
                  (learned-put c q s same known.inner pre.bounded.fits.known
                  (stands s).p)
                  (kept_put text look same kept)
                  (w ∙ ap (λ k. with_mark k c.tag name) kept.work-is)
                  (moved-core s.fragment c at v.stored x named.u name name false (site_in c.mode c.top) 3
                  name named.u n);
            }
