-- The answers of the quick steps of end tags.
use Prim.Native.Nat.{ℕ, ◌-◌}
use native.Mathlib.Omega.{arith}
use mathlib.Core.Path.{◌≡◌, refl, sym, ap, subst, ◌∙◌}
use mathlib.Core.Bool.{Bool, false, ◌&&◌, not}
use mathlib.Core.List.{List}
use Rattle.spec_fields.specs.Field.{Alignment}
use Rattle.spec_exi.specs.Settings.{Settings}
use Rattle.spec_exi.specs.Sizes.{max_events, max_string}
use Rattle.spec_exi.specs.Event.{EE, kind_of, map_event, strings_of}
use Rattle.spec_exi.specs.Grammar.{kind_number}
use Rattle.spec_exi.specs.Lists.{every}
use Rattle.event.specs.declared.Event.TheVariants.{EndElement}
use Rattle.event.specs.Cells.{meaning}
use Rattle.event_code.specs.Numbers.{teaches_in, in_element}
use Rattle.mem_rows.specs.Rows.{carries}
use Rattle.mem_state.specs.declared.Core.{Core}
use Rattle.mem_state.specs.Joining.{no_joining, no_strings}
use Rattle.mem_state.specs.Commit.{joined_uri, joined_name, joined_value, joined_strings, entered}
use Rattle.mem_state.specs.Commit.{learnt, marked, grown, top_after, depth_after, tag_number}
use Rattle.grammar_codes.specs.Table.{tables, table_of, number_in, in_level, place_in, place_as, PlaceAt}
use Rattle.grammar_codes.proofs.Places.{place_is}
use Rattle.grammar_match.specs.Here.{site_in, CountedHere}
use Rattle.grammar_match.specs.Found.{FoundHere}
use Rattle.grammar_update.specs.Growth.{growth_of, fits_in}
use Rattle.grammar_stepped.specs.Stepped.{stepped_as}
use Rattle.grammar_stepped.proofs.Moved.{moved-core, other-allowed}
use Rattle.write_field.specs.Written.{Put}
use Rattle.write_content.specs.Contents.{items_as, plain_as, ContentPost}
use Rattle.write_content.specs.Writing.{contentBits, Puttable}
use Rattle.write_content.proofs.Unnamed.{bare-judged}
use Rattle.write_production.specs.declared.Code.{Code}
use Rattle.write_production.specs.Codes.{code_bits_as, first_bits, FirstPre}
use Rattle.write_production.proofs.First.{end-first}
use Rattle.write_event.specs.Step.{StepPre, StepPost}
use Rattle.write_event.specs.Judge.{CodeHere}
use Rattle.write_known.specs.Known.{LearnedPre, LearnedPut}
use Rattle.write_known.proofs.Known.{Placed, inner-placed, learned-here, learned-put, quick-coded}
use Rattle.write_known.proofs.Values.{content-pre}
use Rattle.write_tags.specs.Tags.{ended_at, TagPost}

module _ {stream work : List ℕ} {c : Core} {n : ℕ} (pre : StepPre stream work c n) where
  bare : (opening text : List ℕ)
      → ContentPost opening text EndElement c work (plain_as c.stored no_strings)
  unfolding meaning map_event kind_of carries items_as contentBits Puttable
  bare opening text = bare-judged (content-pre pre) EndElement (λ _ _. refl) (λ _ _. refl) refl tt

  -- By its code, where nothing is learned.
  end-coded : (opening text : List ℕ) (s : Settings) (placed : Placed s c.mode 4) {code : Code}
      → CodeHere work c 4 0 code → not code.learned && teaches_in c.mode 4 ≡ false
      → {stream' : List ℕ} {at : ℕ}
      → Put stream c.at (code_bits_as s c.mode placed.p code) stream' at
      → StepPost s opening text (meaning EndElement) stream work c n stream' work
      (stepped_as 0 (ended_at s.fragment c at n))
  unfolding kind_of meaning strings_of every kind_number growth_of fits_in grown learnt entered marked
      joined_strings joined_uri joined_name joined_value top_after depth_after tag_number contentBits
  end-coded opening text s placed here untaught {at = at} put =
      quick-coded pre opening text s EndElement refl placed refl (bare opening text) refl here
      (other-allowed work c.tag 0 refl refl)
      (ap (λ b. record {
        enters = false;
        teaches = b;
        site = site_in c.mode c.top;
        kind = 4;
        name = 0;
        uri = 0;
      }) untaught)
      refl put refl refl
      (moved-core s.fragment c at c.stored no_joining 0 0 0 false (site_in c.mode c.top) 4 0 0 n)

  -- Of a learned production.
  pub known-ended : (fragment : Bool) {row : ℕ} → LearnedPre EE work c 0 row → {a : Alignment} {stream' : List ℕ}
      {at : ℕ} → LearnedPut a stream work c.at c.mode c.top row stream' at
      → TagPost a fragment EndElement stream work c n stream' (stepped_as 0 (ended_at fragment c at n))
  unfolding kind_number
  known-ended fragment known {stream' = stream'} {at = at} q =
      let l = known.inner in
      let h = pre.bounded.fits.known in
      record {
        steps = λ s same which opening text.
            subst (λ b. StepPost s opening text (meaning EndElement) stream work c n stream' work
            (stepped_as 0 (ended_at b c at n))) which
            (let placed = inner-placed s 4 l h (omega arith) (omega arith) (λ z. absurd (omega (arith, z)))
            in
            end-coded opening text s placed (learned-here c q known.found known.some) refl
            (learned-put c q s same l h placed.p));
      }

  -- ---- in an element's content

  module _ (in-content : c.mode ≡ in_element) where
    pub end-asks : {count : ℕ} → CountedHere work c.mode c.top count
        → FirstPre stream c.at count count
    unfolding max_events max_string
    end-asks q =
        record {
          blank = pre.blank;
          near = omega (arith, pre.near);
          few = q.few;
          low = omega arith;
        }

    first-there : (s : Settings)
        → PlaceAt s.comments s.instructions c.mode 4 (record { level = 0; value = 0 })
    unfolding tables table_of place_in number_in in_level place_as kind_number
    first-there s = place_is s.comments s.instructions c.mode 4 (rw in-content refl)

    pub content-ended : (fragment : Bool) {count : ℕ} → CountedHere work c.mode c.top count
        → FoundHere work c.mode c.top 4 0 c.learned 0 → {a : Alignment} {stream' : List ℕ}
        {at : ℕ} → Put stream c.at (first_bits a c.mode count count) stream' at
        → TagPost a fragment EndElement stream work c n stream' (stepped_as 0 (ended_at fragment c at n))
    unfolding teaches_in
    content-ended fragment {count} counted none {a} {stream'} {at} q =
        let code : Code = record { learned = false; count = count; part = 0 } in
        let here : CodeHere work c 4 0 code = record {
          counted = counted;
          row = 0;
          found = none;
          fixed = λ _. (refl, refl);
          taken = λ h. absurd (omega (arith, h));
        } in
        record {
          steps = λ s same which opening text.
              subst (λ b. StepPost s opening text (meaning EndElement) stream work c n stream' work
              (stepped_as 0 (ended_at b c at n))) which
              (end-coded opening text s
              (record {
                p = record { level = 0; value = 0 };
                at = first-there s;
                low = omega arith;
              }) here
              (ap (λ m. teaches_in m 4) in-content)
              (subst (λ w. Put stream c.at w stream' at)
              (ap (λ b. first_bits b c.mode count count) (sym same)
              ∙ ap (λ m. first_bits s.alignment m count count) in-content
              ∙ end-first s count
              ∙ ap (λ m. code_bits_as s m (record { level = 0; value = 0 }) code) (sym in-content)) q));
        }
