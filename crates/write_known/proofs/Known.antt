-- A quick step: what it comes to, by the judgement that it stands for. The judgement is that of the
-- general step; here it is an argument of the laws alone.
use Prim.Native.Nat.{ℕ, ◌+◌, ◌≤◌, ◌<◌}
use native.Mathlib.Omega.{arith}
use mathlib.Core.Path.{◌≡◌, refl, sym, ap, subst, ◌∙◌}
use mathlib.Core.Bool.{true, false}
use mathlib.Core.List.{List, [], ◌++◌, append-nil}
use Rattle.spec_fields.specs.Field.{Alignment}
use Rattle.spec_fields.specs.Refusal.{number_of, place}
use Rattle.text.specs.Text.{inside}
use Rattle.spec_exi.specs.Event.{kind_of, strings_of}
use Rattle.spec_exi.specs.Settings.{Settings}
use Rattle.spec_exi.specs.Grammar.{kind_number}
use Rattle.spec_exi.specs.Lists.{every}
use Rattle.event.specs.declared.Event as declared
use Rattle.event.specs.Cells.{meaning}
use Rattle.mem_state.specs.declared.Core.{Core}
use Rattle.mem_state.specs.declared.Growth.{Growth}
use Rattle.mem_state.specs.Commit.{joined_strings, grown}
use Rattle.grammar_codes.specs.declared.Place.{Place}
use Rattle.grammar_codes.specs.Table.{table_of, place_in, place_as, PlaceAt}
use Rattle.grammar_codes.proofs.Places.{place_is, no_place, element-has}
use Rattle.event_code.specs.Numbers.{in_tag, in_element}
use Rattle.grammar_match.specs.Found.{FoundHere}
use Rattle.grammar_update.specs.Growth.{growth_of, allowed_in, fits_in}
use Rattle.grammar_update.specs.After.{core_after}
use Rattle.grammar_stepped.specs.Stepped.{stepped_as}
use Rattle.write_field.specs.Written.{Put}
use Rattle.write_field.proofs.Written.{put_then}
use Rattle.write_content.specs.Answer.{ContentAnswer}
use Rattle.write_content.specs.Contents.{ContentPost}
use Rattle.write_content.specs.Writing.{contentBits}
use Rattle.write_production.specs.declared.Code.{Code}
use Rattle.write_production.specs.Codes.{code_bits_as, first_bits}
use Rattle.write_production.proofs.First.{learned-first}
use Rattle.write_event.specs.Step.{StepPre, StepPost}
use Rattle.write_event.specs.Judge.{CodeHere, judged_as, after_content, JudgePost}
use Rattle.write_event.specs.Judge.{judgedBits}
use Rattle.write_event.proofs.Returns.{place-stops, content-stops, event-judged}
use Rattle.write_event.proofs.Steps.{judge-asks, step-refused, step-done}
use Rattle.write_known.specs.Known.{LearnedPut}

-- ---- the production

-- Where a kind stands in the table of a state.
pub record Placed (s : Settings) (mode kind : ℕ) : Type 0 where
  pub p : Place
  pub at : PlaceAt s.comments s.instructions mode kind p
  pub low : p.level < 3

-- In an element SE, EE and CH stand, and AT in its start tag.
pub inner-placed : (s : Settings) {mode : ℕ} (kind : ℕ) → in_tag ≤ mode → mode ≤ in_element → 2 ≤ kind
    → kind ≤ 5 → (kind ≡ 3 → mode ≡ in_tag) → Placed s mode kind
inner-placed s {mode} kind l h from to tag =
    let c = s.comments in
    let i = s.instructions in
    let at : PlaceAt c i mode kind (place_as (place_in (table_of c i mode) kind)) =
    place_is c i mode kind refl in
    let ne : (place_as (place_in (table_of c i mode) kind)).level ≡ 3 → ⊥ =
    λ z. element-has c i l h kind from to tag (no_place at z) in
    record {
      p = place_as (place_in (table_of c i mode) kind);
      at = at;
      low = omega (arith, at.few, ne);
    }

-- ---- the code

abbrev pub learned_code : ℕ → ℕ → Code
learned_code count part = record { learned = true; count = count; part = part }

-- Of a learned production, as it was put.
module _ {a : Alignment} {stream work : List ℕ} (c : Core) {row : ℕ} {mid : List ℕ} {next : ℕ}
    (q : LearnedPut a stream work c.at c.mode c.top row mid next) where
  pub learned-here : {kind name : ℕ} → FoundHere work c.mode c.top kind name c.learned row
      → 0 < row → CodeHere work c kind name (learned_code q.count q.part)
  learned-here f some =
      record {
        counted = q.counted;
        row = row;
        found = f;
        fixed = λ z. absurd (omega (arith, z, some));
        taken = λ _. (refl, q.part-is);
      }

  pub learned-put : (s : Settings) → s.alignment ≡ a → in_tag ≤ c.mode → c.mode ≤ in_element → (p : Place)
      → Put stream c.at (code_bits_as s c.mode p (learned_code q.count q.part)) mid next
  learned-put s same l h p =
      subst (λ w. Put stream c.at w mid next)
      (ap (λ b. first_bits b c.mode q.count q.part) (sym same)
      ∙ learned-first s q.count l h p q.part-is.few) q.put

-- ---- the step

module _ {stream work : List ℕ} {c : Core} {n : ℕ} (pre : StepPre stream work c n)
    (opening text : List ℕ) (s : Settings) (e : declared.Event) {kind : ℕ}
    (k : kind ≡ kind_number (kind_of (meaning e))) (placed : Placed s c.mode kind) where
  other : placed.p.level ≡ 3 → ⊥
  other z = omega (arith, z, placed.low)

  -- A string outside the store.
  pub quick-outside : every (inside text) (strings_of (meaning e)) ≡ false
      → StepPost s opening text (meaning e) stream work c n stream work
      (stepped_as (number_of place) c)
  unfolding number_of
  quick-outside f =
      step-refused pre
      (place-stops opening text s e (judge-asks pre) k placed.at other (sym f) refl) (omega arith)

  module _ (within : every (inside text) (strings_of (meaning e)) ≡ true) {x : ContentAnswer}
      (content : ContentPost opening text e c work x) where
    pub quick-refused : 0 < x.number
        → StepPost s opening text (meaning e) stream work c n stream work
        (stepped_as x.number c)
    quick-refused h =
        step-refused pre
        (content-stops opening text s e (judge-asks pre) k placed.at other (sym within) refl
        content h) h

    module _ (z : x.number ≡ 0) {code : Code}
        (here : CodeHere work c kind x.strings.name_row code) where
      judged : JudgePost s opening text e work c (after_content work c kind placed.p x code)
      judged =
          event-judged opening text s e (judge-asks pre) k placed.at other (sym within) refl
          content z (record { code = code; code_is = here; is = refl })

      module _ (allowed : allowed_in work c.tag kind x.strings.name_row ≡ true) {g : Growth}
          (growth-is : growth_of work c kind code.learned x.strings ≡ g) where
        accepted : fits_in c g ≡ true → JudgePost s opening text e work c (judged_as placed.p code x g)
        unfolding after_content
        accepted f =
            let h : after_content work c kind placed.p x code ≡ judged_as placed.p code x g =
            rw (allowed, growth-is, f) refl in
            subst (JudgePost s opening text e work c) h judged

        pub quick-written : fits_in c g ≡ true → {mid stream' : List ℕ} {next at : ℕ}
            → Put stream c.at (code_bits_as s c.mode placed.p code) mid next
            → Put mid next (contentBits text work e code.learned c x s.alignment) stream' at
            → {work' : List ℕ} {d : Core} → work' ≡ grown c g (joined_strings c x.strings work)
            → d ≡ core_after s.fragment c at x.stored x.strings g n
            → StepPost s opening text (meaning e) stream work c n stream' work' (stepped_as 0 d)
        unfolding judgedBits
        quick-written f p q w i =
            step-done pre (accepted f) refl (put_then p q) (record { work-is = w; core_is = i })

        -- Of an event that writes its code alone.
        pub quick-coded : fits_in c g ≡ true → {stream' : List ℕ} {at : ℕ}
            → Put stream c.at (code_bits_as s c.mode placed.p code) stream' at
            → contentBits text work e code.learned c x s.alignment ≡ []
            → {work' : List ℕ} {d : Core} → work' ≡ grown c g (joined_strings c x.strings work)
            → d ≡ core_after s.fragment c at x.stored x.strings g n
            → StepPost s opening text (meaning e) stream work c n stream' work' (stepped_as 0 d)
        unfolding judgedBits
        quick-coded f {stream'} {at} p none w i =
            let bits = code_bits_as s c.mode placed.p code in
            step-done pre (accepted f) refl
            (subst (λ u. Put stream c.at u stream' at)
            (sym (ap (λ u. bits ++ u) none ∙ append-nil bits)) p)
            (record { work-is = w; core_is = i })
