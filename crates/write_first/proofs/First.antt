-- A quick step of an event that may teach a production: what it comes to, by the judgement that it
-- stands for. The judgement is that of the general step; here it is an argument of the laws alone.
use Prim.Native.Nat.{ℕ, ◌<◌}
use native.Mathlib.Omega.{arith}
use mathlib.Core.Path.{◌≡◌, refl, sym, ap, subst, ◌∙◌}
use mathlib.Core.Bool.{Bool, true, false, not}
use mathlib.Core.List.{List}
use borrow.Author.Tests.{not-true, not-false}
use Rattle.spec_fields.specs.Refusal.{number_of, limit, shape, place}
use Rattle.text.specs.Text.{inside}
use Rattle.spec_exi.specs.Settings.{Settings}
use Rattle.spec_exi.specs.Event.{kind_of, strings_of}
use Rattle.spec_exi.specs.Grammar.{kind_number}
use Rattle.spec_exi.specs.Lists.{every}
use Rattle.event.specs.declared.Event as declared
use Rattle.event.specs.Cells.{meaning}
use Rattle.mem_state.specs.declared.Core.{Core}
use Rattle.mem_state.specs.declared.Strings.{Strings}
use Rattle.mem_state.specs.declared.Growth.{Growth}
use Rattle.mem_state.specs.Commit.{joined_strings, grown, StringsPre, GrowPre}
use Rattle.grammar_codes.specs.declared.Place.{Place}
use Rattle.grammar_codes.specs.Table.{PlaceAt, max_levels}
use Rattle.grammar_update.specs.Growth.{GrowthPre, growth_of, allowed_in, fits_in}
use Rattle.grammar_update.specs.After.{core_after, AfterPre}
use Rattle.grammar_stepped.specs.Stepped.{stepped_as}
use Rattle.write_field.specs.Written.{Put}
use Rattle.write_content.specs.Answer.{ContentAnswer}
use Rattle.write_content.specs.Contents.{ContentPre, ContentPost}
use Rattle.write_production.specs.declared.Code.{Code}
use Rattle.write_production.specs.Codes.{CodePre}
use Rattle.write_event.specs.Step.{StepPre, StepPost}
use Rattle.write_event.specs.Judge.{CodeHerePre, CodeHere, refused_as, judged_as, after_content}
use Rattle.write_event.specs.Judge.{JudgePost, judgedBits, PutEventPre, CommitPre}
use Rattle.write_event.proofs.Returns.{shape-stops, place-stops, content-stops, event-judged}
use Rattle.write_event.proofs.Puts.{code-asks}
use Rattle.write_event.proofs.Steps.{judge-asks, step-refused, put-asks, commit-asks, step-done}
use Rattle.write_event.proofs.Steps.{join-asks, grow-asks, after-asks}
use Rattle.write_first.specs.First.{Accepted}

-- ---- the kind, the places and the content

module _ {stream work : List ℕ} {c : Core} {n : ℕ} (pre : StepPre stream work c n) where
  pub content-pre : ContentPre work c
  content-pre = record { room = pre.rows; bounded = pre.bounded }

  module _ (opening text : List ℕ) (s : Settings) (e : declared.Event) {kind : ℕ}
      (k : kind ≡ kind_number (kind_of (meaning e))) {p : Place}
      (at : PlaceAt s.comments s.instructions c.mode kind p) where
    pub first-shape : p.level ≡ max_levels
        → StepPost s opening text (meaning e) stream work c n stream work
        (stepped_as (number_of shape) c)
    unfolding number_of
    first-shape z =
        step-refused pre (shape-stops opening text s e (judge-asks pre) k at z) (omega arith)

    module _ (ne : p.level ≡ max_levels → ⊥) {b : Bool}
        (is : every (inside text) (strings_of (meaning e)) ≡ b) where
      -- A string outside the store.
      pub first-outside : not b ≡ true
          → StepPost s opening text (meaning e) stream work c n stream work
          (stepped_as (number_of place) c)
      unfolding number_of
      first-outside o =
          step-refused pre (place-stops opening text s e (judge-asks pre) k at ne (sym is) o)
          (omega arith)

      module _ (i : not b ≡ false) {x : ContentAnswer} (content : ContentPost opening text e c work x)
        where
          pub first-stopped : 0 < x.number
              → StepPost s opening text (meaning e) stream work c n stream work
              (stepped_as x.number c)
          first-stopped h =
              step-refused pre
              (content-stops opening text s e (judge-asks pre) k at ne (sym is) i content h) h

          pub first-accepted : Accepted s opening text e work c p x
          first-accepted =
              record {
                at = subst (λ m. PlaceAt s.comments s.instructions c.mode m p) k at;
                low = omega (arith, at.few, ne);
                within = is ∙ not-false b i;
                content = content;
              }

-- ---- the grammars, the bits and the rows

module _ {stream work : List ℕ} {c : Core} {n : ℕ} (pre : StepPre stream work c n) {s : Settings}
    {opening text : List ℕ} {e : declared.Event} {p : Place} {x : ContentAnswer}
    (a : Accepted s opening text e work c p x) (z : x.number ≡ 0) {st : Strings}
    (same : st ≡ x.strings) where
  abbrev kind : ℕ
  kind = kind_number (kind_of (meaning e))

  abbrev name : ℕ
  name = x.strings.name_row

  pub here-pre : CodeHerePre work c x.strings.name_row
  here-pre =
      record { room = pre.rows; bounded = pre.bounded; name-low = (a.content.bounds z).name }

  pub growth-pre : GrowthPre work c st
  growth-pre =
      subst (λ (t : Strings). GrowthPre work c t) (sym same)
      (record {
        room = pre.rows;
        name = (a.content.bounds z).name;
        top = pre.bounded.top;
        few = pre.bounded.learned;
      })

  module _ {code : Code} (here : CodeHere work c kind name code) where
    judged : JudgePost s opening text e work c (after_content work c kind p x code)
    judged =
        event-judged opening text s e (judge-asks pre) refl a.at
        (λ l. omega (arith, l, a.low)) (sym a.within) refl a.content z
        (record { code = code; code_is = here; is = refl })

    -- A second attribute of one name.
    pub first-equal : {may : Bool} → may ≡ allowed_in work c.tag kind name → not may ≡ true
        → StepPost s opening text (meaning e) stream work c n stream work
        (stepped_as (number_of shape) c)
    unfolding after_content number_of
    first-equal {may} m o =
        let h : after_content work c kind p x code ≡ refused_as 14 c =
        rw (sym m, not-true may o) refl in
        step-refused pre (subst (JudgePost s opening text e work c) h judged) (omega arith)

    module _ (allowed : allowed_in work c.tag kind name ≡ true) {g : Growth}
        (growth-is : g ≡ growth_of work c kind code.learned st) {fit : Bool}
        (f : fit ≡ fits_in c g) where
      growth-same : g ≡ growth_of work c kind code.learned x.strings
      growth-same = growth-is ∙ ap (growth_of work c kind code.learned) same

      fits : fits_in c (growth_of work c kind code.learned x.strings) ≡ fit
      fits = ap (fits_in c) (sym growth-same) ∙ sym f

      -- A size that is passed.
      pub first-limit : not fit ≡ true
          → StepPost s opening text (meaning e) stream work c n stream work
          (stepped_as (number_of limit) c)
      unfolding after_content number_of
      first-limit o =
          let h : after_content work c kind p x code ≡ refused_as 12 c =
          rw (allowed, fits, not-true fit o) refl in
          step-refused pre (subst (JudgePost s opening text e work c) h judged) (omega arith)

      module _ (o : not fit ≡ false) where
        accepted : JudgePost s opening text e work c (judged_as p code x g)
        unfolding after_content
        accepted =
            let h : after_content work c kind p x code
            ≡ judged_as p code x (growth_of work c kind code.learned x.strings) =
            rw (allowed, fits, not-false fit o) refl in
            subst (λ (k : Growth). JudgePost s opening text e work c (judged_as p code x k))
            (sym growth-same) (subst (JudgePost s opening text e work c) h judged)

        pub put-pre : PutEventPre s stream text e work c (judged_as p code x g)
        put-pre = put-asks pre accepted refl

        pub code-pre : CodePre s stream c.at c.mode p code
        code-pre = code-asks put-pre

        commit-pre : CommitPre work c (judged_as p code x g) n
        commit-pre = commit-asks pre accepted refl

        pub join-pre : StringsPre work c st
        join-pre =
            subst (λ (t : Strings). StringsPre work c t) (sym same) (join-asks commit-pre)

        pub after-pre : AfterPre c g n
        after-pre = after-asks commit-pre

        module _ {work₁ : List ℕ} (joined : work₁ ≡ joined_strings c st work) where
          joined_same : work₁ ≡ joined_strings c x.strings work
          joined_same = joined ∙ ap (λ (t : Strings). joined_strings c t work) same

          pub grow-pre : GrowPre work₁ c g
          grow-pre = grow-asks commit-pre joined_same

          pub first-written : {stream' : List ℕ} {at : ℕ}
              → Put stream c.at (judgedBits s text e work c (judged_as p code x g)) stream' at
              → {work' : List ℕ} → work' ≡ grown c g work₁
              → {d : Core} → d ≡ core_after s.fragment c at x.stored st g n
              → StepPost s opening text (meaning e) stream work c n stream' work' (stepped_as 0 d)
          first-written {at = at} q w i =
              step-done pre accepted refl q
              (record {
                work-is = w ∙ ap (grown c g) joined_same;
                core_is = i ∙ ap (λ (t : Strings). core_after s.fragment c at x.stored t g n) same;
              })
