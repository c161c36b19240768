-- The step of an event by a production that is not learned: what it comes to, by the content that it
-- stands for. The content is that of the general step; here it is an argument of the laws alone.
use Prim.Native.Nat.{ℕ, ◌+◌, ◌≤◌, ◌<◌}
use native.Mathlib.Omega.{arith}
use mathlib.Core.Path.{◌≡◌, refl, sym, ap, subst, ◌∙◌}
use mathlib.Core.Bool.{Bool, true, false, not, true≢false}
use mathlib.Core.List.{List, ◌++◌}
use lib.ListN.{length, take, drop}
use lib.Dec.{eqb}
use borrow.Author.Tests.{not-true, not-false, eq-eqb, ne_eqb}
use Rattle.spec_fields.specs.Refusal.{number_of, shape, loose, limit}
use Rattle.spec_exi.specs.Sizes.{cells_per_event, max_events}
use Rattle.spec_exi.specs.Settings.{Settings}
use Rattle.spec_exi.specs.Event.{Kind}
use Rattle.spec_exi.specs.Grammar.{kind_number}
use Rattle.mem_state.specs.declared.Core.{Core}
use Rattle.mem_state.specs.declared.Strings.{Strings}
use Rattle.mem_state.specs.declared.Growth.{Growth}
use Rattle.event.specs.declared.Event as declared
use Rattle.event.specs.Cells.{cells_of, meaning}
use Rattle.mem_rows.specs.Rows.{mode_after}
use Rattle.mem_state.specs.Commit.{joined_strings, counted, turned, top_after, depth_after}
use Rattle.mem_state.specs.Commit.{tag_number, grown, GrowPre}
use Rattle.grammar_match.specs.Found.{FoundHere}
use Rattle.grammar_update.specs.Growth.{growth_of, allowed_in, fits_in}
use Rattle.grammar_update.specs.After.{core_after}
use Rattle.grammar_stepped.specs.Stepped.{stepped_as}
use Rattle.grammar_stepped.proofs.Moved.{growth-by}
use Rattle.read_production.specs.View.{ProductionRead}
use Rattle.read_content.specs.View.{Content}
use Rattle.read_content.specs.Contents.{ContentPre, ContentPost}
use Rattle.grammar_stepped.specs.declared.Stepped.{Stepped}
use Rattle.read_event.specs.Judge.{JudgePost, EventPre, EventPost, Tested, judge_number}
use Rattle.read_event.specs.Step.{StepPre, StepPost}
use Rattle.read_event.proofs.Returns.{content-asks, content-stops, judge-stops, event-read}
use Rattle.read_event.proofs.Returns.{stored_grows, clear_room}
use Rattle.read_event.proofs.Steps.{event-asks, step-refused, step-read, join-asks, grow-asks}
use Rattle.read_event.proofs.Steps.{after-asks}
use Rattle.read_first.specs.First.{JudgePre, TestedBy, Judgement, DroppedPost, FirstPre}
use Rattle.read_first.specs.First.{turnedBy, AddPre, Added}

-- ---- what is judged

-- The judgement of what an event leaves is that of the event.
module _ {work : List ℕ} {c : Core} {p : ProductionRead} (fixed : p.learned ≡ false)
    {s : Strings} where
  tested-as : {g : Growth} → growth_of work c p.kind p.learned s ≡ g → {r : ℕ}
      → TestedBy work c g r → Tested work c p s r
  unfolding growth_of
  tested-as {g} e {r} t =
      record {
        l = not (eqb t.row 0);
        l-is = record {
          learned = λ l. absurd (true≢false (sym l ∙ fixed));
          fixed = λ _. record {
            row = t.row;
            found = subst
                (λ (h : Growth). FoundHere work c.mode c.top h.kind h.name c.learned
                t.row) (sym e) t.found;
            is = refl;
          };
        };
        number_is = t.is
            ∙ ap (λ (h : Growth). judge_number (not (eqb t.row 0)) (fits_in c h)) (sym e);
      }

  judged-as : {g : Growth} → growth_of work c p.kind p.learned s ≡ g → {r : ℕ}
      → Judgement work c g r → JudgePost work c p s (record { number = r; growth = g })
  unfolding growth_of
  judged-as {g} e {r} j =
      let allowed : allowed_in work c.tag p.kind s.name_row
      ≡ allowed_in work c.tag g.kind g.name =
      ap (λ (h : Growth). allowed_in work c.tag h.kind h.name) e in
      record {
        growth-is = sym e;
        equal = λ a. j.equal (sym allowed ∙ a);
        tested = λ a. tested-as e (j.tested (sym allowed ∙ a));
      }

-- The tests, one after the other.
module _ {work : List ℕ} {c : Core} {g : Growth} {a : Bool}
    (allowed : a ≡ allowed_in work c.tag g.kind g.name) where
  pub judge-equal : not a ≡ true → Judgement work c g (number_of shape)
  judge-equal h =
      record {
        equal = λ _. refl;
        tested = λ t. absurd (true≢false (sym t ∙ sym allowed ∙ not-true a h));
      }

  module _ (h : not a ≡ false) {row : ℕ}
      (found : FoundHere work c.mode c.top g.kind g.name c.learned row) where
    judged-by : {m : ℕ} → m ≡ judge_number (not (eqb row 0)) (fits_in c g) → Judgement work c g m
    judged-by e =
        record {
          equal = λ z. absurd (true≢false (sym (not-false a h) ∙ allowed ∙ z));
          tested = λ _. record { row = row; found = found; is = e };
        }

    pub judge-loose : (row ≡ 0 → ⊥) → Judgement work c g (number_of loose)
    unfolding judge_number
    judge-loose some =
        judged-by (sym (ap (λ b. judge_number (not b) (fits_in c g)) (ne_eqb row 0 some)))

    module _ (none : row ≡ 0) {f : Bool} (fit : f ≡ fits_in c g) where
      strict : {m : ℕ} → m ≡ judge_number false f → Judgement work c g m
      strict e =
          judged-by (e ∙ ap (judge_number false) fit
          ∙ sym (ap (λ b. judge_number (not b) (fits_in c g)) (eq-eqb row 0 none)))

      pub judge-limit : not f ≡ true → Judgement work c g (number_of limit)
      unfolding judge_number
      judge-limit o = strict (sym (ap (judge_number false) (not-true f o)))

      pub judge-passes : not f ≡ false → Judgement work c g 0
      unfolding judge_number
      judge-passes o = strict (sym (ap (judge_number false) (not-false f o)))

-- What fits is accepted alone.
pub judged-fits : (l f : Bool) → judge_number l f ≡ 0 → f ≡ true
unfolding judge_number number_of
judged-fits true f e = absurd (omega arith)
judged-fits false true e = refl
judged-fits false false e = absurd (omega arith)

-- ---- the numbers after it

-- By the kind of what it leaves in the grammars.
pub turned_as : (f : Bool) (c : Core) (at stored : ℕ) (s : Strings) (g : Growth) (n : ℕ) {k : ℕ}
    {mode top depth tag : ℕ} → g.kind ≡ k → mode ≡ mode_after f k c.mode c.depth
    → top ≡ top_after k g.name c.top → depth ≡ depth_after k c.depth
    → tag ≡ tag_number k n c.tag
    → turnedBy c at stored s.new_uri s.new_name s.new_value g mode top depth tag
    ≡ core_after f c at stored s g n
unfolding turned counted
turned_as f c at stored s g n e m t d o =
    (λ i. turnedBy c at stored s.new_uri s.new_name s.new_value g (m i) (t i) (d i)
    (o i))
    ∙ ap (λ k. turnedBy c at stored s.new_uri s.new_name s.new_value g
    (mode_after f k c.mode c.depth) (top_after k g.name c.top) (depth_after k c.depth)
    (tag_number k n c.tag)) (sym e)

-- Bounds are the same whatever the event's number.
pub add-numbered : {events work : List ℕ} {s : Strings} {g : Growth} {c : Core} {cell n : ℕ}
    → AddPre events work s g c cell n → {m : ℕ} → m < max_events → AddPre events work s g c cell m
add-numbered pre h =
    record {
      cells = pre.cells;
      join = pre.join;
      grow = pre.grow;
      after = record {
        bounded = pre.after.bounded;
        early = h;
        stands = pre.after.stands;
      };
    }

-- It is added, once its strings have joined.
module _ {events work : List ℕ} {s : Strings} {g : Growth} {c : Core} {cell n : ℕ}
    (pre : AddPre events work s g c cell n) {work₁ : List ℕ} (e : work₁ ≡ joined_strings c s work)
  where
    pub grow-still : GrowPre work₁ c g
    grow-still = subst (λ w. GrowPre w c g) (sym e) pre.grow

    pub added-as : (f : Bool) {k : ℕ} → g.kind ≡ k → {x : declared.Event}
        {at stored mode top depth tag : ℕ} {work₂ events' : List ℕ} {r : Stepped}
        → events' ≡ take cell events ++ cells_of (meaning x) ++ drop (cell + cells_per_event) events
        → work₂ ≡ grown c g work₁ → mode ≡ mode_after f k c.mode c.depth
        → top ≡ top_after k g.name c.top → depth ≡ depth_after k c.depth
        → tag ≡ tag_number k n c.tag
        → r
        ≡ stepped_as 0
        (turnedBy c at stored s.new_uri s.new_name s.new_value g mode top depth tag)
        → Added f x s g at stored events work c cell n events' work₂ r
    added-as f k {x} {at} {stored} a b m t d o r =
        record {
          cells = a;
          work-is = b ∙ ap (grown c g) e;
          is = r ∙ ap (stepped_as 0) (turned_as f c at stored s g n k m t d o);
        }

-- ---- the step

module _ {s : Settings} {stream events text work : List ℕ} {c : Core} {cell n : ℕ}
    (pre : StepPre stream events text work c cell n) {k : Kind} {p : ProductionRead}
    (first : FirstPre k s stream work c p) where
  abbrev asks : EventPre stream text work c
  asks = event-asks pre

  pub content-pre : ContentPre stream p.next text work c p
  content-pre = content-asks asks first.code.post first.code.good

  module _ {text₁ : List ℕ} {y : Content}
      (content : ContentPost s.alignment stream p.next text work c p text₁ y) where
    -- What was laid can be cleared.
    pub drop-asks : (c.stored ≤ y.stored) × (y.stored ≤ length text₁)
    drop-asks =
        let a = stored_grows asks first.code.post first.code.good content in
        let b = clear_room asks first.code.post first.code.good content in
        (a, omega (arith, a, b))

    answered : (m : ℕ) {text₂ : List ℕ} {r : Stepped}
        → StepPost s stream events text work c cell n events text₂ work (stepped_as m c)
        → r ≡ stepped_as m c → StepPost s stream events text work c cell n events text₂ work r
    answered m {text₂} h e =
        subst (λ (x : Stepped). StepPost s stream events text work c cell n events text₂ work x)
        (sym e) h

    -- A string that is refused.
    pub first_stops : 0 < y.number → {text₂ : List ℕ} {r : Stepped}
        → DroppedPost y.number c y.stored text₁ text₂ r
        → StepPost s stream events text work c cell n events text₂ work r
    first_stops h d =
        answered y.number
        (step-refused pre
        (content-stops asks first.code.post first.code.good content h d.text-is) h)
        d.is

    module _ (z : y.number ≡ 0) {g : Growth}
        (same : growth_of work c (kind_number k) false y.strings ≡ g) where
      pub judge-asks : JudgePre work c g
      unfolding growth_of
      judge-asks =
          subst (λ (h : Growth). JudgePre work c h) same
          (record {
            room = pre.rows;
            name = (content.bounds z).name;
            top = pre.bounded.top;
            few = pre.bounded.learned;
          })

      module _ {m : ℕ} (j : Judgement work c g m) where
        judged : JudgePost work c p y.strings (record { number = m; growth = g })
        judged =
            judged-as first.fixed
            (growth-by work c y.strings first.kind first.fixed ∙ same) j

        -- SHAPE, LOOSE, or a size that is passed.
        pub first-refused : 0 < m → {text₂ : List ℕ} {r : Stepped}
            → DroppedPost m c y.stored text₁ text₂ r
            → StepPost s stream events text work c cell n events text₂ work r
        first-refused h d =
            answered m
            (step-refused pre
            (judge-stops asks first.code.post first.code.good content z judged h
            d.text-is) h) d.is

        module _ (o : m ≡ 0) where
          event : EventPost s stream text work c text₁
              (record {
                number = 0;
                next = y.next;
                stored = y.stored;
                event = y.event;
                strings = y.strings;
                growth = g;
              })
          event = event-read asks first.code.post first.code.good content z judged o

          pub add-asks : AddPre events work y.strings g c cell n
          add-asks =
              record {
                cells = pre.cells;
                join = join-asks pre event refl;
                grow = grow-asks pre event refl refl;
                after = after-asks pre event refl;
              }

          pub first_read : {events' work' : List ℕ} {r : Stepped}
              → Added s.fragment y.event y.strings g y.next y.stored events work c cell n events'
              work' r
              → StepPost s stream events text work c cell n events' text₁ work' r
          first_read {events'} {work'} a =
              subst
              (λ (x : Stepped). StepPost s stream events text work c cell n events' text₁ work' x)
              (sym a.is)
              (step-read pre event refl {work₁ = joined_strings c y.strings work} refl a.work-is
              a.cells refl)
