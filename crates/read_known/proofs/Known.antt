-- A quick step: what it comes to, by the content that it stands for. The content is that of the
-- general step; here it is an argument of the laws alone.
use Prim.Native.Nat.{ℕ, ◌+◌, ◌-◌, ◌<◌}
use native.Mathlib.Omega.{arith}
use mathlib.Core.Path.{◌≡◌, refl, sym, ap, ap₂, subst, ◌∙◌}
use mathlib.Core.Bool.{Bool, true, false, true≢false}
use mathlib.Core.List.{List, ◌++◌}
use lib.ListN.{take, drop, replicate}
use Rattle.spec_fields.specs.Refusal.{number_of, shape}
use Rattle.spec_exi.specs.Sizes.{cells_per_event}
use Rattle.spec_exi.specs.Settings.{Settings}
use Rattle.event.specs.Cells.{cells_of, meaning}
use Rattle.mem_state.specs.declared.Core.{Core}
use Rattle.mem_state.specs.declared.Strings.{Strings}
use Rattle.mem_state.specs.declared.Growth.{Growth}
use Rattle.mem_state.specs.Commit.{joined_strings, grown}
use Rattle.grammar_update.specs.Growth.{growth_of, fits_in}
use Rattle.grammar_update.specs.After.{core_after}
use Rattle.grammar_stepped.specs.Stepped.{stepped_as}
use Rattle.read_literal.specs.Literal.{laid_at}
use Rattle.read_literal.proofs.Store.{laid_none}
use Rattle.std.specs.Prelude as std
use Rattle.mem_state.specs.Joining.{joining}
use Rattle.read_partition.specs.declared.StringRead as code
use Rattle.read_partition.specs.View.{read_as, hash_in}
use Rattle.read_qname.specs.Qnames.{joining_of}
use Rattle.read_production.specs.View.{ProductionRead}
use Rattle.read_content.specs.View.{Content}
use Rattle.read_content.specs.Contents.{ContentPre, ContentPost}
use Rattle.read_event.specs.Judge.{CodeRead, LooseHere, judge_number, allowed_here, JudgePost}
use Rattle.read_event.specs.Judge.{EventPre}
use Rattle.read_event.specs.Step.{StepPre, StepPost}
use Rattle.read_event.proofs.Returns.{content-asks, content-stops, judge-stops, event-read}
use Rattle.read_event.proofs.Steps.{event-asks, step-refused, step-read}

-- ---- a value that joins

hash-is : (o : std.Option ℕ) → std.unwrap_or o 0 ≡ hash_in o
hash-is std.None = refl
hash-is (std.Some h) = refl

pub joining-read : (x : code.StringRead) {b : Bool} {h : ℕ} → b ≡ std.is_some x.joins
    → h ≡ std.unwrap_or x.joins 0 → joining b x.place x.size h ≡ joining_of (read_as x)
joining-read x e f = ap₂ (λ b h. joining b x.place x.size h) e (f ∙ hash-is x.joins)

-- ---- the step

-- By a learned production nothing is LOOSE.
pub known-strict : {work : List ℕ} {c : Core} {p : ProductionRead} {x : Strings}
    → p.learned ≡ true → LooseHere work c p x false
known-strict l =
    record { learned = λ _. refl; fixed = λ f. absurd (true≢false (sym l ∙ f)) }

module _ {s : Settings} {stream events text work : List ℕ} {c : Core} {cell n : ℕ}
    (pre : StepPre stream events text work c cell n) {p : ProductionRead}
    (code : CodeRead s stream work c p) where
  abbrev asks : EventPre stream text work c
  asks = event-asks pre

  pub content-pre : ContentPre stream p.next text work c p
  content-pre = content-asks asks code.post code.good

  module _ {text₁ : List ℕ} {y : Content}
      (content : ContentPost s.alignment stream p.next text work c p text₁ y) where
    -- A refusal lays nothing that stays, and so has nothing to clear.
    none-laid : y.stored ≡ c.stored
        → text₁ ≡ laid_at text₁ c.stored (replicate (y.stored - c.stored) 0)
    none-laid e =
        let z : 0 ≡ y.stored - c.stored = omega (arith, e) in
        subst (λ n. text₁ ≡ laid_at text₁ c.stored (replicate n 0)) z
        (laid_none text₁ c.stored)

    pub quick-refused : 0 < y.number → y.stored ≡ c.stored
        → StepPost s stream events text work c cell n events text₁ work (stepped_as y.number c)
    quick-refused h e =
        step-refused pre
        (content-stops asks code.post code.good content h (none-laid e)) h

    -- A second attribute of one name: what was laid is cleared.
    pub quick-equal : y.number ≡ 0 → allowed_here work c p y.strings ≡ false → {text₂ : List ℕ}
        → text₂ ≡ laid_at text₁ c.stored (replicate (y.stored - c.stored) 0)
        → StepPost s stream events text work c cell n events text₂ work
        (stepped_as (number_of shape) c)
    unfolding number_of
    quick-equal z a cl =
        step-refused pre
        (judge-stops asks code.post code.good content z
        (record {
          growth-is = refl;
          equal = λ _. refl;
          tested = λ t. absurd (true≢false (sym t ∙ a));
        }) (omega arith) cl) (omega arith)

    module _ (z : y.number ≡ 0) (allowed : allowed_here work c p y.strings ≡ true) {l : Bool}
        (loose : LooseHere work c p y.strings l) {g : Growth}
        (growth-same : growth_of work c p.kind p.learned y.strings ≡ g) where
      judged : JudgePost work c p y.strings
          (record { number = judge_number l (fits_in c g); growth = g })
      judged =
          record {
            growth-is = sym growth-same;
            equal = λ e. absurd (true≢false (sym allowed ∙ e));
            tested = λ _. record {
              l = l;
              l-is = loose;
              number_is = ap (λ (x : Growth). judge_number l (fits_in c x)) (sym growth-same);
            };
          }

      -- LOOSE, or a size that is passed.
      pub quick-stopped : (k : ℕ) → judge_number l (fits_in c g) ≡ k → 0 < k → y.stored ≡ c.stored
          → StepPost s stream events text work c cell n events text₁ work (stepped_as k c)
      quick-stopped k i h e =
          subst
          (λ m. StepPost s stream events text work c cell n events text₁ work (stepped_as m c)) i
          (step-refused pre
          (judge-stops asks code.post code.good content z judged (omega (arith, i, h))
          (none-laid e)) (omega (arith, i, h)))

      pub quick-read : judge_number l (fits_in c g) ≡ 0 → {work' events' : List ℕ} {d : Core}
          → work' ≡ grown c g (joined_strings c y.strings work)
          → events' ≡ take cell events ++ cells_of (meaning y.event)
          ++ drop (cell + cells_per_event) events
          → d ≡ core_after s.fragment c y.next y.stored y.strings g n
          → StepPost s stream events text work c cell n events' text₁ work' (stepped_as 0 d)
      quick-read i a e d =
          step-read pre (event-read asks code.post code.good content z judged i) refl refl a e
          d
