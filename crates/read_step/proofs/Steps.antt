-- What the quick steps ask.
use Prim.Native.Nat.{ℕ, ◌≤◌, ◌<◌}
use native.Mathlib.Omega.{arith}
use mathlib.Core.Path.{◌≡◌}
use mathlib.Core.Bool.{Bool, true, false, ◌&&◌}
use mathlib.Core.List.{List}
use lib.Dec.{eqb}
use borrow.Author.Tests.{eqb-true}
use Rattle.spec_fields.proofs.Tests.{T-is, is_t, left, right}
use Rattle.spec_exi.specs.Settings.{Settings}
use Rattle.spec_exi.specs.Event.{Kind, EE}
use Rattle.spec_exi.specs.Grammar.{kind_number}
use Rattle.event_code.specs.Numbers.{number_of_ed, in_tag, in_element, number_of_se, number_of_at, number_of_ee, number_of_ch}
use Rattle.mem_state.specs.declared.Core.{Core}
use Rattle.read_production.specs.View.{ProductionRead}
use Rattle.read_production.specs.Production.{ProductionBounds}
use Rattle.read_event.specs.Step.{StepPre}
use Rattle.read_known.specs.Known.{LearnedPre}
use Rattle.read_tags.specs.Tags.{TagPre}
use Rattle.read_first.specs.First.{FirstPre}
use Rattle.read_step.specs.Codes.{ByCodePre}

module _ {b : Bool} {s : Settings} {stream work : List ℕ} {c : Core} {p : ProductionRead}
    (h : ByCodePre b s stream work c p) where
  bounds : ProductionBounds c.mode p
  bounds = h.code.post.bounds h.code.good

  pub tag-asks : {events text : List ℕ} {cell n : ℕ} → StepPre stream events text work c cell n
      → (k : Kind) → p.kind ≡ kind_number k → TagPre k events c cell n p
  tag-asks pre k e =
      record {
        cells = pre.cells;
        bounded = pre.bounded;
        bounds = bounds;
        kind = e;
        early = pre.early;
      }

  -- The end tag in an element's content.
  module _ (e : eqb p.kind number_of_ee && eqb c.mode in_element ≡ true) where
    pub at-end : p.kind ≡ kind_number EE
    unfolding kind_number
    at-end =
        eqb-true p.kind number_of_ee
        (T-is (eqb p.kind number_of_ee) (left (eqb p.kind number_of_ee) (eqb c.mode in_element) (is_t _ e)))

    pub in-content : c.mode ≡ in_element
    in-content =
        eqb-true c.mode in_element
        (T-is (eqb c.mode in_element) (right (eqb p.kind number_of_ee) (eqb c.mode in_element) (is_t _ e)))

  -- Start and end of the document stand outside of elements.
  pub outside : p.kind ≤ number_of_ed → c.mode < in_tag
  outside = bounds.stands.outside

-- By a production that is not learned.
pub first-asks : {s : Settings} {stream work : List ℕ} {c : Core} {p : ProductionRead}
    → ByCodePre false s stream work c p → (k : Kind) → p.kind ≡ kind_number k
    → FirstPre k s stream work c p
first-asks h k e = record { code = h.code; fixed = h.is; kind = e }

-- By a learned production.
module _ {s : Settings} {stream work : List ℕ} {c : Core} {p : ProductionRead}
    (h : ByCodePre true s stream work c p) where
  pub learned-asks : (k : Kind) → p.kind ≡ kind_number k → LearnedPre k stream c p
  learned-asks k e =
      record { next = h.code.post.inside; bounds = bounds h; learned = h.is; kind = e }

  -- It is SE, AT, EE or CH.
  pub is-end : (p.kind ≡ number_of_se → ⊥) → (p.kind ≡ number_of_at → ⊥) → (p.kind ≡ number_of_ch → ⊥) → p.kind ≡ kind_number EE
  unfolding kind_number
  is-end a d f =
      let i = (bounds h).inner h.is in omega (arith, a, d, f, i.from, i.up_to)
