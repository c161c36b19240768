-- The answers of the steps of events without a name.
use Prim.Native.Nat.{ℕ, ◌+◌, ◌-◌, ◌≤◌, ◌<◌}
use native.Mathlib.Omega.{arith}
use mathlib.Core.Path.{◌≡◌, refl, sym, ap, subst, ◌∙◌}
use mathlib.Core.Bool.{Bool, true, false, not}
use mathlib.Core.List.{List, ◌++◌}
use lib.ListN.{length, take, drop, replicate}
use lib.Dec.{eqb}
use Rattle.spec_exi.specs.Sizes.{cells_per_event, max_learned}
use Rattle.spec_exi.specs.Settings.{Settings}
use Rattle.spec_exi.specs.Event.{EE, end_element, kind_of, map_event}
use Rattle.spec_exi.specs.Grammar.{kind_number}
use Rattle.spec_exi.specs.Reader.{readContent}
use Rattle.event.specs.declared.Event.TheVariants.{EndElement}
use Rattle.event.specs.Cells.{cells_of, meaning}
use Rattle.mem_layout.specs.Layout.{sites, work_cells}
use Rattle.mem_rows.specs.Rows.{carries, mode_after}
use Rattle.mem_state.specs.declared.Core.{Core}
use Rattle.mem_state.specs.declared.Growth.{Growth}
use Rattle.mem_state.specs.Holds.{Bounded}
use Rattle.mem_state.specs.Joining.{no_strings}
use Rattle.mem_state.specs.Commit.{joined_uri, joined_name, joined_value, joined_strings, grown}
use Rattle.mem_state.specs.Commit.{top_after, depth_after, tag_number, GrowPre}
use Rattle.grammar_match.proofs.Here.{site-low}
use Rattle.grammar_update.specs.Growth.{GrowthPre, growth_of, fits_in}
use Rattle.grammar_update.proofs.Tests.{fits-learned}
use Rattle.grammar_stepped.specs.Stepped.{stepped_as}
use Rattle.grammar_stepped.proofs.Moved.{other-allowed}
use Rattle.read_literal.specs.Literal.{laid_at}
use Rattle.read_literal.proofs.Store.{laid_none}
use Rattle.read_production.specs.View.{ProductionRead}
use Rattle.read_content.specs.Contents.{plain_as, ContentPost}
use Rattle.read_content.proofs.Contents.{kind-is}
use Rattle.read_content.proofs.Returns.{bare-read}
use Rattle.grammar_stepped.specs.declared.Stepped.{Stepped}
use Rattle.read_event.specs.Judge.{CodeRead}
use Rattle.read_event.specs.Step.{StepPre}
use Rattle.read_tags.specs.Tags.{TagPre, TagPost}
use Rattle.read_first.specs.First.{row_strings, JudgePre, Judgement, turnedBy}
use Rattle.read_first.specs.First.{FirstPre}
use Rattle.read_first.proofs.First.{judged-fits, turned_as, content-pre, first-refused}
use Rattle.read_first.proofs.First.{first_read}

-- The bounds that the tests ask, of an event without a name.
module _ (work : List ℕ) {c : Core} (room : work_cells ≤ length work) (bounded : Bounded c) where
  pub bare-growth : GrowthPre work c (row_strings 0 0)
  bare-growth =
      record { room = room; name = omega arith; top = bounded.top; few = bounded.learned }

  module _ (k : ℕ) {g : Growth} (is : g ≡ growth_of work c k false (row_strings 0 0)) where
    pub bare-judge : JudgePre work c g
    unfolding growth_of
    bare-judge =
        subst (λ (h : Growth). JudgePre work c h) (sym is)
        (record { room = room; name = omega arith; top = bounded.top; few = bounded.learned })

    pub kind-left : g.kind ≡ k
    unfolding growth_of
    kind-left = ap (λ (h : Growth). h.kind) is

    pub name-left : g.name ≡ 0
    unfolding growth_of
    name-left = ap (λ (h : Growth). h.name) is

    pub site_left : g.site < sites
    unfolding growth_of
    site_left =
        subst (λ (h : Growth). h.site < sites) (sym is) (site-low c.mode c.top bounded.top)

-- ---- the end tag

module _ {events work : List ℕ} {c : Core} {cell n : ℕ} {p : ProductionRead}
    (tag : TagPre EE events c cell n p) (room : work_cells ≤ length work)
    (fixed : p.learned ≡ false) {g : Growth}
    (is : g ≡ growth_of work c (kind_number EE) false (row_strings 0 0)) {m : ℕ}
    (j : Judgement work c g m) where
  same : growth_of work c (kind_number EE) false no_strings ≡ g
  same = sym is

  module _ {s : Settings} {stream text : List ℕ} (pre : StepPre stream events text work c cell n)
      (code : CodeRead s stream work c p) where
    first : FirstPre EE s stream work c p
    first = record { code = code; fixed = fixed; kind = tag.kind }

    content : ContentPost s.alignment stream p.next text work c p text
        (plain_as EndElement p.next c.stored)
    unfolding kind_number readContent meaning map_event kind_of carries
    content =
        bare-read (content-pre pre first) EndElement end_element EE (kind-is EE tag.kind) refl
        refl refl (λ s t st n. refl)

  none-laid : (text : List ℕ) → text ≡ laid_at text c.stored (replicate (c.stored - c.stored) 0)
  none-laid text =
      let z : 0 ≡ c.stored - c.stored = omega arith in
      subst (λ n. text ≡ laid_at text c.stored (replicate n 0)) z (laid_none text c.stored)

  pub end_refused : (fragment : Bool) → 0 < m → TagPost fragment events work c cell n p events work (stepped_as m c)
  end_refused fragment h =
      record {
        steps = λ s same-setting stream text pre code.
            first-refused pre (first pre code) (content pre code) refl same j h
            (record { text-is = none-laid text; is = refl });
      }

  fits : m ≡ 0 → fits_in c g ≡ true
  unfolding kind_number
  fits o =
      let t = j.tested (other-allowed work c.tag g.name (kind-left work room tag.bounded (kind_number EE) is)
      refl) in
      judged-fits (not (eqb t.row 0)) (fits_in c g) (sym t.is ∙ o)

  pub end-grows : m ≡ 0 → GrowPre work c g
  unfolding kind_number max_learned
  end-grows o =
      record {
        room = room;
        few = λ t. omega (arith, fits-learned c g (fits o) t);
        site = site_left work room tag.bounded (kind_number EE) is;
        kind = omega (arith, kind-left work room tag.bounded (kind_number EE) is);
        name = omega (arith, name-left work room tag.bounded (kind_number EE) is);
      }

  pub end_read : (fragment : Bool) → m ≡ 0 → {work' events' : List ℕ} {mode mark : ℕ} {r : Stepped}
      → events' ≡ take cell events ++ cells_of (meaning EndElement)
      ++ drop (cell + cells_per_event) events
      → work' ≡ grown c g work → mode ≡ mode_after fragment (kind_number EE) c.mode c.depth
      → mark ≡ n + 2
      → r ≡ stepped_as 0 (turnedBy c p.next c.stored false false false g mode c.top
      (c.depth - 1) mark)
      → TagPost fragment events work c cell n p events' work' r
  unfolding joined_strings joined_uri joined_name joined_value kind_number top_after depth_after tag_number
  end_read fragment o a b d t r =
      record {
        steps = λ s same-setting stream text pre code.
            first_read pre (first pre code) (content pre code) refl same j o
            (record {
              cells = a;
              work-is = b;
              is = r
                  ∙ ap (stepped_as 0)
                  (turned_as s.fragment c p.next c.stored no_strings g n
                  (kind-left work room tag.bounded (kind_number EE) is)
                  (d ∙ ap (λ b. mode_after b (kind_number EE) c.mode c.depth) (sym same-setting))
                  refl refl t);
            });
      }
