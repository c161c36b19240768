-- The answers of the quick steps of events without strings.
use Prim.Native.Nat.{ℕ, ◌+◌, ◌-◌, ◌≤◌, ◌<◌}
use native.Mathlib.Omega.{arith}
use mathlib.Core.Path.{◌≡◌, refl, sym, ap, subst, ◌∙◌}
use mathlib.Core.Bool.{Bool, true, false, cond, ◌&&◌, not, true≢false, and-false}
use mathlib.Core.List.{List, ◌++◌}
use lib.ListN.{take, drop}
use lib.Dec.{eqb, leb, ltb}
use borrow.Author.Tests.{eq-eqb, ne_eqb, ltb-true, ltb-false}
use Rattle.spec_fields.proofs.Tests.{split}
use Rattle.spec_fields.specs.Refusal.{number_of, loose}
use Rattle.spec_exi.specs.Sizes.{max_open, max_grammars, max_learned, cells_per_event}
use Rattle.spec_exi.specs.Settings.{Settings}
use Rattle.spec_exi.specs.Event.{Kind, SD, ED, SE, AT, EE, start_document, end_document, end_element}
use Rattle.spec_exi.specs.Event.{kind_of, map_event}
use Rattle.spec_exi.specs.Grammar.{kind_number}
use Rattle.spec_exi.specs.Reader.{readContent}
use Rattle.event.specs.declared.Event as declared
use Rattle.event.specs.declared.Event.TheVariants.{StartDocument, EndDocument, EndElement}
use Rattle.event.specs.Cells.{cells_of, meaning}
use Rattle.event_code.specs.Numbers.{teaches_in, in_fragment, in_tag, in_element, number_of_ed, number_of_se}
use Rattle.mem_marks.specs.Marks.{with_mark}
use Rattle.mem_learned.specs.Grammars.{flag_in}
use Rattle.mem_rows.specs.Rows.{carries, mode_after}
use Rattle.mem_state.specs.declared.Core.{Core}
use Rattle.mem_state.specs.declared.Growth.{Growth}
use Rattle.mem_state.specs.Joining.{no_joining, no_strings}
use Rattle.mem_state.specs.Commit.{joined_uri, joined_name, joined_value, joined_strings, entered}
use Rattle.mem_state.specs.Commit.{learnt, marked, grown, top_after, depth_after, tag_number}
use Rattle.grammar_match.specs.Here.{site_in}
use Rattle.grammar_match.specs.Found.{FoundHere}
use Rattle.grammar_match.proofs.Found.{found-outside, found-low}
use Rattle.grammar_update.specs.Growth.{growth_of, fits_in}
use Rattle.grammar_stepped.specs.Stepped.{stepped_as, moved_on}
use Rattle.grammar_stepped.proofs.Moved.{moved-core, other-allowed}
use Rattle.read_production.specs.View.{ProductionRead}
use Rattle.read_content.specs.Contents.{plain_as, ContentPost}
use Rattle.read_content.proofs.Contents.{kind-is}
use Rattle.read_content.proofs.Returns.{bare-read}
use Rattle.grammar_stepped.specs.declared.Stepped.{Stepped}
use Rattle.read_event.specs.Judge.{CodeRead, LooseHere, judge_number}
use Rattle.read_event.specs.Step.{StepPre, StepPost}
use Rattle.read_known.proofs.Known.{known-strict, content-pre}
use Rattle.read_known.proofs.Known.{quick-stopped, quick-read}
use Rattle.read_tags.specs.Tags.{TagPre, Stored, Plain, PlainPost, TagPost}

module _ {s : Settings} {stream events text work : List ℕ} {c : Core} {cell n : ℕ}
    (pre : StepPre stream events text work c cell n) {p : ProductionRead}
    (code : CodeRead s stream work c p) (k : Kind) (kind : p.kind ≡ kind_number k)
    (other : eqb (kind_number k) (kind_number SE) ≡ false)
    (free : eqb (kind_number k) (kind_number AT) ≡ false) (plain : Plain work c p)
    {e : declared.Event}
    (content : ContentPost s.alignment stream p.next text work c p text
    (plain_as e p.next c.stored)) where
  abbrev g : Growth
  g =
      record {
        enters = false;
        teaches = false;
        site = site_in c.mode c.top;
        kind = kind_number k;
        name = 0;
        uri = 0;
      }

  enters_none : eqb p.kind (kind_number SE) && not (flag_in work 0) ≡ false
  enters_none =
      ap (λ n. eqb n (kind_number SE) && not (flag_in work 0)) kind
      ∙ ap (λ b. b && not (flag_in work 0)) other

  growth-is : growth_of work c p.kind p.learned no_strings ≡ g
  unfolding growth_of
  growth-is =
      λ t. record {
        enters = enters_none t;
        teaches = plain.untaught t;
        site = site_in c.mode c.top;
        kind = kind t;
        name = 0;
        uri = 0;
      }

  fits : fits_in c g ≡ true
  unfolding fits_in
  fits =
      ap (λ b. not (b && leb max_open c.depth) && not (false && leb max_grammars c.grammars)
      && not (false && leb max_learned c.learned)) other

  passes : judge_number false (fits_in c g) ≡ 0
  unfolding judge_number
  passes = ap (judge_number false) fits

  top-same : c.top ≡ top_after (kind_number k) 0 c.top
  unfolding top_after
  top-same = sym (ap (λ b. cond b 0 c.top) other)

  tag-next : n + 2 ≡ tag_number (kind_number k) n c.tag
  unfolding tag_number
  tag-next = sym (ap (λ b. cond b c.tag (n + 2)) free)

  unmarked : work ≡ marked c.tag (kind_number k) 0 work
  unfolding marked
  unmarked = sym (ap (λ b. cond b (with_mark work c.tag 0) work) free)

  bare-stepped : {mode depth : ℕ} → mode ≡ mode_after s.fragment (kind_number k) c.mode c.depth
      → depth ≡ depth_after (kind_number k) c.depth → {events' : List ℕ} {r : Stepped}
      → Stored e p.next mode depth events c cell n events' r
      → StepPost s stream events text work c cell n events' text work r
  unfolding joined_strings joined_uri joined_name joined_value grown learnt entered
  bare-stepped m d {events'} h =
      subst (λ (x : Stepped). StepPost s stream events text work c cell n events' text work x)
      (sym h.is)
      (quick-read pre code content refl (other-allowed work c.tag 0 kind free) plain.strict
      growth-is passes unmarked h.cells
      ((λ t. moved_on c p.next c.stored false false (m t) (top-same t) (d t) (tag-next t))
      ∙ moved-core s.fragment c p.next c.stored no_joining 0 0 0 false (site_in c.mode c.top)
      (kind_number k) 0 0 n))

-- What is stored, by the mark after it.
pub stored-as : {e : declared.Event} {at mode depth : ℕ} {events : List ℕ} {c : Core} {cell n : ℕ}
    {events' : List ℕ} {r : Stepped} {tag : ℕ}
    → events' ≡ take cell events ++ cells_of (meaning e) ++ drop (cell + cells_per_event) events
    → tag ≡ n + 2
    → r ≡ stepped_as 0 (moved_on c at c.stored false false mode c.top depth tag)
    → Stored e at mode depth events c cell n events' r
stored-as {at = at} {mode} {depth} {c = c} a t i =
    record {
      cells = a;
      is = i
          ∙ ap (λ m. stepped_as 0 (moved_on c at c.stored false false mode c.top depth m)) t;
    }

-- ---- by kind

-- An end tag ends an element.
pub some-open : {events : List ℕ} {c : Core} {cell n : ℕ} {p : ProductionRead}
    → TagPre EE events c cell n p → 0 < c.depth
unfolding kind_number
some-open pre =
    pre.bounded.fits.inner
    (pre.bounds.stands.inside (omega (arith, pre.kind)) (omega (arith, pre.kind)))

module _ {events : List ℕ} {c : Core} {cell n : ℕ} {p : ProductionRead} {events' : List ℕ}
    {r : Stepped} where
  pub end-stepped : (fragment : Bool) → TagPre EE events c cell n p → {mode : ℕ}
      → mode ≡ mode_after fragment (kind_number EE) c.mode c.depth
      → Stored EndElement p.next mode (c.depth - 1) events c cell n events' r
      → PlainPost fragment events c cell n p events' r
  unfolding kind_number readContent meaning map_event kind_of carries depth_after
  end-stepped fragment pre m h =
      record {
        steps = λ s same stream text work q code plain.
            bare-stepped q code EE pre.kind refl refl plain
            (bare-read (content-pre q code) EndElement end_element EE (kind-is EE pre.kind) refl
            refl refl (λ s t st n. refl))
            (m ∙ ap (λ b. mode_after b (kind_number EE) c.mode c.depth) (sym same)) refl h;
      }

  pub start-stepped : (fragment : Bool) → TagPre SD events c cell n p → {mode : ℕ}
      → mode ≡ mode_after fragment (kind_number SD) c.mode c.depth
      → Stored StartDocument p.next mode c.depth events c cell n events' r
      → PlainPost fragment events c cell n p events' r
  unfolding kind_number readContent meaning map_event kind_of carries depth_after
  start-stepped fragment pre m h =
      record {
        steps = λ s same stream text work q code plain.
            bare-stepped q code SD pre.kind refl refl plain
            (bare-read (content-pre q code) StartDocument start_document SD (kind-is SD pre.kind)
            refl refl refl (λ s t st n. refl))
            (m ∙ ap (λ b. mode_after b (kind_number SD) c.mode c.depth) (sym same)) refl h;
      }

  pub over-stepped : (fragment : Bool) → TagPre ED events c cell n p
      → Stored EndDocument p.next 3 c.depth events c cell n events' r
      → PlainPost fragment events c cell n p events' r
  unfolding kind_number readContent meaning map_event kind_of carries depth_after mode_after
  over-stepped fragment pre h =
      record {
        steps = λ s same stream text work q code plain.
            bare-stepped q code ED pre.kind refl refl plain
            (bare-read (content-pre q code) EndDocument end_document ED (kind-is ED pre.kind) refl
            refl refl (λ s t st n. refl)) refl refl h;
      }

-- ---- which events are plain

-- Those by a learned production.
pub plain-learned : {work : List ℕ} {c : Core} {p : ProductionRead} → p.learned ≡ true
    → Plain work c p
plain-learned {c = c} {p} l =
    record {
      strict = known-strict l;
      untaught = ap (λ b. not b && teaches_in c.mode p.kind) l;
    }

-- Start and end of a document or a fragment.
pub plain-outside : {work : List ℕ} {c : Core} {p : ProductionRead} → p.learned ≡ false
    → c.mode < in_tag → p.kind ≤ number_of_ed → Plain work c p
unfolding teaches_in
plain-outside {work} {c} {p} f low kind =
    let tag : eqb c.mode in_tag ≡ false = ne_eqb c.mode in_tag (λ e. omega (arith, low, e)) in
    let content : eqb c.mode in_element ≡ false =
    ne_eqb c.mode in_element (λ e. omega (arith, low, e)) in
    let other : eqb p.kind number_of_se ≡ false =
    ne_eqb p.kind number_of_se (λ e. omega (arith, kind, e)) in
    record {
      strict = record {
        learned = λ l. absurd (true≢false (sym l ∙ f));
        fixed = λ _. record {
          row = 0;
          found = split (ltb c.mode in_fragment)
              (λ t. found-outside c.top p.kind 0 c.learned (ltb-true c.mode in_fragment t))
              (λ t. found-low c.top p.kind 0 c.learned (ltb-false c.mode in_fragment t)
              (omega (arith, kind)));
          is = refl;
        };
      };
      untaught = rw (f, tag, content, other) (and-false (eqb c.mode in_fragment));
    }

-- ---- the end tag in an element's content

module _ {events work : List ℕ} {c : Core} {cell n : ℕ} {p : ProductionRead} {row : ℕ}
    (pre : TagPre EE events c cell n p) (fixed : p.learned ≡ false)
    (found : FoundHere work c.mode c.top (kind_number EE) 0 c.learned row) where
  looks : (l : Bool) → l ≡ not (eqb row 0) → LooseHere work c p no_strings l
  looks l e =
      record {
        learned = λ t. absurd (true≢false (sym t ∙ fixed));
        fixed = λ _. record {
          row = row;
          found = subst (λ n. FoundHere work c.mode c.top n 0 c.learned row)
              (sym pre.kind) found;
          is = e;
        };
      }

  pub end-loose : (row ≡ 0 → ⊥)
      → (fragment : Bool)
      → TagPost fragment events work c cell n p events work (stepped_as (number_of loose) c)
  unfolding kind_number readContent meaning map_event kind_of carries judge_number number_of
  end-loose some fragment =
      record {
        steps = λ s same stream text q code.
            quick-stopped q code
            (bare-read (content-pre q code) EndElement end_element EE (kind-is EE pre.kind) refl
            refl refl (λ s t st n. refl)) refl (other-allowed work c.tag 0 pre.kind refl)
            (looks true (sym (ap not (ne_eqb row 0 some)))) refl (number_of loose) refl (omega arith)
            refl;
      }

  pub end-strict : row ≡ 0 → c.mode ≡ in_element → {fragment : Bool} {events' : List ℕ}
      {r : Stepped}
      → PlainPost fragment events c cell n p events' r → TagPost fragment events work c cell n p events' work r
  unfolding kind_number teaches_in
  end-strict none inside h =
      record {
        steps = λ s same stream text q code.
            h.steps s same stream text work q code
            (record {
              strict = looks false (sym (ap not (eq-eqb row 0 none)));
              untaught =
                  ap (λ b. not b && teaches_in c.mode p.kind) fixed
                  ∙ ap (λ n. teaches_in n p.kind) inside ∙ ap (teaches_in in_element) pre.kind;
            });
      }
