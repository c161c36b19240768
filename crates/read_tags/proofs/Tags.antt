-- The answers of the quick step of a start element.
use Prim.Native.Nat.{ℕ, ◌+◌, ◌≤◌, ◌<◌}
use native.Mathlib.Omega.{arith}
use mathlib.Core.Path.{◌≡◌, refl, sym, ap, ◌∙◌}
use mathlib.Core.Bool.{Bool, true, false, cond, ◌&&◌, not}
use mathlib.Core.List.{List, ◌++◌}
use mathlib.Core.Option.{none, some}
use lib.ListN.{take, drop}
use lib.Dec.{leb}
use borrow.Author.Tests.{not-true, not-false, le-leb, lt-leb}
use Rattle.spec_fields.specs.Refusal.{number_of, limit}
use Rattle.spec_exi.specs.Sizes.{cells_per_event, max_open, max_grammars}
use Rattle.spec_exi.specs.Settings.{Settings}
use Rattle.spec_exi.specs.Event.{SE}
use Rattle.spec_exi.specs.Grammar.{kind_number}
use Rattle.event.specs.declared.Event as declared
use Rattle.event.specs.declared.Event.TheVariants.{StartElement}
use Rattle.event.specs.Cells.{cells_of, meaning}
use Rattle.mem_learned.specs.Grammars.{flag_in}
use Rattle.event_code.specs.Numbers.{in_tag}
use Rattle.mem_rows.specs.Rows.{placed_at, mode_after}
use Rattle.mem_state.specs.declared.Core.{Core}
use Rattle.mem_state.specs.declared.Strings.{Strings}
use Rattle.mem_state.specs.Joining.{no_joining}
use Rattle.mem_state.specs.Commit.{joined_uri, joined_name, joined_value, joined_strings, entered}
use Rattle.mem_state.specs.Commit.{learnt, marked, grown, top_after, depth_after, tag_number}
use Rattle.grammar_match.specs.Here.{site_in}
use Rattle.grammar_update.specs.Growth.{growth_of, fits_in}
use Rattle.grammar_stepped.specs.Stepped.{stepped_as, moved_on}
use Rattle.grammar_stepped.proofs.Moved.{known_strings, moved-core, other-allowed, growth-by}
use Rattle.read_production.specs.View.{ProductionRead}
use Rattle.read_qname.specs.Qnames.{carried_as, Carried, NamePost}
use Rattle.read_qname.proofs.Returns.{carried-read, as-carried}
use Rattle.read_content.specs.View.{Content}
use Rattle.read_content.specs.Contents.{ContentPost}
use Rattle.read_content.proofs.Contents.{kind-is}
use Rattle.read_content.proofs.Returns.{name-asks, element-read}
use Rattle.read_event.specs.Judge.{CodeRead, judge_number}
use Rattle.read_event.specs.Step.{StepPre}
use Rattle.read_known.specs.Known.{uri_part, local_part}
use Rattle.read_known.proofs.Known.{known-strict, content-pre}
use Rattle.read_known.proofs.Known.{quick-stopped, quick-read}
use Rattle.read_tags.specs.Tags.{has_room, TagPre, TagPost}

and-true : (a b : Bool) → a && b && true ≡ a && b
and-true true true = refl
and-true true false = refl
and-true false b = refl

module _ {depth : ℕ} (grammars : ℕ) (enters : Bool) where
  pub room-full : max_open ≤ depth → false ≡ has_room depth grammars enters
  unfolding has_room
  room-full h =
      sym (ap (λ b. not b && not (enters && leb max_grammars grammars)) (le-leb max_open depth h))

  pub room-left : depth < max_open
      → not (enters && leb max_grammars grammars) ≡ has_room depth grammars enters
  unfolding has_room
  room-left h =
      sym (ap (λ b. not b && not (enters && leb max_grammars grammars)) (lt-leb max_open depth h))

module _ {events : List ℕ} (work : List ℕ) {c : Core} {cell n : ℕ} {p : ProductionRead}
    (tag : TagPre SE events c cell n p) (learned : p.learned ≡ true) {h enters room : Bool}
    (has : h ≡ flag_in work p.name) (is : enters ≡ not h)
    (room-is : room ≡ has_room c.depth c.grammars enters) where
  abbrev strings : Strings
  strings = known_strings no_joining p.uri p.name p.name

  -- What the step stands for.
  abbrev element_as : Content
  element_as =
      record {
        number = 0;
        next = p.next;
        left = 0;
        stored = c.stored;
        event = StartElement (uri_part work p.uri) (local_part work p.local);
        strings = strings;
      }

  module _ {s : Settings} {stream text : List ℕ} (pre : StepPre stream events text work c cell n)
      (code : CodeRead s stream work c p) where
    name-post : NamePost s.alignment false
        (λ w. p.learned ≡ true → Carried w p.name p.uri p.local)
        (λ w. cond p.learned (some (placed_at w p.name)) none) stream p.next text work c
        text (carried_as work p.next c.stored p.name p.uri p.local)
    name-post = as-carried learned (carried-read (name-asks (content-pre pre code)) false)

    content : ContentPost s.alignment stream p.next text work c p text element_as
    unfolding carried_as uri_part local_part
    content = element-read (content-pre pre code) name-post refl (kind-is SE tag.kind) refl

  enters_is : enters ≡ not (flag_in work p.name)
  enters_is = is ∙ ap not has

  fits-is : fits_in c (growth_of work c (kind_number SE) true strings) ≡ room
  unfolding fits_in growth_of has_room kind_number
  fits-is =
      and-true (not (leb max_open c.depth))
      (not (not (flag_in work p.name) && leb max_grammars c.grammars))
      ∙ ap (has_room c.depth c.grammars) (sym enters_is) ∙ sym room-is

  pub element-limit : (fragment : Bool) → not room ≡ true
      → TagPost fragment events work c cell n p events work (stepped_as (number_of limit) c)
  unfolding judge_number number_of kind_number
  element-limit fragment full =
      record {
        steps = λ s same stream text pre code.
            quick-stopped pre code (content pre code) refl
            (other-allowed work c.tag p.name tag.kind refl) (known-strict learned)
            (growth-by work c strings tag.kind learned) (number_of limit)
            (ap (judge_number false) (fits-is ∙ not-true room full)) (omega arith) refl;
      }

  pub element-stepped : (fragment : Bool) → not room ≡ false → {f : declared.Event} {work' events' : List ℕ}
      → f ≡ StartElement (uri_part work p.uri) (local_part work p.local)
      → events' ≡ take cell events ++ cells_of (meaning f) ++ drop (cell + cells_per_event) events
      → work' ≡ entered enters p.name work → {m : ℕ} → m ≡ n + 2
      → TagPost fragment events work c cell n p events' work'
      (stepped_as 0
      (moved_on c p.next c.stored false enters in_tag p.name (c.depth + 1) m))
  unfolding judge_number growth_of grown learnt marked joined_strings joined_uri joined_name joined_value
      mode_after top_after depth_after tag_number kind_number
  element-stepped fragment left {f} {work'} {events'} e i w h =
      record {
        steps = λ s same stream text pre code.
            quick-read pre code (content pre code) refl
            (other-allowed work c.tag p.name tag.kind refl) (known-strict learned)
            (growth-by work c strings tag.kind learned)
            (ap (judge_number false) (fits-is ∙ not-false room left))
            (w ∙ ap (λ b. entered b p.name work) enters_is)
            (i
            ∙ ap (λ (x : declared.Event). take cell events ++ cells_of (meaning x)
            ++ drop (cell + cells_per_event) events) e)
            ((λ t. moved_on c p.next c.stored false (enters_is t) in_tag p.name (c.depth + 1)
            (h t))
            ∙ moved-core s.fragment c p.next c.stored no_joining p.uri p.name p.name
            (not (flag_in work p.name)) (site_in c.mode c.top) 2 p.name p.uri n);
      }
