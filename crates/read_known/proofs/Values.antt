-- The answers of the quick steps of events with a value.
use Prim.Native.Nat.{ℕ, ◌+◌, ◌-◌, ◌≤◌, ◌<◌}
use native.Mathlib.Omega.{arith}
use mathlib.Core.Path.{◌≡◌, refl, sym, ap, subst, ◌∙◌}
use mathlib.Core.Bool.{Bool, true, false, cond, not}
use mathlib.Core.List.{List, ◌++◌}
use mathlib.Core.Option.{none, some}
use lib.ListN.{length, take, drop, replicate}
use Rattle.spec_fields.specs.Field.{Alignment}
use Rattle.spec_fields.specs.Refusal.{number_of, shape}
use Rattle.spec_exi.specs.Sizes.{max_store, cells_per_event}
use Rattle.spec_exi.specs.Settings.{Settings}
use Rattle.spec_exi.specs.Event.{Kind, AT, CH}
use Rattle.spec_exi.specs.Grammar.{kind_number}
use Rattle.event.specs.declared.Part.{Part}
use Rattle.event.specs.declared.Event as declared
use Rattle.event.specs.declared.Event.TheVariants.{Attribute, Characters}
use Rattle.event.specs.Cells.{cells_of, meaning}
use Rattle.mem_layout.specs.Layout.{name_rows}
use Rattle.mem_marks.specs.Marks.{marked_in, with_mark}
use Rattle.mem_rows.specs.Rows.{placed_at, content_after, mode_after}
use Rattle.mem_state.specs.declared.Core.{Core}
use Rattle.mem_state.specs.Commit as commit
use Rattle.mem_state.specs.Commit.{joined_uri, joined_name, joined_value, joined_strings, entered}
use Rattle.mem_state.specs.Commit.{learnt, marked, grown, top_after, depth_after, tag_number}
use Rattle.grammar_match.specs.Here.{site_in}
use Rattle.grammar_update.specs.Growth.{growth_of, fits_in}
use Rattle.grammar_stepped.specs.Stepped.{stepped_as, moved_on}
use Rattle.grammar_stepped.proofs.Moved.{known_strings, moved-core, other-allowed, attribute-allowed, growth-by}
use Rattle.read_partition.specs.View.{StringRead}
use Rattle.read_literal.specs.Literal.{laid_at}
use Rattle.read_values.specs.Values.{ValuePre, as_value, ValuePost, JoinsWithin}
use Rattle.read_production.specs.View.{ProductionRead}
use Rattle.read_qname.specs.Qnames.{joining_of, part_of, carried_as, Carried, NamePost}
use Rattle.read_qname.proofs.Texts.{text-size, text-laid}
use Rattle.read_qname.proofs.Returns.{carried-read, as-carried}
use Rattle.read_content.proofs.Contents.{kind-is}
use Rattle.read_content.proofs.Returns.{name-asks, attribute-stops, attribute-read}
use Rattle.read_content.proofs.Returns.{characters-refused, characters-read}
use Rattle.read_event.specs.Judge.{CodeRead, judge_number}
use Rattle.read_event.specs.Step.{StepPre, StepPost}
use Rattle.read_known.specs.Known.{uri_part, local_part, LearnedPre}
use Rattle.read_known.proofs.Known.{known-strict}
use Rattle.read_known.proofs.Known.{content-pre}
use Rattle.read_known.proofs.Known.{quick-refused, quick-equal, quick-read}

-- The cells of events with this one from a cell on.
abbrev pub with_event : List ℕ → ℕ → declared.Event → List ℕ
with_event events cell e =
    take cell events ++ cells_of (meaning e) ++ drop (cell + cells_per_event) events

-- A mark over cells that are the same.
pub marked-as : (tag name : ℕ) {x y work : List ℕ} → x ≡ y → work ≡ with_mark x tag name
    → work ≡ with_mark y tag name
marked-as tag name e f = f ∙ ap (λ w. with_mark w tag name) e

-- The value after the event's code.
abbrev ValueOf : Alignment → List ℕ → List ℕ → List ℕ → Core → ProductionRead → ℕ → List ℕ
    → StringRead → Type 0
ValueOf a stream text work c p owner text₁ x =
    ValuePost a as_value stream p.next text c.stored work c.values c.longest
    c.capacity owner text₁ x

-- What the value's reader asks.
module _ {stream events text work : List ℕ} {c : Core} {cell n : ℕ}
    (pre : StepPre stream events text work c cell n) {k : Kind} {p : ProductionRead}
    (known : LearnedPre k stream c p) where
  pub value-asks : {owner : ℕ} → owner < name_rows
      → ValuePre stream p.next text c.stored work c.values owner
  value-asks low =
      record {
        literal = record {
          size = pre.size;
          place = known.next;
          room = pre.room;
          few = pre.bounded.stored;
        };
        room = pre.rows;
        few = pre.bounded.values;
        low = low;
      }

  -- What was laid can be cleared.
  pub clear-asks : {a : Alignment} {owner : ℕ} {text₁ : List ℕ} {x : StringRead}
      → ValueOf a stream text work c p owner text₁ x → x.number ≡ 0
      → (c.stored ≤ x.stored) × (c.stored + (x.stored - c.stored) ≤ length text₁)
  clear-asks post z =
      let l = post.laid z in
      let same = text-size pre.room (text-laid z l) in
      (omega (arith, l.stored_is), omega (arith, l.stored_is, l.room, same, pre.room))

  -- Where it joins there is room.
  pub join-asks : {text₁ : List ℕ} {x : StringRead} {owner : ℕ}
      → JoinsWithin c.values text₁ x → owner < name_rows
      → commit.ValuePre work c.values owner (joining_of x)
  unfolding max_store
  join-asks joins low =
      record {
        room = pre.rows;
        few = λ h. omega (arith, joins.left h, joins.room h);
        low = low;
      }

module _ {s : Settings} {stream events text work : List ℕ} {c : Core} {cell n : ℕ}
    (pre : StepPre stream events text work c cell n) {p : ProductionRead}
    (code : CodeRead s stream work c p) (learned : p.learned ≡ true)
    {a : Alignment} (same : s.alignment ≡ a) {text₁ : List ℕ} {x : StringRead}
    (joins : JoinsWithin c.values text₁ x) where
  abbrev ValueRead : ℕ → Type 0
  ValueRead owner = ValueOf s.alignment stream text work c p owner text₁ x

  -- The value in the settings' alignment.
  as-set : {owner : ℕ} → ValueOf a stream text work c p owner text₁ x → ValueRead owner
  as-set {owner} post =
      subst (λ b. ValueOf b stream text work c p owner text₁ x) (sym same) post

  -- A value that is refused leaves the store as it was.
  same_store : {owner : ℕ} → ValueRead owner → 0 < x.number → x.stored ≡ c.stored
  same_store post h = ap (λ (r : StringRead). r.stored) (post.refused h).is

  stored : {f g : declared.Event} {events' : List ℕ} → events' ≡ with_event events cell f → f ≡ g
      → events' ≡ with_event events cell g
  stored e h = e ∙ ap (with_event events cell) h

  -- ---- an attribute

  module _ (kind : p.kind ≡ kind_number AT)
      (post : ValueOf a stream text work c p p.name text₁ x) where
    name-post : NamePost s.alignment true
        (λ w. p.learned ≡ true → Carried w p.name p.uri p.local)
        (λ w. cond p.learned (some (placed_at w p.name)) none) stream p.next text work c
        text (carried_as work p.next c.stored p.name p.uri p.local)
    name-post = as-carried learned (carried-read (name-asks (content-pre pre code)) true)

    pub attribute-stopped : 0 < x.number
        → StepPost s stream events text work c cell n events text₁ work (stepped_as x.number c)
    unfolding carried_as
    attribute-stopped h =
        quick-refused pre code
        (attribute-stops (content-pre pre code) name-post (kind-is AT kind) refl (as-set post) joins
        h) h (same_store (as-set post) h)

    -- The second of one name.
    pub attribute-equal : x.number ≡ 0 → {m : Bool} → m ≡ marked_in work c.tag p.name
        → m ≡ true → {text₂ : List ℕ}
        → text₂ ≡ laid_at text₁ c.stored (replicate (x.stored - c.stored) 0)
        → StepPost s stream events text work c cell n events text₂ work
        (stepped_as (number_of shape) c)
    unfolding carried_as
    attribute-equal z i e cl =
        quick-equal pre code
        (attribute-read (content-pre pre code) name-post (kind-is AT kind) refl (as-set post) joins
        z) refl (attribute-allowed work c.tag p.name kind i ∙ ap not e) cl

    pub attribute-stepped : x.number ≡ 0 → {m : Bool} → m ≡ marked_in work c.tag p.name
        → m ≡ false → {v : Part} {f : declared.Event}
        {work' events' : List ℕ} → v ≡ part_of x
        → f ≡ Attribute (uri_part work p.uri) (local_part work p.local) v
        → events' ≡ with_event events cell f
        → work'
        ≡ with_mark (joined_value c.values p.name (joining_of x) work) c.tag p.name
        → StepPost s stream events text work c cell n events' text₁ work'
        (stepped_as 0
        (moved_on c x.next x.stored x.joins false c.mode c.top c.depth c.tag))
    unfolding carried_as uri_part local_part growth_of fits_in judge_number grown learnt entered marked
        joined_strings joined_uri joined_name mode_after top_after depth_after tag_number kind_number
    attribute-stepped z a o u i e w =
        quick-read pre code
        (attribute-read (content-pre pre code) name-post (kind-is AT kind) refl (as-set post) joins
        z) refl (attribute-allowed work c.tag p.name kind a ∙ ap not o) (known-strict learned)
        (growth-by work c (known_strings (joining_of x) p.uri p.name p.name) kind learned)
        refl w
        (stored e
        (i ∙ ap (Attribute (uri_part work p.uri) (local_part work p.local)) u))
        (moved-core s.fragment c x.next x.stored (joining_of x) p.uri p.name p.name false
        (site_in c.mode c.top) 3 p.name p.uri n)

  -- ---- characters

  module _ (kind : p.kind ≡ kind_number CH)
      (post : ValueOf a stream text work c p c.top text₁ x) where
    pub characters-stopped : 0 < x.number
        → StepPost s stream events text work c cell n events text₁ work (stepped_as x.number c)
    characters-stopped h =
        quick-refused pre code
        (characters-refused (content-pre pre code) (as-set post) joins (kind-is CH kind) kind h) h
        (same_store (as-set post) h)

    pub characters-stepped : x.number ≡ 0 → {v : Part} {work' events' : List ℕ}
        {mode tag : ℕ} → v ≡ part_of x → events' ≡ with_event events cell (Characters v)
        → work' ≡ joined_value c.values c.top (joining_of x) work
        → mode ≡ content_after c.mode → tag ≡ n + 2
        → StepPost s stream events text work c cell n events' text₁ work'
        (stepped_as 0
        (moved_on c x.next x.stored x.joins false mode c.top c.depth tag))
    unfolding growth_of fits_in judge_number grown learnt entered marked
        joined_strings joined_uri joined_name mode_after top_after depth_after tag_number kind_number
    characters-stepped z u e w m t =
        quick-read pre code
        (characters-read (content-pre pre code) (as-set post) joins (kind-is CH kind) kind z) refl
        (other-allowed work c.tag 0 kind refl) (known-strict learned)
        (growth-by work c (known_strings (joining_of x) 0 0 c.top) kind learned) refl
        w (stored e (ap Characters u))
        ((λ i. moved_on c x.next x.stored x.joins false (m i) c.top c.depth (t i))
        ∙ moved-core s.fragment c x.next x.stored (joining_of x) 0 0 c.top false
        (site_in c.mode c.top) 5 0 0 n)
