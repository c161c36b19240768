-- The marks of names while an event's rows join: strings leave them, and its growth turns them.
use Prim.Native.Nat.{ℕ, ◌+◌, ◌≤◌, ◌<◌}
use native.Mathlib.Omega.{arith}
use mathlib.Core.Path.{◌≡◌, subst}
use mathlib.Core.Bool.{Bool, true}
use mathlib.Core.List.{List}
use lib.Dec.{eqb}
use Rattle.spec_fields.proofs.Tests.{split}
use Rattle.spec_exi.specs.Event.{AT}
use Rattle.spec_exi.specs.Grammar.{kind_number}
use Rattle.mem_layout.specs.Layout.{uri_rows, name_rows, learned_rows}
use Rattle.mem_marks.specs.Marks.{MarksHold}
use Rattle.mem_marks.proofs.Marks.{marks-kept, marks-later, marks-more}
use Rattle.mem_learned.specs.Learned.{with_learned}
use Rattle.mem_rows.specs.Rows.{Rows, kind_at, is_among, attributes_after, with_attributes, leaves}
use Rattle.mem_state.specs.declared.Core.{Core}
use Rattle.mem_state.specs.declared.Strings.{Strings}
use Rattle.mem_state.specs.declared.Growth.{Growth}
use Rattle.mem_state.specs.Joining.{Joining, uri_joining, name_joining, value_joining}
use Rattle.mem_state.specs.Holds.{in_tag_of}
use Rattle.mem_state.specs.Commit.{joined_uri, joined_name, joined_value, joined_strings}
use Rattle.mem_state.specs.Commit.{entered, learnt, marked, grown, tag_number, StringsPre}
use Rattle.mem_state.specs.Grows.{learnt_of, Grows}
use Rattle.mem_state.proofs.Frames.{uri-marks, name-marks, value-marks, learnt-marks}
use Rattle.mem_state.proofs.Frames.{grammar-marks}

module _ {work : List ℕ} {tag : ℕ} {has : ℕ → Bool} (h : MarksHold work tag has) where
  -- ---- strings

  uri-marked : (n : ℕ) (x : Joining) → (x.joins ≡ true → n < uri_rows)
      → MarksHold (joined_uri n x work) tag has
  unfolding joined_uri
  uri-marked n x few =
      split x.joins
      (λ e. rw e (marks-kept (uri-marks work n x.place x.size n h.room (few e)) h))
      (λ e. rw e h)

  name-marked : (n uri : ℕ) (x : Joining) → (x.joins ≡ true → n < name_rows) → uri < uri_rows
      → MarksHold (joined_name n uri x work) tag has
  unfolding joined_name
  name-marked n uri x few low =
      split x.joins
      (λ e.
      rw e (marks-kept (name-marks work n uri x.place x.size x.hash h.room (few e) low)
      h))
      (λ e. rw e h)

  value-marked : (n owner : ℕ) (x : Joining) → owner < name_rows
      → MarksHold (joined_value n owner x work) tag has
  unfolding joined_value
  value-marked n owner x low =
      split x.joins
      (λ e.
      rw e (marks-kept (value-marks work n owner x.place x.size x.hash h.room low) h))
      (λ e. rw e h)

  -- ---- grammars

  entered-marked : (b : Bool) (k : ℕ) → k < name_rows → MarksHold (entered b k work) tag has
  unfolding entered
  entered-marked b k low =
      split b (λ e. rw e (marks-kept (grammar-marks work k h.room low) h)) (λ e. rw e h)

  learnt-marked : {v : Rows} {c : Core} {g : Growth} → Grows v c g
      → MarksHold (learnt c.learned g work) tag has
  unfolding learnt
  learnt-marked {v} {c} {g} q =
      split g.teaches
      (λ e.
      let few : c.learned < learned_rows = omega (arith, q.count, q.few e) in
      rw e (subst
      (λ k. MarksHold (with_learned work c.learned g.site k g.name g.uri g.name) tag
      has) q.kind-is
      (marks-kept (learnt-marks work c.learned g.site (kind_at g.kind) g.name g.uri
      g.name h.room few q.site) h)))
      (λ e. rw e h)

-- ---- an event

pub strings-marked : {work : List ℕ} {tag : ℕ} {has : ℕ → Bool} {c : Core} {s : Strings}
    → StringsPre work c s → MarksHold work tag has → MarksHold (joined_strings c s work) tag has
unfolding joined_strings
strings-marked {c = c} {s = s} p h =
    value-marked
    (name-marked (uri-marked h c.uris (uri_joining s) p.uris) c.names s.uri_row
    (name_joining s) p.names p.uri)
    c.values s.owner (value_joining s) p.owner

-- The event has the number n, and so many have come before it.
pub grown-marked : {work : List ℕ} {v : Rows} {c : Core} {g : Growth} → Grows v c g → (n : ℕ)
    → c.tag ≤ n + 1 → MarksHold work c.tag (in_tag_of v)
    → MarksHold (grown c g work) (tag_number g.kind n c.tag)
    (in_tag_of (leaves g.kind g.name g.teaches (learnt_of g) v))
unfolding grown marked tag_number leaves with_attributes attributes_after is_among
grown-marked {work} {c = c} {g = g} q n late h =
    let k = learnt-marked (entered-marked h g.enters g.name q.name) q in
    split (eqb g.kind (kind_number AT))
    (λ e. rw e (marks-more _ c.tag g.name q.name k))
    (λ e. rw e (marks-later (omega arith) k))
