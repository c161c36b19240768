-- The answers of `step`, with what they leave.
use Prim.Native.Nat.{ℕ, ◌+◌, ◌≤◌, ◌<◌}
use native.Mathlib.Omega.{arith}
use mathlib.Core.Path.{◌≡◌, refl, sym, ap, subst, ◌∙◌}
use mathlib.Core.List.{List, ◌++◌, append-nil}
use lib.ListN.{length, take, drop, replicate}
use Rattle.spec_exi.specs.Sizes.{sizes, max_store, max_uris, max_names, max_learned}
use Rattle.spec_exi.specs.Sizes.{max_events, cells_per_event}
use Rattle.spec_exi.specs.Settings.{Settings}
use Rattle.spec_exi.specs.Event.{Event}
use Rattle.spec_exi.specs.Tables.{Placed}
use Rattle.spec_exi.specs.Context.{Context}
use Rattle.spec_exi.specs.Reader.{step}
use Rattle.event.specs.Cells.{cells_of, meaning}
use Rattle.event.proofs.Laws.{cells-per-event}
use Rattle.mem_rows.specs.Rows.{Rows, opened_after, leaves}
use Rattle.mem_state.specs.declared.Core.{Core}
use Rattle.mem_state.specs.Holds.{in_store, Topped, Represents}
use Rattle.mem_state.specs.Holds.{context_at}
use Rattle.mem_state.specs.Commit.{joined_strings, grown, turned, counted}
use Rattle.mem_state.specs.Commit.{StringsPre, GrowPre}
use Rattle.mem_state.specs.Grows.{learnt_of}
use Rattle.mem_state.proofs.Joins.{holds-grown}
use Rattle.mem_state.proofs.Commit.{strings-size, grown-size}
use Rattle.grammar_update.specs.After.{core_after, AfterPre}
use Rattle.grammar_update.proofs.Tests.{fits-learned}
use Rattle.grammar_update.proofs.Turns.{after-bounded}
use Rattle.grammar_update.proofs.Left.{left-represents, left-turned}
use Rattle.grammar_stepped.specs.Stepped.{stepped_as}
use Rattle.read_contract.specs.Outcome.{Outcome}
use Rattle.read_contract.proofs.Outcome.{refused-outcome, outcome-weaken}
use Rattle.read_literal.specs.Literal.{laid_at}
use Rattle.read_qname.proofs.Texts.{text-grown}
use Rattle.read_event.specs.View.{EventRead}
use Rattle.read_event.specs.Judge.{EventPre, EventPost, EventMeans}
use Rattle.read_event.specs.Step.{StepPre, StepMeans, StepPost}

module _ {stream events text work : List ℕ} {c : Core} {cell n : ℕ}
    (pre : StepPre stream events text work c cell n) where
  pub event-asks : EventPre stream text work c
  event-asks =
      record {
        size = pre.size;
        place = pre.place;
        room = pre.room;
        rows = pre.rows;
        bounded = pre.bounded;
      }

  -- Bounds are the same whatever the event's number.
  pub numbered : {m : ℕ} → m < max_events → StepPre stream events text work c cell m
  numbered h =
      record {
        size = pre.size;
        place = pre.place;
        room = pre.room;
        rows = pre.rows;
        cells = pre.cells;
        bounded = pre.bounded;
        early = h;
      }

  module _ {s : Settings} {text' : List ℕ} {r : EventRead}
      (post : EventPost s stream text work c text' r) where
    pub step-refused : 0 < r.number
        → StepPost s stream events text work c cell n events text' work
        (stepped_as r.number c)
    step-refused h =
        record {
          bounded = pre.bounded;
          inside = pre.place;
          refused = λ _. record {
            core = refl;
            events-is = refl;
            work-is = refl;
            cleared = (post.refused h).1;
          };
          laid = λ z. absurd (omega arith);
          meant = λ w opened rep top late.
              refused-outcome ((post.meant w opened rep top).refused h);
        }

    -- ---- an event that is accepted

    module _ (z : r.number ≡ 0) where
      stored-few : r.stored ≤ max_store
      stored-few = let t = post.laid z in omega (arith, t.room, t.stored_is)

      pub join-asks : StringsPre work c r.strings
      unfolding max_uris max_names max_store
      join-asks =
          let b = (post.bounds z).strings in
          record {
            room = pre.rows;
            uris = λ j. omega (arith, b.uris j);
            names = λ j. omega (arith, b.names j);
            values = λ j. omega (arith, b.values j, stored-few);
            uri = b.uri;
            owner = b.owner;
          }

      pub grow-asks : {work₁ : List ℕ} → work₁ ≡ joined_strings c r.strings work
          → GrowPre work₁ c r.growth
      unfolding max_learned
      grow-asks e =
          let b = post.bounds z in
          record {
            room = omega (arith, ap length e, strings-size c r.strings work, pre.rows);
            few = λ t. omega (arith, fits-learned c r.growth b.fits t);
            site = b.site;
            kind = b.stands.known;
            name = omega (arith, b.name, b.strings.name);
          }

      pub after-asks : AfterPre c r.growth n
      after-asks =
          record { bounded = pre.bounded; early = pre.early; stands = (post.bounds z).stands }

      -- ---- over rows

      module _ {w : Rows} {opened : List ℕ}
          (rep : Represents work (in_store text c.stored) c w opened) (top : Topped c opened)
          {v : Event Placed × Context}
          (m : EventMeans s.fragment text' c w opened r v) where
        step-means : c.tag ≤ n + 1 → {events' : List ℕ}
            → events' ≡ take cell events ++ cells_of (meaning r.event)
            ++ drop (cell + cells_per_event) events
            → StepMeans events c cell opened events' text'
            (grown c r.growth (joined_strings c r.strings work))
            (core_after s.fragment c r.next r.stored r.strings r.growth n) v
        unfolding turned counted
        step-means late e =
            record {
              w = leaves r.growth.kind r.growth.name r.growth.teaches
                  (learnt_of r.growth) m.rows;
              opened' = opened_after r.growth.kind r.growth.name opened;
              after = left-represents m.joins m.grows rep.counts rep.opens s.fragment join-asks
                  (holds-grown (text-grown pre.room (post.laid z)) rep.holds) rep.marks
                  m.valid m.named r.next r.stored n late;
              turned = left-turned s.fragment r.strings after-asks rep.opens top r.next
                  r.stored;
              context = m.context;
              cells = e
                  ∙ ap (λ x. take cell events ++ cells_of x ++ drop (cell + cells_per_event) events)
                  m.event;
            }

      step-post : {events' : List ℕ}
          → events' ≡ take cell events ++ cells_of (meaning r.event)
          ++ drop (cell + cells_per_event) events
          → StepPost s stream events text work c cell n events' text'
          (grown c r.growth (joined_strings c r.strings work))
          (stepped_as 0 (core_after s.fragment c r.next r.stored r.strings r.growth n))
      unfolding turned counted
      step-post {events'} e =
          let t = post.laid z in
          record {
            bounded = after-bounded s.fragment r.next r.stored after-asks join-asks
                (post.bounds z).fits
                (omega (arith, (post.bounds z).name, (post.bounds z).strings.name))
                (omega (arith, t.stored_is)) stored-few (post.bounds z).strings.values;
            inside = post.inside;
            refused = λ h. absurd (omega arith);
            laid = λ _. record {
              row = cells_of (meaning r.event);
              row-size = cells-per-event (meaning r.event);
              events-is = e;
              x = t.x;
              text-is = t.text-is
                  ∙ ap (λ k. laid_at text c.stored (t.x ++ replicate k 0)) (t.whole refl)
                  ∙ ap (laid_at text c.stored) (append-nil t.x);
              stored_is = t.stored_is;
              strings = r.strings;
              growth = r.growth;
              work-is = refl;
              core_is = refl;
              work-size = grown-size c r.growth (joined_strings c r.strings work)
                  ∙ strings-size c r.strings work;
            };
            meant = λ w opened rep top late.
                outcome-weaken (λ _ v m. step-means rep top m late e)
                (subst
                (λ k. Outcome (step sizes s (context_at text c w opened)) stream c.at k r.next
                (EventMeans s.fragment text' c w opened r)) z (post.meant w opened rep top));
          }

      pub step-read : {work₁ work₂ events' : List ℕ} {d : Core}
          → work₁ ≡ joined_strings c r.strings work → work₂ ≡ grown c r.growth work₁
          → events' ≡ take cell events ++ cells_of (meaning r.event)
          ++ drop (cell + cells_per_event) events
          → d ≡ core_after s.fragment c r.next r.stored r.strings r.growth n
          → StepPost s stream events text work c cell n events' text' work₂
          (stepped_as 0 d)
      step-read {work₁} {work₂} {events'} {d} a b e f =
          subst (λ (k : Core). StepPost s stream events text work c cell n events' text' work₂
          (stepped_as 0 k)) (sym f)
          (subst (λ k. StepPost s stream events text work c cell n events' text' k
          (stepped_as 0 (core_after s.fragment c r.next r.stored r.strings r.growth n)))
          (sym (b ∙ ap (grown c r.growth) a)) (step-post e))
