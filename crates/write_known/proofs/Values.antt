-- The answers of the quick steps of events with a value.
use Prim.Native.Nat.{ℕ, ◌+◌, ◌≤◌, ◌<◌}
use native.Mathlib.Omega.{arith}
use mathlib.Core.Path.{◌≡◌, refl, sym, subst, ◌∙◌}
use mathlib.Core.Bool.{Bool, true, false, not}
use mathlib.Core.List.{List}
use borrow.Author.Tests.{not-true, not-false}
use Rattle.spec_fields.specs.Field.{Alignment}
use Rattle.spec_fields.specs.Refusal.{number_of, place}
use Rattle.text.specs.Text.{Text, inside, part}
use Rattle.spec_exi.specs.Settings.{Settings}
use Rattle.spec_exi.specs.Sizes.{max_events, max_string, max_store}
use Rattle.spec_exi.specs.Event.{Kind, CH, kind_of, strings_of}
use Rattle.spec_exi.specs.Grammar.{kind_number}
use Rattle.spec_exi.specs.Lists.{every}
use Rattle.event.specs.declared.Part.{Part}
use Rattle.event.specs.declared.Event.TheVariants.{Characters}
use Rattle.event.specs.Cells.{as_span, meaning}
use Rattle.mem_layout.specs.Layout.{name_rows}
use Rattle.mem_rows.specs.Rows.{content_after, mode_after}
use Rattle.mem_state.specs.declared.Core.{Core}
use Rattle.mem_state.specs.Commit.{joined_uri, joined_name, joined_strings, entered}
use Rattle.mem_state.specs.Commit.{learnt, marked, grown, top_after, depth_after, tag_number}
use Rattle.grammar_match.specs.Here.{site_in}
use Rattle.grammar_update.specs.Growth.{growth_of, fits_in}
use Rattle.grammar_stepped.specs.Stepped.{stepped_as, moved_on}
use Rattle.grammar_stepped.proofs.Moved.{moved-core, other-allowed}
use Rattle.write_field.specs.Written.{Put}
use Rattle.write_field.proofs.Written.{put-blank}
use Rattle.write_values.specs.Values.{ValueAnswer, value_bits, ValuePost}
use Rattle.write_qname.specs.Premise.{part_at}
use Rattle.write_qname.specs.Qnames.{joining_of}
use Rattle.write_content.specs.Contents.{ContentPre}
use Rattle.write_content.specs.Writing.{valued_bits, contentBits}
use Rattle.write_content.proofs.Unnamed.{characters-refused, characters-judged}
use Rattle.write_production.proofs.First.{first-length}
use Rattle.write_event.specs.Step.{StepPre}
use Rattle.write_event.proofs.Events.{every_one}
use Rattle.write_known.specs.Known.{PutLearnedPre, LearnedPut, KeepPre, ValueKept}
use Rattle.write_known.specs.Known.{LearnedPre, KnownPost}
use Rattle.write_known.proofs.Known.{Placed, inner-placed}
use Rattle.write_known.proofs.Known.{learned-here, learned-put, quick-outside, quick-refused}
use Rattle.write_known.proofs.Known.{quick-written}

module _ {stream work : List ℕ} {c : Core} {n : ℕ} (pre : StepPre stream work c n) where
  pub content-pre : ContentPre work c
  content-pre = record { room = pre.rows; bounded = pre.bounded }

  module _ {k : Kind} {name row : ℕ} (known : LearnedPre k work c name row) where
    pub learned-asks : PutLearnedPre stream work c.at c.top row
    unfolding max_events max_string
    learned-asks =
        record {
          blank = pre.blank;
          near = omega (arith, pre.near);
          room = pre.rows;
          low = pre.bounded.top;
          some = known.some;
          few = omega (arith, known.found.within, pre.bounded.learned);
        }

  -- What writing and adding the value asks, after the code.
  pub keep-asks : {a : Alignment} {mode top row : ℕ} {mid : List ℕ} {next : ℕ}
      → LearnedPut a stream work c.at mode top row mid next → {text : List ℕ} {x : Text}
      {owner stored : ℕ} {v : ValueAnswer} → ValuePost text x owner c.values c.longest c.capacity stored work v
      → v.number ≡ 0 → owner < name_rows → KeepPre mid next x v owner c.values work
  unfolding max_events max_string max_store
  keep-asks {a} {mode} q {v = v} post z low =
      let b = post.bounds z in
      record {
        put = record {
          blank = put-blank q.put;
          near = omega (
            arith,
            pre.near,
            q.put.next,
            first-length a mode q.count q.part q.counted.few,
          );
          room = pre.rows;
          low = low;
          few = omega (arith, pre.bounded.values, pre.bounded.stored);
          literal = λ f g. b.literal (let t : v.partition ≡ 2 = omega (arith, b.which, f, g) in t);
        };
        join = λ p. record {
          room = pre.rows;
          few = λ j. omega (arith, (b.new j).1, b.store);
          low = low;
        };
      }

-- The value's bits, by its part of the store and in the settings' alignment.
pub kept_put : (text : List ℕ) {p : Part} {y : Text}
    → y ≡ part text (record { place = p.place; size = p.size }) → {a b : Alignment} → b ≡ a
    → {mid : List ℕ} {next : ℕ} {v : ValueAnswer} {owner values capacity : ℕ}
    {work stream' work' : List ℕ} {at : ℕ}
    → ValueKept a mid next y p v owner values capacity work stream' work' at
    → Put mid next (value_bits work v.partition v.id owner values capacity (part_at text p) b)
    stream' at
unfolding as_span
kept_put text {y = y} look {b = b} same {mid} {next} {v} {owner} {values} {capacity} {work}
    {stream'} {at = at} q =
    subst
    (λ (t : Text). Put mid next (value_bits work v.partition v.id owner values capacity t b) stream' at)
    look
    (subst
    (λ (x : Alignment). Put mid next (value_bits work v.partition v.id owner values capacity y x) stream' at)
    (sym same) q.put)

-- ---- characters

module _ {stream work : List ℕ} {c : Core} {n : ℕ} (pre : StepPre stream work c n) {row : ℕ}
    (known : LearnedPre CH work c 0 row) where
  stands : (s : Settings) → Placed s c.mode 5
  stands s =
      inner-placed s 5 known.inner pre.bounded.fits.known (omega arith) (omega arith)
      (λ z. absurd (omega (arith, z)))

  lies : (text : List ℕ) (value : Part) {b : Bool} → b ≡ inside text (as_span value)
      → every (inside text) (strings_of (meaning (Characters value))) ≡ b
  unfolding strings_of meaning
  lies text value is = sym (is ∙ every_one (inside text) (as_span value))

  module _ (text : List ℕ) (value : Part) {b : Bool} (is : b ≡ inside text (as_span value)) where
    pub characters-outside : not b ≡ true → {a : Alignment}
        → KnownPost a text (Characters value) stream work c n stream work
        (stepped_as (number_of place) c)
    unfolding kind_of meaning kind_number
    characters-outside o =
        record {
          steps = λ s same opening.
              quick-outside pre opening text s (Characters value) refl (stands s)
              (lies text value is ∙ not-true b o);
        }

    module _ (i : not b ≡ false) {y : Text}
        (look : y ≡ part text (record { place = value.place; size = value.size }))
        {v : ValueAnswer} (post : ValuePost text y c.top c.values c.longest c.capacity c.stored
        work v) where
      pub characters-stopped : 0 < v.number → {a : Alignment}
          → KnownPost a text (Characters value) stream work c n stream work
          (stepped_as v.number c)
      unfolding kind_of meaning kind_number
      characters-stopped h =
          record {
            steps = λ s same opening.
                quick-refused pre opening text s (Characters value) refl (stands s)
                (lies text value is ∙ not-false b i)
                (characters-refused (content-pre pre) value look post h) h;
          }

      pub characters-stepped : v.number ≡ 0 → {a : Alignment} {mid : List ℕ} {next : ℕ}
          → LearnedPut a stream work c.at c.mode c.top row mid next
          → {stream' work' : List ℕ} {at : ℕ}
          → ValueKept a mid next y value v c.top c.values c.capacity work stream' work' at
          → {mode tag : ℕ} → mode ≡ content_after c.mode → tag ≡ n + 2
          → KnownPost a text (Characters value) stream work c n stream' work'
          (stepped_as 0
          (moved_on c at v.stored v.joins false mode c.top c.depth tag))
      unfolding kind_of meaning kind_number growth_of fits_in grown learnt entered marked joined_strings
          joined_uri joined_name mode_after top_after depth_after tag_number contentBits valued_bits
      characters-stepped z q {at = at} kept m t =
          let x = joining_of value v.joins v.hash in
          record {
            steps = λ s same opening.
                quick-written pre opening text s (Characters value) refl (stands s)
                (lies text value is ∙ not-false b i)
                (characters-judged (content-pre pre) value look post z) refl
                (learned-here c q known.found known.some)
                (other-allowed work c.tag 0 refl refl) refl refl
                (learned-put c q s same known.inner pre.bounded.fits.known
                (stands s).p)
                (kept_put text look same kept)
                kept.work-is
                ((λ i. moved_on c at v.stored v.joins false (m i) c.top c.depth (t i))
                ∙ moved-core s.fragment c at v.stored x 0 0 c.top false (site_in c.mode c.top) 5 0 0 n);
          }
