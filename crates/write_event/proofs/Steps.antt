-- The answers of `step`, with what they leave.
use Prim.Native.Nat.{ℕ, ◌+◌, ◌≤◌, ◌<◌}
use native.Mathlib.Omega.{arith}
use mathlib.Core.Path.{◌≡◌, refl, sym, ap, subst, ◌∙◌}
use mathlib.Core.Bool.{Bool, true, false, not}
use mathlib.Core.List.{List}
use lib.ListN.{length}
use borrow.Author.Tests.{not-true, not-false}
use Rattle.spec_fields.specs.Refusal.{number_of}
use Rattle.text.specs.Text.{part}
use Rattle.spec_exi.specs.Sizes.{max_uris, max_names, max_store, max_learned}
use Rattle.spec_exi.specs.Settings.{Settings}
use Rattle.spec_exi.specs.Event.{map_event}
use Rattle.event.specs.declared.Event as declared
use Rattle.event.specs.Cells.{meaning}
use Rattle.mem_layout.specs.Layout.{name_rows}
use Rattle.mem_entries.specs.Entries.{text_at}
use Rattle.mem_names.specs.Uris.{uri_text}
use Rattle.mem_rows.specs.Rows.{Learnt, Rows, opened_after, leaves}
use Rattle.mem_rows.proofs.Events.{leaves-lists}
use Rattle.mem_state.specs.declared.Core.{Core}
use Rattle.mem_state.specs.declared.Growth.{Growth}
use Rattle.mem_state.specs.Holds.{Ahead, Bounded, Topped}
use Rattle.mem_state.specs.Commit.{joined_strings, grown, counted, turned, StringsPre, GrowPre}
use Rattle.mem_state.specs.Grows.{learnt_of}
use Rattle.mem_state.proofs.Strung.{strings-ahead}
use Rattle.mem_state.proofs.Commit.{strings-size, grown-size}
use Rattle.grammar_codes.specs.declared.Place.{Place}
use Rattle.grammar_update.specs.Growth.{growth_of, allowed_in, fits_in}
use Rattle.grammar_update.specs.After.{core_after, AfterPre}
use Rattle.grammar_update.proofs.Tests.{fits-learned}
use Rattle.grammar_update.proofs.Turns.{after-bounded}
use Rattle.grammar_update.proofs.Left.{left-represents, left-turned}
use Rattle.grammar_stepped.specs.Stepped.{stepped_as}
use Rattle.write_field.specs.Written.{Put}
use Rattle.write_partition.specs.Writable.{Written, Writable}
use Rattle.write_qname.specs.Premise.{Begun}
use Rattle.write_content.specs.Answer.{ContentAnswer}
use Rattle.write_production.specs.declared.Code.{Code}
use Rattle.write_event.specs.Judge.{EventAnswer}
use Rattle.write_event.specs.Step.{StepPre, Stands, StepLeaves, StepPost}
use Rattle.write_event.specs.Judge.{CodeHere, refused_as, judged_as}
use Rattle.write_event.specs.Judge.{after_content, GrammarsPost, JudgePre, judgedBits, left_by}
use Rattle.write_event.specs.Judge.{EventLeaves, JudgePost, PutEventPre, CommitPre, CommitPost}
use Rattle.write_event.proofs.Puts.{bits-few}

-- ---- after the content

module _ {work : List ℕ} {c : Core} {kind : ℕ} (p : Place) (x : ContentAnswer) {code : Code}
    (h : CodeHere work c kind x.strings.name_row code) {g : Growth}
    (e : g ≡ growth_of work c kind code.learned x.strings) {may : Bool}
    (m : may ≡ allowed_in work c.tag kind x.strings.name_row) where
  pub grammars-equal : not may ≡ true → GrammarsPost work c kind p x (refused_as 14 c)
  unfolding after_content number_of
  grammars-equal n =
      record { code = code; code_is = h; is = rw (sym m, not-true may n) }

  module _ (a : not may ≡ false) {fit : Bool} (f : fit ≡ fits_in c g) where
    allowed : allowed_in work c.tag kind x.strings.name_row ≡ true
    allowed = sym m ∙ not-false may a

    fits-so : fits_in c (growth_of work c kind code.learned x.strings) ≡ fit
    fits-so = ap (fits_in c) (sym e) ∙ sym f

    pub grammars-limit : not fit ≡ true → GrammarsPost work c kind p x (refused_as 12 c)
    unfolding after_content number_of
    grammars-limit n =
        record { code = code; code_is = h; is = rw (allowed, fits-so, not-true fit n) }

    pub grammars-pass : not fit ≡ false → GrammarsPost work c kind p x (judged_as p code x g)
    unfolding after_content
    grammars-pass n =
        record {
          code = code;
          code_is = h;
          is = rw (allowed, fits-so, not-false fit n) (ap (judged_as p code x) e);
        }

-- ---- the commit

module _ {work : List ℕ} {c : Core} {r : EventAnswer} {n : ℕ} (pre : CommitPre work c r n) where
  pub join-asks : StringsPre work c r.content.strings
  unfolding max_uris max_names max_store
  join-asks =
      let b = pre.bounds.strings in
      record {
        room = pre.rows;
        uris = λ j. omega (arith, b.uris j);
        names = λ j. omega (arith, b.names j);
        values = λ j. omega (arith, b.values j, pre.bounds.store);
        uri = b.uri;
        owner = b.owner;
      }

  name-low : r.growth.name < name_rows
  name-low = omega (arith, pre.bounds.name, pre.bounds.strings.name)

  pub grow-asks : {work₁ : List ℕ} → work₁ ≡ joined_strings c r.content.strings work
      → GrowPre work₁ c r.growth
  unfolding max_learned
  grow-asks e =
      let b = pre.bounds in
      record {
        room = omega (arith, ap length e, strings-size c r.content.strings work, pre.rows);
        few = λ t. omega (arith, fits-learned c r.growth b.fits t);
        site = b.site;
        kind = b.stands.known;
        name = name-low;
      }

  pub after-asks : AfterPre c r.growth n
  after-asks =
      record { bounded = pre.bounded; early = pre.early; stands = pre.bounds.stands }

  pub committed : (f : Bool) {work₁ work₂ : List ℕ} (at : ℕ) {d : Core}
      → work₁ ≡ joined_strings c r.content.strings work → work₂ ≡ grown c r.growth work₁
      → d ≡ core_after f c at r.content.stored r.content.strings r.growth n
      → CommitPost f work c at r n work₂ d
  committed f at a b e =
      record { work-is = b ∙ ap (grown c r.growth) a; core_is = e }

  after-low : (f : Bool) (at : ℕ)
      → Bounded (core_after f c at r.content.stored r.content.strings r.growth n)
  after-low f at =
      after-bounded f at r.content.stored after-asks join-asks pre.bounds.fits name-low
      pre.bounds.grows pre.bounds.store pre.bounds.strings.values

-- ---- the rows after an event

-- What joins the grammars is no text.
module _ (kind n : ℕ) (b : Bool) (l : Learnt) {v : Rows} where
  left_writable : Writable v → Writable (leaves kind n b l v)
  left_writable w =
      let ls = leaves-lists kind n b l v in
      record {
        uris = λ i h.
            subst (λ us. Written (uri_text us i)) (sym ls.0)
            (w.uris i (omega (arith, ap length ls.0, h)));
        names = λ i h.
            subst (λ es. Written (text_at es i)) (sym ls.1)
            (w.names i (omega (arith, ap length ls.1, h)));
        values = λ i h.
            subst (λ es. Written (text_at es i)) (sym ls.2)
            (w.values i (omega (arith, ap length ls.2, h)));
      }

  left-begun : {w : Rows} → Begun w → Ahead w v → Begun (leaves kind n b l v)
  left-begun s a =
      let ls = leaves-lists kind n b l v in
      record {
        uris = omega (arith, s.uris, a.fewer_uris, ap length ls.0);
        names = omega (arith, s.names, a.fewer_names, ap length ls.1);
      }

-- ---- the step

module _ {stream work : List ℕ} {c : Core} {n : ℕ} (pre : StepPre stream work c n) where
  pub judge-asks : JudgePre work c
  judge-asks = record { rows = pre.rows; bounded = pre.bounded }

  module _ {s : Settings} {opening text : List ℕ} {e : declared.Event} {r : EventAnswer}
      (post : JudgePost s opening text e work c r) where
    pub step-refused : 0 < r.number
        → StepPost s opening text (meaning e) stream work c n stream work
        (stepped_as r.number c)
    step-refused h =
        record {
          bounded = pre.bounded;
          refused = λ _. record { core = refl; stream-is = refl; work-is = refl };
          put = λ z. absurd (omega arith);
          meant = λ w opened stands top late.
              record {
                fault = (post.meant w opened stands top).fault;
                leaves = λ z. absurd (omega arith);
              };
        }

    module _ (zero : r.number ≡ 0) where
      pub put-asks : PutEventPre s stream text e work c r
      put-asks =
          record {
            blank = pre.blank;
            near = pre.near;
            rows = pre.rows;
            bounded = pre.bounded;
            bits = post.bits zero;
          }

      pub commit-asks : CommitPre work c r n
      commit-asks =
          record {
            rows = pre.rows;
            bounded = pre.bounded;
            early = pre.early;
            bounds = post.rows zero;
          }

      -- Over rows.
      module _ {w : Rows} {opened : List ℕ} (stands : Stands opening text work c w opened)
          (top : Topped c opened) (late : c.tag ≤ n + 1)
          (m : EventLeaves s opening text e work c w opened r) (at : ℕ) where
        step-leaves : StepLeaves s opening text (map_event (part text) (meaning e)) c w opened
            (judgedBits s text e work c r)
            (grown c r.growth (joined_strings c r.content.strings work))
            (core_after s.fragment c at r.content.stored r.content.strings r.growth n)
        unfolding turned counted
        step-leaves =
            let g = r.growth in
            let stored = r.content.stored in
            record {
              rows = left_by g m.rows;
              opened' = opened_after g.kind g.name opened;
              bits_are = m.bits;
              after = record {
                represents = left-represents m.joins m.grows stands.represents.counts
                    stands.represents.opens s.fragment (join-asks commit-asks)
                    stands.represents.holds stands.represents.marks m.valid m.named
                    at stored n late;
                writable = left_writable g.kind g.name g.teaches (learnt_of g)
                    m.writable;
                begun = left-begun g.kind g.name g.teaches (learnt_of g)
                    stands.begun (strings-ahead m.joins);
              };
              turned = left-turned s.fragment r.content.strings (after-asks commit-asks)
                  stands.represents.opens top at stored;
              context = m.context;
            }

      done : {stream' : List ℕ} {at : ℕ}
          → Put stream c.at (judgedBits s text e work c r) stream' at
          → StepPost s opening text (meaning e) stream work c n stream'
          (grown c r.growth (joined_strings c r.content.strings work))
          (stepped_as 0 (core_after s.fragment c at r.content.stored r.content.strings r.growth n))
      unfolding turned counted
      done {at = at} p =
          record {
            bounded = after-low commit-asks s.fragment at;
            refused = λ h. absurd (omega arith);
            put = λ _. record {
              bits = judgedBits s text e work c r;
              put = p;
              near = omega (arith, p.next, bits-few put-asks);
              strings = r.content.strings;
              growth = r.growth;
              rows = post.rows zero;
              work-is = refl;
              work-size = grown-size c r.growth (joined_strings c r.content.strings work)
                  ∙ strings-size c r.content.strings work;
              core_is = refl;
            };
            meant = λ w opened stands top late.
                let m = post.meant w opened stands top in
                record {
                  fault = sym zero ∙ m.fault;
                  leaves = λ _. step-leaves stands top late (m.leaves zero) at;
                };
          }

      pub step-done : {stream' work' : List ℕ} {at : ℕ} {d : Core}
          → Put stream c.at (judgedBits s text e work c r) stream' at
          → CommitPost s.fragment work c at r n work' d
          → StepPost s opening text (meaning e) stream work c n stream' work'
          (stepped_as 0 d)
      step-done {stream'} {work'} {at} {d} p q =
          subst (λ (k : Core). StepPost s opening text (meaning e) stream work c n stream' work'
          (stepped_as 0 k)) (sym q.core_is)
          (subst (λ l. StepPost s opening text (meaning e) stream work c n stream' l
          (stepped_as 0
          (core_after s.fragment c at r.content.stored r.content.strings r.growth n)))
          (sym q.work-is) (done p))
