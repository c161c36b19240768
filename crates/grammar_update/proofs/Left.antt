-- Memory after an event: it represents the rows that the event leaves.
use Prim.Native.Nat.{ℕ, ◌+◌, ◌≤◌, ◌<◌}
use native.Mathlib.Omega.{arith}
use mathlib.Core.Path.{◌≡◌, refl, sym, ap, subst, ◌∙◌}
use mathlib.Core.Bool.{Bool, cond}
use mathlib.Core.List.{List}
use lib.ListN.{length}
use Rattle.spec_exi.specs.Event.{SE}
use Rattle.spec_exi.specs.Grammar.{kind_number}
use Rattle.mem_marks.specs.Marks.{MarksHold}
use Rattle.mem_rows.specs.Rows.{Rows, is_among, opened_after, leaves}
use Rattle.mem_rows.specs.Valid.{Valid}
use Rattle.mem_rows.proofs.Events.{leaves-lists}
use Rattle.mem_state.specs.declared.Core.{Core}
use Rattle.mem_state.specs.declared.Strings.{Strings}
use Rattle.mem_state.specs.declared.Growth.{Growth}
use Rattle.mem_state.specs.Holds.{Stores, Holds, Counts, Opens, Topped, in_tag_of, Represents}
use Rattle.mem_state.specs.Commit.{joined_strings, grown, turned, counted, depth_after, StringsPre}
use Rattle.mem_state.specs.Strung.{StringsJoin}
use Rattle.mem_state.specs.Grows.{learnt_of, Grows}
use Rattle.mem_state.proofs.Strung.{strings-ahead, uris-counted, names-counted, values-counted}
use Rattle.mem_state.proofs.Strung.{strings-hold}
use Rattle.mem_state.proofs.Marks.{strings-marked, grown-marked}
use Rattle.mem_state.proofs.Grows.{grown-holds}
use Rattle.grammar_open.specs.Opened.{Turned}
use Rattle.grammar_open.proofs.Turns.{opened-turned, opened_rows}
use Rattle.grammar_update.specs.After.{core_after, AfterPre}
use Rattle.grammar_update.proofs.Tests.{opened_after_lem, learned-after, grammars-after}

module _ {from : Stores} {c : Core} {s : Strings} {g : Growth} {w v : Rows} {opened : List ℕ}
    (joins : StringsJoin from s w v) (grows : Grows v c g) (counts : Counts c w)
    (opens : Opens c w opened) where
  abbrev left : Rows
  left = leaves g.kind g.name g.teaches (learnt_of g) v

  left-counts : (f : Bool) (at stored n : ℕ) → Counts (core_after f c at stored s g n) left
  unfolding turned counted
  left-counts f at stored n =
      let ls = leaves-lists g.kind g.name g.teaches (learnt_of g) v in
      let a = strings-ahead joins in
      record {
        uris = uris-counted joins counts ∙ sym (ap length ls.0);
        names = names-counted joins counts ∙ sym (ap length ls.1);
        values = values-counted joins counts ∙ sym (ap length ls.2);
        learned = ap (λ n. n + cond g.teaches 1 0)
            (counts.learned ∙ sym (ap length a.learned))
            ∙ sym (learned-after v g.kind g.name g.teaches (learnt_of g));
        grammars = ap (λ n. n + cond g.enters 1 0)
            (counts.grammars ∙ sym (ap length a.grammars))
            ∙ ap (λ b. length v.grammars + cond b 1 0) grows.enters
            ∙ sym (grammars-after v g.kind g.name g.teaches (learnt_of g));
        longest = counts.longest ∙ sym (ls.3 ∙ a.longest);
        capacity = counts.capacity ∙ sym (ls.4 ∙ a.capacity);
      }

  -- The event has come after n others, and marks are older.
  pub left-represents : (f : Bool) {work : List ℕ} → StringsPre work c s → Holds work from w
      → MarksHold work c.tag (in_tag_of w)
      → Valid (leaves g.kind g.name g.teaches (learnt_of g) v)
      → (g.kind ≡ kind_number SE → g.name < length v.names) → (at stored n : ℕ)
      → c.tag ≤ n + 1
      → Represents (grown c g (joined_strings c s work)) from (core_after f c at stored s g n)
      (leaves g.kind g.name g.teaches (learnt_of g) v)
      (opened_after g.kind g.name opened)
  unfolding turned counted
  left-represents f {work} asks holds marks valid named at stored n late =
      let ls = leaves-lists g.kind g.name g.teaches (learnt_of g) v in
      let m = ap length ls.1 in
      record {
        valid = valid;
        holds = grown-holds grows (strings-hold joins counts asks holds);
        counts = left-counts f at stored n;
        opens = record {
          size = opened_after_lem g.kind g.name opened
              ∙ ap (depth_after g.kind) opens.size;
          rows = opened_rows g.kind g.name opened
              (omega (arith, m, (strings-ahead joins).fewer_names)) opens.rows
              (λ k. omega (arith, m, named k));
        };
        marks = grown-marked grows n late
            (subst (λ ns. MarksHold (joined_strings c s work) c.tag (λ i. is_among i ns))
            (sym (strings-ahead joins).attributes) (strings-marked asks marks));
      }

-- The open elements after it.
pub left-turned : (f : Bool) {c : Core} (s : Strings) {g : Growth} {n : ℕ} {w : Rows} {opened : List ℕ}
    → AfterPre c g n → Opens c w opened → Topped c opened → (at stored : ℕ)
    → Turned c (core_after f c at stored s g n) opened (opened_after g.kind g.name opened)
unfolding turned counted kind_number
left-turned f s {g} {opened = opened} a opens top at stored =
    opened-turned g.kind g.name opened opens.size
    (λ k. a.bounded.fits.inner (a.stands.inside (omega (arith, k)) (omega (arith, k)))) top
    refl refl
