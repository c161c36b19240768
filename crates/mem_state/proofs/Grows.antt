-- Memory after an event's element grammar and its learned production.
use Prim.Native.Nat.{ℕ, ◌<◌}
use native.Mathlib.Omega.{arith}
use mathlib.Core.Path.{◌≡◌, sym, ap, subst, ◌∙◌}
use mathlib.Core.Bool.{true, false, cond, ◌&&◌, not, true≢false}
use mathlib.Core.List.{List}
use lib.ListN.{length}
use lib.Dec.{eqb}
use Rattle.spec_fields.proofs.Tests.{split}
use Rattle.spec_exi.specs.Event.{SE, AT}
use Rattle.spec_exi.specs.Grammar.{kind_number}
use Rattle.mem_layout.specs.Layout.{uri_rows, learned_rows}
use Rattle.mem_entries.specs.Entries.{key_at}
use Rattle.mem_learned.specs.Learned as cells
use Rattle.mem_rows.specs.Rows.{Rows, kind_at, carries, is_among, with_grammar, with_learned}
use Rattle.mem_rows.specs.Rows.{after_grammar, after_learned, attributes_after, leaves}
use Rattle.mem_state.specs.declared.Core.{Core}
use Rattle.mem_state.specs.declared.Growth.{Growth}
use Rattle.mem_state.specs.Holds.{taught_of, Stores, Holds}
use Rattle.mem_state.specs.Commit.{entered, learnt, marked, grown}
use Rattle.mem_state.specs.Grows.{learnt_of, enters_in, Grows}
use Rattle.mem_state.proofs.Joins.{holds-grammar, holds-learned, holds-attributes}
use Rattle.mem_state.proofs.Joins.{holds-mark}

module _ (v : Rows) (kind n : ℕ) where
  enters-yes : enters_in v kind n ≡ true
      → (is_among n v.grammars ≡ false) × (after_grammar kind n v ≡ with_grammar v n)
  unfolding after_grammar
  enters-yes e =
      split (eqb kind (kind_number SE))
      (λ a. split (is_among n v.grammars)
      (λ b. absurd (true≢false (sym e ∙ ap (λ t. t && not (is_among n v.grammars)) a
      ∙ ap not b)))
      (λ b. (b, rw (a, b))))
      (λ a. absurd (true≢false (sym e ∙ ap (λ t. t && not (is_among n v.grammars)) a)))

  enters-no : enters_in v kind n ≡ false → after_grammar kind n v ≡ v
  unfolding after_grammar
  enters-no e =
      split (eqb kind (kind_number SE))
      (λ a. split (is_among n v.grammars)
      (λ b. rw (a, b))
      (λ b. absurd (true≢false (sym (ap (λ t. t && not (is_among n v.grammars)) a
      ∙ ap not b) ∙ e))))
      (λ a. rw a)

module _ {v : Rows} {c : Core} {g : Growth} (q : Grows v c g) where
  entered-holds : {work : List ℕ} {from : Stores} → Holds work from v
      → Holds (entered g.enters g.name work) from (after_grammar g.kind g.name v)
  unfolding entered
  entered-holds {work} {from} h =
      split g.enters
      (λ e.
      let (f, r) = enters-yes v g.kind g.name (sym q.enters ∙ e) in
      rw e (subst (Holds _ from) (sym r) (holds-grammar v g.name f h q.name)))
      (λ e.
      rw e (subst (Holds work from)
      (sym (enters-no v g.kind g.name (sym q.enters ∙ e))) h))

  after-names : (after_grammar g.kind g.name v).names ≡ v.names
  unfolding with_grammar
  after-names =
      split g.enters
      (λ e. ap (λ (z : Rows). z.names) (enters-yes v g.kind g.name (sym q.enters ∙ e)).1)
      (λ e. ap (λ (z : Rows). z.names) (enters-no v g.kind g.name (sym q.enters ∙ e)))

  after-learned : (after_grammar g.kind g.name v).learned ≡ v.learned
  unfolding with_grammar
  after-learned =
      split g.enters
      (λ e.
      ap (λ (z : Rows). z.learned) (enters-yes v g.kind g.name (sym q.enters ∙ e)).1)
      (λ e. ap (λ (z : Rows). z.learned) (enters-no v g.kind g.name (sym q.enters ∙ e)))

  -- The URI's row is the same with the grammar.
  uri-same : (taught_of (after_grammar g.kind g.name v) (learnt_of g)).uri_row
      ≡ (taught_of v (learnt_of g)).uri_row
  unfolding taught_of
  uri-same =
      ap (λ es. cond (carries (kind_at g.kind)) (key_at es g.name) 0) after-names

  learnt-holds : {work : List ℕ} {from : Stores} → Holds work from v
      → Holds (learnt c.learned g (entered g.enters g.name work)) from
      (after_learned g.teaches (learnt_of g) (after_grammar g.kind g.name v))
  unfolding learnt after_learned
  learnt-holds {work} {from} h =
      let u = after_grammar g.kind g.name v in
      let k = entered-holds h in
      split g.teaches
      (λ e.
      let n : c.learned ≡ length u.learned = q.count ∙ sym (ap length after-learned) in
      let m : g.uri ≡ (taught_of u (learnt_of g)).uri_row = q.uri-is e ∙ sym uri-same in
      let l : g.uri < uri_rows = q.uri in
      let f : length u.learned < learned_rows = omega (arith, q.few e, ap length after-learned) in
      rw (e, n, m)
      (subst
      (λ k. Holds
      (cells.with_learned (entered g.enters g.name work) (length u.learned) g.site k
      g.name (taught_of u (learnt_of g)).uri_row g.name) from
      (with_learned u (learnt_of g))) q.kind-is
      (holds-learned u (learnt_of g) k f q.site q.name (omega (arith, m)))))
      (λ e. rw e k)

  pub grown-holds : {work : List ℕ} {from : Stores} → Holds work from v
      → Holds (grown c g work) from (leaves g.kind g.name g.teaches (learnt_of g) v)
  unfolding grown marked leaves
  grown-holds h =
      let k = holds-attributes _ (attributes_after g.kind g.name v.attributes)
      (learnt-holds h) in
      split (eqb g.kind (kind_number AT))
      (λ e. rw e (holds-mark c.tag g.name k q.name))
      (λ e. rw e k)
