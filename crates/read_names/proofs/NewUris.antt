-- A URI that is a literal: whether the table has its text, and what it leaves.
use Prim.Native.Nat.{ℕ, zero, suc, ◌≤◌, ◌<◌}
use native.Mathlib.Omega.{arith}
use mathlib.Core.Path.{◌≡◌, refl, sym, ap, subst, ◌∙◌}
use mathlib.Core.Bool.{true, false, true≢false}
use mathlib.Core.List.{List}
use lib.ListN.{replicate}
use lib.Dec.{ltb}
use borrow.Author.Tests.{lt-ltb, le-ltb}
use Rattle.spec_fields.specs.Refusal.{number_of, loose, limit}
use Rattle.spec_fields.specs.Field.{Alignment}
use Rattle.text.specs.Text.{Text, part}
use Rattle.spec_exi.specs.Sizes.{sizes, max_uris}
use Rattle.spec_exi.specs.Tables.{uri, partitions_of, literal, eq_form, hit_or, form_of, laid, added}
use Rattle.spec_exi.specs.Tables.{tables_after, name_allowed, text_allowed}
use Rattle.spec_exi.specs.Lists.{within_tables}
use Rattle.mem_chain.specs.Chain.{first_that}
use Rattle.mem_layout.specs.Layout.{opening_uris}
use Rattle.mem_entries.proofs.Texts.{one_store}
use Rattle.mem_names.specs.Uris.{has_uri, row_of, uri_store, FoundUri}
use Rattle.mem_names.proofs.Uris.{uris-grown}
use Rattle.mem_rows.specs.Rows.{Rows, tables_of, with_uri}
use Rattle.mem_rows.proofs.Joins.{uri-joins}
use Rattle.mem_rows.proofs.Grown.{uri-grows}
use Rattle.mem_rows.proofs.Forms.{uri-fresh}
use Rattle.mem_rows.proofs.Within.{within-uri}
use Rattle.read_literal.specs.View as seen
use Rattle.read_literal.specs.Literal.{laid_at, LiteralRead}
use Rattle.read_partition.specs.Strings.{refused_as, literal_as, Tabled}
use Rattle.read_partition.proofs.Steps.{judge-loose, judge-limit}
use Rattle.read_partition.proofs.Posts.{literal-refused, literal-judged, Passes, literal-passed}
use Rattle.read_names.specs.Uris.{UriPre, UriRows, as_new_uri, UriPost}
use Rattle.read_partition.proofs.Literals.{TextLaid, laid-found, store-grown, store-fits, text-laid}
use Rattle.read_names.proofs.Uris.{count-is, form-of}

-- ---- the form by what a search answers

absent-form : (j r : ℕ) → r ≡ 0 → eq_form literal (hit_or j (row_of r) literal) ≡ true
unfolding row_of hit_or eq_form
absent-form j r z = rw z

present-form : (j r : ℕ) → (r ≡ 0 → ⊥) → eq_form literal (hit_or j (row_of r) literal) ≡ false
unfolding row_of hit_or eq_form
present-form j zero ne = absurd (ne refl)
present-form j (suc g) ne = refl

module _ {text : List ℕ} {stored : ℕ} {w : Rows} {store : Text} (t : Tabled text stored w store)
    {work : List ℕ} {uris : ℕ} (p : UriRows work text stored uris w)
    {n : ℕ} {text' : List ℕ} {x : Text} (d : TextLaid text stored n text' x)
    {q : ℕ} (s : FoundUri work (uri_store text' text')
    (part text' (record { place = stored; size = n })) uris q) where
  -- The answer of the search.
  row_is : q ≡ first_that (has_uri w.uris x) uris
  row_is =
      let f : FoundUri work (uri_store text' text') x uris q =
      subst (λ y. FoundUri work (uri_store text' text') y uris q) (laid-found d) s in
      f.means _ w.uris (uris-grown (store-grown d) p.hold) (one_store opening_uris text')

  absent-strict : q ≡ 0
      → eq_form literal (form_of (partitions_of (tables_of w store) uri) x) ≡ true
  absent-strict z = ap (eq_form literal) (form-of t p x q row_is) ∙ absent-form 0 q z

  present-loose : (q ≡ 0 → ⊥)
      → eq_form literal (form_of (partitions_of (tables_of w store) uri) x) ≡ false
  present-loose ne =
      ap (eq_form literal) (form-of t p x q row_is) ∙ present-form 0 q ne

  within-is : within_tables sizes (added (tables_of w store) uri x) ≡ ltb uris max_uris
  unfolding tables_of
  within-is =
      within-uri (tables_of w store) x t.within (store-fits d t)
      ∙ ap (λ m. ltb m max_uris) (count-is t p)

  new-passes : q ≡ 0 → uris < max_uris → Passes (λ w y. with_uri w y) uri w store x true
  unfolding name_allowed text_allowed laid tables_of
  new-passes z h =
      record {
        whole = refl;
        strict = absent-strict z;
        allowed = refl;
        within = within-is ∙ lt-ltb uris max_uris h;
        stays = λ j. absurd (true≢false j);
        joined = λ _. uri-joins w t.valid.refers store x;
        valid = λ _.
            uri-grows t.valid _
            (uri-fresh w x q (row_is ∙ ap (first_that (has_uri w.uris x)) (sym (count-is t p))) z);
      }

-- ---- by what `read_literal` and `seek_uri` answer

module _ {stream : List ℕ} {at : ℕ} {text : List ℕ} {stored : ℕ} {work : List ℕ} {uris n : ℕ}
    {text' : List ℕ} {l : seen.Literal} (fit : UriPre stream at text stored work uris)
    (r : LiteralRead stream at text stored n text' l) where
  pub new-refused : (l.number ≡ 0 → ⊥) → {a : Alignment}
      → UriPost a (as_new_uri n) stream at text stored work uris text'
      (refused_as l.number l.next l.left stored)
  new-refused ne = literal-refused (λ w. uri) r (omega arith)

  module _ (z : l.number ≡ 0) {q : ℕ} (s : FoundUri work (uri_store text' text')
      (part text' (record { place = stored; size = n })) uris q) where
    pub new-loose : (q ≡ 0 → ⊥) → {text'' : List ℕ}
        → text'' ≡ laid_at text' stored (replicate n 0) → {a : Alignment}
        → UriPost a (as_new_uri n) stream at text stored work uris text''
        (refused_as (number_of loose) l.next 0 stored)
    unfolding laid number_of text_allowed
    new-loose ne c =
        literal-judged (λ w. uri) r z fit.literal.room (number_of loose) (omega arith) c
        (λ w store t p x e f.
        judge-loose (tables_of w store) uri (literal, laid (tables_of w store) x) refl
        (present-loose t p (text-laid fit.literal r z x e f) s ne))

    module _ (absent : q ≡ 0) where
      pub new-full : max_uris ≤ uris → {text'' : List ℕ}
          → text'' ≡ laid_at text' stored (replicate n 0) → {a : Alignment}
          → UriPost a (as_new_uri n) stream at text stored work uris text''
          (refused_as (number_of limit) l.next 0 stored)
      unfolding laid number_of name_allowed text_allowed tables_after
      new-full h c =
          literal-judged (λ w. uri) r z fit.literal.room (number_of limit) (omega arith) c
          (λ w store t p x e f.
          let d = text-laid fit.literal r z x e f in
          judge-limit (tables_of w store) uri (literal, laid (tables_of w store) x) refl
          (absent-strict t p d s absent) refl (within-is t p d s ∙ le-ltb uris max_uris h))

      pub new-joins : uris < max_uris → {a : Alignment}
          → UriPost a (as_new_uri n) stream at text stored work uris text'
          (literal_as l.next stored n uris true 0)
      new-joins h =
          literal-passed (λ w. uri) r z fit.literal.room uris true 0
          (λ w store t p x e f. new-passes t p (text-laid fit.literal r z x e f) s absent h)
