-- A local name that is a literal: whether the URI has its text, whether it is allowed, and what it
-- leaves.
use Prim.Native.Nat.{ℕ, zero, suc, ◌≤◌, ◌<◌}
use native.Mathlib.Omega.{arith}
use mathlib.Core.Path.{◌≡◌, refl, sym, ap, subst, ◌∙◌}
use mathlib.Core.Bool.{Bool, true, false, true≢false}
use mathlib.Core.List.{List}
use lib.ListN.{replicate}
use lib.Dec.{ltb}
use borrow.Author.Tests.{lt-ltb, le-ltb}
use Rattle.spec_fields.specs.Refusal.{number_of, loose, name, limit}
use Rattle.spec_fields.specs.Field.{Alignment}
use Rattle.text.specs.Text.{Text, part}
use Rattle.spec_exi.specs.Sizes.{sizes, max_names}
use Rattle.spec_exi.specs.Tables.{local, partitions_of, literal, eq_form, hit_or, form_of, laid, added}
use Rattle.spec_exi.specs.Tables.{tables_after, name_allowed, text_allowed}
use Rattle.spec_exi.specs.Lists.{within_tables}
use Rattle.mem_chain.specs.Chain.{first_that}
use Rattle.mem_layout.specs.Layout.{opening_names}
use Rattle.mem_entries.specs.Texts.{hash_of}
use Rattle.mem_entries.proofs.Texts.{one_store}
use Rattle.mem_entries.specs.Entries.{Entries}
use Rattle.mem_names.specs.Uris.{uri_text}
use Rattle.mem_names.specs.Names.{is_entry, name_store, FoundName}
use Rattle.mem_names.proofs.Joined.{names-longer}
use Rattle.mem_names.proofs.Tables.{number_from}
use Rattle.mem_rows.specs.Rows.{Rows, tables_of, with_name}
use Rattle.mem_rows.proofs.Joins.{name-joins}
use Rattle.mem_rows.proofs.Grown.{name-grows}
use Rattle.mem_rows.proofs.Within.{names-count, within-local}
use Rattle.mem_rows.proofs.Forms.{name-fresh}
use Rattle.name_rules.proofs.Laws.{element-allowed}
use Rattle.read_literal.specs.View as seen
use Rattle.read_literal.specs.Literal.{laid_at, LiteralRead}
use Rattle.read_partition.specs.Strings.{refused_as, literal_as, Tabled}
use Rattle.read_partition.proofs.Steps.{judge-loose, judge-name, judge-limit}
use Rattle.read_partition.proofs.Posts.{literal-refused, literal-judged, Passes, literal-passed}
use Rattle.read_names.specs.Names.{NamePre, NameRows, name_role, as_new_name, NamePost}
use Rattle.read_partition.proofs.Literals.{TextLaid, laid-found, store-grown, store-fits, lies_grown}
use Rattle.read_partition.proofs.Literals.{text-laid}
use Rattle.read_names.proofs.Meaning.{count-is, form-of}

-- ---- the form by what a search answers

absent-form : (ns : Entries) (uri r : ℕ) → r ≡ 0
    → eq_form literal (hit_or 0 (number_from ns uri r) literal) ≡ true
unfolding number_from hit_or eq_form
absent-form ns uri r z = rw z

present-form : (ns : Entries) (uri r : ℕ) → (r ≡ 0 → ⊥)
    → eq_form literal (hit_or 0 (number_from ns uri r) literal) ≡ false
unfolding number_from hit_or eq_form
present-form ns uri zero ne = absurd (ne refl)
present-form ns uri (suc g) ne = refl

module _ {text : List ℕ} {stored : ℕ} {w : Rows} {store : Text} (t : Tabled text stored w store)
    {work : List ℕ} {names uri place size : ℕ}
    (p : NameRows work text stored names uri place size w)
    {n : ℕ} {text' : List ℕ} {x : Text} (d : TextLaid text stored n text' x) (attr : Bool) where
  -- Whether it is allowed, as it was tested.
  allowed-is : name_allowed (local attr (part text' (record { place = place; size = size })))
      (part text' (record { place = stored; size = n }))
      ≡ name_allowed (name_role attr uri w) x
  allowed-is =
      ap (λ u. name_allowed (local attr u) (part text' (record { place = stored; size = n })))
      (lies_grown (store-grown d) p.lies)
      ∙ ap (name_allowed (name_role attr uri w)) (laid-found d)

  within-is : within_tables sizes (added (tables_of w store) (name_role attr uri w) x)
      ≡ ltb names max_names
  within-is =
      within-local (tables_of w store) x t.within (store-fits d t) attr (uri_text w.uris uri)
      ∙ ap (λ m. ltb m max_names) (names-count w store ∙ count-is t p)

  module _ {hash row : ℕ} (is : hash ≡ hash_of (part text' (record { place = stored; size = n })))
      (s : FoundName work (name_store text' text') uri
      (part text' (record { place = stored; size = n })) hash names row) where
    -- The answer of the search.
    row_is : row ≡ first_that (is_entry w.names uri x) names
    row_is =
        let e = laid-found d in
        let f : FoundName work (name_store text' text') uri x hash names row =
        subst (λ y. FoundName work (name_store text' text') uri y hash names row) e s in
        f.means _ w.names (names-longer (store-grown d) p.hold)
        (one_store opening_names text') (is ∙ ap hash_of e)

    absent-strict : row ≡ 0
        → eq_form literal (form_of (partitions_of (tables_of w store) (name_role attr uri w)) x) ≡ true
    absent-strict z =
        ap (eq_form literal) (form-of t p attr x row row_is)
        ∙ absent-form w.names uri row z

    present-loose : (row ≡ 0 → ⊥)
        → eq_form literal (form_of (partitions_of (tables_of w store) (name_role attr uri w)) x) ≡ false
    present-loose ne =
        ap (eq_form literal) (form-of t p attr x row row_is)
        ∙ present-form w.names uri row ne

    new-passes : row ≡ 0 → name_allowed (name_role attr uri w) x ≡ true → names < max_names
        → Passes (λ w y. with_name w uri y) (name_role attr uri w) w store x true
    unfolding text_allowed laid tables_of
    new-passes z ok h =
        record {
          whole = refl;
          strict = absent-strict z;
          allowed = ok;
          within = within-is ∙ lt-ltb names max_names h;
          stays = λ j. absurd (true≢false j);
          joined = λ _. name-joins w t.valid.refers store x attr uri;
          valid = λ _.
              name-grows t.valid uri _ p.row
              (name-fresh t.valid uri p.row x row
              (row_is ∙ ap (first_that (is_entry w.names uri x)) (sym (count-is t p))) z)
              (element-allowed attr (uri_text w.uris uri) x ok);
        }

-- ---- by what `read_literal`, `seek_name` and `allowed` answer

module _ {stream : List ℕ} {at : ℕ} {text : List ℕ} {stored : ℕ} {work : List ℕ}
    {names uri n : ℕ} {text' : List ℕ} {l : seen.Literal}
    (fit : NamePre stream at text stored work names uri)
    (r : LiteralRead stream at text stored n text' l) (attr : Bool) {place size : ℕ} where
  pub new-refused : (l.number ≡ 0 → ⊥) → {a : Alignment}
      → NamePost a attr (as_new_name n) stream at text stored work names uri place size text'
      (refused_as l.number l.next l.left stored)
  new-refused ne = literal-refused (name_role attr uri) r (omega arith)

  module _ (z : l.number ≡ 0) {row : ℕ} (s : FoundName work (name_store text' text') uri
      (part text' (record { place = stored; size = n })) l.hash names row) where
    pub new-loose : (row ≡ 0 → ⊥) → {text'' : List ℕ}
        → text'' ≡ laid_at text' stored (replicate n 0) → {a : Alignment}
        → NamePost a attr (as_new_name n) stream at text stored work names uri place size text''
        (refused_as (number_of loose) l.next 0 stored)
    unfolding laid number_of text_allowed
    new-loose ne c =
        literal-judged (name_role attr uri) r z fit.literal.room (number_of loose)
        (omega arith) c
        (λ w store t p x e f.
        let d = text-laid fit.literal r z x e f in
        judge-loose (tables_of w store) (name_role attr uri w) (literal, laid (tables_of w store) x) refl
        (present-loose t p d attr (r.hashed.is z) s ne))

    module _ (absent : row ≡ 0) {b : Bool}
        (tested : b ≡ name_allowed (local attr (part text' (record { place = place; size = size })))
        (part text' (record { place = stored; size = n }))) where
      pub new-forbidden : b ≡ false → {text'' : List ℕ}
          → text'' ≡ laid_at text' stored (replicate n 0) → {a : Alignment}
          → NamePost a attr (as_new_name n) stream at text stored work names uri place size text''
          (refused_as (number_of name) l.next 0 stored)
      unfolding laid number_of text_allowed
      new-forbidden not-ok c =
          literal-judged (name_role attr uri) r z fit.literal.room (number_of name)
          (omega arith) c
          (λ w store t p x e f.
          let d = text-laid fit.literal r z x e f in
          judge-name (tables_of w store) (name_role attr uri w)
          (literal, laid (tables_of w store) x) refl
          (absent-strict t p d attr (r.hashed.is z) s absent)
          (sym (allowed-is t p d attr) ∙ sym tested ∙ not-ok))

      module _ (ok : b ≡ true) where
        pub new-full : max_names ≤ names → {text'' : List ℕ}
            → text'' ≡ laid_at text' stored (replicate n 0) → {a : Alignment}
            → NamePost a attr (as_new_name n) stream at text stored work names uri place size text''
            (refused_as (number_of limit) l.next 0 stored)
        unfolding laid number_of text_allowed tables_after
        new-full h c =
            literal-judged (name_role attr uri) r z fit.literal.room (number_of limit)
            (omega arith) c
            (λ w store t p x e f.
            let d = text-laid fit.literal r z x e f in
            judge-limit (tables_of w store) (name_role attr uri w)
            (literal, laid (tables_of w store) x) refl
            (absent-strict t p d attr (r.hashed.is z) s absent)
            (sym (allowed-is t p d attr) ∙ sym tested ∙ ok)
            (within-is t p d attr ∙ le-ltb names max_names h))

        pub new-joins : names < max_names → {a : Alignment}
            → NamePost a attr (as_new_name n) stream at text stored work names uri place size text'
            (literal_as l.next stored n names true l.hash)
        new-joins h =
            literal-passed (name_role attr uri) r z fit.literal.room names true l.hash
            (λ w store t p x e f.
            let d = text-laid fit.literal r z x e f in
            new-passes t p d attr (r.hashed.is z) s absent
            (sym (allowed-is t p d attr) ∙ sym tested ∙ ok) h)
