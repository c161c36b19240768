-- Strings by no table.
use Prim.Native.Nat.{ℕ, ◌+◌, ◌-◌, ◌≤◌}
use native.Mathlib.Omega.{arith}
use mathlib.Core.Path.{◌≡◌, refl, sym, ap, subst, ◌∙◌}
use mathlib.Core.Bool.{true, false, true≢false}
use mathlib.Core.List.{List, []}
use lib.ListN.{length, replicate}
use Rattle.spec_fields.specs.Field.{unsigned}
use Rattle.spec_fields.proofs.Tests.{split}
use Rattle.text.specs.Text.{Text, part}
use Rattle.spec_exi.specs.Sizes.{max_store}
use Rattle.spec_exi.specs.Tables.{Tables, Role, partitions_of, literal, eq_form, first_hit, form_of}
use Rattle.spec_exi.specs.Tables.{laid, name_allowed, text_allowed}
use Rattle.mem_rows.specs.Rows.{Rows, tables_of}
use Rattle.mem_rows.proofs.Joins.{nothing-joins}
use Rattle.mem_rows.proofs.Within.{within_none}
use Rattle.name_rules.specs.declared.Role as code
use Rattle.name_rules.specs.Texts.{role_in, fault_of}
use Rattle.name_rules.proofs.Texts.{Alone, alone-in, fault-text, fault-name, fault-none, fault-passed}
use Rattle.read_field.specs.View.{Seen, Value, Refused, field_at}
use Rattle.read_contract.specs.Outcome.{Declined}
use Rattle.read_literal.specs.View as seen
use Rattle.read_literal.specs.Literal.{laid_at, LiteralPre, LiteralRead}
use Rattle.read_partition.specs.View.{StringRead}
use Rattle.read_partition.specs.Strings.{refused_as, literal_as, Tabled, judge, as_string, as_literal}
use Rattle.read_partition.specs.Strings.{StringPost}
use Rattle.read_partition.proofs.Steps.{judge-character, judge-name}
use Rattle.read_partition.proofs.Posts.{Passes, literal-refused, literal-judged, literal-passed}
use Rattle.read_partition.proofs.Numbers.{Parted, post-number, post-number-literal}
use Rattle.read_values.specs.Texts.{TextPost}
use Rattle.read_partition.proofs.Literals.{laid-found}

-- ---- a literal of a role that has no table

module _ {role : Role} (k : Alone role) where
  text-strict : (t : Tables) (x : Text) → eq_form literal (form_of (partitions_of t role) x) ≡ true
  unfolding form_of first_hit eq_form
  text-strict t x = rw (k.parts t)

  text-passes : {text : List ℕ} {stored n : ℕ} (w : Rows) (store : Text)
      → Tabled text stored w store → (x : Text) → length x ≡ n → stored + n ≤ max_store
      → fault_of role x ≡ 0 → Passes (λ w y. w) role w store x false
  unfolding tables_of
  text-passes w store t x e h z =
      let p = fault-passed role x z in
      let y = laid (tables_of w store) x in
      record {
        whole = p.text;
        strict = text-strict (tables_of w store) x;
        allowed = p.name;
        within = within_none (tables_of w store) x t.within (omega (arith, t.size)) role
            (k.uris y) (k.names y) (k.values _ y);
        stays = λ _. nothing-joins w store x role (k.uris y) (k.names y) (k.values _ y);
        joined = λ j. absurd (true≢false (sym j));
        valid = λ j. absurd (true≢false (sym j));
      }

  text-declined : (t : Tables) (x : Text) (stream : List ℕ) (at : ℕ) → (fault_of role x ≡ 0 → ⊥)
      → Declined (judge t role (literal, laid t x)) stream at (fault_of role x)
  unfolding laid
  text-declined t x stream at ne =
      split (text_allowed role x)
      (λ a. split (name_allowed role x)
      (λ b. absurd (ne (fault-none role x a b)))
      (λ b. rw (fault-name role x a b)
      (judge-name t role (literal, laid t x) a (text-strict t x) b)))
      (λ a. rw (fault-text role x a) (judge-character t role (literal, laid t x) a))

module _ {stream : List ℕ} {at : ℕ} {text : List ℕ} {stored n : ℕ} {text' : List ℕ}
    {l : seen.Literal} (fit : LiteralPre stream at text stored)
    (r : LiteralRead stream at text stored n text' l) (kind : code.Role) where
  abbrev role : Role
  role = role_in kind

  pub text-cut : (l.number ≡ 0 → ⊥)
      → TextPost (as_literal role n) stream at text stored text'
      (refused_as l.number l.next l.left stored)
  text-cut ne a = literal-refused (λ w. role) r (omega arith)

  module _ (z : l.number ≡ 0) where
    -- What it was judged by.
    laid-is : (x : Text) → length x ≡ n → text' ≡ laid_at text stored x
        → part text' (record { place = stored; size = n }) ≡ x
    laid-is x e f =
        laid-found (record { size = e; text-is = f; ends = r.ends z; room = fit.room })

    module _ {k : ℕ}
        (tested : k ≡ fault_of role (part text' (record { place = stored; size = n }))) where
      pub text-refused : (k ≡ 0 → ⊥) → {text'' : List ℕ}
          → text'' ≡ laid_at text' stored (replicate n 0)
          → TextPost (as_literal role n) stream at text stored text'' (refused_as k l.next 0 stored)
      text-refused ne c a =
          literal-judged (λ w. role) r z fit.room k (omega arith) c
          (λ w store t p x e f.
          let same : fault_of role x ≡ k = ap (fault_of role) (sym (laid-is x e f)) ∙ sym tested in
          subst (Declined (judge (tables_of w store) role (literal, laid (tables_of w store) x))
          stream l.next) same
          (text-declined (alone-in kind) (tables_of w store) x stream l.next
          (λ y. ne (sym same ∙ y))))

      pub text-laid : k ≡ 0
          → TextPost (as_literal role n) stream at text stored text'
          (literal_as l.next stored n 0 false 0)
      text-laid y a =
          literal-passed (λ w. role) r z fit.room 0 false 0
          (λ w store t p x e f.
          text-passes (alone-in kind) w store t x e (r.ends z)
          (ap (fault_of role) (sym (laid-is x e f)) ∙ sym tested ∙ y))

-- ---- its number

module _ {stream : List ℕ} {at : ℕ} {text : List ℕ} {stored : ℕ}
    (fit : LiteralPre stream at text stored) {f : Seen}
    (answer : f ≡ field_at unsigned stream at) (kind : code.Role) where
  parted : Parted (λ w. role_in kind) (λ w store. [])
  parted = record { are = λ w store. (alone-in kind).parts (tables_of w store) }

  pub number-refused : {k : ℕ} → f ≡ Refused k
      → TextPost (as_string (role_in kind)) stream at text stored text (refused_as k at 0 stored)
  number-refused z a = post-number parted fit.place answer fit.few z

  pub number_read : {v q : ℕ} → f ≡ Value v q → {text' : List ℕ} {r : StringRead}
      → TextPost (as_literal (role_in kind) v) stream q text stored text' r
      → TextPost (as_string (role_in kind)) stream at text stored text' r
  number_read {v} {q} z {text'} {r} p a =
      post-number-literal parted fit.place answer z 0 (λ w store. refl) (λ w store. refl)
      (let y : v - 0 ≡ v = omega arith in
      subst (λ n. StringPost a (λ w. Unit {0}) (λ w store. as_literal (role_in kind) n)
      (λ w x. w) stream q text stored text' r) (sym y) (p a))
