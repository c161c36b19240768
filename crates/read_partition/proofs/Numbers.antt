-- A string by partitions for literals (EXI 7.3.3): its number, then a hit in a partition or a literal.
use Prim.Native.Nat.{ℕ, ◌*◌, ◌-◌, ◌≤◌, ◌<◌}
use native.Mathlib.Omega.{arith}
use mathlib.Core.Path.{◌≡◌, refl, sym, ap, subst, ◌∙◌}
use mathlib.Core.List.{List}
use mathlib.Core.Option.{none, some}
use lib.ListN.{length, get_elem?}
use Rattle.spec_fields.specs.Parser.{Parser}
use Rattle.spec_fields.specs.Field.{Alignment, unsigned}
use Rattle.text.specs.Text.{Text}
use Rattle.spec_exi.specs.Settings.{Settings}
use Rattle.spec_exi.specs.Sizes.{sizes, max_store}
use Rattle.spec_exi.specs.Tables.{Placed, Slot, Tables, Role, literals, partitions_of}
use Rattle.mem_rows.specs.Rows.{Rows, tables_of}
use Rattle.read_field.specs.View.{Seen, Value, Refused, field_at}
use Rattle.read_contract.specs.Outcome.{Declined, Gotten, Outcome}
use Rattle.read_contract.proofs.Outcome.{declined-number, refused-declined, unsigned-gotten}
use Rattle.read_partition.specs.View.{StringRead}
use Rattle.read_partition.specs.Strings.{refused_as, Tabled, as_string, as_hit, as_literal, StringPost}
use Rattle.read_partition.proofs.Steps.{Comes, comes-declined, comes-gotten, number-refused, hit-comes}
use Rattle.read_partition.proofs.Steps.{literal-comes, hit-waits, literal-waits}
use Rattle.read_partition.proofs.Posts.{post-refused}

outcome-comes : {A : Type 0} {p p' : Parser A} {stream : List ℕ} {at q : ℕ} → Comes p stream at p' q
    → {k n : ℕ} {good : A → Type 0} → Outcome p' stream q k n good → Outcome p stream at k n good
outcome-comes c o =
    record {
      refused = λ h. comes-declined c (o.refused h);
      read = λ z. comes-gotten c (o.read z);
      is = o.is;
    }

-- The partitions of a role over the tables of rows.
pub record Parted (role : Rows → Role) (ess : Rows → Text → List (List Slot)) : Type 0 where
  pub are : (w : Rows) (store : Text) → partitions_of (tables_of w store) (role w) ≡ literals (ess w store)

module _ {a : Alignment} {Premise : Rows → Type 0} {role : Rows → Role} {ess : Rows → Text → List (List Slot)}
    (e : Parted role ess)
    {join : Rows → Placed → Rows} {stream : List ℕ} {at : ℕ} {text : List ℕ} {stored : ℕ} (l : at ≤ 8 * length stream)
    {f : Seen}
    (answer : f ≡ field_at unsigned stream at) where
  pub post-number : stored ≤ max_store → {k : ℕ} → f ≡ Refused k
      → StringPost a Premise (λ w store. as_string (role w)) join stream at text stored text (refused_as k at 0 stored)
  post-number few {k} z =
      let d = refused-declined unsigned stream at (sym answer ∙ z) in
      post-refused k at (declined-number d) l few
      (λ s b w store t p. number-refused s (tables_of w store) (role w) (e.are w store) stream at d)

  module _ {v q : ℕ} (z : f ≡ Value v q) {text' : List ℕ} {r : StringRead} where
    -- A hit in the partition of the number.
    pub post-number-hit : (es : Rows → Text → List Slot)
        → ((w : Rows) (store : Text) → get_elem? (ess w store) v ≡ some (es w store))
        → StringPost a Premise (λ w store. as_hit (role w) v (es w store)) join stream q text stored text' r
        → StringPost a Premise (λ w store. as_string (role w)) join stream at text stored text' r
    post-number-hit es o p =
        let g = unsigned-gotten stream at l (sym answer ∙ z) in
        record {
          inside = p.inside;
          refused = p.refused;
          laid = p.laid;
          meant = λ s b w store t h.
              outcome-comes (hit-comes s (tables_of w store) (role w) (e.are w store) stream at g (o w store))
              (p.meant s b w store t h);
          waits = λ y s b w store t h.
              hit-waits s (tables_of w store) (role w) (e.are w store) stream at g (o w store)
              (p.waits y s b w store t h);
        }

    -- No partition has it: a literal.
    pub post-number-literal : (k : ℕ) → ((w : Rows) (store : Text) → length (ess w store) ≡ k)
        → ((w : Rows) (store : Text) → get_elem? (ess w store) v ≡ none)
        → StringPost a Premise (λ w store. as_literal (role w) (v - k)) join stream q text stored text' r
        → StringPost a Premise (λ w store. as_string (role w)) join stream at text stored text' r
    post-number-literal k size o p =
        let g = unsigned-gotten stream at l (sym answer ∙ z) in
        record {
          inside = p.inside;
          refused = p.refused;
          laid = p.laid;
          meant = λ s b w store t h.
              outcome-comes (literal-comes s (tables_of w store) (role w) (e.are w store) stream at g (o w store))
              (rw (size w store) (p.meant s b w store t h));
          waits = λ y s b w store t h.
              literal-waits s (tables_of w store) (role w) (e.are w store) stream at g (o w store)
              (rw (size w store) (p.waits y s b w store t h));
        }
