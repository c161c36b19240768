-- A string of the definitions, step by step: its form, then CHARACTER, LOOSE, NAME and its table's limit.
use Prim.Native.Nat.{ℕ, ◌-◌, ◌≤◌}
use native.Mathlib.Nat.{le_trans}
use mathlib.Core.Path.{◌≡◌, refl, ap, ◌∙◌}
use mathlib.Core.Bool.{true, false}
use mathlib.Core.List.{List, ◌++◌}
use mathlib.Core.Option.{none, some}
use lib.ListN.{length, drop, get_elem?}
use Rattle.spec_fields.specs.Bits.{Bits, unpack}
use Rattle.spec_fields.specs.Refusal.{number_of, character, loose, name, limit}
use Rattle.spec_fields.specs.Parser.{got, Parser, return, and_then, ◌>>=◌}
use Rattle.spec_fields.specs.Field.{unsigned}
use Rattle.spec_fields.proofs.Steady.{steady-unsigned}
use Rattle.spec_exi.specs.Settings.{Settings}
use Rattle.spec_exi.specs.Sizes.{sizes}
use Rattle.spec_exi.specs.Tables.{Placed, Slot, Tables, Role, literals, partitions_of}
use Rattle.spec_exi.specs.Tables.{Form, eq_form, form_of, tables_after, name_allowed}
use Rattle.spec_exi.specs.Tables.{text_allowed}
use Rattle.spec_exi.specs.Lists.{within_tables}
use Rattle.spec_exi.specs.Reader.{read_character, read_literal, read_hit, read_in, read_by_literals}
use Rattle.spec_exi.specs.Reader.{read_form, read_string}
use Rattle.read_contract.specs.Outcome.{Declined, Gotten}
use Rattle.read_contract.proofs.Outcome.{declined-as, declined-then}
use Rattle.read_contract.proofs.Outcome.{need-declined, need-true}
use Rattle.read_partition.specs.Strings.{judge}
use Rattle.read_literal.specs.Awaits.{Waits}

-- ---- after the form

pub judge-got : (t : Tables) (r : Role) (v : Form × Placed) → text_allowed r v.1.text ≡ true
    → eq_form v.0 (form_of (partitions_of t r) v.1.text) ≡ true
    → name_allowed r v.1.text ≡ true → within_tables sizes (tables_after t r v.0 v.1.text) ≡ true
    → (bs : Bits) → judge t r v bs ≡ got (v.1, tables_after t r v.0 v.1.text) bs
unfolding judge return
judge-got t r v x a b c bs =
    need-true _ character _ _ x ∙ need-true _ loose _ _ a ∙ need-true _ name _ _ b ∙ need-true _ limit _ _ c

module _ (t : Tables) (r : Role) (v : Form × Placed) {stream : List ℕ} {at : ℕ} where
  pub judge-character : text_allowed r v.1.text ≡ false → Declined (judge t r v) stream at (number_of character)
  unfolding judge
  judge-character e = need-declined _ character _ e

  module _ (whole : text_allowed r v.1.text ≡ true) where
    pub judge-loose : eq_form v.0 (form_of (partitions_of t r) v.1.text) ≡ false
        → Declined (judge t r v) stream at (number_of loose)
    unfolding judge
    judge-loose e = declined-as (need-true _ character _ _ whole) (need-declined _ loose _ e)

    module _ (strict : eq_form v.0 (form_of (partitions_of t r) v.1.text) ≡ true) where
      pub judge-name : name_allowed r v.1.text ≡ false → Declined (judge t r v) stream at (number_of name)
      unfolding judge
      judge-name e =
          declined-as (need-true _ character _ _ whole ∙ need-true _ loose _ _ strict) (need-declined _ name _ e)

      module _ (named : name_allowed r v.1.text ≡ true) where
        pub judge-limit : within_tables sizes (tables_after t r v.0 v.1.text) ≡ false
            → Declined (judge t r v) stream at (number_of limit)
        unfolding judge
        judge-limit e =
            declined-as (need-true _ character _ _ whole ∙ need-true _ loose _ _ strict ∙ need-true _ name _ _ named)
            (need-declined _ limit _ e)

-- ---- a parser that comes to another further on

-- At `at` p does what p' does at q.
pub record Comes {A : Type 0} (p : Parser A) (stream : List ℕ) (at : ℕ) (p' : Parser A) (q : ℕ) : Type 0 where
  pub after : at ≤ q
  pub is : p (drop at (unpack stream)) ≡ p' (drop q (unpack stream))

module _ {A : Type 0} {p p' : Parser A} {stream : List ℕ} {at q : ℕ} (c : Comes p stream at p' q) where
  pub comes-declined : {k : ℕ} → Declined p' stream q k → Declined p stream at k
  comes-declined d = record { refusal = d.refusal; result = c.is ∙ d.result; is = d.is }

  abbrev pub comes-gotten : {z : ℕ} → Gotten p' stream q z → Gotten p stream at z
  comes-gotten g =
      record {
        value = g.value;
        result = c.is ∙ g.result;
        after = le_trans c.after g.after;
        inside = g.inside;
      }

-- ---- a string, by partitions for literals (EXI 7.3.3)

by_form : (s : Settings) (t : Tables) (r : Role) (bs : Bits)
    → read_string sizes s t r bs ≡ (read_form sizes s t (partitions_of t r) >>= judge t r) bs
unfolding read_string judge
by_form s t r bs = refl

literal-on : (s : Settings) (t : Tables) (r : Role) (ess : List (List Slot)) (v : ℕ) (bs : Bits) {rest : Bits}
    → unsigned bs ≡ got v rest
    → get_elem? ess v ≡ none
    → (read_form sizes s t (literals ess) >>= judge t r) bs ≡ (read_literal sizes s t (v - length ess) >>= judge t r) rest
unfolding read_form read_by_literals read_in ◌>>=◌ and_then
literal-on s t r ess v bs n o = rw (n, o)

hit-on : (s : Settings) (t : Tables) (r : Role) (ess : List (List Slot)) (v : ℕ) (bs : Bits) {rest : Bits}
    → unsigned bs ≡ got v rest
    → {es : List Slot} → get_elem? ess v ≡ some es
    → (read_form sizes s t (literals ess) >>= judge t r) bs ≡ (read_hit sizes s v es >>= judge t r) rest
unfolding read_form read_by_literals read_in ◌>>=◌ and_then
hit-on s t r ess v bs n o = rw (n, o)

module _ (s : Settings) (t : Tables) (r : Role) {ess : List (List Slot)} (e : partitions_of t r ≡ literals ess)
    (stream : List ℕ)
    (at : ℕ) where
  at-form : read_string sizes s t r (drop at (unpack stream))
      ≡ (read_form sizes s t (literals ess) >>= judge t r) (drop at (unpack stream))
  at-form =
      by_form s t r (drop at (unpack stream))
      ∙ ap (λ ps. (read_form sizes s t ps >>= judge t r) (drop at (unpack stream))) e

  -- The number before it is refused.
  pub number-refused : {k : ℕ} → Declined unsigned stream at k → Declined (read_string sizes s t r) stream at k
  unfolding read_string read_form read_by_literals
  number-refused d = rw e (declined-then _ (declined-then _ d))

  module _ {q : ℕ} (g : Gotten unsigned stream at q) where
    -- A partition has this number: a hit in it.
    pub hit-comes : {es : List Slot} → get_elem? ess g.value ≡ some es
        → Comes (read_string sizes s t r) stream at (read_hit sizes s g.value es >>= judge t r) q
    hit-comes o =
        record { after = g.after; is = at-form ∙ hit-on s t r ess g.value (drop at (unpack stream)) g.result o }

    -- No partition has it: it is a literal's length, raised by their count.
    pub literal-comes : get_elem? ess g.value ≡ none
        → Comes (read_string sizes s t r) stream at (read_literal sizes s t (g.value - length ess) >>= judge t r) q
    literal-comes o =
        record {
          after = g.after;
          is = at-form ∙ literal-on s t r ess g.value (drop at (unpack stream)) g.result o;
        }

    -- And it waits as that does, whatever bits follow.
    number-waits : (p : Parser (Placed × Tables)) → ((bs rest : Bits) → unsigned bs ≡ got g.value rest
        → (read_form sizes s t (literals ess) >>= judge t r) bs ≡ p rest)
        → {next n : ℕ} → Waits (read_character s) p stream q next n
        → Waits (read_character s) (read_string sizes s t r) stream at next n
    number-waits p on w =
        record {
          after = le_trans g.after w.after;
          inside = w.inside;
          comes = record {
            onward = w.comes.onward;
            comes = λ more.
                by_form s t r (drop at (unpack stream) ++ more)
                ∙ ap (λ ps. (read_form sizes s t ps >>= judge t r) (drop at (unpack stream) ++ more)) e
                ∙ on (drop at (unpack stream) ++ more) (drop q (unpack stream) ++ more)
                (steady-unsigned.reads (drop at (unpack stream)) g.value (drop q (unpack stream)) more g.result)
                ∙ w.comes.comes more;
          };
        }

    pub hit-waits : {next n : ℕ} {es : List Slot} → get_elem? ess g.value ≡ some es
        → Waits (read_character s) (read_hit sizes s g.value es >>= judge t r) stream q next n
        → Waits (read_character s) (read_string sizes s t r) stream at next n
    hit-waits {es = es} o w =
        number-waits (read_hit sizes s g.value es >>= judge t r) (λ bs rest n. hit-on s t r ess g.value bs n o) w

    pub literal-waits : {next n : ℕ} → get_elem? ess g.value ≡ none
        → Waits (read_character s) (read_literal sizes s t (g.value - length ess) >>= judge t r) stream q next n
        → Waits (read_character s) (read_string sizes s t r) stream at next n
    literal-waits o w =
        number-waits (read_literal sizes s t (g.value - length ess) >>= judge t r)
        (λ bs rest n. literal-on s t r ess g.value bs n o) w
