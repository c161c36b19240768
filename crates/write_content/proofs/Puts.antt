-- The content of an event, written string by string.
use Prim.Native.Nat.{ℕ, ◌+◌, ◌*◌, ◌≤◌}
use native.Mathlib.Omega.{arith}
use mathlib.Core.Path.{◌≡◌, sym, subst}
use mathlib.Core.Bool.{Bool, true, false}
use mathlib.Core.List.{List, []}
use lib.ListN.{length}
use lib.Dec.{T}
use Rattle.spec_fields.specs.Field.{Alignment}
use Rattle.spec_fields.proofs.Tests.{is_t}
use Rattle.text.specs.Text.{Text, all_chars, part}
use Rattle.event.specs.declared.Part.{Part}
use Rattle.event.specs.declared.Event as declared
use Rattle.event.specs.declared.Event.TheVariants.{StartElement, Attribute, Characters, Comment}
use Rattle.event.specs.declared.Event.TheVariants.{Instruction}
use Rattle.event.specs.Cells.{as_span}
use Rattle.spec_exi.specs.Sizes.{max_string}
use Rattle.spec_exi.specs.Tables.{string_bits}
use Rattle.mem_state.specs.declared.Core.{Core}
use Rattle.mem_state.specs.declared.Strings.{Strings}
use Rattle.write_field.specs.Written.{blank_from, farthest, Put}
use Rattle.write_field.proofs.Written.{put-blank, put_then}
use Rattle.write_string.specs.Fits.{PutStringPre, max_string_bits}
use Rattle.write_partition.specs.Writable.{Written}
use Rattle.write_partition.proofs.Strings.{string-length}
use Rattle.write_values.specs.Values.{value_bits, PutValuePre}
use Rattle.write_qname.specs.Premise.{part_at}
use Rattle.write_qname.specs.Qnames.{qname_bits}
use Rattle.write_qname.proofs.Puts.{qname-length}
use Rattle.write_content.specs.Answer.{ContentAnswer}
use Rattle.write_content.specs.Writing.{named_bits, valued_bits, contentBits}
use Rattle.write_content.specs.Writing.{NamePuttable, ValuePuttable, Puttable, PutNamedPre}
use Rattle.write_content.specs.Writing.{PutValuedPre, PutTextPre, PutContentPre}

-- ---- a name

module _ {stream : List ℕ} {at : ℕ} {uri local : Part} {c : Core} {s : Strings}
    {text work : List ℕ} (h : PutNamedPre stream at uri local c s text work) where
  pub carried-put : (a : Alignment) {carried : Bool} → carried ≡ true → {after : List ℕ} {r : ℕ}
      → Put stream at [] after r
      → Put stream at (named_bits work carried c s (part_at text uri) (part_at text local) a) after r
  unfolding named_bits
  carried-put a e p = rw e p

  pub written-put : (a : Alignment) {carried : Bool} → carried ≡ false → {after : List ℕ} {r : ℕ}
      → Put stream at (qname_bits work c s (part_at text uri) (part_at text local) a) after r
      → Put stream at (named_bits work carried c s (part_at text uri) (part_at text local) a) after r
  unfolding named_bits
  written-put a e p = rw e p

  pub named-length : (a : Alignment) (carried : Bool)
      → length (named_bits work carried c s (part_at text uri) (part_at text local) a)
      ≤ 2 * max_string_bits
  unfolding named_bits
  named-length a true = omega arith
  named-length a false = qname-length h.known a

-- ---- a value

module _ {stream : List ℕ} {at : ℕ} {value : Part} {c : Core} {x : ContentAnswer} {text work : List ℕ}
    (h : PutValuedPre stream at value c x text work) {y : Text}
    (look : y ≡ part text (record { place = value.place; size = value.size })) where
  pub value-put-asks :
      PutValuePre stream at x.partition x.strings.owner c.values y work
  unfolding as_span
  value-put-asks =
      record {
        blank = h.blank;
        near = h.near;
        room = h.room;
        low = h.low;
        few = h.few;
        literal = λ f g. subst Written (sym look) (h.puttable.literal f g);
      }

  pub value-put : (a : Alignment) {after : List ℕ} {r : ℕ}
      → Put stream at (value_bits work x.partition x.id x.strings.owner c.values c.capacity y a)
      after r
      → Put stream at (valued_bits work c x (part_at text value) a) after r
  unfolding valued_bits as_span
  value-put a {after} {r} p =
      subst
      (λ t. Put stream at
      (value_bits work x.partition x.id x.strings.owner c.values c.capacity t a) after r) look p

-- ---- a text

module _ {stream : List ℕ} {at : ℕ} {x : Part} {text : List ℕ} (h : PutTextPre stream at x text)
    {y : Text}
    (look : y ≡ part text (record { place = x.place; size = x.size })) where
  pub text-put-asks : PutStringPre stream at 0 y
  unfolding as_span max_string
  text-put-asks =
      let w = subst Written (sym look) h.written in
      record {
        blank = h.blank;
        near = omega (arith, h.near, w.short);
        few = omega arith;
        small = w.short;
        chars = is_t (all_chars y) w.chars;
      }

  pub text-put : {after : List ℕ} {r : ℕ} → Put stream at (string_bits 0 y) after r
      → Put stream at (string_bits 0 (part_at text x)) after r
  unfolding as_span
  text-put {after} {r} p = subst (λ t. Put stream at (string_bits 0 t) after r) look p

-- ---- all strings

module _ {stream : List ℕ} {at : ℕ} {e : declared.Event} {c : Core} {x : ContentAnswer}
    {text work : List ℕ} (h : PutContentPre stream at e c x text work) where
  pub named-asks : {uri local : Part}
      → NamePuttable c x.strings (part_at text uri) (part_at text local)
      → PutNamedPre stream at uri local c x.strings text work
  named-asks p =
      record {
        known = record {
          blank = h.blank;
          near = omega (arith, h.near);
          room = h.room;
          few = h.few;
          old = p.old;
          uri-low = h.uri-low;
          name-low = h.name-low;
          new-uri = p.new-uri;
          new-name = p.new-name;
        };
      }

  pub valued-asks : {mid : List ℕ} {next : ℕ} → T (blank_from mid next)
      → next + max_string_bits ≤ farthest → {v : Part} → ValuePuttable x (part_at text v)
      → PutValuedPre mid next v c x text work
  valued-asks b n p =
      record {
        blank = b;
        near = n;
        room = h.room;
        low = h.owner-low;
        few = h.few-values;
        puttable = p;
      }

-- By its kind.
pub of-kind : {stream : List ℕ} {at : ℕ} {e f : declared.Event} {c : Core} {x : ContentAnswer}
    {text work : List ℕ} → e ≡ f → PutContentPre stream at e c x text work
    → PutContentPre stream at f c x text work
of-kind {stream} {at} {c = c} {x = x} {text = text} {work = work} k h =
    subst (λ e. PutContentPre stream at e c x text work) k h

module _ {stream : List ℕ} {at : ℕ} {uri local : Part} {c : Core} {x : ContentAnswer}
    {text work : List ℕ} (h : PutContentPre stream at (StartElement uri local) c x text work) where
  pub element-asks : PutNamedPre stream at uri local c x.strings text work
  unfolding Puttable
  element-asks = named-asks h h.puttable

module _ {stream : List ℕ} {at : ℕ} {v : Part} {c : Core} {x : ContentAnswer} {text work : List ℕ} where
  pub characters-asks : PutContentPre stream at (Characters v) c x text work
      → PutValuedPre stream at v c x text work
  unfolding Puttable
  characters-asks h = valued-asks h h.blank (omega (arith, h.near)) h.puttable

  pub comment-asks : PutContentPre stream at (Comment v) c x text work → PutTextPre stream at v text
  unfolding Puttable
  comment-asks h =
      record { blank = h.blank; near = omega (arith, h.near); written = h.puttable }

module _ {stream : List ℕ} {at : ℕ} {uri local v : Part} {c : Core} {x : ContentAnswer}
    {text work : List ℕ} (h : PutContentPre stream at (Attribute uri local v) c x text work) where
  pub attribute-name-asks : PutNamedPre stream at uri local c x.strings text work
  unfolding Puttable
  attribute-name-asks = named-asks h h.puttable.0

  module _ (a : Alignment) (carried : Bool) {mid : List ℕ} {next : ℕ}
      (p : Put stream at
      (named_bits work carried c x.strings (part_at text uri) (part_at text local) a) mid next)
    where
      pub attribute-value-asks : PutValuedPre mid next v c x text work
      unfolding Puttable
      attribute-value-asks =
          valued-asks h (put-blank p)
          (omega (arith, h.near, p.next, named-length attribute-name-asks a carried))
          h.puttable.1

      pub attribute-put : {after : List ℕ} {r : ℕ}
          → Put mid next (valued_bits work c x (part_at text v) a) after r
          → Put stream at (contentBits text work (Attribute uri local v) carried c x a) after r
      unfolding contentBits
      attribute-put q = put_then p q

module _ {stream : List ℕ} {at : ℕ} {t v : Part} {c : Core} {x : ContentAnswer}
    {text work : List ℕ} (h : PutContentPre stream at (Instruction t v) c x text work) where
  pub target-asks : PutTextPre stream at t text
  unfolding Puttable
  target-asks =
      record { blank = h.blank; near = omega (arith, h.near); written = h.puttable.0 }

  module _ {mid : List ℕ} {next : ℕ} (p : Put stream at (string_bits 0 (part_at text t)) mid next)
    where
      pub instruction-asks : PutTextPre mid next v text
      unfolding Puttable max_string
      instruction-asks =
          record {
            blank = put-blank p;
            near = omega (
              arith,
              h.near,
              p.next,
              string-length 0 (part_at text t),
              target-asks.written.short,
            );
            written = h.puttable.1;
          }

      pub instruction-put : (a : Alignment) (carried : Bool) {after : List ℕ} {r : ℕ}
          → Put mid next (string_bits 0 (part_at text v)) after r
          → Put stream at (contentBits text work (Instruction t v) carried c x a) after r
      unfolding contentBits
      instruction-put a carried q = put_then p q
