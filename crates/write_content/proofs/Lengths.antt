-- The content of an event is at most three strings long.
use Prim.Native.Nat.{ℕ, ◌-◌, ◌*◌, ◌≤◌}
use native.Mathlib.Omega.{arith}
use mathlib.Core.Bool.{Bool}
use mathlib.Core.List.{List}
use lib.ListN.{length, length-append}
use lib.Dec.{eqb}
use borrow.Author.Tests.{eqb-false}
use Rattle.spec_fields.specs.Field.{Alignment, unsigned_bits, choice_bits}
use Rattle.spec_fields.proofs.Tests.{split}
use Rattle.spec_exi.specs.Sizes.{max_string, max_store}
use Rattle.spec_exi.specs.Settings.{bound_of}
use Rattle.spec_exi.specs.Tables.{replaced, string_bits}
use Rattle.event.specs.declared.Part.{Part}
use Rattle.event.specs.declared.Event as declared
use Rattle.event.specs.declared.Event.TheVariants.{StartDocument, EndDocument, StartElement}
use Rattle.event.specs.declared.Event.TheVariants.{Attribute, EndElement, Characters, Comment}
use Rattle.event.specs.declared.Event.TheVariants.{Instruction}
use Rattle.mem_layout.specs.Layout.{value_counts}
use Rattle.mem_chain.specs.Chain.{below}
use Rattle.mem_state.specs.declared.Core.{Core}
use Rattle.write_field.proofs.Lengths.{unsigned-length, choice-length}
use Rattle.write_partition.specs.Bits.{hit_bits}
use Rattle.write_partition.proofs.Strings.{string-length}
use Rattle.write_values.specs.Values.{own, all, value_bits}
use Rattle.write_qname.specs.Premise.{part_at}
use Rattle.write_qname.proofs.Puts.{count-length}
use Rattle.write_string.specs.Fits.{max_string_bits}
use Rattle.write_content.specs.Answer.{ContentAnswer}
use Rattle.write_content.specs.Writing.{named_bits, valued_bits, contentBits}
use Rattle.write_content.specs.Writing.{ValuePuttable, Puttable, PutContentPre}
use Rattle.write_content.proofs.Puts.{named-length, named-asks}

module _ (c : Core) (x : ContentAnswer) (text work : List ℕ) (few : c.values ≤ max_store) (a : Alignment)
  where
    value-length : (v : Part) → ValuePuttable x (part_at text v)
        → length (valued_bits work c x (part_at text v) a) ≤ max_string_bits
    unfolding valued_bits value_bits hit_bits max_string max_store
    value-length v p =
        let among : ℕ = c.values - replaced (bound_of c.capacity) c.values in
        split (eqb x.partition own)
        (λ e. rw e (omega (
          arith,
          count-length a work value_counts x.strings.owner 0 x.id,
        )))
        (λ e. split (eqb x.partition all)
        (λ f. rw (e, f) (omega (
          arith,
          length-append (unsigned_bits 1) (choice_bits a among (below among x.id)),
          unsigned-length 1,
          choice-length a among (below among x.id) (omega arith),
        )))
        (λ f. rw (e, f) (omega (
          arith,
          string-length 2 (part_at text v),
          (p.literal (eqb-false x.partition own e) (eqb-false x.partition all f)).short,
        ))))

module _ (carried : Bool) {stream : List ℕ} {at : ℕ} {c : Core} {x : ContentAnswer}
    {text work : List ℕ} (a : Alignment) where
  pub content-length : (e : declared.Event) → PutContentPre stream at e c x text work
      → length (contentBits text work e carried c x a) ≤ 3 * max_string_bits
  unfolding contentBits Puttable max_string
  content-length StartDocument h = omega arith
  content-length EndDocument h = omega arith
  content-length (StartElement u n) h =
      omega (arith, named-length (named-asks h h.puttable) a carried)
  content-length (Attribute u n v) h =
      omega (
        arith,
        length-append
            (named_bits work carried c x.strings (part_at text u) (part_at text n) a)
            (valued_bits work c x (part_at text v) a),
        named-length (named-asks h h.puttable.0) a carried,
        value-length c x text work h.few-values a v h.puttable.1,
      )
  content-length EndElement h = omega arith
  content-length (Characters v) h = omega (arith, value-length c x text work h.few-values a v h.puttable)
  content-length (Comment v) h =
      omega (arith, string-length 0 (part_at text v), h.puttable.short)
  content-length (Instruction t v) h =
      omega (
        arith,
        length-append (string_bits 0 (part_at text t)) (string_bits 0 (part_at text v)),
        string-length 0 (part_at text t),
        h.puttable.0.short,
        string-length 0 (part_at text v),
        h.puttable.1.short,
      )
