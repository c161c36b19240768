-- What judging an event means, over rows: the number of its refusal, its code, its bits and its tables.
use Prim.Native.Nat.{ℕ, ◌<◌}
use mathlib.Core.Path.{◌≡◌, refl, sym, ap, ◌∙◌}
use mathlib.Core.Bool.{Bool, true, false, true≢false}
use mathlib.Core.List.{List, map}
use mathlib.Core.Option.{some}
use lib.ListN.{replicate}
use Rattle.spec_fields.specs.Field.{Alignment}
use Rattle.spec_fields.specs.Refusal.{number_of, shape, place}
use Rattle.spec_fields.proofs.Tests.{split}
use Rattle.text.specs.Text.{Text, inside, part}
use Rattle.spec_exi.specs.Sizes.{sizes}
use Rattle.spec_exi.specs.Event.{Event, kind_of, map_event, strings_of}
use Rattle.spec_exi.specs.Settings.{Settings}
use Rattle.spec_exi.specs.Tables.{Tables}
use Rattle.spec_exi.specs.Grammar as grammar
use Rattle.spec_exi.specs.Grammar.{State, kind_number, is_wildcard}
use Rattle.spec_exi.specs.Context.{items, after_items}
use Rattle.spec_exi.specs.Strict.{items_bits}
use Rattle.spec_exi.specs.Lists.{every}
use Rattle.spec_exi.specs.Writer.{first_failed, content_tests, fault_of}
use Rattle.spec_exi.specs.Alike.{AlikeTables}
use Rattle.event.specs.declared.Event as declared
use Rattle.event.specs.Cells.{meaning}
use Rattle.mem_rows.specs.Rows.{Rows, name_at, carries, state_of, context_of}
use Rattle.mem_state.specs.declared.Core.{Core}
use Rattle.grammar_codes.specs.declared.Place.{Place}
use Rattle.grammar_codes.specs.Table.{PlaceAt, max_levels}
use Rattle.grammar_match.specs.Here.{CodeRows, code_here}
use Rattle.grammar_match.proofs.Codes.{no_code, code-there}
use Rattle.write_partition.specs.Writable.{tables_in}
use Rattle.write_partition.specs.Judged.{fault_number}
use Rattle.write_qname.specs.Premise.{Prepared, context_in}
use Rattle.write_qname.specs.Qnames.{NoName}
use Rattle.write_content.specs.Answer.{ContentAnswer}
use Rattle.write_content.specs.Contents.{items_as, ContentLeaves, ContentMeans}
use Rattle.write_content.specs.Writing.{contentBits}
use Rattle.write_production.specs.declared.Code.{Code}
use Rattle.write_event.proofs.Fault.{fault-shape, fault-place, fault-content}
use Rattle.write_event.proofs.Events.{same_kind}
use Rattle.write_event.proofs.Joins.{hits-stay, no_name}
use Rattle.write_event.proofs.Coded.{items_as_lem, code-hits}
use Rattle.write_event.proofs.Bits.{carried-plain}

-- Memory is prepared, and these elements are open.
module _ {opening text work : List ℕ} {c : Core} {w : Rows} {opened : List ℕ}
    (prepared : Prepared opening text work c w)
    (rows : CodeRows work c.learned c.mode c.top w opened) (s : Settings)
    (e : declared.Event) {kind : ℕ} (k : kind ≡ kind_number (kind_of (meaning e))) where
  abbrev x : Event Text
  x = map_event (part text) (meaning e)

  abbrev state : State
  state = state_of c.mode (map (name_at w) opened)

  abbrev before : Tables
  before = tables_in w c.stored

  pub kind-same : kind_number (kind_of (map_event (part text) (meaning e))) ≡ kind
  kind-same = ap kind_number (same_kind (part text) (meaning e)) ∙ sym k

  module _ {p : Place} (at : PlaceAt s.comments s.instructions c.mode kind p) where
    pub shape-fault : p.level ≡ max_levels
        → number_of shape ≡ fault_number (fault_of sizes s (context_in c w opened) text (meaning e))
    shape-fault z =
        fault-shape s (context_in c w opened) text (meaning e)
        (no_code prepared.valid rows s (replicate c.stored 0) at x kind-same z)

    module _ (low : p.level < max_levels) where
      some-code : (z : grammar.Code)
          × (code_here s w (replicate c.stored 0) c.mode opened x ≡ some z)
      some-code = code-there prepared.valid rows s (replicate c.stored 0) at x kind-same low

      pub place-fault : every (inside text) (strings_of (meaning e)) ≡ false
          → number_of place ≡ fault_number (fault_of sizes s (context_in c w opened) text (meaning e))
      place-fault h = fault-place s (context_in c w opened) text (meaning e) some-code.1 h

      -- ---- the content

      module _ {r : ContentAnswer} (means : ContentMeans opening text e c work w state x r) where
        pub number_is : {z : grammar.Code}
            → code_here s w (replicate c.stored 0) c.mode opened x ≡ some z
            → r.number
            ≡ fault_number (first_failed (content_tests sizes (context_in c w opened).tables
            (items (context_in c w opened).state z.production x)))
        unfolding context_of
        number_is {z} is =
            means.fault (is_wildcard z.production.qname)
            (code-hits prepared.valid rows s c.stored at low x kind-same is)
            ∙ ap (λ is. fault_number (first_failed (content_tests sizes before is)))
            (sym (items_as_lem state z.production x))

        pub content-fault : every (inside text) (strings_of (meaning e)) ≡ true → 0 < r.number
            → r.number ≡ fault_number (fault_of sizes s (context_in c w opened) text (meaning e))
        content-fault h l =
            fault-content s (context_in c w opened) text (meaning e) some-code.1 h
            (number_is some-code.1) l

        -- ---- by the code that the event has

        module _ (leaves : ContentLeaves opening text e c work w state x r) {z : grammar.Code}
            (is : code_here s w (replicate c.stored 0) c.mode opened x ≡ some z) where
          -- A name that the code carries joins nothing.
          carried_none : is_wildcard z.production.qname ≡ false → NoName r.strings
          carried_none f =
              no_name c.stored r.stored leaves.joins prepared.counts
              (hits-stay before state x
              (code-hits prepared.valid rows s c.stored at low x kind-same is f))
              (leaves.form true (λ t. absurd (true≢false t))).after

          pub tables_after :
              AlikeTables (after_items (tables_in w c.stored) (items state z.production x))
              (tables_in leaves.rows r.stored)
          tables_after =
              rw (items_as_lem state z.production x)
              (leaves.form (is_wildcard z.production.qname) carried_none).after

          -- Its bits, where the code's name is carried just if the code is a learned one's.
          module _ {learned : Bool} (a : Alignment)
              (named : is_wildcard z.production.qname ≡ false → learned ≡ true)
              (plain : is_wildcard z.production.qname ≡ true
              → carries (kind_of (map_event (part text) (meaning e))) ≡ true → learned ≡ false)
            where
              pub content-bits :
                  items_bits a (tables_in w c.stored) (items state z.production x)
                  ≡ contentBits text work e learned c r a
              content-bits =
                  ap (items_bits a before) (items_as_lem state z.production x)
                  ∙ split (is_wildcard z.production.qname) wild carried
                where
                  form : (written : Bool) → is_wildcard z.production.qname ≡ written
                      → (carried : Bool) → (written ≡ true → carried ≡ false)
                      → (written ≡ false → carried ≡ true)
                      → items_bits a before (items_as (is_wildcard z.production.qname) state x)
                      ≡ contentBits text work e carried c r a
                  form written f carried g h =
                      ap (λ b. items_bits a before (items_as b state x)) f
                      ∙ (leaves.form written (λ u. carried_none (f ∙ u))).bits carried g h a

                  wild : is_wildcard z.production.qname ≡ true
                      → items_bits a before (items_as (is_wildcard z.production.qname) state x)
                      ≡ contentBits text work e learned c r a
                  wild f =
                      let same = ap carries (same_kind (part text) (meaning e)) in
                      split (carries (kind_of (meaning e)))
                      (λ t.
                      form true f learned (λ _. plain f (same ∙ t)) (λ u. absurd (true≢false u)))
                      (λ t.
                      form true f false (λ _. refl) (λ u. absurd (true≢false u))
                      ∙ sym (carried-plain text work e t learned c r a))

                  carried : is_wildcard z.production.qname ≡ false
                      → items_bits a before (items_as (is_wildcard z.production.qname) state x)
                      ≡ contentBits text work e learned c r a
                  carried f =
                      form false f learned (λ u. absurd (true≢false (sym u))) (λ _. named f)
