-- The answers of the steps of start elements and attributes.
use Prim.Native.Nat.{ℕ}
use mathlib.Core.Path.{◌≡◌, refl, sym, subst, ◌∙◌}
use mathlib.Core.Bool.{Bool, true, false, ◌&&◌, not}
use mathlib.Core.List.{List}
use borrow.Author.Tests.{not-false}
use Rattle.text.specs.Text.{Text, inside, part}
use Rattle.spec_fields.specs.Refusal.{number_of, limit, shape}
use Rattle.spec_exi.specs.Settings.{Settings}
use Rattle.spec_exi.specs.Event.{kind_of, strings_of}
use Rattle.spec_exi.specs.Grammar.{kind_number}
use Rattle.spec_exi.specs.Lists.{every}
use Rattle.event.specs.declared.Part.{Part}
use Rattle.event.specs.declared.Event.TheVariants.{StartElement, Attribute}
use Rattle.event.specs.Cells.{as_span, as_name, meaning}
use Rattle.mem_state.specs.declared.Core.{Core}
use Rattle.mem_state.specs.declared.Strings.{Strings}
use Rattle.mem_state.specs.declared.Growth.{Growth}
use Rattle.mem_state.specs.Commit.{joined_strings, grown, StringsPre, GrowPre}
use Rattle.grammar_codes.specs.declared.Place.{Place}
use Rattle.grammar_update.specs.Growth.{GrowthPre, growth_of, allowed_in, fits_in}
use Rattle.grammar_update.specs.After.{core_after, AfterPre}
use Rattle.grammar_stepped.specs.Stepped.{stepped_as}
use Rattle.grammar_stepped.proofs.Moved.{other-allowed}
use Rattle.write_field.specs.Written.{Put}
use Rattle.write_values.specs.Values.{ValueAnswer, value_bits, PutValuePre}
use Rattle.write_qname.specs.Premise.{part_at}
use Rattle.write_content.specs.Contents.{plain_as, with_value}
use Rattle.write_content.specs.Writing.{named_bits, contentBits, PutNamedPre}
use Rattle.write_content.proofs.Puts.{element-asks, attribute-name-asks, attribute-value-asks}
use Rattle.write_content.proofs.Puts.{attribute-put, value-put-asks, value-put}
use Rattle.write_production.specs.declared.Code.{Code}
use Rattle.write_production.specs.Codes.{code_bits_as, CodePre}
use Rattle.write_event.specs.Step.{StepPre, StepPost}
use Rattle.write_event.specs.Judge.{CodeHerePre, CodeHere, judged_as, PutEventPre}
use Rattle.write_event.proofs.Events.{every_two, every-three}
use Rattle.write_event.proofs.Puts.{content-asks, event-put}
use Rattle.write_first.specs.First.{Accepted, ValueAccepted}
use Rattle.write_first.proofs.First.{here-pre, growth-pre, first-equal, first-limit, put-pre}
use Rattle.write_first.proofs.First.{code-pre, join-pre, after-pre, grow-pre, first-written}

-- ---- a start element

pub element-lies : (text : List ℕ) (uri local : Part) {a b : Bool} → a ≡ inside text (as_span uri)
    → b ≡ inside text (as_span local)
    → every (inside text) (strings_of (meaning (StartElement uri local))) ≡ a && b
unfolding strings_of meaning as_name
element-lies text uri local u l =
    sym (every_two (inside text) (as_span uri) (as_span local)) ∙ rw (u, l) refl

module _ {stream work : List ℕ} {c : Core} {n : ℕ} (pre : StepPre stream work c n) {s : Settings}
    {opening text : List ℕ} {uri local : Part} {p : Place} {stored : ℕ} {st : Strings}
    (a : Accepted s opening text (StartElement uri local) work c p (plain_as stored st)) where
  pub element-here : CodeHerePre work c st.name_row
  element-here = here-pre pre a refl refl

  pub element-growth : GrowthPre work c st
  element-growth = growth-pre pre a refl refl

  module _ {code : Code} (here : CodeHere work c 2 st.name_row code) {g : Growth}
      (growth-is : g ≡ growth_of work c 2 code.learned st) {fit : Bool} (f : fit ≡ fits_in c g)
    where
      pub element-limit : not fit ≡ true
          → StepPost s opening text (meaning (StartElement uri local)) stream work c n stream work
          (stepped_as (number_of limit) c)
      unfolding kind_of meaning kind_number
      element-limit o =
          first-limit pre a refl refl here
          (other-allowed work c.tag st.name_row refl refl) growth-is f o

      module _ (o : not fit ≡ false) where
        puts : PutEventPre s stream text (StartElement uri local) work c
            (judged_as p code (plain_as stored st) g)
        unfolding kind_of meaning kind_number
        puts =
            put-pre pre a refl refl here
            (other-allowed work c.tag st.name_row refl refl) growth-is f o

        pub element-code : CodePre s stream c.at c.mode p code
        unfolding kind_of meaning kind_number
        element-code =
            code-pre pre a refl refl here
            (other-allowed work c.tag st.name_row refl refl) growth-is f o

        pub element-join : StringsPre work c st
        unfolding kind_of meaning kind_number
        element-join =
            join-pre pre a refl refl here
            (other-allowed work c.tag st.name_row refl refl) growth-is f o

        pub element-after : AfterPre c g n
        unfolding kind_of meaning kind_number
        element-after =
            after-pre pre a refl refl here
            (other-allowed work c.tag st.name_row refl refl) growth-is f o

        pub element-grow : {work₁ : List ℕ} → work₁ ≡ joined_strings c st work → GrowPre work₁ c g
        unfolding kind_of meaning kind_number
        element-grow joined =
            grow-pre pre a refl refl here
            (other-allowed work c.tag st.name_row refl refl) growth-is f o joined

        module _ {mid : List ℕ} {next : ℕ}
            (q : Put stream c.at (code_bits_as s c.mode p code) mid next) where
          pub element-name : PutNamedPre mid next uri local c st text work
          element-name = element-asks (content-asks puts q)

          pub element-written : {stream' : List ℕ} {at : ℕ}
              → Put mid next
              (named_bits work code.learned c st (part_at text uri) (part_at text local)
              s.alignment) stream' at
              → {work₁ work' : List ℕ} → work₁ ≡ joined_strings c st work → work' ≡ grown c g work₁
              → {d : Core} → d ≡ core_after s.fragment c at stored st g n
              → StepPost s opening text (meaning (StartElement uri local)) stream work c n stream'
              work' (stepped_as 0 d)
          unfolding kind_of meaning kind_number contentBits
          element-written r joined w i =
              first-written pre a refl refl here
              (other-allowed work c.tag st.name_row refl refl) growth-is f o joined
              (event-put puts q r) w i

-- ---- an attribute

pub attribute-lies : (text : List ℕ) (uri local value : Part) {a b d : Bool}
    → a ≡ inside text (as_span uri) → b ≡ inside text (as_span local) → d ≡ inside text (as_span value)
    → every (inside text) (strings_of (meaning (Attribute uri local value))) ≡ (a && b) && d
unfolding strings_of meaning as_name
attribute-lies text uri local value u l v =
    sym (every-three (inside text) (as_span uri) (as_span local) (as_span value)) ∙ rw (u, l, v) refl

module _ {stream work : List ℕ} {c : Core} {n : ℕ} (pre : StepPre stream work c n) {s : Settings}
    {opening text : List ℕ} {uri local value : Part} {p : Place} {old : Strings} {v : ValueAnswer}
    (a : ValueAccepted s opening text (Attribute uri local value) work c p old old.name_row
    value v) {st : Strings} (same : st ≡ (with_value old old.name_row value v).strings) where
  pub attribute-here : CodeHerePre work c old.name_row
  attribute-here = here-pre pre a.accepted refl same

  pub attribute-growth : GrowthPre work c st
  attribute-growth = growth-pre pre a.accepted refl same

  module _ {code : Code} (here : CodeHere work c 3 old.name_row code) {may : Bool}
      (m : may ≡ allowed_in work c.tag 3 old.name_row) where
    pub attribute-equal : not may ≡ true
        → StepPost s opening text (meaning (Attribute uri local value)) stream work c n stream work
        (stepped_as (number_of shape) c)
    unfolding kind_of meaning kind_number
    attribute-equal o = first-equal pre a.accepted refl same here m o

    module _ (may-be : not may ≡ false) {g : Growth}
        (growth-is : g ≡ growth_of work c 3 code.learned st) {fit : Bool} (f : fit ≡ fits_in c g)
      where
        allowed : allowed_in work c.tag 3 old.name_row ≡ true
        allowed = sym m ∙ not-false may may-be

        pub attribute-limit : not fit ≡ true
            → StepPost s opening text (meaning (Attribute uri local value)) stream work c n stream
            work (stepped_as (number_of limit) c)
        unfolding kind_of meaning kind_number
        attribute-limit o = first-limit pre a.accepted refl same here allowed growth-is f o

        module _ (o : not fit ≡ false) where
          writes : PutEventPre s stream text (Attribute uri local value) work c
              (judged_as p code (with_value old old.name_row value v) g)
          unfolding kind_of meaning kind_number
          writes = put-pre pre a.accepted refl same here allowed growth-is f o

          pub attribute-code : CodePre s stream c.at c.mode p code
          unfolding kind_of meaning kind_number
          attribute-code = code-pre pre a.accepted refl same here allowed growth-is f o

          pub attribute-join : StringsPre work c st
          unfolding kind_of meaning kind_number
          attribute-join = join-pre pre a.accepted refl same here allowed growth-is f o

          pub attribute-after : AfterPre c g n
          unfolding kind_of meaning kind_number
          attribute-after = after-pre pre a.accepted refl same here allowed growth-is f o

          pub attribute-grow : {work₁ : List ℕ} → work₁ ≡ joined_strings c st work
              → GrowPre work₁ c g
          unfolding kind_of meaning kind_number
          attribute-grow joined =
              grow-pre pre a.accepted refl same here allowed growth-is f o joined

          module _ {mid : List ℕ} {next : ℕ}
              (q : Put stream c.at (code_bits_as s c.mode p code) mid next) where
            pub attribute-name : PutNamedPre mid next uri local c st text work
            attribute-name =
                subst (λ (t : Strings). PutNamedPre mid next uri local c t text work) (sym same)
                (attribute-name-asks (content-asks writes q))

            module _ {mid₂ : List ℕ} {next₂ : ℕ}
                (r : Put mid next
                (named_bits work code.learned c st (part_at text uri) (part_at text local)
                s.alignment) mid₂ next₂) {y : Text}
                (look : y ≡ part text (record { place = value.place; size = value.size })) where
              named : Put mid next
                  (named_bits work code.learned c
                  (with_value old old.name_row value v).strings (part_at text uri)
                  (part_at text local) s.alignment) mid₂ next₂
              named =
                  subst
                  (λ (t : Strings). Put mid next
                  (named_bits work code.learned c t (part_at text uri) (part_at text local)
                  s.alignment) mid₂ next₂) same r

              pub attribute-value :
                  PutValuePre mid₂ next₂ v.partition old.name_row c.values y work
              attribute-value =
                  value-put-asks
                  (attribute-value-asks (content-asks writes q) s.alignment code.learned
                  named) look

              pub attribute-written : {stream' : List ℕ} {at : ℕ}
                  → Put mid₂ next₂
                  (value_bits work v.partition v.id old.name_row c.values c.capacity y
                  s.alignment) stream' at
                  → {work₁ work' : List ℕ} → work₁ ≡ joined_strings c st work
                  → work' ≡ grown c g work₁ → {d : Core} → d ≡ core_after s.fragment c at v.stored st g n
                  → StepPost s opening text (meaning (Attribute uri local value)) stream work c n
                  stream' work' (stepped_as 0 d)
              unfolding kind_of meaning kind_number
              attribute-written x joined w i =
                  let h = content-asks writes q in
                  first-written pre a.accepted refl same here allowed growth-is f o joined
                  (event-put writes q
                  (attribute-put h s.alignment code.learned named
                  (value-put (attribute-value-asks h s.alignment code.learned named) look
                  s.alignment x))) w i
