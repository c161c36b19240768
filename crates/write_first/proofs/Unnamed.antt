-- The answers of the steps of events without a name.
use Prim.Native.Nat.{ℕ}
use native.Mathlib.Omega.{arith}
use mathlib.Core.Path.{◌≡◌, refl, sym, ap, subst, ◌∙◌}
use mathlib.Core.Bool.{Bool, true, false, not}
use mathlib.Core.List.{List, [], append-nil}
use borrow.Author.Tests.{not-false}
use Rattle.text.specs.Text.{Text, inside, part}
use Rattle.spec_fields.specs.Refusal.{number_of, limit}
use Rattle.spec_exi.specs.Settings.{Settings}
use Rattle.spec_exi.specs.Sizes.{max_store, max_learned}
use Rattle.spec_exi.specs.Event.{kind_of, map_event, strings_of}
use Rattle.spec_exi.specs.Grammar.{kind_number}
use Rattle.spec_exi.specs.Lists.{every}
use Rattle.event.specs.declared.Part.{Part}
use Rattle.event.specs.declared.Event.TheVariants.{EndElement, Characters}
use Rattle.event.specs.Cells.{as_span, meaning}
use Rattle.mem_rows.specs.Rows.{carries}
use Rattle.mem_state.specs.declared.Core.{Core}
use Rattle.mem_state.specs.declared.Strings.{Strings}
use Rattle.mem_state.specs.declared.Growth.{Growth}
use Rattle.mem_state.specs.Joining.{no_strings}
use Rattle.mem_state.specs.Commit as commit
use Rattle.mem_state.specs.Commit.{joined_uri, joined_name, joined_value, joined_strings, grown}
use Rattle.mem_state.specs.Commit.{GrowPre}
use Rattle.grammar_codes.specs.declared.Place.{Place}
use Rattle.grammar_codes.specs.Table.{Stands, PlaceAt, max_levels}
use Rattle.grammar_match.proofs.Here.{site-low}
use Rattle.grammar_update.specs.Growth.{GrowthPre, growth_of, fits_in}
use Rattle.grammar_update.specs.After.{core_after, AfterPre}
use Rattle.grammar_update.proofs.Tests.{fits-learned}
use Rattle.grammar_stepped.specs.Stepped.{stepped_as}
use Rattle.grammar_stepped.proofs.Moved.{other-allowed}
use Rattle.write_field.specs.Written.{Put}
use Rattle.write_values.specs.Values.{ValueAnswer, value_bits, PutValuePre}
use Rattle.write_qname.specs.Qnames.{joining_of}
use Rattle.write_content.specs.Contents.{items_as, plain_as, with_value}
use Rattle.write_content.specs.Writing.{contentBits, Puttable}
use Rattle.write_content.proofs.Puts.{characters-asks, value-put-asks, value-put}
use Rattle.write_content.proofs.Unnamed.{bare-judged}
use Rattle.write_production.specs.declared.Code.{Code}
use Rattle.write_production.specs.Codes.{code_bits_as, CodePre}
use Rattle.write_event.specs.Step.{StepPre, StepPost}
use Rattle.write_event.specs.Judge.{CodeHere, judgedBits}
use Rattle.write_event.proofs.Events.{every_one}
use Rattle.write_event.proofs.Places.{place-stands}
use Rattle.write_event.proofs.Puts.{content-asks, event-put}
use Rattle.write_first.specs.First.{Accepted, ValueAccepted}
use Rattle.write_first.proofs.First.{content-pre, first-accepted, growth-pre, first-limit, put-pre}
use Rattle.write_first.proofs.First.{code-pre, after-pre, grow-pre, first-written}

-- ---- characters

pub characters-lie : (text : List ℕ) (value : Part) {b : Bool} → b ≡ inside text (as_span value)
    → every (inside text) (strings_of (meaning (Characters value))) ≡ b
unfolding strings_of meaning
characters-lie text value is = sym (is ∙ every_one (inside text) (as_span value))

module _ {stream work : List ℕ} {c : Core} {n : ℕ} (pre : StepPre stream work c n) {s : Settings}
    {opening text : List ℕ} {value : Part} {p : Place} {v : ValueAnswer}
    (a : ValueAccepted s opening text (Characters value) work c p no_strings c.top value v)
    {none : Strings} (nothing : none ≡ no_strings) {st : Strings}
    (valued : st ≡ (with_value none c.top value v).strings) where
  same : st ≡ (with_value no_strings c.top value v).strings
  same = valued ∙ ap (λ (t : Strings). (with_value t c.top value v).strings) nothing

  pub characters-growth : GrowthPre work c st
  characters-growth = growth-pre pre a.accepted refl same

  module _ {code : Code} (here : CodeHere work c 5 0 code) {g : Growth}
      (growth-is : g ≡ growth_of work c 5 code.learned st) {fit : Bool} (f : fit ≡ fits_in c g)
    where
      pub characters-limit : not fit ≡ true
          → StepPost s opening text (meaning (Characters value)) stream work c n stream work
          (stepped_as (number_of limit) c)
      unfolding kind_of meaning kind_number
      characters-limit o =
          first-limit pre a.accepted refl same here (other-allowed work c.tag 0 refl refl) growth-is f o

      module _ (o : not fit ≡ false) where
        pub characters-code : CodePre s stream c.at c.mode p code
        unfolding kind_of meaning kind_number
        characters-code =
            code-pre pre a.accepted refl same here (other-allowed work c.tag 0 refl refl) growth-is f o

        pub characters-after : AfterPre c g n
        unfolding kind_of meaning kind_number
        characters-after =
            after-pre pre a.accepted refl same here (other-allowed work c.tag 0 refl refl) growth-is f o

        pub characters-join : commit.ValuePre work c.values c.top (joining_of value v.joins v.hash)
        unfolding max_store
        characters-join =
            record {
              room = pre.rows;
              few = λ j. omega (
                arith,
                (a.accepted.content.bounds refl).values j,
                a.accepted.content.store,
              );
              low = pre.bounded.top;
            }

        module _ {work₁ : List ℕ}
            (joins : work₁ ≡ joined_value c.values c.top (joining_of value v.joins v.hash) work)
          where
            joined : work₁ ≡ joined_strings c st work
            unfolding joined_strings joined_uri joined_name
            joined = rw same joins

            pub characters-grow : GrowPre work₁ c g
            unfolding kind_of meaning kind_number
            characters-grow =
                grow-pre pre a.accepted refl same here (other-allowed work c.tag 0 refl refl) growth-is f o
                joined

        module _ {mid : List ℕ} {next : ℕ}
            (q : Put stream c.at (code_bits_as s c.mode p code) mid next) {y : Text}
            (look : y ≡ part text (record { place = value.place; size = value.size })) where
          pub characters-value : PutValuePre mid next v.partition c.top c.values y work
          unfolding kind_of meaning kind_number
          characters-value =
              value-put-asks
              (characters-asks
              (content-asks
              (put-pre pre a.accepted refl same here (other-allowed work c.tag 0 refl refl) growth-is f o) q))
              look

          pub characters-written : {stream' : List ℕ} {at : ℕ}
              → Put mid next
              (value_bits work v.partition v.id c.top c.values c.capacity y s.alignment)
              stream' at
              → {work₁ work' : List ℕ}
              → work₁ ≡ joined_value c.values c.top (joining_of value v.joins v.hash) work
              → work' ≡ grown c g work₁ → {d : Core} → d ≡ core_after s.fragment c at v.stored st g n
              → StepPost s opening text (meaning (Characters value)) stream work c n stream' work'
              (stepped_as 0 d)
          unfolding kind_of meaning kind_number contentBits
          characters-written r joins w i =
              let may = other-allowed work c.tag 0 refl refl in
              let h = put-pre pre a.accepted refl same here may growth-is f o in
              first-written pre a.accepted refl same here may growth-is f o
              (joined joins)
              (event-put h q
              (value-put (characters-asks (content-asks h q)) look s.alignment r)) w i

-- ---- the end tag

-- What adding it asks.
module _ {stream work : List ℕ} {c : Core} {n : ℕ} (pre : StepPre stream work c n) {st : Strings}
    (same : st ≡ no_strings) where
  pub end-growth : GrowthPre work c st
  end-growth =
      subst (λ (t : Strings). GrowthPre work c t) (sym same)
      (record {
        room = pre.rows;
        name = omega arith;
        top = pre.bounded.top;
        few = pre.bounded.learned;
      })

  module _ {code : Code} (here : CodeHere work c 4 0 code) {g : Growth}
      (growth-is : g ≡ growth_of work c 4 code.learned st) {fit : Bool} (f : fit ≡ fits_in c g)
      (o : not fit ≡ false) {comments instructions : Bool} {p : Place}
      (at : PlaceAt comments instructions c.mode 4 p) (ne : p.level ≡ max_levels → ⊥) where
    is : g ≡ growth_of work c 4 code.learned no_strings
    is = growth-is ∙ ap (growth_of work c 4 code.learned) same

    stands : Stands c.mode 4
    stands = place-stands at (omega (arith, at.few, ne))

    pub end-grow : GrowPre work c g
    unfolding growth_of max_learned
    end-grow =
        subst (λ (h : Growth). GrowPre work c h) (sym is)
        (record {
          room = pre.rows;
          few = λ t. omega (
            arith,
            fits-learned c (growth_of work c 4 code.learned no_strings)
                (ap (fits_in c) (sym is) ∙ sym f ∙ not-false fit o) t,
          );
          site = site-low c.mode c.top pre.bounded.top;
          kind = stands.known;
          name = omega arith;
        })

    pub end_after : AfterPre c g n
    unfolding growth_of
    end_after =
        subst (λ (h : Growth). AfterPre c h n) (sym is)
        (record { bounded = pre.bounded; early = pre.early; stands = stands })

module _ {stream work : List ℕ} {c : Core} {n : ℕ} (pre : StepPre stream work c n) (s : Settings)
    {p : Place} (at : PlaceAt s.comments s.instructions c.mode 4 p)
    (ne : p.level ≡ max_levels → ⊥) {st : Strings} (same : st ≡ no_strings) where
  pub end-accepted : (opening text : List ℕ)
      → Accepted s opening text EndElement work c p (plain_as c.stored no_strings)
  unfolding meaning map_event kind_of kind_number carries items_as contentBits Puttable strings_of every
  end-accepted opening text =
      first-accepted pre opening text s EndElement refl at ne refl refl
      (bare-judged (content-pre pre) EndElement (λ _ _. refl) (λ _ _. refl) refl tt)

  module _ {code : Code} (here : CodeHere work c 4 0 code) {g : Growth}
      (growth-is : g ≡ growth_of work c 4 code.learned st) {fit : Bool} (f : fit ≡ fits_in c g)
    where
      pub end-limit : not fit ≡ true → (opening text : List ℕ)
          → StepPost s opening text (meaning EndElement) stream work c n stream work
          (stepped_as (number_of limit) c)
      unfolding kind_of meaning kind_number
      end-limit o opening text =
          first-limit pre (end-accepted opening text) refl same here
          (other-allowed work c.tag 0 refl refl) growth-is f o

      module _ (o : not fit ≡ false) where
        pub end-code : CodePre s stream c.at c.mode p code
        unfolding kind_of meaning kind_number
        end-code =
            code-pre pre (end-accepted [] []) refl same here
            (other-allowed work c.tag 0 refl refl) growth-is f o

        unjoined : work ≡ joined_strings c st work
        unfolding joined_strings joined_uri joined_name joined_value
        unjoined = rw same refl

        pub end-written : {stream' : List ℕ} {at : ℕ}
            → Put stream c.at (code_bits_as s c.mode p code) stream' at
            → {work' : List ℕ} → work' ≡ grown c g work
            → {d : Core} → d ≡ core_after s.fragment c at c.stored st g n → (opening text : List ℕ)
            → StepPost s opening text (meaning EndElement) stream work c n stream' work'
            (stepped_as 0 d)
        unfolding kind_of meaning kind_number contentBits judgedBits
        end-written {stream'} {at} q w i opening text =
            first-written pre (end-accepted opening text) refl same here
            (other-allowed work c.tag 0 refl refl) growth-is f o unjoined
            (subst (λ u. Put stream c.at u stream' at)
            (sym (append-nil (code_bits_as s c.mode p code))) q) w i
