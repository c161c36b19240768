-- The answers of `judge_event`, with what they mean.
use Prim.Native.Nat.{ℕ, ◌<◌}
use native.Mathlib.Omega.{arith}
use mathlib.Core.Path.{◌≡◌, refl, sym, ap, ap₂, subst, ◌∙◌}
use mathlib.Core.Bool.{Bool, true, false, cond, not}
use mathlib.Core.List.{List, ◌++◌, map}
use lib.ListN.{replicate}
use borrow.Author.Tests.{not-true, not-false}
use Rattle.spec_fields.specs.Refusal.{number_of, place, limit, shape, number_limit, number_shape, number_place}
use Rattle.spec_fields.proofs.Tests.{split}
use Rattle.text.specs.Text.{Text, inside, part}
use Rattle.spec_exi.specs.Sizes.{sizes}
use Rattle.spec_exi.specs.Event.{Event, kind_of, map_event, strings_of}
use Rattle.spec_exi.specs.Settings.{Settings}
use Rattle.spec_exi.specs.Grammar.{kind_number}
use Rattle.spec_exi.specs.Context.{next}
use Rattle.spec_exi.specs.Strict.{coded_bits, event_bits}
use Rattle.spec_exi.specs.Lists.{every}
use Rattle.spec_exi.specs.Writer.{fault_of}
use Rattle.spec_exi.specs.Alike.{Alike}
use Rattle.spec_exi.proofs.Alike.{within-grammars-alike}
use Rattle.event.specs.declared.Event as declared
use Rattle.event.specs.Cells.{meaning}
use Rattle.mem_rows.specs.Rows.{Rows, name_at, state_of, mode_after, opened_after, context_of}
use Rattle.mem_state.specs.declared.Core.{Core}
use Rattle.mem_state.specs.declared.Growth.{Growth}
use Rattle.mem_state.specs.Holds.{Ahead, Topped}
use Rattle.mem_state.proofs.Strung.{strings-ahead}
use Rattle.grammar_codes.specs.declared.Place.{Place}
use Rattle.grammar_codes.specs.Table.{PlaceAt, max_levels}
use Rattle.grammar_match.specs.Here.{CodeRows}
use Rattle.grammar_match.proofs.Here.{site-low}
use Rattle.grammar_update.specs.Growth.{growth_of, allowed_in, fits_in}
use Rattle.grammar_update.proofs.Represented.{code-rows, inner-state}
use Rattle.grammar_update.proofs.Events.{EventNamed, fits-is, grows, start-named, left-valid}
use Rattle.grammar_update.proofs.Events.{left-alike}
use Rattle.grammar_update.proofs.Allowed.{allows-is}
use Rattle.write_partition.specs.Judged.{fault_number}
use Rattle.write_qname.specs.Premise.{Prepared, context_in}
use Rattle.write_content.specs.Answer.{ContentAnswer}
use Rattle.write_content.specs.Contents.{ContentPre, ContentLeaves, ContentMeans, ContentPost}
use Rattle.write_production.specs.declared.Code.{Code}
use Rattle.write_event.specs.Judge.{EventAnswer}
use Rattle.write_event.specs.Step.{Stands}
use Rattle.write_event.specs.Judge.{CodeHere, refused_as, judged_as, GrammarsPre, after_content}
use Rattle.write_event.specs.Judge.{GrammarsPost}
use Rattle.write_event.specs.Judge.{JudgePre, judgedBits, left_by, EventLeaves}
use Rattle.write_event.specs.Judge.{JudgePost}
use Rattle.write_event.proofs.Fault.{fault-grammars}
use Rattle.write_event.proofs.Places.{place-stands}
use Rattle.write_event.proofs.Taken.{EventCode, event-code}
use Rattle.write_event.proofs.Judged.{kind-same, shape-fault, place-fault, number_is}
use Rattle.write_event.proofs.Judged.{content-fault, tables_after, content-bits}

prepared : {opening text work : List ℕ} {c : Core} {w : Rows} {opened : List ℕ}
    → Stands opening text work c w opened → Prepared opening text work c w
prepared s =
    record {
      begun = s.begun;
      valid = s.represents.valid;
      writable = s.writable;
      holds = s.represents.holds;
      counts = s.represents.counts;
    }

pub content-asks : {work : List ℕ} {c : Core} → JudgePre work c → ContentPre work c
content-asks pre = record { room = pre.rows; bounded = pre.bounded }

pub grammars-asks : {opening text work : List ℕ} {e : declared.Event} {c : Core} {x : ContentAnswer}
    → JudgePre work c → ContentPost opening text e c work x → x.number ≡ 0 → GrammarsPre work c x
grammars-asks pre post zero =
    record { room = pre.rows; bounded = pre.bounded; name = (post.bounds zero).name }

module _ (opening text : List ℕ) {work : List ℕ} {c : Core} (s : Settings) (e : declared.Event)
    (pre : JudgePre work c) where
  -- ---- a refusal

  refused_post : (number : ℕ) → 0 < number
      → ((w : Rows) (opened : List ℕ) → Stands opening text work c w opened → Topped c opened
      → number ≡ fault_number (fault_of sizes s (context_in c w opened) text (meaning e)))
      → JudgePost s opening text e work c (refused_as number c)
  refused_post number h fault =
      record {
        refused = λ _. refl;
        rows = λ z. absurd (omega arith);
        bits = λ z. absurd (omega arith);
        meant = λ w opened stands top.
            record { fault = fault w opened stands top; leaves = λ z. absurd (omega arith) };
      }

  module _ {kind : ℕ} (k : kind ≡ kind_number (kind_of (meaning e))) {p : Place}
      (at : PlaceAt s.comments s.instructions c.mode kind p) where
    pub shape-stops : p.level ≡ max_levels → JudgePost s opening text e work c (refused_as number_shape c)
    unfolding number_of
    shape-stops z =
        refused_post 14 (omega arith) (λ w opened stands top.
        shape-fault (prepared stands) (code-rows stands.represents pre.bounded top) s e k at
        z)

    module _ (ne : p.level ≡ max_levels → ⊥) where
      low : p.level < max_levels
      low = omega (arith, at.few, ne)

      module _ {fit : Bool} (f : fit ≡ every (inside text) (strings_of (meaning e))) where
        pub place-stops : not fit ≡ true → JudgePost s opening text e work c (refused_as number_place c)
        unfolding number_of
        place-stops n =
            refused_post 15 (omega arith) (λ w opened stands top.
            place-fault (prepared stands) (code-rows stands.represents pre.bounded top) s e k
            at low (sym f ∙ not-true fit n))

        -- ---- after the content

        module _ (n : not fit ≡ false) {x : ContentAnswer} (post : ContentPost opening text e c work x)
          where
            within : every (inside text) (strings_of (meaning e)) ≡ true
            within = sym f ∙ not-false fit n

            module _ {w : Rows} {opened : List ℕ} (stands : Stands opening text work c w opened)
                (top : Topped c opened) where
              rows : CodeRows work c.learned c.mode c.top w opened
              rows = code-rows stands.represents pre.bounded top

              means : ContentMeans opening text e c work w
                  (state_of c.mode (map (name_at w) opened)) (map_event (part text) (meaning e)) x
              unfolding kind_number
              means =
                  post.meant w _ (prepared stands) within
                  (λ z. inner-state stands.represents pre.bounded top
                  ((place-stands at low).inside (omega (arith, k, ap kind_number z))
                  (omega (arith, k, ap kind_number z))))

            pub content-stops : 0 < x.number
                → JudgePost s opening text e work c (refused_as x.number c)
            content-stops l =
                refused_post x.number l (λ w opened stands top.
                content-fault (prepared stands) (rows stands top) s e k at low (means stands top)
                within l)

            -- ---- an event whose strings pass

            module _ (zero : x.number ≡ 0) where
              module _ {code : Code} (h : CodeHere work c kind x.strings.name_row code) where
                abbrev g : Growth
                g = growth_of work c kind code.learned x.strings

                abbrev may : Bool
                may = allowed_in work c.tag kind x.strings.name_row

                module _ {w : Rows} {opened : List ℕ} (stands : Stands opening text work c w opened)
                    (top : Topped c opened) where
                  abbrev event : Event Text
                  event = map_event (part text) (meaning e)

                  left : ContentLeaves opening text e c work w
                      (state_of c.mode (map (name_at w) opened))
                      (map_event (part text) (meaning e)) x
                  left = (means stands top).leaves zero

                  ahead : Ahead w left.rows
                  ahead = strings-ahead left.joins

                  known : EventNamed left.rows c.mode x.strings kind event
                  known =
                      record {
                        kind-is = kind-same (prepared stands) (rows stands top) s e k;
                        stands = place-stands at low;
                        named = record {
                          low = λ t. (left.named t).row;
                          is = λ t. (left.named t).name;
                          nameless = λ t. (left.unnamed t).row;
                        };
                        key = λ t. (left.named t).key;
                        plain = λ t. (left.unnamed t).uri;
                      }

                  coded : EventCode s w c opened kind x.strings.name_row p code event
                  coded =
                      event-code stands.represents.valid (rows stands top) left.joins.valid
                      ahead s at low h event known.kind-is known.named

                  context-alike : Alike (next s (context_in c w opened) event)
                      (context_of (left_by g left.rows) (replicate x.stored 0)
                      (mode_after s.fragment g.kind c.mode c.depth)
                      (opened_after g.kind g.name opened))
                  context-alike =
                      left-alike stands.represents pre.bounded top ahead left.joins.valid
                      known coded.by s (replicate c.stored 0) (replicate x.stored 0)
                      coded.is
                      (tables_after (prepared stands) (rows stands top) s e k at low
                      (means stands top) left coded.is)

                  -- The start tag and the sizes of the grammars are the last tests.
                  grammar-fault : (a b : Bool) → may ≡ a → fits_in c g ≡ b
                      → cond a (cond b 0 (number_of limit)) (number_of shape)
                      ≡ fault_number (fault_of sizes s (context_in c w opened) text (meaning e))
                  grammar-fault a b m f =
                      fault-grammars s (context_in c w opened) text (meaning e) coded.is within
                      (number_is (prepared stands) (rows stands top) s e k at low
                      (means stands top) coded.is) zero a b
                      (allows-is stands.represents ahead left.joins.valid known
                      (post.bounds zero).name (replicate c.stored 0) ∙ m)
                      (within-grammars-alike context-alike sizes
                      ∙ fits-is stands.represents pre.bounded top ahead left.joins.valid
                      known coded.by (post.bounds zero).name s.fragment (replicate x.stored 0) ∙ f)

                  judged-bits : judgedBits s text e work c (judged_as p code x g)
                      ≡ event_bits s (context_in c w opened) event
                  unfolding judgedBits event_bits coded_bits context_of
                  judged-bits =
                      ap₂ ◌++◌ coded.bits
                      (sym (content-bits (prepared stands) (rows stands top) s e k at low
                      (means stands top) left coded.is s.alignment coded.named
                      coded.plain))
                      ∙ sym (ap (λ o. coded_bits s (context_in c w opened) o event) coded.is)

                  event-leaves : fits_in c g ≡ true
                      → EventLeaves s opening text e work c w opened (judged_as p code x g)
                  unfolding growth_of
                  event-leaves f =
                      record {
                        rows = left.rows;
                        joins = left.joins;
                        writable = left.writable;
                        grows = grows stands.represents pre.bounded top ahead
                            left.joins.valid known coded.by (post.bounds zero).name
                            (post.bounds zero).uri f;
                        named = start-named stands.represents pre.bounded top ahead
                            left.joins.valid known coded.by;
                        valid = left-valid stands.represents pre.bounded top ahead
                            left.joins.valid known coded.by;
                        bits = judged-bits;
                        context = context-alike;
                      }

                accepted : may ≡ true → fits_in c g ≡ true
                    → JudgePost s opening text e work c (judged_as p code x g)
                unfolding growth_of
                accepted m f =
                    record {
                      refused = λ l. absurd (omega arith);
                      rows = λ _. record {
                        strings = post.bounds zero;
                        stands = place-stands at low;
                        fits = f;
                        site = site-low c.mode c.top pre.bounded.top;
                        name = refl;
                        store = post.store;
                        grows = post.grows;
                      };
                      bits = λ _. record {
                        place = record { level = low; value = at.low low };
                        count = h.counted.few;
                        strings = post.bounds zero;
                        puttable = post.puttable zero;
                      };
                      meant = λ w opened stands top.
                          record {
                            fault = grammar-fault stands top true true m f;
                            leaves = λ _. event-leaves stands top f;
                          };
                    }

                limited : may ≡ true → fits_in c g ≡ false
                    → JudgePost s opening text e work c (refused_as number_limit c)
                unfolding number_of
                limited m f =
                    refused_post 12 (omega arith)
                    (λ w opened stands top. grammar-fault stands top true false m f)

                repeated : may ≡ false → JudgePost s opening text e work c (refused_as number_shape c)
                unfolding number_of
                repeated m =
                    refused_post 14 (omega arith)
                    (λ w opened stands top. grammar-fault stands top false (fits_in c g) m refl)

                judged : JudgePost s opening text e work c (after_content work c kind p x code)
                unfolding after_content number_of
                judged =
                    split may
                    (λ m. split (fits_in c g)
                    (λ f. rw (m, f) (accepted m f))
                    (λ f. rw (m, f) (limited m f)))
                    (λ m. rw m (repeated m))

              pub event-judged : {r : EventAnswer} → GrammarsPost work c kind p x r
                  → JudgePost s opening text e work c r
              event-judged q =
                  subst (JudgePost s opening text e work c) (sym q.is) (judged q.code_is)
