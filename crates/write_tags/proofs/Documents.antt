-- The answers of the quick steps of the document's start and end.
use Prim.Native.Nat.{ℕ}
use native.Mathlib.Omega.{arith}
use mathlib.Core.Path.{◌≡◌, refl, sym, ap, subst}
use mathlib.Core.Bool.{false, not}
use mathlib.Core.List.{List}
use Rattle.spec_exi.specs.Settings.{Settings}
use Rattle.spec_exi.specs.Sizes.{max_events, max_string}
use Rattle.spec_exi.specs.Event.{kind_of, map_event, strings_of}
use Rattle.spec_exi.specs.Grammar.{kind_number}
use Rattle.spec_exi.specs.Lists.{every}
use Rattle.event.specs.declared.Event.TheVariants.{StartDocument, EndDocument}
use Rattle.event.specs.Cells.{meaning}
use Rattle.event_code.specs.Numbers.{teaches_in}
use Rattle.mem_rows.specs.Rows.{carries, mode_after}
use Rattle.mem_state.specs.declared.Core.{Core}
use Rattle.mem_state.specs.Joining.{no_joining}
use Rattle.mem_state.specs.Commit.{joined_uri, joined_name, joined_value, joined_strings, entered}
use Rattle.mem_state.specs.Commit.{learnt, marked, grown, top_after, depth_after, tag_number}
use Rattle.grammar_codes.specs.Table.{tables, table_of, number_in, in_level, place_in, place_as}
use Rattle.grammar_codes.proofs.Places.{place_is}
use Rattle.grammar_match.specs.Here.{site_in, CountedHere}
use Rattle.grammar_match.specs.Found.{FoundHere}
use Rattle.grammar_update.specs.Growth.{growth_of, fits_in}
use Rattle.grammar_stepped.specs.declared.Stepped.{Stepped}
use Rattle.grammar_stepped.proofs.Moved.{moved-core, other-allowed}
use Rattle.write_content.specs.Contents.{items_as}
use Rattle.write_content.specs.Writing.{contentBits, Puttable}
use Rattle.write_content.proofs.Unnamed.{bare-judged}
use Rattle.write_production.specs.Codes.{CodePre}
use Rattle.write_event.specs.Step.{StepPre, StepPost}
use Rattle.write_event.specs.Judge.{CodeHere}
use Rattle.write_known.proofs.Known.{quick-coded}
use Rattle.write_known.proofs.Values.{content-pre}
use Rattle.write_tags.specs.Tags.{OuterPre, OuterPost, DocumentPost}

-- The first production of a state that is not an element's.
pub first_of : (s : Settings) (c : Core) → c.mode ≡ 0 → OuterPre s c 0
unfolding tables table_of place_in number_in in_level place_as kind_number
first_of s c z =
    record {
      place = place_is s.comments s.instructions c.mode 0 (rw z refl);
      few = omega arith;
    }

pub last_of : (s : Settings) (c : Core) → c.mode ≡ 2 → OuterPre s c 1
unfolding tables table_of place_in number_in in_level place_as kind_number
last_of s c z =
    record {
      place = place_is s.comments s.instructions c.mode 1 (rw z refl);
      few = omega arith;
    }

module _ {s : Settings} {stream work : List ℕ} {c : Core} {n : ℕ} (pre : StepPre stream work c n) where
  pub code-asks : {kind : ℕ} → OuterPre s c kind → {count : ℕ} → CountedHere work c.mode c.top count
      → CodePre s stream c.at c.mode (record { level = 0; value = 0 })
      (record { learned = false; count = count; part = 0 })
  unfolding max_events max_string
  code-asks o q =
      record {
        blank = pre.blank;
        near = omega (arith, pre.near);
        few = q.few;
        place = record { level = omega arith; value = o.place.low (omega arith) };
      }

  module _ {stream' : List ℕ} {r : Stepped} where
    here : {kind : ℕ} (q : OuterPost s kind stream work c n stream' r)
        → FoundHere work c.mode c.top kind 0 c.learned 0
        → CodeHere work c kind 0 (record { learned = false; count = q.count; part = 0 })
    here q none =
        record {
          counted = q.counted;
          row = 0;
          found = none;
          fixed = λ _. (refl, refl);
          taken = λ h. absurd (omega (arith, h));
        }

    pub document-started : c.mode ≡ 0 → FoundHere work c.mode c.top 0 0 c.learned 0
        → OuterPost s 0 stream work c n stream' r
        → DocumentPost s StartDocument stream work c n stream' r
    unfolding kind_of meaning map_event carries items_as Puttable strings_of every kind_number growth_of
        fits_in grown learnt entered marked joined_strings joined_uri joined_name joined_value mode_after
        top_after depth_after tag_number contentBits teaches_in
    document-started z none q =
        record {
          steps = λ opening text.
              subst (λ (x : Stepped). StepPost s opening text (meaning StartDocument) stream work c n stream'
              work x) (sym q.is)
              (quick-coded pre opening text s StartDocument refl
              (record { p = record { level = 0; value = 0 }; at = (first_of s c z).place; low = omega arith })
              refl (bare-judged (content-pre pre) StartDocument (λ _ _. refl) (λ _ _. refl) refl tt) refl
              (here q none) (other-allowed work c.tag 0 refl refl)
              (ap (λ m. record {
                enters = false;
                teaches = teaches_in m 0;
                site = site_in c.mode c.top;
                kind = 0;
                name = 0;
                uri = 0;
              }) z)
              refl q.put refl refl
              (moved-core s.fragment c q.at c.stored no_joining 0 0 0 false
              (site_in c.mode c.top) 0 0 0 n));
        }

    pub document-ended : c.mode ≡ 2 → FoundHere work c.mode c.top 1 0 c.learned 0
        → OuterPost s 1 stream work c n stream' r
        → DocumentPost s EndDocument stream work c n stream' r
    unfolding kind_of meaning map_event carries items_as Puttable strings_of every kind_number growth_of
        fits_in grown learnt entered marked joined_strings joined_uri joined_name joined_value mode_after
        top_after depth_after tag_number contentBits teaches_in
    document-ended z none q =
        record {
          steps = λ opening text.
              subst (λ (x : Stepped). StepPost s opening text (meaning EndDocument) stream work c n stream'
              work x) (sym q.is)
              (quick-coded pre opening text s EndDocument refl
              (record { p = record { level = 0; value = 0 }; at = (last_of s c z).place; low = omega arith })
              refl (bare-judged (content-pre pre) EndDocument (λ _ _. refl) (λ _ _. refl) refl tt) refl
              (here q none) (other-allowed work c.tag 0 refl refl)
              (ap (λ m. record {
                enters = false;
                teaches = teaches_in m 1;
                site = site_in c.mode c.top;
                kind = 1;
                name = 0;
                uri = 0;
              }) z)
              refl q.put refl refl
              (moved-core s.fragment c q.at c.stored no_joining 0 0 0 false
              (site_in c.mode c.top) 1 0 0 n));
        }
