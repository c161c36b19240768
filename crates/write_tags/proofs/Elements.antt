-- The answers of the quick step of a start element.
use Prim.Native.Nat.{ℕ, ◌+◌, ◌<◌}
use native.Mathlib.Omega.{arith}
use mathlib.Core.Path.{◌≡◌, refl, sym, ap, ◌∙◌}
use mathlib.Core.Bool.{true, false, ◌&&◌, not}
use mathlib.Core.List.{List}
use borrow.Author.Tests.{lt-leb}
use Rattle.spec_fields.specs.Field.{Alignment}
use Rattle.text.specs.Text.{inside}
use Rattle.spec_exi.specs.Settings.{Settings}
use Rattle.spec_exi.specs.Sizes.{max_open}
use Rattle.spec_exi.specs.Event.{SE, kind_of, strings_of}
use Rattle.spec_exi.specs.Grammar.{kind_number}
use Rattle.spec_exi.specs.Lists.{every}
use Rattle.event.specs.declared.Part.{Part}
use Rattle.event.specs.declared.Event.TheVariants.{StartElement}
use Rattle.event.specs.Cells.{as_span, as_name, meaning}
use Rattle.mem_learned.specs.Grammars.{flag_in}
use Rattle.event_code.specs.Numbers.{in_tag}
use Rattle.mem_rows.specs.Rows.{mode_after}
use Rattle.mem_state.specs.declared.Core.{Core}
use Rattle.mem_state.specs.declared.Growth.{Growth}
use Rattle.mem_state.specs.Joining.{no_joining}
use Rattle.mem_state.specs.Commit.{joined_uri, joined_name, joined_value, joined_strings, entered}
use Rattle.mem_state.specs.Commit.{learnt, marked, grown, top_after, depth_after, tag_number}
use Rattle.mem_state.specs.Commit.{counted, turned}
use Rattle.grammar_match.specs.Here.{site_in}
use Rattle.grammar_update.specs.Growth.{growth_of, fits_in}
use Rattle.grammar_stepped.specs.Stepped.{stepped_as, moved_on}
use Rattle.grammar_stepped.proofs.Moved.{moved-core, other-allowed}
use Rattle.write_content.specs.Writing.{named_bits, contentBits}
use Rattle.write_content.proofs.Named.{element-judged}
use Rattle.write_event.specs.Step.{StepPre}
use Rattle.write_event.proofs.Events.{every_two}
use Rattle.write_known.specs.Known.{LearnedPre, LearnedPut}
use Rattle.write_known.proofs.Known.{Placed, inner-placed, learned-here, learned-put}
use Rattle.write_known.proofs.Known.{quick-coded}
use Rattle.write_known.proofs.Values.{content-pre}
use Rattle.write_tags.specs.Tags.{ElementPost}

lies : (text : List ℕ) (uri local : Part) → inside text (as_span uri) ≡ true
    → inside text (as_span local) ≡ true
    → every (inside text) (strings_of (meaning (StartElement uri local))) ≡ true
unfolding strings_of meaning as_name
lies text uri local u l =
    sym (every_two (inside text) (as_span uri) (as_span local)) ∙ rw (u, l) refl

-- What it leaves in the grammars.
abbrev grown_by : Core → ℕ → ℕ → Growth
grown_by c name uri =
    record {
      enters = false;
      teaches = false;
      site = site_in c.mode c.top;
      kind = 2;
      name = name;
      uri = uri;
    }

module _ {stream work : List ℕ} {c : Core} {n : ℕ} (pre : StepPre stream work c n) {name row : ℕ}
    (known : LearnedPre SE work c name row) (flag : flag_in work name ≡ true) where
  stands : (s : Settings) → Placed s c.mode 2
  stands s =
      inner-placed s 2 known.inner pre.bounded.fits.known (omega arith) (omega arith)
      (λ z. absurd (omega (arith, z)))

  pub element-stepped : c.depth < max_open → {a : Alignment} {mid : List ℕ} {at : ℕ}
      → LearnedPut a stream work c.at c.mode c.top row mid at → {tag : ℕ} → tag ≡ n + 2
      → ElementPost a name stream work c n mid
      (stepped_as 0 (moved_on c at c.stored false false in_tag name (c.depth + 1) tag))
  unfolding kind_of meaning kind_number growth_of fits_in grown learnt entered marked joined_strings
      joined_uri joined_name joined_value mode_after top_after depth_after tag_number contentBits named_bits
      counted turned
  element-stepped h {at = at} q t =
      record {
        steps = λ s same opening text uri local u l named.
            quick-coded pre opening text s (StartElement uri local) refl (stands s)
            (lies text uri local u l) (element-judged (content-pre pre) named.post refl) refl
            (learned-here c q known.found known.some)
            (other-allowed work c.tag name refl refl) {g = grown_by c name named.u}
            (ap (λ b. record {
              enters = not b;
              teaches = false;
              site = site_in c.mode c.top;
              kind = 2;
              name = name;
              uri = named.u;
            }) flag)
            (ap (λ b. not b && true && true) (lt-leb max_open c.depth h))
            (learned-put c q s same known.inner pre.bounded.fits.known
            (stands s).p)
            refl refl
            ((λ i. moved_on c at c.stored false false in_tag name (c.depth + 1) (t i))
            ∙ moved-core s.fragment c at c.stored no_joining named.u name name false
            (site_in c.mode c.top) 2 name named.u n);
      }
