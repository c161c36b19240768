-- The bits of an event, written one part after the other.
use Prim.Native.Nat.{ℕ, ◌+◌, ◌≤◌}
use native.Mathlib.Omega.{arith}
use mathlib.Core.Path.{refl}
use mathlib.Core.List.{List}
use lib.ListN.{length, length-append}
use Rattle.spec_exi.specs.Settings.{Settings}
use Rattle.spec_exi.specs.Sizes.{max_events, max_string}
use Rattle.event.specs.declared.Event as declared
use Rattle.mem_state.specs.declared.Core.{Core}
use Rattle.write_field.specs.Written.{written, Put}
use Rattle.write_field.proofs.Written.{put-blank, put_then}
use Rattle.write_content.specs.Writing.{contentBits, PutContentPre}
use Rattle.write_content.proofs.Lengths.{content-length}
use Rattle.write_production.specs.Codes.{code_bits_as, CodePre}
use Rattle.write_production.proofs.Lengths.{code-length}
use Rattle.write_event.specs.Judge.{EventAnswer}
use Rattle.write_event.specs.Step.{max_event_bits}
use Rattle.write_event.specs.Judge.{judgedBits, PutEventPre}

module _ {s : Settings} {stream text : List ℕ} {e : declared.Event} {work : List ℕ} {c : Core}
    {j : EventAnswer} (pre : PutEventPre s stream text e work c j) where
  pub code-asks : CodePre s stream c.at c.mode j.place j.code
  unfolding max_events max_string
  code-asks =
      record {
        blank = pre.blank;
        near = omega (arith, pre.near);
        few = pre.bits.count;
        place = pre.bits.place;
      }

  code-few : length (code_bits_as s c.mode j.place j.code) ≤ 48
  code-few = code-length s c.mode j.place pre.bits.place j.code pre.bits.count

  module _ {mid : List ℕ} {next : ℕ}
      (p : Put stream c.at (code_bits_as s c.mode j.place j.code) mid next) where
    pub content-asks : PutContentPre mid next e c j.content text work
    unfolding max_events max_string
    content-asks =
        let b = pre.bits.strings in
        record {
          blank = put-blank p;
          near = omega (arith, pre.near, p.next, code-few);
          room = pre.rows;
          few = pre.bounded.uris;
          few-values = omega (arith, pre.bounded.values, pre.bounded.stored);
          uri-low = b.uri;
          name-low = b.name;
          owner-low = b.owner;
          puttable = pre.bits.puttable;
        }

    pub event-put : {after : List ℕ} {r : ℕ}
        → Put mid next
        (contentBits text work e j.code.learned c j.content s.alignment) after r
        → Put stream c.at (judgedBits s text e work c j) after r
    unfolding judgedBits
    event-put q = put_then p q

  -- How many there can be.
  pub bits-few : length (judgedBits s text e work c j) ≤ max_event_bits
  unfolding judgedBits max_string
  bits-few =
      let w = code_bits_as s c.mode j.place j.code in
      let p : Put stream c.at w (written stream c.at w) (c.at + length w) =
      record { octets = refl; next = refl } in
      omega (
        arith,
        length-append w (contentBits text work e j.code.learned c j.content s.alignment),
        code-few,
        content-length j.code.learned s.alignment e (content-asks p),
      )
