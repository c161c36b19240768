-- Reply and cells of an answer.
use mathlib.Core.Path.{◌≡◌, sym, ap, ◌∙◌}
use mathlib.Core.Bool.{true}
use mathlib.Core.List.{List, ◌++◌}
use Prim.Native.Nat.{ℕ, ◌+◌, ◌-◌, ◌≤◌}
use native.Mathlib.Decide.{ℕ_discrete}
use lib.ListN.{length, take, replicate, take-append-drop}
use lib.Seq.{length-take-le}
use Rattle.spec_fields.specs.Refusal.{Refusal, number_of, Answer, refused, accepted}
use Rattle.spec_exi.specs.Settings.{Settings, SettingNumbers, meaningful, settings_of}
use Rattle.spec_exi.specs.Sizes.{sizes, max_stream}
use Rattle.spec_exi.specs.Reader.{Reading, ReaderRoom, enough_to_read, read_reply}
use Rattle.spec_exi.specs.Packets.{complete, receive}
use Rattle.event_code.specs.Numbers.{is_over}
use Rattle.read_literal.proofs.Store.{zero-drop}
use Rattle.grammar_open.specs.declared.State.{State}
use Rattle.receiver_phases.specs.reader.Read.{reply_of, events_filled, text_filled}
use Rattle.receiver_phases.specs.receiver_record.Record.{refusal_at, Lent, lent, cleared}
use Rattle.receiver_wait.specs.receiver_read.On.{Stands}
use Rattle.receiver_piece.specs.Piece.{shown, Told}
use Rattle.receiver_piece.proofs.Room.{receive-whole, receive-cut}

-- A refusal's: all is cleared.
pub told-refused : (m : Lent) {m' : Lent} {k : Refusal} {number i : ℕ} {a : Answer Reading}
    → a ≡ refused k i → number ≡ number_of k → m' ≡ cleared m
    → Told a m m' (refusal_at number i)
unfolding reply_of read_reply refusal_at events_filled text_filled cleared
told-refused m e n c =
    record { reply = rw (e, n); events = rw (e, c); text = rw (e, c) }

-- Octets after which it stands.
module _ {s : Settings} {stream events text work : List ℕ} {st : State} {n : ℕ}
    (h : Stands s stream events text work st n) (few : st.core.stored ≤ length text) where
  text-is : text ≡ take st.core.stored text ++ replicate (length text - st.core.stored) 0
  text-is =
      sym (take-append-drop st.core.stored text)
      ∙ ap (λ (l : List ℕ). take st.core.stored text ++ l)
      (zero-drop text st.core.stored h.underway.zeros)

  pub told-stands : (held : List ℕ) (m : Lent) {a : Answer Reading} → a ≡ accepted (complete s stream)
      → length events ≡ length m.events → length text ≡ length m.text
      → Told a m (lent held events text work) (shown n st.core.stored)
  unfolding reply_of read_reply shown events_filled text_filled
  told-stands held m e f g =
      record {
        reply = rw (e, h.shows, h.underway.count, length-take-le st.core.stored text few);
        events = rw (e, h.shows, ← f) h.underway.cells;
        text = rw (e, h.shows, length-take-le st.core.stored text few, ← g) text-is;
      }

-- What is answered to them: they are whole, or ended.
module _ (r : ReaderRoom) (o : SettingNumbers) (os : List ℕ) (a : enough_to_read sizes r ≡ true)
    (b : meaningful o ≡ true) (l : length os ≤ max_stream) {events text work : List ℕ} {st : State}
    {n : ℕ} (h : Stands (settings_of o) os events text work st n) where
  pub receive-stands : receive r o os ≡ accepted (complete (settings_of o) os)
  receive-stands = elim (ℕ_discrete st.core.mode is_over) [
    | yes e ↦ receive-whole r o os a b l (h.whole e)
    | no e ↦
        let (k, is, answer) = h.cut e in
        receive-cut r o os a b l answer is
  ]
