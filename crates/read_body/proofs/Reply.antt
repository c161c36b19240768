-- The reply to an answer.
use mathlib.Core.Path.{◌≡◌, refl, sym, ap}
use mathlib.Core.Bool.{true, false, true≢false}
use mathlib.Core.List.{List}
use Prim.Native.Nat.{ℕ, ◌<◌}
use native.Mathlib.Omega.{arith}
use lib.ListN.{replicate}
use Rattle.spec_fields.specs.Refusal.{Refusal, number_of, Answer, refused, accepted}
use Rattle.spec_fields.proofs.Refusal.{refusal-number}
use Rattle.spec_exi.specs.Reader.{Reading, read_reply}
use Rattle.std.specs.Prelude as std
use Rattle.read_body.specs.declared.Counts.{Counts}
use Rattle.read_body.specs.declared.Stop.{Stop}
use Rattle.read_body.specs.Reply.{BodyReply, body_in, reply_of, events_filled, text_filled}
use Rattle.read_body.specs.Reply.{Attempted, refused_as, refusal_of}

pub refused-is : {x : Stop} {number index : ℕ} → x ≡ refused_as number index
    → body_in (std.Err x) ≡ refusal_of number index
unfolding refusal_of
refused-is e = ap (λ y. body_in (std.Err y)) e

pub refused-some : {x : Stop} {number index : ℕ} → x ≡ refused_as number index → 0 < number
    → 0 < x.number
refused-some e some = rw e some

-- An error is a refusal, and no other answer is.
pub error-number : (r : std.Result Counts Stop) → std.is_err r ≡ true
    → std.IfErr r (λ x. 0 < x.number) → (body_in r).number ≡ 0 → ⊥
error-number (std.Ok c) e some z = absurd (true≢false (sym e))
error-number (std.Err x) e some z = absurd (omega (arith, some, z))

pub counts-number : (r : std.Result Counts Stop) → std.is_err r ≡ false
    → (body_in r).number ≡ 0
counts-number (std.Ok c) e = refl
counts-number (std.Err x) e = absurd (true≢false e)

module _ {events text events' text' : List ℕ} {r : BodyReply} where
  pub attempted-refused : {x : Answer Reading} (k : Refusal) (i number index : ℕ)
      → x ≡ refused k i → number ≡ number_of k → index ≡ i → r ≡ refusal_of number index
      → Attempted x events text events' text' r
  unfolding reply_of read_reply refusal_of
  attempted-refused {x} k i number index e n m is =
      let some : 0 < r.number =
      omega (arith, refusal-number k, ap (λ (y : BodyReply). y.number) is) in
      record {
        reply = rw (is, e, n, m);
        cells = λ z. absurd (omega arith);
        store = λ z. absurd (omega arith);
      }

  accepted-number : (v : Reading) → Attempted (accepted v) events text events' text' r
      → r.number ≡ 0
  unfolding reply_of read_reply
  accepted-number v a = ap (λ y. y.number) a.reply

  -- A refusal's cells are all zeros.
  module _ (n : ℕ) where
    pub refused-events : (x : Answer Reading) → Attempted x events text events' text' r
        → (r.number ≡ 0 → ⊥) → replicate n 0 ≡ events_filled n x
    unfolding events_filled
    refused-events (refused k i) a h = refl
    refused-events (accepted v) a h = absurd (h (accepted-number v a))

    pub refused-text : (x : Answer Reading) → Attempted x events text events' text' r
        → (r.number ≡ 0 → ⊥) → replicate n 0 ≡ text_filled n x
    unfolding text_filled
    refused-text (refused k i) a h = refl
    refused-text (accepted v) a h = absurd (h (accepted-number v a))
