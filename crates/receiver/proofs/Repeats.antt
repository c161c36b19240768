-- Calls after the close.
use mathlib.Core.Path.{◌≡◌, refl, sym, ap, ◌∙◌}
use mathlib.Core.Bool.{Bool, true, false, cond, true≢false}
use mathlib.Core.List.{List}
use Prim.Native.Nat.{ℕ, ◌+◌}
use lib.ListN.{length}
use lib.Dec.{leb, eqb}
use borrow.Author.Tests.{eqb-true}
use Rattle.spec_fields.proofs.Tests.{split}
use Rattle.spec_exi.specs.Settings.{meaningful}
use Rattle.spec_exi.specs.Sizes.{max_stream}
use Rattle.settings.specs.Meant.{numbers_of}
use Rattle.event_code.specs.Numbers.{is_over}
use Rattle.receiver_piece.specs.reader.declared.ReadReply.{ReadReply}
use Rattle.receiver_piece.specs.receiver_record.declared.Receiver.{Receiver}
use Rattle.receiver_piece.specs.receiver_record.Record.{is_started, is_closed, Lent, cleared, Left, left}
use Rattle.receiver_piece.specs.receiver_course.declared.Course.{Course}
use Rattle.receiver_piece.specs.receiver_course.declared.Course.TheVariants.{Repeats, Refused, Reads}
use Rattle.receiver_piece.specs.receiver_course.Course.{is_sound, course_of}
use Rattle.receiver_piece.proofs.receiver_course.Ways.{is-closed}
use Rattle.receiver_piece.specs.receiver_phases.Phases.{repeated, closed_by, closed_whole}
use Rattle.receiver_piece.specs.Piece.{room_in}
use Rattle.receiver.specs.Calls.{Fed, closed_now, closed_to, Closed}

-- The record is closed, and has the reply.
pub record Over (r : Receiver) (y : ReadReply) : Type 0 where
  pub closed : r.phase ≡ is_closed
  pub reply : r.reply ≡ y

abbrev OverIn : Left → Type 0
OverIn x = Over x.receiver x.reply

over_by : (r : Receiver) (z : ReadReply) (m : Lent) → OverIn (closed_by r z m)
unfolding closed_by
over_by r z m = record { closed = refl; reply = refl }

over-whole : (r : Receiver) (m : Lent) → OverIn (closed_whole r m)
unfolding closed_whole
over-whole r m = record { closed = refl; reply = refl }

over-now : (r : Receiver) (m : Lent) → OverIn (closed_now r m)
unfolding closed_now
over-now r m =
    split (eqb r.phase is_started) (λ e. rw e (over_by r _ m))
    (λ e. split (eqb r.state.core.mode is_over) (λ f. rw (e, f) (over-whole r m))
    (λ f. rw (e, f) (over_by r _ m)))

unfoldable is_repeats : Course → Bool
is_repeats Repeats = true
is_repeats (Refused y) = false
is_repeats Reads = false

repeats-closed : (r : Receiver) (k : ℕ) (roomy : Bool) → is_repeats (course_of r k roomy) ≡ true
    → r.phase ≡ is_closed
unfolding is_repeats course_of
repeats-closed r k roomy h =
    split (eqb r.phase 3) (λ a. eqb-true r.phase 3 a)
    (λ a. split (eqb r.phase 2) (λ b. absurd (true≢false (sym (rw (a, b) at h))))
    (λ b. split roomy
    (λ c. split (meaningful (numbers_of r.settings))
    (λ d. split (is_sound r)
    (λ e. split (leb (r.octets + k) max_stream)
    (λ f. absurd (true≢false (sym (rw (a, b, c, d, e, f) at h))))
    (λ f. absurd (true≢false (sym (rw (a, b, c, d, e, f) at h)))))
    (λ e. absurd (true≢false (sym (rw (a, b, c, d, e) at h)))))
    (λ d. absurd (true≢false (sym (rw (a, b, c, d) at h)))))
    (λ c. absurd (true≢false (sym (rw (a, b, c) at h))))))

over-to : (w : Course) (r : Receiver) (m : Lent) → (w ≡ Repeats → r.phase ≡ is_closed)
    → OverIn (closed_to w r m)
unfolding closed_to repeated
over-to Repeats r m f = record { closed = f refl; reply = refl }
over-to (Refused z) r m f = over_by r z m
over-to Reads r m f = over-now r m

pub over : {r r' : Receiver} {m m' : Lent} {y : ReadReply} → Closed r m r' m' y → Over r' y
unfolding is_repeats
over {r} {m = m} c =
    let h =
    over-to (course_of r 0 (room_in m)) r m
    (λ e. repeats-closed r 0 (room_in m) (ap is_repeats e)) in
    record {
      closed = ap (λ (x : Left). x.receiver.phase) c.is ∙ h.closed;
      reply = ap (λ (x : Left). x.receiver.reply) c.is ∙ h.reply
          ∙ sym (ap (λ (x : Left). x.reply) c.is);
    }

-- What a closed record repeats.
again : (r : Receiver) (m : Lent) (y : ReadReply) → r.reply ≡ y
    → repeated r m ≡ left r (cond (eqb y.number 0) m (cleared m)) y
unfolding repeated
again r m y e = ap (λ (z : ReadReply). left r (cond (eqb z.number 0) m (cleared m)) z) e

pub repeats : {r r' r'' : Receiver} {m m' n n'' : Lent} {y z : ReadReply} (p : List ℕ)
    → Closed r m r' m' y → Fed r' p n r'' n'' z
    → left r'' n'' z ≡ left r' (cond (eqb y.number 0) n (cleared n)) y
repeats {r' = r'} {n = n} {y = y} p c f =
    f.repeats (sym (is-closed r' (length p) (room_in n) (over c).closed))
    ∙ again r' n y (over c).reply

pub repeats-close : {r r' r'' : Receiver} {m m' n n'' : Lent} {y z : ReadReply} → Closed r m r' m' y
    → Closed r' n r'' n'' z → left r'' n'' z ≡ left r' (cond (eqb y.number 0) n (cleared n)) y
unfolding closed_to
repeats-close {r' = r'} {n = n} {y = y} c f =
    f.is ∙ ap (λ (w : Course). closed_to w r' n) (sym (is-closed r' 0 (room_in n) (over c).closed))
    ∙ again r' n y (over c).reply
