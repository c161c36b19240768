-- What each function leaves, from what its callees left.
use mathlib.Core.Path.{◌≡◌, refl, ◌∙◌}
use mathlib.Core.List.{List}
use Prim.Native.Nat.{ℕ, ◌+◌, ◌≤◌, ◌<◌}
use native.Mathlib.Numerals.{add-one}
use native.Mathlib.Omega.{arith}
use lib.ListN.{length, get_or, set, length-set}
use lib.Seq.{take_all, paste, paste-zero, paste-suc}
use borrow.Author.Tests.{eq-eqb, ne_eqb}
use Rattle.receiver_course.specs.reader.declared.ReadReply.{ReadReply}
use Rattle.receiver_course.specs.receiver_record.declared.Receiver.{Receiver}
use Rattle.receiver_course.specs.receiver_record.Record.{is_refused, is_closed, with_reply, Lent, lent, zeros, cleared}
use Rattle.receiver_course.specs.receiver_record.Record.{left}
use Rattle.receiver_course.specs.Course.{counted, refused_after}
use Rattle.receiver_phases.specs.Phases.{kept, repeated, refused, closed_by, closed_whole}

pub all-cleared : (h e t w : List ℕ) {h' e' t' w' : List ℕ} → h' ≡ zeros h → e' ≡ zeros e
    → t' ≡ zeros t → w' ≡ zeros w → ◌≡◌ {A = Lent} (lent h' e' t' w') (cleared (lent h e t w))
unfolding cleared
all-cleared h e t w a b c d = rw (a, b, c, d)

-- ---- each way of a call

module _ (r : Receiver) (m : Lent) where
  pub repeats-as-it-was : r.reply.number ≡ 0 → left r m r.reply ≡ repeated r m
  unfolding repeated
  repeats-as-it-was e = rw (eq-eqb r.reply.number 0 e)

  pub repeats-cleared : {m' : Lent} → (r.reply.number ≡ 0 → ⊥) → m' ≡ cleared m
      → left r m' r.reply ≡ repeated r m
  unfolding repeated
  repeats-cleared e c = rw (ne_eqb r.reply.number 0 e, c)

  pub refuses : {m' : Lent} (y : ReadReply) {z : ReadReply} (k : ℕ) {n : ℕ} → m' ≡ cleared m
      → n ≡ counted r.octets k → z ≡ refused_after n y
      → left (with_reply r is_refused n z) m' z ≡ refused r y k m
  unfolding refused
  refuses y k c e f = rw (c, f, e)

  pub closes : {m' : Lent} {y : ReadReply} → m' ≡ cleared m
      → left (with_reply r is_closed r.octets y) m' y ≡ closed_by r y m
  unfolding closed_by
  closes c = rw c

pub closes-whole : (r : Receiver) (m : Lent) {h' w' : List ℕ} → h' ≡ zeros m.held
    → w' ≡ zeros m.work
    → left (with_reply r is_closed r.octets r.reply) (lent h' m.events m.text w')
    r.reply
    ≡ closed_whole r m
unfolding closed_whole
closes-whole r m a b = rw (a, b)

-- ---- the loop that keeps a piece

-- The first i octets of the piece lie after the first n.
pub record Keeping (held : List ℕ) (n : ℕ) (piece x : List ℕ) (i : ℕ) : Type 0 where
  pub fits : n + length piece ≤ length held
  pub few : i ≤ length piece
  pub same : length x ≡ length held
  pub is : x ≡ paste held n piece i

pub none_kept : (held : List ℕ) (n : ℕ) (piece : List ℕ) → n + length piece ≤ length held
    → Keeping held n piece held 0
none_kept held n piece h =
    record { fits = h; few = omega arith; same = refl; is = paste-zero held n piece }

pub one_kept : {held : List ℕ} {n : ℕ} {piece x : List ℕ} {i v : ℕ} → Keeping held n piece x i
    → i < length piece → v ≡ get_or piece i 0 → Keeping held n piece (set x (n + i) v) (i + 1)
one_kept {held} {n} {piece} {x} {i} {v} c h e =
    let l : n + i < length held = omega (arith, c.fits) in
    record {
      fits = c.fits;
      few = omega arith;
      same = simp length-set c.same;
      is = rw (e, c.is, add-one) (paste-suc held n piece i 0 l h);
    }

pub all-kept : {held : List ℕ} {n : ℕ} {piece x : List ℕ} {i : ℕ} → Keeping held n piece x i
    → length piece ≤ i → x ≡ kept held n piece
unfolding kept
all-kept {held} {n} {piece} {x} {i} c h =
    let e : i ≡ length piece = omega (arith, c.few) in
    c.is ∙ rw (e, take_all (length piece) piece (omega arith))
