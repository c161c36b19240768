-- The answer for a list and for what is lent, and the reply to it.
use Prim.Native.Nat.{ℕ, ◌+◌, ◌-◌, ◌/◌, ◌≤◌, ◌<◌}
use native.Mathlib.Omega.{arith}
use mathlib.Core.Path.{◌≡◌, refl, sym, ap, subst, ◌∙◌}
use mathlib.Core.Bool.{Bool, true, false, ◌&&◌, ◌||◌, not, true≢false}
use mathlib.Core.List.{List, ◌++◌}
use lib.ListN.{length, replicate, length-replicate}
use lib.Dec.{leb, ltb}
use borrow.Author.Tests.{le-leb, lt-leb, ltb-true, ltb-false, not-false}
use Rattle.spec_fields.specs.Bits.{Bits, unpack, octets_for, pack}
use Rattle.spec_fields.specs.Refusal.{Refusal, number_of, room, settings, long, Answer, refused, number_room, number_long}
use Rattle.spec_fields.specs.Refusal.{accepted, number_settings}
use Rattle.spec_fields.proofs.Tests.{split}
use Rattle.spec_fields.proofs.Refusal.{refusal-number}
use Rattle.text.specs.Text.{Text}
use Rattle.spec_exi.specs.Settings.{meaningful, settings_of, header_of}
use Rattle.spec_exi.specs.Settings as format
use Rattle.spec_exi.specs.Sizes.{sizes, max_stream, max_events, max_values, reader_work, writer_work}
use Rattle.spec_exi.specs.Context.{start}
use Rattle.spec_exi.specs.Writer.{Stored, write_events, as_octets, write_list, enough_to_write}
use Rattle.spec_exi.specs.Writer.{write_reply}
use Rattle.spec_exi.specs.Writer as format-writer
use Rattle.settings.specs.Meant.{numbers_of, settings_meant, settings_from}
use Rattle.settings.proofs.Laws.{settings-from, capacity-few}
use Rattle.settings.specs.declared.SettingNumbers.{SettingNumbers}
use Rattle.settings.specs.declared.Settings.{Settings}
use Rattle.event.specs.Cells.{events_of}
use Rattle.write_field.specs.Written.{Put}
use Rattle.write_field.proofs.Written.{zeros-blank, put_then}
use Rattle.write_header.specs.Header.{HeaderPut}
use Rattle.write_run.specs.declared.Run.{Run}
use Rattle.writer.specs.declared.WriteReply as declared
use Rattle.writer.specs.Write.{lent, writer_room, answer_of, reply_of, filled, refused_as, Attempted}
use Rattle.writer.specs.Write.{PutListPre, ListPut, BodyPost}
use Rattle.writer.proofs.Octets.{pack-length, put-packed}

-- ---- an answer as it is replied

module _ {x : Answer (List ℕ)} {stream after : List ℕ} where
  attempted-refused : (k : Refusal) (i number index : ℕ) → x ≡ refused k i → number ≡ number_of k
      → index ≡ i → Attempted x stream after (refused_as number index)
  attempted-refused k i number index e n m =
      record {
        refused_as = λ k' i' e'.
            let a : number ≡ number_of k' = cc in
            let b : index ≡ i' = cc in
            rw (a, b);
        accepted-as = λ os e'. let z : ◌≡◌ {A = ℕ} 0 1 = cc in absurd (omega arith);
      }

  attempted-accepted : (os : List ℕ) (count : ℕ) → x ≡ accepted os → count ≡ length os
      → after ≡ os ++ replicate (length stream - length os) 0
      → Attempted x stream after (record { number = 0; index = 0; octets = count })
  attempted-accepted os count e n put =
      record {
        refused_as = λ k i e'. let z : ◌≡◌ {A = ℕ} 0 1 = cc in absurd (omega arith);
        accepted-as = λ os' e'. let same : os ≡ os' = cc in (rw (n, same), rw (← same) put);
      }

attempted-as : {x y : Answer (List ℕ)} {zeros stream after : List ℕ} {r : declared.WriteReply}
    → x ≡ y → length zeros ≡ length stream → Attempted x zeros after r → Attempted y stream after r
attempted-as e size a =
    record {
      refused_as = λ k i f. a.refused_as k i (e ∙ f);
      accepted-as = λ os f. let (same, put) = a.accepted-as os (e ∙ f) in (same, rw size at put);
    }

number_is : {r s : declared.WriteReply} → r ≡ s → r.number ≡ s.number
number_is e = ap (λ (y : declared.WriteReply). y.number) e

module _ {stream after : List ℕ} {r : declared.WriteReply} where
  pub reply-is : (x : Answer (List ℕ)) → Attempted x stream after r → reply_of r ≡ write_reply x
  unfolding reply_of write_reply
  reply-is (refused k i) a = rw (a.refused_as k i refl)
  reply-is (accepted os) a = rw (a.accepted-as os refl).0

  -- A refusal's octets are all zeros.
  pub refused-zeros : (n : ℕ) (x : Answer (List ℕ)) → Attempted x stream after r
      → (r.number ≡ 0 → ⊥) → replicate n 0 ≡ filled n x
  unfolding filled
  refused-zeros n (refused k i) a h = refl
  refused-zeros n (accepted os) a h = absurd (h (number_is (a.accepted-as os refl).0))

  pub accepted-octets : (x : Answer (List ℕ)) → Attempted x stream after r → r.number ≡ 0
      → after ≡ filled (length stream) x
  unfolding filled
  accepted-octets (refused k i) a h =
      absurd (omega (arith, refusal-number k, h, number_is (a.refused_as k i refl)))
  accepted-octets (accepted os) a h = (a.accepted-as os refl).1

-- ---- a list

module _ {s : format.Settings} {xs : List Stored} {store : Text} {stream mid : List ℕ} {at : ℕ}
    {after : List ℕ} {r : Run} (header : HeaderPut s stream mid at)
    (body : BodyPost s xs store mid at after r) where
  abbrev answer : Answer Bits
  answer = write_events max_events sizes s (start s) store xs

  module _ (k : Refusal) (i : ℕ) (e : answer ≡ refused k i) where
    run-refused : (r.number ≡ number_of k) × (r.index ≡ i)
    run-refused = body.means.refused_as k i e

    answer-refused : write_list sizes s xs store ≡ refused k i
    unfolding write_list as_octets
    answer-refused = rw e

  module _ (bs : Bits) (e : answer ≡ accepted bs) where
    abbrev os : List ℕ
    os = pack (unpack (header_of s) ++ bs)

    run-accepted : (r.number ≡ 0) × (r.index ≡ 0) × (bs ≡ body.bits)
    run-accepted = body.means.accepted-as bs e

    all-put : Put stream 0 (unpack (header_of s) ++ bs) after r.at
    all-put =
        put_then header
        (subst (λ u. Put mid at u after r.at) (sym run-accepted.2) body.put)

    octets-are : (r.at + 7) / 8 ≡ length os
    unfolding octets_for
    octets-are = rw (pack-length (unpack (header_of s) ++ bs)) (omega (arith, all-put.next))

    answer-long : max_stream < length os → write_list sizes s xs store ≡ refused long 0
    unfolding write_list as_octets
    answer-long l = rw (e, lt-leb (length os) max_stream l)

    answer-octets : length os ≤ max_stream → write_list sizes s xs store ≡ accepted os
    unfolding write_list as_octets
    answer-octets l = rw (e, le-leb (length os) max_stream l)

  pub list-refused : (r.number ≡ 0 → ⊥)
      → ListPut s xs store stream after (refused_as r.number r.index)
  list-refused h = by_answer answer refl where
    by_answer : (x : Answer Bits) → answer ≡ x
        → ListPut s xs store stream after (refused_as r.number r.index)
    by_answer (refused k i) e =
        attempted-refused k i r.number r.index (answer-refused k i e) (run-refused k i e).0
        (run-refused k i e).1
    by_answer (accepted bs) e = absurd (h (run-accepted bs e).0)

  module _ (none : r.number ≡ 0) where
    some_bits : (x : Answer Bits) → answer ≡ x → (bs : Bits) × (answer ≡ accepted bs)
    some_bits (refused k i) e = absurd (omega (arith, refusal-number k, (run-refused k i e).0))
    some_bits (accepted bs) e = (bs, e)

    pub list-long : max_stream < (r.at + 7) / 8 → ListPut s xs store stream after (refused_as number_long 0)
    unfolding max_stream number_of
    list-long l =
        let (bs, e) = some_bits answer refl in
        attempted-refused long 0 number_long 0 (answer-long bs e (omega (arith, octets-are bs e))) refl refl

    pub list_put : (r.at + 7) / 8 ≤ max_stream → max_stream ≤ length stream
        → ListPut s xs store stream after
        (record { number = 0; index = 0; octets = (r.at + 7) / 8 })
    unfolding max_stream
    list_put l enough =
        let (bs, e) = some_bits answer refl in
        let n = octets-are bs e in
        attempted-accepted (os bs e) ((r.at + 7) / 8) (answer-octets bs e (omega (arith, n))) n
        (put-packed (all-put bs e) (omega (arith, n)))

-- ---- what is lent

enough : (a b m n : ℕ) → (leb m a && leb n b) ≡ not (ltb a m || ltb b n)
enough a b m n =
    split (ltb a m) (λ e. rw (e, lt-leb m a (ltb-true a m e)))
    (λ e. rw (e, le-leb m a (ltb-false a m e))
    (split (ltb b n) (λ f. rw (f, lt-leb n b (ltb-true b n f)))
    (λ f. rw (f, le-leb n b (ltb-false b n f)))))

fits : (a b m n : ℕ) → (ltb a m || ltb b n) ≡ false → (m ≤ a) × (n ≤ b)
fits a b m n e =
    split (ltb a m) (λ f. absurd (true≢false (rw f at e)))
    (λ f. (ltb-false a m f, ltb-false b n (rw f at e)))

module _ (s : SettingNumbers) (stream events : List ℕ) (store : Text) (work : List ℕ) where
  abbrev answer-here : Answer (List ℕ)
  answer-here = answer_of s events store (lent stream work)

  abbrev too_short : Bool
  too_short = ltb (length stream) max_stream || ltb (length work) writer_work

  lent_is : (leb max_stream (length stream) && leb writer_work (length work)) ≡ not too_short
  lent_is = enough (length stream) (length work) max_stream writer_work

  pub no_room : (after : List ℕ) → too_short ≡ true
      → Attempted answer-here stream after (refused_as number_room 0)
  unfolding answer_of writer_room format-writer.write enough_to_write max_stream writer_work reader_work number_of
  no_room after e = attempted-refused room 0 number_room 0 (rw (lent_is, e)) refl refl

  module _ (few : too_short ≡ false) where
    pub list-asks : {zeros : List ℕ} → zeros ≡ replicate (length stream) 0 → {capacity : ℕ}
        → capacity ≤ max_values + 1 → PutListPre capacity zeros work
    unfolding max_stream writer_work reader_work
    list-asks e c =
        let (a, b) = fits (length stream) (length work) max_stream writer_work few in
        rw e (record {
          blank = zeros-blank (length stream);
          octets = rw (length-replicate {A = ℕ} (length stream) 0) a;
          rows = b;
          bound = c;
        })

    module _ {asked : Bool} (meant : asked ≡ meaningful (numbers_of s)) where
      pub bound-asked : {o : Settings} → not asked ≡ false → o ≡ settings_meant s
          → o.capacity ≤ max_values + 1
      unfolding settings_meant
      bound-asked e o_is =
          subst (λ n. n ≤ max_values + 1) (sym (ap (λ (x : Settings). x.capacity) o_is))
          (capacity-few s (sym meant ∙ not-false asked e))

      pub no-meaning : (after : List ℕ) → not asked ≡ true
          → Attempted answer-here stream after (refused_as number_settings 0)
      unfolding answer_of writer_room format-writer.write enough_to_write max_stream writer_work reader_work number_of
      no-meaning after e =
          attempted-refused settings 0 number_settings 0 (rw (lent_is, few, ← meant, e)) refl refl

      answer-list : not asked ≡ false
          → answer-here ≡ write_list sizes (settings_of (numbers_of s)) (events_of events) store
      unfolding answer_of writer_room format-writer.write enough_to_write max_stream writer_work reader_work
      answer-list e = rw (lent_is, few, ← meant, e)

      pub list-answered : {o : Settings} {zeros after : List ℕ} {r : declared.WriteReply}
          → not asked ≡ false → o ≡ settings_meant s → zeros ≡ replicate (length stream) 0
          → ListPut (settings_from o) (events_of events) store zeros after r
          → Attempted answer-here stream after r
      list-answered e o_is zeros-are a =
          attempted-as
          (ap (λ o. write_list sizes (settings_from o) (events_of events) store) o_is
          ∙ ap (λ x. write_list sizes x (events_of events) store) (settings-from s)
          ∙ sym (answer-list e))
          (ap length zeros-are ∙ length-replicate {A = ℕ} (length stream) 0) a
