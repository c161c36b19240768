-- The answer at each test of a record, and what the tests give.
use mathlib.Core.Path.{◌≡◌, refl, sym, ap, ◌∙◌}
use mathlib.Core.Bool.{Bool, true, false, not, ◌&&◌, ◌||◌, true≢false}
use Prim.Native.Nat.{ℕ, ◌+◌, ◌*◌, ◌-◌, ◌≤◌, ◌<◌}
use native.Mathlib.Omega.{arith}
use lib.Dec.{leb, ltb, eqb}
use borrow.Author.Tests.{eq-eqb, ne_eqb, le-leb, lt-leb, lt-ltb, leb-true, leb-false, ltb-true}
use borrow.Author.Tests.{eqb-true, not-true, not-false}
use Rattle.spec_fields.specs.Refusal.{number_of, room}
use Rattle.spec_fields.proofs.Tests.{split}
use Rattle.spec_exi.specs.Settings.{meaningful}
use Rattle.spec_exi.specs.Sizes.{max_stream, max_events, max_open, max_uris, max_names, max_values}
use Rattle.spec_exi.specs.Sizes.{max_grammars, max_learned, max_string, max_store, event_cells, reader_work}
use Rattle.settings.specs.Meant.{numbers_of}
use Rattle.mem_layout.specs.Layout.{name_rows}
use Rattle.event_code.specs.Numbers.{in_tag, in_element}
use Rattle.mem_rows.specs.Rows.{ModeFits}
use Rattle.mem_state.specs.declared.Core.{Core}
use Rattle.mem_state.specs.Holds.{Bounded}
use Rattle.receiver_record.specs.reader.declared.ReadReply.{ReadReply}
use Rattle.receiver_record.specs.declared.Receiver.{Receiver}
use Rattle.receiver_record.specs.Record.{is_started, going_on, is_refused, is_closed, refusal_at}
use Rattle.receiver_course.specs.declared.Course.{Course}
use Rattle.receiver_course.specs.declared.Course.TheVariants.{Repeats, Refused, Reads}
use Rattle.receiver_course.specs.Course.{has_room, values_in, tables_in, elements_in, numbers_in}
use Rattle.receiver_course.specs.Course.{is_sound, course_of, Within}

-- ---- soundness

pub not-closed : {n : ℕ} → n ≡ is_refused → n ≡ is_closed → ⊥
not-closed e f = let z : ◌≡◌ {A = ℕ} 2 3 = sym e ∙ f in absurd (omega arith)

pub going-not-started : {n : ℕ} → n ≡ going_on → n ≡ is_started → ⊥
going-not-started e f = let z : ◌≡◌ {A = ℕ} 1 0 = sym e ∙ f in absurd (omega arith)

module _ (r : Receiver) where
  pub started-sound : r.phase ≡ 0 → eqb r.octets 0 ≡ is_sound r
  unfolding is_sound
  started-sound e = rw (eq-eqb r.phase 0 e)

  pub other-phase : (r.phase ≡ 0 → ⊥) → (r.phase ≡ 1 → ⊥) → false ≡ is_sound r
  unfolding is_sound
  other-phase a b = rw (ne_eqb r.phase 0 a, ne_eqb r.phase 1 b)

  module _ (b : r.phase ≡ 1) where
    pub too_many : 16384 < r.octets → false ≡ is_sound r
    unfolding is_sound max_stream
    too_many h =
        rw (ne_eqb r.phase 0 (going-not-started b), eq-eqb r.phase 1 b, lt-leb r.octets 16384 h)

    pub going_on_lem : r.octets ≤ 16384 → numbers_in r ≡ is_sound r
    unfolding is_sound max_stream
    going_on_lem h =
        rw (ne_eqb r.phase 0 (going-not-started b), eq-eqb r.phase 1 b, le-leb r.octets 16384 h)

  pub sound-few : is_sound r ≡ true → r.octets ≤ 16384
  unfolding is_sound max_stream
  sound-few h =
      split (leb r.octets 16384) (λ e. leb-true r.octets 16384 e)
      (λ e. split (eqb r.phase 0)
      (λ z. let o : r.octets ≡ 0 = eqb-true r.octets 0 (rw z at h) in omega arith)
      (λ z. split (eqb r.phase 1) (λ t. absurd (true≢false (sym (rw (z, t, e) at h))))
      (λ t. absurd (true≢false (sym (rw (z, t) at h))))))

-- ---- the course

module _ (r : Receiver) (k : ℕ) (roomy : Bool) where
  pub is-closed : r.phase ≡ 3 → Repeats ≡ course_of r k roomy
  unfolding course_of
  is-closed e = rw (eq-eqb r.phase 3 e)

  module _ (a : r.phase ≡ 3 → ⊥) where
    pub is-refused : r.phase ≡ 2 → Refused r.reply ≡ course_of r k roomy
    unfolding course_of
    is-refused e = rw (ne_eqb r.phase 3 a, eq-eqb r.phase 2 e)

    module _ (b : r.phase ≡ 2 → ⊥) where
      pub no_room : {z : ReadReply} → not roomy ≡ true → z ≡ refusal_at 1 0
          → Refused z ≡ course_of r k roomy
      unfolding course_of number_of
      no_room h e = rw (ne_eqb r.phase 3 a, ne_eqb r.phase 2 b, not-true roomy h, e)

      module _ (c : not roomy ≡ false) {t : Bool} (f : t ≡ meaningful (numbers_of r.settings))
        where
          pub no-meaning : {z : ReadReply} → not t ≡ true → z ≡ refusal_at 2 0
              → Refused z ≡ course_of r k roomy
          unfolding course_of number_of
          no-meaning h e =
              rw (
                ne_eqb r.phase 3 a,
                ne_eqb r.phase 2 b,
                not-false roomy c,
                ← f,
                not-true t h,
                e,
              )

          module _ (d : not t ≡ false) {s : Bool} (g : s ≡ is_sound r) where
            pub not_sound : {z : ReadReply} → not s ≡ true → z ≡ refusal_at 2 0
                → Refused z ≡ course_of r k roomy
            unfolding course_of number_of
            not_sound h e =
                rw (
                  ne_eqb r.phase 3 a,
                  ne_eqb r.phase 2 b,
                  not-false roomy c,
                  ← f,
                  not-false t d,
                  ← g,
                  not-true s h,
                  e,
                )

            module _ (h : not s ≡ false) where
              few : r.octets ≤ 16384
              few = sound-few r (sym g ∙ not-false s h)

              pub is-long : {z : ReadReply} → 16384 - r.octets < k → z ≡ refusal_at 3 0
                  → Refused z ≡ course_of r k roomy
              unfolding course_of number_of max_stream
              is-long l e =
                  let o : r.octets ≤ 16384 = few in
                  rw (
                    ne_eqb r.phase 3 a,
                    ne_eqb r.phase 2 b,
                    not-false roomy c,
                    ← f,
                    not-false t d,
                    ← g,
                    not-false s h,
                    lt-leb (r.octets + k) 16384 (omega arith),
                    e,
                  )

              pub is_read : k ≤ 16384 - r.octets → Reads ≡ course_of r k roomy
              unfolding course_of max_stream
              is_read l =
                  let o : r.octets ≤ 16384 = few in
                  rw (
                    ne_eqb r.phase 3 a,
                    ne_eqb r.phase 2 b,
                    not-false roomy c,
                    ← f,
                    not-false t d,
                    ← g,
                    not-false s h,
                    le-leb (r.octets + k) 16384 (omega arith),
                  )

-- ---- what octets that are read have passed

unfoldable is_reads : Course → Bool
is_reads Repeats = false
is_reads (Refused y) = false
is_reads Reads = true

pub record Passed (r : Receiver) (k : ℕ) (roomy : Bool) : Type 0 where
  pub room : roomy ≡ true
  pub meant : meaningful (numbers_of r.settings) ≡ true
  pub sound : is_sound r ≡ true
  pub few : r.octets + k ≤ max_stream

passes : (r : Receiver) (k : ℕ) (roomy : Bool) → is_reads (course_of r k roomy) ≡ true
    → Passed r k roomy
unfolding is_reads course_of
passes r k roomy h =
    split (eqb r.phase 3) (λ a. absurd (true≢false (sym (rw a at h))))
    (λ a. split (eqb r.phase 2) (λ b. absurd (true≢false (sym (rw (a, b) at h))))
    (λ b. split roomy
    (λ c. split (meaningful (numbers_of r.settings))
    (λ d. split (is_sound r)
    (λ e. split (leb (r.octets + k) max_stream)
    (λ f. record { room = c; meant = d; sound = e; few = leb-true (r.octets + k) max_stream f })
    (λ f. absurd (true≢false (sym (rw (a, b, c, d, e, f) at h)))))
    (λ e. absurd (true≢false (sym (rw (a, b, c, d, e) at h)))))
    (λ d. absurd (true≢false (sym (rw (a, b, c, d) at h)))))
    (λ c. absurd (true≢false (sym (rw (a, b, c) at h))))))

pub reads-passed : (r : Receiver) (k : ℕ) (roomy : Bool) {way : Course} → way ≡ course_of r k roomy
    → way ≡ Reads → Passed r k roomy
unfolding is_reads
reads-passed r k roomy e g = passes r k roomy (ap is_reads (sym e ∙ g))

-- ---- what the tests give

pub record Both (a b : Bool) : Type 0 where
  pub one : a ≡ true
  pub other : b ≡ true

pub both : (a b : Bool) → (a && b) ≡ true → Both a b
both true b h = record { one = refl; other = h }
both false b h = absurd (true≢false (sym h))

either : {A : Type 0} (a b : Bool) → (a || b) ≡ true → (a ≡ true → A) → (b ≡ true → A) → A
either true b h f g = f refl
either false b h f g = g h

-- Lengths that are not too short.
pub record Roomy (held events text work : ℕ) : Type 0 where
  pub octets : max_stream ≤ held
  pub cells : event_cells ≤ events
  pub store : max_store ≤ text
  pub rows : reader_work ≤ work

pub roomy-is : (h e t w : ℕ) → has_room h e t w ≡ true → Roomy h e t w
unfolding has_room
roomy-is h e t w x =
    let c₃ = both _ _ x in
    let c₂ = both _ _ c₃.one in
    let c₁ = both _ _ c₂.one in
    record {
      octets = leb-true max_stream h c₁.one;
      cells = leb-true event_cells e c₁.other;
      store = leb-true max_store t c₂.other;
      rows = leb-true reader_work w c₃.other;
    }

mode-fits : (c : Core) → leb c.mode in_element ≡ true
    → (leb in_tag c.mode || eqb c.depth 0) ≡ true → (ltb c.mode in_tag || ltb 0 c.depth) ≡ true
    → ModeFits c.mode c.depth
mode-fits c known outer inner =
    record {
      known = leb-true c.mode in_element known;
      outer = λ l. either (leb in_tag c.mode) (eqb c.depth 0) outer
          (λ e. let h = leb-true in_tag c.mode e in absurd (omega arith))
          (λ e. eqb-true c.depth 0 e);
      inner = λ l. either (ltb c.mode in_tag) (ltb 0 c.depth) inner
          (λ e. let h = ltb-true c.mode in_tag e in absurd (omega arith))
          (λ e. ltb-true 0 c.depth e);
    }

core-bounded : (c : Core) → tables_in c ≡ true → elements_in c ≡ true → Bounded c
unfolding tables_in values_in elements_in
core-bounded c t e =
    let t₅ = both _ _ t in
    let t₄ = both _ _ t₅.one in
    let t₃ = both _ _ t₄.one in
    let t₂ = both _ _ t₃.one in
    let t₁ = both _ _ t₂.one in
    let v = both _ _ t₁.one in
    let e₅ = both _ _ e in
    let e₄ = both _ _ e₅.one in
    let e₃ = both _ _ e₄.one in
    let e₂ = both _ _ e₃.one in
    let e₁ = both _ _ e₂.one in
    record {
      stored = leb-true c.stored max_store t₁.other;
      uris = leb-true c.uris max_uris t₂.other;
      names = leb-true c.names max_names t₃.other;
      values = leb-true c.values c.stored v.one;
      learned = leb-true c.learned max_learned t₄.other;
      grammars = leb-true c.grammars max_grammars t₅.other;
      top = ltb-true c.top name_rows e₂.other;
      depth = leb-true c.depth max_open e₁.other;
      fits = mode-fits c e₃.other e₄.other e₅.other;
      tag = leb-true c.tag (max_events + 1) e₁.one;
      capacity = leb-true c.capacity (max_values + 1) v.other;
    }

numbers-within : (r : Receiver) → numbers_in r ≡ true → Within r
unfolding numbers_in
numbers-within r h =
    let c₅ = both _ _ h in
    let c₄ = both _ _ c₅.one in
    let c₃ = both _ _ c₄.one in
    let c₂ = both _ _ c₃.one in
    let c₁ = both _ _ c₂.one in
    record {
      place = leb-true r.state.core.at (8 * r.octets) c₂.other;
      bounded = core-bounded r.state.core c₁.one c₁.other;
      few = leb-true r.reply.events max_events c₃.other;
      waits = leb-true r.wait.at (8 * r.octets) c₄.other;
      awaited = leb-true r.wait.left max_string c₅.other;
    }

-- A record that is sound and not at the start goes on, within its bounds.
module _ (r : Receiver) (sound : is_sound r ≡ true) where
  module _ (a : r.phase ≡ is_started → ⊥) where
    pub sound-goes : r.phase ≡ going_on
    sound-goes =
        split (eqb r.phase going_on) (λ e. eqb-true r.phase going_on e)
        (λ e. absurd (true≢false (sym sound
        ∙ sym (other-phase r a (λ f. true≢false (sym (eq-eqb r.phase going_on f) ∙ e))))))

    pub sound-within : Within r
    unfolding is_sound max_stream
    sound-within =
        numbers-within r
        (rw (
          ne_eqb r.phase is_started a,
          eq-eqb r.phase going_on sound-goes,
          le-leb r.octets max_stream (sound-few r sound),
        ) at sound)

-- ---- a record within its bounds is sound

tables-are : (c : Core) → Bounded c → tables_in c ≡ true
unfolding tables_in values_in
tables-are c b =
    rw (
      le-leb c.stored max_store b.stored,
      le-leb c.uris max_uris b.uris,
      le-leb c.names max_names b.names,
      le-leb c.values c.stored b.values,
      le-leb c.learned max_learned b.learned,
      le-leb c.grammars max_grammars b.grammars,
      le-leb c.capacity (max_values + 1) b.capacity,
    )

elements-are : (c : Core) → Bounded c → elements_in c ≡ true
unfolding elements_in
elements-are c b =
    rw (
      le-leb c.tag (max_events + 1) b.tag,
      le-leb c.depth max_open b.depth,
      lt-ltb c.top name_rows b.top,
      le-leb c.mode in_element b.fits.known,
    )
    (split (leb in_tag c.mode)
    (λ e.
    let inside = lt-ltb 0 c.depth (b.fits.inner (leb-true in_tag c.mode e)) in
    split (ltb c.mode in_tag) (λ f. rw (e, f)) (λ f. rw (e, f, inside)))
    (λ e.
    let l : c.mode < in_tag = leb-false in_tag c.mode e in
    rw (e, eq-eqb c.depth 0 (b.fits.outer l), lt-ltb c.mode in_tag l)))

pub within-sound : (r : Receiver) → r.phase ≡ going_on → r.octets ≤ max_stream → Within r
    → is_sound r ≡ true
unfolding is_sound numbers_in
within-sound r e l w =
    rw (
      eq-eqb r.phase going_on e,
      ne_eqb r.phase is_started (going-not-started e),
      le-leb r.octets max_stream l,
      tables-are r.state.core w.bounded,
      elements-are r.state.core w.bounded,
      le-leb r.state.core.at (8 * r.octets) w.place,
      le-leb r.reply.events max_events w.few,
      le-leb r.wait.at (8 * r.octets) w.waits,
      le-leb r.wait.left max_string w.awaited,
    )
