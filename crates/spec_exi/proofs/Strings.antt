-- Strings are read exactly: a form that means a string, and then the string with the tables after
-- it.
use Prim.Native.Nat.{ℕ, zero, suc, ◌+◌, ◌-◌, ◌≤◌}
use native.Mathlib.Omega.{arith}
use mathlib.Core.Path.{◌≡◌, refl, sym, ◌∙◌, ap, subst}
use mathlib.Core.List.{List, [], ◌∷◌, ◌++◌, map, append-nil}
use mathlib.Core.Option.{Option, none, some, none-ne-some}
use lib.ListN.{length, get_elem?, length-map}
use lib.Dec.{T, leb, leb→le, le→leb}
use Rattle.spec_fields.specs.Bits.{Bits}
use Rattle.spec_fields.specs.Refusal.{character, limit, reference, loose, name}
use Rattle.spec_fields.specs.Parser.{times}
use Rattle.spec_fields.specs.Field.{choice_bits}
use Rattle.spec_fields.proofs.Exact.{Reads, Returned, Then, Mapped, reads_as, reads-return}
use Rattle.spec_fields.proofs.Exact.{reads-present, reads_then, reads-map, reads-guard}
use Rattle.spec_fields.proofs.Exact.{reads-checked}
use Rattle.spec_fields.proofs.Tests.{both, left, right}
use Rattle.spec_fields.proofs.Number.{Chosen, choice-reads, Unsigned, unsigned_reads}
use Rattle.text.specs.Text.{Text, is_char, all_chars}
use Rattle.spec_exi.specs.Sizes.{Sizes}
use Rattle.spec_exi.specs.Settings.{Settings}
use Rattle.spec_exi.specs.Tables.{Placed, Slot, Tables, Role, Partitions, compact, literals}
use Rattle.spec_exi.specs.Tables.{partitions_of, Form, hit, literal, eq_form, form_of, laid}
use Rattle.spec_exi.specs.Tables.{tables_after, name_allowed, text_allowed}
use Rattle.spec_exi.specs.Lists.{within_tables}
use Rattle.spec_exi.specs.Reader.{read_character, read_literal, read_hit, read_in, read_by_literals}
use Rattle.spec_exi.specs.Reader.{read_entry, read_form, read_string}
use Rattle.spec_exi.proofs.Derivation.{Characters, nothing, more, a_literal, Spelled}
use Rattle.spec_exi.proofs.Derivation.{compact_hit, compact_miss, literal_hit, literal_miss}

module _ (s : Settings) where
  character-reads : Reads (read_character s) (λ p w. Unsigned p w × T (is_char p))
  unfolding read_character
  character-reads = reads-checked unsigned_reads is_char character

  -- n characters.
  record Text-of (n : ℕ) (x : Text) (w : Bits) : Type 0 where
    sized : length x ≡ n
    characters : Characters s x w
    chars : T (all_chars x)

  characters-read : (n : ℕ) → Reads (times n (read_character s)) (Text-of n)
  unfolding times all_chars
  characters-read zero = reads_as (reads-return [])
      (λ x w h. rw (h.is, h.empty) (record { sized = refl; characters = nothing; chars = tt })) from
    where
      from : (x : Text) (w : Bits) → Text-of zero x w → Returned [] x w
      from x w h = none_left h.sized h.characters
        where
          none_left : {x : Text} {w : Bits} → length x ≡ 0 → Characters s x w → Returned [] x w
          none_left e nothing = record { is = refl; empty = refl }
          none_left e (more u c) = absurd (omega arith)
  characters-read (suc n) =
      reads_as (reads_then character-reads (λ p u h. reads-map (characters-read n) (λ x. p ∷ x)))
      (λ x w h.
      let m = h.two in
      rw (m.is, h.joined)
      (record {
        sized = ap suc m.by.sized;
        characters = more h.one.0 m.by.characters;
        chars = both (is_char h.first) (all_chars m.from) h.one.1 m.by.chars;
      }))
      (λ x w h. from h.sized h.chars h.characters)
    where
      from : {x : Text} {w : Bits} → length x ≡ suc n → T (all_chars x) → Characters s x w
          → Then (λ p w. Unsigned p w × T (is_char p)) (λ p. Mapped (Text-of n) (λ y. p ∷ y)) x w
      from e t nothing = absurd (omega arith)
      from e t (more {p} {x} {u} {w} c cs) =
          record {
            first = p;
            front = u;
            back = w;
            one = (c, left (is_char p) (all_chars x) t);
            two = record {
              from = x;
              by = record {
                sized = omega arith;
                characters = cs;
                chars = right (is_char p) (all_chars x) t;
              };
              is = refl;
            };
            joined = refl;
          }

-- ---- forms

module _ (z : Sizes) (s : Settings) (t : Tables) where
  -- A literal may be laid into the store; of a hit nothing is asked.
  pub data Fits : Form → Placed → Type 0 where
    a_hit : {j i : ℕ} {x : Placed} → Fits (hit j i) x
    laid_out : {x : Placed} → T (all_chars x.text) → length x.text ≤ z.string
        → length t.store + length x.text ≤ z.store → Fits literal x

  record LiteralOf (n : ℕ) (y : Form × Placed) (w : Bits) : Type 0 where
    text : Text
    sized : length text ≡ n
    is : y ≡ (literal, laid t text)
    characters : Characters s text w
    fits : Fits literal (laid t text)

  literal-reads : (n : ℕ) → Reads (read_literal z s t n) (LiteralOf n)
  unfolding read_literal laid
  literal-reads n =
      reads_as
      (reads-guard (leb n z.string) limit (λ a. reads-guard (leb (length t.store + n) z.store) limit (λ b.
      reads-map (characters-read s n) (λ x. (literal, laid t x)))))
      (λ y w h.
      let m = h.1.1 in
      let c = m.by in
      record {
        text = m.from;
        sized = c.sized;
        is = m.is;
        characters = c.characters;
        fits = laid_out c.chars (omega (arith, leb→le n z.string h.0, c.sized))
            (omega (arith, leb→le (length t.store + n) z.store h.1.0, c.sized));
      })
      (λ y w h. back y w h.text h.sized h.is h.characters h.fits)
    where
      back : (y : Form × Placed) (w : Bits) (x : Text) → length x ≡ n → y ≡ (literal, laid t x)
          → Characters s x w → Fits literal (laid t x)
          → T (leb n z.string) × (T (leb (length t.store + n) z.store)
          × Mapped (Text-of s n) (λ x. (literal, laid t x)) y w)
      back y w x e i c (laid_out h a b) = (
        le→leb n z.string (omega arith),
        (
          le→leb (length t.store + n) z.store (omega arith),
          record { from = x; by = record { sized = e; characters = c; chars = h }; is = i },
        ),
      )

  -- What is read: a form, spelled so, that fits.
  pub record Form-of (ps : Partitions) (y : Form × Placed) (w : Bits) : Type 0 where
    pub spelled : Spelled s t ps y.0 y.1 w
    pub fits : Fits y.0 y.1

  record HitOf (j : ℕ) (es : List Slot) (y : Form × Placed) (w : Bits) : Type 0 where
    number : ℕ
    entry : Placed
    there : get_elem? es number ≡ some (some entry)
    is : y ≡ (hit j number, entry)
    bits : w ≡ choice_bits s.alignment (length es) number

  hit-reads : (j : ℕ) (es : List Slot) → Reads (read_hit z s j es) (HitOf j es)
  unfolding read_hit
  hit-reads j es =
      reads_as
      (reads_then (choice-reads s.alignment reference es)
      (λ c u h. reads-map (reads-present reference c.1) (λ e. (hit j c.0, e))))
      (λ y w h.
      let m = h.two in
      let slot = m.by.0 in
      let i : w ≡ h.front = h.joined ∙ ap (λ b. h.front ++ b) m.by.1 ∙ append-nil h.front in
      record {
        number = h.first.0;
        entry = m.from;
        there = h.one.names ∙ ap some slot;
        is = m.is;
        bits = i ∙ h.one.bits;
      })
      (λ y w h.
      record {
        first = (h.number, some h.entry);
        front = w;
        back = [];
        one = record { names = h.there; bits = h.bits };
        two = record { from = h.entry; by = (refl, refl); is = h.is };
        joined = sym (append-nil w);
      })

  data Rest (ess : List (List Slot)) (v : ℕ) (y : Form × Placed) (w : Bits) : Type 0 where
    hit_rest : {es : List Slot} → get_elem? ess v ≡ some es → HitOf v es y w → Rest ess v y w
    literal_rest : get_elem? ess v ≡ none → LiteralOf (v - length ess) y w → Rest ess v y w

  in-reads : (ess : List (List Slot)) (v : ℕ) (o : Option (List Slot)) → get_elem? ess v ≡ o
      → Reads (read_in z s t (length ess) v o) (Rest ess v)
  unfolding read_in
  in-reads ess v none e = reads_as (literal-reads (v - length ess)) (λ y w h. literal_rest e h) from
    where
      from : (y : Form × Placed) (w : Bits) → Rest ess v y w → LiteralOf (v - length ess) y w
      from y w (hit_rest i h) = absurd (none-ne-some _ (sym e ∙ i))
      from y w (literal_rest i h) = h
  in-reads ess v (some es) e = reads_as (hit-reads v es) (λ y w h. hit_rest e h) from
    where
      from : (y : Form × Placed) (w : Bits) → Rest ess v y w → HitOf v es y w
      from y w (hit_rest {es = fs} i h) = let q : fs ≡ es = cc (e, i) in subst (λ k. HitOf v k y w) q h
      from y w (literal_rest i h) = absurd (none-ne-some es (sym i ∙ e))

  none-beyond : (l : List (List Slot)) (i : ℕ) → get_elem? l i ≡ none → length l ≤ i
  none-beyond [] i e = omega arith
  none-beyond (a ∷ l) zero e = absurd (none-ne-some a (sym e))
  none-beyond (a ∷ l) (suc i) e = omega (arith, none-beyond l i e)

  member-none : (l : List (List Slot)) (i : ℕ) → length l ≤ i → get_elem? l i ≡ none
  member-none [] i h = refl
  member-none (a ∷ l) zero h = absurd (omega arith)
  member-none (a ∷ l) (suc i) h = member-none l i (omega arith)

  by-literals-reads : (ess : List (List Slot)) → Reads (read_by_literals z s t ess) (Form-of (literals ess))
  unfolding read_by_literals laid
  by-literals-reads ess =
      reads_as (reads_then unsigned_reads (λ v u h. in-reads ess v (get_elem? ess v) refl))
      (λ y w h. rw h.joined (to y h.first h.front h.back h.one h.two))
      (λ y w h. from h.spelled h.fits)
    where
      to : (y : Form × Placed) (v : ℕ) (u b : Bits) → Unsigned v u → Rest ess v y b → Form-of (literals ess) y (u ++ b)
      to y v u b n (hit_rest i h) = rw (h.is, h.bits) (record { spelled = literal_hit i h.there n; fits = a_hit })
      to y v u b n (literal_rest i h) =
          let l : length h.text + length ess ≡ v = omega (arith, none-beyond ess v i, h.sized) in
          let m : Unsigned (length h.text + length ess) u = rw l n in
          rw h.is (record { spelled = literal_miss (a_literal m h.characters); fits = h.fits })

      from : {f : Form} {x : Placed} {w : Bits} → Spelled s t (literals ess) f x w → Fits f x
          → Then Unsigned (λ v. Rest ess v) (f, x) w
      from (literal_hit {es = es} {j = j} {i = i} {x = x} {u = u} e k n) q =
          record {
            first = j;
            front = u;
            back = choice_bits s.alignment (length es) i;
            one = n;
            two = hit_rest e (record { number = i; entry = x; there = k; is = refl; bits = refl });
            joined = refl;
          }
      from (literal_miss (a_literal {x = x} {u = u} {w = w} n c)) q =
          record {
            first = length x + length ess;
            front = u;
            back = w;
            one = n;
            two = literal_rest (member-none ess (length x + length ess) (omega arith))
                (record { text = x; sized = omega arith; is = refl; characters = c; fits = q });
            joined = refl;
          }

  -- What follows the choice by a partition for compact identifiers: 0 is a miss, i + 1 is entry i.
  data Onward (es : List Slot) : ℕ → Option Slot → Form × Placed → Bits → Type 0 where
    miss : {v : ℕ} {y : Form × Placed} {w : Bits} → Form-of (literals []) y w → Onward es v none y w
    entry : {v : ℕ} {slot : Slot} {x : Placed} → slot ≡ some x → Onward es v (some slot) (hit 0 (v - 1), x) []

  entry-reads : (es : List Slot) (v : ℕ) (o : Option Slot) → Reads (read_entry z s t v o) (Onward es v o)
  unfolding read_entry
  entry-reads es v none = reads_as (by-literals-reads []) (λ y w h. miss h) from
    where
      from : (y : Form × Placed) (w : Bits) → Onward es v none y w → Form-of (literals []) y w
      from y w (miss h) = h
  entry-reads es v (some slot) =
      reads_as (reads-map (reads-present reference slot) (λ e. (hit 0 (v - 1), e)))
      (λ y w m. rw (m.is, m.by.1) (entry m.by.0)) from
    where
      from : (y : Form × Placed) (w : Bits) → Onward es v (some slot) y w
          → Mapped (λ x w. (slot ≡ some x) × (w ≡ [])) (λ e. (hit 0 (v - 1), e)) y w
      from y w (entry {x = x} e) = record { from = x; by = (e, refl); is = refl }

  miss-first : (es : List Slot) (v : ℕ) → get_elem? (none ∷ map some es) v ≡ some none → v ≡ 0
  miss-first es zero e = refl
  miss-first es (suc v) e = absurd (no_none es v e)
    where
      no_none : (es : List Slot) (v : ℕ) → get_elem? (map some es) v ≡ some none → ⊥
      no_none [] v e = none-ne-some _ e
      no_none (x ∷ es) zero e = let n : ◌≡◌ {A = ℕ} 0 1 = cc in absurd (omega arith)
      no_none (x ∷ es) (suc v) e = no_none es v e

  member-map : (es : List Slot) (i : ℕ) (x : Slot) → get_elem? (map some es) i ≡ some (some x) → get_elem? es i ≡ some x
  member-map [] i x e = absurd (none-ne-some _ e)
  member-map (y ∷ es) zero x e = cc
  member-map (y ∷ es) (suc i) x e = member-map es i x e

  map-member : (es : List Slot) (i : ℕ) (x : Slot) → get_elem? es i ≡ some x → get_elem? (map some es) i ≡ some (some x)
  map-member [] i x e = absurd (none-ne-some _ e)
  map-member (y ∷ es) zero x e = cc
  map-member (y ∷ es) (suc i) x e = map-member es i x e

  -- Reading by partitions gives exactly the spelled forms.
  pub form-reads : (ps : Partitions) → Reads (read_form z s t ps) (Form-of ps)
  unfolding read_form laid
  form-reads (literals ess) = by-literals-reads ess
  form-reads (compact es) =
      reads_as (reads_then (choice-reads s.alignment reference (none ∷ map some es))
      (λ c u h. entry-reads es c.0 c.1))
      (λ y w h. rw h.joined (to h.first.0 h.first.1 y h.front h.back h.one h.two))
      (λ y w h. from h.spelled h.fits)
    where
      values : List (Option Slot)
      values = none ∷ map some es

      same : length values ≡ suc (length es)
      same = ap suc (length-map es some)

      to : (v : ℕ) (o : Option Slot) (y : Form × Placed) (u b : Bits)
          → Chosen s.alignment values (v, o) u → Onward es v o y b
          → Form-of (compact es) y (u ++ b)
      to v o y u b c (miss h) = missed (miss-first es v c.names) h.spelled h.fits
        where
          missed : v ≡ 0 → {f : Form} {x : Placed} {b : Bits} → Spelled s t (literals []) f x b
              → Fits f x → Form-of (compact es) (f, x) (u ++ b)
          missed e (literal_hit k n m) q = absurd (none-ne-some _ k)
          missed e (literal_miss h) q =
              let i : u ≡ choice_bits s.alignment (suc (length es)) 0 = c.bits ∙ cc (same, e) in
              rw i (record { spelled = compact_miss h; fits = q })
      to zero o y u b c (entry e) = let n : ◌≡◌ {A = ℕ} 0 1 = cc c.names in absurd (omega arith)
      to (suc v) o y u b c (entry {slot = slot} {x = x} e) =
          let p : suc v - 1 ≡ v = omega arith in
          let k : get_elem? es v ≡ some (some x) = member-map es v slot c.names ∙ ap some e in
          let i : u ++ [] ≡ choice_bits s.alignment (suc (length es)) (suc v) = append-nil u ∙ c.bits ∙ cc same in
          rw (p, i) (record { spelled = compact_hit k; fits = a_hit })

      from : {f : Form} {x : Placed} {w : Bits} → Spelled s t (compact es) f x w → Fits f x
          → Then (Chosen s.alignment values) (λ c. Onward es c.0 c.1) (f, x) w
      from (compact_hit {i = i} {x = x} k) q =
          let p : suc i - 1 ≡ i = omega arith in
          record {
            first = (suc i, some (some x));
            front = choice_bits s.alignment (suc (length es)) (suc i);
            back = [];
            one = record { names = map-member es i (some x) k; bits = cc same };
            two = subst (λ j. Onward es (suc i) (some (some x)) (hit 0 j, x) []) p (entry refl);
            joined = sym (append-nil _);
          }
      from (compact_miss {w = w} h) q =
          record {
            first = (0, none);
            front = choice_bits s.alignment (suc (length es)) 0;
            back = w;
            one = record { names = refl; bits = cc same };
            two = miss (record { spelled = literal_miss h; fits = q });
            joined = refl;
          }

  -- A string and the tables after it. That its form is the strict one is a condition of its own.
  pub record StringRead (r : Role) (y : Placed × Tables) (w : Bits) : Type 0 where
    pub form : Form
    pub spelled : Spelled s t (partitions_of t r) form y.0 w
    pub fits : Fits form y.0
    pub clean : T (text_allowed r y.0.text)
    pub strictly : T (eq_form form (form_of (partitions_of t r) y.0.text))
    pub named : T (name_allowed r y.0.text)
    pub after : y.1 ≡ tables_after t r form y.0.text
    pub room : T (within_tables z y.1)

  -- Reading a string gives exactly what StringRead says, for any sizes.
  pub string-reads : (r : Role) → Reads (read_string z s t r) (StringRead r)
  unfolding read_string
  string-reads r =
      reads_as
      (reads_then (form-reads (partitions_of t r)) (λ y u h.
      reads-guard (text_allowed r y.1.text) character (λ a.
      reads-guard (eq_form y.0 (form_of (partitions_of t r) y.1.text)) loose (λ b.
      reads-guard (name_allowed r y.1.text) name (λ c.
      reads-guard (within_tables z (tables_after t r y.0 y.1.text)) limit (λ d.
      reads-return (y.1, tables_after t r y.0 y.1.text)))))))
      (λ x w h.
      let q = h.two in
      let m = q.1.1.1.1 in
      let i : w ≡ h.front = h.joined ∙ ap (λ b. h.front ++ b) m.empty ∙ append-nil h.front in
      rw (m.is, i)
      (record {
        form = h.first.0;
        spelled = h.one.spelled;
        fits = h.one.fits;
        clean = q.0;
        strictly = q.1.0;
        named = q.1.1.0;
        after = refl;
        room = q.1.1.1.0;
      }))
      (λ x w h.
      record {
        first = (h.form, x.0);
        front = w;
        back = [];
        one = record { spelled = h.spelled; fits = h.fits };
        two = (
          h.clean,
          (
            h.strictly,
            (h.named, (rw h.after at h.room, record { is = ap (λ k. (x.0, k)) h.after; empty = refl })),
          ),
        );
        joined = sym (append-nil w);
      })
