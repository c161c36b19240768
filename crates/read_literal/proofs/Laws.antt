-- A code point, a turn of the loop that reads code points, and what the loop comes to.
use Prim.Native.Nat.{ℕ, suc, ◌+◌, ◌*◌, ◌-◌, ◌/◌, ◌%◌, ◌^◌, ◌≤◌, ◌<◌}
use mathlib.Core.Path.{◌≡◌, refl, sym, ◌∙◌, ap}
use mathlib.Core.Bool.{true, false}
use mathlib.Core.List.{List, [], ◌∷◌}
use native.Mathlib.Omega.{arith}
use native.Mathlib.Decide.{ℕ_discrete}
use lib.ListN.{length, drop, set, replicate, length-append, length-drop, length-replicate}
use lib.Dec.{leb, T}
use borrow.Author.Tests.{le-leb, lt-leb}
use Rattle.spec_fields.specs.Bits.{unpack}
use Rattle.spec_fields.specs.Refusal.{number_of, character, limit, number_character, number_limit}
use Rattle.spec_fields.specs.Parser.{return, times}
use Rattle.spec_fields.specs.Field.{unsigned}
use Rattle.spec_fields.proofs.Pack.{length-unpack}
use Rattle.spec_fields.proofs.Exact.{Reads, reads-checked}
use Rattle.spec_fields.proofs.Number.{Unsigned, unsigned_reads}
use Rattle.text.specs.Text.{part, is_char}
use Rattle.text.proofs.Char.{low}
use Rattle.spec_exi.specs.Settings.{Settings}
use Rattle.spec_exi.specs.Sizes.{max_stream, max_store, max_string, sizes}
use Rattle.spec_exi.specs.Tables.{Tables, literal, laid}
use Rattle.spec_exi.specs.Reader.{read_character, read_literal}
use Rattle.read_field.specs.View.{Seen, Value, Refused, field_at, InStream}
use Rattle.read_field.specs.Parts.{Octet, Peeked}
use Rattle.read_field.proofs.Ahead.{peeked}
use Rattle.read_field.proofs.Groups.{unsigned-first}
use Rattle.read_field.proofs.View as view
use Rattle.mem_entries.specs.Texts.{mixed, hash_from, hash_of}
use Rattle.mem_entries.proofs.Hashing.{hash-more, hash-low}
use Rattle.read_contract.specs.Outcome.{Gotten, Outcome}
use Rattle.read_contract.proofs.Outcome.{declined-number, value-gotten, refused-outcome, gotten-outcome, declined-then}
use Rattle.read_contract.proofs.Outcome.{gotten-then, gotten-declined, return-gotten, outcome-map, need-passed}
use Rattle.read_contract.proofs.Outcome.{need-failed, need-gotten, need-declined, times-empty, times-declined}
use Rattle.read_contract.proofs.Outcome.{times-gotten, unsigned-gotten, refused-declined}
use Rattle.read_literal.specs.View as seen
use Rattle.read_literal.specs.Awaits.{Awaits, Waits}
use Rattle.read_literal.specs.Literal.{LiteralPre, base, CharactersPre, laid_at, Place, Plain, PointRead, Cleared}
use Rattle.read_literal.specs.Literal.{CharactersRead, Laid, LiteralRead}
use Rattle.spec_fields.proofs.Steady.{Steady, steady_then, steady-guard, steady-return, steady-unsigned}
use Rattle.read_literal.proofs.Awaits.{awaits-all, awaits-one, awaits-then, awaits-need}
use Rattle.read_literal.proofs.Store.{laid_none, laid_next, laid-size, laid-over, laid-part}

-- ---- one code point

steady-character : Steady (read_character base)
unfolding read_character
steady-character = steady_then steady-unsigned (λ p. steady-guard _ _ (steady-return p))

module _ (stream : List ℕ) (at : ℕ) {v q : ℕ} (l : at ≤ 8 * length stream)
    (e : field_at unsigned stream at ≡ Value v q) where
  pub character-gotten : is_char v ≡ true → (g : Gotten (read_character base) stream at q) × (g.value ≡ v)
  unfolding read_character
  character-gotten t =
      let g = unsigned-gotten stream at l e in
      (gotten-then _ g (need-gotten (is_char v) character t (return-gotten v g.inside)), refl)

  pub character-is : is_char v ≡ true → Value v q ≡ field_at (read_character base) stream at
  character-is t =
      let (g, same) = character-gotten t in
      sym (view.field-got (read_character base) stream at v q g.inside (rw same at g.result))

  pub character-not : is_char v ≡ false → Refused number_character ≡ field_at (read_character base) stream at
  unfolding read_character number_of
  character-not t =
      let d = gotten-declined _ (unsigned-gotten stream at l e) (need-declined (is_char v) character (return v) t) in
      ap Refused d.is ∙ sym (view.field-bad (read_character base) stream at d.refusal d.result)

pub character-refused : (stream : List ℕ) (at : ℕ) {k : ℕ} → field_at unsigned stream at ≡ Refused k
    → Refused k ≡ field_at (read_character base) stream at
unfolding read_character
character-refused stream at e =
    let d = declined-then _ (refused-declined unsigned stream at e) in
    sym (view.field-bad (read_character base) stream at d.refusal d.result ∙ ap Refused (sym d.is))

-- One octet from 32 to 127.
pub plain-is : (s : List ℕ) (j k : ℕ) {x y : ℕ} → k < 8 → j + 1 < length s → Octet s j x → Octet s (j + 1) y → {o : ℕ}
    → o ≡ (x * 256 + y) / 2 ^ (8 - k) % 256 → 32 ≤ o → o ≤ 127 → Plain s (8 * j + k) o
plain-is s j k {x} {y} b h a c {o} e from up_to =
    let at : ℕ = 8 * j + k in
    let q : at / 8 ≡ j = omega arith in
    let m : at % 8 ≡ k = omega arith in
    let room : at + 8 ≤ 8 * length s = omega arith in
    let high : Octet s (at / 8) x = rw q a in
    let low' : Octet s (at / 8 + 1) y = rw q c in
    let there : Peeked s at ((x * 256 + y) / 2 ^ (8 - k) % 256) = rw m at (peeked s at high low') in
    let f : field_at unsigned s at ≡ Value o (at + 8) = sym (unsigned-first (rw (← e) at there) room (omega arith)) in
    record { is = λ _. sym (character-is s at (omega arith) f (sym (low o from (omega arith)))); room = λ _. room }

-- An Unsigned Integer takes whole octets.
unsigned-octets : (s : List ℕ) (at : ℕ) {v q : ℕ} → at ≤ 8 * length s → field_at unsigned s at ≡ Value v q
    → (m : ℕ) × (q ≡ at + 8 * m)
unsigned-octets s at {v} {q} l e =
    let g = unsigned-gotten s at l e in
    let (w, r, i) = unsigned_reads.sound (drop at (unpack s)) v (drop q (unpack s)) g.result in
    let n : length w ≡ 8 * length r.octets = ap length r.bits ∙ length-unpack r.octets in (
      length r.octets,
      omega (
        arith,
        ap length i,
        length-append w (drop q (unpack s)),
        length-drop at (unpack s),
        length-drop q (unpack s),
        length-unpack s,
        g.inside,
      ),
    )

module _ {s : List ℕ} {j k : ℕ} (p : Place s j k) where
  pub point-plain : {o : ℕ} → Plain s (8 * j + k) o → 0 < o
      → PointRead s j k (record { number = 0; value = o; behind = j + 1 })
  point-plain {o} q h =
      let e : 8 * (j + 1) + k ≡ 8 * j + k + 8 = omega arith in
      record { refused = λ l. absurd (omega arith); read = λ _. q.is h ∙ ap (Value o) (sym e) }

  pub point-asks : InStream s (8 * j + k)
  unfolding max_stream
  point-asks = record { size = omega (arith, p.size); place = p.inside }

  module _ {f : Seen} (answer : f ≡ field_at unsigned s (8 * j + k)) where
    pub point-refused : {n : ℕ} → f ≡ Refused n → PointRead s j k (record { number = n; value = 0; behind = 0 })
    point-refused z =
        let d = refused-declined unsigned s (8 * j + k) (sym answer ∙ z) in
        record {
          refused = λ _. sym (character-refused s (8 * j + k) (sym answer ∙ z));
          read = λ l. absurd (omega (arith, declined-number d));
        }

    module _ {v q : ℕ} (z : f ≡ Value v q) where
      pub point-not : is_char v ≡ false → PointRead s j k (record { number = number_character; value = 0; behind = 0 })
      point-not t =
          record {
            refused = λ _. sym (character-not s (8 * j + k) p.inside (sym answer ∙ z) t);
            read = λ l. absurd (omega arith);
          }

      pub point-is : is_char v ≡ true → PointRead s j k (record { number = 0; value = v; behind = q / 8 })
      point-is t =
          let (m, e) = unsigned-octets s (8 * j + k) p.inside (sym answer ∙ z) in
          let same : 8 * (q / 8) + k ≡ q = omega (arith, p.low) in
          record {
            refused = λ l. absurd (omega arith);
            read = λ _. sym (character-is s (8 * j + k) p.inside (sym answer ∙ z) t) ∙ ap (Value v) (sym same);
          }

pub plain-none : (s : List ℕ) (at : ℕ) → Plain s at 0
plain-none s at = record { is = λ z. absurd (omega arith); room = λ z. absurd (omega arith) }

-- ---- as the loop sees it

character-reads : Reads (read_character base) (λ p w. Unsigned p w × T (is_char p))
unfolding read_character
character-reads = reads-checked unsigned_reads is_char character

pub turn-spot : {s : List ℕ} {at j k : ℕ} {text : List ℕ} {stored n : ℕ} → CharactersPre s at text stored n → k ≡ at % 8
    → 8 * j + k ≤ 8 * length s → Place s j k
turn-spot fit e h = record { size = fit.literal.size; inside = h; low = omega arith }

-- i code points are read and lie behind the store; the others are still to come.
pub record Turn (stream : List ℕ) (at : ℕ) (text : List ℕ) (stored n : ℕ) (text' : List ℕ)
    (next i h : ℕ) : Type 0 where
  pub inside : i ≤ n
  pub read : Gotten (times i (read_character base)) stream at next
  pub size : length read.value ≡ i
  pub text-is : text' ≡ laid_at text stored read.value
  pub hashed : h ≡ hash_of read.value
  pub waits : Awaits (read_character base) (times n (read_character base)) (drop at (unpack stream))
      (drop next (unpack stream)) (n - i)

module _ {stream : List ℕ} {at : ℕ} {text : List ℕ} {stored n : ℕ} (fit : CharactersPre stream at text stored n) where
  pub turn-start : Turn stream at text stored n text at 0 0
  unfolding hash_of hash_from
  turn-start =
      record {
        inside = omega arith;
        read = times-empty (read_character base) fit.literal.place;
        size = refl;
        text-is = laid_none text stored;
        hashed = refl;
        waits = let e : n - 0 ≡ n = omega arith in rw e (awaits-all (read_character base) (drop at (unpack stream)) n);
      }

  -- The same by an octet and a bit in it.
  pub spot-start : Turn stream at text stored n text (8 * (at / 8) + at % 8) 0 0
  spot-start = let e : 8 * (at / 8) + at % 8 ≡ at = omega arith in rw e turn-start

  module _ {text' : List ℕ} {next i h : ℕ} (t : Turn stream at text stored n text' next i h) where
    turn-fits : stored + length t.read.value ≤ length text
    turn-fits = omega (arith, t.size, t.inside, fit.ends, fit.literal.room)

    -- The end.
    pub turn_end : n ≤ i
        → CharactersRead stream at text stored n text'
        (record { number = 0; next = next; left = 0; hash = h })
    turn_end l =
        let e : i ≡ n = omega (arith, t.inside) in
        let s : length t.read.value ≡ n = omega (arith, t.size) in
        let x : part text' (record { place = stored; size = n }) ≡ t.read.value =
        rw (t.text-is, ← s) (laid-part text stored t.read.value turn-fits) in
        record {
          outcome = rw (← e) (gotten-outcome refl t.read (t.text-is, t.size));
          inside = t.read.inside;
          cut = λ l. absurd (omega arith);
          whole = λ _. refl;
          hashed = record {
            is = λ _. t.hashed ∙ ap hash_of (sym x);
            none = λ l. absurd (omega arith);
          };
          cleared = λ l. absurd (omega arith);
        }

    pub turn-hash : h < 4294967296
    turn-hash = omega (arith, t.hashed, hash-low t.read.value)

    module _ (l : i < n) where
      -- A code point that is refused: what was laid is cleared.
      pub turn-refused : {k : ℕ} → field_at (read_character base) stream next ≡ Refused k → {text'' : List ℕ}
          → text'' ≡ laid_at text' stored (replicate i 0)
          → CharactersRead stream at text stored n text''
          (record { number = k; next = next; left = n - i; hash = 0 })
      turn-refused e c =
          let d = refused-declined (read_character base) stream next e in
          let z : length (replicate {A = ℕ} i 0) ≡ length t.read.value =
          length-replicate i 0 ∙ sym t.size in
          record {
            outcome = refused-outcome (times-declined (read_character base) i t.read n l d);
            inside = t.read.inside;
            cut = λ _. record {
              some = omega arith;
              waits = record { after = t.read.after; inside = t.read.inside; comes = t.waits };
              stops = d;
            };
            whole = λ z. absurd (omega (arith, declined-number d));
            hashed = record {
              is = λ z. absurd (omega (arith, declined-number d));
              none = λ _. refl;
            };
            cleared = λ _. record {
              cells = i;
              room = omega (arith, fit.ends);
              text-is = c
                  ∙ rw t.text-is
                  (laid-over text stored t.read.value (replicate i 0) z turn-fits);
            };
          }

      pub turn-next : {v q : ℕ} → field_at (read_character base) stream next ≡ Value v q
          → {k : ℕ} → k ≡ mixed h v
          → Turn stream at text stored n (set text' (stored + i) v) q (i + 1) k
      turn-next {v} {q} e m =
          let g : Gotten (read_character base) stream next q =
          value-gotten (read_character base) stream next character-reads t.read.inside e in
          let left : n - i ≡ suc (n - (i + 1)) = omega arith in
          record {
            inside = omega arith;
            read = times-gotten (read_character base) i t.read
                (value-gotten (read_character base) stream next character-reads t.read.inside e);
            size = length-append t.read.value (v ∷ []) ∙ ap (λ m. m + 1) t.size;
            text-is = laid_next text stored t.read.value t.text-is refl t.size
                (omega (arith, fit.ends, fit.literal.room));
            hashed = m ∙ rw t.hashed (sym (hash-more v t.read.value));
            waits = awaits-one v steady-character g.result (rw left at t.waits);
          }

-- ---- a literal

abbrev over_limit : ℕ → seen.Literal
over_limit at = record { number = number_limit; next = at; left = 0; hash = 0 }

nothing-cleared : (text : List ℕ) {stored : ℕ} → stored ≤ max_store → Cleared text stored text
nothing-cleared text {stored} h = record { cells = 0; room = omega arith; text-is = laid_none text stored }

module _ {stream : List ℕ} {at : ℕ} {text : List ℕ} {stored n : ℕ} (fit : LiteralPre stream at text stored) where
  module _ (d : (s : Settings) (t : Tables) → length t.store ≡ stored
      → Outcome (read_literal sizes s t n) stream at number_limit at (Laid text stored n text)) where
    over-limit : LiteralRead stream at text stored n text (over_limit at)
    over-limit =
        record {
          outcome = d;
          inside = fit.place;
          ends = λ z. absurd (omega arith);
          small = λ z. absurd (omega arith);
          behind = λ z. absurd (omega arith);
          hashed = record { is = λ z. absurd (omega arith); none = λ _. refl };
          cleared = λ _. nothing-cleared text fit.few;
          waits = λ z. absurd (omega arith);
        }

  pub literal-long : max_string < n → LiteralRead stream at text stored n text (over_limit at)
  unfolding read_literal max_string number_of
  literal-long h = over-limit (λ s t e. need-failed (leb n max_string) limit _ (lt-leb n max_string h))

  pub literal-full : n ≤ max_string → max_store < stored + n
      → LiteralRead stream at text stored n text (over_limit at)
  unfolding read_literal max_string max_store number_of
  literal-full l h =
      over-limit (λ s t e.
      need-passed (leb n max_string) limit (le-leb n max_string l)
      (need-failed (leb (length t.store + n) max_store) limit _
      (lt-leb (length t.store + n) max_store (omega arith))))

  module _ (l : n ≤ max_string) (h : stored + n ≤ max_store) {text' : List ℕ} {r : seen.Literal}
      (c : CharactersRead stream at text stored n text' r) where
    characters-wait : 0 < r.left → (s : Settings) (t : Tables) → length t.store ≡ stored
        → Waits (read_character s) (read_literal sizes s t n) stream at r.next r.left
    unfolding read_literal read_character max_string max_store
    characters-wait z s t e =
        let w : Waits (read_character base) (times n (read_character base)) stream at r.next r.left =
        elim (ℕ_discrete r.number 0) [
          | yes y ↦ absurd (omega (arith, c.whole y))
          | no y ↦ (c.cut (omega arith)).waits
        ] in
        record {
          after = w.after;
          inside = w.inside;
          comes = awaits-need (leb n max_string) limit (le-leb n max_string l)
              (awaits-need (leb (length t.store + n) max_store) limit
              (le-leb (length t.store + n) max_store (omega arith))
              (awaits-then (λ x. return (literal, laid t x)) w.comes));
        }

    pub literal-read : LiteralRead stream at text stored n text' r
    unfolding read_literal read_character max_string max_store laid
    literal-read =
        record {
          outcome = λ s t e.
              need-passed (leb n max_string) limit (le-leb n max_string l)
              (need-passed (leb (length t.store + n) max_store) limit
              (le-leb (length t.store + n) max_store (omega arith))
              (outcome-map (λ x. (literal, laid t x)) c.outcome
              (λ z x y. record { form = refl; place = e; size = y.1; text-is = y.0 })));
          inside = c.inside;
          ends = λ _. h;
          small = λ _. l;
          behind =
              λ z. record { x = (c.outcome.read z).value; size = (c.outcome.is z).1; text-is = (c.outcome.is z).0 };
          hashed = c.hashed;
          cleared = c.cleared;
          waits = characters-wait;
        }
