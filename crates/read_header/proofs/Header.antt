-- The header's octets, one behind the other.
use mathlib.Core.Path.{◌≡◌, refl, ◌∙◌}
use mathlib.Core.Bool.{true, false}
use mathlib.Core.List.{List, ◌∷◌}
use Prim.Native.Nat.{ℕ, ◌+◌, ◌*◌, ◌-◌, ◌≤◌, ◌<◌}
use native.Mathlib.Numerals.{add-one}
use native.Mathlib.Omega.{arith}
use lib.ListN.{length, get_or, take, drop, length-drop}
use lib.Seq.{drop-cons, length-take-le, get_or-take, get_or-drop}
use lib.Dec.{eqb}
use borrow.Author.Tests.{eq-eqb, ne_eqb}
use Rattle.spec_fields.specs.Bits.{unpack}
use Rattle.spec_fields.specs.Refusal.{number_of, header, number_header}
use Rattle.spec_fields.specs.Parser.{Parser, need, ◌>>◌}
use Rattle.spec_fields.specs.Field.{octet}
use Rattle.spec_exi.specs.Settings.{Settings, header_of}
use Rattle.spec_exi.specs.Reader.{read_header}
use Rattle.read_field.specs.View.{Value, Refused}
use Rattle.read_field.specs.View.{field_at}
use Rattle.read_contract.specs.Outcome.{Declined, Gotten}
use Rattle.read_contract.proofs.Outcome.{refused-outcome, gotten-outcome, declined-then, gotten-declined, then-got}
use Rattle.read_contract.proofs.Outcome.{need-true, need-declined, refused-declined, octet-gotten, return-got}
use Rattle.read_header.specs.Header.{header_octets, Passes, header_size, cookie_size}

-- The octets from one on.
abbrev rest : ℕ → List ℕ
rest first = take (header_size - first) (drop first header_octets)

pub rest-size : (first : ℕ) → length (rest first) ≡ header_size - first
rest-size first =
    length-take-le (header_size - first) (drop first header_octets)
    (omega (arith, length-drop first header_octets))

pub rest-at : (first i : ℕ) → i < length (rest first)
    → get_or (rest first) i 0 ≡ get_or header_octets (first + i) 0
rest-at first i l =
    get_or-take (header_size - first) (drop first header_octets) i 0 (omega (arith, rest-size first))
    ∙ get_or-drop first header_octets i 0

-- The octets before this one stand there.
pub record Passing (stream : List ℕ) (first at i : ℕ) : Type 0 where
  pub answer : read_header (drop first header_octets) (unpack stream)
      ≡ read_header (drop i header_octets) (drop at (unpack stream))
  pub there : at ≤ 8 * length stream
  pub few : i ≤ header_size

pub passing-start : (stream : List ℕ) (first : ℕ) → first ≤ header_size → Passing stream first 0 first
passing-start stream first l = record { answer = refl; there = omega arith; few = l }

-- What follows an octet where h is asked.
abbrev following : ℕ → List ℕ → ℕ → Parser (Unit {0})
following h hs o = need (eqb o h) header >> read_header hs

module _ {stream : List ℕ} {first at i : ℕ} (h : Passing stream first at i) where
  declined : {n : ℕ} → Declined (read_header (drop i header_octets)) stream at n
      → Passes (drop first header_octets) stream (record { number = n; at = 0 })
  declined d =
      record {
        outcome = refused-outcome (record { refusal = d.refusal; result = h.answer ∙ d.result; is = d.is });
        refused = λ _. refl;
      }

  pub all-passed : header_size ≤ i → Passes (drop first header_octets) stream (record { number = 0; at = at })
  unfolding read_header
  all-passed l =
      let e : i ≡ header_size = omega (arith, h.few) in
      record {
        outcome = gotten-outcome refl
            (record {
              value = tt;
              result = h.answer ∙ rw e (return-got tt (drop at (unpack stream)));
              after = omega arith;
              inside = h.there;
            }) tt;
        refused = λ b. absurd (omega arith);
      }

  module _ (inside : i < header_size) where
    one_more : drop i header_octets ≡ get_or header_octets i 0 ∷ drop (i + 1) header_octets
    one_more = rw (add-one i) (drop-cons header_octets i 0 inside)

    pub octet-missing : {k : ℕ} → field_at octet stream at ≡ Refused k
        → Passes (drop first header_octets) stream (record { number = k; at = 0 })
    unfolding read_header
    octet-missing e =
        declined (rw one_more (declined-then (following (get_or header_octets i 0) (drop (i + 1) header_octets))
        (refused-declined octet stream at e)))

    module _ {v q : ℕ} (e : field_at octet stream at ≡ Value v q) where
      pub octet-other : (v ≡ get_or header_octets i 0 → ⊥)
          → Passes (drop first header_octets) stream (record { number = number_header; at = 0 })
      unfolding read_header number_of
      octet-other n =
          let hs : List ℕ = drop (i + 1) header_octets in
          let f : ℕ → Parser (Unit {0}) = following (get_or header_octets i 0) hs in
          declined (rw one_more (gotten-declined f (octet-gotten stream at h.there e)
          (need-declined (eqb v (get_or header_octets i 0)) header (read_header hs) (ne_eqb v (get_or header_octets i 0) n))))

      pub octet-same : v ≡ get_or header_octets i 0 → Passing stream first q (i + 1)
      unfolding read_header
      octet-same s =
          let hs : List ℕ = drop (i + 1) header_octets in
          let g : Gotten octet stream at q = octet-gotten stream at h.there e in
          record {
            answer =
                h.answer
                ∙ rw one_more (then-got (following (get_or header_octets i 0) hs) octet (drop at (unpack stream))
                g.result
                ∙ need-true (eqb v (get_or header_octets i 0)) header (read_header hs) (drop q (unpack stream))
                (eq-eqb v (get_or header_octets i 0) s));
            there = g.inside;
            few = omega arith;
          }

-- ---- with the cookie, and without

pub header-with : (s : Settings) → s.cookie ≡ true → header_of s ≡ header_octets
unfolding header_of
header-with s e = rw e

pub header-without : (s : Settings) → s.cookie ≡ false → header_of s ≡ drop cookie_size header_octets
unfolding header_of
header-without s e = rw e
