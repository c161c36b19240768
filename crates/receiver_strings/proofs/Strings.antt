-- A string by partitions for literals, as a look sees it.
use Prim.Native.Nat.{ℕ, zero, suc, ◌-◌, ◌≤◌, ◌<◌}
use mathlib.Core.Path.{◌≡◌, refl, sym, ◌∙◌}
use mathlib.Core.Bool.{Bool, true, false}
use mathlib.Core.List.{List, [], ◌∷◌}
use mathlib.Core.Option.{none}
use native.Mathlib.Omega.{arith}
use native.Mathlib.Decide.{ℕ_discrete}
use lib.ListN.{length, drop, get_elem?}
use Rattle.spec_fields.specs.Bits.{unpack}
use Rattle.spec_fields.specs.Refusal.{ended, limit, number_of}
use Rattle.spec_fields.specs.Field.{unsigned}
use Rattle.spec_fields.proofs.Steady.{steady-unsigned}
use Rattle.spec_exi.specs.Settings.{Settings}
use Rattle.spec_exi.specs.Sizes.{sizes, max_string}
use Rattle.spec_exi.specs.Tables.{Tables}
use Rattle.spec_exi.specs.Reader.{read_character, read_literal, read_in, read_by_literals}
use Rattle.read_field.specs.View.{Seen}
use Rattle.read_field.specs.View.{Value}
use Rattle.read_field.specs.View.{field_at}
use Rattle.read_contract.specs.Outcome.{Gotten}
use Rattle.read_contract.proofs.Outcome.{unsigned-gotten}
use Rattle.receiver_strings.specs.View.{Skipped, Looked}
use Rattle.receiver_strings.specs.Cuts.{Passes, reads, CutAt, cut}
use Rattle.receiver_strings.specs.Strings.{SpotPre, SkipPost, StringSeen}
use Rattle.receiver_strings.specs.Strings.{NumberSeen}
use Rattle.receiver_strings.proofs.Cuts.{passes-return, passes-need, cut-need, passes_then}
use Rattle.receiver_strings.proofs.Cuts.{cut-then, sees-nothing, sees-field}

limit-other : number_of limit ≡ number_of ended → ⊥
unfolding number_of
limit-other e = absurd (omega arith)

-- ---- a literal

module _ {stream : List ℕ} {at n : ℕ} {k : Skipped} (post : SkipPost stream at n k) (s : Settings)
    (t : Tables) where
  literal-passes : k.number ≡ 0
      → Passes (read_literal sizes s t n) (drop at (unpack stream)) (drop k.at (unpack stream))
  unfolding read_literal read_character
  literal-passes z =
      let g = post.whole z in
      passes-need limit limit-other _ _ _ (passes-need limit limit-other _ _ _
      (passes_then _ _ _ _ (reads g.value g.result) (λ x. passes-return _ _)))

  literal-cut : 0 < k.left
      → CutAt (read_literal sizes s t n) (drop at (unpack stream)) s (drop k.at (unpack stream))
      k.left
  unfolding read_literal read_character
  literal-cut l =
      elim (ℕ_discrete k.number 0) [
        | yes z ↦ absurd (omega (arith, post.none z))
        | no z ↦
            cut-need limit limit-other _ _ _ (cut-need limit limit-other _ _ _
            (cut-then _ _ _ (cut (post.cut (omega (arith, z))).waits.comes)))
      ]

none-at : {A : Type 0} (l : List A) (i : ℕ) → length l ≤ i → get_elem? l i ≡ none
none-at [] i h = refl
none-at (x ∷ l) zero h = absurd (omega arith)
none-at (x ∷ l) (suc i) h = none-at l i (omega arith)

module _ {stream : List ℕ} {at : ℕ} (pre : SpotPre stream at) (v k : ℕ) where
  module _ (h : k ≤ v) (few : v - k ≤ max_string) {y : Skipped} (post : SkipPost stream at (v - k) y)
    where
      pub number-seen : (past : Bool) → (past ≡ true → y.number ≡ 0)
          → NumberSeen stream at v k (record { past = past; at = y.at; left = y.left })
      unfolding read_in
      number-seen past none_is =
          record {
            bounds = record { inside = post.inside; few = omega (arith, post.few) };
            sees = λ s t ess e.
                rw (none-at ess v (omega arith))
                (record {
                  past = λ z. literal-passes post s t (none_is z);
                  cut = literal-cut post s t;
                });
          }

module _ {stream : List ℕ} {at : ℕ} (pre : SpotPre stream at) where
  module _ {f : Seen} (answer : f ≡ field_at unsigned stream at) {v q : ℕ} (z : f ≡ Value v q) where
    abbrev gotten : Gotten unsigned stream at q
    gotten = unsigned-gotten stream at pre.place (sym answer ∙ z)

    pub number-asks : SpotPre stream q
    number-asks = record { size = pre.size; place = gotten.inside }

    pub string-seen : (k : ℕ) {r : Looked} → NumberSeen stream q v k r → StringSeen stream at k r
    unfolding read_by_literals
    string-seen k h =
        record {
          bounds = h.bounds;
          sees = λ s t ess e.
              sees-field s _ _ stream at steady-unsigned gotten (rw (sym e) at (h.sees s t ess e));
        }
