-- What the readers of productions that are not learned leave at each `return`.
use Prim.Native.Nat.{ℕ, ◌+◌, ◌*◌, ◌≤◌, ◌<◌}
use native.Mathlib.Omega.{arith}
use mathlib.Core.Path.{◌≡◌, refl, sym, ap, subst, ◌∙◌}
use mathlib.Core.List.{List, [], ◌∷◌}
use lib.ListN.{length, get_or, drop}
use Rattle.spec_fields.proofs.Tests.{split}
use Rattle.spec_exi.specs.Event.{Kind, SD}
use Rattle.spec_exi.specs.Sizes.{max_stream}
use Rattle.spec_exi.specs.Settings.{Settings}
use Rattle.spec_exi.specs.Grammar.{kind_number}
use Rattle.grammar_codes.specs.Table.{kept_kinds, no_kinds, leads_on, fixed_levels, fixed_kinds}
use Rattle.grammar_codes.specs.Table.{Stands}
use Rattle.grammar_codes.proofs.Fixed.{kept-stands, fixed-first, fixed-next, fixed-few}
use Rattle.grammar_codes.proofs.Fixed.{fixed-stands}
use Rattle.read_field.specs.View.{NumberPre}
use Rattle.read_production.specs.View.{ProductionRead, refused_as, fixed_as}
use Rattle.read_production.specs.Levels.{PartRead, FixedPre, FixedRead, KeptRead, FixedAt}
use Rattle.read_production.proofs.Levels.{FirstRead, lower-refused, lower-fixed, lower-below}

pub part-asks : {stream : List ℕ} {next among : ℕ} → FixedPre stream next → among ≤ 5
    → NumberPre stream next among 65536
unfolding max_stream
part-asks h l =
    record {
      there = record { size = omega (arith, h.size); place = h.place };
      small = omega arith;
    }

-- ---- the first part of a table's code

module _ (s : Settings) (mode : ℕ) (t : List (List Kind)) {stream : List ℕ}
    {next at number value q : ℕ} (h : at ≤ 8 * length stream)
    (g : FirstRead s.alignment [] t stream next number value q) where
  table-stopped : 0 < number → FixedRead s mode t stream next at (refused_as number at)
  table-stopped l =
      record {
        outcome = lower-refused t g l;
        refused = λ _. refl;
        read = λ z. absurd (omega arith);
        inside = h;
        stands = λ z. absurd (omega arith);
      }

  table-named : number ≡ 0 → value < length (get_or t 0 []) → {k : ℕ}
      → k ≡ kind_number (get_or (get_or t 0 []) value SD) → Stands mode k
      → FixedRead s mode t stream next at (fixed_as k q)
  table-named z l e stands =
      record {
        outcome = lower-fixed t g z l e;
        refused = λ n. absurd (omega arith);
        read = λ _. refl;
        inside = g.inside;
        stands = λ _. stands;
      }

  table-lower : number ≡ 0 → length (get_or t 0 []) ≤ value → {r : ProductionRead}
      → FixedRead s mode (drop 1 t) stream q at r → FixedRead s mode t stream next at r
  table-lower z l f =
      record {
        outcome = lower-below t g z l f.outcome;
        refused = f.refused;
        read = f.read;
        inside = f.inside;
        stands = f.stands;
      }

-- ---- those kept

module _ (s : Settings) {stream : List ℕ} {next at count number value q : ℕ}
    (h : at ≤ 8 * length stream) (e : count ≡ length (kept_kinds s.comments s.instructions))
    (g : PartRead s.alignment stream next count number value q) where
  abbrev kept : List Kind
  kept = kept_kinds s.comments s.instructions

  kept-part : FirstRead s.alignment [] (kept ∷ []) stream next number value q
  unfolding no_kinds
  kept-part =
      let m : count ≡ 0 + (length kept + 0) = omega (arith, e) in
      subst (λ n. PartRead s.alignment stream next n number value q) m g

  pub kept-stopped : 0 < number → KeptRead s stream next at (refused_as number at)
  kept-stopped l mode = table-stopped s mode (kept ∷ []) h kept-part l

  pub kept-named : number ≡ 0 → {k : ℕ} → k ≡ kind_number (get_or kept value SD)
      → KeptRead s stream next at (fixed_as k q)
  kept-named z {k} f mode =
      let l : value < length kept = omega (arith, e, g.below z) in
      table-named s mode (kept ∷ []) h kept-part z l f
      (subst (Stands mode) (sym f) (kept-stands s.comments s.instructions mode value l))

-- ---- the main level

pub main-values : (s : Settings) (mode : ℕ) {count on : ℕ} → count ≡ length (fixed_kinds mode)
    → on ≡ leads_on (drop 1 (fixed_levels s.comments s.instructions mode)) → count + on ≤ 5
main-values s mode e f =
    split (no_kinds (drop 1 (fixed_levels s.comments s.instructions mode)))
    (λ y. omega (arith, e, fixed-few mode, rw y at f))
    (λ y. omega (arith, e, fixed-few mode, rw y at f))

module _ (s : Settings) (mode : ℕ) {stream : List ℕ} {next at count on number value q : ℕ}
    (h : at ≤ 8 * length stream) (e : count ≡ length (fixed_kinds mode))
    (f : on ≡ leads_on (drop 1 (fixed_levels s.comments s.instructions mode)))
    (g : PartRead s.alignment stream next (count + on) number value q) where
  abbrev t : List (List Kind)
  t = fixed_levels s.comments s.instructions mode

  same : get_or t 0 [] ≡ fixed_kinds mode
  same = fixed-first s.comments s.instructions mode

  count-is : count ≡ length (get_or t 0 [])
  count-is = e ∙ ap (λ (l : List Kind). length l) (sym same)

  fixed-part : FirstRead s.alignment [] t stream next number value q
  fixed-part =
      let m : count + on ≡ 0 + (length (get_or t 0 []) + leads_on (drop 1 t)) =
      omega (arith, count-is, f) in
      subst (λ n. PartRead s.alignment stream next n number value q) m g

  pub fixed-stopped : 0 < number → FixedAt s mode stream next at (refused_as number at)
  fixed-stopped l = table-stopped s mode t h fixed-part l

  module _ (z : number ≡ 0) where
    pub fixed_named : value < count → {k : ℕ} → k ≡ kind_number (get_or (fixed_kinds mode) value SD)
        → FixedAt s mode stream next at (fixed_as k q)
    fixed_named l k =
        table-named s mode t h fixed-part z (omega (arith, count-is))
        (k ∙ ap (λ (l : List Kind). kind_number (get_or l value SD)) (sym same))
        (subst (Stands mode) (sym k) (fixed-stands mode value (omega (arith, e))))

    on-kept : count ≤ value → drop 1 t ≡ kept_kinds s.comments s.instructions ∷ []
    on-kept l =
        split (no_kinds (drop 1 t))
        (λ y. absurd (omega (arith, g.below z, rw y at f)))
        (λ y. fixed-next s.comments s.instructions mode y)

    pub fixed-lower : count ≤ value → {r : ProductionRead} → KeptRead s stream q at r
        → FixedAt s mode stream next at r
    fixed-lower l {r} k =
        table-lower s mode t h fixed-part z (omega (arith, count-is))
        (subst (λ ls. FixedRead s mode ls stream q at r) (sym (on-kept l)) (k mode))
