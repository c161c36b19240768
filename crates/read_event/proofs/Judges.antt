-- The answers of `judge`.
use mathlib.Core.Path.{◌≡◌, refl, sym, ap, ◌∙◌}
use mathlib.Core.Bool.{Bool, true, false, not, true≢false}
use mathlib.Core.List.{List}
use Prim.Native.Nat.{ℕ, suc}
use native.Mathlib.Omega.{arith}
use lib.Dec.{eqb}
use borrow.Author.Tests.{not-true, not-false, ne_eqb}
use Rattle.std.specs.Prelude as std
use Rattle.mem_chain.specs.Chain.{link_of}
use Rattle.spec_fields.specs.Refusal.{number_of, shape, loose, limit}
use Rattle.mem_state.specs.declared.Core.{Core}
use Rattle.mem_state.specs.declared.Strings.{Strings}
use Rattle.mem_state.specs.declared.Growth.{Growth}
use Rattle.read_production.specs.View.{ProductionRead}
use Rattle.grammar_update.specs.Growth.{growth_of, fits_in}
use Rattle.read_event.specs.Judge.{LooseHere, judge_number, allowed_here, JudgePost}

-- A row that was found, by its link.
pub some-linked : (o : std.Option ℕ) → std.is_some o ≡ not (eqb (link_of o) 0)
some-linked std.None = refl
some-linked (std.Some row) = sym (ap not (ne_eqb (suc row) 0 (λ z. absurd (omega (arith, z)))))

module _ {work : List ℕ} {c : Core} {p : ProductionRead} {s : Strings} {g : Growth} {a : Bool}
    (growth : g ≡ growth_of work c p.kind p.learned s)
    (allowed : a ≡ allowed_here work c p s) where
  pub judge-equal : not a ≡ true
      → JudgePost work c p s (record { number = number_of shape; growth = g })
  judge-equal h =
      record {
        growth-is = growth;
        equal = λ _. refl;
        tested = λ t. absurd (true≢false (sym t ∙ sym allowed ∙ not-true a h));
      }

  module _ (h : not a ≡ false) {l : Bool} (is : LooseHere work c p s l) where
    judged : {number : ℕ}
        → number ≡ judge_number l (fits_in c (growth_of work c p.kind p.learned s))
        → JudgePost work c p s (record { number = number; growth = g })
    judged e =
        record {
          growth-is = growth;
          equal = λ z. absurd (true≢false (sym (not-false a h) ∙ allowed ∙ z));
          tested = λ _. record { l = l; l-is = is; number_is = e };
        }

    pub judge-loose : l ≡ true
        → JudgePost work c p s (record { number = number_of loose; growth = g })
    unfolding judge_number
    judge-loose e = judged (rw e)

    module _ (e : l ≡ false) {f : Bool} (fit : f ≡ fits_in c g) where
      same-fit : fits_in c (growth_of work c p.kind p.learned s) ≡ f
      same-fit = ap (fits_in c) (sym growth) ∙ sym fit

      pub judge-limit : not f ≡ true
          → JudgePost work c p s (record { number = number_of limit; growth = g })
      unfolding judge_number
      judge-limit h = judged (rw (e, same-fit, not-true f h))

      pub judge-passes : not f ≡ false → JudgePost work c p s (record { number = 0; growth = g })
      unfolding judge_number
      judge-passes h = judged (rw (e, same-fit, not-false f h))
