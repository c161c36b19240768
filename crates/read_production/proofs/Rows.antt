-- The learned production that a code names, by its row.
use Prim.Native.Nat.{ℕ, suc, ◌-◌, ◌≤◌, ◌<◌}
use native.Mathlib.Omega.{arith}
use mathlib.Core.Path.{◌≡◌, refl, sym, ap, ◌∙◌}
use mathlib.Core.Bool.{true}
use mathlib.Core.List.{List}
use mathlib.Core.Option.{some}
use lib.ListN.{length, get_elem?}
use Rattle.spec_fields.specs.Refusal.{number_of, number_code}
use Rattle.spec_exi.specs.Sizes.{max_learned}
use Rattle.spec_exi.specs.Grammar.{kind_number, learned_in}
use Rattle.mem_chain.specs.Chain.{last_that}
use Rattle.mem_chain.proofs.Last.{last-is, last-most}
use Rattle.mem_index.specs.Index.{tally, has_key, is_numbered}
use Rattle.mem_index.proofs.Codes.{numbered_is}
use Rattle.mem_learned.specs.Learned.{Taught, site_of_row}
use Rattle.mem_learned.specs.Learned.{LearnedHold, CountedAt, NthLearned, IsProduction}
use Rattle.mem_learned.specs.Learned.{ProductionAt, SitedPre, LearnedRowPre}
use Rattle.mem_learned.specs.declared.Production as cell
use Rattle.mem_learned.proofs.Sites.{learned-nth, learned-there}
use Rattle.mem_rows.specs.Rows.{Learnt, Rows, site_at}
use Rattle.mem_rows.specs.Rows.{production_of, learned_of}
use Rattle.mem_rows.specs.Valid.{learnt_at, SiteFits, LearntFits, Valid}
use Rattle.mem_state.specs.Holds.{taught_of, taught_in}
use Rattle.mem_state.proofs.Taught.{keys_of, site-same}
use Rattle.mem_state.proofs.Taught.{taught-count, taught-row, learns-of}
use Rattle.grammar_match.proofs.Unfit.{kind-number}
use Rattle.grammar_match.proofs.Rows.{site-key, production-is, first-is}
use Rattle.event_code.specs.Numbers.{number_of_se, number_of_ch}
use Rattle.read_production.specs.View.{refused_as}
use Rattle.mem_layout.specs.Layout.{fragment_site}
use Rattle.read_production.specs.View.{ProductionRead}
use Rattle.read_production.specs.Learned.{LearnedPre, IsLearned, LearnedRead, ChildRead}

-- ---- the one of a site that has v newer ones

module _ {w : Rows} (valid : Valid w) where
  abbrev rs : List Taught
  rs = taught_in w

  module _ (site : ℕ) (there : SiteFits (length w.names) site) where
    module _ {work : List ℕ} {learned : ℕ} (hold : LearnedHold work learned rs) {count v : ℕ}
        (counted : CountedAt work site count) (l : v < count) {r : ℕ}
        (nth : r ≡ last_that (is_numbered (site_of_row rs) site (count - 1 - v)) learned) where
      abbrev all : ℕ
      all = tally (has_key (site_of_row rs) site) (length rs)

      all-is : count ≡ all
      all-is =
          counted.count learned rs hold
          ∙ ap (tally (has_key (site_of_row rs) site)) (sym hold.count)

      last-is-row : r ≡ last_that (is_numbered (site_of_row rs) site (all - 1 - v)) (length rs)
      last-is-row =
          nth
          ∙ ap (λ n. last_that (is_numbered (site_of_row rs) site (n - 1 - v)) learned) all-is
          ∙ ap (last_that (is_numbered (site_of_row rs) site (all - 1 - v))) (sym hold.count)

      pub row-there : r ≡ 0 → ⊥
      row-there z =
          learned-there (keys_of valid) (learns-of valid) site (site-key valid site there) v (omega (arith, all-is))
          (sym z ∙ last-is-row)

      module _ (some-row : (r ≡ 0 → ⊥)) where
        abbrev g : ℕ
        g = r - 1

        r-is : suc (r - 1) ≡ r
        r-is = omega (arith, some-row)

        low : r - 1 < length w.learned
        low =
            omega (
              arith,
              some-row,
              last-most (is_numbered (site_of_row rs) site (all - 1 - v)) (length rs),
              last-is-row,
              taught-count w,
            )

        numbered : (site_of_row rs (r - 1) ≡ site)
            × (tally (has_key (site_of_row rs) site) (r - 1) ≡ all - 1 - v)
        numbered =
            numbered_is (site_of_row rs) site (all - 1 - v) (r - 1)
            (last-is _ (length rs) (r - 1) (sym last-is-row ∙ sym r-is))

        site-is : (learnt_at w.learned (r - 1)).site ≡ site
        unfolding taught_of
        site-is = ap (λ (t : Taught). t.site) (sym (taught-row w (r - 1) low)) ∙ numbered.0

        there-is : get_elem? (learned_in (site_at w site) (learned_of w)) v
            ≡ some (production_of w (learnt_at w.learned (r - 1)))
        there-is =
            ap (λ k. get_elem? (learned_in k (learned_of w)) v) (sym (site-same w site))
            ∙ learned-nth (keys_of valid) (learns-of valid) site (site-key valid site there) v (r - 1)
            (omega (arith, all-is)) (r-is ∙ last-is-row)
            ∙ ap some (production-is valid site there (r - 1) low)

        v-is : all - 1 - tally (has_key (site_of_row rs) site) (r - 1) ≡ v
        v-is = omega (arith, numbered.1, all-is, l)

        module _ {p : cell.Production} (at : ProductionAt work (r - 1) p) where
          is : IsProduction rs (r - 1) p
          is = at.means learned rs hold (omega (arith, low, taught-count w, hold.count))

          pub kind-read : p.kind ≡ (learnt_at w.learned (r - 1)).kind
          unfolding taught_of
          kind-read =
              is.kind ∙ ap (λ (t : Taught). kind_number t.kind) (taught-row w (r - 1) low)
              ∙ kind-number _ (omega (arith, (valid.refers.learned (r - 1) low).up_to))

          pub is-learned : (next : ℕ)
              → IsLearned w site v
              (record {
                number = 0;
                next = next;
                kind = p.kind;
                learned = true;
                name = p.name;
                uri = p.uri;
                local = p.local;
              })
          unfolding taught_of
          is-learned next =
              let row_is = taught-row w (r - 1) low in
              record {
                number = refl;
                row = learnt_at w.learned (r - 1);
                fit = valid.refers.learned (r - 1) low;
                site-is = site-is;
                kind = kind-read;
                name = is.name ∙ ap (λ (t : Taught). t.name) row_is;
                uri = is.uri_row ∙ ap (λ (t : Taught). t.uri_row) row_is;
                local = is.name_row ∙ ap (λ (t : Taught). t.name_row) row_is;
                there = there-is;
                first = λ e f.
                    first-is valid site there (r - 1) low e f site-is
                    ∙ ap (λ n. some (n, production_of w (learnt_at w.learned (r - 1)))) v-is;
              }

    -- The row of each of them.
    pub learned-row : {work : List ℕ} {learned : ℕ} → LearnedHold work learned rs → {count v : ℕ}
        → CountedAt work site count → v < count
        → (row : Learnt) × LearntFits (length w.names) row
        × (get_elem? (learned_in (site_at w site) (learned_of w)) v ≡ some (production_of w row))
    learned-row hold counted l =
        let n = row-there hold counted l refl in (
          learnt_at w.learned (_ - 1),
          valid.refers.learned (_ - 1) (low hold counted l refl n),
          there-is hold counted l refl n,
        )

-- ---- what the reader of a learned production leaves

module _ {work : List ℕ} {site learned : ℕ} (h : LearnedPre work site learned) where
  pub nth-asks : SitedPre work site learned
  unfolding max_learned
  nth-asks = record { room = h.room; low = h.low; few = h.few }

  pub row-asks : {row : ℕ} → suc row ≤ learned → LearnedRowPre work row
  unfolding max_learned
  row-asks l = record { room = h.room; low = omega (arith, l, h.few) }

module _ {work : List ℕ} {site count v learned r : ℕ}
    (nth : NthLearned work site count v learned r) (at next : ℕ) where
  refused_as_lem : ((w : Rows) → Valid w → LearnedHold work learned (taught_in w)
      → SiteFits (length w.names) site → CountedAt work site count → v < count → ⊥)
      → LearnedRead work site count v learned at next (refused_as number_code at)
  unfolding number_of
  refused_as_lem never =
      record {
        refused = λ _. refl;
        read = λ z. absurd (omega arith);
        bounds = λ z. absurd (omega arith);
        means = λ w x hold there counted l. absurd (never w x hold there counted l);
      }

  -- There is none.
  pub learned-none : r ≡ 0 → LearnedRead work site count v learned at next (refused_as number_code at)
  learned-none z =
      refused_as_lem
      (λ w x hold there counted l.
      row-there x site there hold counted l (nth.means (taught_in w) hold l) z)

module _ {work : List ℕ} {site count v learned row : ℕ}
    (nth : NthLearned work site count v learned (suc row)) (at next : ℕ) {p : cell.Production}
    (g : ProductionAt work row p) where
  some-row : suc row ≡ 0 → ⊥
  some-row z = absurd (omega (arith, z))

  here : ProductionAt work (suc row - 1) p
  here = let e : suc row - 1 ≡ row = omega arith in rw e g

  -- No learned production has such a kind.
  pub learned-low : p.kind < number_of_se → LearnedRead work site count v learned at next (refused_as number_code at)
  learned-low k =
      refused_as_lem nth at next (λ w x hold there counted l.
      omega (
        arith,
        kind-read x site there hold counted l (nth.means (taught_in w) hold l) some-row here,
        (x.refers.learned (suc row - 1)
            (low x site there hold counted l (nth.means (taught_in w) hold l) some-row)).from,
      ))

  pub learned-high : number_of_ch < p.kind → LearnedRead work site count v learned at next (refused_as number_code at)
  learned-high k =
      refused_as_lem nth at next (λ w x hold there counted l.
      omega (
        arith,
        kind-read x site there hold counted l (nth.means (taught_in w) hold l) some-row here,
        (x.refers.learned (suc row - 1)
            (low x site there hold counted l (nth.means (taught_in w) hold l) some-row)).up_to,
      ))

  pub learned-found : number_of_se ≤ p.kind → p.kind ≤ number_of_ch
      → LearnedRead work site count v learned at next
      (record {
        number = 0;
        next = next;
        kind = p.kind;
        learned = true;
        name = p.name;
        uri = p.uri;
        local = p.local;
      })
  learned-found a b =
      record {
        refused = λ z. absurd (omega arith);
        read = λ _. (refl, refl);
        bounds = λ _.
            record {
              from = a;
              up_to = b;
              name = g.name_low;
              uri = g.uri_row_low;
              local = g.name_row_low;
            };
        means = λ w x hold there counted l.
            is-learned x site there hold counted l (nth.means (taught_in w) hold l) some-row here next;
      }

-- ---- in a fragment's content

-- SE alone is learned there.
pub child-other : {work : List ℕ} {count v learned at next : ℕ} {r : ProductionRead}
    → LearnedRead work fragment_site count v learned at next r → number_of_se < r.kind
    → ChildRead work count v learned at next (refused_as number_code at)
unfolding number_of
child-other k other =
    record {
      learned-read = record {
        refused = λ _. refl;
        read = λ z. absurd (omega arith);
        bounds = λ z. absurd (omega arith);
        means = λ w x hold there counted l.
            let m = k.means w x hold there counted l in
            absurd (omega (arith, m.kind, m.fit.alone m.site-is));
      };
      element = λ z. absurd (omega arith);
    }

pub child-read : {work : List ℕ} {count v learned at next : ℕ} {r : ProductionRead}
    → LearnedRead work fragment_site count v learned at next r → r.kind ≤ number_of_se
    → ChildRead work count v learned at next r
child-read k low =
    record { learned-read = k; element = λ z. omega (arith, (k.bounds z).from) }
