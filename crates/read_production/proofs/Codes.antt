-- The code that was read, against the definitions.
use Prim.Native.Nat.{ℕ, ◌≤◌}
use native.Mathlib.Omega.{arith}
use mathlib.Core.Path.{◌≡◌, refl, sym, ap, ◌∙◌}
use mathlib.Core.Bool.{Bool, true, false, cond, true≢false}
use mathlib.Core.List.{List}
use mathlib.Core.Option.{none}
use lib.ListN.{length}
use Rattle.spec_fields.proofs.Tests.{is_t}
use Rattle.text.specs.Text.{Text}
use Rattle.spec_exi.specs.Event.{Event, Kind}
use Rattle.spec_exi.specs.Settings.{Settings}
use Rattle.spec_exi.specs.Grammar.{Production, Code, unnamed}
use Rattle.spec_exi.specs.Grammar.{fits, at_level}
use Rattle.spec_exi.specs.Grammar.{first_fit}
use Rattle.spec_exi.proofs.Codes.{fits-kind}
use Rattle.grammar_codes.specs.Table.{table_of, FixedCode}
use Rattle.grammar_codes.specs.Table.{after_learned}
use Rattle.grammar_codes.proofs.Teaches.{reached-unnamed}
use Rattle.mem_entries.specs.Entries.{key_at}
use Rattle.mem_rows.specs.Rows.{Learnt, Rows, kind_at, carries, carried_at}
use Rattle.mem_rows.specs.Rows.{production_of}
use Rattle.mem_rows.specs.Valid.{Valid}
use Rattle.grammar_match.specs.Here.{site_in, CodeRows, learned_here}
use Rattle.grammar_match.specs.Codes.{Strict}
use Rattle.grammar_match.proofs.Here.{inner-here}
use Rattle.grammar_match.proofs.Unfit.{number-kind}
use Rattle.grammar_match.proofs.Codes.{fixed-strict, fixed-other, learned-strict}
use Rattle.event_code.specs.Numbers.{in_fragment}
use Rattle.read_production.specs.View.{ProductionRead, fixed_as}
use Rattle.read_production.specs.Learned.{IsLearned}
use Rattle.read_production.specs.Production.{IsCode}

module _ {work : List ℕ} {learned mode top : ℕ} {w : Rows} {opened : List ℕ} (valid : Valid w)
    (h : CodeRows work learned mode top w opened) (s : Settings) (store : Text) where
  abbrev here : List Production
  here = learned_here w mode opened

  abbrev t : List (List Kind)
  t = table_of s.comments s.instructions mode

  pub fixed-is : (kind next : ℕ) (x : Code) → FixedCode t kind x
      → IsCode s w store mode opened (fixed_as kind next) (after_learned (length here) x)
  unfolding after_learned unnamed
  fixed-is kind next x f =
      let k : x.production.kind ≡ kind_at kind =
      sym (number-kind x.production.kind) ∙ ap kind_at f.is in
      record {
        production = reached-unnamed f.reaches ∙ ap unnamed k;
        rows = λ y. absurd (true≢false (sym y));
        nameless = λ _. record { name = refl; uri = refl; local = refl };
        strict = λ y. absurd (true≢false (sym y));
        fixed = λ _ e i.
            record {
              strict = fixed-strict valid h s store f e i;
              loose = λ y j. fixed-other valid h s store f e i j;
            };
      }

  -- ---- a learned production

  module _ (l : in_fragment ≤ mode) {v : ℕ} {r : ProductionRead} (g : IsLearned w (site_in mode top) v r)
      (y : r.learned ≡ true) where
    abbrev row : Learnt
    row = g.row

    abbrev code : Code
    code = at_level v (production_of w row)

    learned-fits : (e : Event Text) → fits (production_of w row) e ≡ true
        → Strict s w store mode opened code e
    unfolding production_of
    learned-fits e f =
        learned-strict valid h s store row e
        (ap (λ ps. first_fit ps e) (inner-here h l) ∙ g.first e f)
        (fits-kind (production_of w row) e (is_t _ f))

    as_read : (k n : ℕ) (b : Bool) → k ≡ row.kind → n ≡ row.name → b ≡ true
        → production_of w row
        ≡ record { kind = kind_at k; qname = cond b (carried_at w (kind_at k) n) none }
    unfolding production_of
    as_read k n b x z t = rw (x, z, t)

    pub learned-is : IsCode s w store mode opened r code
    unfolding at_level
    learned-is =
        let kind : kind_at r.kind ≡ kind_at row.kind = ap kind_at g.kind in
        record {
          production = as_read r.kind r.name r.learned g.kind g.name y;
          rows = λ _.
              record {
                name = omega (arith, g.name, g.fit.name);
                uri = λ c. g.uri ∙ ap (λ b. cond b (key_at w.names row.name) 0)
                    (ap carries (sym kind) ∙ c) ∙ ap (key_at w.names) (sym g.name);
                local = g.local ∙ sym g.name;
              };
          nameless = λ c.
              let u : carries (kind_at row.kind) ≡ false = ap carries (sym kind) ∙ c in
              let z : row.name ≡ 0 = g.fit.plain u in
              record {
                name = g.name ∙ z;
                uri = g.uri ∙ ap (λ b. cond b (key_at w.names row.name) 0) u;
                local = g.local ∙ z;
              };
          strict = λ _ e f. learned-fits e f;
          fixed = λ z. absurd (true≢false (sym y ∙ z));
        }
