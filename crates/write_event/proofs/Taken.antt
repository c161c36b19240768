-- The code that an event has in the definitions is the one that was found.
use Prim.Native.Nat.{ℕ, zero, suc, ◌<◌}
use native.Mathlib.Omega.{arith}
use mathlib.Core.Path.{◌≡◌, refl, sym, ap, subst, ◌∙◌}
use mathlib.Core.Bool.{true, false, true≢false}
use mathlib.Core.List.{List}
use mathlib.Core.Option.{some}
use lib.ListN.{length, replicate}
use Rattle.text.specs.Text.{Text}
use Rattle.spec_exi.specs.Event.{Event, Kind, kind_of}
use Rattle.spec_exi.specs.Settings.{Settings}
use Rattle.spec_exi.specs.Grammar as grammar
use Rattle.spec_exi.specs.Grammar.{kind_number, is_wildcard, code_bits, at_level}
use Rattle.spec_exi.specs.Context.{levels_in}
use Rattle.mem_rows.specs.Rows.{Learnt, Rows, kind_at, carries, carried_at, production_of, context_of}
use Rattle.mem_rows.specs.Valid.{learnt_at, Valid}
use Rattle.mem_state.specs.declared.Core.{Core}
use Rattle.mem_state.specs.Holds.{Ahead}
use Rattle.grammar_codes.specs.declared.Place.{Place}
use Rattle.grammar_codes.specs.Table.{table_of, code_at, after_learned, PlaceAt, max_levels}
use Rattle.grammar_codes.proofs.Places.{has-place}
use Rattle.grammar_match.specs.Here.{CodeRows, learned_here, code_here}
use Rattle.grammar_match.specs.Found.{NamedBy, Finds}
use Rattle.grammar_match.proofs.Unfit.{number-kind}
use Rattle.grammar_match.proofs.Codes.{fixed-strict, found-strict}
use Rattle.grammar_update.proofs.Events.{EventTaught, learned-taught, fixed-taught}
use Rattle.write_production.specs.declared.Code.{Code}
use Rattle.write_production.specs.Codes.{code_bits_as}
use Rattle.write_event.specs.Judge.{CodeHere}
use Rattle.write_event.proofs.Coded.{fixed-wild}
use Rattle.write_event.proofs.Bits.{fixed-code-bits, learned-code-bits}

-- x is the definitions' code of the event: its bits; what it teaches; and that it is a learned one's
-- where it carries a name, and, of an event with a name, only there.
pub record EventCode (s : Settings) (w : Rows) (c : Core) (opened : List ℕ) (kind name : ℕ)
    (p : Place) (code : Code) (e : Event Text) : Type 0 where
  pub x : grammar.Code
  pub is : code_here s w (replicate c.stored 0) c.mode opened e ≡ some x
  pub bits : code_bits_as s c.mode p code
      ≡ code_bits s.alignment
      (levels_in s (context_of w (replicate c.stored 0) c.mode opened)) x.parts
  pub by : EventTaught w c.mode c.top kind name opened code.learned x e
  pub named : is_wildcard x.production.qname ≡ false → code.learned ≡ true
  pub plain : is_wildcard x.production.qname ≡ true → carries (kind_of e) ≡ true
      → code.learned ≡ false

-- A learned production of a kind that has a name carries one.
row_named : (w : Rows) (l : Learnt) (k : Kind) → kind_at l.kind ≡ k → carries k ≡ true
    → is_wildcard (production_of w l).qname ≡ false
unfolding production_of carried_at is_wildcard
row_named w l k e t = rw (e, t)

module _ {work : List ℕ} {c : Core} {w v : Rows} {opened : List ℕ} (valid : Valid w)
    (rows : CodeRows work c.learned c.mode c.top w opened) (ahead-valid : Valid v)
    (ahead : Ahead w v) (s : Settings) {kind name : ℕ} {p : Place}
    (at : PlaceAt s.comments s.instructions c.mode kind p) (low : p.level < max_levels)
    {code : Code} (h : CodeHere work c kind name code) (e : Event Text)
    (k : kind_number (kind_of e) ≡ kind) (n : NamedBy v e name) where
  finds : Finds w c.mode c.top name opened e h.row
  finds = h.found.means w v opened e valid ahead-valid ahead rows k n

  none_found : h.row ≡ 0 → EventCode s w c opened kind name p code e
  unfolding after_learned
  none_found z =
      let f = (has-place at low).code in
      let u = fixed-strict valid rows s (replicate c.stored 0) f e k (finds.miss z) in
      let l = (h.fixed z).0 in
      let y : grammar.Code = after_learned (length (learned_here w c.mode opened))
      (code_at (table_of s.comments s.instructions c.mode) p.level p.value) in
      record {
        x = y;
        is = u.is;
        bits = fixed-code-bits valid rows s c.stored code h.counted at low l;
        by = subst
            (λ b. EventTaught w c.mode c.top kind name opened b y e) (sym l)
            (fixed-taught rows h.found z u);
        named = λ t. absurd (true≢false (sym (fixed-wild f) ∙ t));
        plain = λ _ _. l;
      }

  one_found : (g : ℕ) → h.row ≡ suc g → EventCode s w c opened kind name p code e
  unfolding at_level
  one_found g z =
      let f = finds.hit g z in
      let (l, part) = h.taken (omega arith) in
      let (u, less) = found-strict valid rows s (replicate c.stored 0) f z h.counted part in
      let j : kind_at (learnt_at w.learned g).kind ≡ kind_of e =
      ap kind_at f.kind ∙ number-kind (kind_of e) in
      record {
        x = at_level code.part (production_of w (learnt_at w.learned g));
        is = u.is;
        bits = learned-code-bits valid rows s c.stored code h.counted p l f.learns less;
        by = subst
            (λ b. EventTaught w c.mode c.top kind name opened b
            (at_level code.part (production_of w (learnt_at w.learned g))) e) (sym l)
            (learned-taught u);
        named = λ _. l;
        plain = λ y t.
            absurd (true≢false (sym y ∙ row_named w (learnt_at w.learned g) (kind_of e) j t));
      }

  pub event-code : EventCode s w c opened kind name p code e
  event-code = go h.row refl
    where
      go : (r : ℕ) → h.row ≡ r → EventCode s w c opened kind name p code e
      go zero z = none_found z
      go (suc g) z = one_found g z
