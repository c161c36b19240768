-- The text of a literal after the store, and none after a hit.
use Prim.Native.Nat.{ℕ, ◌+◌, ◌≤◌}
use native.Mathlib.Omega.{arith}
use native.Mathlib.Nat.{le_refl}
use mathlib.Core.Path.{◌≡◌, refl, ap, sym, ◌∙◌}
use mathlib.Core.Bool.{true≢false}
use mathlib.Core.List.{List, []}
use lib.ListN.{length, take, length-take}
use Rattle.text.specs.Text.{Text, Span, part}
use Rattle.text.proofs.Parts.{part-take}
use Rattle.spec_exi.specs.Sizes.{max_store}
use Rattle.mem_entries.specs.Texts.{Grown, Lies}
use Rattle.mem_rows.specs.Rows.{Rows, tables_of}
use Rattle.read_literal.specs.View as seen
use Rattle.read_literal.specs.Literal.{laid_at, LiteralPre, LiteralRead}
use Rattle.read_literal.proofs.Store.{laid_none, laid-part, laid-size, laid-before}
use Rattle.read_partition.specs.Strings.{Tabled, found_as, Laid}

pub record TextLaid (text : List ℕ) (stored n : ℕ) (text' : List ℕ) (x : Text) : Type 0 where
  pub size : length x ≡ n
  pub text-is : text' ≡ laid_at text stored x
  pub ends : stored + n ≤ max_store
  pub room : max_store ≤ length text

module _ {text : List ℕ} {stored n : ℕ} {text' : List ℕ} {x : Text}
    (d : TextLaid text stored n text' x) where
  pub laid-found : part text' (record { place = stored; size = n }) ≡ x
  laid-found =
      ap (λ m. part text' (record { place = stored; size = m })) (sym d.size)
      ∙ ap (λ u. part u (record { place = stored; size = length x })) d.text-is
      ∙ laid-part text stored x (omega arith)

  pub store-grown : Grown text text' stored stored
  unfolding laid_at
  store-grown =
      let h : stored + length x ≤ length text = omega arith in
      record {
        same = ap (take stored) d.text-is ∙ laid-before text stored x h;
        longer = le_refl stored;
        inside = omega (arith, ap length d.text-is, laid-size text stored x h);
      }

  pub store-fits : {w : Rows} {store : Text} → Tabled text stored w store
      → length (tables_of w store).store + length x ≤ max_store
  unfolding tables_of
  store-fits t = omega (arith, t.size)

-- A text in the store is still there after it has grown.
pub lies_grown : {before after : List ℕ} {stored more place size : ℕ} {x : Text}
    → Grown before after stored more → Lies before stored place size x
    → part after (record { place = place; size = size }) ≡ x
lies_grown {before} {after} {stored} {place = place} {size = size} g l =
    let span : Span = record { place = place; size = size } in
    let a : place + size ≤ length (take stored after) =
    omega (arith, length-take stored after, g.longer, g.inside, l.ends) in
    let b : place + size ≤ length (take stored before) =
    omega (arith, length-take stored before, l.ends, l.inside) in
    sym (part-take after stored span a) ∙ ap (λ y. part y span) g.same
    ∙ part-take before stored span b ∙ l.text

-- By what `read_literal` answers.
module _ {stream : List ℕ} {at : ℕ} {text : List ℕ} {stored n : ℕ} {text' : List ℕ}
    {l : seen.Literal} (fit : LiteralPre stream at text stored)
    (r : LiteralRead stream at text stored n text' l) (z : l.number ≡ 0) where
  pub text-laid : (x : Text) → length x ≡ n → text' ≡ laid_at text stored x
      → TextLaid text stored n text' x
  text-laid x e f = record { size = e; text-is = f; ends = r.ends z; room = fit.room }

  pub laid-room : stored + n ≤ length text'
  laid-room =
      let b = r.behind z in
      let h : stored + length b.x ≤ length text = omega (arith, r.ends z, fit.room) in
      omega (arith, ap length b.text-is, laid-size text stored b.x h)

-- ---- a hit

abbrev pub nothing-laid : {text : List ℕ} {stored : ℕ} (next place size row : ℕ) → stored ≤ max_store
    → Laid text stored text (found_as next place size row stored)
nothing-laid {text} {stored} next place size row few =
    record {
      x = [];
      text-is = laid_none text stored;
      stored_is = omega arith;
      room = omega (arith, few);
      whole = refl;
      place = λ z. absurd (true≢false (sym z));
      size = λ z. absurd (true≢false (sym z));
    }
