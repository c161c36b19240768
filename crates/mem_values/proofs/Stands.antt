-- The whole state of the value table after the store grows and after other tables change, and the
-- strict form by it.
use Prim.Native.Nat.{ℕ, zero, suc}
use native.Mathlib.Omega.{arith}
use mathlib.Core.Path.{◌≡◌, refl, sym, ap, subst, ◌∙◌}
use mathlib.Core.Bool.{Bool, true}
use mathlib.Core.List.{List}
use mathlib.Core.Option.{Option, none, some}
use lib.ListN.{length}
use Rattle.text.specs.Text.{Text}
use Rattle.spec_exi.specs.Event.{QName}
use Rattle.spec_exi.specs.Tables.{Tables, value, partitions_of, form_of, replaced, is_zero}
use Rattle.mem_chain.specs.Chain.{last_that, since}
use Rattle.mem_entries.specs.Texts.{hash_of, Grown}
use Rattle.mem_entries.specs.Entries.{Entries, has_text_at}
use Rattle.mem_values.specs.declared.Form.{Form}
use Rattle.mem_values.specs.Window.{Capacity, unbounded, bounded, closed, Differ, value_form}
use Rattle.mem_values.specs.Window.{Tabled}
use Rattle.mem_values.specs.Forms.{form_in, ValuesStand, Formed}
use Rattle.mem_values.proofs.Joined.{SameValues, values-grown, values-kept}
use Rattle.mem_values.proofs.Tables.{form-is}

pub capacity-is : (cap : Option ℕ) (n : ℕ) → (is_zero cap ≡ true → n ≡ 0) → Capacity cap n
unfolding is_zero
capacity-is none n h = unbounded
capacity-is (some zero) n h = let z : n ≡ 0 = h refl in rw z closed
capacity-is (some (suc c)) n h = bounded {c = suc c} (omega arith)

pub stand-grown : {work before after : List ℕ} {stored more n low newer : ℕ} {es : Entries}
    {cap : Option ℕ}
    → Grown before after stored more → ValuesStand work before stored n low newer es cap
    → ValuesStand work after more n low newer es cap
stand-grown g s =
    record {
      holds = values-grown g s.holds;
      differ = s.differ;
      capacity = s.capacity;
      gone = s.gone;
      new = s.new;
      near = s.near;
    }

pub stand-kept : {work after store : List ℕ} {stored n low newer : ℕ} {es : Entries}
    {cap : Option ℕ}
    → SameValues work after → ValuesStand work store stored n low newer es cap
    → ValuesStand after store stored n low newer es cap
stand-kept k s =
    record {
      holds = values-kept k s.holds;
      differ = s.differ;
      capacity = s.capacity;
      gone = s.gone;
      new = s.new;
      near = s.near;
    }

-- `form_of` answers the form that the strict form has.
pub strict-form : {work store : List ℕ} {x : Text} {h stored n low newer owner : ℕ} {r : Form}
    {es : Entries} {cap : Option ℕ}
    {name : ℕ → QName Text} {is_key : ℕ → Bool} {t : Tables}
    → Formed work store x h n low newer owner r
    → ValuesStand work store stored n low newer es cap → h ≡ hash_of x
    → Tabled name is_key t es cap
    → is_key owner ≡ true → form_in r ≡ form_of (partitions_of t (value (name owner))) x
strict-form {x = x} {stored = stored} {n = n} {low = low} {owner = owner} {es = es} {cap = cap} f s
    b w l =
    let c : length es ≡ n = s.holds.count in
    let g : low ≡ replaced cap (length es) = s.gone ∙ ap (replaced cap) (sym c) in
    f.means stored es cap s b
    ∙ ap (λ m. value_form cap es owner (since low (last_that (has_text_at es x) m))) (sym c)
    ∙ ap (λ m. value_form cap es owner (since m (last_that (has_text_at es x) (length es)))) g
    ∙ sym (form-is w (subst (Capacity cap) (sym c) s.capacity) owner l x
    (subst (λ m. Differ m es) g s.differ) _ refl)
