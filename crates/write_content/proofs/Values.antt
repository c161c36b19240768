-- A value, judged where the strings before it are ahead of memory.
use Prim.Native.Nat.{ℕ, ◌+◌, ◌≤◌, ◌<◌}
use native.Mathlib.Omega.{arith}
use mathlib.Core.Path.{◌≡◌, refl, sym, subst, ◌∙◌}
use mathlib.Core.Bool.{Bool, true, false, cond}
use mathlib.Core.List.{List}
use mathlib.Core.Option.{Option}
use lib.ListN.{length}
use Rattle.spec_exi.specs.Sizes.{max_uris, max_names}
use Rattle.spec_exi.specs.Tables.{Placed, replaced, value}
use Rattle.text.specs.Text.{Text, part}
use Rattle.event.specs.declared.Part.{Part}
use Rattle.event.specs.Cells.{as_span}
use Rattle.mem_entries.specs.Entries.{Entries}
use Rattle.mem_values.specs.Window.{newest_in}
use Rattle.mem_values.specs.Forms.{ValuesStand}
use Rattle.mem_rows.specs.Rows.{Rows, placed_at, name_at, with_value}
use Rattle.mem_state.specs.declared.Core.{Core}
use Rattle.mem_state.specs.declared.Strings.{Strings}
use Rattle.mem_state.specs.Holds.{Stores, Bounded, Counts}
use Rattle.mem_state.specs.Strung.{value_added, StringsJoin}
use Rattle.mem_state.proofs.Strung.{uris-counted, names-counted, strings-ahead, strings-values}
use Rattle.mem_state.proofs.Strung.{value-more}
use Rattle.write_partition.specs.Writable.{Writable, Few}
use Rattle.write_partition.specs.Judged.{StringMeans}
use Rattle.write_values.specs.Values.{ValueAnswer, value_bits, ValueBounds, ValuesMeant, ValuePost}
use Rattle.write_qname.specs.Premise.{list_stores, Prepared, Inside, part_at}
use Rattle.write_qname.specs.Qnames.{joining_of}
use Rattle.write_qname.proofs.Lain.{placed_in, lain-in}
use Rattle.write_content.specs.Answer.{ContentAnswer}
use Rattle.write_content.specs.Writing.{ValuePuttable}
use Rattle.write_content.specs.Contents as contents

-- ---- rows with the strings of a name

within : {n most k : ℕ} (b : Bool) → n ≤ most → (b ≡ true → n < most) → n + cond b 1 0 ≡ k
    → k ≤ most
within true few left e = omega (arith, left refl, e)
within false few left e = omega (arith, few, e)

pub few-strings : {from : Stores} {c : Core} {s : Strings} {w v : Rows} → Bounded c
    → Counts c w → StringsJoin from s w v
    → (s.new_uri ≡ true → c.uris < max_uris) → (s.new_name ≡ true → c.names < max_names)
    → Few v
few-strings {s = s} b n j uris names =
    record {
      uris = within s.new_uri b.uris uris (uris-counted j n);
      names = within s.new_name b.names names (names-counted j n);
      values = j.valid.window.few;
    }

-- ---- a value more

-- As a part of the list's store.
pub value-at : {text y : Text} (x : Part)
    → y ≡ part text (record { place = x.place; size = x.size })
    → {owner values longest capacity stored : ℕ} {work : List ℕ} {v : ValueAnswer}
    → ValuePost text y owner values longest capacity stored work v
    → ValuePost text (part_at text x) owner values longest capacity stored work v
unfolding as_span
value-at {text} x e {owner} {values} {longest} {capacity} {stored} {work} {v} p =
    subst (λ t. ValuePost text t owner values longest capacity stored work v) e p

-- Names stay.
pub value-name : (b : Bool) (k : ℕ) (w : Rows) (y : Placed) (n : ℕ)
    → name_at (value_added b k w y) n ≡ name_at w n
unfolding value_added with_value name_at placed_at
value-name true k w y n = refl
value-name false k w y n = refl

module _ {opening text work : List ℕ} {c : Core} {w : Rows} (p : Prepared opening text work c w)
    {s : Strings} {w₂ : Rows} (j : StringsJoin (list_stores opening text) s w w₂)
    (f : s.new_value ≡ false) where
  stand-under : ℕ → Entries → Option ℕ → Type 0
  stand-under n es cap =
      ValuesStand work text (length text) n (replaced cap n) (newest_in cap n) es cap

  values-meant : ValuesMeant work text c.values c.longest c.capacity w₂
  unfolding stand-under
  values-meant =
      record {
        stand =
            subst (stand-under c.values w₂.values) (sym (strings-ahead j).capacity)
            (subst (λ es. stand-under c.values es w.capacity) (sym (strings-values j f))
            (subst (λ n. stand-under n w.values w.capacity) (sym p.counts.values)
            p.holds.values));
        longest-is = p.counts.longest ∙ sym (strings-ahead j).longest;
        capacity-is = p.counts.capacity ∙ sym (strings-ahead j).capacity;
      }

  module _ (x : Part) {owner stored : ℕ} {v : ValueAnswer}
      (post : ValuePost text (part_at text x) owner c.values c.longest c.capacity stored work v)
      (writable : Writable w₂) (few : Few w₂) (row : owner < length w₂.names) where
    pub value-means : StringMeans (value (name_at w₂ owner)) w₂
        (value_added v.joins owner w₂ (placed_in text x)) stored (part_at text x) v.number
        v.stored (value_bits work v.partition v.id owner c.values c.capacity (part_at text x))
    value-means = post.meant w₂ j.valid writable few values-meant row x.place

    pub value-joins : v.number ≡ 0 → Inside text x
        → StringsJoin (list_stores opening text) (contents.with_value s owner x v).strings w
        (value_added v.joins owner w₂ (placed_in text x))
    value-joins z i =
        value-more j f owner (joining_of x v.joins v.hash) (placed_in text x)
        (λ b. record { lain = lain-in i v.joins v.hash; hash = ((post.bounds z).new b).2 })
        (value-means.valid z)

-- ---- what the writing asks

pub value-puttable : {x : Text} {values stored : ℕ} {v : ValueAnswer} → ValueBounds x values stored v
    → (r : ContentAnswer) → r.partition ≡ v.partition → ValuePuttable r x
value-puttable {v = v} b r e =
    record {
      literal = λ f g.
          b.literal (let n : v.partition ≡ 2 = omega (arith, b.which, e, f, g) in n);
    }
