-- Values by owner and local number, counts, and the cells of one value: what the functions answer
-- where memory is a table.
use Prim.Native.Nat.{ℕ, ◌/◌, ◌%◌, ◌≤◌, ◌<◌}
use native.Mathlib.Omega.{arith}
use mathlib.Core.Path.{◌≡◌, refl, sym, ap, subst, ◌∙◌}
use mathlib.Core.List.{List}
use lib.ListN.{length}
use Rattle.mem_layout.specs.Layout.{value_ring, value_counts, name_rows, work_cells}
use Rattle.mem_index.specs.declared.Index.{Index}
use Rattle.mem_index.specs.Index.{numbers, tally, has_key, NthPre, Joining, Counted, NthFound}
use Rattle.mem_index.proofs.Codes.{code-key, code-number}
use Rattle.mem_entries.specs.Entries.{Entries, key_at, given}
use Rattle.mem_entries.proofs.Entries.{given-tally}
use Rattle.mem_values.specs.Values.{value_index, value_in}
use Rattle.mem_values.specs.Hold.{ValuesHold, FoundLocal, CountedLocal, ValueAt}

pub owner-asking : {work : List ℕ} {x : Index} {owner n : ℕ} → x ≡ value_index
    → work_cells ≤ length work
    → owner < name_rows → n ≤ numbers → NthPre work x owner n
owner-asking {work} {x} {owner} {n} e room low few =
    subst (λ y. NthPre work y owner n) (sym e)
    (record {
      some = omega arith;
      sized = omega arith;
      head_room = omega arith;
      code_room = omega arith;
      next_room = omega arith;
      few = few;
      low = omega arith;
    })

pub owner-joining : {work : List ℕ} {x : Index} {owner n : ℕ} → x ≡ value_index
    → work_cells ≤ length work
    → owner < name_rows → n ≤ numbers → Joining work x value_counts n owner
owner-joining e room low few =
    record { asking = owner-asking e room low few; count_room = omega arith }

pub local-found : {work : List ℕ} {x : Index} {owner number n low r : ℕ} → x ≡ value_index
    → NthFound work x owner number n low r → FoundLocal work owner number n low r
local-found {work} {x} {owner} {number} {n} {low} {r} e f =
    let g : NthFound work value_index owner number n low r =
    subst (λ y. NthFound work y owner number n low r) e f in
    record {
      is = g.is;
      within = g.within;
      above = g.above;
      newest = λ store stored es h near. g.newest value_counts name_rows _ h.by_owner near;
    }

-- The count of a name's values.
pub given_is : {work store : List ℕ} {stored n : ℕ} {es : Entries}
    → ValuesHold work store stored n es
    → (k : ℕ) → tally (has_key (key_at es) k) n ≡ length (given es k)
given_is {es = es} h k = ap (tally (has_key (key_at es) k)) (sym h.count) ∙ sym (given-tally es k)

pub counted-local : {work : List ℕ} {owner r : ℕ} → owner < name_rows
    → Counted work value_counts owner r
    → CountedLocal work owner r
counted-local {owner = owner} l f =
    record {
      is = f.is;
      within = f.within;
      count = λ store stored n es h. f.means value_index name_rows (key_at es) n h.by_owner l
          ∙ given_is h owner;
    }

pub value-is : {work : List ℕ} {g : ℕ} → ValueAt work g (value_in work (g % value_ring))
unfolding value_in
value-is {work} {g} =
    record {
      cells = refl;
      small = omega arith;
      means = λ store stored n es h l near.
          let c = h.rows g l near in
          let k = h.by_owner.coded.cells g l near in
          let few : g < numbers = omega (arith, h.by_owner.few) in
          record {
            owner = ap (λ x. x / numbers) k ∙ code-key (key_at es) g few;
            number = ap (λ x. x % numbers) k ∙ code-number (key_at es) g few;
            place = c.place_is;
            size = c.size_is;
          };
    }
