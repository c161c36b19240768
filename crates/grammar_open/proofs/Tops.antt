-- Another top, and the array after an event.
use Prim.Native.Nat.{ℕ, ◌≤◌, ◌<◌}
use native.Mathlib.Omega.{arith}
use native.Mathlib.Decide.{ℕ_discrete}
use mathlib.Core.Path.{◌≡◌, sym, ap, ◌∙◌}
use mathlib.Core.List.{List}
use lib.ListN.{length, set, length-set}
use Rattle.spec_exi.specs.Sizes.{max_open}
use Rattle.mem_layout.specs.Layout.{name_rows}
use Rattle.mem_rows.specs.Rows.{Rows}
use Rattle.mem_state.specs.declared.Core.{Core}
use Rattle.mem_state.specs.Holds.{Stores, Bounded, Represents}
use Rattle.grammar_open.specs.declared.State.{State}
use Rattle.grammar_open.specs.Opened.{last_first, opened_in, with_top, Kept}
use Rattle.grammar_open.proofs.Opened.{last-pushed, last_popped}

-- ---- another top

pub represents-top : {work : List ℕ} {from : Stores} {c : Core} {w : Rows} {opened : List ℕ}
    (top : ℕ) → Represents work from c w opened → Represents work from (with_top c top) w opened
represents-top top h =
    record {
      valid = h.valid;
      holds = h.holds;
      counts =
          record {
            uris = h.counts.uris;
            names = h.counts.names;
            values = h.counts.values;
            learned = h.counts.learned;
            grammars = h.counts.grammars;
            longest = h.counts.longest;
            capacity = h.counts.capacity;
          };
      opens = record { size = h.opens.size; rows = h.opens.rows };
      marks = h.marks;
    }

pub bounded-top : {c : Core} (top : ℕ) → top < name_rows → Bounded c → Bounded (with_top c top)
bounded-top top h b =
    record {
      stored = b.stored;
      uris = b.uris;
      names = b.names;
      values = b.values;
      learned = b.learned;
      grammars = b.grammars;
      top = h;
      depth = b.depth;
      fits = b.fits;
      tag = b.tag;
      capacity = b.capacity;
    }

-- ---- the array

module _ (t : State) (d : Core) (array : length t.opened ≡ max_open) where
  -- An element begins: its row is stored.
  pub stored_row : d.depth ≤ max_open → t.core.depth < d.depth
      → Kept t.core d (opened_in t) (set t.opened t.core.depth d.top)
  stored_row few l =
      record {
        size = simp length-set array;
        is = λ o u.
            let (e, k) = u.enters l in
            ap (λ n. last_first n (set t.opened t.core.depth d.top)) e
            ∙ last-pushed t.core.depth d.top t.opened (omega arith) ∙ sym k;
      }

  -- Else the array stays.
  pub same_rows : d.depth ≤ t.core.depth → Kept t.core d (opened_in t) t.opened
  same_rows l =
      record {
        size = array;
        is = λ o u. elim (ℕ_discrete d.depth t.core.depth) [
          | yes y ↦ ap (λ n. last_first n t.opened) y ∙ sym (u.stays y)
          | no y ↦
              let (e, k) = u.leaves (omega arith) in
              last_popped t.core.depth d.depth t.opened t.core.top o e k
        ];
      }
