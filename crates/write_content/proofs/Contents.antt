-- What judging the strings of an event means, with a name and without.
use Prim.Native.Nat.{ℕ, ◌<◌}
use native.Mathlib.Omega.{arith}
use native.Mathlib.Nat.{le_refl}
use mathlib.Core.Path.{◌≡◌, refl, sym, ap, subst, ◌∙◌}
use mathlib.Core.Bool.{Bool, true, false, ◌&&◌, not, true≢false}
use mathlib.Core.List.{List, ◌∷◌}
use lib.ListN.{length}
use lib.Dec.{T}
use Rattle.spec_fields.specs.Bits.{Bits}
use Rattle.spec_fields.specs.Field.{Alignment}
use Rattle.spec_fields.proofs.Tests.{T-is, is_t, left, right}
use Rattle.text.specs.Text.{Text, Span, inside, part}
use Rattle.spec_exi.specs.Sizes.{sizes}
use Rattle.spec_exi.specs.Event.{QName, Event, CH, kind_of, map_event, strings_of}
use Rattle.spec_exi.specs.Tables.{value}
use Rattle.spec_exi.specs.Grammar.{State}
use Rattle.spec_exi.specs.Context.{Item, character_role}
use Rattle.spec_exi.specs.Lists.{every}
use Rattle.spec_exi.specs.Writer.{first_failed, content_tests}
use Rattle.spec_exi.specs.Alike.{AlikeTables}
use Rattle.event.specs.declared.Part.{Part}
use Rattle.event.specs.declared.Event as declared
use Rattle.event.specs.Cells.{as_span, meaning}
use Rattle.mem_rows.specs.Rows.{Rows, name_at, carries}
use Rattle.mem_state.specs.declared.Core.{Core}
use Rattle.mem_state.specs.Holds.{Bounded}
use Rattle.mem_state.specs.Strung.{StringsJoin}
use Rattle.write_partition.specs.Writable.{Writable, tables_in}
use Rattle.write_partition.specs.Judged.{fault_number}
use Rattle.write_qname.specs.Premise.{list_stores, Prepared, Inside}
use Rattle.write_qname.specs.Qnames.{NameAnswer, NoName, name_as, NameHits, NameMeans}
use Rattle.write_qname.proofs.Items.{ItemsMean}
use Rattle.write_qname.proofs.Carried.{carried-bits, name-after}
use Rattle.write_content.specs.Answer.{ContentAnswer}
use Rattle.write_content.specs.Writing.{named_bits, contentBits}
use Rattle.write_content.specs.Contents.{stopped_as, items_as, NamedHits, NamedAt, UnnamedAt}
use Rattle.write_content.specs.Contents.{ContentMeans, ContentPost}

-- ---- strings inside the store

module _ (text : List ℕ) (x : Part) (xs : List Span)
    (e : every (inside text) (as_span x ∷ xs) ≡ true) where
  passes : T (inside text (as_span x) && every (inside text) xs)
  unfolding every
  passes = is_t (every (inside text) (as_span x ∷ xs)) e

  pub first-inside : Inside text x
  first-inside =
      record {
        is = T-is (inside text (as_span x))
            (left (inside text (as_span x)) (every (inside text) xs) passes);
      }

  pub rest-inside : every (inside text) xs ≡ true
  rest-inside =
      T-is (every (inside text) xs)
      (right (inside text (as_span x)) (every (inside text) xs) passes)

-- ---- a refusal

module _ {opening text : List ℕ} {e : declared.Event} {c : Core} {work : List ℕ} {n : ℕ} where
  -- Nothing is left of an event that is refused but its number.
  pub post-refused : Bounded c → 0 < n
      → ((w : Rows) (st : State) → Prepared opening text work c w
      → every (inside text) (strings_of (meaning e)) ≡ true
      → (kind_of (meaning e) ≡ CH
      → (character_role st ≡ value (name_at w c.top)) × (c.top < length w.names))
      → (written : Bool)
      → (written ≡ false → NamedHits (tables_in w c.stored) (map_event (part text) (meaning e)))
      → n ≡ fault_number (first_failed (content_tests sizes (tables_in w c.stored)
      (items_as written st (map_event (part text) (meaning e))))))
      → ContentPost opening text e c work (stopped_as n c.stored)
  post-refused b h f =
      record {
        refused = λ _. refl;
        bounds = λ z. absurd (omega arith);
        store = b.stored;
        grows = le_refl c.stored;
        puttable = λ z. absurd (omega arith);
        meant = λ w st p i t. record { fault = f w st p i t; leaves = λ z. absurd (omega arith) };
      }

-- ---- what is left of an event

pub carried-not : (written : Bool) → written ≡ true → not written ≡ false
carried-not written e = rw e

pub carried-is : (written : Bool) → written ≡ false → not written ≡ true
carried-is written e = rw e

module _ {opening text : List ℕ} {e : declared.Event} {c : Core} {work : List ℕ} {w : Rows}
    {st : State} {x : Event Text} {r : ContentAnswer} {rows : Rows}
    (j : StringsJoin (list_stores opening text) r.strings w rows) (v : Writable rows) where
  pub unnamed-means : {is : List Item} {bits : Alignment → Bits}
      → ItemsMean (tables_in w c.stored) is r.number (tables_in rows r.stored) bits
      → ((written : Bool) → items_as written st x ≡ is)
      → ((carried : Bool) (a : Alignment) → contentBits text work e carried c r a ≡ bits a)
      → carries (kind_of x) ≡ false → UnnamedAt r.strings
      → ContentMeans opening text e c work w st x r
  unnamed-means m same bits k u =
      record {
        fault = λ written _.
            m.fault
            ∙ ap (λ is. fault_number (first_failed (content_tests sizes (tables_in w c.stored) is)))
            (sym (same written));
        leaves = λ z. record {
          rows = rows;
          joins = j;
          writable = v;
          form = λ written _. record {
            bits = λ carried _ _ a. rw (same written, bits carried a) (m.bits_are z a);
            after = rw (same written) (m.after z);
          };
          hits = λ y. absurd (true≢false (sym y ∙ k));
          named = λ y. absurd (true≢false (sym y ∙ k));
          unnamed = λ _. u;
        };
      }

  pub named-means : ((written carried : Bool) → (written ≡ true → carried ≡ false)
      → (written ≡ false → carried ≡ true) → (written ≡ false → NamedHits (tables_in w c.stored) x)
      → ItemsMean (tables_in w c.stored) (items_as written st x) r.number (tables_in rows r.stored)
      (contentBits text work e carried c r))
      → (NoName r.strings → NamedHits (tables_in w c.stored) x) → carries (kind_of x) ≡ true
      → NamedAt rows r.strings x
      → ContentMeans opening text e c work w st x r
  named-means m hits k n =
      record {
        fault = λ written h.
            (m written (not written) (carried-not written) (carried-is written) h).fault;
        leaves = λ z. record {
          rows = rows;
          joins = j;
          writable = v;
          form = λ written h. record {
            bits = λ carried f g. (m written carried f g (λ y. hits (h y))).bits_are z;
            after = (m written (not written) (carried-not written) (carried-is written)
                (λ y. hits (h y))).after z;
          };
          hits = λ _. hits;
          named = λ _. n;
          unnamed = λ y. absurd (true≢false (sym k ∙ y));
        };
      }

-- ---- a name, written or carried

module _ {opening text : List ℕ} {attr : Bool} {q : QName Text} {c : Core} {work : List ℕ}
    {w : Rows} {n : NameAnswer} (m : NameMeans opening text attr q c work w n)
    (z : n.number ≡ 0) where
  pub named-items : (written carried : Bool) → (written ≡ true → carried ≡ false)
      → (written ≡ false → carried ≡ true)
      → (written ≡ false → NameHits (tables_in w c.stored) attr q)
      → ItemsMean (tables_in w c.stored) (name_as written attr q) 0
      (tables_in (m.leaves z).rows n.stored)
      (named_bits work carried c n.strings q.uri q.local)
  unfolding named_bits
  named-items true carried a b h =
      rw (a refl) (record {
        fault = sym z ∙ m.fault true h;
        bits_are = λ _. (m.leaves z).bits;
        after = λ _. (m.leaves z).after;
      })
  named-items false carried a b h =
      let t = tables_in w c.stored in
      rw (b refl) (record {
        fault = sym z ∙ m.fault false h;
        bits_are = λ _. carried-bits t attr q;
        after = λ _. subst (λ u. AlikeTables u (tables_in (m.leaves z).rows n.stored))
            (sym (name-after t attr q false h)) (m.leaves z).after;
      })
