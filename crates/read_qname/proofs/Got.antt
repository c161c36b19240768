-- A string that was read, over rows: it is the definitions' string, and the rows with it are the
-- tables after it.
use Prim.Native.Nat.{ℕ, zero, suc, ◌+◌, ◌*◌, ◌-◌, ◌≤◌, ◌<◌}
use native.Mathlib.Omega.{arith}
use mathlib.Core.Path.{◌≡◌, refl, sym, ap, subst, ◌∙◌}
use mathlib.Core.Bool.{Bool, true, false}
use mathlib.Core.List.{List, ◌++◌}
use lib.ListN.{length, take}
use lib.Seq.{length-take-le}
use lib.Dec.{leb}
use borrow.Author.Tests.{le-leb}
use Rattle.spec_fields.specs.Field.{Alignment}
use Rattle.text.specs.Text.{Text, part}
use Rattle.spec_exi.specs.Sizes.{sizes, max_store, max_uris, max_names, max_values}
use Rattle.spec_exi.specs.Tables.{Placed, Tables, Role, replaced, gone}
use Rattle.spec_exi.specs.Lists.{within_tables}
use Rattle.mem_entries.specs.Texts.{hash_of, Grown, Lies, up_to}
use Rattle.mem_rows.specs.Rows.{Rows, tables_of}
use Rattle.mem_rows.specs.Valid.{Valid, gone_in}
use Rattle.mem_rows.proofs.Within.{names-count, values-count}
use Rattle.mem_state.specs.Strung.{Lain, Joins}
use Rattle.read_literal.specs.Literal.{laid_at}
use Rattle.read_literal.proofs.Store.{laid-take}
use Rattle.read_partition.specs.View.{StringRead}
use Rattle.read_partition.specs.Strings.{Hashed, Laid, Means, as_string, StringPost}
use Rattle.read_qname.specs.Texts.{TextRead}
use Rattle.read_qname.specs.Qnames.{joining_of, tables_at}
use Rattle.read_qname.proofs.Texts.{text-size, text-refused, text-laid}

-- ---- tables within the sizes

uris-fit : (w : Rows) (store : Text) → length w.uris ≤ max_uris
    → length (tables_of w store).uris ≤ max_uris
unfolding tables_of
uris-fit w store a = a

store-fits : (w : Rows) (store : Text) → length store ≤ max_store
    → length (tables_of w store).store ≤ max_store
unfolding tables_of
store-fits w store d = d

-- The values that are present.
values-fit : (w : Rows) (store : Text) → length w.values - gone_in w ≤ max_values
    → length (tables_of w store).values.added - gone (tables_of w store).values ≤ max_values
unfolding tables_of gone
values-fit w store c =
    subst (λ n. n - replaced w.capacity n ≤ max_values) (sym (values-count w store)) c

pub rows-within : (w : Rows) (store : Text) → length w.uris ≤ max_uris
    → length w.names ≤ max_names → length w.values - gone_in w ≤ max_values
    → length store ≤ max_store
    → within_tables sizes (tables_of w store) ≡ true
unfolding within_tables
rows-within w store a b c d =
    rw (
      le-leb (length (tables_of w store).uris) max_uris (uris-fit w store a),
      le-leb (length (tables_of w store).names) max_names (omega (arith, names-count w store)),
      le-leb (length (tables_of w store).values.added - gone (tables_of w store).values) max_values
          (values-fit w store c),
      le-leb (length (tables_of w store).store) max_store (store-fits w store d),
    )

-- ---- a string

-- What each role's string adds to the rows.
pub record Adds (join : Rows → Placed → Rows) (added : Bool → Rows → Placed → Rows) : Type 0 where
  pub yes : (w : Rows) (y : Placed) → added true w y ≡ join w y
  pub no : (w : Rows) (y : Placed) → added false w y ≡ w

-- v is the string and the tables after it, which are those of the rows with it.
pub record StringIs (added : Bool → Rows → Placed → Rows) (w : Rows) (text' : List ℕ)
    (r : StringRead) (v : Placed × Tables) : Type 0 where
  pub tables : v.1 ≡ tables_at text' r.stored (added r.joins w v.0)
  pub place : r.place ≡ v.0.place
  pub size : r.size ≡ length v.0.text
  pub found : part text' (record { place = r.place; size = r.size }) ≡ v.0.text
  pub valid : Valid (added r.joins w v.0)
  pub lain : r.joins ≡ true → Lain (up_to text' r.stored) (joining_of r) v.0

-- A string that is found by its hash joins with it.
pub string-joins : {added : Bool → Rows → Placed → Rows} {w : Rows} {text' : List ℕ} {r : StringRead}
    {v : Placed × Tables} → StringIs added w text' r v → Hashed text' r → r.joins ≡ true
    → Joins (up_to text' r.stored) (joining_of r) v.0
string-joins i h j = record { lain = i.lain j; hash = h.is j ∙ ap hash_of i.found }

module _ {a : Alignment} {Premise : Rows → Type 0} (role : Rows → Role)
    {join : Rows → Placed → Rows} {added : Bool → Rows → Placed → Rows} (adds : Adds join added)
    {stream : List ℕ} {at : ℕ} {text : List ℕ} {stored : ℕ} {text' : List ℕ} {r : StringRead}
    (room : max_store ≤ length text) (few : stored ≤ max_store)
    (p : StringPost a Premise (λ w store. as_string (role w)) join stream at text stored text' r)
  where
    pub string-text : TextRead text stored text' r.number r.stored
    string-text = go r.number refl
      where
        go : (n : ℕ) → r.number ≡ n → TextRead text stored text' r.number r.stored
        go zero e = text-laid e (p.laid e)
        go (suc n) e = let h : 0 < r.number = omega (arith, e) in text-refused h (p.refused h) few

    module _ (w : Rows) where
      -- The store with what was laid.
      store_is : (x : Text) → text' ≡ laid_at text stored x → r.stored ≡ stored + length x
          → r.stored ≤ max_store → take stored text ++ x ≡ take r.stored text'
      unfolding laid_at
      store_is x e f h =
          sym (ap (λ m. take m text') f ∙ ap (take (stored + length x)) e
          ∙ laid-take text stored x (omega arith))

      tables-are : (b : Bool) → r.joins ≡ b → (v : Placed × Tables)
          → Means join w (take stored text) text stored text' r v
          → v.1 ≡ tables_of (added b w v.0) (take r.stored text')
      tables-are true e v m =
          (m.new e).1
          ∙ ap (λ u. tables_of u (take stored text ++ m.laid.x)) (sym (adds.yes w v.0))
          ∙ ap (tables_of (added true w v.0))
          (store_is m.laid.x m.laid.text-is m.laid.stored_is m.laid.room)
      tables-are false e v m =
          m.old e
          ∙ ap (λ u. tables_of u (take stored text ++ m.laid.x)) (sym (adds.no w v.0))
          ∙ ap (tables_of (added false w v.0))
          (store_is m.laid.x m.laid.text-is m.laid.stored_is m.laid.room)

      valid-is : (b : Bool) → r.joins ≡ b → Valid w → (v : Placed × Tables)
          → Means join w (take stored text) text stored text' r v → Valid (added b w v.0)
      valid-is true e o v m = subst Valid (sym (adds.yes w v.0)) (m.valid e)
      valid-is false e o v m = subst Valid (sym (adds.no w v.0)) o

      lain-is : r.joins ≡ true → (v : Placed × Tables)
          → Means join w (take stored text) text stored text' r v
          → Lain (up_to text' r.stored) (joining_of r) v.0
      lain-is j v m =
          let same : v.0.text ≡ m.laid.x = (m.new j).0 in
          record {
            place = m.place;
            size = m.size;
            lies = record {
              ends = omega (
                arith,
                sym m.place ∙ m.laid.place j,
                ap length same,
                m.laid.stored_is,
              );
              inside = omega (arith, text-size room string-text, m.laid.room);
              text = ap (λ k. part text' (record { place = k; size = length v.0.text }))
                  (sym m.place)
                  ∙ ap (λ k. part text' (record { place = r.place; size = k })) (sym m.size)
                  ∙ m.found;
            };
          }

      pub string-is : Valid w → (v : Placed × Tables)
          → Means join w (take stored text) text stored text' r v → StringIs added w text' r v
      string-is o v m =
          record {
            tables = tables-are r.joins refl v m;
            place = m.place;
            size = m.size;
            found = m.found;
            valid = valid-is r.joins refl o v m;
            lain = λ j. lain-is j v m;
          }
