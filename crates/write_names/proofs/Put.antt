-- The URI and the local name of a qualified name, written.
use Prim.Native.Nat.{ℕ, ◌+◌, ◌≤◌}
use native.Mathlib.Omega.{arith}
use native.Mathlib.Numerals.{add-one}
use mathlib.Core.Path.{◌≡◌}
use mathlib.Core.Bool.{Bool, true, false}
use mathlib.Core.List.{List}
use Rattle.spec_fields.specs.Field.{Alignment, choice_bits}
use Rattle.spec_fields.proofs.Tests.{is_t}
use Rattle.text.specs.Text.{Text, all_chars}
use Rattle.spec_exi.specs.Sizes.{max_uris}
use Rattle.spec_exi.specs.Tables.{string_bits}
use Rattle.mem_names.specs.declared.Name.{Name}
use Rattle.mem_names.specs.Names.{CountedNames, NameAt}
use Rattle.write_field.specs.Written.{Put, PutChoicePre}
use Rattle.write_field.proofs.Lengths.{choice-length}
use Rattle.write_field.proofs.Written.{put-blank, put_then}
use Rattle.write_string.specs.Fits.{PutStringPre}
use Rattle.write_partition.specs.Bits.{hit_bits}
use Rattle.mem_layout.specs.Layout.{uri_rows}
use Rattle.write_names.specs.Uris.{uri_bits, PutUriPre}
use Rattle.write_names.specs.Names.{name_bits, PutNamePre}

-- ---- a URI

module _ {stream : List ℕ} {at uris row : ℕ} {joins : Bool} {x : Text} (p : PutUriPre stream at uris row joins x) where
  pub uris-low : uris ≤ uri_rows
  unfolding max_uris
  uris-low = p.few

  pub choice-asks : {v : ℕ} → v ≤ uris → PutChoicePre stream at (uris + 1) v
  choice-asks h =
      record { blank = p.blank; near = omega (arith, p.near); few = omega (arith, uris-low); one = omega arith }

  pub row-asks : joins ≡ false → PutChoicePre stream at (uris + 1) (row + 1)
  row-asks j = choice-asks (omega (arith, p.old j))

  pub uri-put : joins ≡ false → (a : Alignment) {after : List ℕ} {r : ℕ}
      → Put stream at (choice_bits a (uris + 1) (row + 1)) after r
      → Put stream at (uri_bits uris row joins x a) after r
  unfolding uri_bits
  uri-put j a q = rw j (rw (add-one uris, add-one row) at q)

  module _ (j : joins ≡ true) (a : Alignment) {mid : List ℕ} {next : ℕ}
      (q : Put stream at (choice_bits a (uris + 1) 0) mid next) where
    pub uri-string : PutStringPre mid next 0 x
    uri-string =
        record {
          blank = put-blank q;
          near = omega (
            arith,
            p.near,
            (p.new j).short,
            q.next,
            choice-length a (uris + 1) 0 (omega (arith, uris-low)),
          );
          few = omega arith;
          small = (p.new j).short;
          chars = is_t (all_chars x) (p.new j).chars;
        }

    pub uri-put-new : {after : List ℕ} {r : ℕ} → Put mid next (string_bits 0 x) after r
        → Put stream at (uri_bits uris row joins x a) after r
    unfolding uri_bits
    uri-put-new s = rw j (put_then (rw (add-one uris) at q) s)

-- ---- a local name

module _ {stream : List ℕ} {at uri row : ℕ} {joins : Bool} {x : Text} {work : List ℕ}
    (p : PutNamePre stream at uri row joins x work) where
  module _ (j : joins ≡ true) where
    pub name-string : PutStringPre stream at 1 x
    name-string =
        record {
          blank = p.blank;
          near = omega (arith, p.near, (p.new j).short);
          few = omega arith;
          small = (p.new j).short;
          chars = is_t (all_chars x) (p.new j).chars;
        }

    pub name-put-new : (a : Alignment) {after : List ℕ} {r : ℕ} → Put stream at (string_bits 1 x) after r
        → Put stream at (name_bits work uri row joins x a) after r
    unfolding name_bits
    name-put-new a s = rw j s

  pub name-put : joins ≡ false → {among : ℕ} → CountedNames work uri among → {name : Name} → NameAt work row name
      → (a : Alignment) {after : List ℕ} {r : ℕ} → Put stream at (hit_bits a 0 among name.number) after r
      → Put stream at (name_bits work uri row joins x a) after r
  unfolding name_bits
  name-put j c n a s = rw (j, ← c.is, ← n.is) s
