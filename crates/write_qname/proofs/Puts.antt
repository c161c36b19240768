-- A qualified name, written: the URI, then the local name.
use Prim.Native.Nat.{ℕ, suc, ◌+◌, ◌*◌, ◌≤◌}
use native.Mathlib.Omega.{arith}
use mathlib.Core.Path.{◌≡◌, refl, sym, subst}
use mathlib.Core.Bool.{Bool, true, false}
use mathlib.Core.List.{List}
use lib.ListN.{length, get_or, length-append}
use Rattle.spec_fields.specs.Field.{Alignment, unsigned_bits, choice_bits}
use Rattle.text.specs.Text.{Text, part}
use Rattle.event.specs.declared.Part.{Part}
use Rattle.event.specs.Cells.{as_span}
use Rattle.spec_exi.specs.Sizes.{max_string, max_uris}
use Rattle.spec_exi.specs.Tables.{string_bits}
use Rattle.mem_layout.specs.Layout.{name_counts}
use Rattle.mem_chain.specs.Chain.{below}
use Rattle.mem_chain.proofs.Last.{below_less}
use Rattle.mem_index.specs.Index.{numbers, count_in}
use Rattle.mem_names.specs.Names.{name_in}
use Rattle.mem_state.specs.declared.Core.{Core}
use Rattle.mem_state.specs.declared.Strings.{Strings}
use Rattle.write_field.specs.Written.{Put}
use Rattle.write_field.proofs.Lengths.{choice-length, unsigned-length}
use Rattle.write_field.proofs.Written.{put-blank, put_then}
use Rattle.write_partition.specs.Writable.{Written}
use Rattle.write_partition.specs.Bits.{hit_bits}
use Rattle.write_partition.proofs.Strings.{string-length}
use Rattle.write_names.specs.Uris.{uri_bits, PutUriPre}
use Rattle.write_names.specs.Names.{name_bits}
use Rattle.write_names.specs.Names as names
use Rattle.write_string.specs.Fits.{max_string_bits}
use Rattle.write_qname.specs.Premise.{part_at}
use Rattle.write_qname.specs.Qnames.{qname_bits, PutNamePre}

-- ---- how long a string may get

uri-length : (a : Alignment) (uris row : ℕ) (joins : Bool) (x : Text) → uris ≤ max_uris
    → (joins ≡ true → Written x) → length (uri_bits uris row joins x a) ≤ max_string_bits
unfolding uri_bits max_uris max_string
uri-length a uris row true x few new =
    omega (
      arith,
      length-append (choice_bits a (suc uris) 0) (string_bits 0 x),
      choice-length a (suc uris) 0 (omega arith),
      string-length 0 x,
      (new refl).short,
    )
uri-length a uris row false x few new =
    omega (arith, choice-length a (suc uris) (suc row) (omega arith))

-- A count of memory is small, whatever its cell holds.
pub count-length : (a : Alignment) (work : List ℕ) (counts key k id : ℕ)
    → length (hit_bits a k (count_in work counts key) id) ≤ 56
unfolding hit_bits count_in
count-length a work counts key k id =
    let m = below (numbers + 1) (get_or work (counts + key) 0) in
    omega (
      arith,
      length-append (unsigned_bits k) (choice_bits a m (below m id)),
      unsigned-length k,
      choice-length a m (below m id)
          (omega (arith, below_less (numbers + 1) (get_or work (counts + key) 0) (omega arith))),
    )

name-length : (a : Alignment) (work : List ℕ) (uri row : ℕ) (joins : Bool) (x : Text)
    → (joins ≡ true → Written x)
    → length (name_bits work uri row joins x a) ≤ max_string_bits
unfolding name_bits max_string
name-length a work uri row true x new = omega (arith, string-length 1 x, (new refl).short)
name-length a work uri row false x new =
    omega (arith, count-length a work name_counts uri 0 (name_in work row).number)

module _ {stream : List ℕ} {at : ℕ} {uri local : Part} {c : Core} {s : Strings} {text work : List ℕ}
    (h : PutNamePre stream at uri local c s text work) where
  pub qname-length : (a : Alignment)
      → length (qname_bits work c s (part_at text uri) (part_at text local) a)
      ≤ 2 * max_string_bits
  unfolding qname_bits
  qname-length a =
      omega (
        arith,
        length-append
            (uri_bits c.uris s.uri_row s.new_uri (part_at text uri) a)
            (name_bits work s.uri_row s.name_row s.new_name (part_at text local) a),
        uri-length a c.uris s.uri_row s.new_uri (part_at text uri) h.few
            h.new-uri,
        name-length a work s.uri_row s.name_row s.new_name (part_at text local)
            h.new-name,
      )

  -- ---- the URI

  module _ {y : Text} (look : y ≡ part text (record { place = uri.place; size = uri.size })) where
    pub uri-put-asks : PutUriPre stream at c.uris s.uri_row s.new_uri y
    unfolding as_span
    uri-put-asks =
        record {
          blank = h.blank;
          near = omega (arith, h.near);
          few = h.few;
          old = h.old;
          new = λ j. subst Written (sym look) (h.new-uri j);
        }

    -- ---- the local name

    module _ {x : Text} (look₂ : x ≡ part text (record { place = local.place; size = local.size }))
        (a : Alignment) {mid : List ℕ} {next : ℕ}
        (p : Put stream at (uri_bits c.uris s.uri_row s.new_uri y a) mid next) where
      pub local-put-asks :
          names.PutNamePre mid next s.uri_row s.name_row s.new_name x work
      unfolding as_span
      local-put-asks =
          let b = uri-put-asks in
          record {
            blank = put-blank p;
            near = omega (
              arith,
              h.near,
              p.next,
              uri-length a c.uris s.uri_row s.new_uri y b.few b.new,
            );
            room = h.room;
            low = h.uri-low;
            row_low = h.name-low;
            new = λ j. subst Written (sym look₂) (h.new-name j);
          }

      pub name-put : {after : List ℕ} {r : ℕ}
          → Put mid next
          (name_bits work s.uri_row s.name_row s.new_name x a) after r
          → Put stream at (qname_bits work c s (part_at text uri) (part_at text local) a) after r
      unfolding qname_bits as_span
      name-put {after} {r} q =
          subst (λ v. Put stream at (qname_bits work c s v (part_at text local) a) after r) look
          (subst (λ v. Put stream at (qname_bits work c s y v a) after r) look₂ (put_then p q))
