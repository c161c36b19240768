-- What judging a qualified name asks of its callees and leaves, path by path.
use Prim.Native.Nat.{ℕ, ◌+◌, ◌≤◌, ◌<◌}
use native.Mathlib.Omega.{arith}
use mathlib.Core.Path.{◌≡◌, refl, sym, ap, subst, ◌∙◌}
use mathlib.Core.Bool.{Bool, true, false, cond}
use mathlib.Core.List.{List}
use lib.ListN.{length}
use Rattle.text.specs.Text.{Text, part}
use Rattle.event.specs.declared.Part.{Part}
use Rattle.event.specs.Cells.{as_span}
use Rattle.spec_exi.specs.Sizes.{sizes, max_uris, max_names}
use Rattle.spec_exi.specs.Event.{QName}
use Rattle.spec_exi.specs.Tables.{Tables}
use Rattle.spec_exi.specs.Writer.{first_failed, content_tests}
use Rattle.mem_layout.specs.Layout.{uri_rows, name_rows}
use Rattle.mem_rows.specs.Rows.{Rows}
use Rattle.mem_state.specs.declared.Core.{Core}
use Rattle.write_partition.specs.Writable.{tables_in}
use Rattle.write_partition.specs.Judged.{StringAnswer, fault_number}
use Rattle.write_names.specs.Uris.{UriPost}
use Rattle.write_names.specs.Names as names
use Rattle.write_qname.specs.Premise.{Prepared, part_at}
use Rattle.write_qname.specs.Qnames.{stopped_as, named_as, NamePre, name_as, NameHits, NamePost}
use Rattle.write_qname.proofs.Carried.{name-tests}
use Rattle.write_qname.proofs.Pair.{uri-fault, local-fault, name-leaves}

-- A row of a table, or the row after them.
row_low : {n most rows row : ℕ} (b : Bool) → n ≤ most → most ≤ rows → (b ≡ false → row < n)
    → (b ≡ true → (row ≡ n) × (n < most)) → row < rows
row_low true few fit old new = omega (arith, (new refl).0, (new refl).1)
row_low false few fit old new = omega (arith, old refl)

grown : (stored n : ℕ) {r : ℕ} (b : Bool) → r ≡ stored + cond b n 0 → stored ≤ r
grown stored n true e = omega (arith, e)
grown stored n false e = omega (arith, e)

-- A name that a learned production carries has the same tests.
either-fault : (t : Tables) (attr : Bool) (q : QName Text) {n : ℕ}
    → n ≡ fault_number (first_failed (content_tests sizes t (name_as true attr q)))
    → (written : Bool) → (written ≡ false → NameHits t attr q)
    → n ≡ fault_number (first_failed (content_tests sizes t (name_as written attr q)))
either-fault t attr q e written h =
    e ∙ ap (λ xs. fault_number (first_failed xs)) (sym (name-tests t attr q written h))

module _ {opening text work : List ℕ} {c : Core} (pre : NamePre work c) {y : Text}
    {u : StringAnswer} (post : UriPost opening text y c.uris c.stored work u)
    (z : u.number ≡ 0) where
  row-of-uri : u.row < uri_rows
  unfolding max_uris
  row-of-uri =
      let b = post.bounds z in
      row_low {most = uri_rows} u.joins pre.bounded.uris (omega arith) b.old
      (λ j. ((b.new j).0, (b.new j).1))

  pub local-asks : names.NamePre work c.names u.row u.stored
  local-asks =
      record {
        room = pre.room;
        few = pre.bounded.names;
        low = row-of-uri;
        store = (post.bounds z).store;
      }

module _ {opening text work : List ℕ} {c : Core} {attr : Bool} {uri local : Part} {n : ℕ} where
  -- Of a name that is refused the number alone counts.
  refused_post : 0 < n
      → ((w : Rows) → Prepared opening text work c w
      → n ≡ fault_number (first_failed (content_tests sizes (tables_in w c.stored)
      (name_as true attr (record { uri = part_at text uri; local = part_at text local })))))
      → NamePost opening text attr uri local c work (stopped_as n c.stored)
  refused_post h f =
      record {
        refused = λ _. refl;
        bounds = λ z. absurd (omega arith);
        meant = λ w p _ _. record {
          fault = either-fault (tables_in w c.stored) attr
              (record { uri = part_at text uri; local = part_at text local }) (f w p);
          leaves = λ z. absurd (omega arith);
        };
      }

module _ {opening text work : List ℕ} {c : Core} (pre : NamePre work c) (attr : Bool)
    (uri local : Part) where
  -- ---- the URI

  module _ {y : Text} (look : y ≡ part text (record { place = uri.place; size = uri.size }))
      {u : StringAnswer} (post : UriPost opening text y c.uris c.stored work u) where
    uri-post : UriPost opening text (part_at text uri) c.uris c.stored work u
    unfolding as_span
    uri-post = subst (λ x. UriPost opening text x c.uris c.stored work u) look post

    pub uri-refused : 0 < u.number
        → NamePost opening text attr uri local c work (stopped_as u.number c.stored)
    uri-refused h =
        refused_post h (λ w p. uri-fault pre.bounded uri uri-post p attr local h)

    -- ---- the local name

    module _ (z : u.number ≡ 0) {x : Text}
        (look₂ : x ≡ part text (record { place = local.place; size = local.size }))
        {l : StringAnswer}
        (post₂ : names.NamePost opening text attr u.row y x c.names u.stored work l)
      where
        name-post : names.NamePost opening text attr u.row (part_at text uri)
            (part_at text local) c.names u.stored work l
        unfolding as_span
        name-post =
            subst
            (λ v. names.NamePost opening text attr u.row v (part_at text local) c.names
            u.stored work l) look
            (subst
            (λ v. names.NamePost opening text attr u.row y v c.names u.stored work l)
            look₂ post₂)

        pub local-refused : 0 < l.number
            → NamePost opening text attr uri local c work (stopped_as l.number c.stored)
        local-refused h =
            refused_post h
            (λ w p. local-fault pre.bounded uri uri-post p attr local z name-post)

        pub name-judged : l.number ≡ 0
            → NamePost opening text attr uri local c work (named_as uri local u l)
        unfolding max_names
        name-judged z₂ =
            let b = uri-post.bounds z in
            let d = name-post.bounds z₂ in
            record {
              refused = λ h. absurd (omega arith);
              bounds = λ _. record {
                uris = λ j. ((b.new j).1, (b.new j).2);
                names = λ j. ((d.new j).1, (d.new j).2);
                old = b.old;
                value = refl;
                uri = row-of-uri pre uri-post z;
                name = row_low {most = name_rows} l.joins pre.bounded.names (omega arith)
                    d.old (λ j. ((d.new j).0, (d.new j).1));
                owner = refl;
                store = d.store;
                grows = omega (
                  arith,
                  grown c.stored (length (part_at text uri)) u.joins b.stored_is,
                  grown u.stored (length (part_at text local)) l.joins d.stored_is,
                );
              };
              meant = λ w p in-uri in-local. record {
                fault = either-fault (tables_in w c.stored) attr
                    (record { uri = part_at text uri; local = part_at text local })
                    (sym z₂ ∙ local-fault pre.bounded uri uri-post p attr local z name-post);
                leaves = λ _. name-leaves pre.bounded uri uri-post p attr local z name-post z₂
                    in-uri in-local;
              };
            }
