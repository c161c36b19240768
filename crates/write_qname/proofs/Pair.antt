-- A URI and a local name, judged one after the other, over rows.
use Prim.Native.Nat.{ℕ, ◌+◌, ◌<◌}
use native.Mathlib.Omega.{arith}
use mathlib.Core.Path.{◌≡◌, refl, sym, ap, subst, ◌∙◌}
use mathlib.Core.Bool.{Bool, true, false, cond, true≢false}
use mathlib.Core.List.{List, [], ◌∷◌, ◌++◌}
use lib.ListN.{length, length-append}
use Rattle.text.specs.Text.{Text}
use Rattle.event.specs.declared.Part.{Part}
use Rattle.spec_exi.specs.Sizes.{sizes, max_uris}
use Rattle.spec_exi.specs.Event.{QName}
use Rattle.spec_exi.specs.Tables as tables
use Rattle.spec_exi.specs.Tables.{Placed}
use Rattle.spec_exi.specs.Context.{item}
use Rattle.spec_exi.specs.Writer.{first_failed, content_tests}
use Rattle.mem_layout.specs.Layout.{opening_uris, opening_names}
use Rattle.mem_entries.specs.Entries.{key_at}
use Rattle.mem_names.specs.Uris.{uri_text, UrisHold}
use Rattle.mem_names.specs.Names.{NamesHold}
use Rattle.mem_rows.specs.Rows.{Rows, placed_at, name_at, with_uri}
use Rattle.mem_rows.specs.Valid.{Valid}
use Rattle.mem_state.specs.declared.Core.{Core}
use Rattle.mem_state.specs.Holds.{Bounded, Counts}
use Rattle.mem_state.specs.Strung.{uri_added, name_added, value_added, Lain, Joins, StringsJoin}
use Rattle.mem_state.proofs.Strung.{uri-names, name-uris}
use Rattle.write_partition.specs.Writable.{Few, tables_in, uri_source, name_source}
use Rattle.write_partition.specs.Judged.{StringAnswer, fault_number, IsHit}
use Rattle.write_names.specs.Uris.{uri_bits, UriPost}
use Rattle.write_names.specs.Uris as uris
use Rattle.write_names.specs.Names.{name_bits}
use Rattle.write_names.specs.Names as names
use Rattle.write_qname.specs.Premise.{list_stores, Prepared, Inside, part_at}
use Rattle.write_qname.specs.Qnames.{joining_of, named_as, name_as, NameHits}
use Rattle.write_qname.specs.Qnames.{qname_bits, NameLeaves, NameMeans}
use Rattle.write_qname.proofs.Items.{ItemsMean, one-item, items-first, items-then}
use Rattle.write_qname.proofs.Lain.{placed_in, lain-in, source-after}

-- ---- rows whose counts are within the sizes

pub few-rows : {c : Core} {w : Rows} → Bounded c → Counts c w → Valid w → Few w
few-rows b n v =
    record {
      uris = omega (arith, b.uris, n.uris);
      names = omega (arith, b.names, n.names);
      values = v.window.few;
    }

few-uri : (b : Bool) {w : Rows} (y : Placed) → Few w → (b ≡ true → length w.uris < max_uris)
    → Few (uri_added b w y)
unfolding uri_added with_uri
few-uri true {w} y f h =
    record {
      uris = omega (arith, h refl, length-append w.uris (y ∷ []));
      names = f.names;
      values = f.values;
    }
few-uri false y f h = f

-- ---- the URI

module _ {opening text work : List ℕ} {c : Core} (bounded : Bounded c) (uri : Part)
    {u : StringAnswer}
    (post : UriPost opening text (part_at text uri) c.uris c.stored work u) {w : Rows}
    (p : Prepared opening text work c w) where
  abbrev with-uri : Rows
  with-uri = uri_added u.joins w (placed_in text uri)

  uri-means : uris.UriMeans w with-uri c.uris c.stored (part_at text uri) u
  uri-means =
      post.meant w p.valid p.writable (few-rows bounded p.counts p.valid)
      (subst (λ n. UrisHold work (uri_source opening text) n w.uris) (sym p.counts.uris)
      p.holds.uris) uri.place

  uri-items : ItemsMean (tables_in w c.stored) (item tables.uri (part_at text uri) ∷ [])
      u.number (tables_in with-uri u.stored)
      (uri_bits c.uris u.row u.joins (part_at text uri))
  uri-items = one-item uri-means.string

  -- A refusal of the URI is one of the name.
  pub uri-fault : (attr : Bool) (local : Part) → 0 < u.number
      → u.number ≡ fault_number (first_failed (content_tests sizes (tables_in w c.stored)
      (name_as true attr (record { uri = part_at text uri; local = part_at text local }))))
  unfolding name_as item
  uri-fault attr local h =
      (items-first uri-items h (item (tables.local attr (part_at text uri)) (part_at text local) ∷ [])
      {u = tables_in w 0} {bits₁ = λ a. []}).fault

  -- ---- the local name

  module _ (attr : Bool) (local : Part) (z : u.number ≡ 0) {l : StringAnswer}
      (post₂ : names.NamePost opening text attr u.row (part_at text uri) (part_at text local)
      c.names u.stored work l) where
    abbrev with-name : Rows
    with-name = name_added l.joins u.row with-uri (placed_in text local)

    abbrev qname : QName Text
    qname = record { uri = part_at text uri; local = part_at text local }

    few-with : Few with-uri
    few-with =
        few-uri u.joins (placed_in text uri) (few-rows bounded p.counts p.valid)
        (λ j. omega (arith, ((post.bounds z).new j).1, p.counts.uris))

    names-held : NamesHold work (name_source opening text) c.names with-uri.names
    names-held =
        subst (NamesHold work (name_source opening text) c.names)
        (sym (uri-names w (placed_in text uri) u.joins))
        (subst (λ n. NamesHold work (name_source opening text) n w.names) (sym p.counts.names)
        p.holds.names)

    name-means : names.NameMeans attr with-uri with-name u.row u.stored (part_at text uri)
        (part_at text local) work l
    name-means =
        post₂.meant with-uri (uri-means.string.valid z) (uri-means.string.writable z) few-with
        names-held (uri-means.row z) (uri-means.text z) local.place

    both-items : ItemsMean (tables_in w c.stored) (name_as true attr qname) l.number
        (tables_in with-name l.stored)
        (λ a. uri_bits c.uris u.row u.joins (part_at text uri) a
        ++ name_bits work u.row l.row l.joins (part_at text local) a)
    unfolding name_as item
    both-items = items-then uri-items z (one-item name-means.string)

    pub local-fault : l.number ≡ fault_number (first_failed
        (content_tests sizes (tables_in w c.stored) (name_as true attr qname)))
    local-fault = both-items.fault

    module _ (z₂ : l.number ≡ 0) where
      name-is : name_at with-name l.row ≡ qname
      unfolding name_at placed_at
      name-is =
          let k : uri_text with-name.uris (key_at with-name.names l.row) ≡ part_at text uri =
          ap (uri_text with-name.uris) (name-means.key z₂)
          ∙ ap (λ us. uri_text us u.row)
          (name-uris with-uri (placed_in text local) u.row l.joins)
          ∙ uri-means.text z in
          λ t. record { uri = k t; local = name-means.text z₂ t }

      -- The local name's hit is by the same tables.
      hits-are : u.joins ≡ false → l.joins ≡ false
          → NameHits (tables_in w c.stored) attr qname
      unfolding uri_added
      hits-are f g =
          record {
            uri-hit = uri-means.hit z f;
            local-hit = go u.joins f (post.bounds z).stored_is (name-means.hit z₂ g);
          }
        where
          go : (b : Bool) → b ≡ false → {n : ℕ} → n ≡ c.stored + cond b (length (part_at text uri)) 0
              → IsHit (tables_in (uri_added b w (placed_in text uri)) n)
              (tables.local attr (part_at text uri)) (part_at text local)
              → IsHit (tables_in w c.stored) (tables.local attr (part_at text uri))
              (part_at text local)
          go true e s i = absurd (true≢false e)
          go false e {n} s i =
              subst (λ m. IsHit (tables_in w m) (tables.local attr (part_at text uri))
              (part_at text local)) (let k : n ≡ c.stored = omega (arith, s) in k) i

      module _ (in-uri : Inside text uri) (in-local : Inside text local) where
        strings-join : StringsJoin (list_stores opening text) (named_as uri local u l).strings w
            with-name
        unfolding value_added
        strings-join =
            record {
              uri = placed_in text uri;
              name = placed_in text local;
              value = placed_in text local;
              uri-joins = λ j. subst
                  (λ from. Lain from (joining_of uri u.joins 0) (placed_in text uri))
                  (sym (source-after opening_uris opening text (length w.uris) p.begun.uris))
                  (lain-in in-uri u.joins 0);
              name-joins = λ j. subst
                  (λ from. Joins from (joining_of local l.joins l.hash) (placed_in text local))
                  (sym (source-after opening_names opening text (length w.names)
                  p.begun.names))
                  (record {
                    lain = lain-in in-local l.joins l.hash;
                    hash = ((post₂.bounds z₂).new j).3;
                  });
              value-joins = λ j. absurd (true≢false (sym j));
              uri-valid = uri-means.string.valid z;
              name-valid = name-means.string.valid z₂;
              valid = name-means.string.valid z₂;
              is = refl;
            }

        pub name-leaves : NameLeaves opening text attr qname c work w (named_as uri local u l)
        unfolding qname_bits
        name-leaves =
            record {
              rows = with-name;
              joins = strings-join;
              writable = name-means.string.writable z₂;
              after = both-items.after z₂;
              bits = both-items.bits_are z₂;
              row = name-means.row z₂;
              name = name-is;
              key = name-means.key z₂;
              hits = λ n. hits-are n.uri n.name;
            }
