-- A start element and an attribute, judged: what is asked of callees and left, path by path.
use Prim.Native.Nat.{ℕ, ◌<◌}
use native.Mathlib.Omega.{arith}
use mathlib.Core.Path.{◌≡◌, refl, sym, ap, subst, ◌∙◌}
use mathlib.Core.Bool.{Bool, true, false, not, true≢false}
use mathlib.Core.List.{List, [], ◌∷◌}
use mathlib.Core.Option.{some}
use lib.ListN.{length}
use Rattle.text.specs.Text.{Text, inside, part}
use Rattle.spec_exi.specs.Event.{QName, kind_of, name_of, map_name, map_event, strings_of}
use Rattle.spec_exi.specs.Tables.{value}
use Rattle.spec_exi.specs.Grammar.{State}
use Rattle.spec_exi.specs.Context.{item}
use Rattle.spec_exi.specs.Lists.{every}
use Rattle.event.specs.declared.Part.{Part}
use Rattle.event.specs.declared.Event.TheVariants.{StartElement, Attribute}
use Rattle.event.specs.Cells.{as_span, as_name, meaning}
use Rattle.mem_entries.specs.Entries.{key_at}
use Rattle.mem_rows.specs.Rows.{Rows, name_at, carries}
use Rattle.mem_state.specs.declared.Core.{Core}
use Rattle.mem_state.specs.Joining.{Joining}
use Rattle.mem_state.specs.Strung.{value_added}
use Rattle.mem_state.proofs.Strung.{value-names}
use Rattle.write_partition.specs.Writable.{Few, tables_in}
use Rattle.write_partition.specs.Judged.{StringMeans}
use Rattle.write_values.specs.Values.{ValueAnswer, value_bits, ValuePre, ValuePost}
use Rattle.write_qname.specs.Premise.{Prepared, Inside, part_at}
use Rattle.write_qname.specs.Qnames.{NameAnswer, name_as, qname_bits, NameMeans, NamePost}
use Rattle.write_qname.proofs.Items.{ItemsMean, one-item, items-first, items-then, items-passed}
use Rattle.write_qname.proofs.Lain.{placed_in}
use Rattle.write_content.specs.Writing.{named_bits, valued_bits, contentBits, Puttable}
use Rattle.write_content.specs.Contents.{plain_as, stopped_as, with_value, items_as, NamedHits}
use Rattle.write_content.specs.Contents.{ContentPre, NamedAt, ContentPost}
use Rattle.write_content.proofs.Values.{few-strings, value-name, value-means}
use Rattle.write_content.proofs.Values.{value-at, value-joins, value-puttable}
use Rattle.write_content.proofs.Contents.{first-inside, rest-inside, post-refused}
use Rattle.write_content.proofs.Contents.{named-means, named-items, carried-not, carried-is}

module _ {opening text work : List ℕ} {c : Core} (pre : ContentPre work c) where
  -- ---- a start element

  module _ {uri local : Part} {n : NameAnswer}
      (post : NamePost opening text false uri local c work n) where
    element-means : {w : Rows} → Prepared opening text work c w
        → every (inside text) (strings_of (meaning (StartElement uri local))) ≡ true
        → NameMeans opening text false
        (record { uri = part_at text uri; local = part_at text local }) c work w n
    unfolding meaning as_name strings_of
    element-means {w} p i =
        let more = rest-inside text uri (as_span local ∷ []) i in
        post.meant w p (first-inside text uri (as_span local ∷ []) i) (first-inside text local [] more)

    pub element-refused : 0 < n.number
        → ContentPost opening text (StartElement uri local) c work (stopped_as n.number c.stored)
    unfolding meaning map_event map_name as_name items_as NamedHits
    element-refused h = post-refused pre.bounded h (λ w st p i _. (element-means p i).fault)

    pub element-judged : n.number ≡ 0
        → ContentPost opening text (StartElement uri local) c work (plain_as n.stored n.strings)
    unfolding meaning map_event map_name as_name items_as NamedHits contentBits Puttable kind_of carries name_of
    element-judged z =
        let d = post.bounds z in
        record {
          refused = λ h. absurd (omega arith);
          bounds = λ _. record {
            uris = λ j. (d.uris j).0;
            names = λ j. (d.names j).0;
            values = λ j. absurd (true≢false (sym j ∙ ap (λ (v : Joining). v.joins) d.value));
            uri = d.uri;
            name = d.name;
            owner = omega (arith, d.owner, d.name);
          };
          store = d.store;
          grows = d.grows;
          puttable = λ _. record {
            old = d.old;
            new-uri = λ j. (d.uris j).1;
            new-name = λ j. (d.names j).1;
          };
          meant = λ w st p i _.
              let m = element-means p i in
              let o = m.leaves z in
              named-means o.joins o.writable
              (λ written carried f g h. named-items m z written carried f g h) o.hits refl
              (record { row = o.row; name = ap some (sym o.name); key = o.key });
        }

  -- ---- an attribute

  module _ {uri local : Part} {n : NameAnswer}
      (post : NamePost opening text true uri local c work n) where
    pub value-asks : n.number ≡ 0
        → ValuePre work n.strings.name_row c.values c.capacity n.stored
    value-asks z =
        record {
          room = pre.room;
          low = (post.bounds z).name;
          few = omega (arith, pre.bounded.values, (post.bounds z).grows);
          bound = pre.bounded.capacity;
          store = (post.bounds z).store;
        }

    no_value : n.number ≡ 0 → n.strings.new_value ≡ false
    no_value z = ap (λ (v : Joining). v.joins) (post.bounds z).value

    module _ (x : Part) where
      attribute-inside : every (inside text) (strings_of (meaning (Attribute uri local x))) ≡ true
          → Inside text uri × Inside text local × Inside text x
      unfolding meaning as_name strings_of
      attribute-inside i =
          let more = rest-inside text uri (as_span local ∷ as_span x ∷ []) i in (
            first-inside text uri (as_span local ∷ as_span x ∷ []) i,
            first-inside text local (as_span x ∷ []) more,
            first-inside text x [] (rest-inside text local (as_span x ∷ []) more),
          )

      attribute-means : {w : Rows} → Prepared opening text work c w
          → every (inside text) (strings_of (meaning (Attribute uri local x))) ≡ true
          → NameMeans opening text true
          (record { uri = part_at text uri; local = part_at text local }) c work w n
      attribute-means {w} p i =
          let all = attribute-inside i in post.meant w p all.0 all.1

      pub attribute-refused : 0 < n.number
          → ContentPost opening text (Attribute uri local x) c work
          (stopped_as n.number c.stored)
      unfolding meaning map_event map_name as_name items_as NamedHits
      attribute-refused h =
          post-refused pre.bounded h
          (λ w st p i _ written f.
          let q : QName Text = record { uri = part_at text uri; local = part_at text local } in
          let m : ItemsMean (tables_in w c.stored) (name_as written true q) n.number
          (tables_in w c.stored) (λ a. []) =
          record {
            fault = (attribute-means p i).fault written f;
            bits_are = λ z. absurd (omega arith);
            after = λ z. absurd (omega arith);
          } in
          (items-first m h (item (value q) (part_at text x) ∷ []) {u = tables_in w c.stored}
          {bits₁ = λ a. []}).fault)

      module _ (z : n.number ≡ 0) {y : Text}
          (look : y ≡ part text (record { place = x.place; size = x.size })) {v : ValueAnswer}
          (given : ValuePost text y n.strings.name_row c.values c.longest c.capacity
          n.stored work v) where
        module _ {w : Rows} (p : Prepared opening text work c w)
            (i : every (inside text) (strings_of (meaning (Attribute uri local x))) ≡ true) where
          abbrev named : Rows
          named = ((attribute-means p i).leaves z).rows

          abbrev valued : Rows
          valued = value_added v.joins n.strings.name_row named (placed_in text x)

          few-named : Few named
          few-named =
              few-strings pre.bounded p.counts ((attribute-means p i).leaves z).joins
              (λ j. ((post.bounds z).uris j).0) (λ j. ((post.bounds z).names j).0)

          of_owner : StringMeans (value (name_at named n.strings.name_row)) named valued
              n.stored (part_at text x) v.number v.stored
              (value_bits work v.partition v.id n.strings.name_row c.values c.capacity
              (part_at text x))
          of_owner =
              let o = (attribute-means p i).leaves z in
              value-means p o.joins (no_value z) x (value-at x look given) o.writable few-named o.row

          of-name : StringMeans
              (value (record { uri = part_at text uri; local = part_at text local })) named valued
              n.stored (part_at text x) v.number v.stored
              (value_bits work v.partition v.id n.strings.name_row c.values c.capacity
              (part_at text x))
          of-name =
              subst
              (λ q. StringMeans (value q) named valued n.stored (part_at text x) v.number
              v.stored
              (value_bits work v.partition v.id n.strings.name_row c.values c.capacity
              (part_at text x))) ((attribute-means p i).leaves z).name of_owner

          all-items : (st : State) (written carried : Bool) → (written ≡ true → carried ≡ false)
              → (written ≡ false → carried ≡ true)
              → (written ≡ false → NamedHits (tables_in w c.stored)
              (map_event (part text) (meaning (Attribute uri local x))))
              → ItemsMean (tables_in w c.stored)
              (items_as written st (map_event (part text) (meaning (Attribute uri local x))))
              v.number (tables_in valued v.stored)
              (contentBits text work (Attribute uri local x) carried c
              (with_value n.strings n.strings.name_row x v))
          unfolding meaning map_event map_name as_name items_as NamedHits contentBits valued_bits named_bits
              qname_bits
          all-items st written carried f g h =
              items-then (named-items (attribute-means p i) z written carried f g h) refl
              (one-item of-name)

          named-at : NamedAt valued (with_value n.strings n.strings.name_row x v).strings
              (map_event (part text) (meaning (Attribute uri local x)))
          unfolding meaning map_event map_name as_name name_of
          named-at =
              let o = (attribute-means p i).leaves z in
              let k = n.strings.name_row in
              let e = value-names named (placed_in text x) k v.joins in
              record {
                row = omega (arith, o.row, ap length e);
                name = ap some
                    (sym (value-name v.joins k named (placed_in text x) k ∙ o.name));
                key = ap (λ es. key_at es k) e ∙ o.key;
              }

        pub attribute-value-refused : 0 < v.number
            → ContentPost opening text (Attribute uri local x) c work
            (stopped_as v.number c.stored)
        attribute-value-refused h =
            post-refused pre.bounded h
            (λ w st p i _ written f.
            (all-items p i st written (not written) (carried-not written) (carried-is written) f
            ).fault)

        pub attribute-judged : v.number ≡ 0
            → ContentPost opening text (Attribute uri local x) c work
            (with_value n.strings n.strings.name_row x v)
        unfolding Puttable kind_of carries meaning map_event NamedHits map_name as_name
        attribute-judged y =
            let d = post.bounds z in
            let b = (value-at x look given).bounds y in
            record {
              refused = λ h. absurd (omega arith);
              bounds = λ _. record {
                uris = λ j. (d.uris j).0;
                names = λ j. (d.names j).0;
                values = λ j. (b.new j).1;
                uri = d.uri;
                name = d.name;
                owner = d.name;
              };
              store = b.store;
              grows = omega (arith, d.grows, b.stored_is);
              puttable = λ _. (
                record {
                  old = d.old;
                  new-uri = λ j. (d.uris j).1;
                  new-name = λ j. (d.names j).1;
                },
                value-puttable b _ refl,
              );
              meant = λ w st p i _.
                  let o = (attribute-means p i).leaves z in
                  named-means
                  (value-joins p o.joins (no_value z) x (value-at x look given) o.writable
                  (few-named p i) o.row y (attribute-inside i).2)
                  ((of_owner p i).writable y)
                  (λ written carried f g h. items-passed (all-items p i st written carried f g h) y)
                  (λ k. o.hits (record { uri = k.uri; name = k.name })) refl (named-at p i);
            }
