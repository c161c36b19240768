-- The answers of the functions of each kind, with what they leave.
use Prim.Native.Nat.{ℕ, ◌+◌, ◌*◌, ◌≤◌, ◌<◌}
use native.Mathlib.Omega.{arith}
use mathlib.Core.Path.{◌≡◌, refl, sym, ap, subst, ◌∙◌}
use mathlib.Core.Bool.{Bool, true, false, cond, true≢false}
use mathlib.Core.List.{List}
use mathlib.Core.Option.{Option, none, some}
use lib.ListN.{length, take}
use Rattle.spec_fields.specs.Parser.{Parser, return, ◌>>=◌}
use Rattle.spec_fields.specs.Field.{Alignment, bit_packed}
use Rattle.spec_exi.specs.Settings.{Settings}
use Rattle.spec_exi.specs.Sizes.{sizes, max_store, max_uris, max_names}
use Rattle.spec_exi.specs.Event.{QName, Event, start_document, end_document, end_element}
use Rattle.spec_exi.specs.Event.{start_element, attribute, characters, comment, instruction}
use Rattle.spec_exi.specs.Event.{Kind, SD, ED, SE, AT, EE, CH, CM, PI, kind_of, name_of, map_event}
use Rattle.spec_exi.specs.Event.{map_name}
use Rattle.spec_exi.specs.Tables.{Placed, name_text, span_of, Tables, Role, value, target}
use Rattle.spec_exi.specs.Tables.{replaced}
use Rattle.spec_exi.specs.Tables.{comment_text, instruction_text}
use Rattle.spec_exi.specs.Grammar.{State, kind_number}
use Rattle.spec_exi.specs.Context.{character_role}
use Rattle.spec_exi.specs.Reader.{read_string, readName, readContent}
use Rattle.event.specs.declared.Event as declared
use Rattle.event.specs.declared.Event.TheVariants.{StartElement, Attribute, Characters, Comment}
use Rattle.event.specs.declared.Event.TheVariants.{Instruction}
use Rattle.event.specs.Cells.{as_span, meaning}
use Rattle.event.specs.Cells as cells
use Rattle.mem_layout.specs.Layout.{uri_rows, name_rows, work_cells}
use Rattle.mem_entries.specs.Texts.{Grown}
use Rattle.mem_entries.specs.Entries.{Entries, entry_at, key_at}
use Rattle.mem_values.specs.Window.{newest_in}
use Rattle.mem_values.specs.Forms.{ValuesStand}
use Rattle.mem_rows.specs.Rows.{Rows, placed_at, name_at, kind_at, carries, carried_at}
use Rattle.mem_rows.specs.Valid.{Valid, gone_in}
use Rattle.mem_state.specs.declared.Core.{Core}
use Rattle.mem_state.specs.declared.Strings.{Strings}
use Rattle.mem_state.specs.Joining.{Joining, no_strings, valued_strings}
use Rattle.mem_state.specs.Holds.{in_store, Holds, Bounded, Counts}
use Rattle.mem_state.specs.Strung.{value_added, StringsJoin}
use Rattle.mem_state.proofs.Joins.{holds-grown}
use Rattle.mem_state.proofs.Strung.{uris-counted, names-counted, values-counted, value-names}
use Rattle.mem_state.proofs.Strung.{strings-values, strings-ahead, none-join}
use Rattle.read_contract.specs.Outcome.{Declined, Gotten, Outcome}
use Rattle.read_contract.proofs.Outcome.{return-outcome, declined-then, gotten-declined}
use Rattle.read_contract.proofs.Outcome.{outcome-then, outcome-map}
use Rattle.read_partition.specs.View.{StringRead}
use Rattle.read_partition.specs.Strings.{as_string}
use Rattle.read_literal.specs.Literal.{LiteralPre}
use Rattle.read_values.specs.Values.{ValueRows, ValuePre, as_value, ValuePost, JoinsWithin}
use Rattle.read_values.specs.Texts.{TextPost}
use Rattle.read_production.specs.View.{ProductionRead}
use Rattle.read_qname.specs.View.{Named}
use Rattle.read_qname.specs.Texts.{TextRead}
use Rattle.read_qname.specs.Qnames.{joining_of, part_of, Prepared, tables_at}
use Rattle.read_qname.specs.Qnames.{Carried, NameBounds, NameMeans, NamePost, NamePre}
use Rattle.read_qname.proofs.Texts.{text-size, text-grown, text-none, text-then}
use Rattle.read_qname.proofs.Got.{StringIs}
use Rattle.read_qname.proofs.Pair.{Few, few-rows}
use Rattle.read_content.specs.View.{Content}
use Rattle.read_content.specs.Contents.{stopped_as, plain_as}
use Rattle.read_content.specs.Contents.{ContentPre, ContentRows, ContentBounds, ContentMeans}
use Rattle.read_content.specs.Contents.{NamedAt, UnnamedAt, ContentPost}
use Rattle.read_content.proofs.Contents.{join-grown, join-value, placed_same}
use Rattle.read_content.proofs.Contents.{value-text, value-outcome, plain-text}
use Rattle.read_content.proofs.Contents.{plain-outcome, span-is, content-refused}
use Rattle.read_content.proofs.Contents.{content-read}

-- Rows with the same values, under the same settings.
record SameValues (w v : Rows) : Type 0 where
  values : v.values ≡ w.values
  longest : v.longest ≡ w.longest
  capacity : v.capacity ≡ w.capacity

module _ {stream : List ℕ} {at : ℕ} {text work : List ℕ} {c : Core} {p : ProductionRead}
    (pre : ContentPre stream at text work c p) where
  abbrev room : max_store ≤ length text
  room = pre.pair.literal.room

  abbrev stored-few : c.stored ≤ max_store
  stored-few = pre.pair.bounded.stored

  pub name-asks : NamePre stream at text work c p.name p.uri p.local
  name-asks = record { pair = pre.pair; carried = pre.carried }

  no-bounds : {stored : ℕ} → ContentBounds c stored no_strings
  no-bounds =
      record {
        uris = λ j. absurd (true≢false (sym j));
        names = λ j. absurd (true≢false (sym j));
        values = λ j. absurd (true≢false (sym j));
        uri = omega arith;
        name = omega arith;
        owner = omega arith;
      }

  -- ---- events without strings

  pub bare-read : {a : Alignment} (e : declared.Event) (f : Event Placed) (k : Kind)
      → kind_at p.kind ≡ k → meaning e ≡ map_event span_of f → kind_of f ≡ k → carries k ≡ false
      → ((s : Settings) (t : Tables) (st : State) (n : Option (QName Placed))
      → readContent sizes s t st k n ≡ return (f, t))
      → ContentPost a stream at text work c p text (plain_as e at c.stored)
  bare-read e f k i m o n d =
      content-read pre (plain_as e at c.stored) refl pre.pair.literal.place
      (text-none text c.stored stored-few 0) no-bounds k i
      (λ s b w st q r.
      subst (λ (x : Parser (Event Placed × Tables)). Outcome x stream at 0 at
      (ContentMeans p.kind text w (plain_as e at c.stored))) (sym (d s _ st _))
      (return-outcome (f, tables_at text c.stored w)
      (record {
        rows = w;
        joins = none-join (in_store text c.stored) q.valid;
        tables = refl;
        event = m;
        kind-is = o ∙ sym i;
        named = λ h. absurd (true≢false (sym h ∙ ap carries o ∙ n));
        unnamed = λ _. record { row = refl; uri = refl };
      }) pre.pair.literal.place))

  -- ---- a start element

  module _ {a : Alignment} {attr : Bool} {text₁ : List ℕ} {n : Named}
      (post : NamePost a attr
      (λ w. p.learned ≡ true → Carried w p.name p.uri p.local)
      (λ w. cond p.learned (some (placed_at w p.name)) none) stream at text work c text₁ n)
    where
      abbrev element_as : Content
      element_as =
          record {
            number = 0;
            next = n.next;
            left = 0;
            stored = n.stored;
            event = StartElement n.uri n.local;
            strings = n.strings;
          }

      name-bounds : n.number ≡ 0 → ContentBounds c n.stored n.strings
      name-bounds z =
          let b = post.bounds z in
          record {
            uris = b.uris;
            names = b.names;
            values = λ j. absurd (true≢false (sym j ∙ ap (λ x. x.joins) b.value));
            uri = b.uri;
            name = b.name;
            owner = omega (arith, b.owner, b.name);
          }

      element-means : kind_at p.kind ≡ SE → {w : Rows} {q : QName Placed × Tables}
          → NameMeans text₁ w n q
          → ContentMeans p.kind text₁ w element_as (start_element q.0, q.1)
      unfolding meaning map_event map_name kind_of name_of carries cells.as_name
      element-means i m =
          record {
            rows = m.rows;
            joins = m.joins;
            tables = m.tables;
            event = λ t. start_element (record { uri = m.uri-is t; local = m.local-is t });
            kind-is = sym i;
            named = λ _. record { row = m.row; name = ap some (sym m.name); key = m.key };
            unnamed = λ h. absurd (true≢false h);
          }

      module _ (e : attr ≡ false) (i : kind_at p.kind ≡ SE) where
        pub element-refused : 0 < n.number
            → ContentPost a stream at text work c p text₁
            (stopped_as n.number n.next n.left n.stored)
        unfolding readContent carried_at carries
        element-refused h =
            content-refused pre n.number n.next n.left n.stored h post.inside
            post.text-read SE i
            (λ s b w st q r.
            declined-then _
            (subst (λ x. Declined (readName sizes s (tables_at text c.stored w) x
            (cond p.learned (some (placed_at w p.name)) none)) stream at n.number) e
            ((post.meant s b w q (λ l. r.carried l (ap carries i))).refused h)))

        pub element-read : n.number ≡ 0 → ContentPost a stream at text work c p text₁ element_as
        unfolding readContent carried_at carries
        element-read z =
            content-read pre element_as refl post.inside
            (subst (λ k. TextRead text c.stored text₁ k n.stored) z post.text-read)
            (name-bounds z) SE i
            (λ s b w st q r.
            subst (λ k. Outcome (readContent sizes s (tables_at text c.stored w) st SE
            (cond p.learned (some (placed_at w p.name)) none)) stream at k n.next
            (ContentMeans p.kind text₁ w element_as)) z
            (subst (λ x. Outcome (readName sizes s (tables_at text c.stored w) x
            (cond p.learned (some (placed_at w p.name)) none)
            >>= λ q. return (start_element q.0, q.1)) stream at n.number n.next
            (ContentMeans p.kind text₁ w element_as)) e
            (outcome-map (λ q. (start_element q.0, q.1))
            (post.meant s b w q (λ l. r.carried l (ap carries i)))
            (λ _ v m. element-means i m))))

  -- ---- characters

  value-asks : {at' stored owner : ℕ} {text' : List ℕ} → LiteralPre stream at' text' stored
      → c.stored ≤ stored → owner < name_rows
      → ValuePre stream at' text' stored work c.values owner
  value-asks l h o =
      record {
        literal = l;
        room = pre.pair.room;
        few = omega (arith, pre.pair.bounded.values, h);
        low = o;
      }

  pub characters-asks : ValuePre stream at text c.stored work c.values c.top
  characters-asks = value-asks pre.pair.literal (omega arith) pre.pair.bounded.top

  -- The values of the rows with a name are those of memory.
  value-rows : {text' : List ℕ} {stored owner : ℕ} {w v : Rows} → Prepared work text c w
      → Grown text text' c.stored stored → SameValues w v → owner < length v.names
      → ValueRows work text' stored c.values c.longest c.capacity owner v
  value-rows {text'} {stored} {owner} {w} {v} q g same low =
      record {
        stand = subst
            (λ n. ValuesStand work text' stored n (replaced v.capacity n)
            (newest_in v.capacity n) v.values v.capacity)
            (ap length same.values ∙ sym q.counts.values) (stand_of same);
        longest-is = q.counts.longest ∙ sym same.longest;
        capacity-is = q.counts.capacity ∙ sym same.capacity;
        few = pre.pair.bounded.capacity;
        row = low;
      }
    where
      held : Holds work (in_store text' stored) w
      held = holds-grown g q.holds

      stand_of : SameValues w v
          → ValuesStand work text' stored (length v.values) (gone_in v)
          (newest_in v.capacity (length v.values)) v.values v.capacity
      stand_of s =
          subst
          (λ (b : Option ℕ). ValuesStand work text' stored (length v.values)
          (replaced b (length v.values)) (newest_in b (length v.values)) v.values b)
          (sym s.capacity)
          (subst
          (λ (es : Entries). ValuesStand work text' stored (length es)
          (replaced w.capacity (length es)) (newest_in w.capacity (length es)) es
          w.capacity) (sym s.values) held.values)

  module _ {a : Alignment} {text₁ : List ℕ} {x : StringRead}
      (post : ValuePost a as_value stream at text c.stored work c.values c.longest
      c.capacity c.top text₁ x)
      (joins : JoinsWithin c.values text₁ x) (i : kind_at p.kind ≡ CH)
      (j : p.kind ≡ kind_number CH) where
    abbrev characters_as : Content
    characters_as =
        record {
          number = 0;
          next = x.next;
          left = 0;
          stored = x.stored;
          event = Characters (part_of x);
          strings = valued_strings no_strings c.top (joining_of x);
        }

    own-rows : {w : Rows} → Prepared work text c w → c.top < length w.names
        → ValueRows work text c.stored c.values c.longest c.capacity c.top w
    own-rows q h =
        value-rows q (text-grown room (text-none text c.stored stored-few 0))
        (record { values = refl; longest = refl; capacity = refl }) h

    characters-outcome : (s : Settings) → s.alignment ≡ a → (w : Rows) (st : State)
        → Prepared work text c w → ContentRows c p st w
        → Outcome (read_string sizes s (tables_at text c.stored w) (character_role st)) stream at
        x.number x.next (StringIs (λ b w y. value_added b c.top w y) w text₁ x)
    characters-outcome s e w st q r =
        let (role, row) = r.inner j in
        subst
        (λ (o : Role). Outcome (read_string sizes s (tables_at text c.stored w) o) stream at
        x.number x.next (StringIs (λ b w y. value_added b c.top w y) w text₁ x)) (sym role)
        (value-outcome room stored-few post s e q.valid (few-rows pre.pair.bounded q.counts)
        (own-rows q row))

    pub characters-refused : 0 < x.number → ContentPost a stream at text work c p text₁
        (stopped_as x.number x.next x.left x.stored)
    unfolding readContent
    characters-refused h =
        content-refused pre x.number x.next x.left x.stored h post.inside
        (value-text room stored-few post) CH i
        (λ s b w st q r. declined-then _ ((characters-outcome s b w st q r).refused h))

    characters-means : {w : Rows} → Valid w → {y : Placed × Tables}
        → StringIs (λ b w y. value_added b c.top w y) w text₁ x y
        → ContentMeans p.kind text₁ w characters_as (characters y.0, y.1)
    unfolding meaning map_event kind_of name_of carries
    characters-means {w} v {y} k =
        record {
          rows = value_added x.joins c.top w y.0;
          joins = join-value refl (none-join (in_store text c.stored) v)
              (text-grown room (value-text room stored-few post)) c.top k joins.hashed;
          tables = k.tables;
          event = ap characters (span-is k);
          kind-is = sym i;
          named = λ h. absurd (true≢false (sym h));
          unnamed = λ _. record { row = refl; uri = refl };
        }

    pub characters-read : x.number ≡ 0 → ContentPost a stream at text work c p text₁ characters_as
    unfolding readContent
    characters-read z =
        content-read pre characters_as refl post.inside
        (subst (λ k. TextRead text c.stored text₁ k x.stored) z
        (value-text room stored-few post))
        (record {
          uris = λ b. absurd (true≢false (sym b));
          names = λ b. absurd (true≢false (sym b));
          values = joins.left;
          uri = omega arith;
          name = omega arith;
          owner = pre.pair.bounded.top;
        })
        CH i
        (λ s b w st q r.
        subst (λ k. Outcome (read_string sizes s (tables_at text c.stored w) (character_role st)
        >>= λ v. return (characters v.0, v.1)) stream at k x.next
        (ContentMeans p.kind text₁ w characters_as)) z
        (outcome-map (λ v. (characters v.0, v.1)) (characters-outcome s b w st q r)
        (λ _ v m. characters-means q.valid m)))

  -- ---- an attribute

  module _ {a : Alignment} {text₁ : List ℕ} {n : Named}
      (post : NamePost a true
      (λ w. p.learned ≡ true → Carried w p.name p.uri p.local)
      (λ w. cond p.learned (some (placed_at w p.name)) none) stream at text work c text₁ n)
      (i : kind_at p.kind ≡ AT) where
    pub attribute-refused : 0 < n.number
        → ContentPost a stream at text work c p text₁
        (stopped_as n.number n.next n.left n.stored)
    unfolding readContent carried_at carries
    attribute-refused h =
        content-refused pre n.number n.next n.left n.stored h post.inside
        post.text-read AT i
        (λ s b w st q r.
        declined-then _ ((post.meant s b w q (λ l. r.carried l (ap carries i))).refused h))

    module _ (z : n.number ≡ 0) where
      room-still : max_store ≤ length text₁
      room-still = omega (arith, text-size room post.text-read, room)

      few-still : n.stored ≤ max_store
      few-still =
          let t = post.text-read in omega (arith, t.room, t.stored_is)

      bounds : NameBounds c n.strings
      bounds = post.bounds z

      pub attribute-asks :
          ValuePre stream n.next text₁ n.stored work c.values n.strings.owner
      attribute-asks =
          value-asks
          (record {
            size = pre.pair.literal.size;
            place = post.inside;
            room = room-still;
            few = few-still;
          })
          (omega (arith, post.text-read.stored_is))
          (omega (arith, bounds.owner, bounds.name))

      no_value : n.strings.new_value ≡ false
      no_value = ap (λ (x : Joining). x.joins) bounds.value

      few-one : (b : Bool) (m most : ℕ) → m ≤ most → (b ≡ true → m < most)
          → m + cond b 1 0 ≤ most
      few-one true m most l h = omega (arith, h refl)
      few-one false m most l h = omega arith

      -- The name leaves the values.
      name-values : {w : Rows} {v : QName Placed × Tables} (m : NameMeans text₁ w n v)
          → SameValues w m.rows
      name-values m =
          record {
            values = strings-values m.joins no_value;
            longest = (strings-ahead m.joins).longest;
            capacity = (strings-ahead m.joins).capacity;
          }

      -- The rows with the name.
      module _ {w : Rows} (q : Prepared work text c w) {v : QName Placed × Tables}
          (m : NameMeans text₁ w n v) where
        few-named : Few m.rows
        few-named =
            let b = pre.pair.bounded in
            record {
              uris = omega (
                arith,
                few-one n.strings.new_uri c.uris max_uris b.uris bounds.uris,
                uris-counted m.joins q.counts,
              );
              names = omega (
                arith,
                few-one n.strings.new_name c.names max_names b.names bounds.names,
                names-counted m.joins q.counts,
              );
            }

        named-rows :
            ValueRows work text₁ n.stored c.values c.longest c.capacity
            n.strings.owner m.rows
        named-rows =
            value-rows q (text-grown room post.text-read) (name-values m)
            (omega (arith, bounds.owner, m.row))

        owner-is : value (name_at m.rows n.strings.owner) ≡ value (name_text v.0)
        unfolding name_at name_text map_name
        owner-is =
            ap (λ k. value (name_at m.rows k)) bounds.owner
            ∙ ap (λ (x : QName Placed). value (name_text x)) m.name

      module _ {text₂ : List ℕ} {x : StringRead}
          (post₂ : ValuePost a as_value stream n.next text₁ n.stored work c.values
          c.longest c.capacity n.strings.owner text₂ x)
          (joins : JoinsWithin c.values text₂ x) where
        abbrev attribute_as : Content
        attribute_as =
            record {
              number = 0;
              next = x.next;
              left = 0;
              stored = x.stored;
              event = Attribute n.uri n.local (part_of x);
              strings = valued_strings n.strings n.strings.owner (joining_of x);
            }

        attribute-text : TextRead text c.stored text₂ x.number x.stored
        attribute-text =
            text-then room z post.text-read (value-text room-still few-still post₂)

        attribute-means : {w : Rows} {v : QName Placed × Tables} (m : NameMeans text₁ w n v)
            → {y : Placed × Tables}
            → StringIs (λ b w y. value_added b n.strings.owner w y) m.rows text₂ x y
            → ContentMeans p.kind text₂ w attribute_as (attribute v.0 y.0, y.1)
        unfolding meaning map_event map_name kind_of name_of carries cells.as_name
        attribute-means {w} {v} m {y} k =
            let b = x.joins in
            let o = n.strings.owner in
            let row = n.strings.name_row in
            let g = text-grown room-still (value-text room-still few-still post₂) in
            record {
              rows = value_added b o m.rows y.0;
              joins = join-value no_value m.joins g o k joins.hashed;
              tables = k.tables;
              event = λ t. attribute (record { uri = m.uri-is t; local = m.local-is t })
                  (span-is k t);
              kind-is = sym i;
              named = λ _. record {
                row = subst (λ es. row < length es) (sym (value-names m.rows y.0 o b))
                    m.row;
                name = ap some (sym (placed_same b o m.rows y.0 row ∙ m.name));
                key = ap (λ es. key_at es row) (value-names m.rows y.0 o b) ∙ m.key;
              };
              unnamed = λ h. absurd (true≢false h);
            }

        -- The whole, by what the value comes to.
        attribute-outcome : (s : Settings) → s.alignment ≡ a → (w : Rows) (st : State)
            → Prepared work text c w → ContentRows c p st w → (r : Content)
            → (x.number ≡ 0 → r ≡ attribute_as)
            → Outcome (readContent sizes s (tables_at text c.stored w) st AT
            (cond p.learned (some (placed_at w p.name)) none)) stream at x.number
            x.next (ContentMeans p.kind text₂ w r)
        unfolding readContent carries
        attribute-outcome s e w st q rows r is =
            let o = post.meant s e w q (λ l. rows.carried l (ap carries i)) in
            let g = o.read z in
            let m = o.is z in
            outcome-then _ g
            (subst
            (λ (t : Tables). Outcome
            (read_string sizes s t (value (name_text g.value.0))
            >>= λ y. return (attribute g.value.0 y.0, y.1)) stream n.next
            x.number x.next (ContentMeans p.kind text₂ w r)) (sym m.tables)
            (outcome-map (λ y. (attribute g.value.0 y.0, y.1))
            (subst
            (λ (k : Role). Outcome (read_string sizes s (tables_at text₁ n.stored m.rows) k)
            stream n.next x.number x.next
            (StringIs (λ b w y. value_added b n.strings.owner w y) m.rows text₂ x))
            (owner-is q m)
            (value-outcome room-still few-still post₂ s e m.joins.valid (few-named q m)
            (named-rows q m)))
            (λ y v k.
            subst (λ (d : Content). ContentMeans p.kind text₂ w d
            (attribute g.value.0 v.0, v.1)) (sym (is y)) (attribute-means m k))))

        pub attribute-stops : 0 < x.number → ContentPost a stream at text work c p text₂
            (stopped_as x.number x.next x.left x.stored)
        unfolding carried_at carries
        attribute-stops h =
            content-refused pre x.number x.next x.left x.stored h post₂.inside
            attribute-text AT i
            (λ s b w st q r.
            (attribute-outcome s b w st q r (stopped_as x.number x.next x.left x.stored)
            (λ y. absurd (omega arith))).refused h)

        pub attribute-read : x.number ≡ 0
            → ContentPost a stream at text work c p text₂ attribute_as
        unfolding carried_at carries
        attribute-read y =
            content-read pre attribute_as refl post₂.inside
            (subst (λ k. TextRead text c.stored text₂ k x.stored) y attribute-text)
            (record {
              uris = bounds.uris;
              names = bounds.names;
              values = joins.left;
              uri = bounds.uri;
              name = bounds.name;
              owner = omega (arith, bounds.owner, bounds.name);
            })
            AT i
            (λ s b w st q r.
            subst
            (λ k. Outcome (readContent sizes s (tables_at text c.stored w) st AT
            (cond p.learned (some (placed_at w p.name)) none)) stream at k x.next
            (ContentMeans p.kind text₂ w attribute_as)) y
            (attribute-outcome s b w st q r attribute_as (λ _. refl)))

  -- ---- a comment

  few-of : {w : Rows} → Prepared work text c w → Few w
  few-of q = few-rows pre.pair.bounded q.counts

  module _ {text₁ : List ℕ} {x : StringRead}
      (post : TextPost (as_string comment_text) stream at text c.stored text₁ x)
      (i : kind_at p.kind ≡ CM) where
    pub comment-refused : {a : Alignment} → 0 < x.number → ContentPost a stream at text work c p
        text₁ (stopped_as x.number x.next x.left x.stored)
    unfolding readContent
    comment-refused h =
        content-refused pre x.number x.next x.left x.stored h
        (post bit_packed).inside (plain-text comment_text room stored-few post) CM i
        (λ s b w st q r.
        declined-then _ ((plain-outcome comment_text room stored-few post s q.valid (few-of q)).refused h))

    pub comment-read : {a : Alignment} → x.number ≡ 0 → ContentPost a stream at text work c p text₁
        (plain_as (Comment (part_of x)) x.next x.stored)
    unfolding readContent meaning map_event kind_of name_of carries
    comment-read z =
        content-read pre (plain_as (Comment (part_of x)) x.next x.stored) refl
        (post bit_packed).inside
        (subst (λ k. TextRead text c.stored text₁ k x.stored) z
        (plain-text comment_text room stored-few post))
        no-bounds CM i
        (λ s b w st q r.
        subst (λ k. Outcome (read_string sizes s (tables_at text c.stored w) comment_text
        >>= λ v. return (comment v.0, v.1)) stream at k x.next
        (ContentMeans p.kind text₁ w (plain_as (Comment (part_of x)) x.next x.stored))) z
        (outcome-map (λ v. (comment v.0, v.1))
        (plain-outcome comment_text room stored-few post s q.valid (few-of q))
        (λ _ v k. record {
          rows = w;
          joins = none-join (in_store text₁ x.stored) q.valid;
          tables = k.tables;
          event = ap comment (span-is k);
          kind-is = sym i;
          named = λ h. absurd (true≢false (sym h));
          unnamed = λ _. record { row = refl; uri = refl };
        })))

  -- ---- an instruction

  module _ {text₁ : List ℕ} {t : StringRead}
      (post : TextPost (as_string target) stream at text c.stored text₁ t)
      (i : kind_at p.kind ≡ PI) where
    pub target-refused : {a : Alignment} → 0 < t.number → ContentPost a stream at text work c p
        text₁ (stopped_as t.number t.next t.left t.stored)
    unfolding readContent
    target-refused h =
        content-refused pre t.number t.next t.left t.stored h
        (post bit_packed).inside (plain-text target room stored-few post) PI i
        (λ s b w st q r.
        declined-then _
        ((plain-outcome target room stored-few post s q.valid (few-of q)).refused h))

    module _ (z : t.number ≡ 0) where
      room_after : max_store ≤ length text₁
      room_after = omega (arith, text-size room (plain-text target room stored-few post), room)

      few-after : t.stored ≤ max_store
      few-after =
          let y = plain-text target room stored-few post in omega (arith, y.room, y.stored_is)

      pub instruction-asks : LiteralPre stream t.next text₁ t.stored
      instruction-asks =
          record {
            size = pre.pair.literal.size;
            place = (post bit_packed).inside;
            room = room_after;
            few = few-after;
          }

      module _ {text₂ : List ℕ} {x : StringRead}
          (post₂ : TextPost (as_string instruction_text) stream t.next text₁ t.stored text₂ x) where
        abbrev instruction_as : Content
        instruction_as = plain_as (Instruction (part_of t) (part_of x)) x.next x.stored

        instruction-text : TextRead text c.stored text₂ x.number x.stored
        instruction-text =
            text-then room z (plain-text target room stored-few post)
            (plain-text instruction_text room_after few-after post₂)

        instruction-outcome : (s : Settings) (w : Rows) (st : State) → Prepared work text c w
            → (r : Content) → (x.number ≡ 0 → r ≡ instruction_as)
            → Outcome (readContent sizes s (tables_at text c.stored w) st PI
            (cond p.learned (carried_at w PI p.name) none)) stream at x.number x.next
            (ContentMeans p.kind text₂ w r)
        unfolding readContent meaning map_event kind_of name_of carries
        instruction-outcome s w st q r is =
            let o = plain-outcome target room stored-few post s q.valid (few-of q) in
            let g = o.read z in
            let m = o.is z in
            outcome-then _ g
            (subst
            (λ (y : Tables). Outcome
            (read_string sizes s y instruction_text
            >>= λ v. return (instruction g.value.0 v.0, v.1)) stream t.next
            x.number x.next (ContentMeans p.kind text₂ w r)) (sym m.tables)
            (outcome-map (λ v. (instruction g.value.0 v.0, v.1))
            (plain-outcome instruction_text room_after few-after post₂ s q.valid (few-of q))
            (λ y v k.
            subst (λ (d : Content). ContentMeans p.kind text₂ w d
            (instruction g.value.0 v.0, v.1)) (sym (is y))
            (record {
              rows = w;
              joins = none-join (in_store text₂ x.stored) q.valid;
              tables = k.tables;
              event = λ u. instruction (span-is m u) (span-is k u);
              kind-is = sym i;
              named = λ h. absurd (true≢false (sym h));
              unnamed = λ _. record { row = refl; uri = refl };
            }))))

        pub instruction-refused : {a : Alignment} → 0 < x.number
            → ContentPost a stream at text work c p text₂
            (stopped_as x.number x.next x.left x.stored)
        instruction-refused h =
            content-refused pre x.number x.next x.left x.stored h
            (post₂ bit_packed).inside instruction-text PI i
            (λ s b w st q r.
            (instruction-outcome s w st q (stopped_as x.number x.next x.left x.stored)
            (λ y. absurd (omega arith))).refused h)

        pub instruction-read : {a : Alignment} → x.number ≡ 0
            → ContentPost a stream at text work c p text₂ instruction_as
        instruction-read y =
            content-read pre instruction_as refl (post₂ bit_packed).inside
            (subst (λ k. TextRead text c.stored text₂ k x.stored) y instruction-text)
            no-bounds PI i
            (λ s b w st q r.
            subst
            (λ k. Outcome (readContent sizes s (tables_at text c.stored w) st PI
            (cond p.learned (carried_at w PI p.name) none)) stream at k x.next
            (ContentMeans p.kind text₂ w instruction_as)) y
            (instruction-outcome s w st q instruction_as (λ _. refl)))
