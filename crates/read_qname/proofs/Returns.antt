-- The answers of `read_name` with what it leaves, and what a carried name is.
use Prim.Native.Nat.{ℕ, ◌*◌, ◌≤◌, ◌<◌}
use native.Mathlib.Omega.{arith}
use mathlib.Core.Path.{◌≡◌, refl, sym, ap, subst, ◌∙◌}
use mathlib.Core.Bool.{Bool, true, false, cond, true≢false}
use mathlib.Core.List.{List}
use mathlib.Core.Option.{Option, none, some}
use lib.ListN.{length}
use Rattle.spec_fields.specs.Field.{Alignment}
use Rattle.spec_exi.specs.Settings.{Settings}
use Rattle.spec_exi.specs.Sizes.{sizes, max_store, max_uris, max_names}
use Rattle.spec_exi.specs.Event.{QName}
use Rattle.spec_exi.specs.Tables.{Placed, span_of}
use Rattle.spec_exi.specs.Reader.{read_string, readName}
use Rattle.event.specs.Cells.{as_span}
use Rattle.mem_layout.specs.Layout.{uri_rows, name_rows, work_cells}
use Rattle.mem_entries.specs.Entries.{entry_at, key_at}
use Rattle.mem_names.specs.Uris.{uri_at, uri_in}
use Rattle.mem_names.specs.Names.{name_in}
use Rattle.mem_names.proofs.Uris.{uri-at-is}
use Rattle.mem_names.proofs.Names.{name-at-is}
use Rattle.mem_rows.specs.Rows.{Rows, placed_at}
use Rattle.mem_state.specs.declared.Core.{Core}
use Rattle.mem_state.specs.Holds.{Bounded}
use Rattle.mem_state.specs.Strung.{uri_added, name_added, value_added, StringsJoin}
use Rattle.read_contract.specs.Outcome.{Outcome}
use Rattle.read_contract.proofs.Outcome.{refused-outcome, return-outcome, declined-then}
use Rattle.read_literal.specs.Literal.{LiteralPre}
use Rattle.read_partition.specs.View.{StringRead}
use Rattle.read_names.specs.Uris.{as_uri, UriPost, UriPre, UriRowed}
use Rattle.read_names.specs.Names.{name_role, as_name, NameRowed}
use Rattle.read_names.specs.Names as names
use Rattle.read_qname.specs.View.{Named}
use Rattle.read_qname.specs.Texts.{TextRead}
use Rattle.read_qname.specs.Qnames.{stopped_as, carried_as, pair_as}
use Rattle.read_qname.specs.Qnames.{CarriedPre, PairPre, NamePre, Prepared, tables_at}
use Rattle.read_qname.specs.Qnames.{Carried, NameBounds, NameMeans, NamePost}
use Rattle.read_qname.proofs.Texts.{text-size, text-none, text-then}
use Rattle.read_qname.proofs.Got.{string-text}
use Rattle.read_qname.proofs.Pair.{adds-name, uri-text, uri-outcome, pair-outcome}

-- ---- a URI and a local name

module _ {stream : List ℕ} {at : ℕ} {text work : List ℕ} {c : Core}
    (pre : PairPre stream at text work c) where
  pub uri-asks : UriPre stream at text c.stored work c.uris
  uri-asks = record { literal = pre.literal; room = pre.room; few = pre.bounded.uris }

  abbrev room : max_store ≤ length text
  room = pre.literal.room

  module _ {a : Alignment} {text₁ : List ℕ} {u : StringRead}
      (post : UriPost a as_uri stream at text c.stored work c.uris text₁ u)
      (rowed : UriRowed text c.stored work c.uris text₁ u) where
    abbrev first-text : TextRead text c.stored text₁ u.number u.stored
    first-text = uri-text room pre.bounded post rowed

    pub pair-first : (attr : Bool) → 0 < u.number
        → NamePost a attr (λ w. Unit {0}) (λ w. none) stream at text work c text₁
        (stopped_as u.number u.next u.left u.stored)
    unfolding readName
    pair-first attr h =
        record {
          inside = post.inside;
          refused = λ _. refl;
          text-read = first-text;
          bounds = λ z. absurd (omega arith);
          meant = λ s e w p _.
              refused-outcome (declined-then _
              ((uri-outcome room pre.bounded post rowed w p s e).refused h));
        }

    module _ (z : u.number ≡ 0) where
      room-still : max_store ≤ length text₁
      room-still = omega (arith, text-size room first-text, room)

      few-still : u.stored ≤ max_store
      few-still = (post.laid z).room

      pub name-asks : names.NamePre stream u.next text₁ u.stored work c.names u.row
      name-asks =
          record {
            literal = record {
              size = pre.literal.size;
              place = post.inside;
              room = room-still;
              few = few-still;
            };
            room = pre.room;
            few = pre.bounded.names;
            low = rowed.low z;
          }

      module _ (attr : Bool) {text₂ : List ℕ} {l : StringRead}
          (post₂ : names.NamePost a attr as_name stream u.next text₁ u.stored work c.names
          u.row u.place u.size text₂ l)
          (rowed₂ : NameRowed text₁ u.stored work c.names u.row text₂ l) where
        both-texts : TextRead text c.stored text₂ l.number l.stored
        both-texts =
            text-then room z first-text
            (string-text (name_role attr u.row) (adds-name u.row) room-still few-still post₂)

        pub pair-second : 0 < l.number
            → NamePost a attr (λ w. Unit {0}) (λ w. none) stream at text work c text₂
            (stopped_as l.number l.next l.left l.stored)
        pair-second h =
            record {
              inside = post₂.inside;
              refused = λ _. refl;
              text-read = both-texts;
              bounds = λ y. absurd (omega arith);
              meant = λ s e w p _.
                  pair-outcome room pre.bounded post rowed w p s e attr z room-still few-still
                  post₂ rowed₂ _ (λ y. absurd (omega arith));
            }

        pub pair_read : l.number ≡ 0
            → NamePost a attr (λ w. Unit {0}) (λ w. none) stream at text work c text₂ (pair_as u l)
        pair_read y =
            record {
              inside = post₂.inside;
              refused = λ h. absurd (omega arith);
              text-read = subst (λ n. TextRead text c.stored text₂ n l.stored) y both-texts;
              bounds = λ _. record {
                uris = rowed.left;
                names = rowed₂.left;
                value = refl;
                uri = rowed.low z;
                name = rowed₂.low y;
                owner = refl;
              };
              meant = λ s e w p _.
                  subst
                  (λ n. Outcome (readName sizes s (tables_at text c.stored w) attr none) stream
                  at n l.next (NameMeans text₂ w (pair_as u l))) y
                  (pair-outcome room pre.bounded post rowed w p s e attr z room-still few-still
                  post₂ rowed₂ (pair_as u l) (λ _. refl));
            }

-- ---- the name that a learned production carries

module _ {stream : List ℕ} {at : ℕ} {text work : List ℕ} {c : Core} {name uri local : ℕ}
    (pre : NamePre stream at text work c name uri local) where
  carried-means : {w : Rows} → Prepared work text c w → Carried w name uri local
      → NameMeans text w (carried_as work at c.stored name uri local)
      (placed_at w name, tables_at text c.stored w)
  unfolding carried_as uri_added name_added value_added span_of as_span placed_at
  carried-means {w} p q =
      let r : name < length w.names = q.row in
      let n = p.holds.names in
      let x = (name-at-is {work = work} {row = name} pre.carried.name_low).means _ (length w.names)
      w.names n r in
      let k : key_at w.names name < length w.uris = p.valid.refers.names.below name r in
      let y = (uri-at-is {work = work} {row = key_at w.names name}
      (omega (arith, k, p.holds.uris.few))).means _ (length w.uris) w.uris
      p.holds.uris k in
      record {
        rows = w;
        joins = record {
          uri = (entry_at w.names name).string;
          name = (entry_at w.names name).string;
          value = (entry_at w.names name).string;
          uri-joins = λ j. absurd (true≢false (sym j));
          name-joins = λ j. absurd (true≢false (sym j));
          value-joins = λ j. absurd (true≢false (sym j));
          uri-valid = p.valid;
          name-valid = p.valid;
          valid = p.valid;
          is = refl;
        };
        tables = refl;
        row = r;
        name = refl;
        key = sym q.uri-is;
        uri-is = ap (λ m. record { place = (uri_in work m).place; size = (uri_in work m).size })
            q.uri-is
            ∙ (λ t. record { place = y.place t; size = y.size t });
        local-is = ap (λ m. record { place = (name_in work m).place; size = (name_in work m).size })
            q.local-is
            ∙ (λ t. record { place = x.place t; size = x.size t });
      }

  pub carried-read : {a : Alignment} (attr : Bool)
      → NamePost a attr (λ w. Carried w name uri local) (λ w. some (placed_at w name)) stream at text
      work c text (carried_as work at c.stored name uri local)
  unfolding carried_as readName
  carried-read attr =
      record {
        inside = pre.pair.literal.place;
        refused = λ h. absurd (omega arith);
        text-read = text-none text c.stored pre.pair.bounded.stored 0;
        bounds = λ _. record {
          uris = λ j. absurd (true≢false (sym j));
          names = λ j. absurd (true≢false (sym j));
          value = refl;
          uri = pre.carried.uri_low;
          name = pre.carried.name_low;
          owner = refl;
        };
        meant = λ s e w p q.
            return-outcome (placed_at w name, tables_at text c.stored w)
            (carried-means p q) pre.pair.literal.place;
      }

-- ---- either

-- A weaker premise, and the same name where it holds.
module _ {a : Alignment} {attr : Bool} {P Q : Rows → Type 0}
    {m n : Rows → Option (QName Placed)} {stream : List ℕ} {at : ℕ} {text work : List ℕ} {c : Core}
    {text' : List ℕ} {r : Named} where
  pub name-either : ((w : Rows) → Q w → P w) → ((w : Rows) → m w ≡ n w)
      → NamePost a attr P m stream at text work c text' r
      → NamePost a attr Q n stream at text work c text' r
  name-either f g p =
      record {
        inside = p.inside;
        refused = p.refused;
        text-read = p.text-read;
        bounds = p.bounds;
        meant = λ s e w t q.
            subst
            (λ o. Outcome (readName sizes s (tables_at text c.stored w) attr o) stream at
            r.number r.next (NameMeans text' w r)) (g w) (p.meant s e w t (f w q));
      }

module _ {a : Alignment} {attr learned : Bool} {name uri local : ℕ} {stream : List ℕ} {at : ℕ}
    {text work : List ℕ} {c : Core} {text' : List ℕ} {r : Named} where
  pub as-carried : learned ≡ true
      → NamePost a attr (λ w. Carried w name uri local) (λ w. some (placed_at w name)) stream at
      text work c text' r
      → NamePost a attr (λ w. learned ≡ true → Carried w name uri local)
      (λ w. cond learned (some (placed_at w name)) none) stream at text work c text' r
  as-carried e p = name-either (λ w q. q e) (λ w. rw e) p

  pub as-pair : learned ≡ false
      → NamePost a attr (λ w. Unit {0}) (λ w. none) stream at text work c text' r
      → NamePost a attr (λ w. learned ≡ true → Carried w name uri local)
      (λ w. cond learned (some (placed_at w name)) none) stream at text work c text' r
  as-pair e p = name-either (λ w q. tt) (λ w. rw e) p
