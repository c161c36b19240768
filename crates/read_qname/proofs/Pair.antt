-- A URI and a local name, read one after the other, over rows.
use Prim.Native.Nat.{ℕ, suc, ◌+◌, ◌*◌, ◌≤◌, ◌<◌}
use native.Mathlib.Omega.{arith}
use mathlib.Core.Path.{◌≡◌, refl, sym, ap, subst, ◌∙◌}
use mathlib.Core.Bool.{Bool, true, false, cond, true≢false}
use mathlib.Core.List.{List, [], ◌∷◌, ◌++◌}
use mathlib.Core.Option.{Option, none, some}
use lib.ListN.{length, take, length-append, length-take}
use lib.Seq.{length-take-le}
use Rattle.spec_fields.specs.Field.{Alignment}
use Rattle.text.specs.Text.{Text, Span, part}
use Rattle.text.proofs.Parts.{part-take}
use Rattle.spec_exi.specs.Settings.{Settings}
use Rattle.spec_exi.specs.Sizes.{sizes, max_store, max_uris, max_names}
use Rattle.spec_exi.specs.Event.{QName}
use Rattle.spec_exi.specs.Tables.{Placed, Entry, Tables, span_of, Role, uri, local}
use Rattle.spec_exi.specs.Reader.{read_string, readName}
use Rattle.spec_fields.specs.Parser.{return, ◌>>=◌}
use Rattle.event.specs.Cells.{as_span}
use Rattle.read_contract.specs.Outcome.{Outcome}
use Rattle.read_contract.proofs.Outcome.{outcome-weaken, outcome-then, outcome-map}
use Rattle.mem_entries.specs.Texts.{hash_of, Grown, Lies, up_to, throughout}
use Rattle.mem_entries.specs.Entries.{entry_at, key_at}
use Rattle.mem_entries.proofs.Entries.{entry_old, entry_new}
use Rattle.mem_names.specs.Uris.{uri_at, uri_text, UrisHold}
use Rattle.mem_names.specs.Names.{NamesHold}
use Rattle.mem_rows.specs.Rows.{Rows, placed_at, tables_of, with_uri, with_name}
use Rattle.mem_rows.specs.Valid.{Refers, Valid}
use Rattle.mem_rows.proofs.Joins.{uri-new, name_new_lem}
use Rattle.mem_state.specs.declared.Core.{Core}
use Rattle.mem_state.specs.Joining.{uri_joining}
use Rattle.mem_state.specs.Holds.{Holds, Counts, Bounded}
use Rattle.mem_state.specs.Strung.{uri_added, name_added, value_added, Lain, StringsJoin}
use Rattle.mem_state.proofs.Joins.{holds-grown}
use Rattle.mem_state.proofs.Strung.{uri-names, uri-values, name-uris, name-values}
use Rattle.read_partition.specs.View.{StringRead}
use Rattle.read_partition.specs.Strings.{Tabled}
use Rattle.read_names.specs.Uris.{as_uri, UriPost, Spans, InUris, UriRowed}
use Rattle.read_names.specs.Names.{NameRows, name_role, as_name, InNames, NameRowed}
use Rattle.read_names.specs.Names as names
use Rattle.read_qname.specs.Texts.{TextRead}
use Rattle.read_qname.specs.Qnames.{pair_as, Prepared, tables_at}
use Rattle.read_qname.specs.Qnames.{NameMeans}
use Rattle.read_qname.proofs.Texts.{text-size, text-grown}
use Rattle.read_qname.specs.View.{Named}
use Rattle.read_qname.proofs.Got.{rows-within, Adds, StringIs, string-joins, string-text}
use Rattle.read_qname.proofs.Got.{string-is}

pub adds-uri : Adds (λ w x. with_uri w x) uri_added
unfolding uri_added
adds-uri = record { yes = λ w y. refl; no = λ w y. refl }

pub adds-name : (u : ℕ) → Adds (λ w x. with_name w u x) (λ b w y. name_added b u w y)
unfolding name_added
adds-name u = record { yes = λ w y. refl; no = λ w y. refl }

-- The string that was read is the entry with its cells.
spans-same : {text : List ℕ} {r : StringRead} {x y : Placed} → Spans text r x
    → r.place ≡ y.place → part text (record { place = r.place; size = r.size }) ≡ y.text
    → x ≡ y
spans-same s p f =
    λ i. record { place = (sym s.place ∙ p) i; text = (sym s.found ∙ f) i }

-- A text stays where it lies.
pub lies_grown : {text text' : List ℕ} {stored stored' place size : ℕ} {x : Text}
    → Grown text text' stored stored' → Lies text stored place size x
    → Lies text' stored' place size x
lies_grown {text} {text'} {stored} {stored'} {place} {size} g l =
    let x : Span = record { place = place; size = size } in
    let e : place + size ≤ stored = l.ends in
    let a : x.place + x.size ≤ length (take stored text') =
    omega (arith, length-take stored text', g.longer, g.inside) in
    let b : x.place + x.size ≤ length (take stored text) =
    omega (arith, length-take stored text, l.inside) in
    record {
      ends = omega (arith, g.longer);
      inside = g.inside;
      text = sym (part-take text' stored x a) ∙ ap (λ t. part t x) g.same
          ∙ part-take text stored x b ∙ l.text;
    }

-- Rows whose counts are within the sizes.
pub record Few (w : Rows) : Type 0 where
  pub uris : length w.uris ≤ max_uris
  pub names : length w.names ≤ max_names

pub few-rows : {c : Core} {w : Rows} → Bounded c → Counts c w → Few w
few-rows b n =
    record { uris = omega (arith, b.uris, n.uris); names = omega (arith, b.names, n.names) }

pub tabled : {text : List ℕ} {stored : ℕ} {w : Rows} → Valid w → Few w → stored ≤ max_store
    → max_store ≤ length text → Tabled text stored w (take stored text)
tabled {text} {stored} {w} v f h room =
    let n : length (take stored text) ≡ stored = length-take-le stored text (omega arith) in
    record {
      valid = v;
      is = refl;
      size = n;
      within = rows-within w (take stored text) f.uris f.names v.window.few (omega arith);
    }

-- ---- the URI

pub few-uri : (b : Bool) {w : Rows} (y : Placed) → Few w → (b ≡ true → length w.uris < max_uris)
    → Few (uri_added b w y)
unfolding uri_added with_uri
few-uri true {w} y f h =
    record {
      uris = omega (arith, h refl, length-append w.uris (y ∷ []));
      names = f.names;
    }
few-uri false y f h = f

module _ {a : Alignment} {stream : List ℕ} {at : ℕ} {text work : List ℕ} {c : Core}
    {text₁ : List ℕ} {u : StringRead} (room : max_store ≤ length text) (b : Bounded c)
    (post : UriPost a as_uri stream at text c.stored work c.uris text₁ u)
    (rowed : UriRowed text c.stored work c.uris text₁ u) where
  pub uri-text : TextRead text c.stored text₁ u.number u.stored
  uri-text = string-text (λ w. uri) adds-uri room b.stored post

  module _ (w : Rows) (p : Prepared work text c w) where
    pub uris-held : UrisHold work (throughout text c.stored) c.uris w.uris
    uris-held =
        subst (λ n. UrisHold work (throughout text c.stored) n w.uris) (sym p.counts.uris)
        p.holds.uris

    pub uri-outcome : (s : Settings) → s.alignment ≡ a
        → Outcome (read_string sizes s (tables_at text c.stored w) uri) stream at u.number
        u.next (StringIs uri_added w text₁ u)
    uri-outcome s e =
        outcome-weaken
        (λ _ v m. string-is (λ w. uri) adds-uri room b.stored post w p.valid v m)
        (post.meant s e w (take c.stored text)
        (tabled p.valid (few-rows b p.counts) b.stored room)
        (record { hold = uris-held }))

    module _ (z : u.number ≡ 0) {v : Placed × Tables} (i : StringIs uri_added w text₁ u v) where
      -- Its row in the rows with it.
      record UriAtRow (w₁ : Rows) : Type 0 where
        inside : u.row < length w₁.uris
        at_row : uri_at w₁.uris u.row ≡ v.0
        lies : Lies text₁ u.stored u.place u.size v.0.text

      uri-old : u.joins ≡ false → UriAtRow w
      uri-old j =
          let o = rowed.old z j w.uris uris-held in
          let h = uris-held.rows u.row (omega (arith, o.inside, p.counts.uris)) in
          let g = text-grown room uri-text in
          record {
            inside = o.inside;
            at_row = spans-same o.spans i.place i.found;
            lies = record {
              ends = omega (arith, o.spans.place, o.spans.size, h.ends, g.longer);
              inside = g.inside;
              text = i.found;
            };
          }

      uri-new-row : u.joins ≡ true → UriAtRow (with_uri w v.0)
      unfolding with_uri
      uri-new-row j =
          let n : u.row ≡ length w.uris = rowed.new j ∙ p.counts.uris in
          let l = (i.lain j).lies in
          record {
            inside = omega (arith, n, length-append w.uris (v.0 ∷ []));
            at_row = ap (uri_at (w.uris ++ (v.0 ∷ []))) n ∙ uri-new w v.0;
            lies = record {
              ends = omega (arith, i.place, i.size, l.ends);
              inside = l.inside;
              text = i.found;
            };
          }

      uri-at-row : (b : Bool) → u.joins ≡ b → UriAtRow (uri_added b w v.0)
      unfolding uri_added
      uri-at-row true j = uri-new-row j
      uri-at-row false j = uri-old j

      -- ---- the local name

      abbrev with-uri : Rows
      with-uri = uri_added u.joins w v.0

      few-with : Few with-uri
      few-with =
          few-uri u.joins v.0 (few-rows b p.counts)
          (λ j. omega (arith, rowed.left j, p.counts.uris))

      names-held : NamesHold work (throughout text₁ u.stored) c.names with-uri.names
      names-held =
          subst (NamesHold work (throughout text₁ u.stored) c.names) (sym (uri-names w v.0 u.joins))
          (subst (λ n. NamesHold work (throughout text₁ u.stored) n w.names) (sym p.counts.names)
          (holds-grown (text-grown room uri-text) p.holds).names)

      name-rows : NameRows work text₁ u.stored c.names u.row u.place u.size with-uri
      name-rows =
          let r = uri-at-row u.joins refl in
          record {
            hold = names-held;
            row = r.inside;
            lies = subst (λ (y : Placed). Lies text₁ u.stored u.place u.size y.text)
                (sym r.at_row) r.lies;
          }

      module _ (attr : Bool) {text₂ : List ℕ} {l : StringRead} (room₁ : max_store ≤ length text₁)
          (few₁ : u.stored ≤ max_store)
          (post₂ : names.NamePost a attr as_name stream u.next text₁ u.stored work c.names
          u.row u.place u.size text₂ l)
          (rowed₂ : NameRowed text₁ u.stored work c.names u.row text₂ l) where
        name-text : TextRead text₁ u.stored text₂ l.number l.stored
        name-text =
            string-text (name_role attr u.row) (adds-name u.row) room₁ few₁ post₂

        name-outcome : (s : Settings) → s.alignment ≡ a
            → Outcome (read_string sizes s (tables_at text₁ u.stored with-uri)
            (local attr v.0.text)) stream u.next l.number l.next
            (StringIs (λ b w y. name_added b u.row w y) with-uri text₂ l)
        name-outcome s e =
            let r = uri-at-row u.joins refl in
            subst
            (λ (y : Placed). Outcome (read_string sizes s (tables_at text₁ u.stored with-uri)
            (local attr y.text)) stream u.next l.number l.next
            (StringIs (λ b w y. name_added b u.row w y) with-uri text₂ l)) r.at_row
            (outcome-weaken
            (λ _ x m. string-is (name_role attr u.row) (adds-name u.row) room₁ few₁ post₂
            with-uri i.valid x m)
            (post₂.meant s e with-uri (take u.stored text₁)
            (tabled i.valid few-with few₁ room₁) name-rows))

        module _ (z₂ : l.number ≡ 0) {x : Placed × Tables}
            (k : StringIs (λ b w y. name_added b u.row w y) with-uri text₂ l x) where
          abbrev with-name : Rows
          with-name = name_added l.joins u.row with-uri x.0

          record NameAtRow (w₂ : Rows) : Type 0 where
            inside : l.row < length w₂.names
            key : key_at w₂.names l.row ≡ u.row
            at_row : placed_at w₂ l.row ≡ record { uri = v.0; local = x.0 }

          name-old : l.joins ≡ false → NameAtRow with-uri
          unfolding placed_at
          name-old j =
              let o = rowed₂.old z₂ j with-uri.names names-held in
              let r = uri-at-row u.joins refl in
              record {
                inside = o.inside;
                key = o.key;
                at_row = λ t. record {
                  uri = (ap (uri_at with-uri.uris) o.key ∙ r.at_row) t;
                  local = spans-same o.spans k.place k.found t;
                };
              }

          name-new-row : l.joins ≡ true → NameAtRow (with_name with-uri u.row x.0)
          unfolding with_name
          name-new-row j =
              let e : Entry ℕ = record { key = u.row; string = x.0 } in
              let n : l.row ≡ length with-uri.names =
              rowed₂.new j ∙ sym names-held.count in
              let r = uri-at-row u.joins refl in
              record {
                inside = omega (arith, n, length-append with-uri.names (e ∷ []));
                key = ap (λ m. key_at (with-uri.names ++ (e ∷ [])) m) n
                    ∙ ap (λ (y : Entry ℕ). y.key) (entry_new with-uri.names e);
                at_row = ap (placed_at (with_name with-uri u.row x.0)) n
                    ∙ name_new_lem with-uri u.row x.0
                    ∙ ap (λ (y : Placed). record { uri = y; local = x.0 }) r.at_row;
              }

          name-at-row : (b : Bool) → l.joins ≡ b
              → NameAtRow (name_added b u.row with-uri x.0)
          unfolding name_added
          name-at-row true j = name-new-row j
          name-at-row false j = name-old j

          -- The URI's text is still there.
          uri-still : u.joins ≡ true
              → Lain (up_to text₂ l.stored) (uri_joining (pair_as u l).strings) v.0
          uri-still j =
              let q = i.lain j in
              record {
                place = q.place;
                size = q.size;
                lies = lies_grown (text-grown room₁ name-text) q.lies;
              }

          pub pair-means : NameMeans text₂ w (pair_as u l)
              (record { uri = v.0; local = x.0 }, x.1)
          unfolding value_added span_of as_span
          pair-means =
              let r = name-at-row l.joins refl in
              record {
                rows = with-name;
                joins = record {
                  uri = v.0;
                  name = x.0;
                  value = x.0;
                  uri-joins = uri-still;
                  name-joins = string-joins k rowed₂.hashed;
                  value-joins = λ j. absurd (true≢false (sym j));
                  uri-valid = i.valid;
                  name-valid = k.valid;
                  valid = k.valid;
                  is = refl;
                };
                tables = k.tables;
                row = r.inside;
                name = r.at_row;
                key = r.key;
                uri-is = λ t. record { place = i.place t; size = i.size t };
                local-is = λ t. record { place = k.place t; size = k.size t };
              }

    -- ---- both

    pub pair-outcome : (s : Settings) → s.alignment ≡ a → (attr : Bool) → (z : u.number ≡ 0)
        → {text₂ : List ℕ} {l : StringRead} → max_store ≤ length text₁ → u.stored ≤ max_store
        → names.NamePost a attr as_name stream u.next text₁ u.stored work c.names
        u.row u.place u.size text₂ l
        → NameRowed text₁ u.stored work c.names u.row text₂ l
        → (r : Named) → (l.number ≡ 0 → r ≡ pair_as u l)
        → Outcome (readName sizes s (tables_at text c.stored w) attr none) stream at
        l.number l.next (NameMeans text₂ w r)
    unfolding readName
    pair-outcome s e attr z {text₂} {l} room₁ few₁ post₂ rowed₂ r is =
        let o = uri-outcome s e in
        let g = o.read z in
        let i = o.is z in
        outcome-then _ g
        (subst
        (λ (t : Tables). Outcome
        (read_string sizes s t (local attr g.value.0.text)
        >>= λ x. return (record { uri = g.value.0; local = x.0 }, x.1)) stream u.next
        l.number l.next (NameMeans text₂ w r)) (sym i.tables)
        (outcome-map (λ x. (record { uri = g.value.0; local = x.0 }, x.1))
        (name-outcome z i attr room₁ few₁ post₂ rowed₂ s e)
        (λ z₂ x k.
        subst (λ (q : Named). NameMeans text₂ w q (record { uri = g.value.0; local = x.0 }, x.1))
        (sym (is z₂)) (pair-means z i attr room₁ few₁ post₂ rowed₂ z₂ k))))
