-- Memory after the strings of an event have joined: it holds the rows with them.
use Prim.Native.Nat.{ℕ, ◌+◌, ◌<◌}
use native.Mathlib.Omega.{arith}
use native.Mathlib.Nat.{le_refl}
use mathlib.Core.Path.{◌≡◌, refl, sym, ap, subst, ◌∙◌}
use mathlib.Core.Bool.{Bool, true, false, cond, true≢false}
use mathlib.Core.List.{List, [], ◌∷◌}
use lib.ListN.{length, length-append}
use Rattle.spec_exi.specs.Tables.{Placed, Entry}
use Rattle.mem_layout.specs.Layout.{uri_rows, name_rows}
use Rattle.mem_index.specs.Index.{numbers}
use Rattle.mem_entries.proofs.Entries.{entry_old}
use Rattle.mem_names.proofs.Uris.{uri-old}
use Rattle.mem_rows.specs.Rows.{Rows, with_uri, with_name, with_value}
use Rattle.mem_rows.specs.Valid.{Refers, Valid}
use Rattle.mem_state.specs.declared.Core.{Core}
use Rattle.mem_state.specs.declared.Strings.{Strings}
use Rattle.mem_state.specs.Joining.{Joining, uri_joining, name_joining, value_joining}
use Rattle.mem_state.specs.Joining.{no_strings, valued_strings}
use Rattle.mem_state.specs.Holds.{Stores, Holds, Ahead, Counts}
use Rattle.mem_state.specs.Commit.{joined_uri, joined_name, joined_value, joined_strings}
use Rattle.mem_state.specs.Commit.{StringsPre}
use Rattle.mem_state.specs.Strung.{uri_added, name_added, value_added, Lain, Joins, StringsJoin}
use Rattle.mem_state.proofs.Joins.{holds-uri, holds-name, holds-value}

-- ---- one string

module _ {work : List ℕ} {from : Stores} where
  uri-holds : (w : Rows) (n : ℕ) (b : Bool) (x : Joining) (y : Placed) → x.joins ≡ b
      → n ≡ length w.uris → (b ≡ true → Lain (from.uris (length w.uris)) x y) → (b ≡ true → n < uri_rows)
      → Valid (uri_added b w y) → Holds work from w
      → Holds (joined_uri n x work) from (uri_added b w y)
  unfolding uri_added joined_uri
  uri-holds w n true x y e c j few v h =
      rw (e, c, (j refl).place, (j refl).size)
      (holds-uri w y v h (omega (arith, few refl)) (j refl).lies)
  uri-holds w n false x y e c j few v h = rw e h

  name-holds : (w : Rows) → Refers w → (n u : ℕ) (b : Bool) (x : Joining) (y : Placed)
      → x.joins ≡ b → n ≡ length w.names → (b ≡ true → Joins (from.names (length w.names)) x y)
      → (b ≡ true → n < name_rows) → u < uri_rows → Valid (name_added b u w y)
      → Holds work from w → Holds (joined_name n u x work) from (name_added b u w y)
  unfolding name_added joined_name
  name-holds w r n u true x y e c j few low v h =
      rw (e, c, (j refl).lain.place, (j refl).lain.size, (j refl).hash)
      (holds-name w r u y v h (omega (arith, few refl)) low (j refl).lain.lies)
  name-holds w r n u false x y e c j few low v h = rw e h

  value-holds : (w : Rows) (n k : ℕ) (b : Bool) (x : Joining) (y : Placed)
      → x.joins ≡ b → n ≡ length w.values → (b ≡ true → Joins from.values x y)
      → (b ≡ true → n < numbers) → k < name_rows → Valid (value_added b k w y)
      → Holds work from w → Holds (joined_value n k x work) from (value_added b k w y)
  unfolding value_added joined_value
  value-holds w n k true x y e c j few low v h =
      rw (e, c, (j refl).lain.place, (j refl).lain.size, (j refl).hash)
      (holds-value w k y v h (omega (arith, few refl)) low (j refl).lain.lies)
  value-holds w n k false x y e c j few low v h = rw e h

-- ---- which lists each touches

module _ (w : Rows) (y : Placed) where
  pub uri-names : (b : Bool) → (uri_added b w y).names ≡ w.names
  unfolding uri_added with_uri
  uri-names true = refl
  uri-names false = refl

  pub uri-values : (b : Bool) → (uri_added b w y).values ≡ w.values
  unfolding uri_added with_uri
  uri-values true = refl
  uri-values false = refl

  uri-count : (b : Bool) → length (uri_added b w y).uris ≡ length w.uris + cond b 1 0
  unfolding uri_added with_uri
  uri-count true = length-append w.uris (y ∷ [])
  uri-count false = omega arith

  module _ (u : ℕ) where
    pub name-uris : (b : Bool) → (name_added b u w y).uris ≡ w.uris
    unfolding name_added with_name
    name-uris true = refl
    name-uris false = refl

    pub name-values : (b : Bool) → (name_added b u w y).values ≡ w.values
    unfolding name_added with_name
    name-values true = refl
    name-values false = refl

    name-count : (b : Bool) → length (name_added b u w y).names ≡ length w.names + cond b 1 0
    unfolding name_added with_name
    name-count true = length-append w.names (record { key = u; string = y } ∷ [])
    name-count false = omega arith

    pub value-uris : (b : Bool) → (value_added b u w y).uris ≡ w.uris
    unfolding value_added with_value
    value-uris true = refl
    value-uris false = refl

    pub value-names : (b : Bool) → (value_added b u w y).names ≡ w.names
    unfolding value_added with_value
    value-names true = refl
    value-names false = refl

    value-count : (b : Bool)
        → length (value_added b u w y).values ≡ length w.values + cond b 1 0
    unfolding value_added with_value
    value-count true = length-append w.values (record { key = u; string = y } ∷ [])
    value-count false = omega arith

without-value : (b : Bool) (k : ℕ) (w : Rows) (y : Placed) → b ≡ false → value_added b k w y ≡ w
unfolding value_added
without-value true k w y e = absurd (true≢false e)
without-value false k w y e = refl

-- ---- ahead

pub ahead_none : (w : Rows) → Ahead w w
ahead_none w =
    record {
      fewer_uris = le_refl (length w.uris);
      uris = λ u h. refl;
      fewer_names = le_refl (length w.names);
      names = λ n h. refl;
      learned = refl;
      grammars = refl;
      attributes = refl;
      longest = refl;
      capacity = refl;
    }

pub ahead-on : {w v z : Rows} → Ahead w v → Ahead v z → Ahead w z
ahead-on a b =
    record {
      fewer_uris = omega (arith, a.fewer_uris, b.fewer_uris);
      uris = λ u h. b.uris u (omega (arith, a.fewer_uris)) ∙ a.uris u h;
      fewer_names = omega (arith, a.fewer_names, b.fewer_names);
      names = λ n h. b.names n (omega (arith, a.fewer_names)) ∙ a.names n h;
      learned = b.learned ∙ a.learned;
      grammars = b.grammars ∙ a.grammars;
      attributes = b.attributes ∙ a.attributes;
      longest = b.longest ∙ a.longest;
      capacity = b.capacity ∙ a.capacity;
    }

pub ahead-uri : (b : Bool) (w : Rows) (y : Placed) → Ahead w (uri_added b w y)
unfolding uri_added with_uri
ahead-uri true w y =
    record {
      fewer_uris = omega (arith, length-append w.uris (y ∷ []));
      uris = λ u h. uri-old w.uris y u h;
      fewer_names = le_refl (length w.names);
      names = λ n h. refl;
      learned = refl;
      grammars = refl;
      attributes = refl;
      longest = refl;
      capacity = refl;
    }
ahead-uri false w y = ahead_none w

pub ahead-name : (b : Bool) (u : ℕ) (w : Rows) (y : Placed) → Ahead w (name_added b u w y)
unfolding name_added with_name
ahead-name true u w y =
    let e : Entry ℕ = record { key = u; string = y } in
    record {
      fewer_uris = le_refl (length w.uris);
      uris = λ u h. refl;
      fewer_names = omega (arith, length-append w.names (e ∷ []));
      names = λ n h. entry_old w.names e n h;
      learned = refl;
      grammars = refl;
      attributes = refl;
      longest = refl;
      capacity = refl;
    }
ahead-name false u w y = ahead_none w

pub ahead-value : (b : Bool) (k : ℕ) (w : Rows) (y : Placed) → Ahead w (value_added b k w y)
unfolding value_added with_value
ahead-value true k w y =
    record {
      fewer_uris = le_refl (length w.uris);
      uris = λ u h. refl;
      fewer_names = le_refl (length w.names);
      names = λ n h. refl;
      learned = refl;
      grammars = refl;
      attributes = refl;
      longest = refl;
      capacity = refl;
    }
ahead-value false k w y = ahead_none w

-- ---- all strings of an event

module _ {from : Stores} {s : Strings} {w v : Rows} (j : StringsJoin from s w v) where
  abbrev with-uri : Rows
  with-uri = uri_added s.new_uri w j.uri

  abbrev with-name : Rows
  with-name = name_added s.new_name s.uri_row with-uri j.name

  pub strings-ahead : Ahead w v
  strings-ahead =
      subst (Ahead w) (sym j.is)
      (ahead-on (ahead-uri s.new_uri w j.uri)
      (ahead-on (ahead-name s.new_name s.uri_row with-uri j.name)
      (ahead-value s.new_value s.owner with-name j.value)))

  module _ {c : Core} (n : Counts c w) where
    pub uris-counted : c.uris + cond s.new_uri 1 0 ≡ length v.uris
    uris-counted =
        sym (ap (λ (z : Rows). length z.uris) j.is
        ∙ ap length (value-uris with-name j.value s.owner s.new_value
        ∙ name-uris with-uri j.name s.uri_row s.new_name)
        ∙ uri-count w j.uri s.new_uri ∙ ap (λ m. m + cond s.new_uri 1 0)
        (sym n.uris))

    pub names-counted : c.names + cond s.new_name 1 0 ≡ length v.names
    names-counted =
        sym (ap (λ (z : Rows). length z.names) j.is
        ∙ ap length (value-names with-name j.value s.owner s.new_value)
        ∙ name-count with-uri j.name s.uri_row s.new_name
        ∙ ap (λ m. m + cond s.new_name 1 0)
        (ap length (uri-names w j.uri s.new_uri) ∙ sym n.names))

    pub values-counted : c.values + cond s.new_value 1 0 ≡ length v.values
    values-counted =
        sym (ap (λ (z : Rows). length z.values) j.is
        ∙ value-count with-name j.value s.owner s.new_value
        ∙ ap (λ m. m + cond s.new_value 1 0)
        (ap length (name-values with-uri j.name s.uri_row s.new_name
        ∙ uri-values w j.uri s.new_uri) ∙ sym n.values))

    pub strings-hold : {work : List ℕ} → StringsPre work c s → Holds work from w
        → Holds (joined_strings c s work) from v
    unfolding joined_strings
    strings-hold p h =
        let names-are : c.names ≡ length with-uri.names =
        n.names ∙ sym (ap length (uri-names w j.uri s.new_uri)) in
        let values-are : c.values ≡ length with-name.values =
        n.values
        ∙ sym (ap length (name-values with-uri j.name s.uri_row s.new_name
        ∙ uri-values w j.uri s.new_uri)) in
        let a = uri-holds w c.uris s.new_uri (uri_joining s) j.uri refl n.uris
        j.uri-joins p.uris j.uri-valid h in
        let b = name-holds with-uri j.uri-valid.refers c.names s.uri_row
        s.new_name (name_joining s) j.name refl names-are
        (λ e. subst (λ m. Joins (from.names m) (name_joining s) j.name)
        (sym (ap length (uri-names w j.uri s.new_uri))) (j.name-joins e))
        p.names p.uri j.name-valid a in
        subst (Holds _ from) (sym j.is)
        (value-holds with-name c.values s.owner s.new_value (value_joining s) j.value
        refl values-are j.value-joins p.values p.owner
        (subst Valid j.is j.valid) b)

  -- Where no value joins, the values are as they were.
  pub strings-values : s.new_value ≡ false → v.values ≡ w.values
  strings-values f =
      ap (λ (z : Rows). z.values)
      (j.is ∙ without-value s.new_value s.owner with-name j.value f)
      ∙ name-values with-uri j.name s.uri_row s.new_name
      ∙ uri-values w j.uri s.new_uri

  -- A value more.
  pub value-more : s.new_value ≡ false → (k : ℕ) (x : Joining) (y : Placed)
      → (x.joins ≡ true → Joins from.values x y) → Valid (value_added x.joins k v y)
      → StringsJoin from (valued_strings s k x) w (value_added x.joins k v y)
  value-more f k x y joins valid =
      record {
        uri = j.uri;
        name = j.name;
        value = y;
        uri-joins = j.uri-joins;
        name-joins = j.name-joins;
        value-joins = joins;
        uri-valid = j.uri-valid;
        name-valid = j.name-valid;
        valid = valid;
        is = ap (λ (z : Rows). value_added x.joins k z y)
            (j.is ∙ without-value s.new_value s.owner with-name j.value f);
      }

-- None have joined.
pub none-join : (from : Stores) {w : Rows} → Valid w → StringsJoin from no_strings w w
unfolding uri_added name_added value_added
none-join from v =
    let x : Placed = record { place = 0; text = [] } in
    record {
      uri = x;
      name = x;
      value = x;
      uri-joins = λ j. absurd (true≢false (sym j));
      name-joins = λ j. absurd (true≢false (sym j));
      value-joins = λ j. absurd (true≢false (sym j));
      uri-valid = v;
      name-valid = v;
      valid = v;
      is = refl;
    }
