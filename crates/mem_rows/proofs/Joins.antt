-- A row more: what the rows meant before they mean still, and the definitions' tables have the entry.
use Prim.Native.Nat.{ℕ, zero, suc, ◌+◌, ◌≤◌, ◌<◌}
use native.Mathlib.Omega.{arith}
use mathlib.Core.Path.{◌≡◌, refl, sym, ap, ◌∙◌}
use mathlib.Core.Bool.{Bool, true, false, cond}
use mathlib.Core.List.{List, [], ◌∷◌, ◌++◌, map, append-nil}
use lib.ListN.{length, get_or, length-append, get_or-append}
use lib.Seq.{get_or-append_seam}
use Rattle.text.specs.Text.{Text}
use Rattle.spec_exi.specs.Event.{QName}
use Rattle.spec_exi.specs.Tables.{Placed, Entry, Values, Tables, Role, uri, local, value, target, plain}
use Rattle.spec_exi.specs.Tables.{new_uri, new_name, joins, new_value, new_entry, with_values, laid, added}
use Rattle.mem_entries.specs.Entries.{entry_at, named}
use Rattle.mem_names.specs.Uris.{no_uri, uri_at, uri_text}
use Rattle.mem_rows.specs.Rows.{Rows, placed_at, name_at}
use Rattle.mem_rows.specs.Rows.{tables_of, with_uri, with_name, with_value}
use Rattle.mem_rows.specs.Valid.{KeysBelow, Refers}
use Rattle.mem_rows.proofs.Entries.{keys-head, keys-tail}
use Rattle.mem_entries.proofs.Entries.{entry_old, entry_new}

-- ---- keys that mean the same

module _ {K : Type 0} (f g : ℕ → K) where
  pub keyed-same : (most : ℕ) → ((i : ℕ) → i < most → f i ≡ g i) → (es : List (Entry ℕ)) → KeysBelow most es
      → map (named f) es ≡ map (named g) es
  unfolding named
  keyed-same most e [] b = refl
  keyed-same most e (x ∷ xs) b =
      let z : f x.key ≡ g x.key = e x.key (keys-head b) in
      cc (z, keyed-same most e xs (keys-tail b))

pub map_snoc : {A B : Type 0} (f : A → B) (l : List A) (x : A) → map f (l ++ (x ∷ [])) ≡ map f l ++ (f x ∷ [])
map_snoc f [] x = refl
map_snoc f (y ∷ l) x = ap (λ m. f y ∷ m) (map_snoc f l x)

-- ---- a URI joins

module _ (w : Rows) (x : Placed) where
  pub uri-old : (u : ℕ) → u < length w.uris → uri_at (with_uri w x).uris u ≡ uri_at w.uris u
  unfolding uri_at with_uri
  uri-old u h = get_or-append w.uris (x ∷ []) no_uri u h

  pub uri-new : uri_at (with_uri w x).uris (length w.uris) ≡ x
  unfolding uri_at with_uri
  uri-new = get_or-append_seam w.uris x [] no_uri

  module _ (r : Refers w) where
    pub uri-names : (n : ℕ) → n < length w.names → placed_at (with_uri w x) n ≡ placed_at w n
    unfolding placed_at with_uri
    uri-names n h =
        let z = uri-old (entry_at w.names n).key (r.names.below n h) in
        ap (λ (y : Placed). record { uri = y; local = (entry_at w.names n).string }) z

-- ---- a local name joins

module _ (w : Rows) (u : ℕ) (x : Placed) where
  pub name-old : (n : ℕ) → n < length w.names → placed_at (with_name w u x) n ≡ placed_at w n
  unfolding placed_at with_name
  name-old n h =
      let z = entry_old w.names (record { key = u; string = x }) n h in
      ap (λ (e : Entry ℕ). record { uri = uri_at w.uris e.key; local = e.string }) z

  pub name_new_lem : placed_at (with_name w u x) (length w.names) ≡ record { uri = uri_at w.uris u; local = x }
  unfolding placed_at with_name
  name_new_lem =
      ap (λ (e : Entry ℕ). record { uri = uri_at w.uris e.key; local = e.string })
      (entry_new w.names (record { key = u; string = x }))

-- The name by its texts.
pub name-text : (w w' : Rows) (n m : ℕ) → placed_at w n ≡ placed_at w' m → name_at w n ≡ name_at w' m
unfolding name_at
name-text w w' n m e = ap (λ (q : QName Placed). record { uri = q.uri.text; local = q.local.text }) e

-- ---- the tables with it

-- Rows that mean what they meant give the tables that they gave, but for what was appended.
module _ (w : Rows) (r : Refers w) (store x : Text) where
  abbrev with-added : List (Entry (QName Text)) → Values
  with-added vs = record { longest = w.longest; capacity = w.capacity; added = vs }

  pub uri-joins :
      added (tables_of w store) uri x
      ≡ tables_of (with_uri w (record { place = length store; text = x })) (store ++ x)
  unfolding added new_uri new_name new_value with_values laid tables_of with_uri
  uri-joins =
      let y : Placed = record { place = length store; text = x } in
      let names = keyed-same (uri_text w.uris) (uri_text (with_uri w y).uris) (length w.uris)
      (λ u h. ap (λ (p : Placed). p.text) (sym (uri-old w y u h))) w.names r.names in
      let values = keyed-same (name_at w) (name_at (with_uri w y)) (length w.names)
      (λ n h. name-text w (with_uri w y) n n (sym (uri-names w y r n h))) w.values r.values in
      λ i. record {
        uris = w.uris ++ (y ∷ []);
        names = (append-nil _ ∙ names) i;
        values = with-added ((append-nil _ ∙ values) i);
        store = store ++ x;
      }

  pub name-joins : (attr : Bool) (u : ℕ)
      → added (tables_of w store) (local attr (uri_text w.uris u)) x
      ≡ tables_of (with_name w u (record { place = length store; text = x })) (store ++ x)
  unfolding added new_uri new_name new_value with_values laid tables_of with_name named
  name-joins attr u =
      let y : Placed = record { place = length store; text = x } in
      let names = sym (map_snoc (named (uri_text w.uris)) w.names (record { key = u; string = y })) in
      let values = keyed-same (name_at w) (name_at (with_name w u y)) (length w.names)
      (λ n h. name-text w (with_name w u y) n n (sym (name-old w u y n h))) w.values r.values in
      λ i. record {
        uris = append-nil w.uris i;
        names = names i;
        values = with-added ((append-nil _ ∙ values) i);
        store = store ++ x;
      }

  pub value-joins : (n : ℕ) → joins (tables_of w store).values x ≡ true
      → added (tables_of w store) (value (name_at w n)) x
      ≡ tables_of (with_value w n (record { place = length store; text = x })) (store ++ x)
  unfolding added new_uri new_name new_value with_values new_entry laid tables_of with_value named name_at placed_at
  value-joins n e =
      let y : Placed = record { place = length store; text = x } in
      let values = sym (map_snoc (named (name_at w)) w.values (record { key = n; string = y })) in
      rw e (λ i. record {
        uris = append-nil w.uris i;
        names = append-nil (map (named (uri_text w.uris)) w.names) i;
        values = with-added (values i);
        store = store ++ x;
      })

-- A value that does not join, a target, a comment or an instruction's text is laid, and joins no table.
pub nothing-joins : (w : Rows) (store x : Text) (role : Role)
    → (new_uri role (laid (tables_of w store) x) ≡ []) → (new_name role (laid (tables_of w store) x) ≡ [])
    → (new_value (tables_of w store).values role (laid (tables_of w store) x) ≡ [])
    → added (tables_of w store) role x ≡ tables_of w (store ++ x)
unfolding added with_values tables_of
nothing-joins w store x role a b c =
    λ i. record {
      uris = (ap (λ l. w.uris ++ l) a ∙ append-nil w.uris) i;
      names = (ap (λ l. map (named (uri_text w.uris)) w.names ++ l) b
          ∙ append-nil (map (named (uri_text w.uris)) w.names)) i;
      values =
          record {
            longest = w.longest;
            capacity = w.capacity;
            added = (ap (λ l. map (named (name_at w)) w.values ++ l) c
                ∙ append-nil (map (named (name_at w)) w.values)) i;
          };
      store = store ++ x;
    }
