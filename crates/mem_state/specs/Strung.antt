-- The rows with the strings of an event, where these join their tables.
use Rattle.std.specs.Prelude.{ℕ, ◌≡◌, Bool, true, false, length}
use Rattle.spec_exi.specs.Tables.{Placed}
use Rattle.mem_entries.specs.Texts.{hash_of, Lies, Source}
use Rattle.mem_rows.specs.Rows.{Rows, with_uri, with_name, with_value}
use Rattle.mem_rows.specs.Valid.{Valid}
use Rattle.mem_state.specs.declared.Strings.{Strings}
use Rattle.mem_state.specs.Joining.{Joining, uri_joining, name_joining, value_joining}
use Rattle.mem_state.specs.Holds.{Stores}

unfoldable pub uri_added : Bool → Rows → Placed → Rows
uri_added true w x = with_uri w x
uri_added false w x = w

unfoldable pub name_added : Bool → ℕ → Rows → Placed → Rows
name_added true u w x = with_name w u x
name_added false u w x = w

unfoldable pub value_added : Bool → ℕ → Rows → Placed → Rows
value_added true n w x = with_value w n x
value_added false n w x = w

-- The cells of a string that joins: it lies in the first cells of a store.
pub record Lain (at : Source) (x : Joining) (y : Placed) : Type 0 where
  pub place : x.place ≡ y.place
  pub size : x.size ≡ length y.text
  pub lies : Lies at.store at.stored y.place (length y.text) y.text

-- Names and values are found by the hash of their text; URIs are not.
pub record Joins (at : Source) (x : Joining) (y : Placed) : Type 0 where
  pub lain : Lain at x y
  pub hash : x.hash ≡ hash_of y.text

-- v is w with these strings: the URI, the local name and the value that join.
pub record StringsJoin (from : Stores) (s : Strings) (w v : Rows) : Type 0 where
  pub uri : Placed
  pub name : Placed
  pub value : Placed
  pub uri-joins : s.new_uri ≡ true → Lain (from.uris (length w.uris)) (uri_joining s) uri
  pub name-joins : s.new_name ≡ true
      → Joins (from.names (length w.names)) (name_joining s) name
  pub value-joins : s.new_value ≡ true → Joins from.values (value_joining s) value
  pub uri-valid : Valid (uri_added s.new_uri w uri)
  pub name-valid : Valid
      (name_added s.new_name s.uri_row (uri_added s.new_uri w uri) name)
  pub valid : Valid v
  pub is : v ≡ value_added s.new_value s.owner
      (name_added s.new_name s.uri_row (uri_added s.new_uri w uri) name) value
