-- The strings of an event one by one.
use Rattle.std.specs.Prelude.{ℕ, Bool, false}
use Rattle.mem_state.specs.declared.Strings.{Strings}

-- Whether a string joins its table; where it lies, and the hash of its text.
pub record Joining : Type 0 where
  pub joins : Bool
  pub place : ℕ
  pub size : ℕ
  pub hash : ℕ

abbrev pub joining : Bool → ℕ → ℕ → ℕ → Joining
joining joins place size hash =
    record { joins = joins; place = place; size = size; hash = hash }

abbrev pub no_joining : Joining
no_joining = joining false 0 0 0

-- URIs are not found by a hash.
abbrev pub uri_joining : Strings → Joining
uri_joining s = joining s.new_uri s.uri_place s.uri_size 0

abbrev pub name_joining : Strings → Joining
name_joining s = joining s.new_name s.name_place s.name_size s.name_hash

abbrev pub value_joining : Strings → Joining
value_joining s = joining s.new_value s.value_place s.value_size s.value_hash

-- These strings, with the rows of URI and name and that of the value's owner.
abbrev pub as_strings : Joining → Joining → Joining → ℕ → ℕ → ℕ → Strings
as_strings uri name value uri_row name_row owner =
    record {
      uri_place = uri.place;
      uri_size = uri.size;
      name_place = name.place;
      name_size = name.size;
      name_hash = name.hash;
      value_place = value.place;
      value_size = value.size;
      value_hash = value.hash;
      uri_row = uri_row;
      name_row = name_row;
      owner = owner;
      new_uri = uri.joins;
      new_name = name.joins;
      new_value = value.joins;
    }

abbrev pub no_strings : Strings
no_strings = as_strings no_joining no_joining no_joining 0 0 0

-- With this value of the name in a row.
abbrev pub valued_strings : Strings → ℕ → Joining → Strings
valued_strings s owner x =
    as_strings (uri_joining s) (name_joining s) x s.uri_row s.name_row owner
