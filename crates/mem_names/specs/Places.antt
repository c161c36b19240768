-- Names and URIs of the definitions' tables, by rows and by places.
use Rattle.std.specs.Prelude.{ℕ, ◌≡◌, List, map}
use Rattle.text.specs.Text.{Text}
use Rattle.spec_exi.specs.Event.{QName}
use Rattle.spec_exi.specs.Tables.{Placed, Tables}
use Rattle.mem_entries.specs.Entries.{Entries, key_at, text_at, Alike, named, Keyed}
use Rattle.mem_names.specs.Uris.{uri_text, is_uri}

-- The name in a row.
unfoldable pub qname_at : List Placed → Entries → ℕ → QName Text
qname_at us ns i = record { uri = uri_text us (key_at ns i); local = text_at ns i }

-- The definitions' tables have these URIs and names, wherever their texts lie.
pub record Named (t : Tables) (us : List Placed) (ns : Entries) : Type 0 where
  pub uris : map (λ x. x.text) t.uris ≡ map (λ x. x.text) us
  pub alike : Alike (uri_text us) t.names ns
  pub keyed : Keyed (is_uri us) ns

-- And lie in the same places.
pub record Laid (t : Tables) (us : List Placed) (ns : Entries) : Type 0 where
  pub uris : t.uris ≡ us
  pub names : t.names ≡ map (named (uri_text us)) ns
  pub keyed : Keyed (is_uri us) ns
