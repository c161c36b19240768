-- The learned production of a name that its tables have.
use Rattle.std.specs.Prelude.{ℕ, ◌-◌, ◌≤◌, ◌<◌, ◌≡◌, Bool, true, cond, ◌&&◌, ◌||◌, List, length, eqb, ltb}
use Rattle.text.specs.Text.{inside}
use Rattle.spec_exi.specs.Sizes.{max_string}
use Rattle.name_rules.specs.Names.{is_reserved}
use Rattle.event.specs.declared.Part.{Part}
use Rattle.event.specs.Cells.{as_span}
use Rattle.mem_layout.specs.Layout.{name_rows}
use Rattle.mem_chain.specs.Chain.{first_that}
use Rattle.mem_entries.specs.Texts.{hash_of}
use Rattle.mem_names.specs.Uris.{uri_store, uri_has_text}
use Rattle.mem_names.specs.Names.{name_store, name_found_in}
use Rattle.mem_state.specs.declared.Core.{Core}
use Rattle.grammar_match.specs.Found.{found_here, FoundHere}
use Rattle.write_partition.specs.Judged.{found_as}
use Rattle.write_qname.specs.Premise.{part_at}
use Rattle.write_qname.specs.Qnames.{named_as, NamePost}
use Rattle.mem_chain.specs.Chain.{link_of}
use Rattle.write_known.specs.declared.NameFound.{NameFound}

-- ---- the name

-- It is judged as one whose strings have these rows.
pub record Named (opening text : List ℕ) (attr : Bool) (uri local : Part) (c : Core)
    (work : List ℕ) (name : ℕ) : Type 0 where
  pub u : ℕ
  pub post : NamePost opening text attr uri local c work
      (named_as uri local (found_as u c.stored) (found_as name c.stored))

unfoldable pub uri_found : List ℕ → List ℕ → Part → Core → List ℕ → ℕ
uri_found opening text uri c work =
    first_that (uri_has_text work (uri_store opening text) (part_at text uri)) c.uris

-- Its row and 1, or 0: too long, reserved, or not there.
unfoldable pub known_in : List ℕ → List ℕ → Bool → Part → Part → Core → List ℕ → ℕ
known_in opening text attr uri local c work =
    let x = part_at text local in
    cond (eqb (uri_found opening text uri c work) 0) 0
    (cond (ltb max_string (length x) || (attr && is_reserved (part_at text uri) x)) 0
    (name_found_in work (name_store opening text) (uri_found opening text uri c work - 1) x (hash_of x)
    c.names))

pub record KnownName (opening text : List ℕ) (attr : Bool) (uri local : Part) (c : Core)
    (work : List ℕ) (r : ℕ) : Type 0 where
  pub is : r ≡ known_in opening text attr uri local c work
  pub few : r ≤ c.names
  pub named : 0 < r → Named opening text attr uri local c work (r - 1)

-- ---- its production

-- The row of a name, and that of its learned production counted from 1; 0 for none.
pub record NameAnswer : Type 0 where
  pub name : ℕ
  pub row : ℕ

abbrev pub told_found : NameFound → NameAnswer
told_found f = record { name = f.name; row = link_of f.row }

abbrev pub unknown_as : NameAnswer
unknown_as = record { name = 0; row = 0 }

unfoldable pub learned_in : List ℕ → List ℕ → ℕ → Part → Part → Core → List ℕ → NameAnswer
learned_in opening text kind uri local c work =
    let k = known_in opening text (eqb kind 3) uri local c work in
    cond (inside text (as_span uri) && inside text (as_span local))
    (cond (eqb k 0) unknown_as
    (record {
      name = k - 1;
      row = found_here work c.mode c.top kind (k - 1) c.learned;
    }))
    unknown_as

pub record LearnedName (opening text : List ℕ) (kind : ℕ) (uri local : Part) (c : Core)
    (work : List ℕ) (r : NameAnswer) : Type 0 where
  pub is : r ≡ learned_in opening text kind uri local c work
  pub low : r.name < name_rows
  pub within : 0 < r.row → (inside text (as_span uri) ≡ true) × (inside text (as_span local) ≡ true)
  pub named : 0 < r.row → Named opening text (eqb kind 3) uri local c work r.name
  pub found : 0 < r.row
      → FoundHere work c.mode c.top kind r.name c.learned r.row
