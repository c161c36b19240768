-- The middle ground between reader, writer and the words of the scope: what each string, each event
-- and a whole list has to meet on its way through the contexts of the strict form. Reader and
-- writer are proved to accept just the lists that `ListFit` describes, and those are proved to be
-- the well-formed lists inside the limits.
use mathlib.Core.Path.{◌≡◌}
use mathlib.Core.List.{List, [], ◌∷◌}
use mathlib.Core.Option.{some}
use lib.Dec.{T}
use Rattle.text.specs.Text.{Text, all_chars}
use Rattle.spec_exi.specs.Sizes.{sizes}
use Rattle.spec_exi.specs.Event.{Event}
use Rattle.spec_exi.specs.Settings.{Settings}
use Rattle.spec_exi.specs.Tables.{Tables, name_allowed, text_allowed}
use Rattle.spec_exi.specs.Grammar.{Code, code_of, finished, tag_allows}
use Rattle.spec_exi.specs.Context.{Context, levels_in, Item, items, after_item, next}
use Rattle.spec_exi.specs.Lists.{short, within_tables, within_grammars}

-- A string of an event may stand where it stands.
pub record ItemFit (t : Tables) (i : Item) : Type 0 where
  pub chars : T (all_chars i.text)
  pub small : T (short sizes i.text)
  pub clean : T (text_allowed i.role i.text)
  pub named : T (name_allowed i.role i.text)
  pub room : T (within_tables sizes (after_item t i))

-- Strings may come one after the other.
abbrev pub ItemsFit : Tables → List Item → Type 0
ItemsFit t [] = Unit {0}
ItemsFit t (i ∷ is) = ItemFit t i × ItemsFit (after_item t i) is

-- An event may come next.
pub record EventFit (s : Settings) (c : Context) (e : Event Text) : Type 0 where
  pub code : Code
  pub coded : code_of (levels_in s c) e ≡ some code
  pub strings : ItemsFit c.tables (items c.state code.production e)
  pub tag : T (tag_allows c.tag e)
  pub grammars : T (within_grammars sizes (next s c e))

-- A list may come next, up to the end of the document.
pub data ListFit (s : Settings) : Context → List (Event Text) → Type 0 where
  done : {c : Context} → c.state ≡ finished → ListFit s c []
  also : {c : Context} {l : List (Event Text)} (e : Event Text) → EventFit s c e
      → ListFit s (next s c e) l → ListFit s c (e ∷ l)
