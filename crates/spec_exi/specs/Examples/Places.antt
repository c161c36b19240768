-- Where the strings lie: the events as they lie in memory, and the text store.
use Rattle.std.specs.Prelude.{◌≡◌, ◌∷◌, ◌++◌}
use Rattle.spec_exi.specs.Examples.{ℕ, String, List, [], map, Answer, refused}
use Rattle.spec_exi.specs.Examples.{accepted, Span, Text, text, QName, Event, map_event}
use Rattle.spec_exi.specs.Examples.{start_document, end_document, end_element, start_element}
use Rattle.spec_exi.specs.Examples.{attribute, span_of, Reading, read, full, in_octets, octets}

-- A byte-aligned stream, the events as they lie in memory, and the literals.
pub record LaidOut : Type 0 where
  pub stream : List ℕ
  pub events : List (Event Span)
  pub literals : String

-- Events and store of what is accepted.
unfoldable pub layout_of : Answer Reading → List (Event Span) × Text
layout_of a =
    elim a [ refused k i ↦ ([], []) | accepted r ↦ (map (map_event span_of) r.events, r.store) ]

-- The store: the initial entries, written out (and not by the tables), then the literals.
unfoldable pub store_with : String → Text
store_with x =
    text "http://www.w3.org/XML/1998/namespacehttp://www.w3.org/2001/XMLSchema-instance"
    ++ text "baseidlangspaceniltype" ++ text x

-- Each is laid out as it says.
pub record Lie (xs : List LaidOut) : Type 0 where
  pub layouts : map (λ x. layout_of (read full in_octets x.stream)) xs
      ≡ map (λ x. (x.events, store_with x.literals)) xs

-- A string at a place, with its length; a name of two such, or with the empty URI.
unfoldable pub at : ℕ → ℕ → Span
at p n = record { place = p; size = n }

unfoldable pub in_uri : ℕ → ℕ → ℕ → ℕ → QName Span
in_uri q m p n = record { uri = at q m; local = at p n }

unfoldable pub named : ℕ → ℕ → QName Span
named p n = in_uri 0 0 p n

-- Two streams.
unfoldable pub laid_out : List LaidOut
laid_out =
    -- K7: the second p, t and 1 lie where the first do.
    record {
      stream = octets
          "80 01 02 72 02 01 02 70 01 01 02 74 03 31 01 00 01 00 01 00 01 01 00 00 01";
      events = start_document ∷ start_element (named 99 1) ∷ start_element (named 100 1)
          ∷ attribute (named 101 1) (at 102 1) ∷ end_element
          ∷ start_element (named 100 1) ∷ attribute (named 101 1) (at 102 1) ∷ end_element
          ∷ end_element ∷ end_document ∷ [];
      literals = "rpt1";
    }
    -- <xsi:nil xml:base="x" xml:id="" type="x" xsi:k=""><xsi:type/></xsi:nil>: initial entries and
    -- the hit x lie where their entries lie, empty values at the end of the store so far.
    ∷ record {
      stream = octets "80 03 00 00 01 02 00 00 03 78 01 01 02 00 01 02 02 01 01 05 74 79 70 65"
          ++ octets "01 03 01 03 02 6B 02 04 02 03 00 01 00 00";
      events = start_document ∷ start_element (in_uri 36 41 92 3)
          ∷ attribute (in_uri 0 36 77 4) (at 99 1) ∷ attribute (in_uri 0 36 81 2) (at 100 0)
          ∷ attribute (named 100 4) (at 99 1) ∷ attribute (in_uri 36 41 104 1) (at 105 0)
          ∷ start_element (in_uri 36 41 95 4) ∷ end_element ∷ end_element ∷ end_document ∷ [];
      literals = "xtypek";
    } ∷ []
