-- How worked examples are written: streams with what the reader answers for them. Each topic has a
-- module below, and takes the words of the definitions from here.
pub use Rattle.std.specs.Prelude.{◌+◌, ◌≡◌, ◌∷◌, ◌++◌}
use Rattle.std.specs.Prelude.{◌*◌, ◌-◌}
use Rattle.spec_exi.specs as Exi
pub use Rattle.spec_fields.specs.Prelude.{ℕ, suc, String, true, false, List, []}
pub use Rattle.spec_fields.specs.Prelude.{map, none, some, replicate, get_or, T}
pub use Rattle.spec_fields.specs.Refusal.{Refusal, settings, long, header, ended, code, number}
pub use Rattle.spec_fields.specs.Refusal.{character, reference, loose, name, limit, tail, shape}
pub use Rattle.spec_fields.specs.Refusal.{place, Numbered, Answer, refused, accepted}
pub use Rattle.text.specs.Text.{Text, Span, text, is_char}
pub use Exi.Event.{QName, Event, start_document, end_document, end_element, start_element, attribute}
pub use Exi.Event.{characters, comment, instruction, map_event}
pub use Exi.{Settings.Settings, Settings.SettingNumbers, Settings.settings_of, Sizes.Sizes}
pub use Exi.{Sizes.sizes, Tables.span_of, Tables.initial_entries, Tables.name_allowed}
pub use Exi.Reader.{ReaderRoom, Reading, read_sized, read, list_of, ReadReply, read_reply}
pub use Exi.Writer.{WriterRoom, Stored, write_list, write, WriteReply, write_reply}
use Rattle.spec_fields.specs.Prelude.{cond, ltb}
use Exi.Sizes.{max_stream, max_store, reader_work, event_cells, writer_work}
use Exi.Strict.{strict}
pub mod Scope
pub mod Streams
pub mod Places
pub mod Refusals
pub mod Bounds
pub mod Numbers
pub mod Written
pub mod Attributes
pub mod Names
pub mod Fragments
pub mod Values
pub mod Pieces
pub mod All

-- A stream under these settings, and the answer for it: the list, or a refusal with its index.
pub record Example : Type 0 where
  pub numbers : SettingNumbers
  pub stream : List ℕ
  pub answer : Answer (List (Event Text))

-- Lent parts of just the sizes.
unfoldable pub full : ReaderRoom
full = record { events = event_cells; text = max_store; work = reader_work }

unfoldable pub full_to_write : WriterRoom
full_to_write = record { octets = max_stream; work = writer_work }

-- The list that the reader answers, or its refusal.
unfoldable pub answer_for : Example → Answer (List (Event Text))
answer_for x = list_of (read full x.numbers x.stream)

-- The strict form of the list, where there is one.
unfoldable pub strict_for : Example → List ℕ
strict_for x =
    elim x.answer [ refused k i ↦ x.stream | accepted l ↦ strict (settings_of x.numbers) l ]

-- The reader answers for each as it says, and each list has its stream as strict form.
pub record Hold (xs : List Example) : Type 0 where
  pub answers : map answer_for xs ≡ map (λ x. x.answer) xs
  pub strict_forms : map strict_for xs ≡ map (λ x. x.stream) xs

-- The reader's replies are these numbers.
pub record Replied (xs : List Example) (ys : List ReadReply) : Type 0 where
  pub replies : map (λ x. read_reply (read full x.numbers x.stream)) xs ≡ ys

-- Number, index, events, code points.
unfoldable pub reply : ℕ → ℕ → ℕ → ℕ → ReadReply
reply n i e p = record { number = n; index = i; events = e; code_points = p }

-- ---- settings

-- The settings' numbers in their order; those that are left out are 0.
unfoldable pub numbers : List ℕ → SettingNumbers
numbers ns =
    record {
      alignment = get_or ns 0 0;
      cookie = get_or ns 1 0;
      comments = get_or ns 2 0;
      instructions = get_or ns 3 0;
      fragment = get_or ns 4 0;
      value_length = get_or ns 5 0;
      value_capacity = get_or ns 6 0;
      loose = get_or ns 7 0;
      prefixes = get_or ns 8 0;
      grammar_cap = get_or ns 9 0;
    }

-- Bit-packed, and byte-aligned, with nothing else set.
unfoldable pub in_bits : SettingNumbers
in_bits = numbers []

unfoldable pub in_octets : SettingNumbers
in_octets = numbers (1 ∷ [])

-- ---- streams and lists

-- A hexadecimal digit, as its code point.
unfoldable pub digit : ℕ → ℕ
digit c = cond (ltb c 58) (c - 48) (c - 55)

-- The octets that two hexadecimal digits each, with one space between, stand for.
unfoldable pub hex : Text → List ℕ
hex [] = []
hex (a ∷ []) = []
hex (a ∷ b ∷ []) = (digit a * 16 + digit b) ∷ []
hex (a ∷ b ∷ c ∷ rest) = (digit a * 16 + digit b) ∷ hex rest

-- A stream, written so.
unfoldable pub octets : String → List ℕ
octets x = hex (text x)

-- A stream in two lines.
unfoldable pub two_lines : SettingNumbers → String → String → Answer (List (Event Text)) → Example
two_lines n x y a = record { numbers = n; stream = octets x ++ octets y; answer = a }

-- In one.
unfoldable pub example : SettingNumbers → String → Answer (List (Event Text)) → Example
example n x a = two_lines n x "" a

-- Events, by short names: those with In have a URI.
unfoldable pub begin_in : String → String → Event Text
begin_in u n = start_element (record { uri = text u; local = text n })

unfoldable pub begin : String → Event Text
begin n = begin_in "" n

unfoldable pub attr_in : String → String → String → Event Text
attr_in u n v = attribute (record { uri = text u; local = text n }) (text v)

unfoldable pub attr : String → String → Event Text
attr n v = attr_in "" n v

unfoldable pub chars : String → Event Text
chars v = characters (text v)

unfoldable pub remark : String → Event Text
remark x = comment (text x)

unfoldable pub instruct : String → String → Event Text
instruct x y = instruction (text x) (text y)

unfoldable pub end : Event Text
end = end_element

-- A document: its events without start and end document.
unfoldable pub whole : List (Event Text) → Answer (List (Event Text))
whole l = accepted (start_document ∷ (l ++ end_document ∷ []))
