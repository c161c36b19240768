-- Lists that are lent to the writer, and what it answers.
use Rattle.std.specs.Prelude.{◌≡◌, ◌∷◌}
use Rattle.spec_exi.specs.Examples
use Examples.{ℕ, List, [], map, none, some, replicate, settings, character, name, limit}
use Examples.{shape, place, Answer, refused, accepted, Text, text, start_document, end_document}
use Examples.{end_element, start_element, attribute, characters, instruction, SettingNumbers}
use Examples.{settings_of, Sizes, Stored, write_list, write, WriteReply, write_reply, full_to_write}
use Examples.{numbers, in_octets, octets, Places.at, Places.in_uri, Places.named, Bounds.only}

-- A list under these settings, and the answer for it.
pub record WriteExample : Type 0 where
  pub numbers : SettingNumbers
  pub events : List Stored
  pub store : Text
  pub answer : Answer (List ℕ)

-- The writer's answer.
unfoldable pub written_for : WriteExample → Answer (List ℕ)
written_for x = write full_to_write x.numbers x.events x.store

-- The writer answers for each as it says.
pub record Written (xs : List WriteExample) : Type 0 where
  pub answers : map written_for xs ≡ map (λ x. x.answer) xs

-- Its replies are these numbers.
pub record WriteReplied (xs : List WriteExample) (ys : List WriteReply) : Type 0 where
  pub replies : map (λ x. write_reply (written_for x)) xs ≡ ys

-- Number, index, octets.
unfoldable pub wrote : ℕ → ℕ → ℕ → WriteReply
wrote n i k = record { number = n; index = i; octets = k }

-- Events after a start document, under these settings; byte-aligned.
unfoldable pub listed_in : SettingNumbers → List Stored → Text → Answer (List ℕ) → WriteExample
listed_in o xs store a =
    record { numbers = o; events = some start_document ∷ xs; store = store; answer = a }

unfoldable pub listed : List Stored → Text → Answer (List ℕ) → WriteExample
listed = listed_in in_octets

-- Each of the writer's refusals, and where two tests fail the first.
unfoldable pub writes : List WriteExample
writes =
    -- K1
    listed (some (start_element (named 0 1)) ∷ some end_element ∷ some end_document ∷ []) (text "a")
    (accepted (octets "80 01 02 61 00"))
    -- A settings' number without meaning, and a list without events: SETTINGS.
    ∷ record { numbers = numbers (2 ∷ []); events = []; store = []; answer = refused settings 0 }
    -- A list that ends early: SHAPE at its length.
    ∷ listed [] [] (refused shape 1)
    -- A stored event that is SHAPE by itself.
    ∷ listed (none ∷ []) [] (refused shape 1)
    -- Characters outside an element, and outside the store: SHAPE.
    ∷ listed (some (characters (at 9 9)) ∷ []) [] (refused shape 1)
    -- A local name outside the store, which looked up is empty: PLACE. An empty one outside, too.
    ∷ listed (some (start_element (named 9 9)) ∷ []) [] (refused place 1)
    ∷ listed (some (start_element (named 9 0)) ∷ []) [] (refused place 1)
    -- A URI that is no Char, and a local name outside the store; an empty name, and a value
    -- outside: PLACE for all strings of the event comes first.
    ∷ listed (some (start_element (in_uri 0 1 9 9)) ∷ []) (0 ∷ []) (refused place 1)
    ∷ listed (some (start_element (named 0 1)) ∷ some (attribute (named 0 0) (at 9 9)) ∷ [])
    (text "a") (refused place 2)
    -- An empty one inside: NAME. An empty target, too.
    ∷ listed (some (start_element (named 0 0)) ∷ []) [] (refused name 1)
    ∷ listed_in (numbers (1 ∷ 0 ∷ 0 ∷ 1 ∷ [])) (some (instruction (at 0 0) (at 0 0)) ∷ []) []
    (refused name 1)
    -- 4,097 code points that are no Chars: LIMIT. One: CHARACTER.
    ∷ listed (some (start_element (named 0 4097)) ∷ []) (replicate 4097 0) (refused limit 1)
    ∷ listed (some (start_element (named 0 1)) ∷ []) (0 ∷ []) (refused character 1) ∷ []

-- The replies to these.
unfoldable pub write_replies : List WriteReply
write_replies =
    wrote 0 0 5 ∷ wrote 2 0 0 ∷ wrote 14 1 0 ∷ wrote 14 1 0 ∷ wrote 14 1 0 ∷ wrote 15 1 0
    ∷ wrote 15 1 0 ∷ wrote 15 1 0 ∷ wrote 15 2 0 ∷ wrote 11 1 0 ∷ wrote 11 1 0 ∷ wrote 12 1 0
    ∷ wrote 8 1 0 ∷ []

-- ---- by small sizes: where a size is passed and another test fails, too, the first is answered

-- A list under these sizes, and the answer for each.
pub record WrittenUnder (xs : List (Sizes × WriteExample)) : Type 0 where
  pub answers : map
      (λ x. write_list x.0 (settings_of x.1.numbers) x.1.events x.1.store) xs
      ≡ map (λ x. x.1.answer) xs

-- <a k="x" and a second k, with a new value of so many code points that is LIMIT.
unfoldable pub second_value : ℕ → WriteExample
second_value n =
    listed (some (start_element (named 0 1)) ∷ some (attribute (named 1 1) (at 2 1))
    ∷ some (attribute (named 1 1) (at 3 n)) ∷ []) (text "akxyy") (refused limit 3)

-- The scope's order ("Refusal numbers").
unfoldable pub writes_in_order : List (Sizes × WriteExample)
writes_in_order =
    -- the event limit, before SHAPE
    (only 1 2, listed (some (start_element (named 0 1)) ∷ none ∷ []) (text "a") (refused limit 2))
    -- the store limit, before the characters
    ∷ (only 9 99, listed (some (start_element (named 0 1)) ∷ []) (0 ∷ []) (refused limit 1))
    -- NAME, before the limit of its table, and before that of open elements
    ∷ (only 4 6, listed (some (start_element (named 0 0)) ∷ []) [] (refused name 1))
    ∷ (only 2 0, listed (some (start_element (named 0 0)) ∷ []) [] (refused name 1))
    -- the limit of the URIs, before the local name's characters
    ∷ (only 3 3, listed (some (start_element (in_uri 0 1 1 1)) ∷ []) (117 ∷ 0 ∷ []) (refused limit 1))
    -- the limits of a value (its table, its length, the store), before SHAPE for a second attribute
    -- of one name (P3)
    ∷ (only 5 1, second_value 1)
    ∷ (only 8 1, second_value 2)
    ∷ (only 9 102, second_value 1) ∷ []
