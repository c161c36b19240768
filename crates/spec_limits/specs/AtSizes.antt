-- Worked examples at the scope's own sizes, for the writer: a list that ends early, or LIMIT. (Both
-- sides of each size, for the reader too, are among spec_exi's by small sizes, and the sizes
-- pinned.)
use Rattle.std.specs.Prelude.{◌+◌, ◌∷◌, ◌++◌}
use Rattle.spec_fields.specs.Prelude.{ℕ, zero, suc, List, [], some, replicate}
use Rattle.spec_exi.specs.Examples.{limit, shape, refused, Text, start_element, attribute, Stored}
use Rattle.spec_exi.specs.Examples.{Places.at, Places.in_uri, Places.named, Written.WriteExample}
use Rattle.spec_exi.specs.Examples.{Written.listed}

-- What f gives for i, i + 1, .., n times.
unfoldable pub up_to : {A : Type 0} → (ℕ → List A) → ℕ → ℕ → List A
up_to f zero i = []
up_to f (suc n) i = f i ++ up_to f n (suc i)

-- Start elements, one in the other, whose names, or URIs, are one code point at place i each.
unfoldable pub nested : ℕ → ℕ → List Stored
nested = up_to (λ i. some (start_element (named i 1)) ∷ [])

unfoldable pub in_uris : ℕ → ℕ → List Stored
in_uris = up_to (λ i. some (start_element (in_uri i 1 0 1)) ∷ [])

-- The same with an attribute each.
unfoldable pub with_attribute : ℕ → ℕ → List Stored
with_attribute = up_to (λ i. nested 1 i ++ (some (attribute (named (100 + i) 1) (at 0 0)) ∷ []))

-- A store of different code points.
unfoldable pub a_row : Text
a_row = up_to (λ i. i ∷ []) 200 1000

-- At a size, and one past it. Where the latter stands alone, its index says that all before passed.
unfoldable pub at_sizes : List WriteExample
at_sizes =
    -- 100 and 101 open elements of one name
    listed (replicate 100 (some (start_element (named 0 1)))) a_row (refused shape 101)
    ∷ listed (replicate 101 (some (start_element (named 0 1)))) a_row (refused limit 101)
    -- 64 element grammars, and a 65th
    ∷ listed (nested 65 0) a_row (refused limit 65)
    -- 128 local names, the initial entries among them, and a 129th
    ∷ listed (with_attribute 61 0 ++ nested 1 90) a_row (refused limit 123)
    -- 16 and 17 URIs
    ∷ listed (in_uris 13 0) a_row (refused shape 14)
    ∷ listed (in_uris 14 0) a_row (refused limit 14)
    -- 4,096 code points (4,097 are among spec_exi's)
    ∷ listed (some (start_element (named 0 4096)) ∷ []) (replicate 4096 97) (refused shape 2) ∷ []
