-- By small sizes: both sides of each size, for the reader and the writer, and which test comes
-- first where a size is passed, too.
use Rattle.std.specs.Prelude.{◌+◌, ◌≡◌, ◌∷◌, ◌++◌}
use Rattle.spec_exi.specs.Meaning.{stored_of}
use Rattle.spec_exi.specs.Examples.{ℕ, suc, String, List, [], map, get_or}
use Rattle.spec_exi.specs.Examples.{replicate, Refusal, long, loose, name, limit, Answer}
use Rattle.spec_exi.specs.Examples.{refused, accepted, SettingNumbers, settings_of, Sizes}
use Rattle.spec_exi.specs.Examples.{Reading, read_sized, read, list_of, read_reply, write_list}
use Rattle.spec_exi.specs.Examples.{write_reply, full, in_octets, octets}

-- The sizes in their order; those that are left out are 999.
unfoldable pub sizes_as : List ℕ → Sizes
sizes_as ns =
    record {
      stream = get_or ns 0 999;
      events = get_or ns 1 999;
      opened = get_or ns 2 999;
      uris = get_or ns 3 999;
      names = get_or ns 4 999;
      values = get_or ns 5 999;
      grammars = get_or ns 6 999;
      learned = get_or ns 7 999;
      string = get_or ns 8 999;
      store = get_or ns 9 999;
      work = get_or ns 10 999;
    }

-- The size with this place among them is n, and no other is small.
unfoldable pub only : ℕ → ℕ → Sizes
only j n = sizes_as (replicate j 999 ++ (n ∷ []))

-- A byte-aligned stream, a size by its place among the sizes, the largest number that is too small
-- for this stream, and how it is then refused.
pub record Bound : Type 0 where
  pub size : ℕ
  pub most : ℕ
  pub stream : List ℕ
  pub refusal : Refusal
  pub index : ℕ

-- In this order.
unfoldable pub bound : ℕ → ℕ → String → Refusal → ℕ → Bound
bound j n x k i = record { size = j; most = n; stream = octets x; refusal = k; index = i }

-- The reader refuses each as it says, where that size is that number.
abbrev pub RefusedUnder : List Bound → Type 0
RefusedUnder xs =
    map (λ x. list_of (read_sized (only x.size x.most) full in_octets x.stream)) xs
    ≡ map (λ x. refused x.refusal x.index) xs

-- What the writer makes under these sizes and settings of what was read.
unfoldable pub rewritten : Sizes → SettingNumbers → Answer Reading → Answer (List ℕ)
rewritten z o (refused k i) = refused k i
rewritten z o (accepted x) = write_list z (settings_of o) (map stored_of x.events) x.store

-- Both accept the stream under these sizes: the sum of the replies' numbers is 0.
unfoldable pub sum_under : Sizes → List ℕ → ℕ
sum_under z stream =
    (read_reply (read_sized z full in_octets stream)).number
    + (write_reply (rewritten z in_octets (read full in_octets stream))).number

-- Reader and writer refuse alike at that number, and take the stream at one more.
pub record Bounded (xs : List Bound) : Type 0 where
  pub reader : RefusedUnder xs
  pub writer : map
      (λ x. rewritten (only x.size x.most) in_octets (read full in_octets x.stream)) xs
      ≡ map (λ x. refused x.refusal x.index) xs
  pub above : map (λ x. sum_under (only x.size (suc x.most)) x.stream) xs ≡ map (λ x. 0) xs

-- At least one stream for each of the ten.
unfoldable pub bounds : List Bound
bounds =
    -- octets of the stream, and events: K1
    bound 0 4 "80 01 02 61 00" long 0
    ∷ bound 1 3 "80 01 02 61 00" limit 3
    -- open elements: K6, and K7, in which two of three are open at once
    ∷ bound 2 1 "80 01 02 61 02 01 00 01 00 00" limit 2
    ∷ bound 2 1 "80 01 02 72 02 01 02 70 01 01 02 74 03 31 01 00 01 00 01 00 01 01 00 00 01" limit 2
    -- URIs and local names, with the initial entries: <u:a/>, K1
    ∷ bound 3 3 "80 00 01 75 02 61 00" limit 1
    ∷ bound 4 6 "80 01 02 61 00" limit 1
    -- values: K3, and K7, which has one value twice
    ∷ bound 5 0 "80 01 02 61 03 03 62 00" limit 2
    ∷ bound 5 0 "80 01 02 72 02 01 02 70 01 01 02 74 03 31 01 00 01 00 01 00 01 01 00 00 01" limit 3
    -- element grammars: <a><b/></a> and <a><u:a/></a> have two, K6 has one
    ∷ bound 6 1 "80 01 02 61 02 01 02 62 00 00" limit 2
    ∷ bound 6 1 "80 01 02 61 02 00 01 75 02 61 00 00" limit 2
    ∷ bound 6 0 "80 01 02 61 02 01 00 01 00 00" limit 1
    -- learned productions: K1, the end of its start tag
    ∷ bound 7 0 "80 01 02 61 00" limit 2
    -- code points of a string: K1; of the store, which begins with 99: K1, and K6, whose second
    -- name is a hit
    ∷ bound 8 0 "80 01 02 61 00" limit 1
    ∷ bound 9 99 "80 01 02 61 00" limit 1
    ∷ bound 9 99 "80 01 02 61 02 01 00 01 00 00" limit 1 ∷ []

-- Where a size is passed and another test fails, too, the first is answered (scope, "Refusal
-- numbers", "Order").
unfoldable pub bounds_in_order : List Bound
bounds_in_order =
    -- LONG, before HEADER
    bound 0 1 "A0 00" long 0
    -- the event limit, before the code: not ENDED
    ∷ bound 1 2 "80 01 02 61" limit 2
    -- LOOSE for the production, before open elements, but after the limit of a value's table
    ∷ bound 2 2 "80 01 02 61 02 01 00 01 02 01 00" loose 3
    ∷ bound 5 2 "80 01 02 61 03 03 78 01 01 03 79 02 01 03 7A" limit 4
    -- SHAPE for <a k="x" k="y" (P3), after the limits of the value: length, store, its table
    ∷ bound 8 1 "80 01 02 61 01 01 02 6B 03 78 00 04 79 79" limit 3
    ∷ bound 9 102 "80 01 02 61 01 01 02 6B 03 78 00 03 79" limit 3
    ∷ bound 5 1 "80 01 02 61 01 01 02 6B 03 78 00 03 79" limit 3
    -- the limit of the URIs, before the local name: not ENDED
    ∷ bound 3 3 "80 00 01 75" limit 1
    -- NAME, before the limit of its table
    ∷ bound 4 6 "80 01 01" name 1
    -- LOOSE, before the limit of its table
    ∷ bound 4 7 "80 01 02 61 01 03 05 74 79 70 65" loose 2
    -- the store limit, before the characters, and so before LOOSE
    ∷ bound 9 99 "80 01 02 00" limit 1
    ∷ bound 9 100 "80 01 02 61 01 03 05 74 79 70 65" limit 2 ∷ []
