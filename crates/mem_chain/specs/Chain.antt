-- Chains of rows. A row is known by its insertion number; it lies at that number modulo the ring,
-- until a later row takes its place.
use Rattle.std.specs.Prelude.{ℕ, zero, suc, ◌+◌, ◌-◌, ◌%◌, ◌≤◌, ◌<◌, ◌≡◌, Bool, true, cond, List, length, get_or, set, eqb, ltb, Option, None, Some}

-- A row counted from 1, or 0 for none: a link, as it stands in a cell.
abbrev pub link_of : Option ℕ → ℕ
link_of None = 0
link_of (Some row) = suc row

-- The newest row below n that passes the test, counted from 1, or 0.
unfoldable pub last_that : (ℕ → Bool) → ℕ → ℕ
last_that test zero = 0
last_that test (suc n) = cond (test n) (suc n) (last_that test n)

-- The first row below n that passes the test, counted from 1, or 0.
unfoldable pub first_that : (ℕ → Bool) → ℕ → ℕ
first_that test zero = 0
first_that test (suc n) =
    let before = first_that test n in cond (eqb before 0) (cond (test n) (suc n) 0) before

-- The newest row, where none below low counts.
unfoldable pub since : ℕ → ℕ → ℕ
since low c = cond (ltb low c) c 0

-- A link, or none where it does not fall below the top.
unfoldable pub below : ℕ → ℕ → ℕ
below top c = cond (ltb c top) c 0

-- The walk along a chain from c down, in at most so many turns: the first row from low on whose
-- place in the ring has what is sought, or 0 where none has it or a
-- link does not fall.
unfoldable pub walked : List ℕ → ℕ → ℕ → ℕ → (ℕ → Bool) → ℕ → ℕ → ℕ
walked work nexts ring low has zero c = 0
walked work nexts ring low has (suc turns) c =
    let on =
    walked work nexts ring low has turns (below c (get_or work (nexts + (c - 1) % ring) 0)) in
    cond (ltb low c) (cond (has ((c - 1) % ring)) c on) 0

-- From the head of a chain of n rows.
unfoldable pub walked_from : List ℕ → ℕ → ℕ → ℕ → ℕ → ℕ → (ℕ → Bool) → ℕ
walked_from work head nexts ring n low has =
    walked work nexts ring low has n (below (n + 1) (get_or work head 0))

-- The rows that pass the test are one chain: the head is the newest, and the link of each that is
-- in the ring the newest one before it. Where there is none, head and link are anything.
pub record Threaded (work : List ℕ) (head nexts ring n : ℕ) (test : ℕ → Bool) : Type 0 where
  pub first : 0 < last_that test n → get_or work head 0 ≡ last_that test n
  pub next : (i : ℕ) → i < n → n ≤ i + ring → test i ≡ true → 0 < last_that test i
      → get_or work (nexts + i % ring) 0 ≡ last_that test i

abbrev pub in_bucket : (ℕ → ℕ) → ℕ → ℕ → Bool
in_bucket bucket b i = eqb (bucket i) b

-- Each bucket is a chain.
pub record Chained (work : List ℕ) (heads size nexts ring : ℕ) (bucket : ℕ → ℕ) (n : ℕ) : Type 0
  where
    pub thread : (b : ℕ) → b < size → Threaded work (heads + b) nexts ring n (in_bucket bucket b)

-- Work memory with row n at the head of a chain.
unfoldable pub linked : List ℕ → ℕ → ℕ → ℕ → ℕ → List ℕ
linked work head nexts ring n = set (set work (nexts + n % ring) (get_or work head 0)) head (n + 1)

-- ---- what the functions ask, and what they answer

-- No count of rows and no place in a store is above this: what is added to one stays a number of 32
-- bits.
abbrev pub max_count : ℕ
max_count = 65536

pub record NewestPre (work : List ℕ) (head codes nexts ring n : ℕ) : Type 0 where
  pub some : 0 < ring
  pub head_room : head < length work
  pub code_room : codes + ring ≤ length work
  pub next_room : nexts + ring ≤ length work
  pub few : n < max_count

-- A chain that a row joins, or that is walked.
pub record LinkPre (work : List ℕ) (head nexts ring n : ℕ) : Type 0 where
  pub some : 0 < ring
  pub head_room : head < length work
  pub next_room : nexts + ring ≤ length work
  pub few : n < max_count

-- The cells from codes on have the codes of the rows in the ring, and the chain from the head has
-- every row of this code.
pub record CodeChain (work : List ℕ) (head codes nexts ring n code : ℕ) (code_of : ℕ → ℕ) : Type 0
  where
    pub test : ℕ → Bool
    pub threaded : Threaded work head nexts ring n test
    pub all : (i : ℕ) → i < n → code_of i ≡ code → test i ≡ true
    pub cells : (i : ℕ) → i < n → n ≤ i + ring → get_or work (codes + i % ring) 0 ≡ code_of i

-- A place in the ring has the code.
abbrev pub row_has_code : List ℕ → ℕ → ℕ → ℕ → Bool
row_has_code work codes code row = eqb (get_or work (codes + row) 0) code

abbrev pub has_code : (ℕ → ℕ) → ℕ → ℕ → Bool
has_code code_of code i = eqb (code_of i) code

-- On any memory the answer is that of the walk, none, or above low and at most n; where the chain
-- stands, it is the newest row of the code from low on.
pub record Newest (work : List ℕ) (head codes nexts ring n low code r : ℕ) : Type 0 where
  pub is : r ≡ walked_from work head nexts ring n low (row_has_code work codes code)
  pub within : r ≤ n
  pub above : 0 < r → low < r
  pub newest : (code_of : ℕ → ℕ) → CodeChain work head codes nexts ring n code code_of
      → n ≤ low + ring → r ≡ since low (last_that (has_code code_of code) n)
