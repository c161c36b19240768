-- Output that waits in a buffer.
use Rattle.std.specs.Prelude.{ℕ, ◌+◌, cond, List, ltb, length, set}

-- How many octets may wait.
abbrev pub room : ℕ
room = 65536

-- Where the next octet goes, in a buffer of n: behind those that wait, or to the start once they
-- went out.
abbrev pub place_in : ℕ → ℕ → ℕ
place_in n at = cond (ltb at n) at 0

-- How many octets wait with one more: none in a buffer that holds none.
abbrev pub waiting_after : ℕ → ℕ → ℕ
waiting_after n at = let k = place_in n at in cond (ltb k n) (k + 1) k

-- The buffer with one octet more.
abbrev pub buffer_after : List ℕ → ℕ → ℕ → List ℕ
buffer_after b at x = let k = place_in (length b) at in cond (ltb k (length b)) (set b k x) b
