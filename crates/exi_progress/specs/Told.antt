-- What is told of a stream that is read in packets.
use Rattle.std.specs.Prelude.{ℕ, ◌+◌, ◌-◌, ◌/◌, ◌%◌, cond, ◌==◌, nat_lt, Option, Some, None}
use Rattle.exi_progress.specs.declared.Told.{Told}

-- Before the first packet.
abbrev pub none_told : Told
none_told = record { packets = 0; events = 0; refused = None; quarters = 0 }

-- Where a packet of n octets ends; an empty one counts as one octet.
abbrev pub end_of : ℕ → ℕ → ℕ → ℕ
end_of at n all = cond (n == 0) (at + 1) (cond (nat_lt (all - at) n) all (at + n))

-- How many quarters of all octets are over.
abbrev pub quarters_of : ℕ → ℕ → ℕ
quarters_of end all = end / (all / 4 + 1)

-- A packet more: read, with so many events complete, or refused.
abbrev pub one_more : Told → ℕ → Option ℕ → ℕ → Told
one_more t k (Some events) quarters =
    record { packets = k; events = events; refused = None; quarters = quarters }
one_more t k None quarters =
    record { packets = k; events = t.events; refused = Some k; quarters = t.quarters }

-- The first where a packet is refused, else the second.
abbrev pub if_refused : Option ℕ → Told → Told → Told
if_refused (Some k) t next = t
if_refused None t next = next

-- The packet that is refused stays; before it, each packet is counted with its reply's events.
abbrev pub told_after : Told → Option ℕ → ℕ → ℕ → Told
told_after t events end all =
    let k = (t.packets + 1) % 18446744073709551616 in
    if_refused t.refused t (one_more t k events (quarters_of end all))
