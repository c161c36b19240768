use native.Mathlib.Omega.{arith}
use mathlib.Core.List.{[], ◌∷◌}
use borrow.Author.Rules.{rules}
use Rattle.write_header.proofs.Header.{octet-first, octet-next, octet-asks}
use Rattle.write_header.proofs.put_cookie.Goals as goal

-- `put_cookie` meets its contract.
pub put_number-second-requires : goal.put_number-second-requires
put_number-second-requires c =
    octet-asks (36 ∷ []) 69 (omega arith) (omega arith)
    (octet-first 36 (omega arith) c.put_number-first.ensures)

pub put_number-third-requires : goal.put_number-third-requires
put_number-third-requires c =
    octet-asks (36 ∷ 69 ∷ []) 88 (omega arith) (omega arith)
    (octet-next (36 ∷ []) 69 (omega arith)
    (octet-first 36 (omega arith) c.put_number-first.ensures)
    c.put_number-second.ensures)

pub put_number-requires : goal.put_number-requires
put_number-requires c =
    octet-asks (36 ∷ 69 ∷ 88 ∷ []) 73 (omega arith) (omega arith)
    (octet-next (36 ∷ 69 ∷ []) 88 (omega arith)
    (octet-next (36 ∷ []) 69 (omega arith) (octet-first 36 (omega arith) c.put_number-first.ensures)
    c.put_number-second.ensures) c.put_number-third.ensures)

pub returns : goal.returns
returns c =
    octet-next (36 ∷ 69 ∷ 88 ∷ []) 73 (omega arith)
    (octet-next (36 ∷ 69 ∷ []) 88 (omega arith)
    (octet-next (36 ∷ []) 69 (omega arith) (octet-first 36 (omega arith) c.put_number-first.ensures)
    c.put_number-second.ensures) c.put_number-third.ensures)
    c.put_number.ensures
