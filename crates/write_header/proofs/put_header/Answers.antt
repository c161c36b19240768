use native.Mathlib.Omega.{arith}
use mathlib.Core.List.{[], ◌∷◌}
use borrow.Author.Rules.{rules}
use Rattle.settings.specs.Meant.{settings_from}
use Rattle.write_header.proofs.Header.{octet-asks, header-plain, header-cookie}
use Rattle.write_header.proofs.put_header.Goals as goal

-- `put_header` meets its contract.
pub put_number-requires : goal.put_number-requires
put_number-requires c =
    octet-asks (0x24 ∷ 0x45 ∷ 0x58 ∷ 0x49 ∷ []) 128 (omega arith) (omega arith)
    c.put_cookie-at.ensures

pub returns-then-o : goal.returns-then-o
unfolding settings_from
returns-then-o c =
    header-cookie (settings_from c.args.o) c.if-o.true c.put_cookie-at.ensures
    c.put_number.ensures

pub returns : goal.returns
unfolding settings_from
returns c =
    header-plain (settings_from c.args.o) c.if-o.false c.put_number-2.ensures
