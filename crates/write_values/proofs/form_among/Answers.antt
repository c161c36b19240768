use borrow.Author.Rules.{rules}
use Rattle.write_values.proofs.Values.{form-asks, form-given}
use Rattle.write_values.proofs.form_among.Goals as goal

-- `form_among` meets its contract.
pub form_of-requires : goal.form_of-requires
form_of-requires c =
    form-asks c.requires c.replaced-low.ensures
    c.newest_numbers-newer.ensures

pub returns : goal.returns
returns c =
    form-given c.replaced-low.ensures c.newest_numbers-newer.ensures
    c.form_of.ensures
