use Rattle.spec_fields.specs.Field.{octet, number_field}
use Rattle.read_field.proofs.octet.Goals as goal

-- `read_field::octet` meets its contract: an octet is 8 bits.
pub returns : goal.returns
unfolding octet number_field
returns c = c.few_bits.ensures
