-- The worked examples of the fields hold, by computation.
use mathlib.Core.Path.{refl}
use Rattle.spec_fields.specs.Bits.{bits_of, value_of, each, unpack, octets_from, octets_for, pack}
use Rattle.spec_fields.specs.Parser.{return, and_then, ◌>>=◌, times}
use Rattle.spec_fields.specs.Field.{bit, octet, little_endian, little_value, number_bits}
use Rattle.spec_fields.specs.Field.{number_field, width_from, width, max_octets, groups}
use Rattle.spec_fields.specs.Examples.{FieldExamples}

-- They hold, by computation.
pub field-examples : FieldExamples
unfolding bits_of value_of each unpack octets_from octets_for pack return and_then ◌>>=◌ times bit octet
    little_endian little_value number_bits number_field width_from width max_octets groups
field-examples =
    record {
      packed = refl;
      aligned = refl;
      read = refl;
      nothing = refl;
      widths = refl;
      integers = refl;
    }
