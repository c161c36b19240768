-- Worked examples of the fields (scope, "Fields").
use Rattle.spec_fields.specs as Fields
use Fields.{Prelude.◌≡◌, Prelude.[], Prelude.◌∷◌, Prelude.map, Bits.unpack, Bits.pack, Parser.got}
use Fields.Field.{bit_packed, byte_aligned, number_bits, number_field, width, max_octets, groups}

-- What bits and octets each has.
pub record FieldExamples : Type 0 where
  -- 258 in nine bits, most significant first; byte-aligned in two octets, least significant first;
  -- and no bits for n = 0.
  pub packed : pack (number_bits bit_packed 9 258) ≡ 0x81 ∷ 0x00 ∷ []
  pub aligned : number_bits byte_aligned 9 258 ≡ unpack (0x02 ∷ 0x01 ∷ [])
  pub read : number_field byte_aligned 9 (unpack (0x02 ∷ 0x01 ∷ [])) ≡ got 258 []
  pub nothing : number_bits byte_aligned 0 0 ≡ []
  -- The smallest n with 2 ^ n at least m.
  pub widths : map width (0 ∷ 1 ∷ 2 ∷ 3 ∷ 4 ∷ 5 ∷ 128 ∷ 129 ∷ 256 ∷ 257 ∷ [])
      ≡ 0 ∷ 0 ∷ 1 ∷ 2 ∷ 2 ∷ 3 ∷ 7 ∷ 8 ∷ 8 ∷ 9 ∷ []
  -- Unsigned Integers: 7 bits an octet, the least significant group first.
  pub integers : map (groups max_octets) (0 ∷ 127 ∷ 128 ∷ 300 ∷ 2147483647 ∷ [])
      ≡ (0x00 ∷ []) ∷ (0x7F ∷ []) ∷ (0x80 ∷ 0x01 ∷ []) ∷ (0xAC ∷ 0x02 ∷ [])
      ∷ (0xFF ∷ 0xFF ∷ 0xFF ∷ 0xFF ∷ 0x07 ∷ []) ∷ []
