-- What writing the header asks and leaves.
use Rattle.std.specs.Prelude.{ℕ, List, [], ◌∷◌, T}
use Rattle.spec_fields.specs.Bits.{unpack}
use Rattle.spec_exi.specs.Settings as format
use Rattle.write_field.specs.Written.{blank_from, Put}

pub record PutHeaderPre (stream : List ℕ) : Type 0 where
  pub blank : T (blank_from stream 0)

abbrev pub CookiePut : List ℕ → List ℕ → ℕ → Type 0
CookiePut stream stream' r = Put stream 0 (unpack (0x24 ∷ 0x45 ∷ 0x58 ∷ 0x49 ∷ [])) stream' r

abbrev pub HeaderPut : format.Settings → List ℕ → List ℕ → ℕ → Type 0
HeaderPut s stream stream' r = Put stream 0 (unpack (format.header_of s)) stream' r
