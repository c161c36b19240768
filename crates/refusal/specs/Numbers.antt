-- The number by which a refusal is told (scope, "Refusal numbers"; 02, P12, for those of readings).
use Rattle.std.specs.Prelude.{ℕ}
use Rattle.spec_fields.specs.Refusal.{number_room, number_settings, number_long, number_header}
use Rattle.spec_fields.specs.Refusal.{number_ended, number_code, number_number, number_character}
use Rattle.spec_fields.specs.Refusal.{number_reference, number_loose, number_name, number_limit}
use Rattle.spec_fields.specs.Refusal.{number_tail, number_shape, number_place, number_structure}
use Rattle.spec_fields.specs.Refusal.{number_bad_stamp, number_bad_movement, number_not_later}
use Rattle.refusal.specs.declared.Refusal.{Refusal}
use Rattle.refusal.specs.declared.Refusal.TheVariants.{Room, Settings, Long, Header, Ended, Code}
use Rattle.refusal.specs.declared.Refusal.TheVariants.{Number, Character, Reference, Loose, Name}
use Rattle.refusal.specs.declared.Refusal.TheVariants.{Limit, Tail, Shape, Place, Structure}
use Rattle.refusal.specs.declared.Refusal.TheVariants.{BadStamp, BadMovement, NotLater}

abbrev pub number_in : Refusal → ℕ
number_in Room = number_room
number_in Settings = number_settings
number_in Long = number_long
number_in Header = number_header
number_in Ended = number_ended
number_in Code = number_code
number_in Number = number_number
number_in Character = number_character
number_in Reference = number_reference
number_in Loose = number_loose
number_in Name = number_name
number_in Limit = number_limit
number_in Tail = number_tail
number_in Shape = number_shape
number_in Place = number_place
number_in Structure = number_structure
number_in BadStamp = number_bad_stamp
number_in BadMovement = number_bad_movement
number_in NotLater = number_not_later
