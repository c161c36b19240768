-- What a name is computed by, opened by one name.
use Rattle.text.specs.Names.{in_range, in_ranges, start_ranges, further_ranges, is_name_start, is_name_char}
use Rattle.text.specs.Names.{all_name_chars, is_ncname}

-- To unfold this is to unfold what its line names.
unfoldable pub name_definitions : Unit {0}
unfolding in_range in_ranges start_ranges further_ranges is_name_start is_name_char all_name_chars is_ncname
name_definitions = tt
