-- The strings of an event whose name is read.
use Rattle.std.specs.Prelude.{Result, Ok, Err}
use Rattle.refusal.specs.Numbers.{number_in}
use Rattle.read_literal.specs.declared.Stopped.{Stopped}
use Rattle.read_partition.specs.declared.StringRead as code
use Rattle.read_partition.specs.View.{read_as}
use Rattle.read_qname.specs.View.{Named, stopped_as}
use Rattle.read_qname.specs.Qnames.{pair_as}
use Rattle.mem_state.specs.declared.Strings.{Strings}
use Rattle.mem_state.specs.Joining.{no_joining, as_strings, valued_strings}
use Rattle.read_partition.specs.View.{StringRead}
use Rattle.read_qname.specs.Qnames.{joining_of}

-- A URI and a local name.
abbrev pub element_strings : StringRead → StringRead → Strings
element_strings u l =
    as_strings (joining_of u) (joining_of l) no_joining u.row l.row l.row

-- With a value of that name.
abbrev pub attribute_strings : StringRead → StringRead → StringRead → Strings
attribute_strings u l x = valued_strings (element_strings u l) l.row (joining_of x)

-- Both strings of a name, or the refusal of one.
abbrev pub name_in : Result (code.StringRead × code.StringRead) Stopped → Named
name_in (Ok r) = pair_as (read_as r.0) (read_as r.1)
name_in (Err x) = stopped_as (number_in x.refusal) x.next x.left x.stored
