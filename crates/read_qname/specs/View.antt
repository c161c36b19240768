-- What reading a qualified name answers, as the contracts speak of it.
use Rattle.std.specs.Prelude.{ℕ, Result, Ok, Err, is_some}
use Rattle.refusal.specs.Numbers.{number_in}
use Rattle.event.specs.declared.Part.{Part}
use Rattle.mem_state.specs.declared.Strings.{Strings}
use Rattle.mem_state.specs.Joining.{joining, no_joining, as_strings, no_strings}
use Rattle.read_literal.specs.declared.Stopped.{Stopped}
use Rattle.read_partition.specs.declared.StringRead as string
use Rattle.read_partition.specs.View.{hash_in}
use Rattle.read_qname.specs.declared.Named as code

-- The number of a refusal or 0; the position after the name or where it stopped, and how many code
-- points of a literal are left there; the code points in the store; where both strings lie; and
-- what is to join.
pub record Named : Type 0 where
  pub number : ℕ
  pub next : ℕ
  pub left : ℕ
  pub stored : ℕ
  pub uri : Part
  pub local : Part
  pub strings : Strings

abbrev pub no_part : Part
no_part = record { place = 0; size = 0 }

abbrev pub stopped_as : ℕ → ℕ → ℕ → ℕ → Named
stopped_as number next left stored =
    record {
      number = number;
      next = next;
      left = left;
      stored = stored;
      uri = no_part;
      local = no_part;
      strings = no_strings;
    }

abbrev pub named_in : Result code.Named Stopped → Named
named_in (Ok n) =
    record {
      number = 0;
      next = n.next;
      left = 0;
      stored = n.stored;
      uri = n.uri;
      local = n.local;
      strings = n.strings;
    }
named_in (Err x) = stopped_as (number_in x.refusal) x.next x.left x.stored

-- Both strings, read one after the other, as the code has them.
abbrev pub pair_of : string.StringRead → string.StringRead → code.Named
pair_of u l =
    record {
      next = l.next;
      stored = l.stored;
      uri = record { place = u.place; size = u.size };
      local = record { place = l.place; size = l.size };
      strings =
          as_strings (joining (is_some u.joins) u.place u.size (hash_in u.joins))
          (joining (is_some l.joins) l.place l.size (hash_in l.joins)) no_joining u.row l.row l.row;
    }
