use Rattle.mem_names.proofs.Uris.{Looking}
use Rattle.mem_names.specs.Uris.{uri_store}
use Rattle.mem_names.proofs.find_uri.Given as goal

abbrev pub invariant-loop-i : goal.invariant-loop-i
invariant-loop-i l = Looking l.work (uri_store l.opening l.store) l.x l.n l.i
