-- The words of the language's library that the definitions use.
pub use Rattle.std.specs.Prelude.{ℕ, zero, suc, ◌+◌, ◌*◌, ◌/◌, ◌%◌, ◌^◌, ◌-◌, ◌<◌, ◌≤◌, ◌≡◌, ◌↔◌, Bool, true, false, cond, ◌&&◌, not, ◌||◌, List, [], ◌∷◌, ◌++◌, map, length, take, drop, replicate, get_or, eqb, leb, ltb, T}
pub use Prim.Native.String.{String}
pub use Rattle.std.proofs.Math.Option.{Option, none, some, map as Option·map}
pub use Rattle.std.proofs.Math.ListN.{get_elem?}
