-- b is what the level asks for of the coefficients behind those that are left. Assumes nothing.
use Rattle.query_levels.specs.Levels.{level_number}
use Rattle.query_poly.proofs.GeneralLoop.{Looped}
use Rattle.query_poly.proofs.general.Given as goal

abbrev pub invariant-loop-x : goal.invariant-loop-x
invariant-loop-x l = Looped (level_number l.level) l.a l.t l.b l.x-iterator.iter.rest.now
