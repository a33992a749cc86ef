use Rattle.std.proofs.Common.{◌≡◌, ◌++◌, drop, map}
use Rattle.zr_game.specs.Players.{var_of}
use Rattle.zr_asked.specs.Parts.{parts_from, parts_of}
use Rattle.zr_branch.specs.Columns.{part_of}
use Rattle.zr_branch.proofs.part.parts_of.Given as goal

abbrev pub invariant-loop-v : goal.invariant-loop-v
invariant-loop-v l =
    map part_of l.parts.items ++ parts_from l.v (map var_of (drop l.v l.vars))
    ≡ parts_of (map var_of l.vars)
