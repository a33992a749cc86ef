use Rattle.std.proofs.Common.{◌≡◌, ◌<◌, ℕ, pos, Some, slice_get, slice_index_or, map}
use Rattle.zr_base.specs.Points.{num_of}
use Rattle.zr_game.specs.declared.leaf.Side.TheVariants.{Undecided}
use Rattle.zr_game.specs.Players.{PairOf, pair_of}
use Rattle.zr_game.specs.Rays.{change_of}
use Rattle.zr_bnb.proofs.split.first_open_pair.Given as goal

abbrev pub invariant-loop-p : goal.invariant-loop-p
invariant-loop-p l =
    (q : ℕ) (x : PairOf) → q < l.p → slice_get (map pair_of l.pairs) q ≡ Some x → slice_index_or l.sides q Undecided ≡ Undecided → (num_of l.point x.var ≡ pos 0) × (change_of l.ray x.var ≡ pos 0)
