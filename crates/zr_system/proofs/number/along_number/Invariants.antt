use Rattle.std.proofs.Common.{◌≡◌, pos, Ok}
use Rattle.zr_base.specs.Steps.{IsNarrow}
use Rattle.zr_base.specs.Sums.{sum_steps}
use Rattle.zr_game.specs.Games.{game_of}
use Rattle.zr_game.specs.Named.{named_of}
use Rattle.zr_system.specs.Values.{along_products}
use Rattle.zr_system.proofs.number.along_number.Given as goal

abbrev pub invariant-loop-v : goal.invariant-loop-v
invariant-loop-v l = record {
  sum : sum_steps (pos 0) (along_products (game_of l.game) l.i (named_of l.item) l.u l.v) ≡ Ok
      l.sum;
  narrow : IsNarrow l.sum;
}
