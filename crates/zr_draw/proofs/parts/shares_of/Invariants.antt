use Rattle.std.proofs.Common.{◌≡◌}
use Rattle.std.specs.List.{All}
use Rattle.zr_base.specs.Steps.{IsNarrow}
use Rattle.zr_game.specs.Games.{game_of}
use Rattle.zr_system.specs.Asked.{firsts}
use Rattle.zr_system.specs.Regions.{leaves_of}
use Rattle.zr_system.specs.declared.unknown.Unknown.TheVariants.{Share}
use Rattle.zr_draw.specs.Numbers.{numbers_of}
use Rattle.zr_draw.proofs.parts.shares_of.Given as goal

abbrev pub invariant-loop-v : goal.invariant-loop-v
invariant-loop-v l = record {
  values : l.shares.items ≡ firsts l.v
      (λ v. numbers_of (game_of l.game) (leaves_of l.leaves) l.x (Share l.i l.k v));
  narrow : All IsNarrow l.shares.items;
}
