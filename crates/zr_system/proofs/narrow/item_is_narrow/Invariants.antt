use Rattle.std.proofs.Common.{◌≡◌, ℕ, ◌<◌, pos, Err}
use Rattle.zr_base.specs.declared.step.Wide.{Wide}
use Rattle.zr_base.specs.Sums.{sum_steps}
use Rattle.zr_game.specs.Games.{game_of}
use Rattle.zr_game.specs.Named.{named_of}
use Rattle.zr_system.specs.declared.unknown.Unknown.TheVariants.{Share}
use Rattle.zr_system.specs.Regions.{var_count}
use Rattle.zr_system.specs.Values.{along_products}
use Rattle.zr_system.proofs.narrow.item_is_narrow.Given as goal

abbrev pub invariant-loop-j : goal.invariant-loop-j
invariant-loop-j l =
    (j v : ℕ) (w : Wide) → j < l.j → v < var_count (game_of l.game) j
    → sum_steps (pos 0) (along_products (game_of l.game) l.i (named_of l.item) (Share j 0 v)
    (var_count (game_of l.game) l.i)) ≡ Err w → ⊥
