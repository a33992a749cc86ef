use Rattle.std.proofs.Common.{refl}
use Rattle.zr_game.specs.Games.{game_of}
use Rattle.zr_system.specs.Regions.{leaves_of}
use Rattle.zr_comp.proofs.Paths.{open_leaf}
use Rattle.zr_comp.proofs.first.leaf_case.Goals as goal

pub returns-clause-some : goal.returns-clause-some
returns-clause-some c = (
  refl,
  open_leaf (game_of c.args.game.now) (leaves_of c.args.leaves.now) c.args.path.now c.args.i
      c.args.k c.requires.path c.requires.leaf
      (λ off. let t = c.has.ensures.1 off in let f = c.if-has.false in absurd cc)
      (λ on. let t = c.has-2.ensures.1 on in let f = c.if-has-2.false in absurd cc),
)
