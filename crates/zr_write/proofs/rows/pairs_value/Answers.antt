use Rattle.std.proofs.Common.{map}
use Rattle.zr_game.specs.Players.{var_of}
use Rattle.zr_source.specs.Names.{var_name}
use Rattle.zr_game.specs.Players.{pair_of}
use Rattle.zr_write.specs.Canonical.{pair_data}
use Rattle.zr_write.proofs.Grown.{whole_by}
use Rattle.zr_write.proofs.rows.pairs_value.Goals as goal

pub returns : goal.returns
returns c = whole_by (pair_data (map var_name (map var_of c.args.vars.now))) pair_of c.args.pairs.now c.loop-pair.pair-index c.loop-pair.items c.loop-pair-test.false c.loop-pair.invariant
