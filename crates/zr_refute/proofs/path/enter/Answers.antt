use Rattle.zr_refute.proofs.PathMoves.{entered_first}
use Rattle.zr_refute.proofs.path.enter.Goals as goal

pub returns : goal.returns
returns c = λ game leaves path exists.
    entered_first game leaves c.args.path.now.choices c.args.path.now.depth c.args.choice c.requires
    path exists
