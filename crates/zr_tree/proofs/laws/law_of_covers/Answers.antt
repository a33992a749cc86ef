use Rattle.zr_tree.proofs.CoverLaws.{cover_holds}
use Rattle.zr_tree.proofs.laws.law_of_covers.Goals as goal

pub returns : goal.returns
returns c game form i player is t cover =
    let g = form.players i player is in
    cover_holds player g.rows g.pairs g.from_zero t cover
