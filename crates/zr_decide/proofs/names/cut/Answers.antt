use Rattle.std.proofs.Common.{◌+◌, ◌∙◌, ap, sym, subst, List, length, map}
use Rattle.zr_game.specs.Named.{named_of}
use Rattle.zr_game.specs.declared.named.Named.{Named}
use Rattle.zr_decide.specs.Naming.{IsCutNaming}
use Rattle.zr_decide.proofs.Naming.{cut_items}
use Rattle.zr_decide.proofs.names.cut.Goals as goal

pub returns-clause-cut : goal.returns-clause-cut
returns-clause-cut c left game i player nodes e h =
    let t = c.truncate.ensures.items in
    subst (λ (xs : List Named). IsCutNaming left game i player nodes (map named_of xs)) (sym t)
    (cut_items game i player nodes c.args.most left c.args.items.items
    (e ∙ ap (λ (xs : List Named). length xs + left) t) h)
