use Rattle.std.proofs.Common.{◌≡◌, subst}
use Rattle.std.specs.Prelude.{IfOk}
use Rattle.zr_source.specs.Sources.{SourceOf, leaders_of}
use Rattle.zr_gen.proofs.FollowingForms.{same_leaders}
use Rattle.zr_gen.proofs.following.drawn_leaders.Goals as goal

pub returns : goal.returns
returns c =
    let d = c.in_ok-drawn.drawn in
    let is = c.in_ok-drawn.ensures in
    subst (λ (game : SourceOf). IfOk c.all_leaders.result (λ list. leaders_of list.items ≡ game))
    (same_leaders d.players c.args.players d.draws.number c.args.number is.players is.number)
    c.all_leaders.ensures
