use Rattle.std.proofs.Common.{arith, ◌≡◌, subst, [], length, map, replicate}
use Rattle.std.specs.Global.{Vec}
use Rattle.std.proofs.lemmas.List.{length-map}
use Rattle.zr_base.specs.declared.row.Cut.{Cut}
use Rattle.zr_game.specs.Games.{game_of}
use Rattle.zr_game.specs.Players.{player_of}
use Rattle.zr_system.specs.declared.leaves.Leaves.{Leaves}
use Rattle.zr_system.specs.Regions.{cut_of}
use Rattle.zr_refute.proofs.Assembled.{are_leaves, same_content}
use Rattle.zr_refute.proofs.over.leaves_over.Goals as goal
use Rattle.zr_refute.proofs.over.leaves_over.Goals.{In-Ok-no_cuts}

none : (c : In-Ok-no_cuts) → map (λ (list : Vec Cut). map cut_of list.items) c.in-Ok-no_cuts.cuts.items ≡ replicate (length (game_of c.args.game.now)) []
none c =
    let l = length-map c.args.game.now.players.items player_of in
    subst (λ n. map (λ (list : Vec Cut). map cut_of list.items) c.in-Ok-no_cuts.cuts.items ≡ replicate n []) (omega (arith, l, c.len.ensures, c.args.game.now.players.ok.0)) c.in-Ok-no_cuts.ensures

pub returns-clause-leaves : goal.returns-clause-leaves
returns-clause-leaves c =
    let made : Leaves = record { regions = c.in_ok-regions.regions; named = c.in-Ok.named; cuts = c.in-Ok-no_cuts.cuts } in
    let r = c.in_ok-regions.ensures in
    are_leaves (game_of c.args.game.now) made c.args.named.now c.in-Ok.ensures (none c) c.requires.named c.requires.few c.requires.items r.count r.few (λ i player is list. r.leaf i player is list)

pub returns-clause-content : goal.returns-clause-content
returns-clause-content c trees e =
    let made : Leaves = record { regions = c.in_ok-regions.regions; named = c.in-Ok.named; cuts = c.in-Ok-no_cuts.cuts } in
    same_content (game_of c.args.game.now) made c.args.named.now c.in-Ok.ensures (none c) trees (c.in_ok-regions.ensures.content trees e)
