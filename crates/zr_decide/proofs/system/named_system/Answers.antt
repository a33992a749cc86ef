use Rattle.std.proofs.Common.{◌≡◌, ◌^◌, ◌<◌, ◌∙◌, All, List, Some, ap, length, map, slice_get, subst, sym}
use Rattle.std.specs.Global.{Vec}
use Rattle.zr_game.specs.Games.{game_of}
use Rattle.zr_game.specs.declared.named.Named.{Named}
use Rattle.zr_tree.specs.Nodes.{NodeOf}
use Rattle.zr_cert.specs.Certs.{named_list, nodes_of}
use Rattle.zr_refute.specs.Covered.{covered}
use Rattle.zr_system.specs.Regions.{leaves_of}
use Rattle.zr_decide.specs.Naming.{AreNamingsOver}
use Rattle.zr_decide.proofs.Deciding.{is_system}
use Rattle.zr_decide.proofs.Naming.{lists_few, lists_formed}
use Rattle.zr_decide.proofs.system.named_system.Goals as goal

pub leaves_over-requires-clause-few : goal.leaves_over-requires-clause-few
leaves_over-requires-clause-few c =
    subst (All (λ (list : Vec Named). length list.items < 2 ^ 32)) (sym c.deref-2.ensures.value)
    (lists_few (game_of c.args.game.now) (map nodes_of c.args.covers.now) c.in-Ok-names_over.ensures.named.room
    c.in-Ok-names_over.named.items c.in-Ok-names_over.ensures.named.namings)

pub leaves_over-requires-clause-items : goal.leaves_over-requires-clause-items
leaves_over-requires-clause-items c i player is list e =
    lists_formed (game_of c.args.game.now) (map nodes_of c.args.covers.now) c.in-Ok-names_over.ensures.named.room
    c.in-Ok-names_over.named.items c.in-Ok-names_over.ensures.named.namings i player is list
    (subst (λ (xs : List (Vec Named)). slice_get xs i ≡ Some list) c.deref-2.ensures.value e)

pub returns-in-Ok-leaves_over-clause-system : goal.returns-in-Ok-leaves_over-clause-system
returns-in-Ok-leaves_over-clause-system c trees e d =
    is_system (game_of c.args.game.now) trees d (map named_list c.in-Ok-names_over.named.items)
    (leaves_of c.in-Ok-leaves_of.leaves) (c.in-Ok-leaves_of.ensures.content trees e)
    (subst (λ (xs : List (List NodeOf)). AreNamingsOver (game_of c.args.game.now) xs
    (leaves_of c.in-Ok-leaves_of.leaves) (map named_list c.in-Ok-names_over.named.items)) (sym e)
    c.in-Ok-names_over.ensures.named) c.in-Ok-leaves_of.ensures.cells (leaves_of c.in-Ok-leaves_over.leaves)
    (c.in-Ok-leaves_over.ensures.content trees e
    ∙ ap (λ (xs : List (Vec Named)). covered (game_of c.args.game.now) trees (map named_list xs))
    c.deref-2.ensures.value)
