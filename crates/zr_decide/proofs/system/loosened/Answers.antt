use Rattle.std.proofs.Common.{arith, ◌∙◌, IfOk, List, ap, length, map, set, subst, sym}
use Rattle.std.specs.Global.{Vec}
use Rattle.std.proofs.lemmas.List.{length-map, length-set}
use Rattle.zr_game.specs.Games.{game_of}
use Rattle.zr_game.specs.Players.{player_of}
use Rattle.zr_game.specs.declared.named.Named.{Named}
use Rattle.zr_tree.specs.Nodes.{NodeOf}
use Rattle.zr_tree.specs.Trees.{Loose, preorder}
use Rattle.zr_tree.specs.declared.tree.Tree.{Tree}
use Rattle.zr_cert.specs.Certs.{named_list, nodes_of}
use Rattle.zr_refute.specs.Covered.{covered}
use Rattle.zr_system.specs.Regions.{leaves_of}
use Rattle.zr_decide.specs.Naming.{AreNamingsOver}
use Rattle.zr_decide.proofs.Deciding.{named_if}
use Rattle.zr_decide.proofs.Loosening.{set_listed}
use Rattle.zr_decide.proofs.Refuting.{same_leaves}
use Rattle.zr_decide.proofs.system.loosened.Goals as goal

pub returns-in-Ok-leaves_over-clause-named : goal.returns-in-Ok-leaves_over-clause-named
returns-in-Ok-leaves_over-clause-named c trees e =
    let m = length-map c.args.game.now.players.items player_of in
    named_if (game_of c.args.game.now) (set trees c.args.i Loose)
    (length-set trees c.args.i Loose ∙ sym (length-map trees preorder)
    ∙ ap (λ (xs : List (List NodeOf)). length xs) e ∙ length-map c.args.covers.items nodes_of
    ∙ c.requires.covers)
    (leaves_of c.in-Ok-leaves_over.leaves)
    (same_leaves (game_of c.args.game.now) (set trees c.args.i Loose) c.in-Ok-no_names.none.items
    (omega (arith, c.in-Ok-no_names.ensures.len, c.len.ensures, c.args.game.now.players.ok.0, m))
    c.in-Ok-no_names.ensures.empty (leaves_of c.in-Ok-leaves_over.leaves)
    (c.in-Ok-leaves_over.ensures.content (set trees c.args.i Loose)
    (set_listed trees c.args.covers.items c.args.i c.in-Ok.tree e c.in-Ok.ensures
    ∙ ap (λ (xs : List Tree). map nodes_of xs) (sym c.put_tree.ensures)
    ∙ ap (λ (xs : List Tree). map nodes_of xs) (sym c.deref.ensures.value))
    ∙ ap (λ (xs : List (Vec Named)). covered (game_of c.args.game.now) (set trees c.args.i Loose) (map named_list xs))
    c.deref-2.ensures.value))
    c.names_over.result
    (subst (λ (ns : List (List NodeOf)). IfOk c.names_over.result
    (λ lists. AreNamingsOver (game_of c.args.game.now) ns (leaves_of c.in-Ok-leaves_over.leaves)
    (map named_list lists.items)))
    (sym (set_listed trees c.args.covers.items c.args.i c.in-Ok.tree e c.in-Ok.ensures
    ∙ ap (λ (xs : List Tree). map nodes_of xs) (sym c.put_tree.ensures)
    ∙ ap (λ (xs : List Tree). map nodes_of xs) (sym c.deref-in-Ok-leaves_over.ensures.value)))
    c.names_over.ensures.named)
