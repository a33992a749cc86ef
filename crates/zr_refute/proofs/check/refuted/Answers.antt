use Rattle.std.proofs.Common.{◌≡◌, [], map}
use Rattle.zr_game.specs.Games.{game_of}
use Rattle.zr_cases.specs.Cases.{rnode_of}
use Rattle.zr_cases.specs.Trees.{preorder}
use Rattle.zr_cases.proofs.Forests.{cases_of}
use Rattle.zr_system.specs.Choices.{HasCompleteSolution}
use Rattle.zr_system.specs.Regions.{leaves_of}
use Rattle.zr_refute.specs.Refuting.{Closes, RefutesUnder, leaf_counts}
use Rattle.zr_refute.specs.Steps.{HasWideCase, IsRefused, IsWideEnd, Passes}
use Rattle.zr_refute.proofs.NoSolutions.{none_complete}
use Rattle.zr_refute.proofs.Outcome.{consequence, outcome}
use Rattle.zr_refute.proofs.PassLaws.{not_both, passing}
use Rattle.zr_refute.proofs.check.refuted.Goals as goal

pub returns-clause-exact : goal.returns-clause-exact
returns-clause-exact c = λ t listed.
    let game = game_of c.args.game.now in
    let leaves = leaves_of c.args.leaves.now in
    let kind = c.args.kind in
    let walked = rw c.deref.ensures.value at c.walk.ensures in
    outcome (λ t. preorder (leaf_counts leaves) t ≡ map rnode_of c.args.proof.now.nodes.items)
    (λ t. Passes game leaves kind [] t) c.walk.result (RefutesUnder game leaves kind [] t
    × (HasWideCase game leaves kind [] t → ⊥))
    (λ fault t. IsRefused game leaves kind 0 [] t fault) t listed walked.ok walked.err
    (λ fault p r. not_both (Closes game leaves) (IsWideEnd game leaves) game leaves kind 0 [] t
    fault p r) (passing (Closes game leaves) (IsWideEnd game leaves) game leaves kind [] t)

pub returns-clause-sound : goal.returns-clause-sound
returns-clause-sound c =
    let game = game_of c.args.game.now in
    let leaves = leaves_of c.args.leaves.now in
    let kind = c.args.kind in
    let walked = rw c.deref.ensures.value at c.walk.ensures in
    let t = cases_of (leaf_counts leaves) (map rnode_of c.args.proof.now.nodes.items)
    c.requires.whole.whole in
    consequence
    (λ t. preorder (leaf_counts leaves) t ≡ map rnode_of c.args.proof.now.nodes.items)
    (λ t. Passes game leaves kind [] t) c.walk.result
    (HasCompleteSolution game leaves kind → ⊥) t.0 t.1 walked.ok
    (λ p. none_complete game leaves kind t.0 ((passing (Closes game leaves)
    (IsWideEnd game leaves) game leaves kind [] t.0).0 p).0)
