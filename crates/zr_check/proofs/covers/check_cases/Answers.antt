use Rattle.std.proofs.Common.{arith, ap, length, map, []}
use Rattle.std.proofs.lemmas.List.{length-map}
use Rattle.zr_game.specs.Games.{game_of}
use Rattle.zr_cases.specs.Cases.{rnode_of}
use Rattle.zr_cases.proofs.Forests.{cases_of}
use Rattle.zr_system.specs.Regions.{leaves_of}
use Rattle.zr_refute.specs.Refuting.{Closes, leaf_counts}
use Rattle.zr_refute.specs.Steps.{IsWideEnd}
use Rattle.zr_check.proofs.CaseLines.{case_fault_below}
use Rattle.zr_check.proofs.covers.check_cases.Goals as goal

pub refuted-requires-clause-nodes : goal.refuted-requires-clause-nodes
refuted-requires-clause-nodes c =
    let l = length-map c.args.proof.now.nodes.items rnode_of in
    omega (arith, l, c.requires.choices)

pub at_line-requires : goal.at_line-requires
at_line-requires c =
    let game = game_of c.args.game.now in
    let leaves = leaves_of c.args.room.now.leaves in
    let t = cases_of (leaf_counts leaves) (map rnode_of c.args.proof.now.nodes.items)
    c.requires.whole.whole in
    let w = case_fault_below (Closes game leaves) (IsWideEnd game leaves) game leaves c.args.kind
    0 [] t.0 c.in-Err.fault (c.in-Err.ensures.err t.0 t.1) in
    let l = ap length t.1 in
    omega (arith, w, l, c.requires.lines)

pub returns-in-Ok-clause-ok : goal.returns-in-Ok-clause-ok
returns-in-Ok-clause-ok c =
    let leaves = leaves_of c.args.room.now.leaves in
    let t = cases_of (leaf_counts leaves) (map rnode_of c.args.proof.now.nodes.items)
    c.requires.whole.whole in
    (t.0, t.1, c.in-Ok.ensures.ok t.0 t.1)

pub returns-in-Err-clause-err : goal.returns-in-Err-clause-err
returns-in-Err-clause-err c =
    let leaves = leaves_of c.args.room.now.leaves in
    let t = cases_of (leaf_counts leaves) (map rnode_of c.args.proof.now.nodes.items)
    c.requires.whole.whole in
    (t.0, c.in-Err.fault, t.1, c.in-Err.ensures.err t.0 t.1, c.at_line.ensures)
