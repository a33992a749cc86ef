use Rattle.std.proofs.Common.{◌-◌, ◌+◌, ◌<◌, arith, sym, ap, ◌∙◌, List, length, get_or, drop, slice_get, ℕ}
use Rattle.zr_game.specs.Games.{game_of}
use Rattle.zr_game.specs.declared.choice.Choice.TheVariants.{On}
use Rattle.zr_system.specs.declared.line.Line.{Line}
use Rattle.zr_system.specs.Lines.{choice_lines, path_lines}
use Rattle.zr_system.specs.Regions.{leaves_of}
use Rattle.zr_system.proofs.ListPlaces.{get_after, get_left}
use Rattle.zr_refute.proofs.Places.{path_found}
use Rattle.zr_refute.proofs.place.path_line.Goals as goal

pub returns-then-left-count : goal.returns-then-left-count
returns-then-left-count c =
    let game = game_of c.args.game.now in
    let leaves = leaves_of c.args.leaves.now in
    let path = c.args.path.now in
    let k = c.loop-choice.choice-index in
    let left = c.loop-choice.left in
    let front = choice_lines game leaves (get_or path k (On 0 0)) in
    let below : left < length front = omega (arith, c.choice_count-count.ensures, c.if-left-count.true) in
    sym (c.loop-choice.invariant ∙ ap (λ (ls : List Line). slice_get ls left)
    (path_found game leaves path k (On 0 0) c.loop-choice-test.true)
    ∙ get_left front (path_lines game leaves (drop (k + 1) path)) left below
    ∙ sym c.choice_line.ensures)

pub loop-choice-preserved : goal.loop-choice-preserved
loop-choice-preserved c =
    let game = game_of c.args.game.now in
    let leaves = leaves_of c.args.leaves.now in
    let path = c.args.path.now in
    let k = c.loop-choice.choice-index in
    let left = c.loop-choice.left in
    let front = choice_lines game leaves (get_or path k (On 0 0)) in
    let rest = path_lines game leaves (drop (k + 1) path) in
    let n = c.choice_count-count.ensures in
    c.loop-choice.invariant ∙ ap (λ (ls : List Line). slice_get ls left)
    (path_found game leaves path k (On 0 0) c.loop-choice-test.true)
    ∙ get_after front rest left (omega (arith, n, c.if-left-count.false))
    ∙ ap (λ (m : ℕ). slice_get rest (left - m)) (sym n)
