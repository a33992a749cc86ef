use Rattle.std.proofs.Common.{◌≡◌, subst, ℕ}
use Rattle.zr_game.specs.Players.{player_of}
use Rattle.zr_game.specs.Leaves.{slot_of}
use Rattle.zr_tree.specs.SlotRows.{rows_at, slot_bound}
use Rattle.zr_tree.specs.CoverSteps.{bound_holds_of}
use Rattle.zr_tree.proofs.KnownRows.{some_met}
use Rattle.zr_tree.proofs.known.meets_slot.Goals as goal

pub returns-in-Some : goal.returns-in-Some
returns-in-Some c =
    let row = c.in-Some.ensures in
    some_met (player_of c.args.player.now) c.args.point.now (slot_bound c.in-Some.row)
    (slot_of (rows_at c.args.player.now c.args.leaf.now) c.args.slot) c.meets_row.result row.row
    (subst (λ (n : ℕ). c.meets_row.result ≡ bound_holds_of n c.args.point.now (slot_bound c.in-Some.row)) c.requires.len c.meets_row.ensures)
