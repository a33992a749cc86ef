use Rattle.std.proofs.Common.{◌-◌, ◌*◌, ℕ, ap, sym, ◌∙◌}
use Rattle.zr_game.specs.Games.{game_of}
use Rattle.zr_system.specs.Regions.{leaves_of}
use Rattle.zr_refute.proofs.Places.{other_length}
use Rattle.zr_refute.proofs.place.other_count.Goals as goal

pub returns-clause-count : goal.returns-clause-count
returns-clause-count c = λ k h.
    ap (λ (n : ℕ). (n - 1) * c.off_count.result) c.leaf_count.ensures.count
    ∙ sym (other_length (game_of c.args.game.now) (leaves_of c.args.leaves.now) c.args.i k
    c.off_count.result c.off_count.ensures.count h)
