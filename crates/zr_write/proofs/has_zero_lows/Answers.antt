use Rattle.std.proofs.Common.{ap, map, ◌∙◌}
use Rattle.std.specs.List.{list_all}
use Rattle.zr_game.specs.Players.{VarOf, var_of}
use Rattle.zr_write.specs.Written.{is_zero}
use Rattle.zr_write.proofs.Grown.{all_fused}
use Rattle.zr_write.proofs.has_zero_lows.Goals as goal

pub returns : goal.returns
returns c =
    c.are_from_zero.ensures ∙ all_fused (λ (var : VarOf). is_zero var.low) var_of c.deref.result.now
    ∙ ap (λ vars. list_all (λ (var : VarOf). is_zero var.low) (map var_of vars)) c.deref.ensures.value
