use Rattle.std.proofs.Common.{◌≡◌, ◌∙◌, sym, ap, subst, length, All}
use Rattle.std.proofs.lemmas.List.{length-map}
use Rattle.zr_base.specs.Tests.{Tells}
use Rattle.zr_game.specs.Players.{PlayerOf, player_of, var_of}
use Rattle.zr_game.specs.Forms.{IsPairForm, IsPlayer, IsPlayerForm, IsRowForm}
use Rattle.zr_game.specs.Games.{game_of}
use Rattle.zr_game.specs.Feasible.{IsFeasible}
use Rattle.zr_game.specs.FeasibleSteps.{feasible_wide}
use Rattle.zr_game.proofs.Items.{found, one, read_below}
use Rattle.zr_game.proofs.substitution.feasible.Goals as goal
use Rattle.zr_game.proofs.substitution.feasible.Goals.{After-index-player, After-len-2}

is_player : (c : After-index-player)
    → IsPlayer (game_of c.args.game.now) c.args.i (player_of c.index-player.result.now)
is_player c = found player_of c.args.game.now.players.items c.args.i c.index-player.result.now
    (read_below player_of c.args.game.now.players.items c.args.i c.requires) c.index-player.ensures

form : (c : After-index-player)
    → IsPlayerForm (game_of c.args.game.now) c.args.i (player_of c.index-player.result.now)
form c = c.args.game.now.sound.players c.args.i (player_of c.index-player.result.now) (is_player c)

vars : (c : After-len-2) → c.len-2.result ≡ length (player_of c.index-player.result.now).vars
vars c = c.len-2.ensures ∙ c.index-player.result.now.vars.ok.0 ∙
    sym (length-map c.index-player.result.now.vars.items var_of)

pub is_feasible-requires : goal.is_feasible-requires
is_feasible-requires c =
    let form : IsPlayerForm (game_of c.args.game.now) c.args.i
    (player_of c.index-player.result.now) = form
    ((goal.at.is_feasible-requires c).After-index-player) in
    let len : length c.args.point.now.num ≡ length (player_of c.index-player.result.now).vars =
    sym c.len.ensures ∙ c.if-len.false ∙ vars ((goal.at.is_feasible-requires c).After-len-2) in
    record {
      len = len;
      rows = subst (λ n. All (IsRowForm n) (player_of c.index-player.result.now).rows) (sym len)
          form.rows;
      pairs = subst (λ n. All (IsPairForm n) (player_of c.index-player.result.now).pairs) (sym len)
          form.pairs;
    }

pub returns-clause-length : goal.returns-clause-length
returns-clause-length c player is apart =
    let s = one (game_of c.args.game.now) c.args.i (player_of c.index-player.result.now) player
    (is_player ((goal.at.returns-clause-length c).After-index-player)) is in
    absurd (apart (sym c.len.ensures ∙ c.if-len.false ∙
    vars ((goal.at.returns-clause-length c).After-len-2) ∙
    ap (λ (p : PlayerOf). length p.vars) s))

pub returns-clause-tells : goal.returns-clause-tells
returns-clause-tells c player is same =
    let s = one (game_of c.args.game.now) c.args.i (player_of c.index-player.result.now) player
    (is_player ((goal.at.returns-clause-tells c).After-index-player)) is in
    subst (λ (p : PlayerOf). Tells c.is_feasible.result (IsFeasible p c.args.point.now)
    (feasible_wide p c.args.point.now)) s c.is_feasible.ensures
