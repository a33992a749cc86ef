use Rattle.std.proofs.Common.{◌≡◌, ◌≢◌, ℕ, vec_len, ⊎_elim, ◌∙◌, sym, ap, subst, length}
use Rattle.std.proofs.lemmas.List.{length-map}
use Rattle.zr_base.specs.Tests.{Tells}
use Rattle.zr_game.specs.Players.{PlayerOf, player_of, var_of}
use Rattle.zr_game.specs.Forms.{IsPlayer, IsPlayerForm}
use Rattle.zr_game.specs.Games.{game_of}
use Rattle.zr_game.specs.Rays.{IsRay}
use Rattle.zr_game.specs.RaySteps.{ray_wide}
use Rattle.zr_game.proofs.Items.{found, one, read_below}
use Rattle.zr_game.proofs.ray.is_ray.Goals as goal
use Rattle.zr_game.proofs.ray.is_ray.Goals.{After-index-player}

is_player : (c : After-index-player)
    → IsPlayer (game_of c.args.game.now) c.args.i (player_of c.index-player.result.now)
is_player c = found player_of c.args.game.now.players.items c.args.i c.index-player.result.now
    (read_below player_of c.args.game.now.players.items c.args.i c.requires.number)
    c.index-player.ensures

form : (c : After-index-player)
    → IsPlayerForm (game_of c.args.game.now) c.args.i (player_of c.index-player.result.now)
form c = c.args.game.now.sound.players c.args.i (player_of c.index-player.result.now) (is_player c)

vars : (c : After-index-player) (n : ℕ) → n ≡ vec_len c.index-player.result.now.vars
    → n ≡ length (player_of c.index-player.result.now).vars
vars c n e = e ∙ c.index-player.result.now.vars.ok.0 ∙
    sym (length-map c.index-player.result.now.vars.items var_of)

pub is_ray_of-requires-clause-rows : goal.is_ray_of-requires-clause-rows
is_ray_of-requires-clause-rows c =
    (form ((goal.at.is_ray_of-requires-clause-rows c).After-index-player)).rows

pub is_ray_of-requires-clause-pairs : goal.is_ray_of-requires-clause-pairs
is_ray_of-requires-clause-pairs c =
    (form ((goal.at.is_ray_of-requires-clause-pairs c).After-index-player)).pairs

pub returns-clause-length : goal.returns-clause-length
returns-clause-length c player is apart =
    let at = goal.at.returns-clause-length c in
    let s = one (game_of c.args.game.now) c.args.i (player_of c.index-player.result.now) player
    (is_player at.After-index-player) is in
    let lens = ap (λ (p : PlayerOf). length p.vars) s in
    let base_len = sym c.len.ensures ∙ c.if-len.false ∙
    vars at.After-index-player c.len-2.result c.len-2.ensures ∙ lens in
    let dir_len = c.if-dir-len.false ∙ vars at.After-index-player c.len-else-len.result
    c.len-else-len.ensures ∙ lens in
    absurd (⊎_elim (λ (n : length c.args.base.now.num ≢ length player.vars). n base_len)
    (λ (n : length c.args.dir.now ≢ length player.vars). n dir_len) apart)

pub returns-clause-tells : goal.returns-clause-tells
returns-clause-tells c player is base dir =
    let s = one (game_of c.args.game.now) c.args.i (player_of c.index-player.result.now) player
    (is_player ((goal.at.returns-clause-tells c).After-index-player)) is in
    subst (λ (p : PlayerOf). Tells c.is_ray_of.result (IsRay p c.args.base.now c.args.dir.now)
    (ray_wide p c.args.base.now c.args.dir.now)) s c.is_ray_of.ensures
