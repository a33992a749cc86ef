use Rattle.std.proofs.Common.{arith, ◌≡◌, ◌∙◌, sym, ap, subst, Ok, length, drop}
use Rattle.std.proofs.lemmas.List.{length-map, take_at}
use Rattle.zr_game.specs.Games.{game_of}
use Rattle.zr_game.specs.Forms.{IsPlayer}
use Rattle.zr_game.specs.Players.{PlayerOf, player_of, var_of}
use Rattle.zr_game.proofs.Items.{at_number, found, one, read_below}
use Rattle.zr_mix.specs.Mixtures.{parts_of}
use Rattle.zr_cert.specs.Certs.{mixture_of}
use Rattle.zr_costs.proofs.MeansSteps.{lengths, made_ok, made_wide}
use Rattle.zr_costs.proofs.means.strategy_means.Goals as goal
use Rattle.zr_costs.proofs.means.strategy_means.Goals.{After-deref_mut}

module _ (c : After-deref_mut) where
  is_player : IsPlayer (game_of c.args.game.now) c.args.i (player_of c.index.result.now)
  is_player =
      found player_of c.args.game.now.players.items c.args.i c.index.result.now
      (read_below player_of c.args.game.now.players.items c.args.i c.requires.number)
      c.index.ensures

  count : (player : PlayerOf) → IsPlayer (game_of c.args.game.now) c.args.i player
      → length c.deref_mut.result.now ≡ length player.vars
  count player is =
      let same = one (game_of c.args.game.now) c.args.i
      (player_of c.index.result.now) player is_player is in
      let m = length-map c.index.result.now.vars.items var_of in
      let v = ap length c.deref_mut.ensures.value in
      let n : length c.deref_mut.result.now ≡ length (player_of c.index.result.now).vars =
      omega (arith, v, m, c.in-Ok.ensures, c.len.ensures, c.index.result.now.vars.ok.0) in
      subst (λ (p : PlayerOf). length c.deref_mut.result.now ≡ length p.vars) same n

pub means-requires-clause-lengths : goal.means-requires-clause-lengths
means-requires-clause-lengths c =
    let at = (goal.at.means-requires-clause-lengths c).After-deref_mut in
    let who = at_number (game_of c.args.game.now) c.args.i c.requires.number in
    lengths who.0 (parts_of c.args.strategy.now) (length c.deref_mut.result.now)
    (c.requires.strategy who.0 who.1) (sym (count at who.0 who.1))

pub returns-in-Ok-means-clause-ok : goal.returns-in-Ok-means-clause-ok
returns-in-Ok-means-clause-ok c player is =
    let at = (goal.at.returns-in-Ok-means-clause-ok c).After-deref_mut in
    let v = ap length c.deref_mut.ensures.value in
    let a = c.means.auto.out in
    let k = c.in-Ok.own.ok.0 in
    made_ok player (mixture_of c.args.strategy.now) (length c.deref_mut.result.now) c.means.new.out
    (count at player is) c.in-Ok-means.ensures.steps
    ∙ ap Ok (sym (take_at c.means.new.out (drop (length c.means.new.out) c.in-Ok.own.items)
    c.in-Ok.own.len
    (omega (arith, v, a, k))))

pub returns-in-Err-means-clause-err : goal.returns-in-Err-means-clause-err
returns-in-Err-means-clause-err c player is =
    let at = (goal.at.returns-in-Err-means-clause-err c).After-deref_mut in
    made_wide player (mixture_of c.args.strategy.now) (length c.deref_mut.result.now)
    c.in-Err-means.wide
    c.means.new.out (count at player is) c.in-Err-means.ensures.steps
