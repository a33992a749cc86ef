-- The terms of a game's player at one point per player.
use Rattle.std.proofs.Common.{ℕ, ◌<◌, arith, sym, subst, List, length, get_or, All}
use Rattle.std.proofs.lemmas.Option.{slice_get_within}
use Rattle.zr_base.specs.Points.{PointOf}
use Rattle.zr_game.specs.Players.{GameOf, PlayerOf}
use Rattle.zr_game.specs.Forms.{IsCoefficient, IsGame, IsOthersVar, IsPlayer}
use Rattle.zr_game.specs.Costs.{point_of}
use Rattle.zr_game.specs.CostSteps.{ArePoints}
use Rattle.zr_game.specs.CostTerms.{HasPlace, IsOtherAt, IsTermAt}
use Rattle.zr_game.proofs.Items.{at_number}
use Rattle.zr_game.proofs.TermColumns.{columns_exist}

module _ (game : GameOf) (form : IsGame game) (points : List PointOf) (are : ArePoints game points)
    (i : ℕ) (player : PlayerOf) (is : IsPlayer game i player) where
  pub here : i < length points
  here = let w = slice_get_within game i player is in let len = are.len in omega arith

  pub own_columns_exist : All (λ t. t.0 < length (point_of points i).num) player.cost
  own_columns_exist =
      subst (λ n. All (λ t. t.0 < n) player.cost) (sym (are.lens i player is))
      (columns_exist IsCoefficient 0 (length player.vars) player.cost
      (form.players i player is).cost)

  pub terms_exist : All (IsTermAt i points) player.cross
  terms_exist k d h =
      let t = get_or player.cross k d in
      let f = (form.players i player is).cross k d h in
      let other = at_number game t.player f.player in
      let own_len = are.lens i player is in
      let other_len = are.lens t.player other.0 other.1 in
      let v = f.var other.0 other.1 in
      let own = f.own in
      let there = f.player in
      let len = are.len in
      record {
        here = here;
        there = omega (arith, there, len);
        own = omega (arith, own, own_len);
        var = omega (arith, v, other_len);
      }

  place_exists : (at : ℕ × ℕ) → IsOthersVar game i at → HasPlace points at
  place_exists at form =
      let other = at_number game at.0 form.player in
      let other_len = are.lens at.0 other.0 other.1 in
      let v = form.var other.0 other.1 in
      let there = form.player in
      let len = are.len in
      (omega (arith, there, len), omega (arith, v, other_len))

  pub others_exist : All (IsOtherAt points) player.others
  others_exist k d h =
      let f = (form.players i player is).others k d h in
      let t = get_or player.others k d in
      (place_exists t.first f.first, λ at e. place_exists at (f.second at e).1)
