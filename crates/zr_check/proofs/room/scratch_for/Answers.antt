use Rattle.std.proofs.Common.{arith, rules, ap}
use Rattle.std.proofs.lemmas.List.{length-map}
use Rattle.zr_game.specs.Games.{game_of}
use Rattle.zr_game.specs.Players.{player_of}
use Rattle.zr_boxes.specs.Places.{BoxPlaces}
use Rattle.zr_check.proofs.VarPlaces.{place_all}
use Rattle.zr_check.proofs.room.scratch_for.Goals as goal

pub returns : goal.returns
returns c =
    let places = c.in_ok-boxes.ensures in
    let players = c.args.game.now.players in
    let count = length-map players.items player_of in
    let all = place_all (game_of c.args.game.now) c.len.result
    (omega (arith, count, c.len.ensures, players.ok.0)) in
    record {
      trees = search rules;
      columns = search rules;
      vars = search rules;
      pairs = search rules;
      means = omega (arith, all, c.place.ensures, c.in_ok-means.ensures);
      slopes = search rules;
      claims = search rules;
      boxes = rw places c.greatest_box_tree.ensures;
      leaves = ap (λ (p : BoxPlaces). p.leaves) places;
      covers = c.in_ok-covers.ensures;
    }
