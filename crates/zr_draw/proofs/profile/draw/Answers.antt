use Rattle.std.proofs.Common.{◌≡◌, ◌<◌, arith, [], ◌∷◌, length, map}
use Rattle.std.proofs.lemmas.List.{map-append}
use Rattle.zr_game.specs.Games.{game_of}
use Rattle.zr_cert.specs.Certs.{mixture_of}
use Rattle.zr_comp.proofs.Few.{few_columns}
use Rattle.zr_system.specs.Regions.{leaves_of}
use Rattle.zr_draw.specs.Numbers.{numbers_of}
use Rattle.zr_draw.proofs.Columns.{den_is, solves_complete}
use Rattle.zr_draw.proofs.Raw.{are_parts}
use Rattle.zr_draw.proofs.Tidied.{all_tidied, are_few, is_drawn, one_more}
use Rattle.zr_draw.proofs.profile.draw.Goals as goal

pub strategy_of-requires-clause-columns : goal.strategy_of-requires-clause-columns
strategy_of-requires-clause-columns c = record {
  len = c.requires.solution.2.solution.len;
  few = let f = few_columns (game_of c.args.game.now) (leaves_of c.args.leaves.now) 16777216
      c.requires.cells in omega (arith, f);
}

pub strategy_of-requires-clause-parts : goal.strategy_of-requires-clause-parts
strategy_of-requires-clause-parts c =
    let game = game_of c.args.game.now in
    let leaves = leaves_of c.args.leaves.now in
    let x = c.args.x.now in
    let s = c.requires.solution in
    let below : c.loop-i.i < length game =
    omega (arith, c.loop-i-test.true, c.player_count-i-end.ensures.count) in
    are_parts game c.args.game.now.sound leaves c.requires.covers c.requires.exact c.args.kind s.0
    (numbers_of game leaves x) (solves_complete game leaves x c.args.kind s.0 s.1 s.2) c.loop-i.i
    below (rw (den_is game leaves x) c.den-denominator.ensures.kept.1)

pub loop-i-preserved : goal.loop-i-preserved
loop-i-preserved c =
    let game = game_of c.args.game.now in
    let leaves = leaves_of c.args.leaves.now in
    let old = c.loop-i.strategies.items in
    let new = c.in-Ok.strategy in
    rw c.in-Ok-push.ensures.items (rw (map-append mixture_of old (new ∷ []))
    (one_more game leaves (numbers_of game leaves c.args.x.now) c.loop-i.i (map mixture_of old)
    (mixture_of new) c.loop-i.invariant c.in-Ok.ensures))

pub returns-clause-drawn : goal.returns-clause-drawn
returns-clause-drawn c =
    let game = game_of c.args.game.now in
    let leaves = leaves_of c.args.leaves.now in
    let made = map mixture_of c.loop-i.strategies.items in
    let all : c.loop-i.i ≡ length game =
    omega (arith, c.loop-i-test.false, c.loop-i.auto.i-end, c.player_count-i-end.ensures.count) in
    is_drawn game c.args.game.now.sound leaves c.requires.covers c.requires.exact c.args.kind
    c.args.x.now c.requires.solution made
    (all_tidied game leaves (numbers_of game leaves c.args.x.now) made c.loop-i.i all
    c.loop-i.invariant)

pub returns-clause-few : goal.returns-clause-few
returns-clause-few c =
    let game = game_of c.args.game.now in
    let leaves = leaves_of c.args.leaves.now in
    let made = map mixture_of c.loop-i.strategies.items in
    let all : c.loop-i.i ≡ length game =
    omega (arith, c.loop-i-test.false, c.loop-i.auto.i-end, c.player_count-i-end.ensures.count) in
    are_few game leaves (numbers_of game leaves c.args.x.now) made
    (all_tidied game leaves (numbers_of game leaves c.args.x.now) made c.loop-i.i all
    c.loop-i.invariant) 16777216 c.requires.cells
