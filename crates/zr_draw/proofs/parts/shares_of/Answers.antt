use Rattle.std.proofs.Common.{rules, ℕ, ℤ, ◌+◌, ◌<◌, ◌∙◌, arith, sym, FitsSigned}
use Rattle.std.specs.Int.{w128}
use Rattle.std.proofs.lemmas.Int.{to_z-of_z}
use Rattle.std.proofs.lemmas.List.Elements.{All-push}
use Rattle.zr_base.specs.Steps.{IsNarrow}
use Rattle.zr_game.specs.Games.{game_of}
use Rattle.zr_system.specs.Regions.{leaves_of, var_count}
use Rattle.zr_system.specs.declared.unknown.Unknown.TheVariants.{Share}
use Rattle.zr_draw.specs.Numbers.{numbers_of}
use Rattle.zr_draw.proofs.Columns.{number_is, one_more, place_below}
use Rattle.zr_draw.proofs.parts.shares_of.Goals as goal

pub num-requires : goal.num-requires
num-requires c =
    let below : c.loop-v.v < var_count (game_of c.args.game.now) c.args.i =
    omega (arith, c.loop-v-test.true, c.var_count-v-end.ensures.count) in
    place_below (game_of c.args.game.now) (leaves_of c.args.leaves.now) c.args.x.now
    c.requires.columns (c.share_column-first.result + c.loop-v.v)
    (Share c.args.i c.args.k c.loop-v.v) (c.share_column-first.ensures.shares c.loop-v.v below)

pub loop-v-preserved : goal.loop-v-preserved
loop-v-preserved c =
    let game = game_of c.args.game.now in
    let leaves = leaves_of c.args.leaves.now in
    let v = c.loop-v.v in
    let z = c.num.result in
    let below : v < var_count game c.args.i =
    omega (arith, c.loop-v-test.true, c.var_count-v-end.ensures.count) in
    let fits : FitsSigned w128 z = search rules in
    let items = simp to_z-of_z at c.in_ok-push.ensures.items in
    let f : ℕ → ℤ = λ v. numbers_of game leaves c.args.x.now (Share c.args.i c.args.k v) in
    record {
      values = one_more v f z c.loop-v.shares.items c.push.new.self.items
          c.loop-v.invariant.values items (c.num.ensures.value
          ∙ sym (number_is game leaves c.args.x.now (c.share_column-first.result + v)
          (Share c.args.i c.args.k v) (c.share_column-first.ensures.shares v below)));
      narrow = rw items (All-push IsNarrow c.loop-v.shares.items z c.loop-v.invariant.narrow
          c.num.ensures.narrow);
    }
