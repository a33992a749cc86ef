use Rattle.std.proofs.Common.{arith, ◌≡◌, ◌<◌, ◌≤◌, ◌+◌, ◌∙◌, sym, ap, subst, suc, Ok, Some, slice_get, length, map, take, drop, ◌-◌, ◌++◌}
use Rattle.std.proofs.lemmas.List.{length-map, length-drop, length-take-le}
use Rattle.std.proofs.lemmas.Result.{err_from_is_err_and}
use Rattle.std.proofs.lemmas.Slice.{take-put_mid}
use borrow.Rule.Slice.PartMut.{put_mid}
use Rattle.zr_game.specs.Games.{game_of}
use Rattle.zr_game.specs.Forms.{IsPlayer}
use Rattle.zr_game.specs.Players.{PlayerOf}
use Rattle.zr_game.proofs.Items.{at_number, found, item}
use Rattle.zr_mix.specs.Mixtures.{part_of}
use Rattle.zr_mix.specs.Steps.{place_of}
use Rattle.zr_cert.specs.Certs.{mixture_of}
use Rattle.zr_cert.specs.Forms.{IsMixtureForm}
use Rattle.zr_cert.specs.Lines.{mixture_lines, sum_lines}
use Rattle.zr_check.specs.Bounds.{all_means}
use Rattle.zr_check.specs.Parts.{StrategiesPass}
use Rattle.zr_check.proofs.LineSums.{lines_more, lines_within}
use Rattle.zr_check.proofs.StrategyWalks.{StrategiesTo, all_strategies, next_strategy, strategy_refused}
use Rattle.zr_check.proofs.VarPlaces.{place_all, place_next, place_within, var_total_few}
use Rattle.zr_check.proofs.strategies.check_strategies.Goals as goal
use Rattle.zr_check.proofs.strategies.check_strategies.Goals.{After-len, After-loop-i, After-place-to}

module _ (c : After-place-to) where
  the_player : (player : PlayerOf) × IsPlayer (game_of c.args.game.now) c.loop-i.i player
  the_player = at_number (game_of c.args.game.now) c.loop-i.i (omega (arith, c.loop-i-test.true, c.requires.count))

  there : slice_get (map mixture_of c.args.strategies.now) c.loop-i.i ≡ Some (mixture_of c.index-strategies-i.result)
  there = found mixture_of c.args.strategies.now c.loop-i.i c.index-strategies-i.result c.loop-i-test.true c.index-strategies-i.is

  begin : c.place-from.result ≡ place_of (game_of c.args.game.now) c.loop-i.i 0
  begin = c.place-from.ensures

  end : c.place-to.result ≡ place_of (game_of c.args.game.now) (suc c.loop-i.i) 0
  end = let e : c.loop-i.i + 1 ≡ suc c.loop-i.i = omega arith in c.place-to.ensures ∙ ap (λ n. place_of (game_of c.args.game.now) n 0) e

  long : (player : PlayerOf) → IsPlayer (game_of c.args.game.now) c.loop-i.i player → c.place-to.result ≡ c.place-from.result + length player.vars
  long player is =
      let n = place_next (game_of c.args.game.now) c.loop-i.i player is in
      omega (arith, begin, end, n)

  ordered : c.place-from.result ≤ c.place-to.result
  ordered = let l = long the_player.0 the_player.1 in omega (arith, l)

  few : c.place-to.result ≤ 1024
  few =
      let w = place_within (game_of c.args.game.now) (suc c.loop-i.i) in
      let f = var_total_few (game_of c.args.game.now) c.args.game.now.sound in
      omega (arith, end, w, f)

  inside : c.place-to.result ≤ length c.loop-i.means
  inside =
      let w = place_within (game_of c.args.game.now) (suc c.loop-i.i) in
      omega (arith, end, w, c.requires.places, c.loop-i.auto.means)

  lines : c.loop-i.line + mixture_lines (mixture_of c.index-strategies-i.result) ≤ 4 + sum_lines mixture_lines (map mixture_of c.args.strategies.now)
  lines =
      let more = lines_more mixture_lines (map mixture_of c.args.strategies.now) c.loop-i.i (mixture_of c.index-strategies-i.result) there in
      let all = lines_within mixture_lines (map mixture_of c.args.strategies.now) (suc c.loop-i.i) in
      let at = c.loop-i.invariant.at in
      omega (arith, more, all, at)

  middle : length (take (c.place-to.result - c.place-from.result) (drop c.place-from.result c.loop-i.means)) ≡ c.place-to.result - c.place-from.result
  middle =
      let d = length-drop c.place-from.result c.loop-i.means in
      length-take-le (c.place-to.result - c.place-from.result) (drop c.place-from.result c.loop-i.means) (omega (arith, d, ordered, inside))

module _ (c : After-len) where
  count : 1 + c.len.result ≡ mixture_lines (mixture_of c.index-strategies-i.result)
  count =
      let l = length-map c.index-strategies-i.result.parts.items part_of in
      omega (arith, l, c.len.ensures, c.index-strategies-i.result.parts.ok.0)

  lines_fit : c.loop-i.line + mixture_lines (mixture_of c.index-strategies-i.result) ≤ 4 + sum_lines mixture_lines (map mixture_of c.args.strategies.now) → c.loop-i.line + (1 + c.len.result) < 4294967296
  lines_fit l = omega (arith, l, count, c.requires.lines)

done : (c : After-loop-i) → StrategiesPass (game_of c.args.game.now) c.args.kind (map mixture_of c.args.strategies.now) × (all_means (game_of c.args.game.now) (map mixture_of c.args.strategies.now) ≡ Ok c.loop-i.means) × (c.loop-i.line ≡ 4 + sum_lines mixture_lines (map mixture_of c.args.strategies.now))
done c =
    let l = length-map c.args.strategies.now mixture_of in
    let end : length (game_of c.args.game.now) ≤ c.loop-i.i = omega (arith, c.loop-i-test.false, c.requires.count) in
    let place = place_all (game_of c.args.game.now) c.loop-i.i end in
    all_strategies (game_of c.args.game.now) c.args.kind (map mixture_of c.args.strategies.now) c.loop-i.i c.loop-i.line c.loop-i.means c.loop-i.invariant end (omega (arith, l, c.loop-i-test.false)) (omega (arith, place, c.requires.places, c.loop-i.auto.means))

pub offset_bounds-means-from : goal.offset_bounds-means-from
offset_bounds-means-from c =
    let at = (goal.at.offset_bounds-means-from c).After-place-to in
    let a = ordered at in
    let b = few at in
    omega (arith, a, b)

pub slice_bounds-check_strategy-count : goal.slice_bounds-check_strategy-count
slice_bounds-check_strategy-count c = ordered ((goal.at.slice_bounds-check_strategy-count c).After-place-to)

pub slice_bounds-check_strategy-start : goal.slice_bounds-check_strategy-start
slice_bounds-check_strategy-start c = ordered ((goal.at.slice_bounds-check_strategy-start c).After-place-to)

pub slice_bounds-check_strategy-end : goal.slice_bounds-check_strategy-end
slice_bounds-check_strategy-end c = inside ((goal.at.slice_bounds-check_strategy-end c).After-place-to)

pub check_strategy-requires-clause-form : goal.check_strategy-requires-clause-form
check_strategy-requires-clause-form c =
    item mixture_of IsMixtureForm c.args.strategies.now c.loop-i.i c.index-strategies-i.result c.requires.forms c.loop-i-test.true c.index-strategies-i.is

pub check_strategy-requires-clause-lines : goal.check_strategy-requires-clause-lines
check_strategy-requires-clause-lines c =
    let l = lines ((goal.at.check_strategy-requires-clause-lines c).After-place-to) in
    omega (arith, l, c.requires.lines)

pub check_strategy-requires-clause-places : goal.check_strategy-requires-clause-places
check_strategy-requires-clause-places c player is =
    let at = (goal.at.check_strategy-requires-clause-places c).After-place-to in
    let m = middle at in
    let l = long at player is in
    omega (arith, m, l)

pub returns-in_err-check_strategy-clause-err : goal.returns-in_err-check_strategy-clause-err
returns-in_err-check_strategy-clause-err c =
    let at = (goal.at.returns-in_err-check_strategy-clause-err c).After-place-to in
    let p = err_from_is_err_and c.from_residual.result c.from_residual.ensures.1 in
    let who = the_player at in
    rw (p.1, p.2) (strategy_refused (game_of c.args.game.now) c.args.kind (map mixture_of c.args.strategies.now) c.loop-i.i c.loop-i.line c.loop-i.means c.loop-i.invariant who.0 who.1 (mixture_of c.index-strategies-i.result) (there at) _ (c.in_err-check_strategy.ensures.err who.0 who.1))

pub overflow_cast-line : goal.overflow_cast-line
overflow_cast-line c =
    let l = lines_fit c (lines ((goal.at.overflow_cast-line c).After-place-to)) in
    omega (arith, l)

pub overflow_add-line : goal.overflow_add-line
overflow_add-line c =
    let l = lines_fit c (lines ((goal.at.overflow_add-line c).After-place-to)) in
    omega (arith, l)

pub overflow_add-line-in-loop-i : goal.overflow_add-line-in-loop-i
overflow_add-line-in-loop-i c =
    let l = lines_fit c (lines ((goal.at.overflow_add-line-in-loop-i c).After-place-to)) in
    omega (arith, l)

pub loop-i-preserved : goal.loop-i-preserved
loop-i-preserved c =
    let at = (goal.at.loop-i-preserved c).After-place-to in
    let who = the_player at in
    let size = c.check_strategy.auto.means in
    let ys = c.check_strategy.new.means in
    let m = middle at in
    let o = ordered at in
    let e = inside at in
    let a = begin at in
    let b = end at in
    let put : take (place_of (game_of c.args.game.now) (suc c.loop-i.i) 0) (put_mid c.place-from.result (c.place-to.result - c.place-from.result) c.loop-i.means ys) ≡ take (place_of (game_of c.args.game.now) c.loop-i.i 0) c.loop-i.means ++ ys = take-put_mid c.place-from.result (c.place-to.result - c.place-from.result) c.loop-i.means ys (place_of (game_of c.args.game.now) (suc c.loop-i.i) 0) (omega (arith, size, m, o, b)) (omega (arith, o, e)) ∙ ap (λ n. take n c.loop-i.means ++ ys) a in
    subst (λ n. StrategiesTo (game_of c.args.game.now) c.args.kind (map mixture_of c.args.strategies.now) (c.loop-i.i + 1) (c.loop-i.line + n) (put_mid c.place-from.result (c.place-to.result - c.place-from.result) c.loop-i.means ys)) (sym (count c)) (next_strategy (game_of c.args.game.now) c.args.kind (map mixture_of c.args.strategies.now) c.loop-i.i c.loop-i.line c.loop-i.means c.loop-i.invariant who.0 who.1 (mixture_of c.index-strategies-i.result) (there at) (c.in_ok-check_strategy.ensures.ok who.0 who.1) ys (put_mid c.place-from.result (c.place-to.result - c.place-from.result) c.loop-i.means ys) (c.in_ok-check_strategy.ensures.means who.0 who.1) put)

pub returns-clause-ok : goal.returns-clause-ok
returns-clause-ok c = (done c).0

pub returns-clause-means : goal.returns-clause-means
returns-clause-means c = (done c).1

pub returns-clause-line : goal.returns-clause-line
returns-clause-line c = (done c).2
