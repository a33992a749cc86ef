use Rattle.std.proofs.Common.{rules, arith, FitsSigned, ◌≡◌, Some, slice_get, refl, IsTrue, false}
use Rattle.std.specs.Int.{w128}
use Rattle.std.proofs.lemmas.Int.{to_z-of_z}
use Rattle.std.proofs.lemmas.List.{length-map}
use Rattle.zr_game.specs.Games.{game_of}
use Rattle.zr_game.proofs.Items.{at_number, found}
use Rattle.zr_mix.specs.Mixtures.{part_of, parts_of}
use Rattle.zr_cert.specs.Certs.{mixture_of}
use Rattle.zr_check.proofs.MixtureWalks.{all, length_before, next, refused_length, refused_rule, refused_wide}
use Rattle.zr_check.proofs.strategies.check_strategy.Goals as goal
use Rattle.zr_check.proofs.strategies.check_strategy.Goals.{After-index}

module _ (c : After-index) where
  here : slice_get (parts_of c.args.strategy.now) c.loop-k.k ≡ Some (part_of c.index.result.now)
  here = found part_of c.args.strategy.now.parts.items c.loop-k.k c.index.result.now (omega (arith, c.loop-k-test.true, c.len-k-end.ensures, c.args.strategy.now.parts.ok.0)) c.index.ensures

pub returns-then-len-means-clause-err : goal.returns-then-len-means-clause-err
returns-then-len-means-clause-err c player is =
    let at = (goal.at.returns-then-len-means-clause-err c).After-index in
    let m = mixture_of c.args.strategy.now in
    let p = c.requires.places player is in
    refused_length c.args.kind player m c.loop-k.k _ c.loop-k.means (c.loop-k.invariant player is) (part_of c.index.result.now) (here at) c.args.line (λ e. c.if-len-means.true (omega (arith, c.len.ensures, e, p, c.loop-k.auto.means)))

pub sums_of_part-requires-clause-sum : goal.sums_of_part-requires-clause-sum
sums_of_part-requires-clause-sum c =
    let one = at_number (game_of c.args.game.now) c.args.i c.requires.number in
    (c.loop-k.invariant one.0 one.1).sums

pub sums_of_part-requires-clause-lengths : goal.sums_of_part-requires-clause-lengths
sums_of_part-requires-clause-lengths c j part h is =
    let at = (goal.at.sums_of_part-requires-clause-lengths c).After-index in
    let m = mixture_of c.args.strategy.now in
    let one = at_number (game_of c.args.game.now) c.args.i c.requires.number in
    let p = c.requires.places one.0 one.1 in
    let l = length_before c.args.kind one.0 m c.loop-k.k _ c.loop-k.means (c.loop-k.invariant one.0 one.1) (part_of c.index.result.now) (here at) (omega (arith, c.len.ensures, c.if-len-means.false, c.loop-k.auto.means, p)) j part h is in
    omega (arith, l, p, c.loop-k.auto.means)

pub returns-in_default-clause-err : goal.returns-in_default-clause-err
returns-in_default-clause-err c player is =
    let at = (goal.at.returns-in_default-clause-err c).After-index in
    let m = mixture_of c.args.strategy.now in
    let p = c.requires.places player is in
    refused_wide c.args.kind player m c.loop-k.k _ c.loop-k.means (c.loop-k.invariant player is) (part_of c.index.result.now) (here at) c.args.line (omega (arith, c.len.ensures, c.if-len-means.false, c.loop-k.auto.means, p)) (c.in_default.ensures.wide player is (part_of c.index.result.now) (here at))

pub is_right-requires-clause-weights : goal.is_right-requires-clause-weights
is_right-requires-clause-weights c =
    let at = (goal.at.is_right-requires-clause-weights c).After-index in
    let one = at_number (game_of c.args.game.now) c.args.i c.requires.number in
    let f : FitsSigned w128 c.in-Ok.weights = search rules in
    let made = c.in-Ok.ensures.ok one.0 one.1 (part_of c.index.result.now) (here at) in
    simp to_z-of_z made.weights

pub returns-then-not-is_right-clause-err : goal.returns-then-not-is_right-clause-err
returns-then-not-is_right-clause-err c player is =
    let at = (goal.at.returns-then-not-is_right-clause-err c).After-index in
    let m = mixture_of c.args.strategy.now in
    let p = c.requires.places player is in
    let made = c.in-Ok.ensures.ok player is (part_of c.index.result.now) (here at) in
    let told = c.if-not-is_right.ensures player (part_of c.index.result.now) made.tells in
    refused_rule c.args.kind player m c.loop-k.k _ c.loop-k.means (c.loop-k.invariant player is) (part_of c.index.result.now) (here at) c.args.line (omega (arith, c.len.ensures, c.if-len-means.false, c.loop-k.auto.means, p)) made.narrow (λ right. no_false (told.1 right))
  where
    no_false : IsTrue false → ⊥
    no_false t = cc

pub loop-k-preserved : goal.loop-k-preserved
loop-k-preserved c player is =
    let at = (goal.at.loop-k-preserved c).After-index in
    let m = mixture_of c.args.strategy.now in
    let p = c.requires.places player is in
    let f : FitsSigned w128 c.in-Ok.weights = search rules in
    let made = c.in-Ok.ensures.ok player is (part_of c.index.result.now) (here at) in
    let told = c.if-not-is_right.ensures player (part_of c.index.result.now) made.tells in
    simp to_z-of_z (next c.args.kind player m c.loop-k.k _ c.loop-k.means (c.loop-k.invariant player is) (part_of c.index.result.now) (here at) (omega (arith, c.len.ensures, c.if-len-means.false, c.loop-k.auto.means, p)) c.in-Ok.weights c.in-Ok.feasible made (told.0 refl) c.sums_of_part.new.means (c.in-Ok.ensures.means player is))

pub returns-clause-ok : goal.returns-clause-ok
returns-clause-ok c player is =
    let m = mixture_of c.args.strategy.now in
    let e = length-map c.args.strategy.now.parts.items part_of in
    let n = c.args.strategy.now.parts.ok.0 in
    (all c.args.kind player m c.loop-k.k _ c.loop-k.means (c.loop-k.invariant player is) (omega (arith, e, n, c.loop-k-test.false, c.len-k-end.ensures)) (omega (arith, e, n, c.len-k-end.ensures, c.loop-k.auto.k-end))).0
