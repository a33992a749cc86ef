use Rattle.std.proofs.Common.{rules, arith, FitsSigned, ◌≡◌, ◌∙◌, sym, subst, Some, slice_get, length, get_or}
use Rattle.std.specs.Int.{w128}
use Rattle.std.proofs.lemmas.Int.{to_z-of_z}
use Rattle.std.proofs.lemmas.List.{length-map}
use Rattle.std.proofs.lemmas.Option.{slice_get-get_or}
use Rattle.std.proofs.lemmas.Result.{err_from_is_err_and}
use Rattle.zr_game.specs.Profiles.{Part as PartOf}
use Rattle.zr_game.specs.Games.{game_of}
use Rattle.zr_game.specs.Forms.{IsPlayer}
use Rattle.zr_game.specs.Players.{PlayerOf}
use Rattle.zr_game.proofs.Items.{found, one, read_below}
use Rattle.zr_mix.specs.Mixtures.{part_of, parts_of}
use Rattle.zr_base.specs.Made.{made_from}
use Rattle.zr_mix.specs.Steps.{mean_steps}
use Rattle.zr_base.proofs.Made.{were_ok, were_wide}
use Rattle.zr_cert.specs.Certs.{mixture_of}
use Rattle.zr_check.specs.Parts.{IsWidePart}
use Rattle.zr_check.specs.PartSums.{IsPartMade}
use Rattle.zr_check.proofs.PartSteps.{means_wide, narrow_weights, part_made, point_wide, weight_wide}
use Rattle.zr_check.proofs.strategies.sums_of_part.Goals as goal
use Rattle.zr_check.proofs.strategies.sums_of_part.Goals.{After-index-part}

module _ (c : After-index-part) where
  there : slice_get (parts_of c.args.strategy.now) c.args.k ≡ Some (part_of c.index-part.result.now)
  there = found part_of c.args.strategy.now.parts.items c.args.k c.index-part.result.now (read_below part_of c.args.strategy.now.parts.items c.args.k c.requires.part) c.index-part.ensures

  same : (part : PartOf) → slice_get (parts_of c.args.strategy.now) c.args.k ≡ Some part → part_of c.index-part.result.now ≡ part
  same part is = one (parts_of c.args.strategy.now) c.args.k (part_of c.index-part.result.now) part there is

  long : (player : PlayerOf) → IsPlayer (game_of c.args.game.now) c.args.i player → length c.index-part.result.now.point.num ≡ length player.vars
  long player is = c.requires.lengths c.args.k (part_of c.index-part.result.now) (omega arith) there ∙ c.requires.places player is

pub add_product-requires : goal.add_product-requires
add_product-requires c =
    let f : FitsSigned w128 c.args.sum = search rules in
    let n = narrow_weights (parts_of c.args.strategy.now) c.args.k c.args.sum c.requires.sum in
    simp to_z-of_z n

pub returns-in_err-weights-clause-wide : goal.returns-in_err-weights-clause-wide
returns-in_err-weights-clause-wide c player is part there' =
    let at = (goal.at.returns-in_err-weights-clause-wide c).After-index-part in
    let m = mixture_of c.args.strategy.now in
    let p = err_from_is_err_and c.from_residual.result c.from_residual.ensures.1 in
    let f : FitsSigned w128 c.args.sum = search rules in
    let g : FitsSigned w128 c.index-part.result.now.weight = search rules in
    let e = simp to_z-of_z at c.in_err-weights.ensures.step in
    rw p.1 (subst (λ (q : PartOf). IsWidePart player m c.args.k q) (same at part there') (weight_wide player m c.args.k (part_of c.index-part.result.now) (there at) c.args.sum c.requires.sum _ (sym e)))

pub returns-in_err-feasible-clause-wide : goal.returns-in_err-feasible-clause-wide
returns-in_err-feasible-clause-wide c player is part there' =
    let at = (goal.at.returns-in_err-feasible-clause-wide c).After-index-part in
    let m = mixture_of c.args.strategy.now in
    let p = err_from_is_err_and c.from_residual-in_err-feasible.result c.from_residual-in_err-feasible.ensures.1 in
    rw p.1 (subst (λ (q : PartOf). IsWidePart player m c.args.k q) (same at part there') (point_wide player m c.args.k (part_of c.index-part.result.now) (there at) c.args.sum c.requires.sum _ (c.in_err-feasible.ensures.tells player is (long at player is))))

pub means-requires-clause-lengths : goal.means-requires-clause-lengths
means-requires-clause-lengths c j d h =
    let e = length-map c.args.strategy.now.parts.items part_of in
    let n = c.args.strategy.now.parts.ok.0 in
    c.requires.lengths j (get_or (parts_of c.args.strategy.now) j d) (omega (arith, h, e, n, c.if-k-len.true, c.len.ensures)) (slice_get-get_or (parts_of c.args.strategy.now) j d h)

pub returns-in_err-means-clause-wide : goal.returns-in_err-means-clause-wide
returns-in_err-means-clause-wide c player is part there' =
    let at = (goal.at.returns-in_err-means-clause-wide c).After-index-part in
    let m = mixture_of c.args.strategy.now in
    let p = err_from_is_err_and c.from_residual-in_err-means.result c.from_residual-in_err-means.ensures.1 in
    let e = length-map c.args.strategy.now.parts.items part_of in
    let n = c.args.strategy.now.parts.ok.0 in
    let w = were_wide (made_from (mean_steps m.total m.parts) 0 (length c.args.means.now)) _ c.means.new.out c.in_err-means.ensures.steps in
    let v = rw (c.requires.places player is) at w in
    rw p.1 (means_wide player m c.args.k part there' c.args.sum c.requires.sum (omega (arith, e, n, c.if-k-len.true, c.len.ensures)) _ v)

pub returns-in_ok-means-clause-ok : goal.returns-in_ok-means-clause-ok
returns-in_ok-means-clause-ok c player is part there' =
    let at = (goal.at.returns-in_ok-means-clause-ok c).After-index-part in
    let m = mixture_of c.args.strategy.now in
    let f : FitsSigned w128 c.args.sum = search rules in
    let g : FitsSigned w128 c.index-part.result.now.weight = search rules in
    let h : FitsSigned w128 c.in_ok-weights.weights = search rules in
    let e = simp to_z-of_z at c.in_ok-weights.ensures.step in
    let t = c.in_ok-feasible.ensures.tells player is (long at player is) in
    let w = were_ok (made_from (mean_steps m.total m.parts) 0 (length c.args.means.now)) c.means.new.out c.in_ok-means.ensures.steps in
    let v = rw (c.requires.places player is) at w in
    simp to_z-of_z (subst (λ (q : PartOf). IsPartMade player m c.args.k q c.in_ok-weights.weights c.in_ok-feasible.feasible) (same at part there') (part_made player m c.args.k (part_of c.index-part.result.now) (there at) c.args.sum c.requires.sum c.in_ok-weights.weights c.in_ok-feasible.feasible (sym e) t.0 t.1 (λ last. (c.means.new.out, v))))

pub returns-else-k-len-clause-ok : goal.returns-else-k-len-clause-ok
returns-else-k-len-clause-ok c player is part there' =
    let at = (goal.at.returns-else-k-len-clause-ok c).After-index-part in
    let m = mixture_of c.args.strategy.now in
    let f : FitsSigned w128 c.args.sum = search rules in
    let g : FitsSigned w128 c.index-part.result.now.weight = search rules in
    let h : FitsSigned w128 c.in_ok-weights.weights = search rules in
    let e = simp to_z-of_z at c.in_ok-weights.ensures.step in
    let t = c.in_ok-feasible.ensures.tells player is (long at player is) in
    let l = length-map c.args.strategy.now.parts.items part_of in
    let n = c.args.strategy.now.parts.ok.0 in
    simp to_z-of_z (subst (λ (q : PartOf). IsPartMade player m c.args.k q c.in_ok-weights.weights c.in_ok-feasible.feasible) (same at part there') (part_made player m c.args.k (part_of c.index-part.result.now) (there at) c.args.sum c.requires.sum c.in_ok-weights.weights c.in_ok-feasible.feasible (sym e) t.0 t.1 (λ last. absurd (c.if-k-len.false (omega (arith, l, n, c.len.ensures, last))))))
