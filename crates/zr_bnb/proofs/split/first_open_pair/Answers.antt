use Rattle.std.proofs.Common.{rules, ◌≡◌, pos, slice_index_or, FitsSigned}
use Rattle.std.specs.Int.{w128}
use Rattle.std.proofs.lemmas.Int.{to_z-of_z}
use Rattle.zr_base.specs.Points.{num_of}
use Rattle.zr_game.specs.declared.leaf.Side.TheVariants.{Undecided}
use Rattle.zr_game.specs.Players.{pair_of}
use Rattle.zr_game.specs.Rays.{change_of}
use Rattle.zr_game.proofs.Items.{found}
use Rattle.zr_bnb.proofs.Firsts.{all_found, more_found}
use Rattle.zr_bnb.proofs.split.first_open_pair.Goals as goal

pub num-requires : goal.num-requires
num-requires c =
    c.requires.vars c.loop-p.p (pair_of c.index-pairs-p.result) (found pair_of c.args.pairs.now c.loop-p.p c.index-pairs-p.result c.loop-p-test.true c.index-pairs-p.is)

pub loop-p-preserved : goal.loop-p-preserved
loop-p-preserved c =
    let f : FitsSigned w128 c.num.result = search rules in
    let g : FitsSigned w128 c.number_at.result = search rules in
    let n = rw (c.num.ensures.value, c.number_at.ensures) at (simp to_z-of_z at (c.is_open.ensures.no c.if-is_open.false)) in
    more_found pair_of (λ q x. slice_index_or c.args.sides.now q Undecided ≡ Undecided → (num_of c.args.point.now x.var ≡ pos 0) × (change_of c.args.ray.now x.var ≡ pos 0)) c.args.pairs.now c.loop-p.p c.index-pairs-p.result c.loop-p-test.true c.index-pairs-p.is c.loop-p.invariant n

pub returns : goal.returns
returns c =
    all_found pair_of (λ q x. slice_index_or c.args.sides.now q Undecided ≡ Undecided → (num_of c.args.point.now x.var ≡ pos 0) × (change_of c.args.ray.now x.var ≡ pos 0)) c.args.pairs.now c.loop-p.p c.loop-p-test.false c.loop-p.invariant
