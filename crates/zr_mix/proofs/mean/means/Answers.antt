use Rattle.std.proofs.Common.{rules, FitsSigned, ◌≡◌, ℕ, ◌<◌, ℤ, ◌≤ℤ◌, List, arith, pos, length, sym, subst}
use Rattle.std.specs.Int.{w128}
use Rattle.std.proofs.lemmas.Int.{to_z-of_z}
use Rattle.std.proofs.lemmas.Result.{err_from_is_err_and}
use Rattle.zr_base.specs.Fractions.{Fraction, IsSame, over, whole}
use Rattle.zr_base.specs.Lowest.{IsLowest}
use Rattle.zr_base.specs.Points.{value_of}
use Rattle.zr_game.specs.Means.{mean}
use Rattle.zr_game.specs.Profiles.{Part as PartOf, total, weighted}
use Rattle.zr_game.proofs.Items.{All-of_map}
use Rattle.zr_mix.specs.Mixtures.{part_of, parts_of}
use Rattle.zr_mix.specs.Steps.{mean_steps}
use Rattle.zr_mix.specs.Values.{IsReduced}
use Rattle.zr_base.proofs.Made.{more_made, wide_made, writes_err}
use Rattle.zr_mix.proofs.mean.means.Goals as goal

pub mean_at-requires-clause-weights : goal.mean_at-requires-clause-weights
mean_at-requires-clause-weights c =
    rw c.deref.ensures.value (All-of_map part_of (λ (part : PartOf). (pos 1) ≤ℤ part.weight)
    c.args.strategy.now.parts.items c.requires.weights)

pub mean_at-requires-clause-places : goal.mean_at-requires-clause-places
mean_at-requires-clause-places c =
    let lengths = All-of_map part_of (λ (part : PartOf). length part.point.num ≡ length
    c.args.out.now) c.args.strategy.now.parts.items c.requires.lengths in
    rw c.deref.ensures.value (λ k d h. let e = lengths k d h in
    subst (λ n. c.loop-v.v < n) (sym e) c.loop-v-test.true)

pub returns-in_err-out-clause-steps : goal.returns-in_err-out-clause-steps
returns-in_err-out-clause-steps c =
    let p = err_from_is_err_and c.from_residual.result c.from_residual.ensures.1 in
    let t : FitsSigned w128 c.args.strategy.now.total = search rules in
    let e = simp to_z-of_z at (rw c.deref.ensures.value at c.in_err-out.ensures.steps) in
    let strategy = c.args.strategy.now in
    rw (p.1, p.2) (writes_err _ _ c.loop-v.out
    (wide_made (whole (pos 0)) (mean_steps strategy.total (parts_of strategy))
    (λ v f. strategy.total ≡ total (parts_of strategy)
    → IsReduced f (mean (parts_of strategy) v)) c.loop-v.out c.loop-v.v (length c.args.out.now)
    _ c.loop-v-test.true c.loop-v.invariant (sym e)))

kept : (parts : List PartOf) (t : ℤ) (v : ℕ) (f : Fraction) → IsLowest f
    → IsSame f (over (weighted parts (λ x. value_of x v)) t) → t ≡ total parts
    → IsReduced f (mean parts v)
kept parts t v f lowest same e = record {
  lowest = lowest;
  same = subst (λ n. IsSame f (over (weighted parts (λ x. value_of x v)) n)) e same;
}

pub loop-v-preserved : goal.loop-v-preserved
loop-v-preserved c =
    let strategy = c.args.strategy.now in
    let t : FitsSigned w128 c.args.strategy.now.total = search rules in
    let e = simp to_z-of_z at (rw c.deref.ensures.value at c.in_ok-out.ensures.steps) in
    let same = simp to_z-of_z at (rw c.deref.ensures.value at c.in_ok-out.ensures.exact) in
    more_made (whole (pos 0)) (mean_steps strategy.total (parts_of strategy))
    (λ v f. strategy.total ≡ total (parts_of strategy)
    → IsReduced f (mean (parts_of strategy) v)) c.loop-v.out c.loop-v.v c.in_ok-out.field-0
    (omega (arith, c.loop-v.auto.out, c.loop-v-test.true)) c.loop-v.invariant (sym e)
    (kept (parts_of strategy) strategy.total c.loop-v.v c.in_ok-out.field-0
    c.in_ok-out.ensures.lowest same)
