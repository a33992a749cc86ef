use Rattle.std.proofs.Common.{◌≡◌, ℕ, ◌<◌, arith, refl, subst, ⊎_elim}
use Rattle.std.specs.List.{Contains}
use Rattle.std.proofs.lemmas.Bool.{cases_eq}
use Rattle.zr_game.specs.declared.choice.Choice.TheVariants.{Which}
use Rattle.zr_game.specs.Games.{game_of}
use Rattle.zr_system.specs.Regions.{leaf_count, leaves_of}
use Rattle.zr_comp.proofs.Paths.{undecided}
use Rattle.zr_comp.proofs.first.player_case.Goals as goal

pub returns-clause-some : goal.returns-clause-some
returns-clause-some c = (
  refl,
  c.requires.player,
  undecided (game_of c.args.game.now) (leaves_of c.args.leaves.now) c.args.path.now c.args.i
      c.requires.exist c.requires.path
      (λ k h has. c.loop-k.invariant k
      (let p : k < leaf_count (leaves_of c.args.leaves.now) c.args.i = h in
      let e = c.loop-k-test.false in
      omega (arith, p, e, c.leaf_count-k-end.ensures.count, c.leaf_count-k-end.ensures.few)) has),
)

pub loop-k-preserved : goal.loop-k-preserved
loop-k-preserved c = λ m h has.
    ⊎_elim (λ (e : m ≡ c.loop-k.k).
    let t = c.has.ensures.1 (subst (λ (n : ℕ). Contains c.args.path.now (Which c.args.i n)) e
    has) in
    let f = c.if-has.false in absurd cc)
    (λ (n : m ≡ c.loop-k.k → ⊥). c.loop-k.invariant m (omega (arith, h, n)) has)
    (cases_eq m c.loop-k.k)
