use Rattle.std.proofs.Common.{rules, arith, ◌≡◌, ◌∙◌, sym, ap, subst, ℤ, pos, neg_ℤ, ◌-ℤ◌, List, Ok, Err, All, length, drop, FitsSigned, to_z, of_z}
use Rattle.std.specs.Int.{w128}
use Rattle.std.proofs.lemmas.Int.{ints, to_z-of_z}
use Rattle.std.proofs.lemmas.List.{length-map, take_at}
use Rattle.zr_base.specs.Fractions.{Fraction, whole}
use Rattle.zr_base.specs.Steps.{IsNarrow}
use Rattle.zr_game.specs.Games.{game_of}
use Rattle.zr_game.specs.Forms.{IsPlayer}
use Rattle.zr_game.specs.Players.{PlayerOf, player_of, var_of}
use Rattle.zr_game.proofs.Items.{found, one, read_below}
use Rattle.zr_mix.specs.Claims.{IsClaim}
use Rattle.zr_mix.specs.Steps.{GivesClaim, claim_steps}
use Rattle.zr_best.specs.Aims.{IsAimMade, slope_list}
use Rattle.zr_best.proofs.AimSteps.{aim_made, all_turned_narrow, claim_wide, given, given_wide, slope_made}
use Rattle.zr_best.proofs.ClaimSteps.{WithZero, with_zero}
use Rattle.zr_best.proofs.aim.aim_of.Goals as goal
use Rattle.zr_best.proofs.aim.aim_of.Goals.{After-claim, In-Ok-claim}

module _ (c : After-claim) where
  is_player : IsPlayer (game_of c.args.game.now) c.args.i (player_of c.index.result.now)
  is_player =
      found player_of c.args.game.now.players.items c.args.i c.index.result.now
      (read_below player_of c.args.game.now.players.items c.args.i c.requires.number) c.index.ensures

  count : (player : PlayerOf) → IsPlayer (game_of c.args.game.now) c.args.i player
      → length c.deref_mut.result.now ≡ length player.vars
  count player is =
      let same = one (game_of c.args.game.now) c.args.i (player_of c.index.result.now) player is_player is in
      let m = length-map c.index.result.now.vars.items var_of in
      let v = ap length c.deref_mut.ensures.value in
      let n : length c.deref_mut.result.now ≡ length (player_of c.index.result.now).vars =
      omega (arith, v, m, c.in-Ok.ensures, c.len-count.ensures, c.index.result.now.vars.ok.0) in
      subst (λ (p : PlayerOf). length c.deref_mut.result.now ≡ length p.vars) same n

  slopes_are : c.deref.result.now ≡ c.slope.new.out
  slopes_are =
      let v = ap length c.deref_mut.ensures.value in
      let a = c.slope.auto.out in
      let k = c.in-Ok.slopes.ok.0 in
      c.deref.ensures.value
      ∙ take_at c.slope.new.out (drop (length c.slope.new.out) c.in-Ok.slopes.items) c.in-Ok.slopes.len
      (omega (arith, v, a, k))

  slope_is : (player : PlayerOf) → IsPlayer (game_of c.args.game.now) c.args.i player
      → slope_list (game_of c.args.game.now) player c.args.means.now ≡ Ok c.deref.result.now
  slope_is player is =
      slope_made (game_of c.args.game.now) player c.args.means.now (length c.deref_mut.result.now) c.slope.new.out
      (count player is) (c.in_default-slope.ensures.steps player is) ∙ ap Ok (sym slopes_are)

module _ (c : In-Ok-claim) where
  claim_is : claim_steps c.deref.result.now (whole (pos 1)) ≡ Ok (c.claim.new.out, c.in-Ok-claim.right)
  claim_is =
      given (claim_steps c.deref.result.now (whole (pos 1))) c.claim.new.out c.in-Ok-claim.right
      (subst (λ (f : Fraction). GivesClaim (claim_steps c.deref.result.now f) (Ok c.in-Ok-claim.right) c.claim.new.out)
      c.from.ensures.0 c.in-Ok-claim.ensures.steps)

  exact : (m : ℤ) × IsClaim c.deref.result.now (whole (pos 1)) m c.claim.new.out c.in-Ok-claim.right
  exact =
      subst (λ (f : Fraction). (m : ℤ) × IsClaim c.deref.result.now f m c.claim.new.out c.in-Ok-claim.right)
      c.from.ensures.0 c.in-Ok-claim.ensures.exact

  both : WithZero c.deref.result.now c.claim.new.out c.in-Ok-claim.right
  both = with_zero c.deref.result.now c.claim.new.out c.in-Ok-claim.right claim_is

  right_fits : FitsSigned w128 c.in-Ok-claim.right
  right_fits = let n = both.narrow in omega (arith, ints, n)

  turned_fits : FitsSigned w128 (pos 0 -ℤ c.in-Ok-claim.right)
  turned_fits = let n = both.narrow in omega (arith, ints, n)

pub turned-requires : goal.turned-requires
turned-requires c =
    let at = (goal.at.turned-requires c).In-Ok-claim in
    let v = ap length c.deref_mut-2.ensures.value in
    let a = c.claim.auto.out in
    let k = c.in-Ok-vec.left.ok.0 in
    let left : c.deref-in-Ok-claim.result.now ≡ c.claim.new.out =
    c.deref-in-Ok-claim.ensures.value
    ∙ take_at c.claim.new.out (drop (length c.claim.new.out) c.in-Ok-vec.left.items) c.in-Ok-vec.left.len
    (omega (arith, v, a, k)) in
    subst (All IsNarrow) (sym left) (both at).numbers

pub overflow_sub-result : goal.overflow_sub-result
overflow_sub-result c =
    let at = (goal.at.overflow_sub-result c).In-Ok-claim in
    let f = right_fits at in
    simp to_z-of_z (turned_fits at)

pub returns-in-Ok-turned-clause-ok : goal.returns-in-Ok-turned-clause-ok
returns-in-Ok-turned-clause-ok c player is =
    let at = (goal.at.returns-in-Ok-turned-clause-ok c).In-Ok-claim in
    let on = (goal.at.returns-in-Ok-turned-clause-ok c).After-claim in
    let v = ap length c.deref_mut-2.ensures.value in
    let a = c.claim.auto.out in
    let k = c.in-Ok-vec.left.ok.0 in
    let left : c.deref-in-Ok-claim.result.now ≡ c.claim.new.out =
    c.deref-in-Ok-claim.ensures.value
    ∙ take_at c.claim.new.out (drop (length c.claim.new.out) c.in-Ok-vec.left.items) c.in-Ok-vec.left.len
    (omega (arith, v, a, k)) in
    let f = right_fits at in
    let g = turned_fits at in
    let z : pos 0 -ℤ c.in-Ok-claim.right ≡ neg_ℤ c.in-Ok-claim.right = omega (arith, ints) in
    let by : to_z w128 (of_z w128 (pos 0 -ℤ to_z w128 (of_z w128 c.in-Ok-claim.right))) ≡ neg_ℤ c.in-Ok-claim.right =
    simp to_z-of_z z in
    let numbers = rw left at c.in-Ok-turned.ensures in
    record {
      made = subst (λ (b : ℤ). IsAimMade (game_of c.args.game.now) player c.args.means.now b c.in-Ok-turned.numbers.items)
          (sym by) (aim_made (game_of c.args.game.now) player c.args.means.now c.deref.result.now c.claim.new.out
          c.in-Ok-turned.numbers.items c.in-Ok-claim.right (slope_is on player is) (claim_is at) (exact at) numbers);
      narrow = subst (All IsNarrow) (sym numbers) (all_turned_narrow c.claim.new.out (both at).numbers);
      by_narrow = subst IsNarrow (sym by) (both at).narrow;
    }

pub returns-clause-err : goal.returns-clause-err
returns-clause-err c player is =
    let on = (goal.at.returns-clause-err c).After-claim in
    claim_wide (game_of c.args.game.now) player c.args.means.now c.deref.result.now c.in-Err-claim.wide
    (slope_is on player is)
    (given_wide (claim_steps c.deref.result.now (whole (pos 1))) c.claim.new.out c.in-Err-claim.wide
    (subst (λ (f : Fraction). GivesClaim (claim_steps c.deref.result.now f) (Err c.in-Err-claim.wide) c.claim.new.out)
    c.from.ensures.0 c.in-Err-claim.ensures.steps))
