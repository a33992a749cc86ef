use Rattle.std.proofs.Common.{◌≡◌, ℕ, ◌<◌, true, false, Ok, Err, Result, IfErr, arith, refl, sym, is_ok, is_err, length, ◌∙◌}
use Rattle.zr_base.specs.declared.step.Wide.{Wide}
use Rattle.zr_game.specs.Games.{game_of}
use Rattle.zr_game.specs.Named.{named_of}
use Rattle.zr_system.specs.declared.unknown.Unknown.TheVariants.{Share}
use Rattle.zr_system.specs.Regions.{var_count}
use Rattle.zr_system.proofs.NarrowItems.{made, none_wide, wide_one, wide_share}
use Rattle.zr_system.proofs.narrow.item_is_narrow.Goals as goal

error : {A : Type 0} (r : Result A Wide) → is_err r ≡ true → (w : Wide) × (r ≡ Err w)
error (Ok a) e = absurd cc
error (Err w) e = (w, refl)

of_error : {A : Type 0} (P : Wide → Type 0) (r : Result A Wide) → is_err r ≡ true → IfErr r P
    → (w : Wide) × P w
of_error P (Ok a) e h = absurd cc
of_error P (Err w) e h = (w, h)

no_error : {A : Type 0} (r : Result A Wide) (w : Wide) → is_ok r ≡ true → r ≡ Err w → ⊥
no_error (Ok a) w e f = absurd cc
no_error (Err u) w e f = absurd cc

not_ok : {A : Type 0} (r : Result A Wide) → is_ok r ≡ false → is_err r ≡ true
not_ok (Ok a) e = absurd cc
not_ok (Err w) e = refl

pub returns-then-is_err-clause-wide : goal.returns-then-is_err-clause-wide
returns-then-is_err-clause-wide c e leaves have =
    let game = game_of c.args.game.now in
    let item = named_of c.args.item.now in
    let j = c.loop-j.j in
    let player : j < length game = omega
    (arith, c.player_count-j-end.ensures.count, c.loop-j-test.true) in
    let r = of_error (λ w. (v : ℕ) × (v < var_count game j)
    × (made game c.args.i item (Share j 0 v) ≡ Err w)) c.share_sums.result
    (sym c.is_err.ensures.value ∙ c.if-is_err.true) c.share_sums.ensures.wide in (
      r.0,
      wide_share game c.args.i item leaves have j r.1.0 r.0 player r.1.1 r.1.2,
    )

pub returns-clause-narrow : goal.returns-clause-narrow
returns-clause-narrow c e leaves w wide =
    none_wide (game_of c.args.game.now) c.args.i (named_of c.args.item.now) leaves
    (λ j v w player var f. c.loop-j.invariant j v w
    (omega (arith, player, c.player_count-j-end.ensures.count, c.loop-j-test.false)) var f)
    (λ w f. no_error c.along_number.result w (sym c.is_ok.ensures.value ∙ e)
    (c.along_number.ensures.steps ∙ rw c.var_count.ensures.count f)) w wide

pub returns-clause-wide : goal.returns-clause-wide
returns-clause-wide c e leaves have =
    let r = error c.along_number.result (not_ok c.along_number.result
    (sym c.is_ok.ensures.value ∙ e)) in (
      r.0,
      wide_one (game_of c.args.game.now) c.args.i (named_of c.args.item.now) leaves r.0
          (rw (← c.var_count.ensures.count) (sym c.along_number.ensures.steps ∙ r.1)),
    )
