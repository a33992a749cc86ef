use Rattle.std.proofs.Common.{inl, inr, ⊎_elim, ℕ}
use Rattle.std.specs.List.{Contains}
use Rattle.zr_game.specs.declared.choice.Choice.TheVariants.{Off, On, Which}
use Rattle.zr_refute.proofs.open.is_player_decided.Goals as goal

pub returns-else-has_which : goal.returns-else-has_which
returns-else-has_which c = (
  λ t. let s = c.has_side.ensures.0 t in
      (s.0, ⊎_elim (λ on. inl on) (λ off. inr (inl off)) s.1),
  λ d. ⊎_elim (λ (on : Contains c.args.path.now (On c.args.i d.0)). c.has_side.ensures.1
      (d.0, inl on)) (λ o. ⊎_elim
      (λ (off : Contains c.args.path.now (Off c.args.i d.0)). c.has_side.ensures.1
      (d.0, inr off)) (λ (w : (l : ℕ) × Contains c.args.path.now (Which c.args.i l)).
      let t = c.has_which.ensures.1 w in absurd cc) o) d.1,
)
