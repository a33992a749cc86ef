-- The means of a player as they are written, and a player more.
use Rattle.std.proofs.Common.{◌≡◌, ℕ, ◌+◌, ◌<◌, ◌≤◌, ap, ap₂, subst, ◌∙◌, Ok, Err, Some, List, ◌∷◌, ◌++◌, map, length, drop, get_or, slice_get, All}
use Rattle.std.proofs.lemmas.List.{drop_all, drop_more}
use Rattle.std.proofs.lemmas.Option.{get_or_from_slice_get, slice_get_within}
use Rattle.zr_base.specs.declared.step.Wide.{Wide}
use Rattle.zr_base.specs.Fractions.{Fraction}
use Rattle.zr_base.specs.Made.{Writes, made_from}
use Rattle.zr_base.proofs.Made.{were_ok, were_wide}
use Rattle.zr_base.proofs.Members.{all_found}
use Rattle.zr_game.specs.Forms.{IsPlayer}
use Rattle.zr_game.specs.Players.{GameOf, PlayerOf}
use Rattle.zr_game.specs.Profiles.{IsStrategy, Part}
use Rattle.zr_game.proofs.Items.{found}
use Rattle.zr_mix.specs.declared.mixture.Strategy.{Strategy}
use Rattle.zr_mix.specs.Mixtures.{parts_of}
use Rattle.zr_mix.specs.Steps.{mean_steps}
use Rattle.zr_cert.specs.Certs.{MixtureOf, mixture_of}
use Rattle.zr_cert.specs.Forms.{IsMixtureForm}
use Rattle.zr_check.specs.Bounds.{all_means}
use Rattle.zr_check.specs.Parts.{mean_list}
use Rattle.zr_check.proofs.MadeLists.{strategy_is}
use Rattle.zr_costs.specs.declared.stop.Halt.{Halt}
use Rattle.zr_costs.specs.declared.stop.Halt.TheVariants as AHalt
use Rattle.zr_best.specs.Best.{ArePlayed}
use Rattle.zr_costs.specs.Halts.{IsHalt}
use Rattle.zr_costs.proofs.MeansLists.{after, all_players, one_player, wide_player}

-- each point of a strategy has as many values as the player has variables
pub lengths : (player : PlayerOf) (parts : List Part) (n : ℕ) → IsStrategy player parts
    → length player.vars ≡ n
    → All (λ part. length part.point.num ≡ n) parts
lengths player parts n s e k d h = (s.points k d h).len ∙ e

pub made_ok : (player : PlayerOf) (m : MixtureOf) (n : ℕ) (out : List Fraction)
    → n ≡ length player.vars
    → Writes (made_from (mean_steps m.total m.parts) 0 n) (Ok tt) out → mean_list player m ≡ Ok out
made_ok player m n out e h =
    were_ok (mean_list player m) out
    (subst (λ k. Writes (made_from (mean_steps m.total m.parts) 0 k) (Ok tt) out) e h)

pub made_wide : (player : PlayerOf) (m : MixtureOf) (n : ℕ) (w : Wide) (out : List Fraction)
    → n ≡ length player.vars
    → Writes (made_from (mean_steps m.total m.parts) 0 n) (Err w) out → mean_list player m ≡ Err w
made_wide player m n w out e h =
    were_wide (mean_list player m) w out
    (subst (λ k. Writes (made_from (mean_steps m.total m.parts) 0 k) (Err w) out) e h)

-- the strategy of a number
module _ (game : GameOf) (list : List Strategy) (played : ArePlayed game (map mixture_of list))
    (i : ℕ) (s : Strategy) (within : i < length list) (is : s ≡ get_or list i s) where
  pub at : slice_get (map mixture_of list) i ≡ Some (mixture_of s)
  at = found mixture_of list i s within is

  pub form_at : IsMixtureForm (mixture_of s)
  form_at = all_found IsMixtureForm (map mixture_of list) i (mixture_of s) played.forms at

  pub strategy_at : (player : PlayerOf) → IsPlayer game i player → IsStrategy player (parts_of s)
  strategy_at player here =
      subst (IsStrategy player) (strategy_is (map mixture_of list) i (mixture_of s) at)
      (played.valid.strategies i player here)

  left_over : drop i (map mixture_of list) ≡ mixture_of s ∷ drop (i + 1) (map mixture_of list)
  left_over =
      drop_more (map mixture_of list) i (mixture_of s)
      (slice_get_within (map mixture_of list) i (mixture_of s) at)
      ∙ ap (λ (m : MixtureOf). m ∷ drop (i + 1) (map mixture_of list))
      (get_or_from_slice_get (map mixture_of list) i (mixture_of s) (mixture_of s) at)

  players_left : (player : PlayerOf) → IsPlayer game i player
      → drop i game ≡ player ∷ drop (i + 1) game
  players_left player here =
      drop_more game i player (slice_get_within game i player here)
      ∙ ap (λ (p : PlayerOf). p ∷ drop (i + 1) game)
      (get_or_from_slice_get game i player player here)

  split : (made : List Fraction) (player : PlayerOf) → IsPlayer game i player
      → after made (all_means (drop i game) (drop i (map mixture_of list)))
      ≡ after made (all_means (player ∷ drop (i + 1) game)
      (mixture_of s ∷ drop (i + 1) (map mixture_of list)))
  split made player here =
      ap₂ (λ (g : GameOf) (ms : List MixtureOf). after made (all_means g ms))
      (players_left player here) left_over

  pub more : (made own : List Fraction) (player : PlayerOf) → IsPlayer game i player
      → mean_list player (mixture_of s) ≡ Ok own
      → all_means game (map mixture_of list)
      ≡ after made (all_means (drop i game) (drop i (map mixture_of list)))
      → all_means game (map mixture_of list)
      ≡ after (made ++ own) (all_means (drop (i + 1) game) (drop (i + 1) (map mixture_of list)))
  more made own player here e so_far =
      so_far ∙ split made player here
      ∙ one_player (drop (i + 1) game) (drop (i + 1) (map mixture_of list)) made own player
      (mixture_of s) e

  pub wide : (made : List Fraction) (w : Wide) (player : PlayerOf) → IsPlayer game i player
      → mean_list player (mixture_of s) ≡ Err w
      → all_means game (map mixture_of list)
      ≡ after made (all_means (drop i game) (drop i (map mixture_of list)))
      → all_means game (map mixture_of list) ≡ Err w
  wide made w player here e so_far =
      so_far ∙ split made player here
      ∙ wide_player (drop (i + 1) game) (drop (i + 1) (map mixture_of list)) made player
      (mixture_of s) w e

  pub halted : (made : List Fraction) (player : PlayerOf) → IsPlayer game i player → (h : Halt)
      → IsHalt (mean_list player (mixture_of s)) h
      → all_means game (map mixture_of list)
      ≡ after made (all_means (drop i game) (drop i (map mixture_of list)))
      → IsHalt (all_means game (map mixture_of list)) h
  halted made player here AHalt.NoMemory e so_far = tt
  halted made player here (AHalt.Wide w) e so_far = wide made w player here e so_far

-- after the last player
pub done : (game : GameOf) (mixtures : List MixtureOf) (i : ℕ) (made : List Fraction)
    → length game ≤ i
    → all_means game mixtures ≡ after made (all_means (drop i game) (drop i mixtures))
    → all_means game mixtures ≡ Ok made
done game mixtures i made past e =
    e ∙ ap (λ (g : GameOf). after made (all_means g (drop i mixtures))) (drop_all i game past)
    ∙ all_players made (drop i mixtures)
