-- A certificate that passes is right, and no step of its check is too wide.
use Rattle.std.proofs.Common.{◌≡◌, ℕ, suc, ◌-◌, ◌<◌, ◌≤◌, arith, refl, sym, subst, ◌∙◌, ℤ, Some, List, length, get_or, slice_get, All, ◌⊎◌, ⊎_elim}
use Rattle.std.proofs.lemmas.Bool.{cases_lt}
use Rattle.std.proofs.lemmas.List.{length-map}
use Rattle.std.proofs.lemmas.List.Elements.{All-map}
use Rattle.std.proofs.lemmas.Option.{slice_get-get_or, slice_get_within}
use Rattle.zr_base.proofs.Members.{all_found}
use Rattle.zr_game.specs.Players.{GameOf, PlayerOf}
use Rattle.zr_game.specs.Forms.{IsGame, IsPlayer}
use Rattle.zr_game.specs.Leaves.{Bound, bound_with, root_leaf}
use Rattle.zr_game.specs.Profiles.{IsOfKind, IsProfile, IsStrategy, Part, Strategy, total}
use Rattle.zr_game.specs.declared.kind.Kind.{Kind}
use Rattle.zr_game.specs.declared.kind.Kind.TheVariants.{Pure, Mixed}
use Rattle.zr_game.proofs.Items.{at_number, one}
use Rattle.zr_tree.specs.Nodes.{NodeOf}
use Rattle.zr_tree.specs.Right.{ProvesRow}
use Rattle.zr_tree.specs.Steps.{HasWideProof, IsWideForRow}
use Rattle.zr_tree.proofs.Forests.{same_tree}
use Rattle.zr_tree.proofs.PassLaws.{right_if}
use Rattle.zr_boxes.specs.Boxes.{root_box}
use Rattle.zr_boxes.specs.Steps.{HasWideBox}
use Rattle.zr_boxes.proofs.Forests.{same_tree as same_boxes}
use Rattle.zr_boxes.proofs.PassLaws.{right_if as boxes_right}
use Rattle.zr_cert.specs.Certs.{BoundOf, BoxVerdict, CertOf, CoverVerdict, EmptyVerdict, MixtureOf, ProfileVerdict, VerdictOf, profile_with}
use Rattle.zr_cert.specs.Forms.{IsCert, IsEmptyNode, IsMixtureForm, IsTreeWith, IsVerdictForm}
use Rattle.zr_check.specs.Right.{AreRightStrategies, IsRightBound, IsRightCert, IsRightProfile, IsRightVerdict, IsEmptyTree, IsRowTree}
use Rattle.zr_check.specs.Truth.{IsTrueVerdict}
use Rattle.zr_check.specs.Parts.{PartPasses, StrategiesPass}
use Rattle.zr_check.specs.Bounds.{BoundPasses, BoundsPass, TreePasses, no_point}
use Rattle.zr_check.specs.Checks.{CertPasses, VerdictPasses}
use Rattle.zr_check.specs.WideSteps.{HasWideCost, HasWidePart, HasWideStep, HasWideTree, IsWideTree, VerdictIsWide}
use Rattle.zr_check.proofs.CoverRights.{narrow_cover, right_cover}
use Rattle.zr_check.proofs.Refuted.{refuted_if_right}
use Rattle.zr_check.proofs.Truths.{true_of_right}
use Rattle.zr_check.proofs.MadeLists.{mixture_at, strategy_is}
use Rattle.zr_check.proofs.MadeCosts.{claim_of_cost, made_or_wide, one_made}

-- the tree that passes is right, and no step of it is too wide
pub proves_if_passes : (player : PlayerOf) (row : Bound) (nodes : List NodeOf) → TreePasses player row nodes → IsRowTree player row nodes
proves_if_passes player row nodes p =
    let passed = right_if (ProvesRow player row) (IsWideForRow player row) player p.0 (root_leaf player) p.2 in
    record { tree = p.0; listed = p.1; right = passed.0 }

pub narrow_if_passes : (player : PlayerOf) (row : Bound) (nodes : List NodeOf) → TreePasses player row nodes → IsWideTree player row nodes → ⊥
narrow_if_passes player row nodes p w =
    (right_if (ProvesRow player row) (IsWideForRow player row) player p.0 (root_leaf player) p.2).1 (subst (HasWideProof player row (root_leaf player)) (same_tree w.0 p.0 (w.1 ∙ sym p.1)) w.2)

module _ (game : GameOf) (kind : Kind) (mixtures : List MixtureOf) (len : length mixtures ≡ length game) (forms : All IsMixtureForm mixtures) (pass : StrategiesPass game kind mixtures) where
  -- a part of a number passes
  part_at : (i : ℕ) (player : PlayerOf) → IsPlayer game i player → (m : MixtureOf) → slice_get mixtures i ≡ Some m → (k : ℕ) (d : Part) → k < length m.parts → PartPasses kind player m k (get_or m.parts k d)
  part_at i player is m found k d h = pass i player is m found k (get_or m.parts k d) (slice_get-get_or m.parts k d h)

  strategy_passes : (i : ℕ) (player : PlayerOf) → IsPlayer game i player → (m : MixtureOf) → slice_get mixtures i ≡ Some m → IsStrategy player m.parts
  strategy_passes i player is m found =
      let form = all_found IsMixtureForm mixtures i m forms found in
      record {
        some = form.some;
        weights = λ k d h. (form.parts k d h).weight.0;
        points = λ k d h. (part_at i player is m found k d h).2.feasible;
      }

  pub profile_passes : IsProfile game (profile_with mixtures)
  profile_passes = record {
    len = length-map mixtures (λ m. m.parts) ∙ len;
    strategies = λ i player is. let m = mixture_at game mixtures len i player is in subst (IsStrategy player) (sym (strategy_is mixtures i m.0 m.1)) (strategy_passes i player is m.0 m.1);
  }

  player_of_mixture : (k : ℕ) → k < length mixtures → (player : PlayerOf) × IsPlayer game k player
  player_of_mixture k h = at_number game k (omega (arith, h, len))

  pub totals_pass : All (λ m. m.total ≡ total m.parts) mixtures
  totals_pass k d h =
      let m = get_or mixtures k d in
      let player = player_of_mixture k h in
      let found = slice_get-get_or mixtures k d h in
      let some = (forms k d h).some in
      let last : suc (length m.parts - 1) ≡ length m.parts = omega (arith, some) in
      let part = at_number m.parts (length m.parts - 1) (omega (arith, some)) in
      (pass k player.0 player.1 m found (length m.parts - 1) part.0 part.1).2.whole last

one_alone : (game : GameOf) (mixtures : List MixtureOf) → length mixtures ≡ length game → All IsMixtureForm mixtures → StrategiesPass game Pure mixtures → All (λ m. length m.parts ≡ 1) mixtures
one_alone game mixtures len forms pass k d h =
    let m = get_or mixtures k d in
    let player = at_number game k (omega (arith, h, len)) in
    let found = slice_get-get_or mixtures k d h in
    let some = (forms k d h).some in
    ⊎_elim (λ (b : 1 < length m.parts). let part = at_number m.parts 1 b in let z = (pass k player.0 player.1 m found 1 part.0 part.1).2.alone refl in absurd (omega (arith, z))) (λ (b : length m.parts ≤ 1). omega (arith, b, some)) (cases_lt 1 (length m.parts))

pub kind_passes : (game : GameOf) (kind : Kind) (mixtures : List MixtureOf) → length mixtures ≡ length game → All IsMixtureForm mixtures → StrategiesPass game kind mixtures → IsOfKind kind (profile_with mixtures)
kind_passes game Pure mixtures len forms pass =
    All-map (λ (parts : Strategy). length parts ≡ 1) (λ (m : MixtureOf). m.parts) mixtures (one_alone game mixtures len forms pass)
kind_passes game Mixed mixtures len forms pass = tt

-- strategies that pass are right
pub right_strategies : (game : GameOf) (kind : Kind) (mixtures : List MixtureOf) → length mixtures ≡ length game → All IsMixtureForm mixtures → StrategiesPass game kind mixtures → AreRightStrategies game kind mixtures
right_strategies game kind mixtures len forms pass = record {
  valid = profile_passes game kind mixtures len forms pass;
  of_kind = kind_passes game kind mixtures len forms pass;
  totals = totals_pass game kind mixtures len forms pass;
}

module _ (game : GameOf) (form : IsGame game) (kind : Kind) (mixtures : List MixtureOf) (bounds : List BoundOf) (len : length mixtures ≡ length game) (forms : All IsMixtureForm mixtures) (lens : length bounds ≡ length game) (pass : StrategiesPass game kind mixtures) (bounds_pass : BoundsPass game mixtures bounds) where
  bound_passes : (i : ℕ) (player : PlayerOf) → IsPlayer game i player → (bound : BoundOf) → BoundPasses game mixtures i player bound → IsRightBound player i (profile_with mixtures) bound
  bound_passes i player is bound p =
      let valid = profile_passes game kind mixtures len forms pass in
      let totals = totals_pass game kind mixtures len forms pass in
      let made = claim_of_cost game form mixtures len forms totals valid i player is bound.cost p.0 p.1 p.2 in
      record {
        cost = made.1.same;
        left = p.0;
        right = p.1;
        claim = made.0;
        proof = proves_if_passes player (bound_with p.0 p.1) bound.tree p.3;
      }

  pub right_profile : IsRightProfile game kind mixtures bounds
  right_profile = record {
    strategies = right_strategies game kind mixtures len forms pass;
    bounds_of = λ i player is. let b = at_number bounds i (let h = slice_get_within game i player is in omega (arith, h, lens)) in (b.0, b.1, bound_passes i player is b.0 (bounds_pass i player is b.0 b.1));
  }

  narrow_parts : HasWidePart game mixtures → ⊥
  narrow_parts w = (pass w.i w.player w.is_player w.mixture w.is_mixture w.k w.part w.is_part).1 w.wide

  narrow_costs : HasWideCost game mixtures → ⊥
  narrow_costs w =
      let b = at_number bounds w.0 (let h = slice_get_within game w.0 w.1 w.2 in omega (arith, h, lens)) in
      let p = bounds_pass w.0 w.1 w.2 b.0 b.1 in
      made_or_wide game mixtures w.0 w.1 b.0.cost p.0 p.1 p.2 w.3

  narrow_trees : HasWideTree game mixtures bounds → ⊥
  narrow_trees w =
      let p = bounds_pass w.i w.player w.is_player w.bound w.is_bound in
      let same = one_made game mixtures w.i w.player w.value w.bound.cost w.left p.0 w.right p.1 w.made p.2 in
      narrow_if_passes w.player (bound_with p.0 p.1) w.bound.tree p.3 (subst (λ (r : ℤ). IsWideTree w.player (bound_with p.0 r) w.bound.tree) same.2 (subst (λ (l : List ℤ). IsWideTree w.player (bound_with l w.right) w.bound.tree) same.1 w.wide))

  pub narrow_profile : VerdictIsWide game kind (ProfileVerdict mixtures bounds) → ⊥
  narrow_profile w =
      ⊎_elim narrow_parts (λ (v : HasWideCost game mixtures ⊎ HasWideTree game mixtures bounds). ⊎_elim narrow_costs narrow_trees v) w

empty_if_passes : (player : PlayerOf) (nodes : List NodeOf) → IsTreeWith IsEmptyNode nodes → TreePasses player (no_point player) nodes → IsEmptyTree player nodes
empty_if_passes player nodes form p =
    let proof = proves_if_passes player (no_point player) nodes p in
    record { tree = proof.tree; listed = proof.listed; refuted = refuted_if_right player (no_point player) proof.tree (root_leaf player) (subst (All IsEmptyNode) (sym proof.listed) form.each) proof.right }

module _ (game : GameOf) (form : IsGame game) (kind : Kind) where
  verdict_right : (verdict : VerdictOf) → IsVerdictForm (length game) verdict → VerdictPasses game kind verdict → IsRightVerdict game kind verdict
  verdict_right (ProfileVerdict mixtures bounds) v p =
      right_profile game form kind mixtures bounds v.0 v.1 v.2 p.0 p.1
  verdict_right (CoverVerdict covers named proof) v p = right_cover game kind covers named proof v p
  verdict_right (BoxVerdict nodes) v p =
      (p.0, record { tree = p.1.0; listed = p.1.1; right = (boxes_right game p.1.0 (root_box game) p.1.2).0 })
  verdict_right (EmptyVerdict i nodes) v p = (p.0, p.1, empty_if_passes p.0 nodes v.1 p.2)

  verdict_narrow : (verdict : VerdictOf) → IsVerdictForm (length game) verdict → VerdictPasses game kind verdict → VerdictIsWide game kind verdict → ⊥
  verdict_narrow (ProfileVerdict mixtures bounds) v p w =
      narrow_profile game form kind mixtures bounds v.0 v.1 v.2 p.0 p.1 w
  verdict_narrow (CoverVerdict covers named proof) v p w =
      narrow_cover game kind covers named proof v p w
  verdict_narrow (BoxVerdict nodes) v p w =
      (boxes_right game p.1.0 (root_box game) p.1.2).1 (subst (HasWideBox game (root_box game)) (same_boxes w.0 p.1.0 (w.1 ∙ sym p.1.1)) w.2)
  verdict_narrow (EmptyVerdict i nodes) v p w =
      let same = one game i w.0 p.0 w.1 p.1 in
      narrow_if_passes p.0 (no_point p.0) nodes p.2 (subst (λ (player : PlayerOf). IsWideTree player (no_point player) nodes) same w.2)

module _ (game : GameOf) (form : IsGame game) (c : CertOf) (cert : IsCert c) (pass : CertPasses game c) where
  verdict_form : IsVerdictForm (length game) c.verdict
  verdict_form = subst (λ n. IsVerdictForm n c.verdict) pass.0 cert.verdict

  -- a certificate that passes is right
  pub right_if_passes : IsRightCert game c
  right_if_passes = record { players = pass.0; verdict = verdict_right game form c.kind c.verdict verdict_form pass.1 }

  -- no step of its check is too wide
  pub narrow_if_cert_passes : HasWideStep game c → ⊥
  narrow_if_cert_passes w = verdict_narrow game form c.kind c.verdict verdict_form pass.1 w

  -- its verdict is true
  pub true_if_passes : IsTrueVerdict game c.kind c.verdict
  true_if_passes = true_of_right game form c right_if_passes
