-- A right certificate passes where no step of its check is too wide.
use Rattle.std.proofs.Common.{◌≡◌, ◌↔◌, ℕ, suc, ◌-◌, arith, refl, subst, ℤ, Some, IsErr, Result, Ok, Err, List, [], ◌∷◌, ◌++◌, length, slice_get, All, inl, inr}
use Rattle.std.proofs.lemmas.Option.{slice_get_within}
use Rattle.zr_base.specs.declared.step.Wide.{Wide}
use Rattle.zr_base.specs.Fractions.{Fraction}
use Rattle.zr_base.proofs.Members.{all_found}
use Rattle.zr_game.specs.Players.{GameOf, PlayerOf}
use Rattle.zr_game.specs.Feasible.{IsFeasible}
use Rattle.zr_game.specs.Forms.{IsGame, IsPlayer}
use Rattle.zr_game.specs.Leaves.{Bound, bound_with, root_leaf}
use Rattle.zr_game.specs.Profiles.{IsOfKind, IsStrategy, Part, Strategy, expected_cost, total}
use Rattle.zr_game.specs.declared.kind.Kind.{Kind}
use Rattle.zr_game.specs.declared.kind.Kind.TheVariants.{Pure}
use Rattle.zr_game.proofs.Items.{All-of_map, at_number, one}
use Rattle.zr_tree.specs.Nodes.{NodeOf}
use Rattle.zr_tree.specs.Right.{IsRight, ProvesRow}
use Rattle.zr_tree.specs.Steps.{IsWideForRow}
use Rattle.zr_tree.specs.Trees.{TreeOf, preorder}
use Rattle.zr_tree.proofs.Descent.{right_if_refuted}
use Rattle.zr_tree.proofs.PassLaws.{passes_if}
use Rattle.zr_boxes.specs.Boxes.{root_box}
use Rattle.zr_boxes.proofs.PassLaws.{passes_if as boxes_pass_if}
use Rattle.zr_cert.specs.Certs.{BoundOf, BoxVerdict, CertOf, CoverVerdict, EmptyVerdict, MixtureOf, ProfileVerdict, VerdictOf, profile_with}
use Rattle.zr_cert.specs.Forms.{IsBoundForm, IsCert, IsMixtureForm, IsVerdictForm}
use Rattle.zr_check.specs.Right.{AreRightStrategies, IsRightBound, IsRightCert, IsRightHead, IsRightProfile, IsRightVerdict}
use Rattle.zr_check.specs.Parts.{IsWidePart, StrategiesPass, mean_list}
use Rattle.zr_check.specs.Bounds.{BoundPasses, BoundsPass, IsCostMade, TreePasses, all_means, cost_steps, no_point}
use Rattle.zr_check.specs.Checks.{CertPasses, HeadPasses, ProfilePasses, VerdictPasses}
use Rattle.zr_check.specs.WideSteps.{HasWidePart, HasWideStep, HeadIsWide, IsWideTree, VerdictIsWide}
use Rattle.zr_check.proofs.MadeLists.{strategy_is}
use Rattle.zr_check.proofs.MadeClaims.{in_lowest, one_claim, same_reduced}
use Rattle.zr_check.proofs.MadeCosts.{claim_of_cost}
use Rattle.zr_check.proofs.CoverRights.{cover_passes}
use Rattle.zr_check.proofs.Passing.{right_strategies}

-- steps of which none is too wide give a result
made_if : {A : Type 0} (r : Result A Wide) → (IsErr r → ⊥) → (a : A) × (r ≡ Ok a)
made_if (Ok a) narrow = (a, refl)
made_if (Err w) narrow = absurd (narrow refl)

joined : (p : PlayerOf) (ps : GameOf) (m : MixtureOf) (ms : List MixtureOf) (first rest : List Fraction) → mean_list p m ≡ Ok first → all_means ps ms ≡ Ok rest → all_means (p ∷ ps) (m ∷ ms) ≡ Ok (first ++ rest)
joined p ps m ms first rest e f = rw (e, f) refl

-- the means of all players, where each player's are made
all_made : (game : GameOf) (mixtures : List MixtureOf) → ((k : ℕ) (player : PlayerOf) (m : MixtureOf) → IsPlayer game k player → slice_get mixtures k ≡ Some m → IsErr (mean_list player m) → ⊥) → IsErr (all_means game mixtures) → ⊥
all_made [] mixtures each err = absurd cc
all_made (p ∷ ps) [] each err = absurd cc
all_made (p ∷ ps) (m ∷ ms) each err =
    let first = made_if (mean_list p m) (each 0 p m refl refl) in
    let rest = made_if (all_means ps ms) (all_made ps ms (λ k player other is found. each (suc k) player other is found)) in
    let h = subst (λ (r : Result (List Fraction) Wide). IsErr r) (joined p ps m ms first.0 rest.0 first.1 rest.1) err in
    absurd cc

-- a right tree passes
pub passes_if_right : (player : PlayerOf) (row : Bound) (nodes : List NodeOf) (t : TreeOf) → preorder t ≡ nodes → IsRight player row (root_leaf player) t → (IsWideTree player row nodes → ⊥) → TreePasses player row nodes
passes_if_right player row nodes t listed right narrow =
    (t, listed, passes_if (ProvesRow player row) (IsWideForRow player row) player t (root_leaf player) right (λ w. narrow (t, listed, w)))

alone_if : (kind : Kind) (mixtures : List MixtureOf) → IsOfKind kind (profile_with mixtures) → (i : ℕ) (m : MixtureOf) → slice_get mixtures i ≡ Some m → kind ≡ Pure → length m.parts ≡ 1
alone_if kind mixtures of_kind i m found pure =
    all_found (λ (other : MixtureOf). length other.parts ≡ 1) mixtures i m (All-of_map (λ (other : MixtureOf). other.parts) (λ (parts : Strategy). length parts ≡ 1) mixtures (subst (λ (k : Kind). IsOfKind k (profile_with mixtures)) pure of_kind)) found

module _ (game : GameOf) (kind : Kind) (mixtures : List MixtureOf) (right : AreRightStrategies game kind mixtures) (narrow : HasWidePart game mixtures → ⊥) where
  strategy_valid : (i : ℕ) (player : PlayerOf) → IsPlayer game i player → (m : MixtureOf) → slice_get mixtures i ≡ Some m → IsStrategy player m.parts
  strategy_valid i player is m found =
      subst (IsStrategy player) (strategy_is mixtures i m found) (right.valid.strategies i player is)

  narrow_part : (i : ℕ) (player : PlayerOf) → IsPlayer game i player → (m : MixtureOf) → slice_get mixtures i ≡ Some m → (k : ℕ) (part : Part) → slice_get m.parts k ≡ Some part → IsWidePart player m k part → ⊥
  narrow_part i player is m found k part here wide =
      let feasible = all_found (λ (other : Part). IsFeasible player other.point) m.parts k part (strategy_valid i player is m found).points here in
      narrow (record { i = i; player = player; is_player = is; mixture = m; is_mixture = found; k = k; part = part; is_part = here; of_length = feasible.len; wide = wide })

  pub strategies_pass : StrategiesPass game kind mixtures
  strategies_pass i player is m found k part here =
      let s = strategy_valid i player is m found in
      let feasible = all_found (λ (other : Part). IsFeasible player other.point) m.parts k part s.points here in (
        feasible.len,
        narrow_part i player is m found k part here,
        record {
          feasible = feasible;
          alone = λ pure. let one = alone_if kind mixtures right.of_kind i m found pure in let h = slice_get_within m.parts k part here in omega (arith, one, h);
          whole = λ last. all_found (λ (other : MixtureOf). other.total ≡ total other.parts) mixtures i m right.totals found;
        },
      )

  narrow_mean : (i : ℕ) (player : PlayerOf) (m : MixtureOf) → IsPlayer game i player → slice_get mixtures i ≡ Some m → IsErr (mean_list player m) → ⊥
  narrow_mean i player m is found err =
      let some = (strategy_valid i player is m found).some in
      let last : suc (length m.parts - 1) ≡ length m.parts = omega (arith, some) in
      let part = at_number m.parts (length m.parts - 1) (omega (arith, some)) in
      narrow_part i player is m found (length m.parts - 1) part.0 part.1 (inr (inr (last, err)))

module _ (game : GameOf) (form : IsGame game) (kind : Kind) (mixtures : List MixtureOf) (bounds : List BoundOf) (len : length mixtures ≡ length game) (forms : All IsMixtureForm mixtures) (bound_forms : All IsBoundForm bounds) (right : IsRightProfile game kind mixtures bounds) (narrow : VerdictIsWide game kind (ProfileVerdict mixtures bounds) → ⊥) where
  -- a bound's cost is made, and its tree passes for the claim that was made
  bound_passes : (i : ℕ) (player : PlayerOf) → IsPlayer game i player → (bound : BoundOf) → slice_get bounds i ≡ Some bound → IsRightBound player i (profile_with mixtures) bound → BoundPasses game mixtures i player bound
  bound_passes i player is bound found b =
      let profile = profile_with mixtures in
      let means = made_if (all_means game mixtures) (all_made game mixtures (narrow_mean game kind mixtures right.strategies (λ w. narrow (inl w)))) in
      let made = made_if (cost_steps game player i means.0) (λ err. narrow (inr (inl (i, player, is, (means.0, means.1, err))))) in
      let value = made.0.0 in
      let left = made.0.1.0 in
      let le = made.0.1.1 in
      let cost : IsCostMade game mixtures i player value left le = record { means = means.0; are_means = means.1; made = made.1 } in
      let claim = claim_of_cost game form mixtures len forms right.strategies.totals right.strategies.valid i player is value left le cost in
      let lowest = (all_found IsBoundForm bounds i bound bound_forms found).cost in
      let expected = expected_cost player i profile in
      let same = same_reduced value bound.cost expected (in_lowest value expected claim.1) (record { coprime = lowest.coprime; same = b.cost }) in
      let one = one_claim player i profile b.left left b.right le b.claim claim.0 in
      let proof = subst (λ (r : ℤ). IsRight player (bound_with left r) (root_leaf player) b.proof.tree) one.1 (subst (λ (l : List ℤ). IsRight player (bound_with l b.right) (root_leaf player) b.proof.tree) one.0 b.proof.right) in
      (left, le, subst (λ (f : Fraction). IsCostMade game mixtures i player f left le) same cost, passes_if_right player (bound_with left le) bound.tree b.proof.tree b.proof.listed proof (λ w. narrow (inr (inr (record { i = i; player = player; is_player = is; bound = bound; is_bound = found; value = value; left = left; right = le; made = cost; wide = w })))))

  pub bounds_pass : BoundsPass game mixtures bounds
  bounds_pass i player is bound found =
      let b = right.bounds_of i player is in
      let same : b.0 ≡ bound = one bounds i b.0 bound b.1 found in
      bound_passes i player is bound found (subst (IsRightBound player i (profile_with mixtures)) same b.2)

module _ (game : GameOf) (form : IsGame game) (kind : Kind) where
  verdict_passes : (verdict : VerdictOf) → IsVerdictForm (length game) verdict → IsRightVerdict game kind verdict → (VerdictIsWide game kind verdict → ⊥) → VerdictPasses game kind verdict
  verdict_passes (ProfileVerdict mixtures bounds) v right narrow =
      (strategies_pass game kind mixtures right.strategies (λ w. narrow (inl w)), bounds_pass game form kind mixtures bounds v.0 v.1 v.3 right narrow)
  verdict_passes (CoverVerdict covers named proof) v right narrow =
      cover_passes game kind covers named proof right narrow
  verdict_passes (BoxVerdict nodes) v right narrow =
      let b = right.1 in
      (right.0, (b.tree, b.listed, boxes_pass_if game b.tree (root_box game) b.right (λ w. narrow (b.tree, b.listed, w))))
  verdict_passes (EmptyVerdict i nodes) v right narrow =
      let player = right.0 in
      let proof = right.2 in
      (player, right.1, passes_if_right player (no_point player) nodes proof.tree proof.listed (right_if_refuted player (no_point player) proof.tree (root_leaf player) proof.refuted) (λ w. narrow (player, right.1, w)))

-- a right certificate passes
pub cert_passes : (game : GameOf) → IsGame game → (c : CertOf) → IsCert c → IsRightCert game c → (HasWideStep game c → ⊥) → CertPasses game c
cert_passes game form c cert right narrow =
    (right.players, verdict_passes game form c.kind c.verdict (subst (λ n. IsVerdictForm n c.verdict) right.players cert.verdict) right.verdict narrow)

head_right : (game : GameOf) (kind : Kind) (verdict : VerdictOf) → IsVerdictForm (length game) verdict → ProfilePasses game kind verdict → IsRightHead game kind verdict × (HeadIsWide game verdict → ⊥)
head_right game kind (ProfileVerdict mixtures bounds) v pass =
    (right_strategies game kind mixtures v.0 v.1 pass, λ w. (pass w.i w.player w.is_player w.mixture w.is_mixture w.k w.part w.is_part).1 w.wide)
head_right game kind (CoverVerdict covers named proof) v pass = absurd pass
head_right game kind (EmptyVerdict i nodes) v pass = absurd pass
head_right game kind (BoxVerdict nodes) v pass = absurd pass

head_passes : (game : GameOf) (kind : Kind) (verdict : VerdictOf) → IsRightHead game kind verdict → (HeadIsWide game verdict → ⊥) → ProfilePasses game kind verdict
head_passes game kind (ProfileVerdict mixtures bounds) right narrow = strategies_pass game kind mixtures right narrow
head_passes game kind (CoverVerdict covers named proof) right narrow = absurd right
head_passes game kind (EmptyVerdict i nodes) right narrow = absurd right
head_passes game kind (BoxVerdict nodes) right narrow = absurd right

-- the head of a certificate passes exactly where it is right and has no step that is too wide
pub head_is : (game : GameOf) (c : CertOf) → IsCert c → HeadPasses game c ↔ ((c.players ≡ length game) × IsRightHead game c.kind c.verdict × (HeadIsWide game c.verdict → ⊥))
head_is game c cert =
    (λ pass. let h = head_right game c.kind c.verdict (subst (λ n. IsVerdictForm n c.verdict) pass.0 cert.verdict) pass.1 in (pass.0, h.0, h.1), λ h. (h.0, head_passes game c.kind c.verdict h.1 h.2))
