-- What the answer of a question with the aim of one variable says of rays from the start point.
use Rattle.std.proofs.Common.{◌≡◌, ◌≢◌, ℕ, zero, suc, ◌<◌, arith, refl, sym, ap, subst, ◌∙◌, ℤ, pos, negsuc, ◌+ℤ◌, ◌*ℤ◌, ◌<ℤ◌, ◌≤ℤ◌, IfSome, Option, Some, None, List, [], ◌∷◌, length, slice_get, true, ◌⊎◌, inl, inr, ⊎_elim, All}
use Rattle.std.specs.Option.{is_some}
use Rattle.std.specs.Prelude.{IfOk, Result, Ok, Err}
use Rattle.std.proofs.lemmas.Int.{ints}
use Rattle.zr_base.specs.Fractions.{Fraction}
use Rattle.zr_base.specs.Points.{PointOf, num_of}
use Rattle.zr_base.proofs.Dense.{sum_to_same}
use Rattle.zr_base.proofs.Ring.{mul_assoc}
use Rattle.zr_game.specs.declared.named.Named.{Named}
use Rattle.zr_game.specs.Named.{NamedRay, named_of}
use Rattle.zr_game.specs.Players.{GameOf, PairOf, PlayerOf, VarOf}
use Rattle.zr_game.specs.Feasible.{IsFeasible}
use Rattle.zr_game.specs.Leaves.{MeetsLeaf, at_column, root_leaf}
use Rattle.zr_game.specs.Rays.{Direction, IsRay, IsRelaxedRay, KeepsPair, change_of, moved}
use Rattle.zr_game.proofs.Columns.{one_column}
use Rattle.zr_game.proofs.Holding.{meets_root}
use Rattle.zr_game.proofs.RayLaws.{leads}
use Rattle.zr_simplex.specs.Programs.{numbers}
use Rattle.zr_tree.specs.Nodes.{Multipliers}
use Rattle.zr_asked.specs.Drawn.{IsDrawnRay}
use Rattle.zr_asked.specs.Stuck.{IsPlainAim, IsVariableAim}
use Rattle.zr_branch.specs.Replies.{IsBestAt, IsSomePlayer, IsUnboundedAt, ProvesEmpty}
use Rattle.zr_branch.specs.Values.{aim_value}
use Rattle.zr_bnb.proofs.Along.{below_all, value_moved}
use Rattle.zr_bnb.proofs.Directions.{is_relaxed}
use Rattle.zr_bnb.proofs.Visiting.{closed_by, closed_if_empty}
use Rattle.zr_naming.specs.declared.stop.NamingStop.{NamingStop}
use Rattle.zr_naming.specs.Items.{IsNamedItem, IsStart}
use Rattle.zr_naming.specs.Offers.{Falls, HasWideRay, IsFoundFor, IsFound, IsOffered, ItemChanges}
use Rattle.zr_naming.specs.Starts.{start_point}

module _ (player : PlayerOf) (some : (i : ℕ) × IsSomePlayer i player) (v : ℕ) (z : ℤ)
    (aim : List ℤ) (is : IsVariableAim player v z aim) where
  -- the aim's value along a direction
  value_is : (dir : Direction) → aim_value player aim (change_of dir) ≡ z *ℤ change_of dir v
  value_is dir =
      sum_to_same (length player.vars) (λ j. numbers aim j *ℤ change_of dir j)
      (λ j. at_column v z j *ℤ change_of dir j)
      (λ j h. ap (λ y. y *ℤ change_of dir j) (is.2 j h)) ∙
      one_column (length player.vars) v z (change_of dir) is.0

  -- a ray along which the aim falls changes the variable
  pub changes : (x : PointOf) (dir : Direction) → IsUnboundedAt player (root_leaf player) aim x dir
      → change_of dir v ≢ pos 0
  changes x dir un e =
      let f = un.falls in
      let o = value_is dir in
      let n : z *ℤ change_of dir v ≡ pos 0 = ap (λ y. z *ℤ y) e ∙ omega (arith, ints) in
      omega (arith, ints, f, o, n)

  -- a ray of the relaxation is a ray from the start point
  pub from_start : IsStart player → (dir : Direction) → IsRelaxedRay player dir
      → IsRay player (start_point player) dir
  from_start start dir ray = record {
    base_is = start.feasible;
    len = ray.len;
    bounds = ray.bounds;
    rows = ray.rows;
    pairs = subst (All (KeepsPair (start_point player) dir)) (sym start.pairs)
        (λ k d h. absurd (omega (arith, h)));
  }

  module _ (start : IsStart player) (dir : Direction) (ray : IsRelaxedRay player dir)
      (falls : Falls v z dir) where
    meets : (t : ℕ) → MeetsLeaf player (root_leaf player) (moved (start_point player) dir t)
    meets t =
        meets_root player (moved (start_point player) dir t) some.1.1.rows some.1.1.pairs
        (leads (start_point player) dir (start.feasible.len ∙ sym ray.len) t player
        (from_start start dir ray) some.1.1.pairs some.1.1.from_zero)

    -- the aim has no least value
    pub not_best : (x : PointOf) (value : Fraction) (scale : ℤ) (mult : Multipliers)
        → IsBestAt player (root_leaf player) aim x value scale mult → ⊥
    not_best x value scale mult best =
        let base = start_point player in
        let o = value_is dir in
        let f : aim_value player aim (change_of dir) <ℤ (pos 0) = omega (arith, ints, o, falls) in
        below_all value (aim_value player aim (num_of base)) (aim_value player aim (change_of dir))
        (pos 1) best.lowest.ratio.positive f
        (λ t. subst (λ (y : ℤ). (value.num *ℤ pos 1) ≤ℤ (value.den *ℤ y))
        (value_moved player base dir start.feasible.len ray.len t aim ∙ once t)
        (closed_by player aim (root_leaf player) x value scale mult best (moved base dir t)
        (meets t)))
      where
        once : (t : ℕ) → aim_value player aim (num_of (start_point player))
            +ℤ (pos t *ℤ pos 1) *ℤ aim_value player aim (change_of dir)
            ≡ aim_value player aim (num_of (start_point player))
            +ℤ pos t *ℤ aim_value player aim (change_of dir)
        once t =
            let e : pos t *ℤ pos 1 ≡ pos t = omega (arith, ints) in
            ap (λ y. aim_value player aim (num_of (start_point player))
            +ℤ y *ℤ aim_value player aim (change_of dir)) e

    -- and there is a point
    pub not_empty : (mult : Multipliers) → ProvesEmpty player (root_leaf player) aim mult → ⊥
    not_empty mult empty =
        closed_if_empty player aim (root_leaf player) None mult empty ray.some.0 ray.some.1

-- what was found by an offered ray
pub found_by : (game : GameOf) (i : ℕ) (player : PlayerOf) → (j : ℕ) × IsSomePlayer j player
    → (v : ℕ) (z : ℤ) (aim : List ℤ) → IsVariableAim player v z aim → (x : PointOf)
    → (dir : Direction) → IsUnboundedAt player (root_leaf player) aim x dir
    → IsDrawnRay player (IsPlainAim player) dir → (o : Option Named)
    → IsOffered game i player (NamedRay (start_point player) dir) o
    → IsFoundFor game i player v z o
found_by game i player some v z aim is x dir un drawn None offer = λ start other ray f. record {
  dir = dir;
  changes = changes player some v z aim is x dir un;
  drawn = drawn;
  wide = offer (from_start player some v z aim is start dir (is_relaxed player some aim x dir un));
}
found_by game i player some v z aim is x dir un drawn (Some named) offer = (
  subst (IsNamedItem game i player) (sym offer.0) offer.1,
  subst (ItemChanges v) (sym offer.0) (changes player some v z aim is x dir un),
)

-- of a number that isn't zero
by_sign : (c : ℤ) → c ≢ pos 0 → ((negsuc 0 *ℤ c) <ℤ (pos 0)) ⊎ ((pos 1 *ℤ c) <ℤ (pos 0))
by_sign (pos zero) n = absurd (n refl)
by_sign (pos (suc k)) n = inl (omega (arith, ints))
by_sign (negsuc k) n = inr (omega (arith, ints))

module _ (game : GameOf) (i : ℕ) (player : PlayerOf) (v : ℕ) where
  pub none_found : IsFoundFor game i player v (negsuc 0) None
      → IsFoundFor game i player v (pos 1) None → IsFound game i player v None
  none_found first second start dir ray changes =
      ⊎_elim (λ (a : (negsuc 0 *ℤ change_of dir v) <ℤ (pos 0)). first start dir ray a)
      (λ (b : (pos 1 *ℤ change_of dir v) <ℤ (pos 0)). second start dir ray b)
      (by_sign (change_of dir v) changes)

  -- a variable with a lower bound doesn't fall along a ray
  pub none_found_above : (var : VarOf) → slice_get player.vars v ≡ Some var
      → is_some var.low ≡ true → IsFoundFor game i player v (negsuc 0) None
      → IsFound game i player v None
  none_found_above var at has first start dir ray changes =
      ⊎_elim (λ (a : (negsuc 0 *ℤ change_of dir v) <ℤ (pos 0)). first start dir ray a)
      (λ (b : (pos 1 *ℤ change_of dir v) <ℤ (pos 0)).
      absurd (rises var.low (ray.bounds v var at).low has b))
      (by_sign (change_of dir v) changes)
    where
      rises : (o : Option ℤ) → IfSome o (λ low. (pos 0) ≤ℤ change_of dir v) → is_some o ≡ true
          → (pos 1 *ℤ change_of dir v) <ℤ (pos 0) → ⊥
      rises None up e b = absurd cc
      rises (Some low) up e b = omega (arith, ints, up, b)

  -- the second sign comes after the first
  pub second_found : (r : Result (Option Named) NamingStop)
      → IsFoundFor game i player v (negsuc 0) None → IfOk r (IsFoundFor game i player v (pos 1))
      → IfOk r (IsFound game i player v)
  second_found (Ok None) first second = none_found first second
  second_found (Ok (Some named)) first second = second
  second_found (Err stop) first second = tt

pub plain_variable : (player : PlayerOf) (v : ℕ) (z : ℤ) (a : List ℤ)
    → (z ≡ pos 1) ⊎ (z ≡ negsuc 0) → IsVariableAim player v z a → IsPlainAim player a
plain_variable player v z a sign is =
    ⊎_elim (λ (e : z ≡ pos 1). inr (v, inl (subst (λ (y : ℤ). IsVariableAim player v y a) e is)))
    (λ (e : z ≡ negsuc 0). inr (v, inr (subst (λ (y : ℤ). IsVariableAim player v y a) e is))) sign
