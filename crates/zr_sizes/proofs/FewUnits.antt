-- An open tree has fewer inner nodes than its leaf has choices.
use Rattle.std.proofs.Common.{◌≡◌, ℕ, zero, suc, ◌+◌, ◌*◌, ◌^◌, ◌≤◌, arith, refl, ap, ap₂, ◌∙◌, ℤ, ◌≤ℤ◌, Bool, true, false, if◌then◌else◌, Option, Some, None, IsSome, List, [], ◌∷◌, length, slice_get, pow-suc, mul-le-mul}
use Rattle.zr_base.proofs.Members.{all_found}
use Rattle.zr_game.specs.Forms.{IsPlayerForm, IsVarForm}
use Rattle.zr_game.specs.Leaves.{above, below, decided, LeafOf, low_of, root_leaf, up_of}
use Rattle.zr_game.specs.Players.{GameOf, PlayerOf, VarOf}
use Rattle.zr_game.specs.declared.leaf.Side.TheVariants.{VarZero, RowZero}
use Rattle.zr_tree.specs.Trees.{TreeOf, Split, Choose, Proof, Known, Loose}
use Rattle.zr_asked.specs.OpenTrees.{IsOpenTree, units}
use Rattle.zr_sizes.specs.Sizes.{AreBounded, leaf_choices, value_choices, value_count}
use Rattle.zr_sizes.proofs.Parting.{IsBoundedAt, bounded_above, bounded_below, choices_at, choose_parts, range_some, split_parts, values_left}
use Rattle.zr_sizes.proofs.Products.{product, product_first}

pub few : (player : PlayerOf) (tree : TreeOf) (leaf : LeafOf) → IsBoundedAt player leaf
    → 1 ≤ choices_at player leaf → IsOpenTree player leaf tree
    → (units tree + 1) ≤ choices_at player leaf
few player (Split v at first second) leaf bounded some o =
    let p = split_parts player leaf v at o.1 bounded some in
    let a = few player first (below leaf v at) (bounded_below player leaf v at o.1 bounded)
    p.first_some o.2 in
    let b = few player second (above leaf v at) (bounded_above player leaf v at o.1 bounded)
    p.second_some o.3 in
    let s = p.sum in
    omega (arith, a, b, s)
few player (Choose q first second) leaf bounded some o =
    let p = choose_parts player leaf q o.1 some in
    let a = few player first (decided leaf q VarZero) bounded p.first_some o.2 in
    let b = few player second (decided leaf q RowZero) bounded p.second_some o.3 in
    let s = p.sum in
    omega (arith, a, b, s)
few player (Proof scale mult) leaf bounded some o = omega (arith, some)
few player (Known x) leaf bounded some o = omega (arith, some)
few player Loose leaf bounded some o = omega (arith, some)

-- ---- the leaf of all points

twos : (n : ℕ) → product n (λ p. 2) ≡ 2 ^ n
twos zero = refl
twos (suc n) =
    let r = twos n in
    let e = pow-suc 2 n in
    omega (arith, r, e)

values_are : (vars : List VarOf)
    → product (length vars) (λ v. values_left (slice_get vars v) (low_of vars v) (up_of vars v))
    ≡ value_choices vars
values_are [] = refl
values_are (var ∷ vars) =
    product_first (length vars) (λ v. values_left (slice_get (var ∷ vars) v)
    (low_of (var ∷ vars) v) (up_of (var ∷ vars) v))
    ∙ ap (λ m. (if var.whole then value_count var.low var.up else 1) * m) (values_are vars)

pub root_choices : (player : PlayerOf) → choices_at player (root_leaf player) ≡ leaf_choices player
root_choices player = ap₂ ◌*◌ (twos (length player.pairs)) (values_are player.vars)

some_product : (a b : ℕ) → 1 ≤ a → 1 ≤ b → 1 ≤ a * b
some_product a b p q = let h : 1 * 1 ≤ a * b = mul-le-mul p q in omega (arith, h)

some_power : (n : ℕ) → 1 ≤ 2 ^ n
some_power zero = omega arith
some_power (suc n) =
    let r = some_power n in
    let e = pow-suc 2 n in
    omega (arith, r, e)

bounds : (low up : Option ℤ) → IsSome low → IsSome up
    → (l h : ℤ) × (low ≡ Some l) × (up ≡ Some h)
bounds (Some l) (Some h) p q = (l, h, refl, refl)
bounds (Some l) None p q = absurd cc
bounds None up p q = absurd cc

some_range : (low up : Option ℤ) (l h : ℤ) → low ≡ Some l → up ≡ Some h → l ≤ℤ h
    → 1 ≤ value_count low up
some_range low up l h p q b = rw (p, q) (range_some l h b)

-- the bounds of each whole variable, in order
abbrev AreOrdered : List VarOf → Type 0
AreOrdered vars =
    (v : ℕ) (var : VarOf) → slice_get vars v ≡ Some var → var.whole ≡ true
    → (l h : ℤ) × (var.low ≡ Some l) × (var.up ≡ Some h) × (l ≤ℤ h)

some_values : (vars : List VarOf) → AreOrdered vars → 1 ≤ value_choices vars
some_values [] h = omega arith
some_values (var ∷ vars) h =
    some_product (if var.whole then value_count var.low var.up else 1) (value_choices vars)
    (by var.whole refl) (some_values vars (λ v x e t. h (suc v) x e t))
  where
    by : (b : Bool) → var.whole ≡ b → 1 ≤ (if b then value_count var.low var.up else 1)
    by false t = omega arith
    by true t =
        let r = h 0 var refl t in some_range var.low var.up r.0 r.1 r.2 r.3 r.4

module _ (game : GameOf) (i : ℕ) (player : PlayerOf) (form : IsPlayerForm game i player)
    (bounded : AreBounded player) where
  ordered : AreOrdered player.vars
  ordered v var e t =
      let s = bounded v var e t in
      let r = bounds var.low var.up s.0 s.1 in
      let f = all_found IsVarForm player.vars v var form.vars e in
      (r.0, r.1, r.2, r.3, f.ordered r.0 r.2 r.1 r.3)

  bounded_root : IsBoundedAt player (root_leaf player)
  bounded_root v var e t =
      let r = ordered v var e t in
      (r.0, r.1, rw e r.2, rw e r.3)

  pub few_units : (tree : TreeOf) → IsOpenTree player (root_leaf player) tree
      → (units tree + 1) ≤ leaf_choices player
  few_units tree o =
      let c = root_choices player in
      let some : 1 ≤ leaf_choices player = some_product (2 ^ length player.pairs)
      (value_choices player.vars) (some_power (length player.pairs))
      (some_values player.vars ordered) in
      let r = few player tree (root_leaf player) bounded_root (omega (arith, c, some)) o in
      omega (arith, c, r)
