-- Where a leaf's shares and its weight stand among the columns.
use Rattle.std.proofs.Common.{◌≡◌, ℕ, suc, ◌+◌, ◌<◌, arith, refl, sym, ap, ◌∙◌, [], ◌∷◌, length, slice_get, Some, if◌then◌else◌}
use Rattle.zr_game.specs.Players.{GameOf}
use Rattle.zr_system.specs.declared.unknown.Unknown.{Unknown}
use Rattle.zr_system.specs.declared.unknown.Unknown.TheVariants.{Share, Weight}
use Rattle.zr_system.specs.Asked.{LeafExists}
use Rattle.zr_system.specs.Regions.{LeavesOf, is_exact, leaf_count, var_count}
use Rattle.zr_system.specs.Unknowns.{columns, duals, leaf_unknowns, list_to, player_unknowns, shares}
use Rattle.zr_system.proofs.ListPlaces.{found_in, get_left, get_right, length_each}
use Rattle.zr_system.proofs.Sizes.{length_shares}

module _ (game : GameOf) (leaves : LeavesOf) (i k : ℕ) (leaf : LeafExists game leaves i k) where
  -- the column of the leaf's first share
  abbrev pub first_column : ℕ
  first_column = length (list_to i (λ i. player_unknowns game leaves i)) + 1 + length
      (list_to k (λ k. leaf_unknowns game leaves i k))

  in_columns : (m : ℕ) (u : Unknown) → slice_get (leaf_unknowns game leaves i k) m ≡ Some u
      → slice_get (columns game leaves) (first_column + m) ≡ Some u
  in_columns m u e =
      let own = λ (k : ℕ). leaf_unknowns game leaves i k in
      let all = λ (i : ℕ). player_unknowns game leaves i in
      let z : first_column + m ≡ length (list_to i all) + suc (length (list_to k own) + m) =
      omega arith in
      ap (slice_get (columns game leaves)) z
      ∙ found_in all (length game) i (suc (length (list_to k own) + m)) u leaf.0
      (found_in own (leaf_count leaves i) k m u leaf.1 e)

  pub share_found : (v : ℕ) → v < var_count game i
      → slice_get (columns game leaves) (first_column + v) ≡ Some (Share i k v)
  share_found v h =
      let one = λ (v : ℕ). Share i k v ∷ [] in
      let l : length (list_to v one) ≡ v =
      (let q = length_each v 1 one (λ v. refl) in omega (arith, q)) in
      let z : length (list_to v one) + 0 ≡ v = omega (arith, l) in
      let n = length_shares game leaves i k in
      in_columns v (Share i k v) (get_left (shares game i k) (Weight i k ∷
      (if is_exact leaves i k then duals game leaves i k else [])) v (omega (arith, n, h))
      ∙ (ap (slice_get (shares game i k)) (sym z)
      ∙ found_in one (var_count game i) v 0 (Share i k v) h refl))

  pub weight_found : slice_get (columns game leaves) (first_column + var_count game i)
      ≡ Some (Weight i k)
  weight_found =
      let rest = Weight i k ∷ (if is_exact leaves i k then duals game leaves i k else []) in
      let l = length_shares game leaves i k in
      let z : length (shares game i k) + 0 ≡ var_count game i = omega (arith, l) in
      in_columns (var_count game i) (Weight i k)
      (ap (slice_get (leaf_unknowns game leaves i k)) (sym z)
      ∙ get_right (shares game i k) rest 0)
