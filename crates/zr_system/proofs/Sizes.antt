-- How many rows and unknowns leaves have.
use Rattle.std.proofs.Common.{◌≡◌, ℕ, zero, suc, ◌+◌, ◌*◌, ◌^◌, ◌<◌, arith, refl, Bool, true, false, List, [], ◌∷◌, ◌++◌, map, length, length-append, slice_index_or, if◌then◌else◌}
use Rattle.std.specs.Global.{Vec}
use Rattle.std.proofs.lemmas.List.{length-map}
use Rattle.zr_base.proofs.Members.{each_of_all}
use Rattle.zr_base.proofs.Worth.{Each}
use Rattle.zr_game.specs.Players.{GameOf}
use Rattle.zr_system.specs.declared.leaves.Leaves.{Leaves}
use Rattle.zr_system.specs.declared.leaves.Region.{Region}
use Rattle.zr_system.specs.Asked.{AreLeaves}
use Rattle.zr_system.specs.declared.line.Line.TheVariants as ALine
use Rattle.zr_system.specs.declared.unknown.Unknown.TheVariants.{Dual, Share, Weight}
use Rattle.zr_system.specs.Lines.{dual_lines, leaf_lines, player_lines, pull_lines, slot_lines}
use Rattle.zr_system.specs.Regions.{LeavesOf, is_exact, is_present, leaf_count, leaves_of, named_at, region_of, slot_count, var_count}
use Rattle.zr_system.specs.Unknowns.{duals, leaf_unknowns, list_to, over_present, player_unknowns, shares}
use Rattle.zr_system.proofs.ListPlaces.{length_each, length_like}

few_in : (lists : List (Vec Region)) → Each (λ list. length list.items < 2 ^ 32) lists → (i : ℕ)
    → length (slice_index_or (map (λ list. map region_of list.items) lists) i []) < 2 ^ 32
few_in [] h i = omega arith
few_in (list ∷ lists) h zero = let a = h.0 in let l = length-map list.items region_of in
    omega (arith, a, l)
few_in (list ∷ lists) h (suc i) = few_in lists h.1 i

-- a player has fewer than 2^32 leaves
pub few_leaves : (game : GameOf) (leaves : Leaves) → AreLeaves game leaves → (i : ℕ)
    → leaf_count (leaves_of leaves) i < 2 ^ 32
few_leaves game leaves are i =
    few_in leaves.regions.items
    (each_of_all (λ list. length list.items < 2 ^ 32) leaves.regions.items are.few_leaves) i

module _ (game : GameOf) (leaves : LeavesOf) (i : ℕ) where
  module _ (k : ℕ) where
    -- one for each present slot
    length_present : {A : Type 0} (f : ℕ → A)
        → length (over_present game leaves i k f) ≡ length (duals game leaves i k)
    length_present f =
        length_like (slot_count game leaves i k)
        (λ s. if is_present game leaves i k s then f s ∷ [] else [])
        (λ s. if is_present game leaves i k s then Dual i k s ∷ [] else [])
        (λ s. both (is_present game leaves i k s) s)
      where
        both : (b : Bool) (s : ℕ) → length (if b then f s ∷ [] else []) ≡ length
            (if b then Dual i k s ∷ [] else [])
        both true s = refl
        both false s = refl

    length_duals_lines : length (dual_lines game leaves i k)
        ≡ length (duals game leaves i k) + 2 * var_count game i + 1
    length_duals_lines =
        let signs = over_present game leaves i k (λ s. ALine.Dual i k s false) in
        let p = length_present (λ s. ALine.Dual i k s false) in
        let q = length_each (var_count game i) 2
        (λ v. ALine.Pull i k v false ∷ (ALine.Pull i k v true ∷ [])) (λ v. refl) in
        let a = length-append signs (pull_lines game i k ++ (ALine.Gain i k false ∷ [])) in
        let b = length-append (pull_lines game i k) (ALine.Gain i k false ∷ []) in
        omega (arith, p, q, a, b)

    pub exact_lines : is_exact leaves i k ≡ true → length (leaf_lines game leaves i k)
        ≡ 2 * length (duals game leaves i k) + 2 * var_count game i + 2
    exact_lines e =
        let p = length_present (λ s. ALine.Slot i k s false) in
        let d = length_duals_lines in
        let a = length-append (slot_lines game leaves i k)
        (ALine.Weight i k false ∷ dual_lines game leaves i k) in
        rw e (omega (arith, p, d, a))

    pub loose_lines : is_exact leaves i k ≡ false → length (leaf_lines game leaves i k)
        ≡ length (duals game leaves i k) + 1
    loose_lines e =
        let p = length_present (λ s. ALine.Slot i k s false) in
        let a = length-append (slot_lines game leaves i k) (ALine.Weight i k false ∷ []) in
        rw e (omega (arith, p, a))

    pub length_shares : length (shares game i k) ≡ var_count game i
    length_shares =
        let q = length_each (var_count game i) 1 (λ v. Share i k v ∷ []) (λ v. refl) in
        omega (arith, q)

    pub exact_unknowns : is_exact leaves i k ≡ true → length (leaf_unknowns game leaves i k)
        ≡ var_count game i + 1 + length (duals game leaves i k)
    exact_unknowns e =
        let s = length_shares in
        let a = length-append (shares game i k) (Weight i k ∷ duals game leaves i k) in
        rw e (omega (arith, s, a))

    pub loose_unknowns : is_exact leaves i k ≡ false → length (leaf_unknowns game leaves i k)
        ≡ var_count game i + 1
    loose_unknowns e =
        let s = length_shares in
        let a = length-append (shares game i k) (Weight i k ∷ []) in
        rw e (omega (arith, s, a))

  pub length_player : length (player_lines game leaves i) ≡ 2 + length (named_at leaves i) + length
      (list_to (leaf_count leaves i) (λ k. leaf_lines game leaves i k))
  length_player =
      let names = λ (n : ℕ). ALine.Named i n ∷ [] in
      let q = length_each (length (named_at leaves i)) 1 names (λ n. refl) in
      let a = length-append (list_to (leaf_count leaves i) (λ k. leaf_lines game leaves i k))
      (list_to (length (named_at leaves i)) names) in
      omega (arith, q, a)

  pub length_player_unknowns : length (player_unknowns game leaves i) ≡ 1 + length
      (list_to (leaf_count leaves i) (λ k. leaf_unknowns game leaves i k))
  length_player_unknowns = omega arith
