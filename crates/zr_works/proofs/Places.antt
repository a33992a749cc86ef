-- The nodes of all cases over the leaves of open trees are no more than the places.
use Rattle.std.proofs.Common.{◌≡◌, ℕ, zero, suc, ◌+◌, ◌*◌, ◌<◌, ◌≤◌, arith, refl, Bool, true, false, Some, if◌then◌else◌, List, [], ◌∷◌, map, length, length-append, slice_index_or}
use Rattle.std.proofs.Math.Nat.{mul-le-mul_right}
use Rattle.std.proofs.lemmas.List.{length-map}
use Rattle.zr_game.specs.Leaves.{Bound, slots}
use Rattle.zr_game.specs.Named.{NamedOf}
use Rattle.zr_game.specs.Players.{GameOf}
use Rattle.zr_cases.specs.Cases.{RowNode}
use Rattle.zr_tree.specs.Trees.{TreeOf}
use Rattle.zr_system.specs.Regions.{LeavesOf, is_exact, is_present, leaf_count, player_at, region_at, slot_count}
use Rattle.zr_system.specs.Unknowns.{list_to, over_present}
use Rattle.zr_system.proofs.Lists.{slots_length}
use Rattle.zr_refute.specs.Covered.{covered}
use Rattle.zr_comp.specs.Sizes.{all_nodes, leaf_nodes}
use Rattle.zr_sizes.specs.Sizes.{leaf_choices}
use Rattle.zr_best.specs.Works.{AreOpenTrees}
use Rattle.zr_works.specs.Most.{all_places, case_places, leaf_slots}
use Rattle.zr_works.proofs.Leaves.{HaveFewUnits, regions_few}

-- ---- lists of lists

at_most : (a b c : ℕ) → a ≤ b → b ≤ c → a ≤ c
at_most a b c p q = omega (arith, p, q)

sum_most : (n a b x y : ℕ) → n ≡ a + b → a ≤ x → b ≤ y → n ≤ x + y
sum_most n a b x y e p q = omega (arith, e, p, q)

list_most : {A : Type 0} (n m : ℕ) (f : ℕ → List A) → ((k : ℕ) → k < n → length (f k) ≤ m)
    → length (list_to n f) ≤ n * m
list_most zero m f h = omega arith
list_most (suc n) m f h =
    let r = list_most n m f (λ k b. h k (omega (arith, b))) in
    let z = h n (omega arith) in
    let a = length-append (list_to n f) (f n) in
    omega (arith, r, z, a)

-- the first of the lists apart
first_apart : {A : Type 0} (n : ℕ) (f : ℕ → List A)
    → length (list_to (suc n) f) ≡ length (f 0) + length (list_to n (λ k. f (suc k)))
first_apart zero f =
    let a = length-append (list_to 0 f) (f 0) in
    omega (arith, a)
first_apart (suc n) f =
    let r = first_apart n f in
    let a = length-append (list_to (suc n) f) (f (suc n)) in
    let b = length-append (list_to n (λ k. f (suc k))) (f (suc n)) in
    omega (arith, r, a, b)

-- a list for each player, none longer than its places
places_most : {A : Type 0} (players : GameOf) (f : ℕ → List A)
    → ((i : ℕ) → i < length players → length (f i) ≤ case_places (player_at players i))
    → length (list_to (length players) f) ≤ all_places players
places_most [] f h = omega arith
places_most (player ∷ players) f h =
    let z : length (f 0) ≤ case_places player = h 0 (omega arith) in
    let r = places_most players (λ i. f (suc i)) (λ i b. h (suc i) (omega (arith, b))) in
    sum_most (length (list_to (length (player ∷ players)) f)) (length (f 0))
    (length (list_to (length players) (λ i. f (suc i)))) (case_places player)
    (all_places players) (first_apart (length players) f) z r

-- ---- slots

if_most : {A : Type 0} (b : Bool) (xs : List A) (n : ℕ) → length xs ≤ n
    → length (if b then xs else []) ≤ n
if_most true xs n h = h
if_most false xs n h = omega arith

-- nothing is cut
abbrev no_cuts : GameOf → List (List Bound)
no_cuts players = map (λ player. []) players

cuts_are : (players : GameOf) (i : ℕ) → length (slice_index_or (no_cuts players) i []) ≡ 0
cuts_are [] i = refl
cuts_are (player ∷ players) zero = refl
cuts_are (player ∷ players) (suc i) = cuts_are players i

module _ (game : GameOf) (leaves : LeavesOf) where
  present_most : (i k : ℕ)
      → length (over_present game leaves i k (λ s. RowNode i k s)) ≤ slot_count game leaves i k
  present_most i k =
      let r = list_most (slot_count game leaves i k) 1
      (λ s. if is_present game leaves i k s then RowNode i k s ∷ [] else [])
      (λ s b. if_most (is_present game leaves i k s) (RowNode i k s ∷ []) 1 (omega arith)) in
      omega (arith, r)

  nodes_most : (i k : ℕ) → length (leaf_nodes game leaves i k) ≤ 1 + slot_count game leaves i k
  nodes_most i k =
      let r = if_most (is_exact leaves i k)
      (over_present game leaves i k (λ s. RowNode i k s)) (slot_count game leaves i k)
      (present_most i k) in
      omega (arith, r)

module _ (game : GameOf) (trees : List TreeOf) (named : List (List NamedOf))
    (few : HaveFewUnits game) (opens : AreOpenTrees game trees) where
  slots_are : (i k : ℕ)
      → slot_count game (covered game trees named) i k ≡ leaf_slots (player_at game i)
  slots_are i k =
      let leaves = covered game trees named in
      let leaf = (region_at leaves i k).leaf in
      let cuts = slice_index_or leaves.cuts i [] in
      let n = slots_length (player_at game i) leaf in
      let a = length-append (slots (player_at game i) leaf) (map (λ cut. Some cut) cuts) in
      let m = length-map cuts (λ (cut : Bound). Some cut) in
      let z : length cuts ≡ 0 = cuts_are game i in
      omega (arith, n, a, m, z)

  player_most : (i : ℕ) → i < length game
      → length (list_to (leaf_count (covered game trees named) i)
      (λ k. leaf_nodes game (covered game trees named) i k))
      ≤ case_places (player_at game i)
  player_most i below =
      let leaves = covered game trees named in
      let r = list_most (leaf_count leaves i) (1 + leaf_slots (player_at game i))
      (λ k. leaf_nodes game leaves i k)
      (λ k b. (let n = nodes_most game leaves i k in let s = slots_are i k in
      omega (arith, n, s))) in
      let c = regions_few game trees few opens i below in
      let m = mul-le-mul_right (1 + leaf_slots (player_at game i)) c in
      at_most (length (list_to (leaf_count leaves i) (λ k. leaf_nodes game leaves i k)))
      (leaf_count leaves i * (1 + leaf_slots (player_at game i)))
      (leaf_choices (player_at game i) * (1 + leaf_slots (player_at game i))) r m

  pub all_most : length (all_nodes game (covered game trees named)) ≤ all_places game
  all_most =
      places_most game (λ i. list_to (leaf_count (covered game trees named) i)
      (λ k. leaf_nodes game (covered game trees named) i k)) player_most
