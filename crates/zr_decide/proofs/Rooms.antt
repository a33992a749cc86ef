-- Rows of named items: how many cells they add.
use Rattle.std.proofs.Common.{◌≡◌, ℕ, zero, suc, ◌+◌, ◌*◌, ◌<◌, ◌≤◌, arith, refl, ap, subst, ◌∙◌, List, [], ◌∷◌, ◌++◌, length, length-append, get_or}
use Rattle.std.proofs.Math.Nat.{mul-le-mul_right}
use Rattle.zr_game.specs.Leaves.{Bound}
use Rattle.zr_game.specs.Named.{NamedOf}
use Rattle.zr_game.specs.Players.{GameOf}
use Rattle.zr_tree.specs.Trees.{TreeOf}
use Rattle.zr_refute.specs.Covered.{covered}
use Rattle.zr_system.specs.declared.line.Line.{Line}
use Rattle.zr_system.specs.declared.line.Line.TheVariants as ALine
use Rattle.zr_system.specs.Lines.{base_lines, leaf_lines, player_lines}
use Rattle.zr_system.specs.Regions.{LeavesOf, RegionOf, leaf_count}
use Rattle.zr_system.specs.System.{cell_count}
use Rattle.zr_system.specs.Unknowns.{columns, list_to, player_unknowns}
use Rattle.zr_decide.specs.Decided.{decided_leaves, no_names}
use Rattle.zr_decide.specs.Naming.{item_count}
use Rattle.zr_decide.proofs.Refuting.{no_names_at}

-- one row for each item
ones : (m : ℕ) (f : ℕ → Line) → length (list_to m (λ n. f n ∷ [])) ≡ m
ones zero f = refl
ones (suc m) f =
    let a = length-append (list_to m (λ n. f n ∷ [])) (f m ∷ []) in
    let r = ones m f in
    omega (arith, a, r)

-- the items of the first k players
abbrev items_to : ℕ → List (List NamedOf) → ℕ
items_to zero named = 0
items_to (suc k) named = items_to k named + length (get_or named k [])

items_shift : (k : ℕ) (x : List NamedOf) (xs : List (List NamedOf))
    → items_to (suc k) (x ∷ xs) ≡ length x + items_to k xs
items_shift zero x xs = omega arith
items_shift (suc k) x xs =
    let r = items_shift k x xs in
    let e : items_to (suc k) (x ∷ xs) + length (get_or xs k []) ≡ length x + (items_to k xs + length (get_or xs k [])) =
    omega (arith, r) in
    e

items_all : (named : List (List NamedOf)) → items_to (length named) named ≡ item_count named
items_all [] = refl
items_all (x ∷ xs) = items_shift (length xs) x xs ∙ ap (λ n. length x + n) (items_all xs)

module _ (game : GameOf) (regions : List (List RegionOf)) (cuts : List (List Bound)) where
  abbrev leaves_with : List (List NamedOf) → LeavesOf
  leaves_with named = record { regions = regions; named = named; cuts = cuts }

  -- the lines of the leaves of player i, whatever is named
  abbrev own : List (List NamedOf) → ℕ → List Line
  own named i =
      list_to (leaf_count (leaves_with named) i) (λ k. leaf_lines game (leaves_with named) i k)

  abbrev own_count : ℕ → ℕ
  own_count i = length (own [] i)

  player_rows : (named : List (List NamedOf)) (i : ℕ)
      → length (player_lines game (leaves_with named) i)
      ≡ 2 + (own_count i + length (get_or named i []))
  player_rows named i =
      let a = length-append (own named i)
      (list_to (length (get_or named i [])) (λ n. ALine.Named i n ∷ [])) in
      let b = ones (length (get_or named i [])) (λ n. ALine.Named i n) in
      let o : length (own named i) ≡ own_count i = refl in
      let e : length (player_lines game (leaves_with named) i)
      ≡ 2 + length (own named i ++ list_to (length (get_or named i [])) (λ n. ALine.Named i n ∷ [])) =
      omega arith in
      omega (arith, a, b, o, e)

  abbrev own_to : ℕ → ℕ
  own_to zero = 0
  own_to (suc k) = own_to k + (2 + own_count k)

  rows_to : (named : List (List NamedOf)) (k : ℕ)
      → length (list_to k (λ i. player_lines game (leaves_with named) i))
      ≡ own_to k + items_to k named
  rows_to named zero = omega arith
  rows_to named (suc k) =
      let a = length-append (list_to k (λ i. player_lines game (leaves_with named) i))
      (player_lines game (leaves_with named) k) in
      let b = player_rows named k in
      let r = rows_to named k in
      omega (arith, a, b, r)

-- no items at all
none_to : (game : GameOf) (k : ℕ) → items_to k (no_names game) ≡ 0
none_to game zero = refl
none_to game (suc k) =
    let r = none_to game k in
    let e = ap (λ (xs : List NamedOf). length xs) (no_names_at game k) in
    omega (arith, r, e)

module _ (game : GameOf) (trees : List TreeOf) (named : List (List NamedOf))
    (len : length named ≡ length game) where
  -- the rows that aren't of named items
  abbrev own_rows : ℕ
  own_rows =
      own_to game (covered game trees named).regions (covered game trees named).cuts (length game)

  rows : length (base_lines game (covered game trees named))
      ≡ length (base_lines game (decided_leaves game trees)) + item_count named
  rows =
      let a : length (base_lines game (covered game trees named))
      ≡ own_rows + items_to (length game) named =
      rows_to game (covered game trees named).regions (covered game trees named).cuts named
      (length game) in
      let b : length (base_lines game (decided_leaves game trees))
      ≡ own_rows + items_to (length game) (no_names game) =
      rows_to game (covered game trees named).regions (covered game trees named).cuts
      (no_names game) (length game) in
      let n = none_to game (length game) in
      let i = subst (λ k. items_to k named ≡ item_count named) len (items_all named) in
      omega (arith, a, b, n, i)

  -- each item adds a row
  pub cells_with : cell_count game (covered game trees named)
      ≡ cell_count game (decided_leaves game trees)
      + item_count named * length (columns game (decided_leaves game trees))
  cells_with =
      ap (λ r. r * length (columns game (decided_leaves game trees))) rows
      ∙ mul_sum (length (base_lines game (decided_leaves game trees))) (item_count named)
      (length (columns game (decided_leaves game trees)))
    where
      mul_sum : (a b c : ℕ) → (a + b) * c ≡ a * c + b * c
      mul_sum zero b c = omega arith
      mul_sum (suc a) b c = let r = mul_sum a b c in omega (arith, r)

  pub cells_within : (room left : ℕ) → item_count named + left ≡ room
      → cell_count game (decided_leaves game trees)
      + room * length (columns game (decided_leaves game trees)) ≤ 16777216
      → cell_count game (covered game trees named) ≤ 16777216
  cells_within room left e h =
      let m = mul-le-mul_right (length (columns game (decided_leaves game trees))) (below e) in
      omega (arith, m, h, cells_with)
    where
      below : item_count named + left ≡ room → item_count named ≤ room
      below e = omega (arith, e)

  pub cells_full : (room left : ℕ) → item_count named + left ≡ room → left ≡ 0
      → 16777216 < cell_count game (decided_leaves game trees)
      + room * length (columns game (decided_leaves game trees))
      + length (columns game (decided_leaves game trees))
      → 16777216 < cell_count game (covered game trees named)
      + length (columns game (covered game trees named))
  cells_full room left e none h =
      let same : item_count named ≡ room = omega (arith, e, none) in
      let m = ap (λ n. n * length (columns game (decided_leaves game trees))) same in
      let c : length (columns game (covered game trees named))
      ≡ length (columns game (decided_leaves game trees)) = refl in
      omega (arith, m, h, cells_with, c)

-- there are columns
pub some_columns : (game : GameOf) (leaves : LeavesOf) → 1 ≤ length game
    → 0 < length (columns game leaves)
some_columns game leaves some = upto (length game) some
  where
    upto : (k : ℕ) → 1 ≤ k → 0 < length (list_to k (λ i. player_unknowns game leaves i))
    upto zero h = absurd (omega (arith, h))
    upto (suc k) h =
        let a = length-append (list_to k (λ i. player_unknowns game leaves i))
        (player_unknowns game leaves k) in
        omega (arith, a)
