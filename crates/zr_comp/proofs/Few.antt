-- A system of few cells has few columns, and leaves have few slots.
use Rattle.std.proofs.Common.{ℕ, zero, suc, ◌*◌, ◌<◌, ◌≤◌, arith, Some, List, [], map, length, length-append, slice_index_or}
use Rattle.std.proofs.Math.Nat.{mul-le-mul_right}
use Rattle.std.proofs.lemmas.List.{length-map}
use Rattle.std.proofs.lemmas.Option.{slice_get-get_or}
use Rattle.zr_game.specs.Forms.{IsGame}
use Rattle.zr_game.specs.Leaves.{Bound, slots}
use Rattle.zr_game.specs.Players.{GameOf}
use Rattle.zr_system.specs.Asked.{LeafExists}
use Rattle.zr_system.specs.Lines.{player_lines}
use Rattle.zr_system.specs.Regions.{LeavesOf, no_player, player_at, region_at, slot_count}
use Rattle.zr_system.specs.System.{cell_count}
use Rattle.zr_system.specs.Unknowns.{columns, list_to, player_unknowns}
use Rattle.zr_system.proofs.Lists.{slots_length}

-- where each list of the first sort has an item, those of the second are no more than the products
enough : {A B : Type 0} (k : ℕ) (f : ℕ → List A) (g : ℕ → List B) → ((i : ℕ) → 0 < length (f i))
    → length (list_to k g) ≤ length (list_to k f) * length (list_to k g)
enough zero f g some = omega arith
enough (suc k) f g some =
    let a = length-append (list_to k f) (f k) in
    let s = some k in
    let one : 1 ≤ length (list_to (suc k) f) = omega (arith, a, s) in
    let m = mul-le-mul_right (length (list_to (suc k) g)) one in
    omega (arith, m)

pub few_columns : (game : GameOf) (leaves : LeavesOf) (most : ℕ) → cell_count game leaves ≤ most
    → length (columns game leaves) ≤ most
few_columns game leaves most h =
    let e = enough (length game) (λ i. player_lines game leaves i)
    (λ i. player_unknowns game leaves i)
    (λ i. omega arith) in
    omega (arith, e, h)

-- a leaf has fewer than 2^31 slots where its player has few cuts
pub few_slots : (game : GameOf) → IsGame game → (leaves : LeavesOf)
    → ((i : ℕ) → i < length game → length (slice_index_or leaves.cuts i []) < 2147483200)
    → (i k : ℕ) → LeafExists game leaves i k → slot_count game leaves i k < 2147483648
few_slots game is leaves few i k there =
    let player = player_at game i in
    let f = is.players i player (slice_get-get_or game i no_player there.0) in
    let leaf = (region_at leaves i k).leaf in
    let cuts = slice_index_or leaves.cuts i [] in
    let n = slots_length player leaf in
    let a = length-append (slots player leaf) (map (λ cut. Some cut) cuts) in
    let m = length-map cuts (λ (cut : Bound). Some cut) in
    let c = few i there.0 in
    let v = f.var_count in
    let r = f.row_count in
    let p = f.pair_count in
    omega (arith, n, a, m, c, v, r, p)
