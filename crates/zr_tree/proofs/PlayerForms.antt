-- What a game's players and their leaves have for the rows of slots.
use Rattle.std.proofs.Common.{ℕ, arith, sym}
use Rattle.zr_game.specs.declared.leaf.Leaf.{Leaf}
use Rattle.zr_game.specs.Players.{GameOf, PlayerOf}
use Rattle.zr_game.specs.Forms.{IsGame, IsPlayer}
use Rattle.zr_game.specs.Leaves.{IsLeafOf}
use Rattle.zr_tree.specs.Paths.{HasPlaces}
use Rattle.zr_tree.specs.Visits.{HasForms}

pub has_forms : (game : GameOf) → IsGame game
    → (i : ℕ) (player : PlayerOf) → IsPlayer game i player → HasForms player
has_forms game sound i player is =
    let f = sound.players i player is in
    let r = f.row_count in
    let v = f.var_count in
    let p = f.pair_count in
    record { rows = f.rows; pairs = f.pairs; few = omega (arith, r, v, p) }

pub has_places : (player : PlayerOf) (leaf : Leaf) → IsLeafOf player leaf → HasPlaces player leaf
has_places player leaf is =
    let l = is.lows in
    let h = is.highs in
    let s = is.sides in
    record { lows = omega (arith, l); highs = omega (arith, h); sides = omega (arith, s) }
