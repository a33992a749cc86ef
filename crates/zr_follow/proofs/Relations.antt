-- What the proofs use of an expanded leader.
use Rattle.std.proofs.Common.{◌≡◌, ℕ, suc, zero, refl, subst, arith, false, pos, Some, None, List, [], ◌∷◌, ◌++◌, map, length, All, replicate}
use Rattle.std.proofs.lemmas.List.{length-map, length-replicate}
use Rattle.zr_game.proofs.Items.{one}
use Rattle.zr_game.specs.Players.{GameOf, PlayerOf, VarOf}
use Rattle.zr_game.specs.Forms.{IsPlayer}
use Rattle.zr_source.specs.Sources.{IsLeader, LeaderOf, SourceOf}
use Rattle.zr_follow.specs.Expansion.{all_pairs, expanded, expansion, multipliers, unnamed}

-- a multiplier is continuous, at least 0, and has no upper bound
abbrev pub IsMultiplier : VarOf → Type 0
IsMultiplier var = (var.whole ≡ false) × (var.low ≡ Some (pos 0)) × (var.up ≡ None)

-- player is the leader with its multipliers and its followers' pairs
pub record IsExpanded (leader : LeaderOf) (player : PlayerOf) : Type 0 where
  pub name : player.name ≡ leader.base.name
  pub vars : (more : List VarOf) × (player.vars ≡ leader.base.vars ++ more)
      × (length more ≡ multipliers leader.followers) × All IsMultiplier more
  pub rows : player.rows ≡ leader.base.rows
  pub pairs : player.pairs
      ≡ leader.base.pairs ++ all_pairs (length leader.base.vars) leader.followers
  pub cost : player.cost ≡ leader.base.cost
  pub cross : player.cross ≡ leader.base.cross
  pub others : player.others ≡ leader.base.others

-- each player is the leader of its number, expanded
pub record IsExpansion (source : SourceOf) (game : GameOf) : Type 0 where
  pub len : length game ≡ length source
  pub players : (i : ℕ) (leader : LeaderOf) (player : PlayerOf) → IsLeader source i leader
      → IsPlayer game i player → IsExpanded leader player

are_multipliers : (n : ℕ) → All IsMultiplier (replicate n unnamed)
are_multipliers zero k d h = absurd (omega arith)
are_multipliers (suc n) zero d h = (refl, refl, refl)
are_multipliers (suc n) (suc k) d h = are_multipliers n k d (omega arith)

pub expanded_is : (leader : LeaderOf) → IsExpanded leader (expanded leader)
expanded_is leader = let n = multipliers leader.followers in record {
  name = refl;
  vars = (replicate n unnamed, refl, length-replicate n unnamed, are_multipliers n);
  rows = refl;
  pairs = refl;
  cost = refl;
  cross = refl;
  others = refl;
}

-- the expansion's player i is leader i, expanded
pub player_expanded : (source : SourceOf) (i : ℕ) (leader : LeaderOf) → IsLeader source i leader
    → IsPlayer (expansion source) i (expanded leader)
player_expanded [] i leader is = absurd cc
player_expanded (l ∷ source) zero leader is = cc
player_expanded (l ∷ source) (suc i) leader is = player_expanded source i leader is

pub expansion_is : (source : SourceOf) → IsExpansion source (expansion source)
expansion_is source = record {
  len = length-map source expanded;
  players = λ i leader player is at_i.
      let same = one (expansion source) i (expanded leader) player
      (player_expanded source i leader is) at_i in
      subst (IsExpanded leader) same (expanded_is leader);
}
