-- The knapsack game of a number: its players draw one after another.
use Rattle.std.specs.Prelude.{ℕ, ◌+◌, ◌*◌, ◌/◌, ◌==◌, pos, neg_ℤ, true, Some, if◌then◌else◌, List, [], ◌∷◌, ◌++◌, map, codes, decimal}
use Rattle.std.specs.List.{flat_map, range_with_len, sum_by}
use Rattle.zr_base.specs.Terms.{Terms}
use Rattle.zr_game.specs.Players.{VarOf}
use Rattle.zr_game.specs.declared.player.CrossTerm.{CrossTerm}
use Rattle.zr_source.specs.Sources.{LeaderOf, SourceOf}
use Rattle.zr_gen.specs.Draws.{draw, player_name, rank, term_with}

-- the items are binary variables `x0`, `x1` and so on
abbrev pub item_var : ℕ → VarOf
item_var k = record {
  name = codes "x" ++ decimal k;
  whole = true;
  low = Some (pos 0);
  up = Some (pos 1);
}

-- how many draws a player makes: a weight and a gain for each item, and a number for each other
-- player and each item
abbrev pub player_draws : ℕ → ℕ → ℕ
player_draws players items = (players + 1) * items

module _ (players items number : ℕ) where
  -- player i's draw below m at this place, from 0 on
  abbrev pub player_draw : ℕ → ℕ → ℕ → ℕ
  player_draw i place m = draw number (i * player_draws players items + place + 1) m

  -- first the weights of all items
  abbrev pub weight : ℕ → ℕ → ℕ
  weight i k = 1 + player_draw i k 20

  -- then the gains, which are the costs below zero
  abbrev pub gain : ℕ → ℕ → ℕ
  gain i k = 1 + player_draw i (items + k) 30

  -- then, for each other player j in order, the numbers of the cross terms of all items with its
  -- items
  abbrev pub meeting : ℕ → ℕ → ℕ → ℕ
  meeting i j k = player_draw i ((2 + rank i j) * items + k) 11

  -- the weights of the items that are taken
  abbrev pub weight_terms : ℕ → Terms
  weight_terms i = map (λ k. (k, pos (weight i k))) (range_with_len 0 items)

  -- half of all weights, rounded down
  abbrev pub capacity : ℕ → ℕ
  capacity i = sum_by (weight i) (range_with_len 0 items) / 2

  abbrev pub cost_terms : ℕ → Terms
  cost_terms i = map (λ k. (k, neg_ℤ (pos (gain i k)))) (range_with_len 0 items)

  -- the cross term of item k with that of player j
  abbrev pub meeting_with : ℕ → ℕ → ℕ → List CrossTerm
  meeting_with i k j = if j == i then [] else term_with k j (meeting i j k)

  -- the cross terms of item k
  abbrev pub item_meetings : ℕ → ℕ → List CrossTerm
  item_meetings i k = flat_map (meeting_with i k) (range_with_len 0 players)

  abbrev pub meetings : ℕ → List CrossTerm
  meetings i = flat_map (item_meetings i) (range_with_len 0 items)

  -- each player takes items of at most half the weight of all
  abbrev pub packer : ℕ → LeaderOf
  packer i = record {
    base = record {
      name = player_name i;
      vars = map item_var (range_with_len 0 items);
      rows = record { coef = weight_terms i; le = pos (capacity i) } ∷ [];
      pairs = [];
      cost = cost_terms i;
      cross = meetings i;
      others = [];
    };
    followers = [];
  }

  abbrev pub knapsack_of : SourceOf
  knapsack_of = map packer (range_with_len 0 players)
