-- The leaders' game of a number: its leaders draw one after another.
use Rattle.std.specs.Prelude.{ℕ, ◌+◌, ◌*◌, ◌==◌, pos, negsuc, neg_ℤ, false, Some, None, if◌then◌else◌, List, [], ◌∷◌, map, codes}
use Rattle.std.specs.List.{flat_map, range_with_len}
use Rattle.zr_game.specs.Players.{VarOf}
use Rattle.zr_game.specs.declared.player.CrossTerm.{CrossTerm}
use Rattle.zr_source.specs.Sources.{FollowerOf, LeaderOf, SourceOf}
use Rattle.zr_gen.specs.Draws.{draw, player_name, rank, term_with}

-- the leader's variable, at most `bound`
abbrev pub own_var : ℕ → VarOf
own_var bound = record {
  name = codes "x";
  whole = false;
  low = Some (pos 0);
  up = Some (pos bound);
}

-- the follower's variable
abbrev pub answer_var : VarOf
answer_var = record {
  name = codes "f";
  whole = false;
  low = Some (pos 0);
  up = None;
}

-- how many draws a leader makes: five, and one for each other leader
abbrev pub leader_draws : ℕ → ℕ
leader_draws players = players + 4

module _ (players number : ℕ) where
  -- leader i's draw below m at this place, from 0 on
  abbrev pub leader_draw : ℕ → ℕ → ℕ → ℕ
  leader_draw i place m = draw number (i * leader_draws players + place + 1) m

  -- the greatest x, 1 to 20
  abbrev pub bound : ℕ → ℕ
  bound i = 1 + leader_draw i 0 20

  -- how far f may be above x, 0 to 4
  abbrev pub lead : ℕ → ℕ
  lead i = leader_draw i 1 5

  -- what the follower gains by each unit of f, 1 to 3
  abbrev pub answer_gain : ℕ → ℕ
  answer_gain i = 1 + leader_draw i 2 3

  -- what the leader pays for each unit of x, and gains by each of f, 1 to 9
  abbrev pub price : ℕ → ℕ
  price i = 1 + leader_draw i 3 9

  abbrev pub leader_gain : ℕ → ℕ
  leader_gain i = 1 + leader_draw i 4 9

  -- the number of the cross term of f with that of leader j, 0 to 3
  abbrev pub rivalry : ℕ → ℕ → ℕ
  rivalry i j = leader_draw i (5 + rank i j) 4

  abbrev pub rivalry_with : ℕ → ℕ → List CrossTerm
  rivalry_with i j = if j == i then [] else term_with 1 j (rivalry i j)

  -- it takes f with `f - x <= lead`
  abbrev pub follower : ℕ → FollowerOf
  follower i = record {
    first = 1;
    count = 1;
    rows = record { coef = (0, negsuc 0) ∷ (1, pos 1) ∷ []; le = pos (lead i) } ∷ [];
    cost = (1, neg_ℤ (pos (answer_gain i))) ∷ [];
    cross = [];
  }

  abbrev pub leader_with_follower : ℕ → LeaderOf
  leader_with_follower i = record {
    base = record {
      name = player_name i;
      vars = own_var (bound i) ∷ answer_var ∷ [];
      rows = [];
      pairs = [];
      cost = (0, pos (price i)) ∷ (1, neg_ℤ (pos (leader_gain i))) ∷ [];
      cross = flat_map (rivalry_with i) (range_with_len 0 players);
      others = [];
    };
    followers = follower i ∷ [];
  }

  abbrev pub leaders_of_number : SourceOf
  leaders_of_number = map leader_with_follower (range_with_len 0 players)
