-- A leader that chooses x up to 2, and its follower, which takes the greatest f of at most x.
use Rattle.std.specs.Prelude.{ℤ, pos, negsuc, false, Some, None, [], ◌∷◌, codes}
use Rattle.zr_base.specs.Points.{PointOf}
use Rattle.zr_source.specs.Sources.{FollowerOf, LeaderOf}

-- it minimises -f over f >= 0 with f - x <= 0
abbrev pub greatest : FollowerOf
greatest = record {
  first = 1;
  count = 1;
  rows = record { coef = (0, negsuc 0) ∷ (1, pos 1) ∷ []; le = pos 0 } ∷ [];
  cost = (1, negsuc 0) ∷ [];
  cross = [];
}

-- the leader's cost is `2x - 3f`
abbrev pub generous : LeaderOf
generous = record {
  base = record {
    name = codes "leader";
    vars = record { name = codes "x"; whole = false; low = Some (pos 0); up = Some (pos 2) }
        ∷ record { name = codes "f"; whole = false; low = Some (pos 0); up = None }
        ∷ [];
    rows = [];
    pairs = [];
    cost = (0, pos 2) ∷ (1, negsuc 2) ∷ [];
    cross = [];
    others = [];
  };
  followers = greatest ∷ [];
}

-- the whole values of x and f
abbrev pub chosen : ℤ → ℤ → PointOf
chosen x f = record { num = x ∷ f ∷ []; den = pos 1 }
