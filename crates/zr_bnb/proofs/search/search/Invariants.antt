use Rattle.std.proofs.Common.{◌≡◌, ◌+◌, ◌*◌, ◌-◌, length, true}
use Rattle.zr_io.specs.Purses.{counted}
use Rattle.zr_game.specs.Players.{player_of}
use Rattle.zr_bnb.specs.Causes.{IsLeastOpen}
use Rattle.zr_bnb.specs.Found.{pending}
use Rattle.zr_bnb.proofs.Growing.{IsGrowing, SpendsBranches}
use Rattle.zr_bnb.proofs.search.search.Given as goal

abbrev pub invariant-branches : goal.invariant-branches
invariant-branches l = record {
  growing : IsGrowing (player_of l.player) l.aim l.best l.plans.items (pending l.due.items)
      (l.purse.branches - l.fn.purse.branches);
  spends : SpendsBranches l.fn.purse l.purse;
  ends : l.ends ≡ true → IsLeastOpen (player_of l.player) l.aim;
}

abbrev pub decreases-branches : goal.decreases-branches
decreases-branches l =
    2 * (l.purse.limit - counted l.purse) + length (pending l.due.items)
