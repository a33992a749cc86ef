-- What is known of a leader that was read from a source's list.
use Rattle.std.proofs.Common.{◌≡◌, ℕ, ◌<◌, ◌≤◌, arith, subst, List, length, map, get_or, ⊎_elim}
use Rattle.std.proofs.lemmas.Bool.{cases_lt}
use Rattle.std.proofs.lemmas.List.{length-map}
use Rattle.zr_game.proofs.Items.{found}
use Rattle.zr_game.specs.Forms.{IsPlayerForm}
use Rattle.zr_game.specs.Players.{pair_of, var_of}
use Rattle.zr_follow.proofs.BaseProfiles.{base_is}
use Rattle.zr_follow.proofs.CountLaws.{most_multipliers}
use Rattle.zr_source.specs.declared.source.Leader.{Leader}
use Rattle.zr_follow.specs.Expansion.{IsFirstPast, multipliers}
use Rattle.zr_source.specs.SourceForms.{IsLeaderForm, IsSource}
use Rattle.zr_source.specs.Sources.{IsLeader, SourceOf, bases, follower_of, leader_of, leaders_of}

module _ (leaders : List Leader) (form : IsSource (leaders_of leaders)) (i : ℕ) (x : Leader) (below : i < length leaders) (is : x ≡ get_or leaders i x) where
  pub leader_is : IsLeader (leaders_of leaders) i (leader_of x)
  leader_is = found leader_of leaders i x below is

  pub leader_form : IsLeaderForm (leader_of x)
  leader_form = form.leaders i (leader_of x) leader_is

  base_form : IsPlayerForm (bases (leaders_of leaders)) i (leader_of x).base
  base_form = form.bases.players i (leader_of x).base (base_is (leaders_of leaders) i (leader_of x) leader_is)

  pub few_vars : length x.base.vars.items ≤ 64
  few_vars = subst (λ (n : ℕ). n ≤ 64) (length-map x.base.vars.items var_of) base_form.var_count

  pub few_pairs : length x.base.pairs.items ≤ 32
  few_pairs = subst (λ (n : ℕ). n ≤ 32) (length-map x.base.pairs.items pair_of) base_form.pair_count

pub few_multipliers : (leader : Leader) → IsLeaderForm (leader_of leader) → multipliers (map follower_of leader.followers.items) ≤ 512
few_multipliers leader form =
    most_multipliers leader.followers.items (subst (λ (n : ℕ). n ≤ 16) (length-map leader.followers.items follower_of) form.follower_count) (λ k d h. (form.followers k d h).row_count)

-- there is one first leader past the counts
pub one_first : (source : SourceOf) (i j : ℕ) → IsFirstPast source i → IsFirstPast source j → i ≡ j
one_first source i j p q =
    ⊎_elim (λ (h : i < j). absurd (p.0.2 (q.1 i p.0.0 h p.0.1))) (λ (h : j ≤ i). ⊎_elim (λ (l : j < i). absurd (q.0.2 (p.1 j q.0.0 l q.0.1))) (λ (l : i ≤ j). omega (arith, h, l)) (cases_lt j i)) (cases_lt i j)
