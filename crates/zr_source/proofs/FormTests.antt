-- The rules of a source, told by tests.
use Rattle.std.proofs.Common.{◌≡◌, ◌↔◌, ℕ, suc, ◌+◌, ◌<◌, ◌≤◌, ℤ, pos, false, None, Some, arith, refl, sym, ap, subst, Bool, true, ◌&&◌, IsTrue, List, [], ◌∷◌, length, map, drop, drop-cons, get_or, add-one, All, AllPairs, ◌∙◌}
use Rattle.std.specs.Cmp.{IsTotalOrder}
use Rattle.std.specs.declared.cmp.Ordering.TheVariants.{Less}
use Rattle.std.proofs.lemmas.Cmp.{nat_cmp_total, on_total, then_total}
use Rattle.std.proofs.lemmas.List.{drop_all, length-map}
use Rattle.zr_base.proofs.Telling.{both_true, true_both}
use Rattle.zr_game.proofs.Sorted.{IsTransitive}
use Rattle.zr_game.specs.Forms.{AreTerms, IsPlayer, IsPlayerForm, IsRowForm}
use Rattle.zr_game.specs.Players.{GameOf, PlayerOf, VarOf, player_of}
use Rattle.zr_source.specs.declared.source.Follower.{Follower}
use Rattle.zr_source.specs.declared.source.Leader.{Leader}
use Rattle.zr_source.specs.Names.{AreNames, leader_name, var_name}
use Rattle.zr_source.specs.SourceForms.{AreFree, IsFollowerCross, IsFollowerForm, IsLeaderForm, IsSource, StandInOrder, first_of, follower_cross_order}
use Rattle.zr_source.specs.Sources.{FollowerOf, IsLeader, IsOwn, LeaderOf, SourceOf, bases, follower_of, leaders_of}

-- a leader's base as a player
abbrev pub base_of : Leader → PlayerOf
base_of l = player_of l.base

pub bases_are : (leaders : List Leader) → bases (leaders_of leaders) ≡ map base_of leaders
bases_are [] = refl
bases_are (l ∷ leaders) = ap (λ (ps : GameOf). base_of l ∷ ps) (bases_are leaders)

cross_order_total : IsTotalOrder follower_cross_order
cross_order_total =
    let own = on_total (λ (t : ℕ × ℕ × ℤ). t.0) nat_cmp_total in
    then_total own (on_total (λ (t : ℕ × ℕ × ℤ). t.1) nat_cmp_total)

pub cross_follows : IsTransitive follower_cross_order
cross_follows = cross_order_total.trans

-- where variable v is the follower's own it is continuous, with low 0 and without an upper bound
abbrev pub IsFreeAt : FollowerOf → ℕ → VarOf → Type 0
IsFreeAt f v var =
    IsOwn f v → (var.whole ≡ false) × (var.low ≡ Some (pos 0)) × (var.up ≡ None)

-- the followers before k stand in order, and those from k on are left
pub record Standing (columns : ℕ) (fs : List Follower) (k : ℕ) (all : Bool) : Type 0 where
  pub left : (IsTrue all × StandInOrder columns (map follower_of (drop k fs)))
      ↔ StandInOrder columns (map follower_of fs)

pub none_standing : (columns : ℕ) (fs : List Follower) → Standing columns fs 0 true
none_standing columns fs = record { left = (λ h. h.1, λ h. (refl, h)) }

pub more_standing : (columns : ℕ) (fs : List Follower) (k : ℕ) (x : Follower) → k < length fs
    → x ≡ get_or fs k x → (all b : Bool) → Standing columns fs k all
    → (IsTrue b ↔ (x.first + x.count ≡ first_of columns (map follower_of (drop (k + 1) fs))))
    → Standing columns fs (k + 1) (all && b)
more_standing columns fs k x here is all b before told =
    let cut : drop k fs ≡ x ∷ drop (suc k) fs = drop-cons fs k x here ∙
    ap (λ (y : Follower). y ∷ drop (suc k) fs) (sym is) in
    let next : k + 1 ≡ suc k = add-one k in
    record {
      left = (
        λ h. let p = both_true all b h.0 in
            before.left.0 (p.0, rw cut (rw next at (told.0 p.1), rw next at h.1)),
        λ h. let p = before.left.1 h in let q = rw cut at p.1 in
            (true_both all b p.0 (told.1 (rw next q.0)), rw next q.1),
      );
    }

pub all_standing : (columns : ℕ) (fs : List Follower) (k : ℕ) (all : Bool) → length fs ≤ k
    → Standing columns fs k all → IsTrue all ↔ StandInOrder columns (map follower_of fs)
all_standing columns fs k all end t =
    let none : drop k fs ≡ [] = drop_all k fs end in
    (λ h. t.left.0 (h, rw none tt), λ h. (t.left.1 h).0)

-- the place of a follower's variables, and how many rows and cross terms it has
abbrev pub HavePlace : ℕ → FollowerOf → Type 0
HavePlace columns f =
    (f.first + f.count ≤ columns) × (length f.rows ≤ 32) × (length f.cross ≤ 65536)

module _ (columns : ℕ) (f : FollowerOf) (a b c d e : Bool) (place : IsTrue a ↔ HavePlace columns f)
    (rows : IsTrue b ↔ All (IsRowForm columns) f.rows) (cost : IsTrue c ↔ AreTerms columns f.cost)
    (cross : IsTrue d ↔ All (IsFollowerCross f columns) f.cross)
    (order : IsTrue e ↔ AllPairs (λ s t. follower_cross_order s t ≡ Less) f.cross) where
  pub follower_told : IsTrue ((((a && b) && c) && d) && e) ↔ IsFollowerForm columns f
  follower_told = (
    λ h.
        let p = both_true (((a && b) && c) && d) e h in
        let q = both_true ((a && b) && c) d p.0 in
        let r = both_true (a && b) c q.0 in
        let s = both_true a b r.0 in
        let n = place.0 s.0 in
        record {
          vars_exist = n.0;
          row_count = n.1;
          cross_count = n.2;
          rows = rows.0 s.1;
          cost = cost.0 r.1;
          cross = cross.0 q.1;
          cross_ascends = order.0 p.1;
        },
    λ h.
        let n = place.1 (h.vars_exist, h.row_count, h.cross_count) in
        let s = true_both a b n (rows.1 h.rows) in
        let r = true_both (a && b) c s (cost.1 h.cost) in
        let q = true_both ((a && b) && c) d r (cross.1 h.cross) in
        true_both (((a && b) && c) && d) e q (order.1 h.cross_ascends),
  )

module _ (leader : LeaderOf) (columns : ℕ) (same : columns ≡ length leader.base.vars)
    (a b c d e : Bool)
    (own : IsTrue a ↔ ((length leader.followers ≤ 16) × (1 ≤ first_of columns leader.followers)))
    (followers : IsTrue b ↔ All (IsFollowerForm columns) leader.followers)
    (order : IsTrue c ↔ StandInOrder columns leader.followers)
    (free : IsTrue d ↔ All (AreFree leader.base) leader.followers)
    (names : IsTrue e ↔ AreNames (map var_name leader.base.vars)) where
  pub leader_told : IsTrue ((((a && b) && c) && d) && e) ↔ IsLeaderForm leader
  leader_told = (
    λ h.
        let p = both_true (((a && b) && c) && d) e h in
        let q = both_true ((a && b) && c) d p.0 in
        let r = both_true (a && b) c q.0 in
        let s = both_true a b r.0 in
        let n = own.0 s.0 in
        record {
          follower_count = n.0;
          own_var = subst (λ (m : ℕ). 1 ≤ first_of m leader.followers) same n.1;
          followers = subst (λ (m : ℕ). All (IsFollowerForm m) leader.followers) same
              (followers.0 s.1);
          order = subst (λ (m : ℕ). StandInOrder m leader.followers) same (order.0 r.1);
          free = free.0 q.1;
          names = names.0 p.1;
        },
    λ h.
        let own_var = subst (λ (m : ℕ). 1 ≤ first_of m leader.followers) (sym same) h.own_var in
        let forms = subst (λ (m : ℕ). All (IsFollowerForm m) leader.followers) (sym same)
        h.followers in
        let stand = subst (λ (m : ℕ). StandInOrder m leader.followers) (sym same) h.order in
        let s = true_both a b (own.1 (h.follower_count, own_var)) (followers.1 forms) in
        let r = true_both (a && b) c s (order.1 stand) in
        let q = true_both ((a && b) && c) d r (free.1 h.free) in
        true_both (((a && b) && c) && d) e q (names.1 h.names),
  )

pub source_told : (source : SourceOf) (a b c : Bool) → 1 ≤ length source → length source ≤ 16
    → (IsTrue a ↔ ((i : ℕ) (player : PlayerOf) → IsPlayer (bases source) i player
    → IsPlayerForm (bases source) i player))
    → (IsTrue b ↔ ((i : ℕ) (leader : LeaderOf) → IsLeader source i leader → IsLeaderForm leader))
    → (IsTrue c ↔ AreNames (map leader_name source)) → IsTrue ((a && b) && c) ↔ IsSource source
source_told source a b c some few players leaders names =
    let len = length-map source (λ (l : LeaderOf). l.base) in (
      λ h.
          let p = both_true (a && b) c h in
          let q = both_true a b p.0 in
          record {
            bases = record {
              some_player = omega (arith, len, some);
              player_count = omega (arith, len, few);
              players = players.0 q.0;
            };
            leaders = leaders.0 q.1;
            names = names.0 p.1;
          },
      λ h. true_both (a && b) c (true_both a b (players.1 h.bases.players) (leaders.1 h.leaders))
          (names.1 h.names),
    )
