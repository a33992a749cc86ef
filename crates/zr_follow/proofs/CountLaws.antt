-- How many multipliers and pairs a leader's followers get.
use Rattle.std.proofs.Common.{◌≡◌, ℕ, suc, ◌+◌, ◌*◌, ◌<◌, ◌≤◌, arith, refl, sym, ap, ◌∙◌, List, [], ◌∷◌, ◌++◌, length, map, drop, drop-cons, get_or, All}
use Rattle.std.proofs.lemmas.List.{length-append, length-map}
use Rattle.zr_follow.proofs.Pairs.{length-row_pairs, length-var_pairs}
use Rattle.zr_source.specs.declared.source.Follower.{Follower}
use Rattle.zr_follow.specs.Expansion.{added_pairs, all_pairs, multipliers, row_pairs, var_pairs}
use Rattle.zr_source.specs.SourceForms.{IsFollowerForm}
use Rattle.zr_source.specs.Sources.{FollowerOf, follower_of}

multipliers_most : (fs : List FollowerOf) → All (λ (f : FollowerOf). length f.rows ≤ 32) fs → multipliers fs ≤ 32 * length fs
multipliers_most [] all = omega arith
multipliers_most (f ∷ fs) all =
    let r = multipliers_most fs (λ k d h. all (suc k) d (omega arith)) in
    let a = all 0 f (omega arith) in
    omega (arith, r, a)

added_most : (columns : ℕ) → columns ≤ 64 → (fs : List FollowerOf) → All (IsFollowerForm columns) fs → added_pairs fs ≤ 96 * length fs
added_most columns few [] all = omega arith
added_most columns few (f ∷ fs) all =
    let r = added_most columns few fs (λ k d h. all (suc k) d (omega arith)) in
    let a = all 0 f (omega arith) in
    let b = a.row_count in
    let e = a.vars_exist in
    omega (arith, r, b, e, few)

pub most_multipliers : (fs : List Follower) → length fs ≤ 16 → All (λ (f : FollowerOf). length f.rows ≤ 32) (map follower_of fs) → multipliers (map follower_of fs) ≤ 512
most_multipliers fs few all =
    let m = multipliers_most (map follower_of fs) all in
    let l = length-map fs follower_of in
    omega (arith, m, l, few)

pub most_added : (columns : ℕ) → columns ≤ 64 → (fs : List Follower) → length fs ≤ 16 → All (IsFollowerForm columns) (map follower_of fs) → added_pairs (map follower_of fs) ≤ 1536
most_added columns small fs few all =
    let m = added_most columns small (map follower_of fs) all in
    let l = length-map fs follower_of in
    omega (arith, m, l, few)

read_drop : (fs : List Follower) (i : ℕ) (x : Follower) → i < length fs → x ≡ get_or fs i x → drop i fs ≡ x ∷ drop (suc i) fs
read_drop fs i x h is = drop-cons fs i x h ∙ ap (λ (y : Follower). y ∷ drop (suc i) fs) (sym is)

pub multipliers_from : (fs : List Follower) (i : ℕ) (x : Follower) → i < length fs → x ≡ get_or fs i x → multipliers (map follower_of (drop i fs)) ≡ length (follower_of x).rows + multipliers (map follower_of (drop (suc i) fs))
multipliers_from fs i x h is = ap (λ (l : List Follower). multipliers (map follower_of l)) (read_drop fs i x h is)

pub added_from : (fs : List Follower) (i : ℕ) (x : Follower) → i < length fs → x ≡ get_or fs i x → added_pairs (map follower_of (drop i fs)) ≡ x.count + length (follower_of x).rows + added_pairs (map follower_of (drop (suc i) fs))
added_from fs i x h is = ap (λ (l : List Follower). added_pairs (map follower_of l)) (read_drop fs i x h is)

-- a pair per variable and per row
pub length-all_pairs : (from : ℕ) (fs : List FollowerOf) → length (all_pairs from fs) ≡ added_pairs fs
length-all_pairs from [] = refl
length-all_pairs from (f ∷ fs) =
    let vars = var_pairs from f f.first f.count in
    let rows = row_pairs from f.rows in
    let a = length-append (vars ++ rows) (all_pairs (from + length f.rows) fs) in
    let b = length-append vars rows in
    let v = length-var_pairs from f f.first f.count in
    let r = length-row_pairs from f.rows in
    let rest = length-all_pairs (from + length f.rows) fs in
    omega (arith, a, b, v, r, rest)
