-- Points along a direction.
use Rattle.std.proofs.Common.{◌≡◌, ℕ, zero, suc, arith, refl, sym, ap, ◌∙◌, ℤ, pos, negsuc, ◌+ℤ◌, ◌-ℤ◌, ◌*ℤ◌, neg_ℤ, ◌<ℤ◌, ◌≤ℤ◌, List, [], ◌∷◌, map, length, slice_index_or}
use Rattle.std.specs.List.{zip}
use Rattle.std.proofs.lemmas.Int.{ints}
use Rattle.std.proofs.Math.IntN.{*ℤ_comm}
use Rattle.zr_base.specs.Fractions.{Fraction}
use Rattle.zr_base.specs.Points.{PointOf, num_of}
use Rattle.zr_base.specs.Sums.{sum_to}
use Rattle.zr_base.proofs.Ring.{mul-add_left, mul_left_comm, neg-mul_right, le-mul_right}
use Rattle.zr_base.proofs.Dense.{sum_to_same, sum_to-add, sum_to-mul}
use Rattle.zr_base.proofs.Worth.{le_times}
use Rattle.zr_game.specs.Players.{PlayerOf}
use Rattle.zr_game.specs.Leaves.{LeafOf, MeetsLeaf}
use Rattle.zr_game.specs.Rays.{Direction, change_of, moved}
use Rattle.zr_simplex.specs.Programs.{numbers}
use Rattle.zr_branch.specs.Replies.{KeepsLeaf}
use Rattle.zr_branch.specs.Values.{aim_value}

moved_at : (m : ℤ) (xs ys : List ℤ) (v : ℕ) → length xs ≡ length ys
    → slice_index_or (map (λ p. p.0 +ℤ m *ℤ p.1) (zip xs ys)) v (pos 0)
    ≡ slice_index_or xs v (pos 0) +ℤ m *ℤ slice_index_or ys v (pos 0)
moved_at m [] [] v e = omega (arith, ints)
moved_at m [] (y ∷ ys) v e = absurd (omega (arith, e))
moved_at m (x ∷ xs) [] v e = absurd (omega (arith, e))
moved_at m (x ∷ xs) (y ∷ ys) zero e = refl
moved_at m (x ∷ xs) (y ∷ ys) (suc v) e = moved_at m xs ys v (omega (arith, e))

moved_length : (m : ℤ) (xs ys : List ℤ) → length xs ≡ length ys
    → length (map (λ p. p.0 +ℤ m *ℤ p.1) (zip xs ys)) ≡ length xs
moved_length m [] [] e = refl
moved_length m [] (y ∷ ys) e = absurd (omega (arith, e))
moved_length m (x ∷ xs) [] e = absurd (omega (arith, e))
moved_length m (x ∷ xs) (y ∷ ys) e =
    let r = moved_length m xs ys (omega (arith, e)) in omega (arith, r)

pub times_le : (m a b : ℤ) → (pos 1) ≤ℤ m → a ≤ℤ b → (m *ℤ a) ≤ℤ (m *ℤ b)
times_le (pos n) a b p h =
    let r = le-mul_right a b n h in omega (arith, ints, r, *ℤ_comm (pos n) a, *ℤ_comm (pos n) b)
times_le (negsuc n) a b p h = absurd (omega (arith, ints, p))

falls : (t s : ℤ) → (pos 0) ≤ℤ t → s ≤ℤ (pos 0) → (t *ℤ s) ≤ℤ (pos 0)
falls (pos zero) s p h = omega (arith, ints)
falls (pos (suc n)) s p h =
    let m = times_le (pos (suc n)) s (pos 0) (omega (arith, ints)) h in omega (arith, ints, m)
falls (negsuc n) s p h = absurd (omega (arith, ints, p))

pub negative_times : (r d : ℤ) → (pos 0) <ℤ d → r <ℤ (pos 0) → (r *ℤ d) <ℤ (pos 0)
negative_times r (pos zero) positive h = absurd (omega (arith, ints, positive))
negative_times r (pos (suc n)) positive h =
    let m = times_le (pos (suc n)) r (negsuc 0) (omega (arith, ints)) (omega (arith, ints, h)) in
    let c = *ℤ_comm (pos (suc n)) r in omega (arith, ints, m, c)
negative_times r (negsuc n) positive h = absurd (omega (arith, ints, positive))

module _ (player : PlayerOf) (x : PointOf) (dir : Direction)
    (len : length x.num ≡ length player.vars) (same : length dir ≡ length player.vars) (t : ℕ) where
  abbrev V : ℕ
  V = length player.vars

  abbrev reach : ℤ
  reach = pos t *ℤ x.den

  sum_moved : (a : ℕ → ℤ) → sum_to V (λ j. a j *ℤ num_of (moved x dir t) j)
      ≡ sum_to V (λ j. a j *ℤ num_of x j) +ℤ reach *ℤ sum_to V (λ j. a j *ℤ change_of dir j)
  sum_moved a =
      sum_to_same V (λ j. a j *ℤ num_of (moved x dir t) j)
      (λ j. a j *ℤ num_of x j +ℤ reach *ℤ (a j *ℤ change_of dir j))
      (λ j h. ap (λ z. a j *ℤ z) (moved_at reach x.num dir j (len ∙ sym same)) ∙
      mul-add_left (a j) (num_of x j) (reach *ℤ change_of dir j) ∙
      ap (λ z. a j *ℤ num_of x j +ℤ z) (mul_left_comm (a j) reach (change_of dir j))) ∙
      sum_to-add V (λ j. a j *ℤ num_of x j) (λ j. reach *ℤ (a j *ℤ change_of dir j)) ∙
      ap (λ z. sum_to V (λ j. a j *ℤ num_of x j) +ℤ z)
      (sum_to-mul V reach (λ j. a j *ℤ change_of dir j))

  pub value_moved : (aim : List ℤ) → aim_value player aim (num_of (moved x dir t))
      ≡ aim_value player aim (num_of x) +ℤ reach *ℤ aim_value player aim (change_of dir)
  value_moved aim = sum_moved (numbers aim)

  pub meets_moved : (leaf : LeafOf) → MeetsLeaf player leaf x → KeepsLeaf player leaf dir
      → MeetsLeaf player leaf (moved x dir t)
  meets_moved leaf meets keeps = record {
    point = meets.point;
    len = moved_length reach x.num dir (len ∙ sym same) ∙ len;
    rows = λ k row e. (let h = meets.rows k row e in
        let d = keeps k row e in
        let p = meets.point in
        let f = falls reach (sum_to V (λ j. row.coef j *ℤ change_of dir j)) up d in
        let s = sum_moved row.coef in
        omega (arith, ints, h, f, s));
  }
    where
      times_up : (n : ℕ) (d : ℤ) → (pos 0) <ℤ d → (pos 0) ≤ℤ (pos n *ℤ d)
      times_up n d p =
          let h = le_times (pos 0) (pos n) d p (omega (arith, ints)) in
          let z : pos 0 *ℤ d ≡ pos 0 = omega (arith, ints) in omega (arith, ints, h, z)

      up : (pos 0) ≤ℤ reach
      up = times_up t x.den meets.point

-- from c on, at least one less for each step
no_end : (c k : ℤ) → (pos 0) ≤ℤ c → (pos 1) ≤ℤ k → ((c +ℤ pos 1) *ℤ k) ≤ℤ c → ⊥
no_end c (pos zero) up one h = omega (arith, ints, one)
no_end (pos c) (pos (suc n)) up one h =
    let m = times_le (pos (suc c)) (pos 1) (pos (suc n)) (omega (arith, ints)) one in
    omega (arith, ints, m, h)
no_end (negsuc c) (pos (suc n)) up one h = omega (arith, ints, up)
no_end c (negsuc n) up one h = omega (arith, ints, one)

-- what is at least a number, and falls by s over a number of whole steps, has an end
pub below_all : (f : Fraction) (a s d : ℤ) → (pos 0) <ℤ f.den → s <ℤ (pos 0)
    → ((t : ℕ) → (f.num *ℤ d) ≤ℤ (f.den *ℤ (a +ℤ pos t *ℤ s))) → ⊥
below_all f a s d above down all = over (f.den *ℤ a -ℤ f.num *ℤ d) refl
  where
    product : (s *ℤ f.den) <ℤ (pos 0)
    product = negative_times s f.den above down

    start : (f.num *ℤ d) ≤ℤ (f.den *ℤ a)
    start =
        let z : pos 0 *ℤ s ≡ pos 0 = omega (arith, ints) in
        let plain : a +ℤ pos 0 *ℤ s ≡ a = omega (arith, ints, z) in
        rw plain at (all 0)

    over : (c : ℤ) → f.den *ℤ a -ℤ f.num *ℤ d ≡ c → ⊥
    over (negsuc n) e = let h = start in omega (arith, ints, h, e)
    over (pos n) e =
        let there = all (suc n) in
        let p = product in
        let one : (pos 1) ≤ℤ neg_ℤ (s *ℤ f.den) = omega (arith, ints, p) in
        let spread_ : f.den *ℤ (a +ℤ pos (suc n) *ℤ s)
        ≡ f.den *ℤ a +ℤ pos (suc n) *ℤ (s *ℤ f.den) =
        mul-add_left f.den a (pos (suc n) *ℤ s) ∙ ap (λ q. f.den *ℤ a +ℤ q)
        (mul_left_comm f.den (pos (suc n)) s ∙ ap (λ q. pos (suc n) *ℤ q) (*ℤ_comm f.den s)) in
        let turned = neg-mul_right (pos (suc n)) (s *ℤ f.den) in
        let low = rw spread_ at there in
        let step : pos n +ℤ pos 1 ≡ pos (suc n) = omega (arith, ints) in
        no_end (pos n) (neg_ℤ (s *ℤ f.den)) (omega (arith, ints)) one
        (rw step (omega (arith, ints, low, turned, e)))
