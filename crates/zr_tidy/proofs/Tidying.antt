-- What is put in order, merged and divided is tidy.
use Rattle.std.proofs.Common.{◌≡◌, ℕ, zero, suc, ◌*◌, ◌<◌, arith, sym, ap, subst, ◌∙◌, ℤ, pos, ◌*ℤ◌, ◌<ℤ◌, ◌≤ℤ◌, unsigned_abs, [], ◌∷◌, All, slice_get, Some, one-mul}
use Rattle.std.proofs.Math.Nat.{dvd_of_mul-dvd-mul_right, eq-one_of_dvd-one, mul-dvd-mul_right}
use Rattle.std.proofs.lemmas.Int.{ints, unsigned_abs-mul}
use Rattle.std.proofs.lemmas.Option.{same_Some}
use Rattle.std.specs.Int.{◌∣◌}
use Rattle.zr_base.specs.Points.{IsSamePoint, PointOf}
use Rattle.zr_base.proofs.Divisors.{positive_factor}
use Rattle.zr_base.proofs.Members.{each_of, each_of_all}
use Rattle.zr_base.proofs.Worth.{Each}
use Rattle.zr_game.specs.Profiles.{Part, Strategy}
use Rattle.zr_tidy.specs.Merges.{AreDivided, AreMerged, HasPut, alone, before, met, after, done, more}
use Rattle.zr_system.proofs.Joined.{all_of_each}
use Rattle.zr_tidy.specs.Points.{IsBefore, IsLowestPoint}
use Rattle.zr_tidy.specs.Tidy.{IsTidy}

-- the point is before the first part's, if there is one
abbrev IsBeforeHead : PointOf → Strategy → Type 0
IsBeforeHead x [] = Unit {0}
IsBeforeHead x (p ∷ ps) = IsBefore x p.point

-- each part's point is before the next one's
abbrev pub Ascend : Strategy → Type 0
Ascend [] = Unit {0}
Ascend (p ∷ ps) = IsBeforeHead p.point ps × Ascend ps

pub by_places : (parts : Strategy) → Ascend parts → (k : ℕ) (a b : Part)
    → slice_get parts k ≡ Some a → slice_get parts (suc k) ≡ Some b → IsBefore a.point b.point
by_places [] h k a b e g = absurd cc
by_places (p ∷ []) h zero a b e g = absurd cc
by_places (p ∷ q ∷ rest) h zero a b e g =
    let x : p ≡ a = same_Some p a e in
    let y : q ≡ b = same_Some q b g in
    subst (λ z. IsBefore a.point z.point) y (subst (λ z. IsBefore z.point q.point) x h.0)
by_places (p ∷ ps) h (suc k) a b e g = by_places ps h.1 k a b e g

head_put : (x : PointOf) (p : Part) (old new : Strategy) → HasPut p old new → IsBeforeHead x old
    → IsBefore x p.point → IsBeforeHead x new
head_put x p old new alone h b = b
head_put x p old new (before q rest c) h b = b
head_put x p old new (met q rest same) h b = h
head_put x p old new (after q rest next c put) h b = h

ascend_put : (p : Part) (old new : Strategy) → HasPut p old new → Ascend old → Ascend new
ascend_put p old new alone h = (tt, tt)
ascend_put p old new (before q rest b) h = (b, h)
ascend_put p old new (met q rest same) h = h
ascend_put p old new (after q rest next b put) h =
    (head_put q.point p rest next put h.0 b, ascend_put p rest next put h.1)

pub ascend_merged : (old raw new : Strategy) → AreMerged old raw new → Ascend old → Ascend new
ascend_merged old [] new m h = subst Ascend m h
ascend_merged old (p ∷ ps) new m h =
    ascend_merged m.0 ps new m.2
    (ascend_put (record { weight = p.weight; point = m.1.point }) old m.0 m.1.put h)

head_divided : (x : PointOf) (by : ℤ) (old new : Strategy) → AreDivided by old new
    → IsBeforeHead x old → IsBeforeHead x new
head_divided x by old new done h = tt
head_divided x by old new (more p q ps qs e w rest) h =
    subst (λ z. IsBefore x z) (sym e) h

pub ascend_divided : (by : ℤ) (old new : Strategy) → AreDivided by old new → Ascend old
    → Ascend new
ascend_divided by old new done h = tt
ascend_divided by old new (more p q ps qs e w rest) h = (
  subst (λ z. IsBeforeHead z qs) (sym e) (head_divided p.point by ps qs rest h.0),
  ascend_divided by ps qs rest h.1,
)

-- ---- points and weights

abbrev pub HasWeight : Part → Type 0
HasWeight part = (pos 1) ≤ℤ part.weight

-- what holds of the old points and of those that are put among them holds of the new ones
module _ (P : PointOf → Type 0) where
  abbrev pub EachPoint : Strategy → Type 0
  EachPoint parts = Each (λ part. P part.point) parts

  pub points_put : (p : Part) (old new : Strategy) → HasPut p old new → EachPoint old → P p.point
      → EachPoint new
  points_put p old new alone h l = (l, tt)
  points_put p old new (before q rest b) h l = (l, h)
  points_put p old new (met q rest same) h l = h
  points_put p old new (after q rest next b put) h l = (h.0, points_put p rest next put h.1 l)

  -- a part's point in lowest terms
  abbrev pub Lowered : Part → Type 0
  Lowered raw = (x : PointOf) → IsSamePoint x raw.point → IsLowestPoint x → P x

  pub points_merged : (old raw new : Strategy) → AreMerged old raw new → EachPoint old
      → Each Lowered raw → EachPoint new
  points_merged old [] new m h k = subst EachPoint m h
  points_merged old (p ∷ ps) new m h k =
      points_merged m.0 ps new m.2
      (points_put (record { weight = p.weight; point = m.1.point }) old m.0 m.1.put h
      (k.0 m.1.point m.1.same m.1.lowest)) k.1

  pub points_divided : (by : ℤ) (old new : Strategy) → AreDivided by old new → EachPoint old
      → EachPoint new
  points_divided by old new done h = tt
  points_divided by old new (more p q ps qs e w rest) h =
      (subst P (sym e) h.0, points_divided by ps qs rest h.1)

pub weight_put : (p : Part) (old new : Strategy) → HasPut p old new → Each HasWeight old
    → HasWeight p → Each HasWeight new
weight_put p old new alone h l = (l, tt)
weight_put p old new (before q rest b) h l = (l, h)
weight_put p old new (met q rest same) h l = let a = h.0 in (omega (arith, ints, a, l), h.1)
weight_put p old new (after q rest next b put) h l = (h.0, weight_put p rest next put h.1 l)

pub weight_merged : (old raw new : Strategy) → AreMerged old raw new → Each HasWeight old
    → Each HasWeight raw → Each HasWeight new
weight_merged old [] new m h k = subst (Each HasWeight) m h
weight_merged old (p ∷ ps) new m h k =
    weight_merged m.0 ps new m.2
    (weight_put (record { weight = p.weight; point = m.1.point }) old m.0 m.1.put h k.0) k.1

pub weight_divided : (by : ℤ) → (pos 0) <ℤ by → (old new : Strategy) → AreDivided by old new
    → Each HasWeight old → Each HasWeight new
weight_divided by above old new done h = tt
weight_divided by above old new (more p q ps qs e w rest) h =
    let a = h.0 in
    let b : (pos 0) <ℤ (q.weight *ℤ by) = rw w (omega (arith, ints, a)) in
    let c = positive_factor q.weight by b above in
    (omega (arith, ints, c), weight_divided by above ps qs rest h.1)

-- ---- no common divisor is left

abbrev pub Divides : ℕ → Part → Type 0
Divides d part = d ∣ unsigned_abs part.weight

pub raised : (d : ℕ) (by a b : ℤ) → a *ℤ by ≡ b → d ∣ unsigned_abs a
    → d * unsigned_abs by ∣ unsigned_abs b
raised d by a b e h =
    subst (λ m. d * unsigned_abs by ∣ m) (sym (unsigned_abs-mul a by) ∙ ap unsigned_abs e)
    (mul-dvd-mul_right d h (unsigned_abs by))

pub divides_before : (d : ℕ) (by : ℤ) (old new : Strategy) → AreDivided by old new
    → Each (Divides d) new → Each (Divides (d * unsigned_abs by)) old
divides_before d by old new done h = tt
divides_before d by old new (more p q ps qs e w rest) h =
    (raised d by q.weight p.weight w h.0, divides_before d by ps qs rest h.1)

pub one_left : (d g : ℕ) → 0 < g → d * g ∣ g → d ≡ 1
one_left d g some h =
    eq-one_of_dvd-one (dvd_of_mul-dvd-mul_right d some (subst (λ m. d * g ∣ m) (sym (one-mul g)) h))

pub is_tidy : (raw merged parts : Strategy) (by : ℤ) → (pos 0) <ℤ by → All HasWeight raw
    → AreMerged [] raw merged → AreDivided by merged parts
    → ((d : ℕ) → All (Divides d) merged → d ∣ unsigned_abs by) → IsTidy parts
is_tidy raw merged parts by above weights m div greatest = record {
  points = all_of_each (λ part. IsLowestPoint part.point) parts
      (points_divided IsLowestPoint by merged parts div (points_merged IsLowestPoint [] raw merged m
      tt (each_of (Lowered IsLowestPoint) raw (λ p h x same lowest. lowest))));
  weights = all_of_each HasWeight parts (weight_divided by above merged parts div
      (weight_merged [] raw merged m tt (each_of_all HasWeight raw weights)));
  ascend = by_places parts (ascend_divided by merged parts div (ascend_merged [] raw merged m tt));
  coprime = λ d all. one_left d (unsigned_abs by) (omega (arith, ints, above))
      (greatest (d * unsigned_abs by) (all_of_each (Divides (d * unsigned_abs by)) merged
      (divides_before d by merged parts div (each_of_all (Divides d) parts all))));
}
