-- Rows that are sums of a system's rows, and the elimination of their last column.
use Rattle.std.proofs.Common.{◌≡◌, ℕ, suc, ◌+◌, ◌*◌, ◌<◌, arith, refl, sym, ap, ap₂, ◌∙◌, ℤ, pos, neg_ℤ, ◌+ℤ◌, ◌-ℤ◌, ◌*ℤ◌, ◌<ℤ◌, unsigned_abs, Bool, true, false, ◌||◌, mul-pos, if◌then◌else◌, ◌==◌}
use Rattle.std.proofs.Math.IntN.{*ℤ_comm}
use Rattle.std.proofs.lemmas.Bool.Decides.{nat_tests}
use Rattle.std.proofs.lemmas.Int.{ints}
use Rattle.zr_base.proofs.Ring.{spread}
use Rattle.zr_base.proofs.Divisors.{nonneg_abs}
use Rattle.zr_base.proofs.Dense.{sum_to_same, sum_to-add, sum_to-mul}
use Rattle.zr_base.specs.Sums.{sum_to}
use Rattle.zr_lin.specs.DenseRows.{DenseRow, IsBelow}
use Rattle.zr_lin.proofs.Below.{below_gap, below_of_gap}
use Rattle.zr_lin.proofs.OneColumn.{Bound, MeetsAt, LeavesRoom}

-- a row, and how often each row of the system is in it
pub record Derived : Type 0 where
  pub coef : ℕ → ℤ
  pub le : ℤ
  pub strict : Bool
  pub weight : ℕ → ℕ

pub record IsDerived (count : ℕ) (row : ℕ → DenseRow) (r : Derived) : Type 0 where
  pub coefs : (j : ℕ) → r.coef j ≡ sum_to count (λ k. pos (r.weight k) *ℤ (row k).coef j)
  pub right : r.le ≡ sum_to count (λ k. pos (r.weight k) *ℤ (row k).le)
  pub strict : r.strict ≡ true → (k : ℕ) × (k < count) × (0 < r.weight k) × ((row k).strict ≡ true)

abbrev pub mixed : ℕ → Derived → ℕ → Derived → Derived
mixed a u b l = record {
  coef = λ j. pos a *ℤ u.coef j +ℤ pos b *ℤ l.coef j;
  le = pos a *ℤ u.le +ℤ pos b *ℤ l.le;
  strict = u.strict || l.strict;
  weight = λ k. a * u.weight k + b * l.weight k;
}

mixed_sum : (n a b : ℕ) (f : ℕ → ℤ) (v w : ℕ → ℕ) (x y : ℤ) → x ≡ sum_to n (λ k. pos (v k) *ℤ f k) → y ≡ sum_to n (λ k. pos (w k) *ℤ f k) → pos a *ℤ x +ℤ pos b *ℤ y ≡ sum_to n (λ k. pos (a * v k + b * w k) *ℤ f k)
mixed_sum n a b f v w x y p q =
    ap₂ (λ s t. pos a *ℤ s +ℤ pos b *ℤ t) p q ∙ ap₂ ◌+ℤ◌ (sym (sum_to-mul n (pos a) (λ k. pos (v k) *ℤ f k))) (sym (sum_to-mul n (pos b) (λ k. pos (w k) *ℤ f k))) ∙ sym (sum_to-add n (λ k. pos a *ℤ (pos (v k) *ℤ f k)) (λ k. pos b *ℤ (pos (w k) *ℤ f k))) ∙ sum_to_same n (λ k. pos a *ℤ (pos (v k) *ℤ f k) +ℤ pos b *ℤ (pos (w k) *ℤ f k)) (λ k. pos (a * v k + b * w k) *ℤ f k) (λ k h. joined a b (v k) (w k) (f k))
  where
    joined : (a b s t : ℕ) (z : ℤ) → pos a *ℤ (pos s *ℤ z) +ℤ pos b *ℤ (pos t *ℤ z) ≡ pos (a * s + b * t) *ℤ z
    joined a b s t z =
        let e : pos (a * s + b * t) ≡ pos a *ℤ pos s +ℤ pos b *ℤ pos t = refl in
        rw e (simp spread)

pub IsDerived-mixed : (count : ℕ) (row : ℕ → DenseRow) (a b : ℕ) (u l : Derived) → 0 < a → 0 < b → IsDerived count row u → IsDerived count row l → IsDerived count row (mixed a u b l)
IsDerived-mixed count row a b u l p q hu hl = record {
  coefs = λ j. mixed_sum count a b (λ k. (row k).coef j) u.weight l.weight (u.coef j) (l.coef j) (hu.coefs j) (hl.coefs j);
  right = mixed_sum count a b (λ k. (row k).le) u.weight l.weight u.le l.le hu.right hl.right;
  strict = used u.strict l.strict hu.strict hl.strict;
}
  where
    used : (s t : Bool) → (s ≡ true → (k : ℕ) × (k < count) × (0 < u.weight k) × ((row k).strict ≡ true)) → (t ≡ true → (k : ℕ) × (k < count) × (0 < l.weight k) × ((row k).strict ≡ true)) → (s || t) ≡ true → (k : ℕ) × (k < count) × (0 < a * u.weight k + b * l.weight k) × ((row k).strict ≡ true)
    used true t f g e = let r = f refl in let m : 0 < a * u.weight r.0 = mul-pos p r.2 in (r.0, r.1, omega (arith, m), r.3)
    used false true f g e = let r = g refl in let m : 0 < b * l.weight r.0 = mul-pos q r.2 in (r.0, r.1, omega (arith, m), r.3)
    used false false f g e = absurd cc

-- the value on the first n columns
abbrev pub value : ℕ → (ℕ → ℤ) → Derived → ℤ
value n p r = sum_to n (λ j. r.coef j *ℤ p j)

abbrev pub Meets : ℕ → (ℕ → ℤ) → ℤ → Derived → Type 0
Meets n p d r = IsBelow r.strict (value n p r) (r.le *ℤ d)

-- a row as a bound on column n
abbrev pub bound : ℕ → (ℕ → ℤ) → ℤ → Derived → Bound
bound n p d r = record { coef = r.coef n; gap = value n p r -ℤ r.le *ℤ d; strict = r.strict }

mixed_value : (n a b : ℕ) (p : ℕ → ℤ) (u l : Derived) → value n p (mixed a u b l) ≡ pos a *ℤ value n p u +ℤ pos b *ℤ value n p l
mixed_value n a b p u l =
    sum_to_same n (λ j. (pos a *ℤ u.coef j +ℤ pos b *ℤ l.coef j) *ℤ p j) (λ j. pos a *ℤ (u.coef j *ℤ p j) +ℤ pos b *ℤ (l.coef j *ℤ p j)) (λ j h. simp spread) ∙ sum_to-add n (λ j. pos a *ℤ (u.coef j *ℤ p j)) (λ j. pos b *ℤ (l.coef j *ℤ p j)) ∙ ap₂ ◌+ℤ◌ (sum_to-mul n (pos a) (λ j. u.coef j *ℤ p j)) (sum_to-mul n (pos b) (λ j. l.coef j *ℤ p j))

-- the row that two bounds on column n leave
abbrev pub paired : ℕ → Derived → Derived → Derived
paired n u l = mixed (unsigned_abs (l.coef n)) u (unsigned_abs (u.coef n)) l

pub room_of : (n : ℕ) (p : ℕ → ℤ) (d : ℤ) (u l : Derived) → ((pos 0) <ℤ u.coef n → l.coef n <ℤ (pos 0) → Meets n p d (paired n u l)) → LeavesRoom (bound n p d u) (bound n p d l)
room_of n p d u l meets above below =
    let a : neg_ℤ (l.coef n) ≡ pos (unsigned_abs (l.coef n)) = omega (arith, ints) in
    let b : u.coef n ≡ pos (unsigned_abs (u.coef n)) = nonneg_abs (u.coef n) above in
    let g = below_gap (u.strict || l.strict) (value n p (paired n u l)) ((paired n u l).le *ℤ d) (meets above below) in
    let e : value n p (paired n u l) -ℤ (paired n u l).le *ℤ d ≡ neg_ℤ (l.coef n) *ℤ (value n p u -ℤ u.le *ℤ d) +ℤ u.coef n *ℤ (value n p l -ℤ l.le *ℤ d) = rw (mixed_value n (unsigned_abs (l.coef n)) (unsigned_abs (u.coef n)) p u l, ← a, ← b) (simp spread (omega (arith, ints))) in
    rw (← e) g

-- a solution of the bounds on column n extends one of the other columns
abbrev pub extended : ℕ → (ℕ → ℤ) → ℤ → ℤ → ℕ → ℤ
extended n p x e j = if j == n then x else p j *ℤ e

pub meets_extended : (n : ℕ) (p : ℕ → ℤ) (d x e : ℤ) (r : Derived) → MeetsAt x e (bound n p d r) → Meets (suc n) (extended n p x e) (d *ℤ e) r
meets_extended n p d x e r h =
    let front : sum_to n (λ j. r.coef j *ℤ extended n p x e j) ≡ value n p r *ℤ e = sum_to_same n (λ j. r.coef j *ℤ extended n p x e j) (λ j. e *ℤ (r.coef j *ℤ p j)) (λ j q. ap (λ y. r.coef j *ℤ y) (before_last j q) ∙ simp spread) ∙ sum_to-mul n e (λ j. r.coef j *ℤ p j) ∙ *ℤ_comm e (value n p r) in
    let last : extended n p x e n ≡ x = grind (arith, nat_tests) in
    below_of_gap r.strict (sum_to n (λ j. r.coef j *ℤ extended n p x e j) +ℤ r.coef n *ℤ extended n p x e n) (r.le *ℤ (d *ℤ e)) ((value n p r -ℤ r.le *ℤ d) *ℤ e +ℤ r.coef n *ℤ x) h (rw (front, last) (simp spread (omega (arith, ints))))
  where
    before_last : (j : ℕ) → j < n → extended n p x e j ≡ p j *ℤ e
    before_last j q = grind (arith, nat_tests)
