-- A fraction's value as a whole number over a denominator that several fractions share.
use Rattle.std.proofs.Common.{◌≡◌, ℕ, zero, suc, ◌<◌, arith, sym, ap, ap₂, ◌∙◌, ℤ, pos, negsuc, ◌+ℤ◌, ◌*ℤ◌, ◌≤ℤ◌, ◌<ℤ◌, List, [], ◌∷◌}
use Rattle.std.proofs.lemmas.Int.{ints}
use Rattle.zr_base.specs.Fractions.{Fraction, whole, plus, times, over, HaveSameCross, IsAtMost, sum_over, sum_below}
use Rattle.zr_base.proofs.Ring.{spread, le-mul_right, le_of_mul_right}
use Rattle.zr_base.proofs.Divisors.{cancel, same_value, mul_positive}
use Rattle.zr_base.specs.Sums.{sum_to}

-- f is `n / d`
pub record Worth (d : ℤ) (f : Fraction) (n : ℤ) : Type 0 where
  pub below : (pos 0) <ℤ f.den
  pub equal : f.num *ℤ d ≡ n *ℤ f.den

pub worth-whole : (d z : ℤ) → Worth d (whole z) (z *ℤ d)
worth-whole d z = record { below = omega (arith, ints); equal = omega (arith, ints) }

pub worth-zero : (d : ℤ) → Worth d (whole (pos 0)) (pos 0)
worth-zero d = record { below = omega (arith, ints); equal = omega (arith, ints) }

pub worth-plus : (d : ℤ) (f g : Fraction) (n m : ℤ) → Worth d f n → Worth d g m → Worth d (plus f g) (n +ℤ m)
worth-plus d f g n m p q =
    let a = simp spread at (ap (λ x. x *ℤ g.den) p.equal) in
    let b = simp spread at (ap (λ x. x *ℤ f.den) q.equal) in
    record { below = mul_positive f.den g.den p.below q.below; equal = simp spread (omega (arith, ints)) }

pub worth-times : (d e : ℤ) (f g : Fraction) (n m : ℤ) → Worth d f n → Worth e g m → Worth (d *ℤ e) (times f g) (n *ℤ m)
worth-times d e f g n m p q =
    let a = simp spread at (ap₂ ◌*ℤ◌ p.equal q.equal) in
    record { below = mul_positive f.den g.den p.below q.below; equal = simp spread (omega (arith, ints)) }

pub worth-multiple : (d z : ℤ) (f : Fraction) (n : ℤ) → Worth d f n → Worth d (times (whole z) f) (z *ℤ n)
worth-multiple d z f n p =
    let a = simp spread at (ap (λ x. z *ℤ x) p.equal) in
    let one : pos 1 *ℤ f.den ≡ f.den = omega (arith, ints) in
    let e : (z *ℤ f.num) *ℤ d ≡ (z *ℤ n) *ℤ f.den = simp spread (omega (arith, ints)) in
    record { below = rw one p.below; equal = e ∙ ap (λ x. (z *ℤ n) *ℤ x) (sym one) }

pub worth-over : (d k : ℤ) (f : Fraction) (n : ℤ) → (pos 0) <ℤ k → Worth d f n → Worth (d *ℤ k) (over f k) n
worth-over d k f n positive p =
    let a = simp spread at (ap (λ x. x *ℤ k) p.equal) in
    record { below = mul_positive f.den k p.below positive; equal = simp spread (omega (arith, ints)) }

pub worth-wider : (d e : ℤ) (f : Fraction) (n : ℤ) → Worth d f n → Worth (d *ℤ e) f (n *ℤ e)
worth-wider d e f n p =
    let a = simp spread at (ap (λ x. x *ℤ e) p.equal) in
    record { below = p.below; equal = simp spread (omega (arith, ints)) }

-- the same value over another denominator
pub worth-rescale : (a b : ℤ) (f : Fraction) (n m : ℤ) → (pos 0) <ℤ a → n *ℤ b ≡ m *ℤ a → Worth a f n → Worth b f m
worth-rescale a b f n m positive e p =
    let s = simp spread at (ap (λ x. x *ℤ b) p.equal) in
    let t = simp spread at (ap (λ x. x *ℤ f.den) e) in
    record { below = p.below; equal = cancel (f.num *ℤ b) (m *ℤ f.den) a positive (simp spread (omega (arith, ints))) }

pub worth-same : (d : ℤ) (f g : Fraction) (n : ℤ) → (pos 0) <ℤ d → Worth d f n → Worth d g n → HaveSameCross f g
worth-same d f g n positive p q =
    same_value f.num f.den n d g.num g.den positive p.equal (sym q.equal)

pub worth_of_same : (d : ℤ) (f g : Fraction) (n : ℤ) → (pos 0) <ℤ g.den → HaveSameCross f g → Worth d f n → Worth d g n
worth_of_same d f g n positive e p =
    record { below = positive; equal = same_value g.num g.den f.num f.den n d p.below (sym e) p.equal }

pub le_times : (a b k : ℤ) → (pos 0) <ℤ k → a ≤ℤ b → (a *ℤ k) ≤ℤ (b *ℤ k)
le_times a b (pos k) positive h = le-mul_right a b k h
le_times a b (negsuc k) positive h = absurd positive.lt

pub le_of_times : (a b k : ℤ) → (pos 0) <ℤ k → (a *ℤ k) ≤ℤ (b *ℤ k) → a ≤ℤ b
le_of_times a b (pos k) positive h = le_of_mul_right a b k (omega (arith, ints, positive)) h
le_of_times a b (negsuc k) positive h = absurd positive.lt

module _ (d : ℤ) (f g : Fraction) (n m : ℤ) (positive : (pos 0) <ℤ d) (p : Worth d f n) (q : Worth d g m) where
  pub at_most : n ≤ℤ m → IsAtMost f g
  at_most h =
      let dens = mul_positive f.den g.den p.below q.below in
      let a = simp spread at (ap (λ x. x *ℤ g.den) p.equal) in
      let b = simp spread at (ap (λ x. x *ℤ f.den) q.equal) in
      let c = le_times n m (f.den *ℤ g.den) dens h in
      le_of_times (f.num *ℤ g.den) (g.num *ℤ f.den) d positive (simp spread (omega (arith, ints)))

  pub of_at_most : IsAtMost f g → n ≤ℤ m
  of_at_most h =
      let dens = mul_positive f.den g.den p.below q.below in
      let a = simp spread at (ap (λ x. x *ℤ g.den) p.equal) in
      let b = simp spread at (ap (λ x. x *ℤ f.den) q.equal) in
      let c = simp spread at (le_times (f.num *ℤ g.den) (g.num *ℤ f.den) d positive h) in
      le_of_times n m (f.den *ℤ g.den) dens (omega (arith, ints))

-- the sum of whole numbers over a list
abbrev pub sum_list : {A : Type 0} → List A → (A → ℤ) → ℤ
sum_list [] f = pos 0
sum_list (x ∷ xs) f = f x +ℤ sum_list xs f

abbrev pub Each : {A : Type 0} → (A → Type 0) → List A → Type 0
Each P [] = Unit {0}
Each P (x ∷ xs) = P x × Each P xs

pub worth-sum : {A : Type 0} (d : ℤ) (P : A → Type 0) (xs : List A) (f : A → Fraction) (n : A → ℤ) → ((x : A) → P x → Worth d (f x) (n x)) → Each P xs → Worth d (sum_over xs f) (sum_list xs n)
worth-sum d P [] f n h all = worth-zero d
worth-sum d P (x ∷ xs) f n h all =
    worth-plus d (f x) (sum_over xs f) (n x) (sum_list xs n) (h x all.0) (worth-sum d P xs f n h all.1)

pub worth-below : (d : ℤ) (k : ℕ) (f : ℕ → Fraction) (n : ℕ → ℤ) → ((v : ℕ) → v < k → Worth d (f v) (n v)) → Worth d (sum_below k f) (sum_to k n)
worth-below d zero f n h = worth-zero d
worth-below d (suc k) f n h =
    worth-plus d (sum_below k f) (f k) (sum_to k n) (n k) (worth-below d k f n (λ v p. h v (omega arith))) (h k (omega arith))
