-- Quotients in lowest terms are ordered as the numbers that they are made of.
use Rattle.std.proofs.Common.{◌≡◌, arith, sym, ap, subst, ◌∙◌, ℤ, pos, neg_ℤ, ◌*ℤ◌, ◌≤ℤ◌, ◌<ℤ◌, ◌⊎◌, inl, inr}
use Rattle.std.proofs.lemmas.Int.{ints}
use Rattle.std.specs.Cmp.{int_cmp_is, int_ranks}
use Rattle.std.specs.Ordering.{int_cmp, MatchOrdering}
use Rattle.std.specs.declared.cmp.Ordering.{Ordering}
use Rattle.std.specs.declared.cmp.Ordering.TheVariants.{Less, Equal, Greater}
use Rattle.zr_base.proofs.Ring.{neg-mul_right, spread}
use Rattle.zr_base.proofs.Divisors.{cancel, mul_positive}
use Rattle.zr_base.proofs.Worth.{le_times, le_of_times}

three : (u v : ℤ) → (u <ℤ v) ⊎ ((u ≡ v) ⊎ (v <ℤ u))
three u v = onward (int_cmp u v) (int_ranks u v)
  where
    onward : (r : Ordering) → MatchOrdering r (u <ℤ v) (u ≡ v) (v <ℤ u) → (u <ℤ v) ⊎ ((u ≡ v) ⊎ (v <ℤ u))
    onward Less h = inl h
    onward Equal h = inr (inl h)
    onward Greater h = inr (inr h)

-- where x and u, and y and v, are in one proportion, u is below v if x is below y
below_alike : (x y u v k l : ℤ) → (pos 0) <ℤ k → (pos 0) <ℤ l → x *ℤ k ≡ u *ℤ l → y *ℤ k ≡ v *ℤ l → x <ℤ y → u <ℤ v
below_alike x y u v k l p q left right h = onward (three u v)
  where
    no_less : v ≤ℤ u → y ≤ℤ x
    no_less g =
        let scaled : (v *ℤ l) ≤ℤ (u *ℤ l) = le_times v u l q g in
        le_of_times y x k p (omega (arith, ints, scaled, left, right))

    onward : (u <ℤ v) ⊎ ((u ≡ v) ⊎ (v <ℤ u)) → u <ℤ v
    onward (inl g) = g
    onward (inr (inl g)) = let e = no_less (omega (arith, ints, g)) in absurd (omega (arith, ints, e, h))
    onward (inr (inr g)) = let e = no_less (omega (arith, ints, g)) in absurd (omega (arith, ints, e, h))

same_alike : (x y u v k l : ℤ) → (pos 0) <ℤ l → x *ℤ k ≡ u *ℤ l → y *ℤ k ≡ v *ℤ l → x ≡ y → u ≡ v
same_alike x y u v k l q left right h = cancel u v l q (sym left ∙ ap (λ z. z *ℤ k) h ∙ right)

alike : (x y u v k l : ℤ) → (pos 0) <ℤ k → (pos 0) <ℤ l → x *ℤ k ≡ u *ℤ l → y *ℤ k ≡ v *ℤ l → int_cmp x y ≡ int_cmp u v
alike x y u v k l p q left right = int_cmp_is u v (int_cmp x y) (onward (int_cmp x y) (int_ranks x y))
  where
    onward : (r : Ordering) → MatchOrdering r (x <ℤ y) (x ≡ y) (y <ℤ x) → MatchOrdering r (u <ℤ v) (u ≡ v) (v <ℤ u)
    onward Less h = below_alike x y u v k l p q left right h
    onward Equal h = same_alike x y u v k l q left right h
    onward Greater h = below_alike y x v u k l p q right left h

-- n / d is a / b, and m / e is c / f
pub quotients_alike : (n d m e a b c f : ℤ) → (pos 0) <ℤ d → (pos 0) <ℤ e → (pos 0) <ℤ b → (pos 0) <ℤ f → n *ℤ b ≡ a *ℤ d → m *ℤ f ≡ c *ℤ e → int_cmp (n *ℤ e) (m *ℤ d) ≡ int_cmp (a *ℤ f) (c *ℤ b)
quotients_alike n d m e a b c f dp ep bp fp first second =
    let one = simp spread at (ap (λ z. z *ℤ (e *ℤ f)) first) in
    let two = simp spread at (ap (λ z. z *ℤ (d *ℤ b)) second) in
    alike (n *ℤ e) (m *ℤ d) (a *ℤ f) (c *ℤ b) (b *ℤ f) (d *ℤ e) (mul_positive b f bp fp) (mul_positive d e dp ep)
    (simp spread (omega (arith, ints, one))) (simp spread (omega (arith, ints, two)))

-- what the order of two numbers says
ranked : (u v : ℤ) (r : Ordering) → int_cmp u v ≡ r → MatchOrdering r (u <ℤ v) (u ≡ v) (v <ℤ u)
ranked u v r e = subst (λ q. MatchOrdering q (u <ℤ v) (u ≡ v) (v <ℤ u)) e (int_ranks u v)

pub less_if : (u v : ℤ) → int_cmp u v ≡ Less → u <ℤ v
less_if u v e = ranked u v Less e

pub equal_if : (u v : ℤ) → int_cmp u v ≡ Equal → u ≡ v
equal_if u v e = ranked u v Equal e

pub greater_if : (u v : ℤ) → int_cmp u v ≡ Greater → v <ℤ u
greater_if u v e = ranked u v Greater e

-- the same with both signs of two factors turned
pub turned_less : (a b c d : ℤ) → (a *ℤ neg_ℤ b) <ℤ (c *ℤ neg_ℤ d) → (c *ℤ d) <ℤ (a *ℤ b)
turned_less a b c d h = omega (arith, ints, h, neg-mul_right a b, neg-mul_right c d)

pub turned_equal : (a b c d : ℤ) → a *ℤ neg_ℤ b ≡ c *ℤ neg_ℤ d → a *ℤ b ≡ c *ℤ d
turned_equal a b c d h = omega (arith, ints, h, neg-mul_right a b, neg-mul_right c d)
