-- One unknown: rows `gap + coef * x <= 0` have a solution where each pair of bounds leaves room.
use Rattle.std.proofs.Common.{◌≡◌, arith, refl, ap, ◌∙◌, ℤ, pos, negsuc, neg_ℤ, ◌+ℤ◌, ◌-ℤ◌, ◌*ℤ◌, ◌≤ℤ◌, ◌<ℤ◌, Bool, true, false, ◌||◌, List, [], ◌∷◌, ◌⊎◌, inl, inr}
use Rattle.std.proofs.lemmas.Int.{ints, by_lt_z}
use Rattle.zr_base.proofs.Ring.{spread, le_of_mul_right}
use Rattle.std.proofs.Math.IntN.{*ℤ_comm}
use Rattle.zr_base.proofs.Divisors.{mul_positive}
use Rattle.zr_lin.specs.DenseRows.{IsBelow}
use Rattle.zr_lin.proofs.Below.{below-mul}
use Rattle.zr_base.proofs.Worth.{Each}
use Rattle.zr_lin.proofs.Members.{Has, each_at, each_of, each_weaker}

pub record Bound : Type 0 where
  pub coef : ℤ
  pub gap : ℤ
  pub strict : Bool

-- the row holds at `x / e`
abbrev pub MeetsAt : ℤ → ℤ → Bound → Type 0
MeetsAt x e t = IsBelow t.strict (t.gap *ℤ e +ℤ t.coef *ℤ x) (pos 0)

-- what is left of two bounds where the unknown is eliminated
abbrev pub LeavesRoom : Bound → Bound → Type 0
LeavesRoom u l = (pos 0) <ℤ u.coef → l.coef <ℤ (pos 0) → IsBelow (u.strict || l.strict) (neg_ℤ l.coef *ℤ u.gap +ℤ u.coef *ℤ l.gap) (pos 0)

abbrev pub Flat : Bound → Type 0
Flat t = t.coef ≡ pos 0 → IsBelow t.strict t.gap (pos 0)

-- u is the tightest of the bounds at which f is above zero
abbrev pub Tightest : (Bound → ℤ) → List Bound → Bound → Type 0
Tightest f ts u = ((pos 0) <ℤ f u) × Each (λ t. (pos 0) <ℤ f t → (t.gap *ℤ f u) ≤ℤ (u.gap *ℤ f t)) ts

-- sums of signs
below_both : (s : Bool) (k m a b c : ℤ) → (pos 0) <ℤ k → IsBelow s a (pos 0) → b ≤ℤ (pos 0) → c ≡ k *ℤ a +ℤ b → IsBelow s c (pos 0)
below_both true k m a b c p h q e = let r = below-mul true k a (pos 0) (omega (arith, ints)) h in omega (arith, ints, r, q, e)
below_both false k m a b c p h q e = let r = below-mul false k a (pos 0) (omega (arith, ints)) h in omega (arith, ints, r, q, e)

weaker_left : (s t : Bool) (a : ℤ) → IsBelow (s || t) a (pos 0) → IsBelow s a (pos 0)
weaker_left true t a h = h
weaker_left false true a h = omega (arith, ints, h)
weaker_left false false a h = h

weaker_right : (s t : Bool) (a : ℤ) → IsBelow (s || t) a (pos 0) → IsBelow t a (pos 0)
weaker_right true true a h = h
weaker_right true false a h = omega (arith, ints, h)
weaker_right false t a h = h

strictly : (s : Bool) (a : ℤ) → a <ℤ (pos 0) → IsBelow s a (pos 0)
strictly true a h = h
strictly false a h = omega (arith, ints, h)

scaled : (m a b : ℤ) → (pos 0) <ℤ m → a ≤ℤ b → (m *ℤ a) ≤ℤ (m *ℤ b)
scaled m a b p h = below-mul false m a b (omega (arith, ints)) h

-- a row between the two bounds, at their middle
upper_at_middle : (t u l : Bound) → (pos 0) <ℤ t.coef → (pos 0) <ℤ u.coef → l.coef <ℤ (pos 0) → (t.gap *ℤ u.coef) ≤ℤ (u.gap *ℤ t.coef) → LeavesRoom t l → MeetsAt (l.gap *ℤ u.coef +ℤ u.gap *ℤ l.coef) (neg_ℤ (pos 2 *ℤ u.coef *ℤ l.coef)) t
upper_at_middle t u l tp up lp least room =
    let r = weaker_left t.strict l.strict (neg_ℤ l.coef *ℤ t.gap +ℤ t.coef *ℤ l.gap) (room tp lp) in
    let m = scaled (neg_ℤ l.coef) (t.gap *ℤ u.coef) (u.gap *ℤ t.coef) (omega (arith, ints)) least in
    below_both t.strict u.coef (neg_ℤ l.coef) (neg_ℤ l.coef *ℤ t.gap +ℤ t.coef *ℤ l.gap) (neg_ℤ l.coef *ℤ (t.gap *ℤ u.coef) -ℤ neg_ℤ l.coef *ℤ (u.gap *ℤ t.coef)) (t.gap *ℤ neg_ℤ (pos 2 *ℤ u.coef *ℤ l.coef) +ℤ t.coef *ℤ (l.gap *ℤ u.coef +ℤ u.gap *ℤ l.coef)) up r (omega (arith, ints, m)) (simp spread (omega (arith, ints)))

lower_at_middle : (t u l : Bound) → t.coef <ℤ (pos 0) → (pos 0) <ℤ u.coef → l.coef <ℤ (pos 0) → (t.gap *ℤ neg_ℤ l.coef) ≤ℤ (l.gap *ℤ neg_ℤ t.coef) → LeavesRoom u t → MeetsAt (l.gap *ℤ u.coef +ℤ u.gap *ℤ l.coef) (neg_ℤ (pos 2 *ℤ u.coef *ℤ l.coef)) t
lower_at_middle t u l tp up lp least room =
    let r = weaker_right u.strict t.strict (neg_ℤ t.coef *ℤ u.gap +ℤ u.coef *ℤ t.gap) (room up tp) in
    let m = scaled u.coef (t.gap *ℤ neg_ℤ l.coef) (l.gap *ℤ neg_ℤ t.coef) up least in
    below_both t.strict (neg_ℤ l.coef) u.coef (neg_ℤ t.coef *ℤ u.gap +ℤ u.coef *ℤ t.gap) (u.coef *ℤ (t.gap *ℤ neg_ℤ l.coef) -ℤ u.coef *ℤ (l.gap *ℤ neg_ℤ t.coef)) (t.gap *ℤ neg_ℤ (pos 2 *ℤ u.coef *ℤ l.coef) +ℤ t.coef *ℤ (l.gap *ℤ u.coef +ℤ u.gap *ℤ l.coef)) (omega (arith, ints)) r (omega (arith, ints, m)) (simp spread (omega (arith, ints)))

flat_anywhere : (t : Bound) (x e : ℤ) → (pos 0) <ℤ e → t.coef ≡ pos 0 → Flat t → MeetsAt x e t
flat_anywhere t x e p z flat =
    let c : t.coef *ℤ x ≡ pos 0 = ap (λ y. y *ℤ x) z ∙ omega (arith, ints) in
    below_both t.strict e e t.gap (pos 0) (t.gap *ℤ e +ℤ t.coef *ℤ x) p (flat z) (omega (arith, ints)) (let q = *ℤ_comm e t.gap in omega (arith, ints, c, q))

cancelled : (a b k : ℤ) → (pos 0) <ℤ k → (a *ℤ k) ≤ℤ (b *ℤ k) → a ≤ℤ b
cancelled a b (pos n) p h = le_of_mul_right a b n (omega (arith, ints, p)) h
cancelled a b (negsuc n) p h = absurd p.lt

-- a bound that is tighter than the tightest so far is tighter than all
tighter : (a fa b fb c fc : ℤ) → (pos 0) <ℤ fa → (pos 0) <ℤ fb → (pos 0) <ℤ fc → (a *ℤ fb) ≤ℤ (b *ℤ fa) → (b *ℤ fc) ≤ℤ (c *ℤ fb) → (a *ℤ fc) ≤ℤ (c *ℤ fa)
tighter a fa b fb c fc p q r h k =
    let m = scaled fc (a *ℤ fb) (b *ℤ fa) r h in
    let n = scaled fa (b *ℤ fc) (c *ℤ fb) p k in
    let m2 = simp spread at m in
    let n2 = simp spread at n in
    cancelled (a *ℤ fc) (c *ℤ fa) fb q (simp spread (omega (arith, ints)))

-- the tightest of one bound more
compared : (f : Bound → ℤ) (t : Bound) (ts : List Bound) (u : Bound) → Has ts u → Tightest f ts u → (pos 0) <ℤ f t → (v : Bound) × Has (t ∷ ts) v × Tightest f (t ∷ ts) v
compared f t ts u has best above =
    by_lt_z {P = (v : Bound) × Has (t ∷ ts) v × Tightest f (t ∷ ts) v} (u.gap *ℤ f t) (t.gap *ℤ f u) (λ new. (t, inl refl, (above, ((λ p. omega (arith, ints)), each_weaker (λ x. (pos 0) <ℤ f x → (x.gap *ℤ f u) ≤ℤ (u.gap *ℤ f x)) (λ x. (pos 0) <ℤ f x → (x.gap *ℤ f t) ≤ℤ (t.gap *ℤ f x)) ts (λ x h p. tighter x.gap (f x) u.gap (f u) t.gap (f t) p best.0 above (h p) (omega (arith, ints, new))) best.1)))) (λ old. (u, inr has, (best.0, ((λ p. old), best.1))))

pub find_tightest : (f : Bound → ℤ) (ts : List Bound) → Each (λ t. f t ≤ℤ (pos 0)) ts ⊎ ((u : Bound) × Has ts u × Tightest f ts u)
find_tightest f [] = inl tt
find_tightest f (t ∷ ts) = joined (find_tightest f ts)
  where
    joined : Each (λ t. f t ≤ℤ (pos 0)) ts ⊎ ((u : Bound) × Has ts u × Tightest f ts u) → Each (λ t. f t ≤ℤ (pos 0)) (t ∷ ts) ⊎ ((u : Bound) × Has (t ∷ ts) u × Tightest f (t ∷ ts) u)
    joined (inl none) = by_lt_z {P = Each (λ t. f t ≤ℤ (pos 0)) (t ∷ ts) ⊎ ((u : Bound) × Has (t ∷ ts) u × Tightest f (t ∷ ts) u)} (pos 0) (f t) (λ above. inr (t, inl refl, (above, ((λ p. omega (arith, ints)), each_weaker (λ x. f x ≤ℤ (pos 0)) (λ x. (pos 0) <ℤ f x → (x.gap *ℤ f t) ≤ℤ (t.gap *ℤ f x)) ts (λ x n p. absurd (omega (arith, ints, n, p))) none)))) (λ below. inl (below, none))
    joined (inr some) = by_lt_z {P = Each (λ t. f t ≤ℤ (pos 0)) (t ∷ ts) ⊎ ((u : Bound) × Has (t ∷ ts) u × Tightest f (t ∷ ts) u)} (pos 0) (f t) (λ above. inr (compared f t ts some.0 some.1 some.2 above)) (λ below. inr (some.0, inr some.1, (some.2.0, ((λ p. absurd (omega (arith, ints, below, p))), some.2.1))))

past : (g c gu cu : ℤ) → (pos 0) <ℤ c → (pos 0) <ℤ cu → (g *ℤ cu) ≤ℤ (gu *ℤ c) → (g *ℤ cu +ℤ c *ℤ (neg_ℤ gu -ℤ cu)) <ℤ (pos 0)
past g c gu cu p q h =
    let m = mul_positive c cu p q in
    let e : g *ℤ cu +ℤ c *ℤ (neg_ℤ gu -ℤ cu) ≡ g *ℤ cu -ℤ gu *ℤ c -ℤ c *ℤ cu = simp spread (omega (arith, ints)) in
    omega (arith, ints, e, m)

before : (g c gl cl : ℤ) → c <ℤ (pos 0) → (pos 0) <ℤ neg_ℤ cl → (g *ℤ neg_ℤ cl) ≤ℤ (gl *ℤ neg_ℤ c) → (g *ℤ neg_ℤ cl +ℤ c *ℤ (gl -ℤ cl)) <ℤ (pos 0)
before g c gl cl p q h =
    let m = mul_positive (neg_ℤ c) (neg_ℤ cl) (omega (arith, ints)) q in
    let e : g *ℤ neg_ℤ cl +ℤ c *ℤ (gl -ℤ cl) ≡ g *ℤ neg_ℤ cl -ℤ gl *ℤ neg_ℤ c -ℤ neg_ℤ c *ℤ neg_ℤ cl = simp spread (omega (arith, ints)) in
    omega (arith, ints, e, m)

doubled : (a b : ℤ) → pos 2 *ℤ (a *ℤ neg_ℤ b) ≡ neg_ℤ (pos 2 *ℤ a *ℤ b)
doubled a b = simp spread (omega (arith, ints))

-- by the sign of a coefficient
pub by_sign : (P : Type 0) (z : ℤ) → ((pos 0) <ℤ z → P) → (z <ℤ (pos 0) → P) → (z ≡ pos 0 → P) → P
by_sign P z above below even =
    by_lt_z {P = P} (pos 0) z above (λ most. by_lt_z {P = P} z (pos 0) below (λ least. even (omega (arith, ints))))

module _ (ts : List Bound) (flat : (t : Bound) → Has ts t → Flat t) (room : (u l : Bound) → Has ts u → Has ts l → LeavesRoom u l) where
  between : (u l : Bound) → Has ts u → Has ts l → Tightest (λ t. t.coef) ts u → Tightest (λ t. neg_ℤ t.coef) ts l → (x : ℤ) × (e : ℤ) × ((pos 0) <ℤ e) × Each (MeetsAt x e) ts
  between u l hu hl bu bl =
      let lp : l.coef <ℤ (pos 0) = omega (arith, ints, bl.0) in
      let e = neg_ℤ (pos 2 *ℤ u.coef *ℤ l.coef) in
      let x = l.gap *ℤ u.coef +ℤ u.gap *ℤ l.coef in
      let q = mul_positive u.coef (neg_ℤ l.coef) bu.0 bl.0 in
      let ep : (pos 0) <ℤ neg_ℤ (pos 2 *ℤ u.coef *ℤ l.coef) = rw (← doubled u.coef l.coef) (omega (arith, ints, q)) in
      (x, e, ep, each_of (MeetsAt x e) ts (λ t h. by_sign (MeetsAt x e t) t.coef (λ above. upper_at_middle t u l above bu.0 lp (each_at (λ t. (pos 0) <ℤ t.coef → (t.gap *ℤ u.coef) ≤ℤ (u.gap *ℤ t.coef)) ts t h bu.1 above) (room t l h hl)) (λ below. lower_at_middle t u l below bu.0 lp (each_at (λ t. (pos 0) <ℤ neg_ℤ t.coef → (t.gap *ℤ neg_ℤ l.coef) ≤ℤ (l.gap *ℤ neg_ℤ t.coef)) ts t h bl.1 (omega (arith, ints, below))) (room u t hu h)) (λ even. flat_anywhere t x e ep even (flat t h))))

  above_only : (u : Bound) → Tightest (λ t. t.coef) ts u → Each (λ t. neg_ℤ t.coef ≤ℤ (pos 0)) ts → (x : ℤ) × (e : ℤ) × ((pos 0) <ℤ e) × Each (MeetsAt x e) ts
  above_only u bu none =
      let e = u.coef in
      let x = neg_ℤ u.gap -ℤ u.coef in
      (x, e, bu.0, each_of (MeetsAt x e) ts (λ t h. by_sign (MeetsAt x e t) t.coef (λ above. strictly t.strict (t.gap *ℤ e +ℤ t.coef *ℤ x) (past t.gap t.coef u.gap u.coef above bu.0 (each_at (λ t. (pos 0) <ℤ t.coef → (t.gap *ℤ u.coef) ≤ℤ (u.gap *ℤ t.coef)) ts t h bu.1 above))) (λ below. absurd (omega (arith, ints, below, each_at (λ t. neg_ℤ t.coef ≤ℤ (pos 0)) ts t h none))) (λ even. flat_anywhere t x e bu.0 even (flat t h))))

  below_only : (l : Bound) → Tightest (λ t. neg_ℤ t.coef) ts l → Each (λ t. t.coef ≤ℤ (pos 0)) ts → (x : ℤ) × (e : ℤ) × ((pos 0) <ℤ e) × Each (MeetsAt x e) ts
  below_only l bl none =
      let e = neg_ℤ l.coef in
      let x = l.gap -ℤ l.coef in
      (x, e, bl.0, each_of (MeetsAt x e) ts (λ t h. by_sign (MeetsAt x e t) t.coef (λ above. absurd (omega (arith, ints, above, each_at (λ t. t.coef ≤ℤ (pos 0)) ts t h none))) (λ below. strictly t.strict (t.gap *ℤ e +ℤ t.coef *ℤ x) (before t.gap t.coef l.gap l.coef below bl.0 (each_at (λ t. (pos 0) <ℤ neg_ℤ t.coef → (t.gap *ℤ neg_ℤ l.coef) ≤ℤ (l.gap *ℤ neg_ℤ t.coef)) ts t h bl.1 (omega (arith, ints, below))))) (λ even. flat_anywhere t x e bl.0 even (flat t h))))

  flat_only : Each (λ t. t.coef ≤ℤ (pos 0)) ts → Each (λ t. neg_ℤ t.coef ≤ℤ (pos 0)) ts → (x : ℤ) × (e : ℤ) × ((pos 0) <ℤ e) × Each (MeetsAt x e) ts
  flat_only no_upper no_lower =
      let one : (pos 0) <ℤ (pos 1) = omega (arith, ints) in
      (pos 0, pos 1, one, each_of (MeetsAt (pos 0) (pos 1)) ts (λ t h. flat_anywhere t (pos 0) (pos 1) one (omega (arith, ints, each_at (λ t. t.coef ≤ℤ (pos 0)) ts t h no_upper, each_at (λ t. neg_ℤ t.coef ≤ℤ (pos 0)) ts t h no_lower)) (flat t h)))

  pub one_column : (x : ℤ) × (e : ℤ) × ((pos 0) <ℤ e) × Each (MeetsAt x e) ts
  one_column = chosen (find_tightest (λ t. t.coef) ts) (find_tightest (λ t. neg_ℤ t.coef) ts)
    where
      chosen : (Each (λ t. t.coef ≤ℤ (pos 0)) ts ⊎ ((u : Bound) × Has ts u × Tightest (λ t. t.coef) ts u)) → (Each (λ t. neg_ℤ t.coef ≤ℤ (pos 0)) ts ⊎ ((l : Bound) × Has ts l × Tightest (λ t. neg_ℤ t.coef) ts l)) → (x : ℤ) × (e : ℤ) × ((pos 0) <ℤ e) × Each (MeetsAt x e) ts
      chosen (inl none) (inl no_lower) = flat_only none no_lower
      chosen (inl none) (inr l) = below_only l.0 l.2 none
      chosen (inr u) (inl none) = above_only u.0 u.2 none
      chosen (inr u) (inr l) = between u.0 l.0 u.1 l.1 u.2 l.2
