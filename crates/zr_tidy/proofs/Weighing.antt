-- A quantity's sum over the parts, as a whole number over a common denominator.
use Rattle.std.proofs.Common.{◌≡◌, refl, sym, ap, subst, ◌∙◌, arith, ℤ, pos, ◌+ℤ◌, ◌*ℤ◌, ◌<ℤ◌, [], ◌∷◌}
use Rattle.std.proofs.lemmas.Int.{ints}
use Rattle.zr_base.specs.Fractions.{Fraction, IsSame, over, times, whole}
use Rattle.zr_base.specs.Points.{IsSamePoint, PointOf}
use Rattle.zr_base.proofs.Divisors.{cancel, mul_positive, positive_factor}
use Rattle.zr_base.proofs.Ring.{spread}
use Rattle.zr_base.proofs.SameLaws.{same_point_sym}
use Rattle.zr_base.proofs.Worth.{Each, Worth, worth-multiple, worth-over, worth-plus, worth-rescale, worth-same, worth-wider, worth-zero, worth_of_same}
use Rattle.zr_game.specs.Profiles.{Part, Strategy, total, weighted}
use Rattle.zr_system.specs.Alike.{IsAlike, IsQuantity}
use Rattle.zr_tidy.specs.Merges.{AreDivided, AreMerged, HasPut, alone, before, met, after, done, more}

-- the sum of the weights times what the quantity is at the points, over d
abbrev pub IsWeighed : ℤ → (PointOf → Fraction) → Strategy → ℤ → Type 0
IsWeighed d f [] s = s ≡ pos 0
IsWeighed d f (p ∷ ps) s =
    (n r : ℤ) × Worth d (f p.point) n × (s ≡ p.weight *ℤ n +ℤ r) × IsWeighed d f ps r

worth_unique : (d : ℤ) (f : Fraction) (n m : ℤ) → Worth d f n → Worth d f m → n ≡ m
worth_unique d f n m p q = cancel n m f.den p.below (sym p.equal ∙ q.equal)

module _ (f : PointOf → Fraction) where
  worth_weighed : (d : ℤ) (parts : Strategy) (s : ℤ) → IsWeighed d f parts s
      → Worth d (weighted parts f) s
  worth_weighed d [] s h = subst (Worth d (whole (pos 0))) (sym h) (worth-zero d)
  worth_weighed d (p ∷ ps) s h =
      subst (Worth d (weighted (p ∷ ps) f)) (sym h.3)
      (worth-plus d (times (whole p.weight) (f p.point)) (weighted ps f) (p.weight *ℤ h.0) h.1
      (worth-multiple d p.weight (f p.point) h.0 h.2) (worth_weighed d ps h.1 h.4))

  wider_sum : (w n r e : ℤ) → (w *ℤ n +ℤ r) *ℤ e ≡ w *ℤ (n *ℤ e) +ℤ r *ℤ e
  wider_sum w n r e = simp spread (omega (arith, ints))

  wider : (d e : ℤ) (parts : Strategy) (s : ℤ) → IsWeighed d f parts s
      → IsWeighed (d *ℤ e) f parts (s *ℤ e)
  wider d e [] s h = rw h (omega (arith, ints))
  wider d e (p ∷ ps) s h = (
    h.0 *ℤ e,
    h.1 *ℤ e,
    worth-wider d e (f p.point) h.0 h.2,
    ap (λ z. z *ℤ e) h.3 ∙ wider_sum p.weight h.0 h.1 e,
    wider d e ps h.1 h.4,
  )

  own_worth : (g : Fraction) (d : ℤ) → (pos 0) <ℤ g.den → Worth (d *ℤ g.den) g (g.num *ℤ d)
  own_worth g d h = record { below = h; equal = simp spread (omega (arith, ints)) }

  common : (parts : Strategy) → Each (λ p. (pos 0) <ℤ (f p.point).den) parts
      → (d : ℤ) × ((pos 0) <ℤ d) × (s : ℤ) × IsWeighed d f parts s
  common [] h = (pos 1, omega (arith, ints), pos 0, refl)
  common (p ∷ ps) h =
      let r = common ps h.1 in
      let e = (f p.point).den in (
        r.0 *ℤ e,
        mul_positive r.0 e r.1 h.0,
        p.weight *ℤ ((f p.point).num *ℤ r.0) +ℤ r.2 *ℤ e,
        (
          (f p.point).num *ℤ r.0,
          r.2 *ℤ e,
          own_worth (f p.point) r.0 h.0,
          refl,
          wider r.0 e ps r.2 r.3,
        ),
      )

  module _ (d : ℤ) (positive : (pos 0) <ℤ d) (quantity : IsQuantity f) where
    at_same : (x y : PointOf) (n : ℤ) → IsSamePoint x y → Worth d (f x) n → Worth d (f y) n
    at_same x y n same h =
        let s = quantity.same x y same in worth_of_same d (f x) (f y) n s.right s.cross h

    sum_last : (w n s : ℤ) → s ≡ pos 0 → s +ℤ w *ℤ n ≡ w *ℤ n +ℤ pos 0
    sum_last w n s e = omega (arith, ints, e)

    sum_turned : (w n s : ℤ) → s +ℤ w *ℤ n ≡ w *ℤ n +ℤ s
    sum_turned w n s = omega (arith, ints)

    sum_joined : (v w n m r s : ℤ) → n ≡ m → s ≡ v *ℤ m +ℤ r
        → s +ℤ w *ℤ n ≡ (v +ℤ w) *ℤ m +ℤ r
    sum_joined v w n m r s e g = rw (e, g) (simp spread (omega (arith, ints)))

    sum_inner : (v m r t s : ℤ) → s ≡ v *ℤ m +ℤ r → s +ℤ t ≡ v *ℤ m +ℤ (r +ℤ t)
    sum_inner v m r t s e = omega (arith, ints, e)

    weighed_put : (p : Part) (old new : Strategy) (s n : ℤ) → HasPut p old new
        → IsWeighed d f old s → Worth d (f p.point) n → IsWeighed d f new (s +ℤ p.weight *ℤ n)
    weighed_put p old new s n alone h w = (n, pos 0, w, sum_last p.weight n s h, refl)
    weighed_put p old new s n (before q rest b) h w = (n, s, w, sum_turned p.weight n s, h)
    weighed_put p old new s n (met q rest same) h w =
        let e = worth_unique d (f p.point) n h.0 w (at_same q.point p.point h.0 same h.2) in
        (h.0, h.1, h.2, sum_joined q.weight p.weight n h.0 h.1 s e h.3, h.4)
    weighed_put p old new s n (after q rest next b put) h w = (
      h.0,
      h.1 +ℤ p.weight *ℤ n,
      h.2,
      sum_inner q.weight h.0 h.1 (p.weight *ℤ n) s h.3,
      weighed_put p rest next h.1 n put h.4 w,
    )

    weighed_merged : (old raw new : Strategy) (s t : ℤ) → AreMerged old raw new
        → IsWeighed d f old s → IsWeighed d f raw t → IsWeighed d f new (s +ℤ t)
    weighed_merged old [] new s t m h k =
        let e : s ≡ s +ℤ t = omega (arith, ints, k) in
        subst (λ z. IsWeighed d f new z) e (subst (λ ps. IsWeighed d f ps s) m h)
    weighed_merged old (p ∷ ps) new s t m h k =
        let x = m.1.point in
        let w = at_same p.point x k.0 (same_point_sym x p.point m.1.same) k.2 in
        let put = m.1.put in
        let next = weighed_put (record { weight = p.weight; point = x }) old m.0 s k.0 put h w in
        let r = weighed_merged m.0 ps new (s +ℤ p.weight *ℤ k.0) k.1 m.2 next k.4 in
        let g = k.3 in
        let e : (s +ℤ p.weight *ℤ k.0) +ℤ k.1 ≡ s +ℤ t = omega (arith, ints, g) in
        subst (λ z. IsWeighed d f new z) e r

    divided_sum : (v w n r q s by : ℤ) → w *ℤ by ≡ v → q *ℤ by ≡ r → s ≡ v *ℤ n +ℤ r
        → (w *ℤ n +ℤ q) *ℤ by ≡ s
    divided_sum v w n r q s by e g h = rw (h, sym e, sym g) (simp spread (omega (arith, ints)))

    weighed_divided : (by : ℤ) (old new : Strategy) (s : ℤ) → AreDivided by old new
        → IsWeighed d f old s → (t : ℤ) × IsWeighed d f new t × (t *ℤ by ≡ s)
    weighed_divided by old new s done h =
        let z : pos 0 *ℤ by ≡ s = omega (arith, ints, h) in (pos 0, refl, z)
    weighed_divided by old new s (more p q ps qs e w rest) h =
        let r = weighed_divided by ps qs h.1 rest h.4 in (
          q.weight *ℤ h.0 +ℤ r.0,
          (h.0, r.0, subst (λ x. Worth d (f x) h.0) (sym e) h.2, refl, r.1),
          divided_sum p.weight q.weight h.0 h.1 r.0 s by w r.2 h.3,
        )

pub total_put : (p : Part) (old new : Strategy) → HasPut p old new
    → total new ≡ total old +ℤ p.weight
total_put p old new alone = omega (arith, ints)
total_put p old new (before q rest b) = omega (arith, ints)
total_put p old new (met q rest same) = omega (arith, ints)
total_put p old new (after q rest next b put) =
    let r = total_put p rest next put in omega (arith, ints, r)

pub total_merged : (old raw new : Strategy) → AreMerged old raw new
    → total new ≡ total old +ℤ total raw
total_merged old [] new m = let e = ap total m in omega (arith, ints, e)
total_merged old (p ∷ ps) new m =
    let a = total_put (record { weight = p.weight; point = m.1.point }) old m.0 m.1.put in
    let r = total_merged m.0 ps new m.2 in
    omega (arith, ints, a, r)

pub total_divided : (by : ℤ) (old new : Strategy) → AreDivided by old new
    → total new *ℤ by ≡ total old
total_divided by old new done = omega (arith, ints)
total_divided by old new (more p q ps qs e w rest) =
    let r = total_divided by ps qs rest in simp spread (omega (arith, ints, w, r))

rescaled : (d t u by n s : ℤ) → t *ℤ by ≡ u → n *ℤ by ≡ s → n *ℤ (d *ℤ u) ≡ s *ℤ (d *ℤ t)
rescaled d t u by n s e g = rw (sym e, sym g) (simp spread (omega (arith, ints)))

zero_plus : (z : ℤ) → pos 0 +ℤ z ≡ z
zero_plus z = omega (arith, ints)

module _ (raw merged tidied : Strategy) (by : ℤ) (above : (pos 0) <ℤ by)
    (some : (pos 0) <ℤ total raw) (dens : Each (λ p. (pos 0) <ℤ p.point.den) raw)
    (m : AreMerged [] raw merged) (div : AreDivided by merged tidied) where
  totals_are : total tidied *ℤ by ≡ total raw
  totals_are = total_divided by merged tidied div
      ∙ (total_merged [] raw merged m ∙ zero_plus (total raw))

  pub some_total : (pos 0) <ℤ total tidied
  some_total = positive_factor (total tidied) by (rw totals_are some) above

  module _ (f : PointOf → Fraction) (quantity : IsQuantity f) where
    each_den : (parts : Strategy) → Each (λ p. (pos 0) <ℤ p.point.den) parts
        → Each (λ p. (pos 0) <ℤ (f p.point).den) parts
    each_den [] h = tt
    each_den (p ∷ ps) h = (quantity.positive p.point h.0, each_den ps h.1)

    -- over a common denominator, with sums that are in the proportion of the totals
    over_common : (d : ℤ) → (pos 0) <ℤ d → (s t : ℤ) → IsWeighed d f raw s
        → IsWeighed d f tidied t → t *ℤ by ≡ s
        → IsSame (over (weighted raw f) (total raw)) (over (weighted tidied f) (total tidied))
    over_common d positive s t h k e =
        let a = worth-over d (total raw) (weighted raw f) s some (worth_weighed f d raw s h) in
        let b = worth-over d (total tidied) (weighted tidied f) t some_total
        (worth_weighed f d tidied t k) in
        let w = worth-rescale (d *ℤ total tidied) (d *ℤ total raw) (over (weighted tidied f)
        (total tidied)) t s (mul_positive d (total tidied) positive some_total)
        (rescaled d (total tidied) (total raw) by t s totals_are e) b in
        record {
          left = a.below;
          right = w.below;
          cross = worth-same (d *ℤ total raw) (over (weighted raw f) (total raw))
              (over (weighted tidied f) (total tidied)) s
              (mul_positive d (total raw) positive some) a w;
        }

    pub same_value : IsSame (over (weighted raw f) (total raw))
        (over (weighted tidied f) (total tidied))
    same_value =
        let c = common f raw (each_den raw dens) in
        let joined = weighed_merged f c.0 c.1 quantity [] raw merged (pos 0) c.2 m refl c.3 in
        let o = weighed_divided f c.0 c.1 quantity by merged tidied (pos 0 +ℤ c.2) div joined in
        over_common c.0 c.1 c.2 o.0 c.3 o.1 (o.2 ∙ zero_plus c.2)

  pub are_alike : IsAlike raw tidied
  are_alike = λ f quantity. same_value f quantity
