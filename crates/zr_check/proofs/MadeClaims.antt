-- Claims that were made in whole, and that a profile has one claim.
use Rattle.std.proofs.Common.{◌≡◌, ℕ, zero, suc, ◌+◌, ◌<◌, arith, sym, ap, subst, ◌∙◌, ℤ, pos, neg_ℤ, ◌*ℤ◌, ◌<ℤ◌, unsigned_abs, int_div, Result, Ok, List, [], ◌∷◌, ◌++◌, length, get_or, All}
use Rattle.std.proofs.Math.Nat.{dvd-mul_left, pos_of_dvd_of_pos}
use Rattle.std.proofs.lemmas.Int.{ints, unsigned_abs-mul}
use Rattle.std.proofs.lemmas.Nat.Gcd.{dvd_antisymm}
use Rattle.std.proofs.lemmas.List.{ext_get_or}
use Rattle.std.proofs.lemmas.List.Elements.{All-cons, All-head, All-nil, All-tail}
use Rattle.std.specs.Int.{IsGcd, ◌∣◌}
use Rattle.zr_base.specs.declared.step.Wide.{Wide}
use Rattle.zr_base.specs.Steps.{cross_of, ◌>>=◌}
use Rattle.zr_base.specs.Fractions.{Fraction, whole}
use Rattle.zr_base.specs.Lowest.{gcd_of}
use Rattle.zr_base.proofs.CrossLaws.{then_ok}
use Rattle.zr_base.proofs.Divisors.{cancel, nonneg_abs, quot_exact}
use Rattle.zr_base.proofs.Gcds.{gcd_of_is}
use Rattle.zr_base.proofs.Lowest.{divides_other}
use Rattle.zr_base.proofs.Made.{made_items}
use Rattle.zr_base.proofs.SameLaws.{same_sym, same_through}
use Rattle.zr_base.proofs.Sames.{same_record}
use Rattle.zr_base.proofs.Worth.{Each}
use Rattle.zr_game.specs.Feasible.{IsMultiple}
use Rattle.zr_game.specs.Means.{along_slope, mean, slope}
use Rattle.zr_game.specs.Players.{PlayerOf}
use Rattle.zr_game.specs.Profiles.{Profile, strategy_of}
use Rattle.zr_mix.specs.Checks.{IsClaimOf}
use Rattle.zr_mix.specs.Claims.{IsClaim, IsLeastMultiple, IsMultipleOf}
use Rattle.zr_mix.specs.Multiples.{IsLcm, IsLcmOf, IsNegatedOver}
use Rattle.zr_mix.specs.Steps.{all_negated, claim_steps, multiple_steps, negated_over}
use Rattle.zr_mix.specs.Values.{AreInLowestTerms, AreReduced, IsInLowestTerms, IsReduced, item_of}
use Rattle.zr_mix.proofs.Multiples.{least_multiple, multiple_steps-append, multiple_trans, step_lcm, step_only}
use Rattle.zr_mix.proofs.Negated.{negated_exact, negated_made}

abbrev pub HasDen : Fraction → Type 0
HasDen f = (pos 0) <ℤ f.den

-- one denominator more
pub one_lcm : (m r : ℤ) (f : Fraction) → (pos 0) <ℤ m → HasDen f → cross_of (m, int_div f.den (pos (gcd_of (unsigned_abs m) (unsigned_abs f.den)))) (pos 0, pos 0) ≡ Ok r → IsLcm m f.den r
one_lcm m r f above below e =
    let g = gcd_of (unsigned_abs m) (unsigned_abs f.den) in
    let is = gcd_of_is (unsigned_abs m) (unsigned_abs f.den) in
    let some : 0 < unsigned_abs f.den = omega (arith, ints, below) in
    let least : 0 < g = pos_of_dvd_of_pos is.1 some in
    step_lcm m f (int_div f.den (pos g)) (pos g) above below (omega (arith, ints, least)) (quot_exact f.den (pos g) is.1) is (Ok r) (sym e)

-- r is the least common multiple of m and the denominators
record LcmFrom (m : ℤ) (fs : List Fraction) (r : ℤ) : Type 0 where
  pub positive : (pos 0) <ℤ r
  pub own : IsMultiple r m
  pub each : All (IsMultipleOf r) fs
  pub least : (n : ℤ) → IsMultiple n m → All (IsMultipleOf n) fs → IsMultiple n r

carried : (m r : ℤ) (fs : List Fraction) → (pos 0) <ℤ m → Each HasDen fs → multiple_steps m fs ≡ Ok r → LcmFrom m fs r
carried m r [] above dens e =
    let same : m ≡ r = cc in
    subst (LcmFrom m []) same (record { positive = above; own = (pos 1, omega (arith, ints)); each = All-nil (IsMultipleOf m); least = λ n h all. h })
carried m r (f ∷ fs) above dens e =
    let s = then_ok (cross_of (m, int_div f.den (pos (gcd_of (unsigned_abs m) (unsigned_abs f.den)))) (pos 0, pos 0)) (λ z. multiple_steps z fs) r e in
    let lcm = one_lcm m s.0 f above dens.0 s.1 in
    let rest = carried s.0 r fs lcm.positive dens.1 s.2 in
    record {
      positive = rest.positive;
      own = multiple_trans r s.0 m rest.own lcm.first;
      each = All-cons (IsMultipleOf r) f fs (multiple_trans r s.0 f.den rest.own lcm.second) rest.each;
      least = λ n h all. rest.least n (lcm.least n h (All-head (IsMultipleOf n) f fs all)) (All-tail (IsMultipleOf n) f fs all);
    }

lcm_of : (fs : List Fraction) (r : ℤ) → Each HasDen fs → multiple_steps (pos 1) fs ≡ Ok r → IsLcmOf fs r
lcm_of fs r dens e =
    let c = carried (pos 1) r fs (omega (arith, ints)) dens e in
    record { positive = c.positive; each = c.each; least = λ n all. c.least n (n, omega (arith, ints)) all }

common_made : (slopes : List Fraction) (value : Fraction) (r : ℤ) → Each HasDen slopes → HasDen value → multiple_steps (pos 1) (slopes ++ value ∷ []) ≡ Ok r → IsLeastMultiple r slopes value
common_made slopes value r dens den e =
    let s = then_ok (multiple_steps (pos 1) slopes) (λ m. multiple_steps m (value ∷ [])) r (sym (multiple_steps-append (pos 1) slopes (value ∷ [])) ∙ e) in
    let before = lcm_of slopes s.0 dens s.1 in
    least_multiple slopes value s.0 r before (one_lcm s.0 r value before.positive den (step_only s.0 value ∙ s.2))

-- the parts of a pair that was made
pub ok_pair : {A B : Type 0} (a c : A) (b d : B) → ◌≡◌ {A = Result (A × B) Wide} (Ok (a, b)) (Ok (c, d)) → (a ≡ c) × (b ≡ d)
ok_pair {A} {B} a c b d e =
    let p : ◌≡◌ {A = A × B} (a, b) (c, d) = cc in (ap (λ (x : A × B). x.0) p, ap (λ (x : A × B). x.1) p)

den_at : (fs : List Fraction) (v : ℕ) → Each HasDen fs → v < length fs → HasDen (item_of fs v)
den_at [] v all h = absurd (omega arith)
den_at (f ∷ fs) zero all h = all.0
den_at (f ∷ fs) (suc v) all h = den_at fs v all.1 (omega arith)

-- a claim that was made in whole
pub claim_made : (slopes : List Fraction) (value : Fraction) (left : List ℤ) (right : ℤ) → Each HasDen slopes → HasDen value → claim_steps slopes value ≡ Ok (left, right) → (m : ℤ) × IsClaim slopes value m left right
claim_made slopes value left right dens den e =
    let s = then_ok (multiple_steps (pos 1) (slopes ++ value ∷ [])) (λ m. all_negated m slopes >>= λ l. negated_over m value >>= λ r. Ok (l, r)) (left, right) e in
    let m = s.0 in
    let t = then_ok (all_negated m slopes) (λ l. negated_over m value >>= λ r. Ok (l, r)) (left, right) s.2 in
    let u = then_ok (negated_over m value) (λ r. Ok (t.0, r)) (left, right) t.2 in
    let is = ok_pair t.0 left u.0 right u.2 in
    let common = common_made slopes value m dens den s.1 in
    let all = made_items (λ v. negated_over m (item_of slopes v)) 0 (length slopes) t.0 (sym (negated_made m (whole (pos 0)) slopes slopes 0 (λ v h. ap (λ n. item_of slopes n) (let z : 0 + v ≡ v = omega arith in z))) ∙ t.1) in
    let lefts : (v : ℕ) → v < length slopes → IsNegatedOver m (item_of slopes v) (get_or t.0 v (pos 0)) = λ v h. negated_exact m (item_of slopes v) (den_at slopes v dens h) (common.slopes v (whole (pos 0)) h) (Ok (get_or t.0 v (pos 0))) (sym (all.1 v (pos 0) h) ∙ ap (λ n. negated_over m (item_of slopes n)) (let z : 0 + v ≡ v = omega arith in z)) in
    (m, subst (IsClaim slopes value m left) is.1 (subst (λ (xs : List ℤ). IsClaim slopes value m xs u.0) is.0 (record { common = common; len = all.0; lefts = lefts; rights = negated_exact m value den common.of_value (Ok u.0) (sym u.1) })))

-- the number that is m times a fraction, negated, is one
same_over : (m x y : ℤ) (f : Fraction) → HasDen f → IsNegatedOver m f x → IsNegatedOver m f y → x ≡ y
same_over m x y f den p q =
    let one : pos 1 *ℤ f.den ≡ f.den = omega (arith, ints) in
    let e = cancel (neg_ℤ x) (neg_ℤ y) (pos 1 *ℤ f.den) (rw one den) (sym p.cross ∙ q.cross) in
    omega (arith, ints, e)

-- two claims of one slope and one value are one
same_made : (slopes : List Fraction) (value : Fraction) (m n : ℤ) (left left' : List ℤ) (right right' : ℤ) → ((v : ℕ) → v < length slopes → HasDen (item_of slopes v)) → HasDen value → IsClaim slopes value m left right → IsClaim slopes value n left' right' → (left ≡ left') × (right ≡ right')
same_made slopes value m n left left' right right' dens den p q =
    let a = p.common.least n q.common.positive q.common.slopes q.common.of_value in
    let b = q.common.least m p.common.positive p.common.slopes p.common.of_value in
    let same : n ≡ m = omega (arith, ints, a, b) in
    let other = subst (λ (k : ℤ). IsClaim slopes value k left' right') same q in
    let l = p.len in
    (ext_get_or (pos 0) left left' (p.len ∙ sym other.len) (λ v h. let b : v < length slopes = omega (arith, h, l) in same_over m (get_or left v (pos 0)) (get_or left' v (pos 0)) (item_of slopes v) (dens v b) (p.lefts v b) (other.lefts v b)), same_over m right right' value den p.rights other.rights)

-- what is reduced is in lowest terms
pub in_lowest : (f x : Fraction) → IsReduced f x → IsInLowestTerms f x
in_lowest f x r = record { coprime = r.lowest.coprime; same = r.same }

pub all_in_lowest : (list : List Fraction) (n : ℕ) (f : ℕ → Fraction) → AreReduced list n f → AreInLowestTerms list n f
all_in_lowest list n f r = record { len = r.len; each = λ v h. in_lowest (item_of list v) (f v) (r.each v h) }

divides : (f g : Fraction) → HasDen g → IsGcd (unsigned_abs f.num) (unsigned_abs f.den) 1 → f.num *ℤ g.den ≡ g.num *ℤ f.den → unsigned_abs f.den ∣ unsigned_abs g.den
divides f g positive coprime e =
    let least : 0 < unsigned_abs g.den = omega (arith, ints, positive) in
    let s = sym (unsigned_abs-mul g.num f.den) ∙ ap unsigned_abs (sym e) ∙ unsigned_abs-mul f.num g.den in
    divides_other (unsigned_abs f.num) (unsigned_abs f.den) (unsigned_abs g.den) least coprime (subst (λ n. unsigned_abs f.den ∣ n) s (dvd-mul_left (unsigned_abs f.den) (unsigned_abs g.num)))

-- fractions in lowest terms of one value are one
pub same_reduced : (f g x : Fraction) → IsInLowestTerms f x → IsInLowestTerms g x → f ≡ g
same_reduced f g x p q =
    let above = p.same.left in
    let below = q.same.left in
    let e = (same_through f x g p.same (same_sym g x q.same)).cross in
    let a = divides f g below p.coprime e in
    let b = divides g f above q.coprime (sym e) in
    let one : f.den ≡ g.den = nonneg_abs f.den above ∙ ap pos (dvd_antisymm a b) ∙ sym (nonneg_abs g.den below) in
    let num : f.num ≡ g.num = cancel f.num g.num g.den below (e ∙ ap (λ z. g.num *ℤ z) one) in
    same_record f g num one

-- a profile has one claim of each player
pub one_claim : (player : PlayerOf) (i : ℕ) (profile : Profile) (left left' : List ℤ) (right right' : ℤ) → IsClaimOf player i profile left right → IsClaimOf player i profile left' right' → (left ≡ left') × (right ≡ right')
one_claim player i profile left left' right right' p q =
    let l = p.are_slopes.len in
    let m = q.are_slopes.len in
    let one = λ (v : ℕ) (h : v < length q.slopes). let b : v < length player.vars = omega (arith, h, m) in same_reduced (item_of q.slopes v) (item_of p.slopes v) (slope player profile v) (q.are_slopes.each v b) (p.are_slopes.each v b) in
    let slopes = ext_get_or (whole (pos 0)) q.slopes p.slopes (m ∙ sym l) one in
    let value = same_reduced q.value p.value (along_slope player profile (mean (strategy_of profile i))) q.is_value p.is_value in
    let other = subst (λ (f : Fraction). IsClaim p.slopes f q.by left' right') value (subst (λ (fs : List Fraction). IsClaim fs q.value q.by left' right') slopes q.claim) in
    let dens = λ (v : ℕ) (h : v < length p.slopes). (p.are_slopes.each v (omega (arith, h, l))).same.left in
    same_made p.slopes p.value p.by q.by left left' right right' dens p.is_value.same.left p.claim other
