-- What the steps of a sum say of its value.
use Rattle.std.proofs.Common.{◌≡◌, ℕ, zero, suc, ◌<◌, arith, refl, sym, ap, ◌∙◌, length, get_or, take, drop, take-append-drop, drop-cons, ℤ, pos, neg_ℤ, ◌+ℤ◌, ◌-ℤ◌, ◌*ℤ◌, List, [], ◌∷◌, ◌++◌, Result, Ok, Err}
use Rattle.std.proofs.Math.IntN.{*ℤ-zero}
use Rattle.std.proofs.lemmas.Int.{ints}
use Rattle.zr_base.specs.declared.step.Wide.{Wide}
use Rattle.zr_base.specs.Steps.{cross_of, narrow_cross, IsNarrow, ◌>>=◌}
use Rattle.zr_base.proofs.CrossLaws.{cross_ok, narrow_is}
use Rattle.zr_base.specs.Sums.{sum_products, sum_step, sum_steps}

-- a product with 0 is never too wide
pub sum_step-zero : (s m : ℤ) → IsNarrow s → sum_step s (m, pos 0) ≡ Ok s
unfolding cross_of narrow_cross
sum_step-zero s m h =
    let z : IsNarrow (pos 0) = omega arith in
    let one : neg_ℤ s *ℤ pos 1 ≡ neg_ℤ s = omega (arith, ints) in
    let n : IsNarrow (neg_ℤ s) = omega (arith, ints) in
    let back : pos 0 -ℤ neg_ℤ s ≡ s = omega (arith, ints) in
    rw (*ℤ-zero m, one, narrow_is (pos 0) z, narrow_is (neg_ℤ s) n, back, narrow_is s h) refl

pub sum_step_narrow : (s v : ℤ) (t : ℤ × ℤ) → sum_step s t ≡ Ok v → IsNarrow v
sum_step_narrow s v t e = (cross_ok t (neg_ℤ s, pos 1) v (sym e)).1

pub sum_step_value : (s v : ℤ) (t : ℤ × ℤ) → sum_step s t ≡ Ok v → v ≡ s +ℤ t.0 *ℤ t.1
sum_step_value s v t e = (cross_ok t (neg_ℤ s, pos 1) v (sym e)).0 ∙ omega (arith, ints)

pub sum_steps-append : (s : ℤ) (xs ys : List (ℤ × ℤ)) → sum_steps s (xs ++ ys) ≡ (sum_steps s xs >>= λ r. sum_steps r ys)
sum_steps-append s [] ys = refl
sum_steps-append s (t ∷ ts) ys = onward (sum_step s t) (λ v. sum_steps-append v ts ys)
  where
    onward : (r : Result ℤ Wide) → ((v : ℤ) → sum_steps v (ts ++ ys) ≡ (sum_steps v ts >>= λ u. sum_steps u ys)) → (r >>= λ v. sum_steps v (ts ++ ys)) ≡ ((r >>= λ v. sum_steps v ts) >>= λ v. sum_steps v ys)
    onward (Ok v) rest = rest v
    onward (Err w) rest = refl

pub sum_steps_narrow : (s v : ℤ) (ts : List (ℤ × ℤ)) → IsNarrow s → sum_steps s ts ≡ Ok v → IsNarrow v
sum_steps_narrow s v [] h e = let f : s ≡ v = cc in rw (← f) h
sum_steps_narrow s v (t ∷ ts) h e = onward (sum_step s t) refl (λ u n f. sum_steps_narrow u v ts n f) e
  where
    onward : (r : Result ℤ Wide) → sum_step s t ≡ r → ((u : ℤ) → IsNarrow u → sum_steps u ts ≡ Ok v → IsNarrow v) → (r >>= λ u. sum_steps u ts) ≡ Ok v → IsNarrow v
    onward (Ok u) made rest f = rest u (sum_step_narrow s u t made) f
    onward (Err w) made rest f = absurd cc

bind_ok : (r : Result ℤ Wide) → (r >>= λ v. Ok v) ≡ r
bind_ok (Ok v) = refl
bind_ok (Err w) = refl

-- the sum with one product more
pub one_more : (ts : List (ℤ × ℤ)) (t : ℤ × ℤ) (s : ℤ) → sum_steps (pos 0) ts ≡ Ok s → sum_steps (pos 0) (ts ++ t ∷ []) ≡ sum_step s t
one_more ts t s e = sum_steps-append (pos 0) ts (t ∷ []) ∙ rw e (bind_ok (sum_step s t))

-- a step that is too wide ends the whole sum
pub wide_within : (front back : List (ℤ × ℤ)) (t : ℤ × ℤ) (s : ℤ) (w : Wide) → sum_steps (pos 0) front ≡ Ok s → sum_step s t ≡ Err w → sum_steps (pos 0) (front ++ t ∷ back) ≡ Err w
wide_within front back t s w e f = sum_steps-append (pos 0) front (t ∷ back) ∙ rw (e, f) refl

pub get_or_default : {X : Type 0} (xs : List X) (i : ℕ) (d e : X) → i < length xs → get_or xs i d ≡ get_or xs i e
get_or_default [] i d e h = absurd (omega arith)
get_or_default (x ∷ xs) zero d e h = refl
get_or_default (x ∷ xs) (suc i) d e h = get_or_default xs i d e (omega arith)

pub split_at : {X : Type 0} (xs : List X) (i : ℕ) (d : X) → i < length xs → xs ≡ take i xs ++ (get_or xs i d ∷ drop (suc i) xs)
split_at xs i d h = sym (take-append-drop i xs) ∙ ap (λ ys. take i xs ++ ys) (drop-cons xs i d h)

-- steps that end have the exact sum
pub sum_steps_exact : (s v : ℤ) (ts : List (ℤ × ℤ)) → sum_steps s ts ≡ Ok v → v ≡ s +ℤ sum_products ts
sum_steps_exact s v [] e = let f : s ≡ v = cc in omega (arith, ints)
sum_steps_exact s v (t ∷ ts) e = onward (sum_step s t) refl (λ u f. sum_steps_exact u v ts f) e
  where
    onward : (r : Result ℤ Wide) → sum_step s t ≡ r → ((u : ℤ) → sum_steps u ts ≡ Ok v → v ≡ u +ℤ sum_products ts) → (r >>= λ u. sum_steps u ts) ≡ Ok v → v ≡ s +ℤ (t.0 *ℤ t.1 +ℤ sum_products ts)
    onward (Ok u) made rest f = let a = rest u f in let b = sum_step_value s u t made in omega (arith, ints, a, b)
    onward (Err w) made rest f = absurd cc

-- the step as the code makes it
pub as_step : (s : ℤ) → pos 0 -ℤ s ≡ neg_ℤ s
as_step s = omega (arith, ints)
