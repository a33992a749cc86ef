-- Lists over the numbers from 0 on.
use Rattle.std.proofs.Common.{◌≡◌, ℕ, zero, suc, ◌+◌, ◌*◌, ◌<◌, ◌≤◌, arith, refl, ap, sym, subst, ◌∙◌, ℤ, Bool, true, false, if◌then◌else◌, Some, List, [], ◌∷◌, ◌++◌, map, length, get_or, slice_get, All, AllPairs}
use Rattle.std.proofs.lemmas.List.{append-nil, append_assoc, length-append, map-append}
use Rattle.std.proofs.lemmas.List.Concat.{flat_map-append}
use Rattle.std.proofs.lemmas.List.Elements.{All-append, All-nil}
use Rattle.std.proofs.lemmas.List.FromFn.{get_or-map-range_with_len, length-map-range_with_len, map-range_with_len_more}
use Rattle.std.proofs.lemmas.List.Kept.{AllPairs-cons}
use Rattle.std.proofs.lemmas.List.Sums.{sum_by-append}
use Rattle.std.specs.List.{flat_map, range_with_len, sum_by}
use Rattle.zr_base.specs.Terms.{AscendWith}

pub range_more : (from n : ℕ)
    → range_with_len from (n + 1) ≡ range_with_len from n ++ (from + n) ∷ []
range_more from zero =
    let e : from + 0 ≡ from = omega arith in ap (λ (k : ℕ). k ∷ []) (sym e)
range_more from (suc n) =
    let next = range_more (from + 1) n in
    let e : from + 1 + n ≡ from + suc n = omega arith in
    let step : suc n + 1 ≡ suc (n + 1) = omega arith in
    ap (range_with_len from) step ∙ ap (λ (l : List ℕ). from ∷ l)
    (next ∙ ap (λ (k : ℕ). range_with_len (from + 1) n ++ k ∷ []) e)

pub flat_more : {A : Type 0} (f : ℕ → List A) → (n : ℕ)
    → flat_map f (range_with_len 0 (n + 1)) ≡ flat_map f (range_with_len 0 n) ++ f n
flat_more {A} f n =
    let e : 0 + n ≡ n = omega arith in
    ap (flat_map f) (range_more 0 n) ∙ flat_map-append f (range_with_len 0 n) ((0 + n) ∷ [])
    ∙ ap (λ (l : List A). flat_map f (range_with_len 0 n) ++ l) (append-nil (f (0 + n)) ∙ ap f e)

-- the item of a number
pub from_range : {A : Type 0} (f : ℕ → A) → (a n i : ℕ) (x : A)
    → slice_get (map f (range_with_len a n)) i ≡ Some x → (i < n) × (f (a + i) ≡ x)
from_range f a zero i x e = absurd cc
from_range f a (suc n) zero x e =
    let z : a + 0 ≡ a = omega arith in
    let s : f a ≡ x = cc in (omega arith, ap f z ∙ s)
from_range f a (suc n) (suc i) x e =
    let r = from_range f (a + 1) n i x e in
    let z : a + suc i ≡ a + 1 + i = omega arith in (omega (arith, r.0), ap f z ∙ r.1)

pub all_range : {A : Type 0} (P : A → Type 0) (f : ℕ → A) (n : ℕ) → ((k : ℕ) → k < n → P (f k))
    → All P (map f (range_with_len 0 n))
all_range P f n each k d h =
    let below : k < n = omega (arith, length-map-range_with_len f 0 n, h) in
    let e : 0 + k ≡ k = omega arith in
    subst P (sym (get_or-map-range_with_len f 0 n k k d below e)) (each k below)

pub ascend_range : (P : ℤ → Type 0) (f : ℕ → ℤ) (a n columns : ℕ) → a + n ≤ columns
    → ((k : ℕ) → k < a + n → P (f k))
    → AscendWith P a columns (map (λ k. (k, f k)) (range_with_len a n))
ascend_range P f a zero columns h each = tt
ascend_range P f a (suc n) columns h each = (
  omega arith,
  omega arith,
  each a (omega arith),
  ascend_range P f (a + 1) n columns (omega arith) (λ k l. each k (omega (arith, l))),
)

pub all_flat : {A : Type 0} (P : A → Type 0) (f : ℕ → List A) (a n : ℕ)
    → ((k : ℕ) → a ≤ k → k < a + n → All P (f k)) → All P (flat_map f (range_with_len a n))
all_flat P f a zero each = All-nil P
all_flat P f a (suc n) each =
    All-append P (f a) (flat_map f (range_with_len (a + 1) n))
    (each a (omega arith) (omega arith))
    (all_flat P f (a + 1) n (λ k l h. each k (omega (arith, l)) (omega (arith, h))))

pairs_append : {A : Type 0} (R : A → A → Type 0) (xs ys : List A) → AllPairs R xs → AllPairs R ys
    → All (λ x. All (R x) ys) xs → AllPairs R (xs ++ ys)
pairs_append R [] ys p q r = q
pairs_append R (x ∷ xs) ys p q r =
    AllPairs-cons R x (xs ++ ys)
    (All-append (R x) xs ys
    (λ k d h. p 0 (suc k) d (omega arith) (omega (arith, h)))
    (r 0 x (omega arith)))
    (pairs_append R xs ys
    (λ i j d h l. p (suc i) (suc j) d (omega (arith, h)) (omega (arith, l)))
    q (λ k d h. r (suc k) d (omega (arith, h))))

-- each item of a piece with each item of a later piece
pub pairs_flat : {A : Type 0} (R : A → A → Type 0) (f : ℕ → List A) (a n : ℕ)
    → ((k : ℕ) → a ≤ k → k < a + n → AllPairs R (f k))
    → ((i j : ℕ) → a ≤ i → i < j → j < a + n → All (λ s. All (R s) (f j)) (f i))
    → AllPairs R (flat_map f (range_with_len a n))
pairs_flat R f a zero own across = λ i j d h l. absurd (omega (arith, l))
pairs_flat R f a (suc n) own across =
    pairs_append R (f a) (flat_map f (range_with_len (a + 1) n))
    (own a (omega arith) (omega arith))
    (pairs_flat R f (a + 1) n (λ k l h. own k (omega (arith, l)) (omega (arith, h)))
    (λ i j l h m. across i j (omega (arith, l)) h (omega (arith, m))))
    (λ k d h. all_flat (R (get_or (f a) k d)) f (a + 1) n
    (λ j l m. across a j (omega arith) (omega (arith, l)) (omega (arith, m)) k d h))

pub length_flat : {A : Type 0} (f : ℕ → List A) (a n m : ℕ) → ((k : ℕ) → length (f k) ≤ m)
    → length (flat_map f (range_with_len a n)) ≤ n * m
length_flat f a zero m each = omega arith
length_flat f a (suc n) m each =
    let rest = length_flat f (a + 1) n m each in
    let both = length-append (f a) (flat_map f (range_with_len (a + 1) n)) in
    omega (arith, each a, rest, both)

-- a list that is empty where a test is true
pub all_unless : {A : Type 0} (P : A → Type 0) (b : Bool) (xs : List A)
    → (b ≡ false → All P xs) → All P (if b then [] else xs)
all_unless P true xs h = All-nil P
all_unless P false xs h = h refl

pub pairs_unless : {A : Type 0} (R : A → A → Type 0) (b : Bool) (xs : List A)
    → AllPairs R xs → AllPairs R (if b then [] else xs)
pairs_unless R true xs h = λ i j d l m. absurd (omega (arith, m))
pairs_unless R false xs h = h

pub length_unless : {A : Type 0} (b : Bool) (xs : List A) (m : ℕ) → length xs ≤ m
    → length (if b then [] else xs) ≤ m
length_unless true xs m h = omega arith
length_unless false xs m h = h

-- one item more
pub pushed_view : {A B : Type 0} (view : A → B) (f : ℕ → B) (old new : List A) (x : A) (k : ℕ)
    → map view old ≡ map f (range_with_len 0 k) → new ≡ old ++ x ∷ [] → view x ≡ f k
    → map view new ≡ map f (range_with_len 0 (k + 1))
pushed_view {A} {B} view f old new x k before e is =
    ap (map view) e ∙ map-append view old (x ∷ [])
    ∙ ap (λ (l : List B). l ++ view x ∷ []) before
    ∙ ap (λ (y : B). map f (range_with_len 0 k) ++ y ∷ []) is
    ∙ sym (map-range_with_len_more f 0 k k (omega arith))

pub pushed : {A : Type 0} (f : ℕ → A) (old new : List A) (x : A) (k : ℕ)
    → old ≡ map f (range_with_len 0 k) → new ≡ old ++ x ∷ [] → x ≡ f k
    → new ≡ map f (range_with_len 0 (k + 1))
pushed {A} f old new x k before e is =
    e ∙ ap (λ (l : List A). l ++ x ∷ []) before
    ∙ ap (λ (y : A). map f (range_with_len 0 k) ++ y ∷ []) is
    ∙ sym (map-range_with_len_more f 0 k k (omega arith))

-- one piece more
pub appended : {A : Type 0} (f : ℕ → List A) (start old new : List A) (k : ℕ)
    → old ≡ start ++ flat_map f (range_with_len 0 k) → new ≡ old ++ f k
    → new ≡ start ++ flat_map f (range_with_len 0 (k + 1))
appended {A} f start old new k before e =
    e ∙ ap (λ (l : List A). l ++ f k) before
    ∙ append_assoc start (flat_map f (range_with_len 0 k)) (f k)
    ∙ ap (λ (l : List A). start ++ l) (sym (flat_more f k))

pub gathered : {A : Type 0} (f : ℕ → List A) (old new : List A) (k : ℕ)
    → old ≡ flat_map f (range_with_len 0 k) → new ≡ old ++ f k
    → new ≡ flat_map f (range_with_len 0 (k + 1))
gathered {A} f old new k before e =
    e ∙ ap (λ (l : List A). l ++ f k) before ∙ sym (flat_more f k)

pub summed : (f : ℕ → ℕ) (k : ℕ)
    → sum_by f (range_with_len 0 (k + 1)) ≡ sum_by f (range_with_len 0 k) + f k
summed f k =
    let e : 0 + k ≡ k = omega arith in
    let all = ap (sum_by f) (range_more 0 k)
    ∙ sum_by-append f (range_with_len 0 k) ((0 + k) ∷ []) in
    let last : f (0 + k) ≡ f k = ap f e in
    omega (arith, all, last)
