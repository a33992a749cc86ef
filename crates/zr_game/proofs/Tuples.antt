-- Sums of whole numbers over all tuples.
use Rattle.std.proofs.Common.{◌≡◌, ◌≢◌, ℕ, zero, suc, ◌<◌, arith, refl, ap, ap₂, ◌∙◌, ℤ, pos, ◌+ℤ◌, ◌*ℤ◌, List, [], ◌∷◌, length}
use Rattle.std.proofs.lemmas.Int.{ints}
use Rattle.std.proofs.Math.IntN.{*ℤ_comm}
use Rattle.zr_base.proofs.Ring.{spread}
use Rattle.zr_base.proofs.Worth.{sum_list}
use Rattle.zr_base.specs.Points.{PointOf}
use Rattle.zr_game.specs.Costs.{point_of}
use Rattle.zr_game.specs.Profiles.{Profile, Strategy, strategy_of, total, totals}

pub sum_list_same : {A : Type 0} (xs : List A) (f g : A → ℤ) → ((x : A) → f x ≡ g x)
    → sum_list xs f ≡ sum_list xs g
sum_list_same [] f g h = refl
sum_list_same (x ∷ xs) f g h = ap₂ ◌+ℤ◌ (h x) (sum_list_same xs f g h)

pub sum_list-add : {A : Type 0} (xs : List A) (f g : A → ℤ)
    → sum_list xs (λ x. f x +ℤ g x) ≡ sum_list xs f +ℤ sum_list xs g
sum_list-add [] f g = refl
sum_list-add (x ∷ xs) f g = let r = sum_list-add xs f g in omega (arith, ints, r)

pub sum_list-mul : {A : Type 0} (xs : List A) (m : ℤ) (f : A → ℤ)
    → sum_list xs (λ x. f x *ℤ m) ≡ sum_list xs f *ℤ m
sum_list-mul [] m f = omega (arith, ints)
sum_list-mul (x ∷ xs) m f = let r = sum_list-mul xs m f in rw r (simp spread (omega (arith, ints)))

-- weights times f
abbrev pub weigh : Strategy → (PointOf → ℤ) → ℤ
weigh parts f = sum_list parts (λ part. part.weight *ℤ f part.point)

abbrev pub tuples : Profile → (List PointOf → ℤ) → ℤ
tuples [] f = f []
tuples (parts ∷ rest) f = weigh parts (λ x. tuples rest (λ points. f (x ∷ points)))

pub weigh_same : (parts : Strategy) (f g : PointOf → ℤ) → ((x : PointOf) → f x ≡ g x)
    → weigh parts f ≡ weigh parts g
weigh_same parts f g h =
    sum_list_same parts (λ part. part.weight *ℤ f part.point) (λ part. part.weight *ℤ g part.point)
    (λ part. ap (λ a. part.weight *ℤ a) (h part.point))

pub weigh-add : (parts : Strategy) (f g : PointOf → ℤ)
    → weigh parts (λ x. f x +ℤ g x) ≡ weigh parts f +ℤ weigh parts g
weigh-add [] f g = refl
weigh-add (x ∷ xs) f g = let r = weigh-add xs f g in rw r (simp spread (omega (arith, ints)))

pub weigh-mul : (parts : Strategy) (m : ℤ) (f : PointOf → ℤ)
    → weigh parts (λ x. f x *ℤ m) ≡ weigh parts f *ℤ m
weigh-mul [] m f = omega (arith, ints)
weigh-mul (x ∷ xs) m f = let r = weigh-mul xs m f in rw r (simp spread (omega (arith, ints)))

pub weigh-constant : (parts : Strategy) (c : ℤ) → weigh parts (λ x. c) ≡ total parts *ℤ c
weigh-constant [] c = omega (arith, ints)
weigh-constant (x ∷ xs) c = let r = weigh-constant xs c in rw r (simp spread (omega (arith, ints)))

pub tuples_same : (profile : Profile) (f g : List PointOf → ℤ) → ((t : List PointOf) → f t ≡ g t)
    → tuples profile f ≡ tuples profile g
tuples_same [] f g h = h []
tuples_same (s ∷ ss) f g h =
    weigh_same s (λ x. tuples ss (λ t. f (x ∷ t))) (λ x. tuples ss (λ t. g (x ∷ t)))
    (λ x. tuples_same ss (λ t. f (x ∷ t)) (λ t. g (x ∷ t)) (λ t. h (x ∷ t)))

pub tuples-add : (profile : Profile) (f g : List PointOf → ℤ)
    → tuples profile (λ t. f t +ℤ g t) ≡ tuples profile f +ℤ tuples profile g
tuples-add [] f g = refl
tuples-add (s ∷ ss) f g =
    weigh_same s (λ x. tuples ss (λ t. f (x ∷ t) +ℤ g (x ∷ t)))
    (λ x. tuples ss (λ t. f (x ∷ t)) +ℤ tuples ss (λ t. g (x ∷ t)))
    (λ x. tuples-add ss (λ t. f (x ∷ t)) (λ t. g (x ∷ t))) ∙
    weigh-add s (λ x. tuples ss (λ t. f (x ∷ t))) (λ x. tuples ss (λ t. g (x ∷ t)))

pub tuples-mul : (profile : Profile) (m : ℤ) (f : List PointOf → ℤ)
    → tuples profile (λ t. f t *ℤ m) ≡ tuples profile f *ℤ m
tuples-mul [] m f = refl
tuples-mul (s ∷ ss) m f =
    weigh_same s (λ x. tuples ss (λ t. f (x ∷ t) *ℤ m)) (λ x. tuples ss (λ t. f (x ∷ t)) *ℤ m)
    (λ x. tuples-mul ss m (λ t. f (x ∷ t))) ∙ weigh-mul s m (λ x. tuples ss (λ t. f (x ∷ t)))

pub tuples-constant : (profile : Profile) (c : ℤ) → tuples profile (λ t. c) ≡ totals profile *ℤ c
tuples-constant [] c = omega (arith, ints)
tuples-constant (s ∷ ss) c =
    weigh_same s (λ x. tuples ss (λ t. c)) (λ x. totals ss *ℤ c) (λ x. tuples-constant ss c) ∙
    weigh-constant s (totals ss *ℤ c) ∙ simp spread refl

-- a sum of terms, term by term
pub tuples-sum : {A : Type 0} (profile : Profile) (ts : List A) (f : A → List PointOf → ℤ)
    → tuples profile (λ points. sum_list ts (λ t. f t points)) ≡ sum_list ts
    (λ t. tuples profile (f t))
tuples-sum profile [] f = tuples-constant profile (pos 0) ∙ omega (arith, ints)
tuples-sum profile (t ∷ ts) f =
    tuples-add profile (f t) (λ points. sum_list ts (λ u. f u points)) ∙
    ap (λ a. tuples profile (f t) +ℤ a) (tuples-sum profile ts f)

move_last : (a b c : ℤ) → (a *ℤ b) *ℤ c ≡ a *ℤ (c *ℤ b)
move_last a b c = simp spread refl

past : (t c u w q : ℤ) → c *ℤ u ≡ w *ℤ q → (t *ℤ c) *ℤ u ≡ w *ℤ (t *ℤ q)
past t c u w q e =
    let m = ap (λ a. t *ℤ a) e in simp spread (omega (arith, ints, m))

first_of_two : (f t c u w q : ℤ) → c *ℤ u ≡ w *ℤ q → (f *ℤ c) *ℤ (t *ℤ u) ≡ (f *ℤ w) *ℤ (t *ℤ q)
first_of_two f t c u w q e =
    let m = simp spread at (ap (λ a. (f *ℤ t) *ℤ a) e) in simp spread (omega (arith, ints, m))

second_of_two : (g t c u w q : ℤ) → c *ℤ u ≡ w *ℤ q → (g *ℤ c) *ℤ (u *ℤ t) ≡ (w *ℤ g) *ℤ (t *ℤ q)
second_of_two g t c u w q e =
    let m = simp spread at (ap (λ a. (g *ℤ t) *ℤ a) e) in simp spread (omega (arith, ints, m))

-- a function of player j's point alone
pub alone : (profile : Profile) (j : ℕ) (f : PointOf → ℤ) → j < length profile
    → tuples profile (λ points. f (point_of points j)) *ℤ total (strategy_of profile j) ≡ weigh
    (strategy_of profile j) f *ℤ totals profile
alone [] j f h = absurd (omega arith)
alone (s ∷ ss) zero f h =
    let inner = weigh_same s (λ x. tuples ss (λ t. f x)) (λ x. f x *ℤ totals ss)
    (λ x. tuples-constant ss (f x) ∙ *ℤ_comm (totals ss) (f x)) ∙ weigh-mul s (totals ss) f in
    ap (λ a. a *ℤ total s) inner ∙ move_last (weigh s f) (totals ss) (total s)
alone (s ∷ ss) (suc j) f h =
    let c = tuples ss (λ points. f (point_of points j)) in
    ap (λ a. a *ℤ total (strategy_of ss j)) (weigh-constant s c) ∙
    past (total s) c (total (strategy_of ss j)) (weigh (strategy_of ss j) f) (totals ss)
    (alone ss j f (omega arith))

-- functions of two players' points
pub apart : (profile : Profile) (i j : ℕ) (f g : PointOf → ℤ) → i ≢ j → i < length profile
    → j < length profile
    → tuples profile (λ points. f (point_of points i) *ℤ g (point_of points j)) *ℤ
    (total (strategy_of profile i) *ℤ total (strategy_of profile j)) ≡
    (weigh (strategy_of profile i) f *ℤ weigh (strategy_of profile j) g) *ℤ totals profile
apart [] i j f g n p q = absurd (omega arith)
apart (s ∷ ss) zero zero f g n p q = absurd (n refl)
apart (s ∷ ss) zero (suc j) f g n p q =
    let c = tuples ss (λ points. g (point_of points j)) in
    let inner = weigh_same s (λ x. tuples ss (λ t. f x *ℤ g (point_of t j))) (λ x. f x *ℤ c)
    (λ x. tuples_same ss (λ t. f x *ℤ g (point_of t j)) (λ t. g (point_of t j) *ℤ f x)
    (λ t. *ℤ_comm (f x) (g (point_of t j))) ∙ tuples-mul ss (f x) (λ t. g (point_of t j)) ∙
    *ℤ_comm c (f x)) ∙ weigh-mul s c f in
    ap (λ a. a *ℤ (total s *ℤ total (strategy_of ss j))) inner ∙
    first_of_two (weigh s f) (total s) c (total (strategy_of ss j)) (weigh (strategy_of ss j) g)
    (totals ss) (alone ss j g (omega arith))
apart (s ∷ ss) (suc i) zero f g n p q =
    let c = tuples ss (λ points. f (point_of points i)) in
    let inner = weigh_same s (λ x. tuples ss (λ t. f (point_of t i) *ℤ g x)) (λ x. g x *ℤ c)
    (λ x. tuples-mul ss (g x) (λ t. f (point_of t i)) ∙ *ℤ_comm c (g x)) ∙ weigh-mul s c g in
    ap (λ a. a *ℤ (total (strategy_of ss i) *ℤ total s)) inner ∙
    second_of_two (weigh s g) (total s) c (total (strategy_of ss i))
    (weigh (strategy_of ss i) f) (totals ss) (alone ss i f (omega arith))
apart (s ∷ ss) (suc i) (suc j) f g n p q =
    let c = tuples ss (λ points. f (point_of points i) *ℤ g (point_of points j)) in
    ap (λ a. a *ℤ (total (strategy_of ss i) *ℤ total (strategy_of ss j))) (weigh-constant s c) ∙
    past (total s) c (total (strategy_of ss i) *ℤ total (strategy_of ss j))
    (weigh (strategy_of ss i) f *ℤ weigh (strategy_of ss j) g) (totals ss)
    (apart ss i j f g (λ e. n (ap suc e)) (omega arith) (omega arith))
