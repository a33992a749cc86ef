-- The slope of a player's cost as a sum over all variables of all players.
use Rattle.std.proofs.Common.{◌≡◌, ◌≢◌, ℕ, zero, suc, ◌<◌, arith, refl, sym, ap, ap₂, subst, ◌∙◌, ℤ, pos, ◌+ℤ◌, ◌*ℤ◌, Bool, true, false, ◌==◌, ◌&&◌, if◌then◌else◌, cond, List, [], ◌∷◌, length, get_or, ⊎_elim}
use Rattle.std.specs.Cmp.{nat_cmp_is}
use Rattle.std.specs.Ordering.{nat_cmp}
use Rattle.std.specs.List.{AllPairs, filter}
use Rattle.std.proofs.lemmas.Bool.{cases_eq}
use Rattle.std.proofs.lemmas.Bool.Decides.{nat_tests}
use Rattle.std.proofs.lemmas.Int.{ints}
use Rattle.std.specs.declared.cmp.Ordering.TheVariants.{Equal, Less}
use Rattle.zr_base.specs.Fractions.{sum_over, times, whole}
use Rattle.zr_base.specs.Sums.{sum_to}
use Rattle.zr_base.proofs.Dense.{sum_to-add, sum_to_same}
use Rattle.zr_base.proofs.Members.{each_filter, each_of_all, each_weaker}
use Rattle.zr_base.proofs.Ring.{mul-add_right}
use Rattle.zr_base.proofs.Worth.{Each, Worth, sum_list, worth-multiple, worth-plus, worth-sum, worth-whole}
use Rattle.zr_game.specs.Forms.{IsCrossForm, IsGame, IsPlayer, IsPlayerForm, cross_order}
use Rattle.zr_game.specs.Means.{mean, slope}
use Rattle.zr_game.specs.Players.{GameOf, PlayerOf}
use Rattle.zr_game.specs.Profiles.{Profile, strategy_of}
use Rattle.zr_game.specs.declared.player.CrossTerm.{CrossTerm}
use Rattle.zr_system.specs.Regions.{cross_coef, cross_number, own_number, player_at, var_count}
use Rattle.zr_system.proofs.Sums.{sum_to-all_zero, sum_to-single}

-- the terms don't name the same variables
abbrev IsElse : CrossTerm → CrossTerm → Type 0
IsElse t s = s.own ≡ t.own → s.player ≡ t.player → s.var ≡ t.var → ⊥

abbrev AreApart : List CrossTerm → Type 0
AreApart [] = Unit {0}
AreApart (t ∷ ts) = Each (IsElse t) ts × AreApart ts

names : CrossTerm → ℕ → ℕ → ℕ → Bool
names t v k u = (t.own == v) && ((t.player == k) && (t.var == u))

three_false : (a b c d e f : ℕ) → (a ≡ b → c ≡ d → e ≡ f → ⊥)
    → ((a == b) && ((c == d) && (e == f))) ≡ false
three_false a b c d e f h =
    ⊎_elim (λ (p : a ≡ b). ⊎_elim (λ (q : c ≡ d). ⊎_elim (λ (r : e ≡ f). absurd (h p q r))
    (λ (n : e ≢ f). last n) (cases_eq e f)) (λ (n : c ≢ d). middle n) (cases_eq c d))
    (λ (n : a ≢ b). first n) (cases_eq a b)
  where
    last : e ≢ f → ((a == b) && ((c == d) && (e == f))) ≡ false
    last n = grind (arith, nat_tests)

    middle : c ≢ d → ((a == b) && ((c == d) && (e == f))) ≡ false
    middle n = grind (arith, nat_tests)

    first : a ≢ b → ((a == b) && ((c == d) && (e == f))) ≡ false
    first n = grind (arith, nat_tests)

three_true : (a b c d e f : ℕ) → ((a == b) && ((c == d) && (e == f))) ≡ true → (a ≡ b) × (c ≡ d)
    × (e ≡ f)
three_true a b c d e f h = (
  grind (arith, nat_tests),
  grind (arith, nat_tests),
  grind
      (arith, nat_tests),
)

absent : (t : CrossTerm) (ts : List CrossTerm) (v k u : ℕ) → Each (IsElse t) ts → t.own ≡ v
    → t.player ≡ k → t.var ≡ u → cross_coef ts v k u ≡ pos 0
absent t [] v k u all a b c = refl
absent t (s ∷ ss) v k u all a b c =
    let f = three_false s.own v s.player k s.var u
    (λ p q r. all.0 (p ∙ sym a) (q ∙ sym b) (r ∙ sym c)) in
    rw f (absent t ss v k u all.1 a b c)

-- one term alone
single_at : CrossTerm → ℕ → ℕ → ℕ → ℤ
single_at t v k u = if names t v k u then t.coef else pos 0

split : (t : CrossTerm) (ts : List CrossTerm) (v k u : ℕ) → Each (IsElse t) ts
    → cross_coef (t ∷ ts) v k u ≡ single_at t v k u +ℤ cross_coef ts v k u
unfolding single_at names
split t ts v k u all = tested (names t v k u) refl
  where
    tested : (b : Bool) → names t v k u ≡ b → (if names t v k u then t.coef else cross_coef ts v k
        u) ≡ (if names t v k u then t.coef else pos 0) +ℤ cross_coef ts v k u
    tested true e =
        let n = three_true t.own v t.player k t.var u e in
        let z = absent t ts v k u all n.0 n.1 n.2 in
        rw e (omega (arith, ints, z))
    tested false e = rw e (omega (arith, ints))

module _ (n : ℕ) (m : ℕ → ℕ) (z : ℕ → ℕ → ℤ) (v : ℕ) where
  abbrev dense : (ℕ → ℕ → ℤ) → ℤ
  dense c = sum_to n (λ k. sum_to (m k) (λ u. c k u *ℤ z k u))

  dense-add : (a b c : ℕ → ℕ → ℤ) → ((k u : ℕ) → c k u ≡ a k u +ℤ b k u)
      → dense c ≡ dense a +ℤ dense b
  dense-add a b c h =
      sum_to_same n (λ k. sum_to (m k) (λ u. c k u *ℤ z k u))
      (λ k. sum_to (m k) (λ u. a k u *ℤ z k u) +ℤ sum_to (m k) (λ u. b k u *ℤ z k u))
      (λ k p. sum_to_same (m k) (λ u. c k u *ℤ z k u) (λ u. a k u *ℤ z k u +ℤ b k u *ℤ z k u)
      (λ u q. ap (λ x. x *ℤ z k u) (h k u) ∙ mul-add_right (a k u) (b k u) (z k u))
      ∙ sum_to-add (m k) (λ u. a k u *ℤ z k u) (λ u. b k u *ℤ z k u))
      ∙ sum_to-add n (λ k. sum_to (m k) (λ u. a k u *ℤ z k u))
      (λ k. sum_to (m k) (λ u. b k u *ℤ z k u))

  dense-zero : dense (λ k u. pos 0) ≡ pos 0
  dense-zero = sum_to-all_zero n (λ k. sum_to (m k) (λ u. pos 0 *ℤ z k u))
      (λ k p. sum_to-all_zero (m k) (λ u. pos 0 *ℤ z k u) (λ u q. omega (arith, ints)))

  -- the term lies within the players and their variables
  abbrev IsWithin : CrossTerm → Type 0
  IsWithin t = (t.player < n) × (t.var < m t.player)

  value : CrossTerm → ℤ
  value t = t.coef *ℤ z t.player t.var

  zero_times : (a b : ℤ) → a ≡ pos 0 → a *ℤ b ≡ pos 0
  zero_times a b e = rw e (omega (arith, ints))

  single_is : (t : CrossTerm) → IsWithin t → dense (single_at t v) ≡ cond (t.own == v) (value t)
      (pos 0)
  unfolding value single_at names
  single_is t w = ⊎_elim (λ (e : t.own ≡ v). here e) (λ (c : t.own ≢ v). there c) (cases_eq t.own v)
    where
      off : (k u : ℕ) → (t.own ≡ v → t.player ≡ k → t.var ≡ u → ⊥)
          → single_at t v k u *ℤ z k u ≡ pos 0
      off k u c = zero_times (single_at t v k u) (z k u)
          (rw (three_false t.own v t.player k t.var u c) refl)

      there : t.own ≢ v → dense (single_at t v) ≡ cond (t.own == v) (value t) (pos 0)
      there c =
          let f : (t.own == v) ≡ false = grind (arith, nat_tests) in
          sum_to-all_zero n (λ k. sum_to (m k) (λ u. single_at t v k u *ℤ z k u))
          (λ k p. sum_to-all_zero (m k) (λ u. single_at t v k u *ℤ z k u)
          (λ u q. off k u (λ e g h. c e))) ∙ rw f refl

      on : t.own ≡ v → single_at t v t.player t.var ≡ t.coef
      on e = let b : ((t.own == v) && ((t.player == t.player) && (t.var == t.var))) ≡ true = grind
          (arith, nat_tests) in rw b refl

      here : t.own ≡ v → dense (single_at t v) ≡ cond (t.own == v) (value t) (pos 0)
      here e =
          let f : (t.own == v) ≡ true = grind (arith, nat_tests) in
          sum_to-single n t.player (λ k. sum_to (m k) (λ u. single_at t v k u *ℤ z k u)) w.0
          (λ k p c. sum_to-all_zero (m k) (λ u. single_at t v k u *ℤ z k u)
          (λ u q. off k u (λ e g h. c (sym g))))
          ∙ sum_to-single (m t.player) t.var (λ u. single_at t v t.player u *ℤ z t.player u)
          w.1 (λ u p c. off t.player u (λ e g h. c (sym h)))
          ∙ ap (λ x. x *ℤ z t.player t.var) (on e) ∙ rw f refl

  filtered : (b : Bool) (t : CrossTerm) (ts : List CrossTerm)
      → sum_list (cond b (t ∷ ts) ts) value ≡ cond b (value t) (pos 0) +ℤ sum_list ts value
  filtered true t ts = refl
  filtered false t ts = omega (arith, ints)

  pub cross_dense : (ts : List CrossTerm) → AreApart ts → Each IsWithin ts
      → sum_list (filter (λ t. t.own == v) ts) (λ t. t.coef *ℤ z t.player t.var) ≡ dense
      (cross_coef ts v)
  unfolding value
  cross_dense [] apart within = sym dense-zero
  cross_dense (t ∷ ts) apart within =
      let rest = cross_dense ts apart.1 within.1 in
      filtered (t.own == v) t (filter (λ s. s.own == v) ts)
      ∙ ap₂ ◌+ℤ◌ (sym (single_is t within.0)) rest
      ∙ sym (dense-add (single_at t v) (cross_coef ts v) (cross_coef (t ∷ ts) v)
      (λ k u. split t ts v k u apart.0))

-- ---- in a game

itself : (n : ℕ) → nat_cmp n n ≡ Equal
itself n = sym (nat_cmp_is n n Equal refl)

distinct : (s t : CrossTerm) → cross_order s t ≡ Less → IsElse s t
distinct s t e a b c =
    let f : cross_order s t ≡ Equal = rw (a, b, c)
    (rw (itself s.own, itself s.player, itself s.var) refl) in
    absurd cc

apart_of : (ts : List CrossTerm) → AllPairs (λ s t. cross_order s t ≡ Less) ts → AreApart ts
apart_of [] h = tt
apart_of (t ∷ ts) h = (
  each_of_all (IsElse t) ts (λ k d below. distinct t (get_or ts k d)
      (h 0 (suc k) d (omega arith) (omega arith))),
  apart_of ts (λ i j d less below. h (suc i) (suc j) d (omega arith) (omega arith)),
)

pub player_is : (game : GameOf) (i : ℕ) → i < length game → IsPlayer game i (player_at game i)
player_is [] i h = absurd (omega arith)
player_is (p ∷ ps) zero h = refl
player_is (p ∷ ps) (suc i) h = player_is ps i (omega arith)

pub player_at_is : (game : GameOf) (i : ℕ) (player : PlayerOf) → IsPlayer game i player
    → player_at game i ≡ player
player_at_is [] i player e = absurd cc
player_at_is (p ∷ ps) zero player e = cc
player_at_is (p ∷ ps) (suc i) player e = player_at_is ps i player e

module _ (game : GameOf) (form : IsGame game) (profile : Profile) (n : ℤ) (z : ℕ → ℕ → ℤ)
    (means : (k : ℕ) → k < length game → (u : ℕ)
    → Worth n (mean (strategy_of profile k) u) (z k u)) where
  abbrev pub slopes_of : ℕ → ℕ → ℤ
  slopes_of i v =
      own_number game i v *ℤ n +ℤ sum_to (length game)
      (λ k. sum_to (var_count game k) (λ u. cross_number game i v k u *ℤ z k u))

  module _ (i : ℕ) (below : i < length game) where
    rules : IsPlayerForm game i (player_at game i)
    rules = form.players i (player_at game i) (player_is game i below)

    within : Each (IsWithin (length game) (λ k. var_count game k) z 0) (player_at game i).cross
    within =
        each_weaker (IsCrossForm game i (length (player_at game i).vars))
        (IsWithin (length game) (λ k. var_count game k) z 0) (player_at game i).cross
        (λ t f. (f.player, f.var (player_at game t.player) (player_is game t.player f.player)))
        (each_of_all (IsCrossForm game i (length (player_at game i).vars))
        (player_at game i).cross rules.cross)

    pub worth-slope_of : (v : ℕ) → Worth n (slope (player_at game i) profile v) (slopes_of i v)
    worth-slope_of v =
        let cross = (player_at game i).cross in
        let P = IsWithin (length game) (λ k. var_count game k) z 0 in
        let own = λ (t : CrossTerm). t.own == v in
        let sum = worth-sum n P (filter own cross)
        (λ t. times (whole t.coef) (mean (strategy_of profile t.player) t.var))
        (λ t. t.coef *ℤ z t.player t.var) (λ t w. worth-multiple n t.coef
        (mean (strategy_of profile t.player) t.var) (z t.player t.var)
        (means t.player w.0 t.var)) (each_filter P own cross within) in
        let e = cross_dense (length game) (λ k. var_count game k) z v cross
        (apart_of cross rules.cross_ascends) within in
        worth-plus n (whole (own_number game i v))
        (sum_over (filter own cross) (λ t. times (whole t.coef)
        (mean (strategy_of profile t.player) t.var))) (own_number game i v *ℤ n)
        (sum_to (length game) (λ k. sum_to (var_count game k)
        (λ u. cross_number game i v k u *ℤ z k u))) (worth-whole n (own_number game i v))
        (subst (λ (a : ℤ). Worth n (sum_over (filter own cross)
        (λ t. times (whole t.coef) (mean (strategy_of profile t.player) t.var))) a) e sum)
