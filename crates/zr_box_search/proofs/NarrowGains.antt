-- No step of a whole point's test, or of its least gain in a box with ranges, is too wide.
use Rattle.std.proofs.Common.{◌≡◌, ℕ, zero, suc, ◌+◌, ◌*◌, ◌^◌, ◌<◌, ◌≤◌, ◌==◌, arith, refl, sym, ap, ◌∙◌, subst, ℤ, pos, neg_ℤ, ◌+ℤ◌, ◌-ℤ◌, ◌*ℤ◌, int_le, int_lt, Bool, true, false, cond, Option, Some, None, Result, Ok, List, [], ◌∷◌, map, length, get_or, slice_get}
use Rattle.std.specs.List.{filter}
use Rattle.std.proofs.lemmas.Int.{ints}
use Rattle.zr_base.specs.declared.step.Wide.{Wide}
use Rattle.zr_base.specs.Points.{PointOf, num_of}
use Rattle.zr_base.specs.Rows.{RowOf, products}
use Rattle.zr_base.specs.Steps.{IsNarrow, cross_of, ◌>>=◌}
use Rattle.zr_base.specs.Sums.{sum_step, sum_steps}
use Rattle.zr_base.specs.Terms.{AscendWith, Terms, coef_at}
use Rattle.zr_base.specs.Tests.{first_wide, or_else, wide_in}
use Rattle.zr_base.proofs.CrossLaws.{cross_is}
use Rattle.zr_base.proofs.Members.{each_filter, each_of_all}
use Rattle.zr_base.proofs.Worth.{Each}
use Rattle.zr_game.specs.declared.player.CrossTerm.{CrossTerm}
use Rattle.zr_game.specs.Players.{GameOf, PlayerOf, VarOf}
use Rattle.zr_game.specs.FeasibleSteps.{bound_wide, feasible_wide, pair_wide, row_wide, var_wide}
use Rattle.zr_game.specs.Forms.{IsCoefficient, IsGame, IsNumber, IsPlayer, IsRowForm, IsVarForm}
use Rattle.zr_bnb.proofs.Directions.{all_get}
use Rattle.zr_boxes.specs.Boxes.{BoxOf}
use Rattle.zr_boxes.specs.Gains.{counts}
use Rattle.zr_boxes.specs.GainSteps.{gain_steps, next_gain, product_steps, slope_range_steps, var_steps, way_range_steps}
use Rattle.zr_boxes.specs.Ranges.{lesser_of, range_of}
use Rattle.zr_box_search.specs.Sides.{end_of, end_pairs, high_end, low_end}
use Rattle.zr_box_search.specs.Sizes.{IsNearPlayer, IsNearPoint, IsNearTerm, IsUpTo, number_size, part_size, product_size, slope_size}
use Rattle.zr_box_search.specs.Whole.{IsBoxGame}
use Rattle.zr_box_search.proofs.Bounding.{number_up, product_up, sum_up}

-- the steps come to a number of this size
abbrev Made : Result ℤ Wide → ℕ → Type 0
Made r n = (z : ℤ) × (r ≡ Ok z) × IsUpTo n z

-- two computations, and what is made of both
both_made : {A B C : Type 0} (f : A → B → Result C Wide) (r : Result A Wide) (s : Result B Wide)
    (a : A) (b : B) → r ≡ Ok a → s ≡ Ok b → (r >>= λ x. s >>= λ y. f x y) ≡ f a b
both_made f r s a b e g = rw (e, g) refl

-- ---- single steps

step_made : (s : ℤ) (t : ℤ × ℤ) (m n : ℕ) → IsUpTo n s → IsUpTo m (t.0 *ℤ t.1) → n + m < 2 ^ 127
    → Made (sum_step s t) (n + m)
step_made s t m n own more few =
    let one : neg_ℤ s *ℤ pos 1 ≡ neg_ℤ s = omega (arith, ints) in
    let e : t.0 *ℤ t.1 -ℤ neg_ℤ s *ℤ pos 1 ≡ s +ℤ t.0 *ℤ t.1 = omega (arith, ints, one) in
    let size = sum_up n m s (t.0 *ℤ t.1) own more in (
      s +ℤ t.0 *ℤ t.1,
      subst (λ (z : ℤ). cross_of t (neg_ℤ s, pos 1) ≡ Ok z) e
          (cross_is t (neg_ℤ s, pos 1) (omega (arith, more, few))
          (subst IsNarrow (sym one) (omega (arith, ints, own, few)))
          (subst IsNarrow (sym e) (omega (arith, size, few)))),
      size,
    )

alone_made : (a b : ℤ) (n : ℕ) → IsUpTo n (a *ℤ b) → n < 2 ^ 127
    → Made (cross_of (a, b) (pos 0, pos 0)) n
alone_made a b n size few =
    let e : a *ℤ b -ℤ pos 0 *ℤ pos 0 ≡ a *ℤ b = omega (arith, ints) in (
      a *ℤ b,
      subst (λ (z : ℤ). cross_of (a, b) (pos 0, pos 0) ≡ Ok z) e
          (cross_is (a, b) (pos 0, pos 0) (omega (arith, size, few)) (omega arith)
          (subst IsNarrow (sym e) (omega (arith, size, few)))),
      size,
    )

abbrev IsSmall : ℤ × ℤ → Type 0
IsSmall t = IsUpTo product_size (t.0 *ℤ t.1)

sum_made : (n : ℕ) (ts : List (ℤ × ℤ)) (s : ℤ) → Each IsSmall ts → IsUpTo n s
    → n + length ts * product_size < 2 ^ 127
    → Made (sum_steps s ts) (n + length ts * product_size)
sum_made n [] s all own few = (s, refl, omega (arith, own))
sum_made n (t ∷ ts) s all own few =
    let first = step_made s t product_size n own all.0 (omega (arith, few)) in
    let rest = sum_made (n + product_size) ts first.0 all.1 first.2 (omega (arith, few)) in
    let size = rest.2 in (
      rest.0,
      ap (λ (r : Result ℤ Wide). r >>= λ z. sum_steps z ts) first.1 ∙ rest.1,
      omega (arith, size),
    )

-- ---- a point's test

few_terms : (P : ℤ → Type 0) (low columns : ℕ) (ts : Terms) → AscendWith P low columns ts
    → low ≤ columns → low + length ts ≤ columns
few_terms P low columns [] h few = omega (arith, few)
few_terms P low columns (t ∷ ts) h few =
    let a = h.0 in
    let b = h.1 in
    let r = few_terms P (t.0 + 1) columns ts h.3 (omega (arith, b)) in
    omega (arith, a, r)

small_products : (num : List ℤ) (columns low : ℕ) (ts : Terms)
    → AscendWith IsCoefficient low columns ts
    → ((v : ℕ) → v < columns → IsUpTo number_size (get_or num v (pos 0)))
    → Each IsSmall (products ts num)
small_products num columns low [] h near = tt
small_products num columns low (t ∷ ts) h near = (
  product_up number_size number_size t.1 (get_or num t.0 (pos 0)) (number_up t.1 h.2.0)
      (near t.0 h.1),
  small_products num columns (t.0 + 1) ts h.3 near,
)

products_length : (num : List ℤ) (ts : Terms) → length (products ts num) ≡ length ts
products_length num [] = refl
products_length num (t ∷ ts) = ap suc (products_length num ts)

none_wide : {A : Type 0} (f : A → Option Wide) (xs : List A)
    → ((k : ℕ) (x : A) → slice_get xs k ≡ Some x → f x ≡ None) → first_wide f xs ≡ None
none_wide f [] h = refl
none_wide f (x ∷ xs) h =
    ap (λ (o : Option Wide). or_else o (first_wide f xs)) (h 0 x refl)
    ∙ none_wide f xs (λ k y e. h (suc k) y e)

module _ (d : ℤ) (one : d ≡ pos 1) where
  by_one : (z : ℤ) → z *ℤ d ≡ z
  by_one z = ap (λ (k : ℤ). z *ℤ k) one ∙ omega (arith, ints)

  number_made : (z : ℤ) → IsNumber z → Made (cross_of (z, d) (pos 0, pos 0)) number_size
  number_made z h =
      alone_made z d number_size
      (subst (IsUpTo number_size) (sym (by_one z)) (number_up z h)) (omega arith)

  bound_none : (o : Option ℤ) → ((z : ℤ) → o ≡ Some z → IsNumber z) → bound_wide d o ≡ None
  bound_none None h = refl
  bound_none (Some z) h = ap wide_in (number_made z (h z refl)).1

module _ (player : PlayerOf) (x : PointOf) (near : IsNearPoint player x) where
  row_none : (row : RowOf) → IsRowForm (length player.vars) row → length player.vars ≤ 64
      → row_wide x row ≡ None
  row_none row form few =
      let n = few_terms IsCoefficient 0 (length player.vars) row.coef form.coef (omega arith) in
      let m = products_length x.num row.coef in
      let left = sum_made 0 (products row.coef x.num) (pos 0)
      (small_products x.num (length player.vars) 0 row.coef form.coef near.size) (omega arith)
      (omega (arith, n, m, few)) in
      let right = number_made x.den near.whole row.le form.le in
      ap wide_in (ap (λ (r : Result ℤ Wide). r >>= λ l.
      cross_of (row.le, x.den) (pos 0, pos 0) >>= λ r. Ok (int_le l r)) left.1
      ∙ ap (λ (r : Result ℤ Wide). r >>= λ z. Ok (int_le left.0 z)) right.1)

module _ (game : GameOf) (sound : IsGame game) (whole : IsBoxGame game) (i : ℕ)
    (player : PlayerOf) (is : IsPlayer game i player) (x : PointOf)
    (near : IsNearPoint player x) where
  pub test_none : feasible_wide player x ≡ None
  test_none =
      let form = sound.players i player is in
      let vars = none_wide (var_wide x.den) player.vars
      (λ k var e. var_none var (all_get IsVarForm player.vars k var form.vars e)) in
      let rows = none_wide (row_wide x) player.rows
      (λ k row e. row_none player x near row
      (all_get (IsRowForm (length player.vars)) player.rows k row form.rows e) form.var_count) in
      let pairs = ap (first_wide (pair_wide x)) (whole i player is).pairs in
      ap (λ (o : Option Wide). or_else o
      (or_else (first_wide (row_wide x) player.rows) (first_wide (pair_wide x) player.pairs))) vars
      ∙ ap (λ (o : Option Wide). or_else o (first_wide (pair_wide x) player.pairs)) rows ∙ pairs
    where
      var_none : (var : VarOf) → IsVarForm var → var_wide x.den var ≡ None
      var_none var form =
          ap (λ (o : Option Wide). or_else o (bound_wide x.den var.up))
          (bound_none x.den near.whole var.low form.low)
          ∙ bound_none x.den near.whole var.up form.up

-- ---- a gain

lesser_up : (n : ℕ) (a b : ℤ) → IsUpTo n a → IsUpTo n b → IsUpTo n (lesser_of a b)
lesser_up n a b p q = which (int_lt b a)
  where
    which : (t : Bool) → IsUpTo n (cond t b a)
    which true = q
    which false = p

module _ (player : PlayerOf) (i : ℕ) (box : BoxOf) (near : IsNearPlayer player i box) where
  -- an end of a range is within the limit
  abbrev IsEnd : (ℤ → ℤ → ℤ → ℤ) → Type 0
  IsEnd end = (a low high : ℤ) → IsUpTo number_size low → IsUpTo number_size high
      → IsUpTo number_size (end a low high)

  lows : IsEnd low_end
  lows a low high l h = pick (int_lt (a *ℤ high) (a *ℤ low))
    where
      pick : (b : Bool) → IsUpTo number_size (cond b high low)
      pick true = h
      pick false = l

  highs : IsEnd high_end
  highs a low high l h = pick (int_lt (a *ℤ low) (a *ℤ high))
    where
      pick : (b : Bool) → IsUpTo number_size (cond b high low)
      pick true = h
      pick false = l

  small_ends : (end : ℤ → ℤ → ℤ → ℤ) → IsEnd end → (ts : List CrossTerm)
      → Each (IsNearTerm box) ts → Each IsSmall (map (λ t. (t.coef, end_of end box t)) ts)
  small_ends end is [] h = tt
  small_ends end is (t ∷ ts) h = (
    product_up number_size number_size t.coef (end_of end box t) h.0.coef
        (is t.coef (range_of box t.player t.var).low (range_of box t.player t.var).high
        h.0.other.low h.0.other.high),
    small_ends end is ts h.1,
  )

  map_length : {A B : Type 0} (f : A → B) (xs : List A) → length (map f xs) ≡ length xs
  map_length f [] = refl
  map_length f (x ∷ xs) = ap suc (map_length f xs)

  filter_length : {A : Type 0} (p : A → Bool) (xs : List A) → length (filter p xs) ≤ length xs
  filter_length p [] = omega arith
  filter_length p (x ∷ xs) = which (p x) (filter_length p xs)
    where
      which : (b : Bool) → length (filter p xs) ≤ length xs
          → length (cond b (x ∷ filter p xs) (filter p xs)) ≤ suc (length xs)
      which true h = omega (arith, h)
      which false h = omega (arith, h)

  slope_end : (end : ℤ → ℤ → ℤ → ℤ) → IsEnd end → (v : ℕ)
      → Made (sum_steps (coef_at player.cost v) (end_pairs end box v player.cross)) slope_size
  slope_end end is v =
      let own = filter (λ (t : CrossTerm). t.own == v) player.cross in
      let m = map_length {B = ℤ × ℤ} (λ (t : CrossTerm). (t.coef, end_of end box t)) own in
      let f = filter_length (λ (t : CrossTerm). t.own == v) player.cross in
      let few = near.few in
      let s = sum_made number_size (end_pairs end box v player.cross) (coef_at player.cost v)
      (small_ends end is own
      (each_filter (IsNearTerm box) (λ (t : CrossTerm). t.own == v) player.cross
      (each_of_all (IsNearTerm box) player.cross near.cross)))
      (near.cost v) (omega (arith, m, f, few)) in
      let size = s.2 in
      (s.0, s.1, omega (arith, m, f, few, size))

  slope_made : (v : ℕ) → (l : ℤ) × (h : ℤ)
      × (slope_range_steps player box v ≡ Ok (record { low = l; high = h }))
      × IsUpTo slope_size l × IsUpTo slope_size h
  slope_made v =
      let l = slope_end low_end lows v in
      let h = slope_end high_end highs v in (
        l.0,
        h.0,
        both_made (λ x y. Ok (record { low = x; high = y }))
            (sum_steps (coef_at player.cost v) (end_pairs low_end box v player.cross))
            (sum_steps (coef_at player.cost v) (end_pairs high_end box v player.cross))
            l.0 h.0 l.1 h.1,
        l.2,
        h.2,
      )

  module _ (x : PointOf) (point : IsNearPoint player x) where
    way_end : (p z : ℤ) → IsUpTo number_size p → IsUpTo number_size z
        → Made (sum_step (neg_ℤ p) (x.den, z)) (2 * number_size)
    way_end p z hp hz =
        let one = point.whole in
        let e : x.den *ℤ z ≡ z = ap (λ (k : ℤ). k *ℤ z) one ∙ omega (arith, ints) in
        let s = step_made (neg_ℤ p) (x.den, z) number_size number_size (omega (arith, ints, hp))
        (subst (IsUpTo number_size) (sym e) hz) (omega arith) in
        let size = s.2 in
        (s.0, s.1, omega (arith, size))

    way_made : (v : ℕ) → v < length player.vars → (l : ℤ) × (h : ℤ)
        × (way_range_steps x.den (num_of x v) (range_of box i v) ≡ Ok (record { low = l; high = h }))
        × IsUpTo (2 * number_size) l × IsUpTo (2 * number_size) h
    way_made v h =
        let l = way_end (num_of x v) (range_of box i v).low (point.size v h) (near.own v h).low in
        let u = way_end (num_of x v) (range_of box i v).high (point.size v h) (near.own v h).high in (
          l.0,
          u.0,
          both_made (λ y z. Ok (record { low = y; high = z }))
              (sum_step (neg_ℤ (num_of x v)) (x.den, (range_of box i v).low))
              (sum_step (neg_ℤ (num_of x v)) (x.den, (range_of box i v).high))
              l.0 u.0 l.1 u.1,
          l.2,
          u.2,
        )

    product_made : (p q s t : ℤ) → IsUpTo (2 * number_size) p → IsUpTo (2 * number_size) q
        → IsUpTo slope_size s → IsUpTo slope_size t
        → Made (product_steps (record { low = p; high = q }) (record { low = s; high = t })) part_size
    product_made p q s t rl rh sl sh =
        let a = one p s rl sl in
        let b = one p t rl sh in
        let c = one q s rh sl in
        let d = one q t rh sh in (
          lesser_of (lesser_of a.0 b.0) (lesser_of c.0 d.0),
          rw (a.1, b.1, c.1, d.1) refl,
          lesser_up part_size (lesser_of a.0 b.0) (lesser_of c.0 d.0)
              (lesser_up part_size a.0 b.0 a.2 b.2) (lesser_up part_size c.0 d.0 c.2 d.2),
        )
      where
        one : (y z : ℤ) → IsUpTo (2 * number_size) y → IsUpTo slope_size z
            → Made (cross_of (y, z) (pos 0, pos 0)) part_size
        one y z hy hz =
            let size = product_up (2 * number_size) slope_size y z hy hz in
            alone_made y z part_size (omega (arith, size)) (omega arith)

    part_made : (v : ℕ) → v < length player.vars → Made (var_steps player i box x v) part_size
    part_made v h =
        let w = way_made v h in
        let s = slope_made v in
        let p = product_made w.0 w.1 s.0 s.1 w.3 w.4 s.3 s.4 in (
          p.0,
          both_made product_steps (way_range_steps x.den (num_of x v) (range_of box i v))
              (slope_range_steps player box v) (record { low = w.0; high = w.1 })
              (record { low = s.0; high = s.1 }) w.2 s.2 ∙ p.1,
          p.2,
        )

    next_made : (v : ℕ) → v < length player.vars → (n : ℕ) → n + part_size < 2 ^ 127
        → (gain : ℤ) → IsUpTo n gain → Made (next_gain player i box x gain v) (n + part_size)
    next_made v h n few gain size = which (counts player v)
      where
        which : (b : Bool) → Made (cond b
            (var_steps player i box x v >>= λ least. sum_step gain (least, pos 1)) (Ok gain))
            (n + part_size)
        which true =
            let p = part_made v h in
            let e : p.0 *ℤ pos 1 ≡ p.0 = omega (arith, ints) in
            let s = step_made gain (p.0, pos 1) part_size n size
            (subst (IsUpTo part_size) (sym e) p.2) few in (
              s.0,
              ap (λ (r : Result ℤ Wide). r >>= λ least. sum_step gain (least, pos 1)) p.1 ∙ s.1,
              s.2,
            )
        which false = (gain, refl, omega (arith, size))

    gain_from : (n v : ℕ) (gain : ℤ) → v + n ≤ length player.vars → IsUpTo (v * part_size) gain
        → (z : ℤ) × (gain_steps player i box x gain v n ≡ Ok z)
    gain_from zero v gain within size = (gain, refl)
    gain_from (suc n) v gain within size =
        let few = near.var_count in
        let next = next_made v (omega (arith, within)) (v * part_size)
        (omega (arith, within, few)) gain size in
        let s = next.2 in
        let rest = gain_from n (suc v) next.0 (omega (arith, within)) (omega (arith, s)) in (
          rest.0,
          ap (λ (r : Result ℤ Wide). r >>= λ more. gain_steps player i box x more (suc v) n) next.1
              ∙ rest.1,
        )

    pub gain_made : (z : ℤ) × (gain_steps player i box x (pos 0) 0 (length player.vars) ≡ Ok z)
    gain_made = gain_from (length player.vars) 0 (pos 0) (omega arith) (omega arith)
