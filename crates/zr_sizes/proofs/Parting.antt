-- A leaf's choices: a split or a choice of a pair parts them in two.
use Rattle.std.proofs.Common.{◌≡◌, ◌≢◌, ℕ, ◌*◌, ◌<◌, ◌≤◌, ◌==◌, arith, refl, sym, ap, ap₂, ◌∙◌, ℤ, pos, negsuc, ◌+ℤ◌, ◌-ℤ◌, ◌≤ℤ◌, ◌<ℤ◌, int_le, Bool, true, false, if◌then◌else◌, Option, Some, None, length, slice_get, mul_assoc, mul_left_comm, ⊎_elim}
use Rattle.std.proofs.Math.Path.{fun_ext}
use Rattle.std.proofs.lemmas.Bool.{cases_eq}
use Rattle.std.proofs.lemmas.Bool.Decides.{nat_tests}
use Rattle.std.proofs.lemmas.Int.{ints}
use Rattle.std.proofs.lemmas.Option.{slice_get_within}
use Rattle.zr_game.specs.Players.{PlayerOf, VarOf}
use Rattle.zr_game.specs.Leaves.{IsOpenPair, LeafOf, above, below, decided, greater, lesser}
use Rattle.zr_game.specs.declared.leaf.Side.{Side}
use Rattle.zr_game.specs.declared.leaf.Side.TheVariants.{Undecided, VarZero, RowZero}
use Rattle.zr_asked.specs.Paths.{IsSplit}
use Rattle.zr_sizes.specs.Sizes.{natural_of, value_count}
use Rattle.zr_sizes.proofs.Products.{IsParted, factor_apart, parted, product, without, without_same}

natural_is : (z : ℤ) → (pos 0) ≤ℤ z → pos (natural_of z) ≡ z
natural_is (pos n) h = refl
natural_is (negsuc n) h = absurd (omega (arith, ints, h))

is_le : (a b : ℤ) → a ≤ℤ b → int_le a b ≡ true
is_le a b h = by (int_le a b) refl
  where
    by : (t : Bool) → int_le a b ≡ t → int_le a b ≡ true
    by true e = e
    by false e = absurd (omega (arith, ints, e, h))

not_le : (a b : ℤ) → b <ℤ a → int_le a b ≡ false
not_le a b h = by (int_le a b) refl
  where
    by : (t : Bool) → int_le a b ≡ t → int_le a b ≡ false
    by true e = absurd (omega (arith, ints, e, h))
    by false e = e

-- the whole numbers from l to h are those to `at` and those after it
range_parts : (l h at : ℤ) → l ≤ℤ at → at <ℤ h
    → IsParted (value_count (Some l) (Some h)) (value_count (Some l) (Some at))
    (value_count (Some (at +ℤ pos 1)) (Some h))
range_parts l h at low high =
    let a = natural_is (h -ℤ l +ℤ pos 1) (omega (arith, ints, low, high)) in
    let b = natural_is (at -ℤ l +ℤ pos 1) (omega (arith, ints, low)) in
    let c = natural_is (h -ℤ (at +ℤ pos 1) +ℤ pos 1) (omega (arith, ints, high)) in
    record {
      sum = omega (arith, ints, a, b, c);
      first_some = omega (arith, ints, low, b);
      second_some = omega (arith, ints, high, c);
    }

-- a range that isn't empty
pub range_some : (l h : ℤ) → l ≤ℤ h → 1 ≤ value_count (Some l) (Some h)
range_some l h p =
    let a = natural_is (h -ℤ l +ℤ pos 1) (omega (arith, ints, p)) in omega (arith, ints, p, a)

module _ (leaf : LeafOf) (v : ℕ) (at : ℤ) where
  -- a low bound above `at` stays
  greater_is : (l : ℤ) → (at +ℤ pos 1) ≤ℤ l → greater (Some l) (at +ℤ pos 1) ≡ l
  greater_is l p = by (int_le l (at +ℤ pos 1)) refl
    where
      by : (b : Bool) → int_le l (at +ℤ pos 1) ≡ b
          → (if int_le l (at +ℤ pos 1) then (at +ℤ pos 1) else l) ≡ l
      by true t = rw t (omega (arith, ints, t, p))
      by false t = rw t refl

  unchanged_below : (h : ℤ) → leaf.high v ≡ Some h → int_le h at ≡ true → below leaf v at ≡ leaf
  unchanged_below h e t = ap (λ (f : ℕ → Option ℤ). record leaf { high = f }) (fun_ext same)
    where
      same : (w : ℕ) → (if v == w then Some (lesser (leaf.high w) at) else leaf.high w)
          ≡ leaf.high w
      same w = ⊎_elim (λ (c : v ≡ w). here c) (λ (c : v ≢ w). there c) (cases_eq v w)
        where
          here : v ≡ w → (if v == w then Some (lesser (leaf.high w) at) else leaf.high w)
              ≡ leaf.high w
          here c =
              let b : (v == w) ≡ true = grind (arith, nat_tests) in
              let g : leaf.high w ≡ Some h = ap leaf.high (sym c) ∙ e in
              rw (b, g, t) refl

          there : v ≢ w → (if v == w then Some (lesser (leaf.high w) at) else leaf.high w)
              ≡ leaf.high w
          there c = let b : (v == w) ≡ false = grind (arith, nat_tests) in rw b refl

  unchanged_above : (l : ℤ) → leaf.low v ≡ Some l → (at +ℤ pos 1) ≤ℤ l → above leaf v at ≡ leaf
  unchanged_above l e p = ap (λ (f : ℕ → Option ℤ). record leaf { low = f }) (fun_ext same)
    where
      same : (w : ℕ) → (if v == w then Some (greater (leaf.low w) (at +ℤ pos 1)) else leaf.low w)
          ≡ leaf.low w
      same w = ⊎_elim (λ (c : v ≡ w). here c) (λ (c : v ≢ w). there c) (cases_eq v w)
        where
          here : v ≡ w → (if v == w then Some (greater (leaf.low w) (at +ℤ pos 1)) else leaf.low w)
              ≡ leaf.low w
          here c =
              let b : (v == w) ≡ true = grind (arith, nat_tests) in
              let g : leaf.low w ≡ Some l = ap leaf.low (sym c) ∙ e in
              rw (b, g) (ap (λ (z : ℤ). Some z) (greater_is l p))

          there : v ≢ w → (if v == w then Some (greater (leaf.low w) (at +ℤ pos 1)) else leaf.low w)
              ≡ leaf.low w
          there c = let b : (v == w) ≡ false = grind (arith, nat_tests) in rw b refl

-- the sides that a pair may still have
abbrev pub side_count : Side → ℕ
side_count Undecided = 2
side_count VarZero = 1
side_count RowZero = 1

-- the values that a variable may still have, which counts as one where it isn't whole
abbrev pub values_left : Option VarOf → Option ℤ → Option ℤ → ℕ
values_left None low high = 1
values_left (Some var) low high = if var.whole then value_count low high else 1

-- of a whole variable whose bounds are known
whole_values : (o : Option VarOf) (var : VarOf) (low high : Option ℤ) (l h : ℤ) → o ≡ Some var
    → var.whole ≡ true → low ≡ Some l → high ≡ Some h
    → values_left o low high ≡ value_count (Some l) (Some h)
whole_values o var low high l h e w p q = rw (e, p, q) (by var.whole w)
  where
    by : (b : Bool) → b ≡ true
        → (if b then value_count (Some l) (Some h) else 1) ≡ value_count (Some l) (Some h)
    by true t = refl
    by false t = absurd cc

module _ (player : PlayerOf) where
  abbrev pub side_choices : (ℕ → Side) → ℕ
  side_choices side = product (length player.pairs) (λ p. side_count (side p))

  abbrev pub values_at : (ℕ → Option ℤ) → (ℕ → Option ℤ) → ℕ → ℕ
  values_at low high v = values_left (slice_get player.vars v) (low v) (high v)

  abbrev pub range_choices : (ℕ → Option ℤ) → (ℕ → Option ℤ) → ℕ
  range_choices low high = product (length player.vars) (values_at low high)

  abbrev pub choices_at : LeafOf → ℕ
  choices_at leaf = side_choices leaf.side * range_choices leaf.low leaf.high

  -- each whole variable has both bounds at the leaf
  abbrev pub IsBoundedAt : LeafOf → Type 0
  IsBoundedAt leaf =
      (v : ℕ) (var : VarOf) → slice_get player.vars v ≡ Some var → var.whole ≡ true
      → (l h : ℤ) × (leaf.low v ≡ Some l) × (leaf.high v ≡ Some h)

  module _ (leaf : LeafOf) (v : ℕ) (at : ℤ) (split : IsSplit player leaf v at)
      (bounded : IsBoundedAt leaf) where
    abbrev var : VarOf
    var = split.whole.0

    abbrev l : ℤ
    l = (bounded v var split.whole.1 split.whole.2).0

    abbrev h : ℤ
    h = (bounded v var split.whole.1 split.whole.2).1

    low_is : leaf.low v ≡ Some l
    low_is = (bounded v var split.whole.1 split.whole.2).2

    high_is : leaf.high v ≡ Some h
    high_is = (bounded v var split.whole.1 split.whole.2).3

    below_high : at <ℤ h
    below_high = by (int_le h at) refl
      where
        by : (b : Bool) → int_le h at ≡ b → at <ℤ h
        by true t = absurd (split.low (unchanged_below leaf v at h high_is t))
        by false t = omega (arith, ints, t)

    from_low : l ≤ℤ at
    from_low = by (int_le l at) refl
      where
        by : (b : Bool) → int_le l at ≡ b → l ≤ℤ at
        by true t = omega (arith, ints, t)
        by false t =
            absurd (split.high (unchanged_above leaf v at l low_is (omega (arith, ints, t))))

    itself : (v == v) ≡ true
    itself = grind (arith, nat_tests)

    apart : (w : ℕ) → w ≢ v → (v == w) ≡ false
    apart w c = grind (arith, nat_tests)

    at_leaf : values_at leaf.low leaf.high v ≡ value_count (Some l) (Some h)
    at_leaf =
        whole_values (slice_get player.vars v) var (leaf.low v) (leaf.high v) l h split.whole.1
        split.whole.2 low_is high_is

    new_high : (below leaf v at).high v ≡ Some at
    new_high =
        let p = below_high in
        let t : int_le h at ≡ false = not_le h at p in
        rw (itself, high_is, t) refl

    new_low : (above leaf v at).low v ≡ Some (at +ℤ pos 1)
    new_low =
        let p = from_low in
        let t : int_le l (at +ℤ pos 1) ≡ true = is_le l (at +ℤ pos 1) (omega (arith, ints, p)) in
        rw (itself, low_is, t) refl

    at_below : values_at leaf.low (below leaf v at).high v ≡ value_count (Some l) (Some at)
    at_below =
        whole_values (slice_get player.vars v) var (leaf.low v) ((below leaf v at).high v) l at
        split.whole.1 split.whole.2 low_is new_high

    at_above : values_at (above leaf v at).low leaf.high v
        ≡ value_count (Some (at +ℤ pos 1)) (Some h)
    at_above =
        whole_values (slice_get player.vars v) var ((above leaf v at).low v) (leaf.high v)
        (at +ℤ pos 1) h split.whole.1 split.whole.2 new_low high_is

    others_below : (w : ℕ) → w < length player.vars → w ≢ v
        → values_at leaf.low leaf.high w ≡ values_at leaf.low (below leaf v at).high w
    others_below w q c = let t = apart w c in rw t refl

    others_above : (w : ℕ) → w < length player.vars → w ≢ v
        → values_at leaf.low leaf.high w ≡ values_at (above leaf v at).low leaf.high w
    others_above w q c = let t = apart w c in rw t refl

    inside : v < length player.vars
    inside = slice_get_within player.vars v var split.whole.1

    abbrev rest : ℕ
    rest = side_choices leaf.side
        * without (length player.vars) v (values_at leaf.low leaf.high)

    -- the choices of a leaf that differs at the variable alone
    by_factor : (low high : ℕ → Option ℤ) (m : ℕ) → values_at low high v ≡ m
        → ((w : ℕ) → w < length player.vars → w ≢ v
        → values_at leaf.low leaf.high w ≡ values_at low high w)
        → side_choices leaf.side * range_choices low high ≡ m * rest
    by_factor low high m e same =
        let a = factor_apart (length player.vars) v (values_at low high) inside in
        let b = without_same (length player.vars) v (values_at leaf.low leaf.high)
        (values_at low high) same in
        ap (λ n. side_choices leaf.side * n) (a ∙ ap₂ ◌*◌ e (sym b))
        ∙ mul_left_comm (side_choices leaf.side) m
        (without (length player.vars) v (values_at leaf.low leaf.high))

    pub split_parts : 1 ≤ choices_at leaf
        → IsParted (choices_at leaf) (choices_at (below leaf v at)) (choices_at (above leaf v at))
    split_parts some =
        let a = by_factor leaf.low leaf.high (value_count (Some l) (Some h)) at_leaf
        (λ w q c. refl) in
        let b = by_factor leaf.low (below leaf v at).high (value_count (Some l) (Some at)) at_below
        others_below in
        let c = by_factor (above leaf v at).low leaf.high
        (value_count (Some (at +ℤ pos 1)) (Some h)) at_above others_above in
        rw (a, b, c) (parted (value_count (Some l) (Some h)) (value_count (Some l) (Some at))
        (value_count (Some (at +ℤ pos 1)) (Some h)) rest (range_parts l h at from_low below_high)
        (rw a at some))

    pub bounded_below : IsBoundedAt (below leaf v at)
    bounded_below w x e t =
        let r = bounded w x e t in
        by (v == w) (lesser (leaf.high w) at) r.0 r.1 r.2 r.3
      where
        by : (b : Bool) (z l h : ℤ) → leaf.low w ≡ Some l → leaf.high w ≡ Some h
            → (l h : ℤ) × (leaf.low w ≡ Some l)
            × ((if b then Some z else leaf.high w) ≡ Some h)
        by true z l h p q = (l, z, p, refl)
        by false z l h p q = (l, h, p, q)

    pub bounded_above : IsBoundedAt (above leaf v at)
    bounded_above w x e t =
        let r = bounded w x e t in
        by (v == w) (greater (leaf.low w) (at +ℤ pos 1)) r.0 r.1 r.2 r.3
      where
        by : (b : Bool) (z l h : ℤ) → leaf.low w ≡ Some l → leaf.high w ≡ Some h
            → (l h : ℤ) × ((if b then Some z else leaf.low w) ≡ Some l)
            × (leaf.high w ≡ Some h)
        by true z l h p q = (z, h, refl, q)
        by false z l h p q = (l, h, p, q)

  module _ (leaf : LeafOf) (p : ℕ) (open_is : IsOpenPair player leaf p) where
    abbrev other_sides : ℕ
    other_sides = without (length player.pairs) p (λ q. side_count (leaf.side q))

    of_sides : (side : Side) (m : ℕ) → side_count side ≡ m
        → side_choices (decided leaf p side).side ≡ m * other_sides
    of_sides side m e =
        let f = λ (q : ℕ). side_count ((decided leaf p side).side q) in
        let t : (p == p) ≡ true = grind (arith, nat_tests) in
        let here : f p ≡ m = rw t e in
        factor_apart (length player.pairs) p f open_is.0
        ∙ ap₂ ◌*◌ here (sym (without_same (length player.pairs) p (λ q. side_count (leaf.side q)) f
        (λ q h c. same q c)))
      where
        same : (q : ℕ) → q ≢ p
            → side_count (leaf.side q) ≡ side_count ((decided leaf p side).side q)
        same q c = let t : (p == q) ≡ false = grind (arith, nat_tests) in rw t refl

    own_sides : side_choices leaf.side ≡ 2 * other_sides
    own_sides =
        factor_apart (length player.pairs) p (λ q. side_count (leaf.side q)) open_is.0
        ∙ ap (λ m. m * other_sides) (ap side_count open_is.1)

    by_side : (side : ℕ → Side) (m : ℕ) → side_choices side ≡ m * other_sides
        → side_choices side * range_choices leaf.low leaf.high
        ≡ m * (other_sides * range_choices leaf.low leaf.high)
    by_side side m e =
        ap (λ n. n * range_choices leaf.low leaf.high) e
        ∙ mul_assoc m other_sides (range_choices leaf.low leaf.high)

    pub choose_parts : 1 ≤ choices_at leaf
        → IsParted (choices_at leaf) (choices_at (decided leaf p VarZero))
        (choices_at (decided leaf p RowZero))
    choose_parts some =
        let a = by_side leaf.side 2 own_sides in
        let b = by_side (decided leaf p VarZero).side 1 (of_sides VarZero 1 refl) in
        let c = by_side (decided leaf p RowZero).side 1 (of_sides RowZero 1 refl) in
        rw (a, b, c) (parted 2 1 1 (other_sides * range_choices leaf.low leaf.high)
        (record { sum = refl; first_some = omega arith; second_some = omega arith }) (rw a at some))
