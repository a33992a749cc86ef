-- One row more is added to a combination.
use Rattle.std.proofs.Common.{◌≡◌, ℕ, zero, suc, ◌+◌, ◌<◌, arith, refl, sym, ap, ◌∙◌, ℤ, pos, ◌≤ℤ◌, Bool, true, false, ◌||◌, List, [], ◌∷◌, ◌++◌, map, length, get_or, take, drop, Ok, Err, inl, inr}
use Rattle.std.proofs.lemmas.List.{take_more, map-append}
use Rattle.zr_base.specs.declared.step.Wide.{Wide}
use Rattle.zr_base.specs.Sums.{sum_step}
use Rattle.zr_base.specs.Terms.{Terms, AscendWith}
use Rattle.zr_base.proofs.SumSteps.{one_more, wide_within, split_at}
use Rattle.zr_lin.specs.DenseRows.{DenseRow, AreMultipliers, uses_strict}
use Rattle.zr_lin.specs.Combinations.{Combines, HasWideStep}

multiplier_from : (low count : ℕ) (ts : Terms) (i : ℕ) (d : ℕ × ℤ) → AscendWith (λ z. (pos 1) ≤ℤ z) low count ts → i < length ts → (get_or ts i d).0 < count
multiplier_from low count [] i d a h = absurd (omega arith)
multiplier_from low count (t ∷ ts) zero d a h = a.1
multiplier_from low count (t ∷ ts) (suc i) d a h = multiplier_from (t.0 + 1) count ts i d a.3 (omega arith)

-- multiplied rows exist
pub multiplied_below : (count : ℕ) (mult : Terms) (i : ℕ) → AreMultipliers count mult → i < length mult → (get_or mult i (0, pos 0)).0 < count
multiplied_below count mult i good h = multiplier_from 0 count mult i (0, pos 0) good h

or_false : (b : Bool) → (b || false) ≡ b
or_false true = refl
or_false false = refl

or_assoc : (a b c : Bool) → (a || (b || c)) ≡ ((a || b) || c)
or_assoc true b c = refl
or_assoc false b c = refl

-- a multiplier with one of its row's numbers
abbrev product_of : (ℕ → DenseRow) → (DenseRow → ℤ) → ℕ × ℤ → ℤ × ℤ
product_of row f t = (t.1, f (row t.0))

-- row `this` is the next one, with its multiplier
module _ (row : ℕ → DenseRow) (mult : Terms) (i : ℕ) (below : i < length mult) (this : DenseRow) (is : row (get_or mult i (0, pos 0)).0 ≡ this) where
  products_more : (f : DenseRow → ℤ) → map (product_of row f) (take (i + 1) mult) ≡ map (product_of row f) (take i mult) ++ ((get_or mult i (0, pos 0)).1, f this) ∷ []
  products_more f =
      ap (map (product_of row f)) (take_more mult i (0, pos 0) below) ∙ map-append (product_of row f) (take i mult) (get_or mult i (0, pos 0) ∷ []) ∙ rw is refl

  products_split : (f : DenseRow → ℤ) → map (product_of row f) mult ≡ map (product_of row f) (take i mult) ++ ((get_or mult i (0, pos 0)).1, f this) ∷ map (product_of row f) (drop (suc i) mult)
  products_split f =
      ap (map (product_of row f)) (split_at mult i (0, pos 0) below) ∙ map-append (product_of row f) (take i mult) (get_or mult i (0, pos 0) ∷ drop (suc i) mult) ∙ rw is refl

  strict_more : uses_strict row (take (i + 1) mult) ≡ (uses_strict row (take i mult) || this.strict)
  strict_more =
      ap (uses_strict row) (take_more mult i (0, pos 0) below) ∙ joined (take i mult) ∙ ap (λ r. uses_strict row (take i mult) || r.strict) is
    where
      joined : (ts : Terms) → uses_strict row (ts ++ get_or mult i (0, pos 0) ∷ []) ≡ (uses_strict row ts || (row (get_or mult i (0, pos 0)).0).strict)
      joined [] = or_false (row (get_or mult i (0, pos 0)).0).strict
      joined (t ∷ ts) = ap (λ b. (row t.0).strict || b) (joined ts) ∙ or_assoc (row t.0).strict (uses_strict row ts) (row (get_or mult i (0, pos 0)).0).strict

  module _ (left : List ℤ) (le : ℤ) (strict : Bool) (sums : Combines row (take i mult) left (record { le = le; strict = strict })) where
    pub wide_column : (columns : ℕ) (w : Wide) → length left ≡ columns → (j : ℕ) × (j < length left) × (sum_step (get_or left j (pos 0)) ((get_or mult i (0, pos 0)).1, this.coef j) ≡ Err w) → HasWideStep columns row mult w
    wide_column columns w e step =
        inl (step.0, omega (arith, step.1), rw (products_split (λ r. r.coef step.0)) (wide_within _ _ _ _ w (sums.columns step.0 step.1) step.2))

    pub wide_right : (columns : ℕ) (w : Wide) → sum_step le ((get_or mult i (0, pos 0)).1, this.le) ≡ Err w → HasWideStep columns row mult w
    wide_right columns w step = inr (rw (products_split (λ r. r.le)) (wide_within _ _ _ _ w sums.right step))

    pub more : (next : List ℤ) (sum : ℤ) → length next ≡ length left → ((j : ℕ) → j < length left → sum_step (get_or left j (pos 0)) ((get_or mult i (0, pos 0)).1, this.coef j) ≡ Ok (get_or next j (pos 0))) → sum_step le ((get_or mult i (0, pos 0)).1, this.le) ≡ Ok sum → Combines row (take (i + 1) mult) next (record { le = sum; strict = strict || this.strict })
    more next sum len steps step = record {
      columns = λ j h. let inside : j < length left = omega (arith, len) in rw (products_more (λ r. r.coef j)) (one_more _ _ _ (sums.columns j inside) ∙ steps j inside);
      right = rw (products_more (λ r. r.le)) (one_more _ _ _ sums.right ∙ step);
      strict = ap (λ b. b || this.strict) sums.strict ∙ sym strict_more;
    }
