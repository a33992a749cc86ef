-- Steps of the code that reads the line of a cost.
use Rattle.std.proofs.Common.{◌≡◌, ℕ, ℤ, ◌==◌, Bool, true, false, List, ◌∷◌, Option, Some, None, sym, refl, ap, ◌∙◌, subst}
use Rattle.std.specs.Int.{IsGcd}
use Rattle.std.specs.Prelude.{codes, option_map, unsigned_abs, IfSome, IsSome, MatchOption, ◌↔◌}
use Rattle.zr_base.specs.Fractions.{Fraction, IsSame, ratio}
use Rattle.zr_base.specs.Lowest.{IsLowest, IsRatio, gcd_of}
use Rattle.zr_base.proofs.Gcds.{gcd_of_is}
use Rattle.zr_base.proofs.Lowest.{lowest_same}
use Rattle.zr_form.specs.Bounds.{Passes, is_narrow, is_positive}
use Rattle.zr_form.specs.Fields.{integer_read, natural_read, only_if, pair, skip}
use Rattle.zr_form.specs.Reading.{Bytes}
use Rattle.zr_form.proofs.Fields.{ended_whole, integer_exact, natural_exact}
use Rattle.zr_form.proofs.Lines.{IsWhole}
use Rattle.zr_form.proofs.Words.{pair_exact, skip_exact}
use Rattle.zr_text.specs.Code.{cost_numbers}
use Rattle.zr_text.specs.Fits.{is_lowest}
use Rattle.zr_text.specs.Reader.{cost_at}
use Rattle.zr_text.proofs.Players.{cost_others}
use Rattle.zr_lines.proofs.Limits.{above_zero, narrow_told, weight_told}
use Rattle.zr_text.proofs.Lowest.{lowest_tells}

-- a fraction is made of numbers without a common divisor
pub cost_made : (num den : ℤ) (o : Option Fraction) → IsRatio num den → gcd_of (unsigned_abs num) (unsigned_abs den) ≡ 1 → (IsSome o ↔ IsRatio num den) → IfSome o IsLowest → IfSome o (λ f. IsSame f (ratio num den))
    → MatchOption o (is_lowest num den ≡ false) (λ f. (is_lowest num den ≡ true) × (f ≡ ratio num den))
cost_made num den None r g v l s = absurd (let k = v.1 r in cc)
cost_made num den (Some f) r g v l s =
    let one = subst (IsGcd (unsigned_abs num) (unsigned_abs den)) g (gcd_of_is (unsigned_abs num) (unsigned_abs den)) in
    (lowest_tells num den g, lowest_same f (ratio num den) l (record { ratio = r; coprime = one }) s.cross)

abbrev FitsNumbers : Bool → ℕ → ℕ × (ℤ × ℤ) → Type 0
FitsNumbers strict i h = Passes (λ n. n == i) h.0 × (Passes (is_narrow strict) h.1.0 × Passes (is_positive strict) h.1.1)

numbers_whole : (strict : Bool) (i : ℕ) → IsWhole (FitsNumbers strict i) (λ h. codes "cost" ∷ cost_others h) (cost_numbers strict i)
numbers_whole strict i =
    ended_whole {X = ℕ × (ℤ × ℤ)} (FitsNumbers strict i) (λ h. codes "cost" ∷ cost_others h) (skip (codes "cost") (pair (natural_read (λ n. n == i)) (pair (integer_read (is_narrow strict)) (integer_read (is_positive strict)))))
    (skip_exact (codes "cost") refl _ _ _ (pair_exact _ _ _ _ _ _ (natural_exact (λ n. n == i)) (pair_exact _ _ _ _ _ _ (integer_exact (is_narrow strict)) (integer_exact (is_positive strict)))))

-- the numbers that were read make a fraction
pub ratio_made : (i : ℕ) (fs : List Bytes) (num den : ℤ) → Some (i, (num, den)) ≡ cost_numbers true i fs → IsRatio num den
ratio_made i fs num den e =
    let h = ((numbers_whole true i).sound fs (i, (num, den)) (sym e)).0 in
    let d = weight_told den h.1.1 in
    record { positive = above_zero den d.0; narrow_num = narrow_told num h.1.0; narrow_den = d.1 }

pub no_cost : (i : ℕ) (fs : List Bytes) → None ≡ cost_numbers true i fs → None ≡ cost_at true i fs
unfolding cost_at
no_cost i fs e = ap (only_if (λ (h : ℕ × (ℤ × ℤ)). is_lowest h.1.0 h.1.1)) e

tested : (h : ℕ × (ℤ × ℤ)) (b : Bool) → is_lowest h.1.0 h.1.1 ≡ b → (o : Option (ℕ × (ℤ × ℤ))) → Some h ≡ o → only_if (λ (k : ℕ × (ℤ × ℤ)). is_lowest k.1.0 k.1.1) o ≡ only_if (λ k. b) (Some h)
tested h b t o e = sym (ap (only_if (λ (k : ℕ × (ℤ × ℤ)). is_lowest k.1.0 k.1.1)) e) ∙ rw t refl

-- the cost that was made is the one of the line
pub cost_is : (i : ℕ) (fs : List Bytes) (num den : ℤ) (o : Option Fraction) → Some (i, (num, den)) ≡ cost_numbers true i fs → MatchOption o (is_lowest num den ≡ false) (λ f. (is_lowest num den ≡ true) × (f ≡ ratio num den))
    → option_map (λ (f : Fraction). (i, (f.num, f.den))) o ≡ cost_at true i fs
unfolding cost_at
cost_is i fs num den None e m = sym (tested (i, (num, den)) false m (cost_numbers true i fs) e)
cost_is i fs num den (Some f) e m = ap (λ (g : Fraction). Some (i, (g.num, g.den))) m.1 ∙ sym (tested (i, (num, den)) true m.0 (cost_numbers true i fs) e)
