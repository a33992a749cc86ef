-- The pairs of a leaf's line.
use Rattle.std.proofs.Common.{◌≡◌, ℕ, Bool, true, false, ◌==◌, List, [], ◌∷◌, ◌++◌, length, Option, Some, None, sym, refl, ap, ◌∙◌, subst, ℤ}
use Rattle.std.specs.Prelude.{◌&&◌}
use Rattle.std.specs.List.{AllByRecursion}
use Rattle.std.proofs.lemmas.Bool.{eq-eqb, eqb-true}
use Rattle.zr_tree.specs.Nodes.{Multipliers}
use Rattle.zr_form.specs.Bounds.{Passes, is_index, is_positive}
use Rattle.zr_form.specs.Fields.{and_more, natural_read, only_if}
use Rattle.zr_form.specs.Numbers.{decimal, integer, natural, signed}
use Rattle.zr_form.specs.Reading.{Bytes}
use Rattle.zr_form.proofs.Fields.{integer_exact, join_whole_form, natural_exact, only_again, only_some, only_whole}
use Rattle.zr_form.proofs.Lines.{IsField, IsWhole, map_some}
use Rattle.zr_form.proofs.Numbers.{integer_again, integer_spelled, natural_again, natural_spelled}
use Rattle.zr_form.proofs.Words.{both_true}
use Rattle.zr_lines.specs.Fits.{FitsCounted, FitsCounting, FitsMultiplier, ascend}
use Rattle.zr_lines.specs.Reader.{and_pair, counted, counting, multiplier_of, multipliers}
use Rattle.zr_lines.specs.Spelling.{counting_fields, multiplier_fields}

and_pair_some : (o : Option ℕ) (p : Option ℤ) (t : ℕ × ℤ) → and_pair o p ≡ Some t → (o ≡ Some t.0) × (p ≡ Some t.1)
and_pair_some None p t e = absurd cc
and_pair_some (Some row) p t e =
    let h = map_some (λ by. (row, by)) p t e in
    (ap (λ (q : ℕ × ℤ). Some q.0) h.2, h.1 ∙ ap (λ (q : ℕ × ℤ). Some q.1) h.2)

and_more_some : (o : Option (ℕ × ℤ)) (p : Option Multipliers) (xs : Multipliers) → and_more o p ≡ Some xs → (x : ℕ × ℤ) × (ys : Multipliers) × (o ≡ Some x) × (p ≡ Some ys) × (x ∷ ys ≡ xs)
and_more_some None p xs e = absurd cc
and_more_some (Some x) p xs e = let h = map_some (λ ys. x ∷ ys) p xs e in (x, h.0, refl, h.1, h.2)

multiplier_sound : (strict : Bool) (f g : Bytes) (t : ℕ × ℤ) → multiplier_of strict f g ≡ Some t → FitsMultiplier strict t × (f ≡ decimal t.0) × (g ≡ signed t.1)
multiplier_sound strict f g t e =
    let h = and_pair_some (only_if (is_index strict) (natural f)) (only_if (is_positive strict) (integer g)) t e in
    let row = only_some (is_index strict) (natural f) t.0 h.0 in
    let by = only_some (is_positive strict) (integer g) t.1 h.1 in
    ((row.1, by.1), natural_spelled f t.0 row.0, integer_spelled g t.1 by.0)

multiplier_again : (strict : Bool) (t : ℕ × ℤ) → FitsMultiplier strict t → multiplier_of strict (decimal t.0) (signed t.1) ≡ Some t
multiplier_again strict t f =
    rw (only_again (is_index strict) (natural (decimal t.0)) t.0 (natural_again t.0) f.0, only_again (is_positive strict) (integer (signed t.1)) t.1 (integer_again t.1) f.1) refl

same_fields : (f g a b : Bytes) (fs xs : List Bytes) → f ≡ a → g ≡ b → fs ≡ xs → f ∷ g ∷ fs ≡ a ∷ b ∷ xs
same_fields f g a b fs xs p q r = cc

multipliers_sound : (strict : Bool) (fs : List Bytes) (mult : Multipliers) → multipliers strict fs ≡ Some mult → AllByRecursion (FitsMultiplier strict) mult × (fs ≡ multiplier_fields mult)
unfolding multipliers
multipliers_sound strict [] mult e = let k : [] ≡ mult = cc in subst (λ (z : Multipliers). AllByRecursion (FitsMultiplier strict) z × ([] ≡ multiplier_fields z)) k (tt, refl)
multipliers_sound strict (f ∷ []) mult e = absurd cc
multipliers_sound strict (f ∷ g ∷ fs) mult e =
    let h = and_more_some (multiplier_of strict f g) (multipliers strict fs) mult e in
    let s = multiplier_sound strict f g h.0 h.2 in
    let t = multipliers_sound strict fs h.1 h.3 in
    let parts : f ∷ g ∷ fs ≡ multiplier_fields (h.0 ∷ h.1) = same_fields f g (decimal h.0.0) (signed h.0.1) fs (multiplier_fields h.1) s.1 s.2 t.1 in
    subst (λ (z : Multipliers). AllByRecursion (FitsMultiplier strict) z × (f ∷ g ∷ fs ≡ multiplier_fields z)) h.4 ((s.0, t.0), parts)

multipliers_again : (strict : Bool) (mult : Multipliers) → AllByRecursion (FitsMultiplier strict) mult → multipliers strict (multiplier_fields mult) ≡ Some mult
unfolding multipliers
multipliers_again strict [] f = refl
multipliers_again strict (t ∷ ts) f = rw (multiplier_again strict t f.0, multipliers_again strict ts f.1) refl

multipliers_clean : (strict : Bool) (mult : Multipliers) → AllByRecursion (FitsMultiplier strict) mult → AllByRecursion IsField (multiplier_fields mult)
multipliers_clean strict [] f = tt
multipliers_clean strict (t ∷ ts) f =
    (((natural_exact (is_index strict)).clean t.0 f.0.0).0, (((integer_exact (is_positive strict)).clean t.1 f.0.1).0, multipliers_clean strict ts f.1))

multipliers_whole : (strict : Bool) → IsWhole (AllByRecursion (FitsMultiplier strict)) multiplier_fields (multipliers strict)
multipliers_whole strict = record { sound = multipliers_sound strict; again = multipliers_again strict; clean = multipliers_clean strict }

abbrev is_counted : ℕ → Multipliers → Bool
is_counted count mult = length mult == count && ascend mult

both : (a b : Bool) → a ≡ true → b ≡ true → (a && b) ≡ true
both true b e f = f
both false b e f = absurd cc

counted_only : (strict : Bool) (count : ℕ) → IsWhole (λ mult. AllByRecursion (FitsMultiplier strict) mult × (is_counted count mult ≡ true)) multiplier_fields (counted strict count)
unfolding counted
counted_only strict count = only_whole (is_counted count) (AllByRecursion (FitsMultiplier strict)) multiplier_fields (multipliers strict) (multipliers_whole strict)

pub counted_whole : (strict : Bool) (count : ℕ) → IsWhole (FitsCounted strict count) multiplier_fields (counted strict count)
counted_whole strict count =
    let w = counted_only strict count in
    record {
      sound = λ fs mult e.
          let h = w.sound fs mult e in
          let t = both_true (length mult == count) (ascend mult) h.0.1 in
          (record { length = eqb-true (length mult) count t.0; each = h.0.0; ascends = t.1 }, h.1);
      again = λ mult f. w.again mult (f.each, both (length mult == count) (ascend mult) (eq-eqb (length mult) count f.length) f.ascends);
      clean = λ mult f. multipliers_clean strict mult f.each;
    }

-- ---- a count, and as many pairs

counting_made : (strict : Bool) (n : ℕ) (mult : Multipliers) → Passes (is_index strict) n → FitsCounted strict n mult → FitsCounting strict mult × (counting_fields mult ≡ (decimal n ∷ []) ++ multiplier_fields mult)
counting_made strict n mult f g =
    ((subst (Passes (is_index strict)) (sym g.length) f, record { length = refl; each = g.each; ascends = g.ascends }), ap (λ (z : ℕ). decimal z ∷ multiplier_fields mult) g.length)

pub counting_whole : (strict : Bool) → IsWhole (FitsCounting strict) counting_fields (counting strict)
unfolding counting
counting_whole strict =
    join_whole_form {X = ℕ} {Y = Multipliers} {Z = Multipliers} (λ n mult. mult) (Passes (is_index strict)) (λ n. decimal n ∷ []) (natural_read (is_index strict))
    (FitsCounted strict) (λ n. multiplier_fields) (counted strict) (FitsCounting strict) counting_fields
    (natural_exact (is_index strict)) (λ n f. counted_whole strict n)
    (counting_made strict) (λ mult f. (length mult, mult, f.0, f.1, refl, refl))
