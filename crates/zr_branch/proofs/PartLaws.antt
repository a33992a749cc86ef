-- Numbers by column, and the values that columns give, as lists.
use Rattle.std.proofs.Common.{◌≡◌, ℕ, zero, suc, ◌+◌, ◌*◌, ◌<◌, ◌≤◌, arith, refl, sym, ap, ◌∙◌, ℤ, pos, negsuc, ◌*ℤ◌, Bool, true, false, cond, List, [], ◌∷◌, ◌++◌, map, length, drop, drop-cons, append_assoc, get_or, add-one}
use Rattle.std.specs.List.{All}
use Rattle.std.proofs.lemmas.Int.{ints}
use Rattle.std.proofs.lemmas.List.{length-map, map-append}
use Rattle.std.proofs.lemmas.List.Elements.{All-tail}
use Rattle.zr_base.specs.Steps.{IsNarrow}
use Rattle.zr_base.proofs.Worth.{Each}
use Rattle.zr_base.specs.Terms.{Ascends, Terms, coef_at}
use Rattle.zr_game.specs.declared.player.Var.{Var}
use Rattle.zr_game.specs.Players.{VarOf, var_of}
use Rattle.zr_game.specs.Leaves.{Bound}
use Rattle.zr_lin.specs.declared.system.Ineq.{Ineq}
use Rattle.zr_simplex.specs.Programs.{numbers}
use Rattle.zr_asked.specs.Parts.{Part as APart, by_part, is_from_zero, parts_from}
use Rattle.zr_branch.specs.declared.part.Part.{Part}
use Rattle.zr_branch.specs.Columns.{by_columns, listed_from, own_value, part_number, part_numbers, part_of, row_bound, values_from, width}
use Rattle.zr_branch.proofs.Listed.{listed_ascends, listed_coef}

pub numbers_by_part : (coef : ℕ → ℤ) (parts : List Part) (c : ℕ)
    → numbers (part_numbers coef parts) c ≡ by_part (map part_of parts) coef c
numbers_by_part coef [] c = omega (arith, ints)
numbers_by_part coef (part ∷ parts) zero = refl
numbers_by_part coef (part ∷ parts) (suc c) = numbers_by_part coef parts c

-- a row that is listed by column
pub row_listed : (row : Bound) (parts : List Part) (c : ℕ)
    → coef_at (listed_from 0 (part_numbers row.coef parts)) c ≡ by_part (map part_of parts) row.coef c
row_listed row parts c =
    let e : c ≡ 0 + c = omega arith in
    ap (coef_at (listed_from 0 (part_numbers row.coef parts))) e ∙
    listed_coef 0 c (part_numbers row.coef parts) ∙ numbers_by_part row.coef parts c

pub bound_listed : (row : Bound) (parts : List Part) (list : Terms)
    → list ≡ listed_from 0 (part_numbers row.coef parts)
    → record { coef = coef_at list; le = row.le } ≡ by_columns (map part_of parts) row
bound_listed row parts list e = λ i. record {
  coef = λ c. (ap (λ (ts : Terms). coef_at ts c) e ∙ row_listed row parts c) i;
  le = row.le;
}

pub list_ascends : (coef : ℕ → ℤ) (parts : List Part) → All IsNarrow (part_numbers coef parts)
    → Ascends 0 (length parts) (listed_from 0 (part_numbers coef parts))
list_ascends coef parts narrow =
    let l = length-map parts (part_number coef) in
    listed_ascends 0 0 (length parts) (part_numbers coef parts) (omega arith) (omega (arith, l)) narrow

-- one variable more
pub values_more : (vars : List Var) (i c : ℕ) (y : ℕ → ℤ) (values made all : List ℤ) (var : Var)
    → i < length vars → var ≡ get_or vars i var
    → made ≡ values ++ own_value (is_from_zero var.low) c y ∷ []
    → values ++ values_from c (map var_of (drop i vars)) y ≡ all
    → made ++ values_from (c + width (is_from_zero var.low)) (map var_of (drop (i + 1) vars)) y ≡ all
values_more vars i c y values made all var h is e before =
    let rest = drop (suc i) vars in
    let front : drop i vars ≡ var ∷ rest = drop-cons vars i var h ∙ ap (λ (v : Var). v ∷ rest) (sym is) in
    rw (add-one i, e) (append_assoc values (own_value (is_from_zero var.low) c y ∷ [])
    (values_from (c + width (is_from_zero var.low)) (map var_of rest) y) ∙
    ap (λ (vs : List Var). values ++ values_from c (map var_of vs) y) (sym front) ∙ before)

own_columns : (v : ℕ) (b : Bool) (rest : List APart)
    → length (cond b ((v, pos 1) ∷ rest) ((v, pos 1) ∷ (v, negsuc 0) ∷ rest)) ≡ width b + length rest
own_columns v true rest = omega arith
own_columns v false rest = omega arith

pub columns_more : (vars : List Var) (i c n : ℕ) (var : Var) → i < length vars → var ≡ get_or vars i var
    → c + length (parts_from i (map var_of (drop i vars))) ≡ n
    → c + width (is_from_zero var.low) + length (parts_from (i + 1) (map var_of (drop (i + 1) vars)))
    ≡ n
columns_more vars i c n var h is before =
    let rest = drop (suc i) vars in
    let front : drop i vars ≡ var ∷ rest = drop-cons vars i var h ∙ ap (λ (v : Var). v ∷ rest) (sym is) in
    let o = own_columns i (is_from_zero var.low) (parts_from (suc i) (map var_of rest)) in
    let b = ap (λ (vs : List Var). length (parts_from i (map var_of vs))) front in
    rw (add-one i) (omega (arith, o, b, before))

-- one row more
pub rows_more : (parts : List APart) (old new : List Bound) (b : Bound) (rows : List Ineq) (row : Ineq)
    → row_bound row ≡ by_columns parts b → new ≡ old ++ b ∷ []
    → map row_bound rows ≡ map (by_columns parts) old
    → map row_bound (rows ++ row ∷ []) ≡ map (by_columns parts) new
rows_more parts old new b rows row is e before =
    map-append row_bound rows (row ∷ []) ∙
    ap (λ (x : Bound). map row_bound rows ++ x ∷ []) is ∙
    ap (λ (bs : List Bound). bs ++ by_columns parts b ∷ []) before ∙
    sym (ap (map (by_columns parts)) e ∙ map-append (by_columns parts) old (b ∷ []))

own_few : (b : Bool) (v n : ℕ) (rest : List APart) → length rest ≤ n * 2
    → length (cond b ((v, pos 1) ∷ rest) ((v, pos 1) ∷ (v, negsuc 0) ∷ rest)) ≤ suc n * 2
own_few true v n rest h = omega (arith, h)
own_few false v n rest h = omega (arith, h)

pub parts_few : (w : ℕ) (vars : List VarOf) → length (parts_from w vars) ≤ length vars * 2
parts_few w [] = omega arith
parts_few w (var ∷ vars) =
    own_few (is_from_zero var.low) w (length vars) (parts_from (suc w) vars) (parts_few (suc w) vars)

pub vars_below : (n : ℕ) (parts : List Part) → Each (λ p. p.0 < n) (map part_of parts) → n ≤ 64
    → All (λ part. part.var ≤ 64) parts
vars_below n [] all few k d h = absurd (omega (arith, h))
vars_below n (p ∷ ps) all few zero d h = let l = all.0 in omega (arith, l, few)
vars_below n (p ∷ ps) all few (suc k) d h = vars_below n ps all.1 few k d (omega (arith, h))

pub all_map : {A B : Type 0} (g : A → B) (P : B → Type 0) (xs : List A) → All (λ x. P (g x)) xs
    → All P (map g xs)
all_map g P [] all k d h = absurd (omega (arith, h))
all_map g P (x ∷ xs) all zero d h = all 0 x (omega arith)
all_map g P (x ∷ xs) all (suc k) d h =
    all_map g P xs (All-tail (λ y. P (g y)) x xs all) k d (omega (arith, h))
