-- One pair more, and what holds of listed numbers.
use Rattle.std.proofs.Common.{◌≡◌, ℕ, zero, suc, ◌+◌, ◌-◌, ◌<◌, arith, ap, ◌∙◌, List, [], ◌∷◌, ◌++◌, map, get_or, All, append_assoc}
use Rattle.std.proofs.lemmas.List.{map-append}
use Rattle.zr_base.specs.Rows.{RowOf}
use Rattle.zr_base.specs.Terms.{Terms, AscendWith}
use Rattle.zr_game.specs.Forms.{IsCoefficient, IsRowForm}
use Rattle.zr_game.specs.Players.{PairOf, pair_of}
use Rattle.zr_game.specs.declared.player.Pair.{Pair}
use Rattle.zr_follow.specs.Expansion.{var_pair, var_pairs}
use Rattle.zr_source.specs.Sources.{FollowerOf}

pub pushed : (old new : List Pair) (p : Pair) (here : PairOf) (rest all : List PairOf) → new ≡ old ++ p ∷ [] → pair_of p ≡ here → map pair_of old ++ here ∷ rest ≡ all → map pair_of new ++ rest ≡ all
pushed old new p here rest all e is h =
    ap (λ (l : List Pair). map pair_of l ++ rest) e ∙ ap (λ (l : List PairOf). l ++ rest) (map-append pair_of old (p ∷ [])) ∙ append_assoc (map pair_of old) (pair_of p ∷ []) rest ∙ ap (λ (q : PairOf). map pair_of old ++ q ∷ rest) is ∙ h

pub var_pairs_from : (from : ℕ) (f : FollowerOf) (j n k : ℕ) → k < n → var_pairs from f (j + k) (n - k) ≡ var_pair from f (j + k) ∷ var_pairs from f (j + (k + 1)) (n - (k + 1))
var_pairs_from from f j n k h =
    let e : n - k ≡ suc (n - (k + 1)) = omega arith in
    let s : suc (j + k) ≡ j + (k + 1) = omega arith in
    ap (var_pairs from f (j + k)) e ∙ ap (λ (i : ℕ). var_pair from f (j + k) ∷ var_pairs from f i (n - (k + 1))) s

pub coefficients : (low columns : ℕ) (ts : Terms) → AscendWith IsCoefficient low columns ts → All (λ t. IsCoefficient t.1) ts
coefficients low columns [] a k d h = absurd (omega arith)
coefficients low columns (t ∷ ts) a zero d h = a.2
coefficients low columns (t ∷ ts) a (suc k) d h = coefficients (t.0 + 1) columns ts a.3 k d (omega arith)

pub row_coefficients : (columns : ℕ) (rows : List RowOf) → All (IsRowForm columns) rows → All (λ row. All (λ t. IsCoefficient t.1) row.coef) rows
row_coefficients columns rows all k d h = coefficients 0 columns (get_or rows k d).coef (all k d h).coef
