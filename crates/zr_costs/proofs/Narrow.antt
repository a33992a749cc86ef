-- The left side of a claim that was made is narrow.
use Rattle.std.proofs.Common.{◌≡◌, ◌∙◌, ℕ, sym, ap, subst, ℤ, pos, neg_ℤ, arith, int_div, Result, Ok, List, [], ◌∷◌, ◌++◌, map, length, All}
use Rattle.std.proofs.lemmas.Int.{ints}
use Rattle.std.proofs.lemmas.List.Elements.{All-cons, All-map, All-nil}
use Rattle.zr_base.specs.declared.step.Wide.{Wide}
use Rattle.zr_base.specs.Fractions.{Fraction}
use Rattle.zr_base.specs.Lowest.{add_of}
use Rattle.zr_base.specs.Made.{made_from}
use Rattle.zr_base.specs.Steps.{IsNarrow, ◌>>=◌}
use Rattle.zr_base.proofs.CrossLaws.{cross_ok, then_ok}
use Rattle.zr_game.specs.Players.{GameOf, PlayerOf}
use Rattle.zr_mix.specs.Steps.{all_negated, claim_steps, multiple_steps, negated_over, rest_steps, slope_steps, value_steps}
use Rattle.zr_check.specs.Bounds.{cost_steps, own_means}
use Rattle.zr_check.proofs.MadeClaims.{ok_pair}

all_narrow : (m : ℤ) (fs : List Fraction) (left : List ℤ) → all_negated m fs ≡ Ok left
    → All IsNarrow left
all_narrow m [] left e = let s : [] ≡ left = cc in subst (All IsNarrow) s (All-nil IsNarrow)
all_narrow m (f ∷ fs) left e =
    let a = then_ok (negated_over m f) (λ x. all_negated m fs >>= λ rest. Ok (x ∷ rest)) left e in
    let b = then_ok (all_negated m fs) (λ rest. Ok (a.0 ∷ rest)) left a.2 in
    let s : a.0 ∷ b.0 ≡ left = (let q = b.2 in cc) in
    subst (All IsNarrow) s (All-cons IsNarrow a.0 b.0
    (cross_ok (neg_ℤ f.num, int_div m f.den) (pos 0, pos 0) a.0 (sym a.1)).1
    (all_narrow m fs b.0 b.1))

claim_narrow : (slopes : List Fraction) (value : Fraction) (left : List ℤ) (right : ℤ)
    → claim_steps slopes value ≡ Ok (left, right) → All IsNarrow left
claim_narrow slopes value left right e =
    let s = then_ok (multiple_steps (pos 1) (slopes ++ value ∷ []))
    (λ m. all_negated m slopes >>= λ l. negated_over m value >>= λ r. Ok (l, r)) (left, right) e in
    let t = then_ok (all_negated s.0 slopes) (λ l. negated_over s.0 value >>= λ r. Ok (l, r))
    (left, right) s.2 in
    let u = then_ok (negated_over s.0 value) (λ r. Ok (t.0, r)) (left, right) t.2 in
    let is = ok_pair t.0 left u.0 right u.2 in
    subst (All IsNarrow) is.0 (all_narrow s.0 slopes t.0 t.1)

abbrev with_claim : List Fraction → Fraction → Fraction → Result (Fraction × (List ℤ × ℤ)) Wide
with_claim slopes value cost = claim_steps slopes value >>= λ claim. Ok (cost, claim)

abbrev with_cost : Result Fraction Wide → List Fraction → Fraction
    → Result (Fraction × (List ℤ × ℤ)) Wide
with_cost rest_made slopes value =
    rest_made >>= λ others. add_of value others >>= with_claim slopes value

last_narrow : (slopes_made : Result (List Fraction) Wide) (rest_made : Result Fraction Wide)
    (own : List Fraction) (cost : Fraction) (left : List ℤ) (right : ℤ)
    → (slopes_made >>= λ slopes. value_steps slopes own >>= with_cost rest_made slopes)
    ≡ Ok (cost, (left, right))
    → All IsNarrow left
last_narrow slopes_made rest_made own cost left right e =
    let made : Fraction × (List ℤ × ℤ) = (cost, (left, right)) in
    let s = then_ok slopes_made (λ slopes. value_steps slopes own >>= with_cost rest_made slopes)
    made e in
    let t = then_ok (value_steps s.0 own) (with_cost rest_made s.0) made s.2 in
    let r = then_ok rest_made (λ others. add_of t.0 others >>= with_claim s.0 t.0) made t.2 in
    let a = then_ok (add_of t.0 r.0) (with_claim s.0 t.0) made r.2 in
    let u = then_ok (claim_steps s.0 t.0) (λ claim. Ok (a.0, claim)) made a.2 in
    let parts = ok_pair a.0 cost u.0 (left, right) u.2 in
    claim_narrow s.0 t.0 left right (moved (claim_steps s.0 t.0) u.0 (left, right) parts.1 u.1)
  where
    moved : (r : Result (List ℤ × ℤ) Wide) (a b : List ℤ × ℤ) → a ≡ b → r ≡ Ok a → r ≡ Ok b
    moved r a b e h = h ∙ ap Ok e

pub left_narrow : (game : GameOf) (player : PlayerOf) (i : ℕ) (means : List Fraction)
    (cost : Fraction)
    (left : List ℤ) (right : ℤ) → cost_steps game player i means ≡ Ok (cost, (left, right))
    → All IsNarrow left
left_narrow game player i means cost left right e =
    last_narrow (made_from (slope_steps game player means) 0 (length player.vars))
    (rest_steps game player means) (own_means game player i means) cost left right e

turned_narrow : (z : ℤ) → IsNarrow z → IsNarrow (neg_ℤ z)
turned_narrow z h = omega (arith, ints, h)

pub all_turned_narrow : (left : List ℤ) → All IsNarrow left → All IsNarrow (map neg_ℤ left)
all_turned_narrow left h = All-map IsNarrow neg_ℤ left (λ k d below. turned_narrow _ (h k d below))
