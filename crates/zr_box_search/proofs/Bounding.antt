-- Sizes of sums and products, and of all that a gain is made of.
use Rattle.std.proofs.Common.{◌≡◌, ℕ, suc, ◌+◌, ◌-◌, ◌*◌, ◌<◌, ◌≤◌, ◌==◌, ◌++◌, ⊎_elim, arith, sym, ap, ◌∙◌, subst, ℤ, pos, negsuc, ◌+ℤ◌, ◌-ℤ◌, ◌*ℤ◌, ◌<ℤ◌, int_div, unsigned_abs, Bool, true, false, cond, List, [], ◌∷◌, length, get_or, map, take, add-one, Option}
use Rattle.std.specs.Option.{unwrap_or}
use Rattle.std.proofs.lemmas.Int.{ints, unsigned_abs-mul}
use Rattle.std.proofs.Math.Nat.{div-le_self}
use Rattle.std.proofs.Math.Seq.{take-suc}
use Rattle.std.proofs.lemmas.Bool.{cases_lt}
use Rattle.std.proofs.lemmas.List.{get_or-append_right, get_or_append_left, map-append}
use Rattle.std.proofs.lemmas.Nat.{mul-le}
use Rattle.zr_base.specs.Steps.{IsNarrow}
use Rattle.zr_base.specs.Terms.{AscendWith, Terms, coef_at}
use Rattle.zr_game.specs.declared.player.CrossTerm.{CrossTerm}
use Rattle.zr_game.specs.Players.{GameOf, PlayerOf}
use Rattle.zr_game.specs.Forms.{IsCoefficient, IsCrossForm, IsGame, IsNumber, IsPlayer}
use Rattle.zr_game.proofs.Items.{at_number}
use Rattle.zr_boxes.specs.Boxes.{BoxOf}
use Rattle.zr_boxes.specs.Ranges.{lesser_of}
use Rattle.zr_box_search.specs.Dues.{AreRanged, IsRanged}
use Rattle.zr_box_search.specs.Sizes.{HasNearRange, IsNearPlayer, IsNearTerm, IsUpTo, number_size, slope_size}

pub number_up : (z : ℤ) → IsNumber z → IsUpTo number_size z
number_up z h = let l = h.0 in let u = h.1 in omega (arith, ints, l, u)

pub product_up : (m n : ℕ) (a b : ℤ) → IsUpTo m a → IsUpTo n b → IsUpTo (m * n) (a *ℤ b)
product_up m n a b p q =
    subst (λ (k : ℕ). k ≤ m * n) (sym (unsigned_abs-mul a b))
    (mul-le (unsigned_abs a) (unsigned_abs b) m n p q)

pub sum_up : (m n : ℕ) (a b : ℤ) → IsUpTo m a → IsUpTo n b → IsUpTo (m + n) (a +ℤ b)
sum_up m n a b p q = omega (arith, ints, p, q)

coef_up : (low columns : ℕ) (ts : Terms) → AscendWith IsCoefficient low columns ts → (v : ℕ)
    → IsUpTo number_size (coef_at ts v)
coef_up low columns [] h v = omega arith
coef_up low columns (t ∷ ts) h v = which (t.0 == v) (coef_up (t.0 + 1) columns ts h.3 v)
  where
    which : (b : Bool) → IsUpTo number_size (coef_at ts v)
        → IsUpTo number_size (cond b t.1 (coef_at ts v))
    which true rest = number_up t.1 h.2.0
    which false rest = rest

range_up : (box : BoxOf) (i v : ℕ) → IsRanged (box i) v → HasNearRange box i v
range_up box i v r = record {
  low = subst (λ (o : Option ℤ). IsUpTo number_size (unwrap_or o (pos 0))) (sym r.low_is)
      (number_up r.low r.least);
  high = subst (λ (o : Option ℤ). IsUpTo number_size (unwrap_or o (pos 0))) (sym r.high_is)
      (number_up r.high r.greatest);
}

-- in a box with ranges all that a gain is made of is near
pub near_player : (game : GameOf) → IsGame game → (box : BoxOf) → AreRanged game box → (i : ℕ)
    (player : PlayerOf) → IsPlayer game i player → IsNearPlayer player i box
near_player game sound box ranged i player is =
    let form = sound.players i player is in
    record {
      few = form.cross_count;
      var_count = form.var_count;
      cost = coef_up 0 (length player.vars) player.cost form.cost;
      cross = λ k d h. near (get_or player.cross k d) (form.cross k d h);
      own = λ v h. range_up box i v (ranged i player is v h);
    }
  where
    near : (t : CrossTerm) → IsCrossForm game i (length player.vars) t → IsNearTerm box t
    near t f =
        let other = at_number game t.player f.player in
        record {
          coef = number_up t.coef f.coef.0;
          other = range_up box t.player t.var
              (ranged t.player other.0 other.1 t.var (f.var other.0 other.1));
        }

-- a quotient is no further from 0
pub quotient_up : (a d : ℤ) → (pos 0) <ℤ d → unsigned_abs (int_div a d) ≤ unsigned_abs a
quotient_up (pos a) (pos d) h = div-le_self a d
quotient_up (negsuc a) (pos d) h = let e = div-le_self (suc a) d in omega (arith, ints, e)
quotient_up (pos a) (negsuc d) h = absurd (omega (arith, ints, h))
quotient_up (negsuc a) (negsuc d) h = absurd (omega (arith, ints, h))

-- the numbers of a list that grows
pub values_more : (xs : List ℤ) (z : ℤ) (f : ℕ → ℤ) (n : ℕ) → length xs ≡ n
    → ((w : ℕ) → w < n → get_or xs w (pos 0) ≡ f w) → z ≡ f n → (w : ℕ) → w < n + 1
    → get_or (xs ++ z ∷ []) w (pos 0) ≡ f w
values_more xs z f n len before new w h =
    ⊎_elim (λ (l : w < n). get_or_append_left xs (z ∷ []) (pos 0) w (omega (arith, len, l)) ∙ before w l)
    (λ (g : n ≤ w). let e : w ≡ n = omega (arith, h, g) in
    let k : w - n ≡ 0 = omega (arith, e) in
    get_or-append_right xs (z ∷ []) n w (pos 0) len g
    ∙ ap (λ (j : ℕ). get_or (z ∷ []) j (pos 0)) k ∙ new ∙ ap f (sym e)) (cases_lt w n)

pub narrow_slope : (z : ℤ) → IsUpTo slope_size z → IsNarrow z
narrow_slope z h = omega (arith, h)

-- the quotients of a list's numbers, one after another
pub quotients_more : (d : ℤ) (xs : List ℤ) (i : ℕ) (list : List ℤ) (q : ℤ) → i < length xs
    → q ≡ int_div (get_or xs i (pos 0)) d → list ≡ map (λ n. int_div n d) (take i xs)
    → list ++ q ∷ [] ≡ map (λ n. int_div n d) (take (i + 1) xs)
quotients_more d xs i list q h is e =
    rw (e, is, add-one i, take-suc xs i (pos 0) h)
    (sym (map-append (λ (z : ℤ). int_div z d) (take i xs) (get_or xs i (pos 0) ∷ [])))

-- products of ends that are the same
pub products_same : (a b c d e f g h : ℤ) → a ≡ e → b ≡ f → c ≡ g → d ≡ h
    → lesser_of (lesser_of (a *ℤ c) (a *ℤ d)) (lesser_of (b *ℤ c) (b *ℤ d))
    ≡ lesser_of (lesser_of (e *ℤ g) (e *ℤ h)) (lesser_of (f *ℤ g) (f *ℤ h))
products_same a b c d e f g h p q r s =
    λ j. lesser_of (lesser_of (p j *ℤ r j) (p j *ℤ s j)) (lesser_of (q j *ℤ r j) (q j *ℤ s j))

pub one_way : (l n : ℤ) → l -ℤ n ≡ pos 1 *ℤ l -ℤ n
one_way l n = omega (arith, ints)
