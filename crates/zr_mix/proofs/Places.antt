-- The places of the players' variables, one player after another, and slopes at the means that
-- stand there.
use Rattle.std.proofs.Common.{◌≡◌, ℕ, zero, suc, ◌+◌, ◌<◌, ◌≤◌, ◌==◌, arith, refl, sym, ap, subst, pos, true, Some, Bool, cond, Result, Ok, Err, IfOk, OnOk, List, [], ◌∷◌, length, map, get_or, drop, drop-cons, All}
use Rattle.std.specs.Bool.{⊤}
use Rattle.std.specs.List.{filter}
use Rattle.std.proofs.Math.ListN.{drop_of_length-le}
use Rattle.std.proofs.lemmas.Int.{ints}
use Rattle.std.proofs.lemmas.List.{length-map}
use Rattle.zr_base.specs.declared.step.Wide.{Wide}
use Rattle.zr_base.specs.Fractions.{Fraction, IsSame, plus, sum_over, times, whole}
use Rattle.zr_base.specs.Steps.{◌>>=◌}
use Rattle.zr_base.specs.Lowest.{IsLowest, add_of}
use Rattle.zr_base.specs.Terms.{coef_at}
use Rattle.zr_base.proofs.Members.{each_filter, each_of_all, each_weaker}
use Rattle.zr_base.proofs.SameLaws.{plus_same, same_refl, same_through}
use Rattle.zr_base.proofs.Worth.{Each}
use Rattle.zr_game.specs.declared.player.CrossTerm.{CrossTerm}
use Rattle.zr_game.specs.declared.player.Other.{Other}
use Rattle.zr_game.specs.Costs.{other_at, rest_at}
use Rattle.zr_game.specs.declared.player.Player.{Player}
use Rattle.zr_game.specs.CostSteps.{sum_made}
use Rattle.zr_game.specs.Forms.{HasVar, IsCrossForm, IsGame, IsOtherForm, IsOthersVar, IsPlayer}
use Rattle.zr_game.specs.Means.{mean, mean_at_place, rest, slope}
use Rattle.zr_game.specs.Players.{GameOf, PlayerOf, player_of, var_of}
use Rattle.zr_game.specs.Profiles.{Profile, strategy_of}
use Rattle.zr_game.proofs.Items.{at_number}
use Rattle.zr_game.proofs.SamePoints.{multiple_same, other_same}
use Rattle.zr_mix.specs.Steps.{mean_in, place_of, var_total}
use Rattle.zr_mix.specs.Values.{AreMeans, AreReduced, HasMean, HasMeans, IsReduced, item_of, slope_at, term_at}
use Rattle.zr_mix.proofs.Filtered.{plus_none}

-- a variable that exists has a place
pub place_below : (game : GameOf) (k v : ℕ) (player : PlayerOf) → IsPlayer game k player
    → v < length player.vars → place_of game k v < var_total game
place_below [] k v player is h = absurd cc
place_below (p ∷ ps) zero v player is h = let e : p ≡ player = cc in
    let h2 = subst (λ (q : PlayerOf). v < length q.vars) (sym e) h in omega (arith, h2)
place_below (p ∷ ps) (suc k) v player is h = let r = place_below ps k v player is h in
    omega (arith, r)

module _ (game : GameOf) (form : IsGame game) (i : ℕ) (player : PlayerOf)
    (is : IsPlayer game i player) (means : List Fraction) (len : length means ≡ var_total game)
  where
    place_there : (k v : ℕ) → k < length game → HasVar game k v → HasMean game means (k, v)
    place_there k v player has =
        let other = at_number game k player in
        let place = place_below game k v other.0 other.1 (has other.0 other.1) in
        (player, omega (arith, place, len))

    pub mean_there : All (λ t. HasMean game means (t.player, t.var)) player.cross
    mean_there k d h =
        let t = get_or player.cross k d in
        let f = (form.players i player is).cross k d h in
        place_there t.player t.var f.player f.var

    pub means_there : All (HasMeans game means) player.others
    means_there k d h =
        let t = get_or player.others k d in
        let f = (form.players i player is).others k d h in
        let at = λ (at : ℕ × ℕ) (e : t.second ≡ Some at). let g = (f.second at e).1 in
        place_there at.0 at.1 g.player g.var in
        (place_there t.first.0 t.first.1 f.first.player f.first.var, at)

-- the variables of the players from number j on
pub one_player : (players : List Player) (j : ℕ) (x : Player) → j < length players
    → x ≡ get_or players j x
    → length x.vars.items + var_total (map player_of (drop (j + 1) players)) ≡ var_total
    (map player_of (drop j players))
one_player players j x h is =
    let n : j + 1 ≡ suc j = omega arith in
    let c = ap (λ (ps : List Player). var_total (map player_of ps)) (drop-cons players j x h) in
    let l = length-map x.vars.items var_of in
    let s = ap (λ (p : Player). length (player_of p).vars) is in
    let m = ap (λ k. var_total (map player_of (drop k players))) n in
    omega (arith, c, l, s, m)

pub no_player : (players : List Player) (j : ℕ) → length players ≤ j
    → var_total (map player_of (drop j players)) ≡ 0
no_player players j h = ap (λ (ps : List Player). var_total (map player_of ps))
    (drop_of_length-le players h)

-- a sum over a list of fractions with the values of others
sum_same : {A : Type 0} (f g : A → Fraction) (xs : List A) → Each (λ x. IsSame (f x) (g x)) xs
    → IsSame (sum_over xs f) (sum_over xs g)
sum_same f g [] all = same_refl (whole (pos 0)) (omega (arith, ints))
sum_same f g (x ∷ xs) all =
    plus_same (f x) (sum_over xs f) (g x) (sum_over xs g) all.0 (sum_same f g xs all.1)

module _ (game : GameOf) (form : IsGame game) (i : ℕ) (player : PlayerOf)
    (is : IsPlayer game i player) (profile : Profile) (means : List Fraction)
    (are : AreMeans game profile means) where
  term_same : (t : CrossTerm) → IsCrossForm game i (length player.vars) t
      → IsSame (term_at game means t) (times (whole t.coef)
      (mean (strategy_of profile t.player) t.var))
  term_same t f =
      let other = at_number game t.player f.player in
      let m = are t.player other.0 other.1 t.var (f.var other.0 other.1) in
      multiple_same t.coef (mean_in game means (t.player, t.var))
      (mean (strategy_of profile t.player) t.var) m.same

  pub at_means : (v : ℕ) (f : Fraction) → IsReduced f (slope_at game player means v)
      → IsReduced f (slope player profile v)
  at_means v f reduced =
      let Form = IsCrossForm game i (length player.vars) in
      let test = λ (t : CrossTerm). t.own == v in
      let ts = filter test player.cross in
      let c = whole (coef_at player.cost v) in
      let g = term_at game means in
      let h = λ (t : CrossTerm). times (whole t.coef) (mean (strategy_of profile t.player) t.var) in
      let forms = each_filter Form test player.cross
      (each_of_all Form player.cross (form.players i player is).cross) in
      let sums = sum_same g h ts (each_weaker Form (λ t. IsSame (g t) (h t)) ts term_same forms) in
      let all = plus_same c (sum_over ts g) c (sum_over ts h) (same_refl c (omega (arith, ints)))
      sums in
      record {
        lowest = reduced.lowest;
        same = same_through f (plus c (sum_over ts g)) (plus c (sum_over ts h)) reduced.same all;
      }

  pub all_at_means : (r : Result ⊤ Wide) (out : List Fraction) (n : ℕ)
      → OnOk r (AreReduced out n (slope_at game player means))
      → OnOk r (AreReduced out n (slope player profile))
  all_at_means (Ok u) out n all = record {
    len = all.len;
    each = λ v h. at_means v (item_of out v) (all.each v h);
  }
  all_at_means (Err w) out n all = tt

  other_there : (t : Other) → IsOtherForm game i t
      → IsSame (other_at (mean_in game means) t) (other_at (mean_at_place profile) t)
  other_there t f =
      other_same (mean_in game means) (mean_at_place profile) t (at_place t.first f.first)
      (λ at e. at_place at (f.second at e).1)
    where
      at_place : (at : ℕ × ℕ) → IsOthersVar game i at
          → IsSame (mean_in game means at) (mean_at_place profile at)
      at_place at f =
          let other = at_number game at.0 f.player in
          (are at.0 other.0 other.1 at.1 (f.var other.0 other.1)).same

  pub rest_at_means : (r : Result Fraction Wide)
      → IfOk r (λ f. IsReduced f (rest_at player (mean_in game means)))
      → IfOk r (λ f. IsReduced f (rest player profile))
  rest_at_means (Ok f) reduced =
      let Form = IsOtherForm game i in
      let g = other_at (mean_in game means) in
      let h = other_at (mean_at_place profile) in
      let forms = each_of_all Form player.others (form.players i player is).others in
      let sums = sum_same g h player.others (each_weaker Form (λ t. IsSame (g t) (h t))
      player.others other_there forms) in
      record {
        lowest = reduced.lowest;
        same = same_through f (rest_at player (mean_in game means)) (rest player profile)
            reduced.same sums;
      }
  rest_at_means (Err w) reduced = tt

pub reduced_if : (r : Result Fraction Wide) (x : Fraction) → IfOk r (λ f. IsSame f x)
    → IfOk r IsLowest → IfOk r (λ f. IsReduced f x)
reduced_if (Ok f) x same lowest = record { lowest = lowest; same = same }
reduced_if (Err w) x same lowest = tt

-- the one term, which passes
pub only_term : {A : Type 0} (b : Bool) → b ≡ true → (g : A → Fraction) (t : A) (f sum : Fraction)
    → IsSame f (plus sum (g t)) → IsSame f (plus sum (sum_over (cond b (t ∷ []) []) g))
only_term {A} b e g t f sum h =
    subst (λ (y : Bool). IsSame f (plus sum (sum_over (cond y (t ∷ []) []) g))) (sym e)
    (subst (λ (z : Fraction). IsSame f (plus sum z)) (sym (plus_none (g t))) h)

-- the sum with the one term, which passes
pub only_made : {A : Type 0} (make : A → Result Fraction Wide) (b : Bool) → b ≡ true
    → (t : A) (s a : Fraction) → make t ≡ Ok a → add_of s a ≡ sum_made make s (cond b (t ∷ []) [])
only_made make b e t s a made = rw (e, made) (last (add_of s a))
  where
    last : (r : Result Fraction Wide) → r ≡ (r >>= λ z. Ok z)
    last (Ok z) = refl
    last (Err w) = refl
