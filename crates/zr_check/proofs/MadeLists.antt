-- Lists of means and slopes that were made in whole.
use Rattle.std.proofs.Common.{◌≡◌, ℕ, zero, suc, ◌+◌, ◌<◌, arith, sym, ap, subst, ◌∙◌, pos, Result, Ok, Some, List, [], ◌∷◌, ◌++◌, length, slice_get, take, drop, All}
use Rattle.std.proofs.lemmas.List.{drop-drop, drop_at, get_or-drop, get_or-take, get_or-map, take_at}
use Rattle.std.proofs.lemmas.Option.{get_or_from_slice_get, slice_get_within}
use Rattle.zr_base.specs.declared.step.Wide.{Wide}
use Rattle.zr_base.specs.Steps.{◌>>=◌}
use Rattle.zr_base.specs.Fractions.{Fraction, whole}
use Rattle.zr_base.specs.Made.{made_from}
use Rattle.zr_base.proofs.CrossLaws.{then_ok}
use Rattle.zr_base.proofs.Made.{made_items}
use Rattle.zr_base.proofs.Members.{all_found, each_of_all}
use Rattle.zr_game.specs.Forms.{IsGame, IsPlayer}
use Rattle.zr_game.specs.Means.{mean, slope}
use Rattle.zr_game.specs.Players.{GameOf, PlayerOf}
use Rattle.zr_game.specs.Profiles.{Strategy, strategy_of, total}
use Rattle.zr_game.proofs.Items.{at_number}
use Rattle.zr_mix.specs.Steps.{mean_steps, place_of, slope_steps, var_total}
use Rattle.zr_mix.specs.Values.{AreMeans, AreReduced, IsReduced, item_of}
use Rattle.zr_cert.specs.Certs.{MixtureOf, profile_with}
use Rattle.zr_cert.specs.Forms.{IsMixtureForm}
use Rattle.zr_check.specs.Parts.{mean_list}
use Rattle.zr_check.specs.Bounds.{all_means, own_means}
use Rattle.zr_check.proofs.MadeSums.{mean_exact, slope_exact}

-- a list whose items are exact has the values
pub made_reduced : (make : ℕ → Result Fraction Wide) (n : ℕ) (g : ℕ → Fraction) → ((v : ℕ) (f : Fraction) → v < n → make v ≡ Ok f → IsReduced f (g v)) → (list : List Fraction) → made_from make 0 n ≡ Ok list → AreReduced list n g
made_reduced make n g exact list e =
    let all = made_items make 0 n list e in
    record { len = all.0; each = λ v h. exact v (item_of list v) h (ap make (let z : v ≡ 0 + v = omega arith in z) ∙ all.1 v (whole (pos 0)) h) }

pub means_reduced : (player : PlayerOf) (m : MixtureOf) → IsMixtureForm m → m.total ≡ total m.parts → (list : List Fraction) → mean_list player m ≡ Ok list → AreReduced list (length player.vars) (mean m.parts)
means_reduced player m form whole_total list e =
    made_reduced (mean_steps m.total m.parts) (length player.vars) (mean m.parts) (λ v f h made. mean_exact m.total v form.total m.parts (each_of_all _ m.parts form.parts) whole_total f made) list e

-- the means of one player in the list of all
pub record OwnMeans (player : PlayerOf) (m : MixtureOf) (own : List Fraction) : Type 0 where
  pub list : List Fraction
  pub made : mean_list player m ≡ Ok list
  pub is : own ≡ list

pub means_of : (game : GameOf) (mixtures : List MixtureOf) (means : List Fraction) → all_means game mixtures ≡ Ok means → (k : ℕ) (player : PlayerOf) → IsPlayer game k player → (m : MixtureOf) → slice_get mixtures k ≡ Some m → OwnMeans player m (take (length player.vars) (drop (var_total (take k game)) means))
means_of [] mixtures means e k player is m found = absurd cc
means_of (p ∷ ps) [] means e k player is m found = absurd cc
means_of (p ∷ ps) (q ∷ qs) means e zero player is m found =
    let s = then_ok (mean_list p q) (λ first. all_means ps qs >>= λ rest. Ok (first ++ rest)) means e in
    let t = then_ok (all_means ps qs) (λ rest. Ok (s.0 ++ rest)) means s.2 in
    let all : s.0 ++ t.0 ≡ means = cc in
    let own : p ≡ player = cc in
    let same : q ≡ m = cc in
    let len = (made_items (mean_steps q.total q.parts) 0 (length p.vars) s.0 s.1).0 in
    let here : OwnMeans p q (take (length p.vars) means) = record { list = s.0; made = s.1; is = ap (take (length p.vars)) (sym all) ∙ take_at s.0 t.0 (length p.vars) len } in
    subst (λ (other : MixtureOf). OwnMeans player other (take (length player.vars) means)) same (subst (λ (other : PlayerOf). OwnMeans other q (take (length other.vars) means)) own here)
means_of (p ∷ ps) (q ∷ qs) means e (suc k) player is m found =
    let s = then_ok (mean_list p q) (λ first. all_means ps qs >>= λ rest. Ok (first ++ rest)) means e in
    let t = then_ok (all_means ps qs) (λ rest. Ok (s.0 ++ rest)) means s.2 in
    let all : s.0 ++ t.0 ≡ means = cc in
    let len = (made_items (mean_steps q.total q.parts) 0 (length p.vars) s.0 s.1).0 in
    let more = means_of ps qs t.0 t.1 k player is m found in
    let before = var_total (take k ps) in
    let cut = sym (drop-drop before (length p.vars) means) ∙ ap (drop before) (ap (drop (length p.vars)) (sym all) ∙ drop_at s.0 t.0 (length p.vars) len) in
    subst (λ (xs : List Fraction). OwnMeans player m (take (length player.vars) xs)) (sym cut) more

-- the strategy of a player is its printed one
pub strategy_is : (mixtures : List MixtureOf) (k : ℕ) (m : MixtureOf) → slice_get mixtures k ≡ Some m → strategy_of (profile_with mixtures) k ≡ m.parts
strategy_is mixtures k m found =
    get_or-map (λ (other : MixtureOf). other.parts) mixtures k m [] (slice_get_within mixtures k m found) ∙ ap (λ (other : MixtureOf). other.parts) (get_or_from_slice_get mixtures k m m found)

module _ (game : GameOf) (mixtures : List MixtureOf) (len : length mixtures ≡ length game) where
  -- each player has a strategy
  pub mixture_at : (k : ℕ) (player : PlayerOf) → IsPlayer game k player → (m : MixtureOf) × (slice_get mixtures k ≡ Some m)
  mixture_at k player is = at_number mixtures k (let h = slice_get_within game k player is in omega (arith, h, len))

  module _ (forms : All IsMixtureForm mixtures) (totals : All (λ m. m.total ≡ total m.parts) mixtures) (means : List Fraction) (are : all_means game mixtures ≡ Ok means) where
    own_reduced : (k : ℕ) (player : PlayerOf) → IsPlayer game k player → AreReduced (take (length player.vars) (drop (var_total (take k game)) means)) (length player.vars) (mean (strategy_of (profile_with mixtures) k))
    own_reduced k player is =
        let m = mixture_at k player is in
        let own = means_of game mixtures means are k player is m.0 m.1 in
        let reduced = means_reduced player m.0 (all_found IsMixtureForm mixtures k m.0 forms m.1) (all_found (λ other. other.total ≡ total other.parts) mixtures k m.0 totals m.1) own.list own.made in
        subst (λ (s : Strategy). AreReduced (take (length player.vars) (drop (var_total (take k game)) means)) (length player.vars) (mean s)) (sym (strategy_is mixtures k m.0 m.1)) (subst (λ (xs : List Fraction). AreReduced xs (length player.vars) (mean m.0.parts)) (sym own.is) reduced)

    -- the player's own means are those of its strategy
    pub own_are : (k : ℕ) (player : PlayerOf) → IsPlayer game k player → AreReduced (own_means game player k means) (length player.vars) (mean (strategy_of (profile_with mixtures) k))
    own_are k player is =
        let place : var_total (take k game) ≡ place_of game k 0 = omega arith in
        subst (λ n. AreReduced (take (length player.vars) (drop n means)) (length player.vars) (mean (strategy_of (profile_with mixtures) k))) place (own_reduced k player is)

    -- the list has the means of the profile
    pub are_means : AreMeans game (profile_with mixtures) means
    are_means k player is v h =
        let own = own_reduced k player is in
        let before = var_total (take k game) in
        let item = get_or-take (length player.vars) (drop before means) v (whole (pos 0)) h ∙ get_or-drop before means v (whole (pos 0)) in
        subst (λ (f : Fraction). IsReduced f (mean (strategy_of (profile_with mixtures) k) v)) item (own.each v h)

    -- a slope that was made in whole
    pub slope_reduced : (form : IsGame game) (i : ℕ) (player : PlayerOf) → IsPlayer game i player → (slopes : List Fraction) → made_from (slope_steps game player means) 0 (length player.vars) ≡ Ok slopes → AreReduced slopes (length player.vars) (slope player (profile_with mixtures))
    slope_reduced form i player is slopes e =
        made_reduced (slope_steps game player means) (length player.vars) (slope player (profile_with mixtures)) (λ v f h made. slope_exact game form i player is (profile_with mixtures) means are_means v f made) slopes e
