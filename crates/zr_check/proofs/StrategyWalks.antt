-- A walk through the players' strategies.
use Rattle.std.proofs.Common.{◌≡◌, ℕ, zero, suc, ◌+◌, ◌<◌, ◌≤◌, ◌≢◌, arith, refl, sym, ap, ap₂, subst, ◌∙◌, ⊎_elim, Ok, Some, List, [], ◌∷◌, ◌++◌, length, take, slice_get, append_assoc}
use Rattle.std.proofs.lemmas.Bool.{cases_eq}
use Rattle.std.proofs.lemmas.List.{append-nil, take_all}
use Rattle.std.proofs.lemmas.Option.{slice_get_within}
use Rattle.zr_base.specs.Steps.{◌>>=◌}
use Rattle.zr_base.specs.Fractions.{Fraction}
use Rattle.zr_base.proofs.CrossLaws.{then_ok}
use Rattle.zr_game.specs.declared.kind.Kind.{Kind}
use Rattle.zr_game.specs.Forms.{IsPlayer}
use Rattle.zr_game.specs.Players.{GameOf, PlayerOf}
use Rattle.zr_game.proofs.Items.{one}
use Rattle.zr_mix.specs.Steps.{place_of}
use Rattle.zr_cert.specs.declared.fault.CertFault.{CertFault}
use Rattle.zr_cert.specs.Certs.{MixtureOf}
use Rattle.zr_cert.specs.Lines.{mixture_lines, sum_lines}
use Rattle.zr_check.specs.Bounds.{all_means}
use Rattle.zr_check.specs.Parts.{MixturePasses, MixtureRefused, PlayerPasses, StrategiesPass, StrategiesRefused, mean_list}
use Rattle.zr_cert.specs.Places.{player_line_number}
use Rattle.zr_check.proofs.LineSums.{lines_more}

cons_means : (p : PlayerOf) (m : MixtureOf) (ps : GameOf) (ms : List MixtureOf) (own rest : List Fraction) → mean_list p m ≡ Ok own → all_means ps ms ≡ Ok rest → all_means (p ∷ ps) (m ∷ ms) ≡ Ok (own ++ rest)
cons_means p m ps ms own rest e f = rw (e, f) refl

-- the means of one player more
pub means_more : (game : GameOf) (mixtures : List MixtureOf) (i : ℕ) (player : PlayerOf) (m : MixtureOf) → slice_get game i ≡ Some player → slice_get mixtures i ≡ Some m → (front own : List Fraction) → all_means (take i game) (take i mixtures) ≡ Ok front → mean_list player m ≡ Ok own → all_means (take (suc i) game) (take (suc i) mixtures) ≡ Ok (front ++ own)
means_more [] ms i player m is at front own e f = absurd cc
means_more (p ∷ ps) [] i player m is at front own e f = absurd cc
means_more (p ∷ ps) (n ∷ ms) zero player m is at front own e f =
    let s : p ≡ player = cc in
    let t : n ≡ m = cc in
    let none : [] ≡ front = cc in
    let made : mean_list p n ≡ Ok own = ap₂ mean_list s t ∙ f in
    cons_means p n [] [] own [] made refl ∙ ap Ok (append-nil own) ∙ ap (λ (xs : List Fraction). Ok (xs ++ own)) none
means_more (p ∷ ps) (n ∷ ms) (suc i) player m is at front own e f =
    let s = then_ok (mean_list p n) (λ first. all_means (take i ps) (take i ms) >>= λ rest. Ok (first ++ rest)) front e in
    let t = then_ok (all_means (take i ps) (take i ms)) (λ rest. Ok (s.0 ++ rest)) front s.2 in
    let joined : s.0 ++ t.0 ≡ front = cc in
    let r = means_more ps ms i player m is at t.0 own t.1 f in
    cons_means p n (take (suc i) ps) (take (suc i) ms) s.0 (t.0 ++ own) s.1 r ∙ ap Ok (sym (append_assoc s.0 t.0 own) ∙ ap (λ (xs : List Fraction). xs ++ own) joined)

-- the strategies of the first i players pass, their means stand at the beginning, and the next line is that of player i
pub record StrategiesTo (game : GameOf) (kind : Kind) (mixtures : List MixtureOf) (i line : ℕ) (means : List Fraction) : Type 0 where
  pub at : line ≡ player_line_number mixtures i
  pub passes : (j : ℕ) (player : PlayerOf) → j < i → IsPlayer game j player → PlayerPasses kind mixtures j player
  pub made : all_means (take i game) (take i mixtures) ≡ Ok (take (place_of game i 0) means)

module _ (game : GameOf) (kind : Kind) (mixtures : List MixtureOf) where
  pub no_strategy : (means : List Fraction) → StrategiesTo game kind mixtures 0 4 means
  no_strategy means = record { at = refl; passes = λ j player h is. absurd (omega arith); made = refl }

  module _ (i line : ℕ) (means : List Fraction) (walked : StrategiesTo game kind mixtures i line means) where
    module _ (player : PlayerOf) (is : IsPlayer game i player) (m : MixtureOf) (there : slice_get mixtures i ≡ Some m) where
      pub strategy_refused : (fault : CertFault) → MixtureRefused kind player m line fault → StrategiesRefused game kind mixtures fault
      strategy_refused fault r = record {
        at = i;
        item = player;
        here = is;
        before = λ j other h is. walked.passes j other h is;
        refused = (m, there, subst (λ (n : ℕ). MixtureRefused kind player m n fault) walked.at r);
      }

      pub next_strategy : MixturePasses kind player m → (own new : List Fraction) → mean_list player m ≡ Ok own → take (place_of game (suc i) 0) new ≡ take (place_of game i 0) means ++ own → StrategiesTo game kind mixtures (i + 1) (line + (1 + length m.parts)) new
      next_strategy passes own new made put =
          let n : suc i ≡ i + 1 = omega arith in
          let more = lines_more mixture_lines mixtures i m there in
          let at = walked.at in
          subst (λ (k : ℕ). StrategiesTo game kind mixtures k (line + (1 + length m.parts)) new) n (record {
            at = omega (arith, more, at);
            passes = λ j other h is'. ⊎_elim (λ (e : j ≡ i). subst (λ (k : ℕ). PlayerPasses kind mixtures k other) (sym e) (λ m' there'. let p = one game i player other is (subst (λ (k : ℕ). IsPlayer game k other) e is') in let q = one mixtures i m m' there there' in subst (λ (x : MixtureOf). MixturePasses kind other x) q (subst (λ (x : PlayerOf). MixturePasses kind x m) p passes))) (λ (a : j ≢ i). walked.passes j other (omega (arith, h, a)) is') (cases_eq j i);
            made = means_more game mixtures i player m is there (take (place_of game i 0) means) own walked.made made ∙ ap Ok (sym put);
          })

    pub all_strategies : length game ≤ i → length mixtures ≤ i → length means ≤ place_of game i 0 → StrategiesPass game kind mixtures × (all_means game mixtures ≡ Ok means) × (line ≡ 4 + sum_lines mixture_lines mixtures)
    all_strategies end last whole =
        let g : take i game ≡ game = take_all i game end in
        let s : take i mixtures ≡ mixtures = take_all i mixtures last in
        (λ j player is. walked.passes j player (let b = slice_get_within game j player is in omega (arith, b, end)) is, sym (ap₂ all_means g s) ∙ walked.made ∙ ap Ok (take_all (place_of game i 0) means whole), walked.at ∙ ap (λ (ms : List MixtureOf). 4 + sum_lines mixture_lines ms) s)
