-- A walk through the players' bounds.
use Rattle.std.proofs.Common.{◌≡◌, ℕ, suc, ◌+◌, ◌<◌, ◌≤◌, ◌≢◌, arith, refl, sym, subst, ◌∙◌, ⊎_elim, Ok, Some, List, length, take, slice_get}
use Rattle.std.proofs.lemmas.Bool.{cases_eq}
use Rattle.std.proofs.lemmas.Option.{slice_get_within}
use Rattle.zr_base.specs.Fractions.{Fraction}
use Rattle.zr_game.specs.Forms.{IsPlayer}
use Rattle.zr_game.specs.Players.{GameOf, PlayerOf}
use Rattle.zr_game.proofs.Items.{one}
use Rattle.zr_cert.specs.declared.fault.CertFault.{CertFault}
use Rattle.zr_cert.specs.Certs.{BoundOf, MixtureOf}
use Rattle.zr_cert.specs.Lines.{bound_lines, mixture_lines, sum_lines}
use Rattle.zr_check.specs.declared.room.Bench.{Bench}
use Rattle.zr_check.specs.Benches.{HasBench, IsSameBench}
use Rattle.zr_check.specs.Bounds.{BoundPasses, BoundRefused, BoundsPass, BoundsRefused, CostPasses, all_means}
use Rattle.zr_check.proofs.LineSums.{lines_more}

-- the bounds of the first i players pass, the next line is that of player i, and the places are as they were
pub record BoundsTo (game : GameOf) (bounds : List BoundOf) (means : List Fraction) (first i line : ℕ) (old new : Bench) : Type 0 where
  pub at : line ≡ first + sum_lines bound_lines (take i bounds)
  pub passes : (mixtures : List MixtureOf) → all_means game mixtures ≡ Ok means → (j : ℕ) (player : PlayerOf) → j < i → IsPlayer game j player → CostPasses game mixtures bounds j player
  pub same : IsSameBench old new

pub same_bench : (a b c : Bench) → IsSameBench a b → IsSameBench b c → IsSameBench a c
same_bench a b c p q = record { scratch = q.scratch ∙ p.scratch; slopes = q.slopes ∙ p.slopes; left = q.left ∙ p.left }

-- the places still do
pub still_has : (game : GameOf) (old new : Bench) → HasBench game old → IsSameBench old new → HasBench game new
still_has game old new h s =
    let a = s.slopes in
    let b = s.left in
    record {
      columns = rw s.scratch h.columns;
      vars = rw s.scratch h.vars;
      pairs = rw s.scratch h.pairs;
      slopes = (let p = h.slopes in omega (arith, a, p));
      left = (let p = h.left in omega (arith, b, p));
    }

module _ (game : GameOf) (bounds : List BoundOf) (means : List Fraction) (first : ℕ) where
  pub no_bound : (bench : Bench) → BoundsTo game bounds means first 0 first bench bench
  no_bound bench = record {
    at = omega arith;
    passes = λ mixtures are j player h is. absurd (omega arith);
    same = record { scratch = refl; slopes = refl; left = refl };
  }

  module _ (i line : ℕ) (old new : Bench) (walked : BoundsTo game bounds means first i line old new) where
    module _ (player : PlayerOf) (is : IsPlayer game i player) (bound : BoundOf) (there : slice_get bounds i ≡ Some bound) where
      pub bounds_refused : (mixtures : List MixtureOf) → all_means game mixtures ≡ Ok means → first ≡ 4 + sum_lines mixture_lines mixtures → (fault : CertFault) → BoundRefused game mixtures line i player bound fault → BoundsRefused game mixtures bounds fault
      bounds_refused mixtures are begin fault r =
          let at = walked.at in
          record {
            at = i;
            item = player;
            here = is;
            before = λ j other h is. walked.passes mixtures are j other h is;
            refused = (bound, there, subst (λ (n : ℕ). BoundRefused game mixtures n i player bound fault) (omega (arith, at, begin)) r);
          }

      pub next_bound : ((mixtures : List MixtureOf) → all_means game mixtures ≡ Ok means → BoundPasses game mixtures i player bound) → (after : Bench) → IsSameBench new after → BoundsTo game bounds means first (i + 1) (line + (1 + length bound.tree)) old after
      next_bound passes after same =
          let n : suc i ≡ i + 1 = omega arith in
          let more = lines_more bound_lines bounds i bound there in
          let at = walked.at in
          subst (λ (k : ℕ). BoundsTo game bounds means first k (line + (1 + length bound.tree)) old after) n (record {
            at = omega (arith, more, at);
            passes = λ mixtures are j other h is'. ⊎_elim (λ (e : j ≡ i). subst (λ (k : ℕ). CostPasses game mixtures bounds k other) (sym e) (λ bound' there'. let p = one game i player other is (subst (λ (k : ℕ). IsPlayer game k other) e is') in let q = one bounds i bound bound' there there' in subst (λ (x : BoundOf). BoundPasses game mixtures i other x) q (subst (λ (x : PlayerOf). BoundPasses game mixtures i x bound) p (passes mixtures are)))) (λ (a : j ≢ i). walked.passes mixtures are j other (omega (arith, h, a)) is') (cases_eq j i);
            same = same_bench old new after walked.same same;
          })

    pub all_bounds : length game ≤ i → (mixtures : List MixtureOf) → all_means game mixtures ≡ Ok means → BoundsPass game mixtures bounds
    all_bounds end mixtures are j player is =
        walked.passes mixtures are j player (let b = slice_get_within game j player is in omega (arith, b, end)) is
