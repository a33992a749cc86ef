-- The weights of a strategy's parts, one part more at a time.
use Rattle.std.proofs.Common.{◌≡◌, ℕ, suc, arith, refl, ap, ◌∙◌, ℤ, pos, Result, Ok, Err, Some, List, [], ◌∷◌, ◌++◌, length, map, take, slice_get, Bool, IsTrue, Option, None, IsErr, IsSome, ◌↔◌, ◌⊎◌, ⊎_elim, inl, inr}
use Rattle.std.proofs.Math.Seq.{take-suc}
use Rattle.std.proofs.lemmas.Int.{ints}
use Rattle.std.proofs.lemmas.List.{map-append, take_all}
use Rattle.std.proofs.lemmas.Option.{get_or_from_slice_get, slice_get_within}
use Rattle.zr_base.specs.declared.step.Wide.{Wide}
use Rattle.zr_base.specs.Steps.{IsNarrow}
use Rattle.zr_base.specs.Sums.{sum_products, sum_step, sum_steps}
use Rattle.zr_base.proofs.SumSteps.{one_more, sum_steps_exact, sum_steps_narrow}
use Rattle.zr_base.specs.Fractions.{Fraction}
use Rattle.zr_game.specs.Feasible.{IsFeasible}
use Rattle.zr_game.specs.FeasibleSteps.{feasible_wide}
use Rattle.zr_game.specs.Players.{PlayerOf}
use Rattle.zr_game.specs.Profiles.{Part, Strategy, total}
use Rattle.zr_tree.proofs.Combined.{is_err}
use Rattle.zr_cert.specs.Certs.{MixtureOf}
use Rattle.zr_check.specs.Parts.{IsWidePart, mean_list, weight_steps}
use Rattle.zr_check.specs.PartSums.{IsPartMade, weights_before}

abbrev terms : Strategy → List (ℤ × ℤ)
terms parts = map (λ part. (part.weight, pos 1)) parts

taken : (parts : Strategy) (k : ℕ) (part : Part) → slice_get parts k ≡ Some part → take (suc k) parts ≡ take k parts ++ part ∷ []
taken parts k part is =
    take-suc parts k part (slice_get_within parts k part is) ∙ ap (λ (p : Part). take k parts ++ p ∷ []) (get_or_from_slice_get parts k part part is)

-- the weights with the part
pub more_weights : (parts : Strategy) (k : ℕ) (part : Part) → slice_get parts k ≡ Some part → (sum : ℤ) → weights_before parts k ≡ Ok sum → weight_steps parts k ≡ sum_step sum (part.weight, pos 1)
more_weights parts k part is sum before =
    ap (λ (ps : Strategy). sum_steps (pos 0) (terms ps)) (taken parts k part is) ∙ ap (λ (ts : List (ℤ × ℤ)). sum_steps (pos 0) ts) (map-append (λ (p : Part). (p.weight, pos 1)) (take k parts) (part ∷ [])) ∙ one_more (terms (take k parts)) (part.weight, pos 1) sum before

pub narrow_weights : (parts : Strategy) (k : ℕ) (sum : ℤ) → weights_before parts k ≡ Ok sum → IsNarrow sum
narrow_weights parts k sum before = sum_steps_narrow (pos 0) sum (terms (take k parts)) (omega arith) before

sum_of_terms : (parts : Strategy) → sum_products (terms parts) ≡ total parts
sum_of_terms [] = refl
sum_of_terms (part ∷ parts) = let r = sum_of_terms parts in omega (arith, ints, r)

-- the weights of all parts are their total
pub all_weights : (parts : Strategy) (k : ℕ) (sum : ℤ) → suc k ≡ length parts → weight_steps parts k ≡ Ok sum → sum ≡ total parts
all_weights parts k sum last made =
    let all : take (suc k) parts ≡ parts = take_all (suc k) parts (omega arith) in
    let e = sum_steps_exact (pos 0) sum (terms (take (suc k) parts)) made in
    let t = sum_of_terms (take (suc k) parts) in
    let s = ap total all in
    omega (arith, ints, e, t, s)

module _ (player : PlayerOf) (m : MixtureOf) (k : ℕ) (part : Part) (there : slice_get m.parts k ≡ Some part) (sum : ℤ) (before : weights_before m.parts k ≡ Ok sum) where
  pub weight_wide : (w : Wide) → sum_step sum (part.weight, pos 1) ≡ Err w → IsWidePart player m k part
  weight_wide w e = inl (is_err (weight_steps m.parts k) w (more_weights m.parts k part there sum before ∙ e))

  pub point_wide : (w : Wide) → feasible_wide player part.point ≡ Some w → IsWidePart player m k part
  point_wide w e = inr (inl (rw e refl))

  pub means_wide : suc k ≡ length m.parts → (w : Wide) → mean_list player m ≡ Err w → IsWidePart player m k part
  means_wide last w e = inr (inr (last, is_err (mean_list player m) w e))

  pub part_made : (weights : ℤ) (feasible : Bool) → sum_step sum (part.weight, pos 1) ≡ Ok weights → feasible_wide player part.point ≡ None → (IsTrue feasible ↔ IsFeasible player part.point) → (suc k ≡ length m.parts → (means : List Fraction) × (mean_list player m ≡ Ok means)) → IsPartMade player m k part weights feasible
  part_made weights feasible step none tells last =
      let made = more_weights m.parts k part there sum before ∙ step in
      record {
        narrow = λ wide. ⊎_elim (λ (a : IsErr (weight_steps m.parts k)). no_err (weight_steps m.parts k) weights made a) (λ (b : IsSome (feasible_wide player part.point) ⊎ ((suc k ≡ length m.parts) × IsErr (mean_list player m))). ⊎_elim (λ (a : IsSome (feasible_wide player part.point)). no_some (feasible_wide player part.point) none a) (λ (a : (suc k ≡ length m.parts) × IsErr (mean_list player m)). let o = last a.0 in no_err (mean_list player m) o.0 o.1 a.1) b) wide;
        weights = made;
        tells = tells;
      }
    where
      no_err : {A : Type 0} (r : Result A Wide) (x : A) → r ≡ Ok x → IsErr r → ⊥
      no_err (Ok y) x e h = absurd cc
      no_err (Err w) x e h = cc

      no_some : (o : Option Wide) → o ≡ None → IsSome o → ⊥
      no_some None e h = absurd cc
      no_some (Some w) e h = cc
