-- Whether a list of nodes is one tree.
use Rattle.std.proofs.Common.{◌≡◌, ℕ, zero, suc, ◌+◌, ◌-◌, ◌<◌, ◌≤◌, ◌==◌, arith, refl, sym, ap, ◌∙◌, false, List, [], ◌∷◌, map, length, get_or, drop, drop-cons, add-one}
use Rattle.std.proofs.lemmas.Bool.Decides.{nat_tests}
use Rattle.std.proofs.lemmas.List.{drop_all}
use Rattle.zr_cases.specs.Forms.{is_forest_by}

-- so many trees are due after the first i nodes
abbrev pub IsDue : {A X : Type 0} → (A → X) → (X → ℕ) → List A → ℕ → ℕ → Type 0
IsDue view count nodes i due =
    is_forest_by count 1 (map view nodes) ≡ is_forest_by count due (map view (drop i nodes))

module _ {A X : Type 0} (view : A → X) (count : X → ℕ) (nodes : List A) (i due : ℕ) (before : IsDue view count nodes i due) where
  module _ (node : A) (below : i < length nodes) (is : node ≡ get_or nodes i node) where
    cut : is_forest_by count due (map view (drop i nodes)) ≡ is_forest_by count due (view node ∷ map view (drop (suc i) nodes))
    cut = ap (λ (ns : List A). is_forest_by count due (map view ns)) (drop-cons nodes i node below) ∙ ap (λ (n : A). is_forest_by count due (view n ∷ map view (drop (suc i) nodes))) (sym is)

    pub none_due : due ≡ 0 → false ≡ is_forest_by count 1 (map view nodes)
    none_due e =
        sym (before ∙ cut ∙ ap (λ (n : ℕ). is_forest_by count n (view node ∷ map view (drop (suc i) nodes))) e)

    pub due_next : 0 < due → (more : ℕ) → more ≡ count (view node) → IsDue view count nodes (i + 1) (due - 1 + more)
    due_next some more e =
        before ∙ cut ∙ step due some ∙ ap (λ (n : ℕ). is_forest_by count (due - 1 + more) (map view (drop n nodes))) (sym (add-one i))
      where
        step : (due : ℕ) → 0 < due → is_forest_by count due (view node ∷ map view (drop (suc i) nodes)) ≡ is_forest_by count (due - 1 + more) (map view (drop (suc i) nodes))
        step zero h = absurd (omega (arith, h))
        step (suc n) h =
            let m : count (view node) + n ≡ suc n - 1 + more = omega (arith, e) in
            ap (λ (k : ℕ). is_forest_by count k (map view (drop (suc i) nodes))) m

  pub all_seen : length nodes ≤ i → (due == 0) ≡ is_forest_by count 1 (map view nodes)
  all_seen end =
      sym (before ∙ ap (λ (ns : List A). is_forest_by count due (map view ns)) (drop_all i nodes end) ∙ none due)
    where
      none : (due : ℕ) → is_forest_by count due [] ≡ (due == 0)
      none zero = refl
      none (suc n) = let e : (suc n == 0) ≡ false = grind (arith, nat_tests) in sym e
