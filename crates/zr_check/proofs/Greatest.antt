-- The greatest number of nodes among trees.
use Rattle.std.proofs.Common.{◌≡◌, ℕ, ◌+◌, ◌<◌, ◌≤◌, arith, sym, ap, ◌∙◌, List, length, map, get_or, All, max, ◌≢◌, ⊎_elim}
use Rattle.std.proofs.lemmas.Bool.{cases_eq}
use Rattle.std.proofs.lemmas.List.Elements.{All-map}
use Rattle.zr_base.proofs.SumSteps.{get_or_default}
use Rattle.zr_tree.specs.Nodes.{NodeOf}

-- the trees of the first i items have at most so many nodes
abbrev pub AreWithin : {A : Type 0} → (A → List NodeOf) → ℕ → List A → ℕ → Type 0
AreWithin {A = A} nodes i items most =
    (k : ℕ) (d : A) → k < i → length (nodes (get_or items k d)) ≤ most

module _ {A : Type 0} (nodes : A → List NodeOf) (items : List A) where
  pub more_within : (i most here : ℕ) (item : A) → i < length items
      → item ≡ get_or items i item → here ≡ length (nodes item) → AreWithin nodes i items most
      → AreWithin nodes (i + 1) items (max here most)
  more_within i most here item below is count before k d h =
      ⊎_elim
      (λ (e : k ≡ i). let s : item ≡ get_or items k d = is ∙ get_or_default items i item d below
      ∙ ap (λ (n : ℕ). get_or items n d) (sym e) in
      let c = ap (λ (b : A). length (nodes b)) s in omega (arith, count, c))
      (λ (n : k ≢ i). let b = before k d (omega (arith, h, n)) in omega (arith, b))
      (cases_eq k i)

  pub each_within : (i most : ℕ) → length items ≤ i → AreWithin nodes i items most
      → All (λ (item : A). length (nodes item) ≤ most) items
  each_within i most end before k d h = before k d (omega (arith, h, end))

  pub all_within : (i most : ℕ) → length items ≤ i → AreWithin nodes i items most
      → All (λ (list : List NodeOf). length list ≤ most) (map nodes items)
  all_within i most end before =
      All-map (λ (list : List NodeOf). length list ≤ most) nodes items
      (each_within i most end before)
