-- Trees with the same nodes: all that is said of the one is said of the other.
use Rattle.std.proofs.Common.{◌≡◌, ℕ, zero, suc, ◌+◌, ◌<◌, arith, refl, sym, ap, ap₂, subst, ◌∙◌, List, [], ◌∷◌, ◌++◌, append_assoc, length, slice_index_or, ⊎_elim, inl, inr}
use Rattle.std.proofs.lemmas.List.{append-nil}
use Rattle.zr_game.specs.Players.{GameOf}
use Rattle.zr_game.specs.declared.choice.Choice.{Choice}
use Rattle.zr_game.specs.declared.choice.Choice.TheVariants as AChoice
use Rattle.zr_game.specs.declared.kind.Kind.{Kind}
use Rattle.zr_tree.specs.declared.fault.Fault.{Fault}
use Rattle.zr_cases.specs.Cases.{RNodeOf, WhichNode, CloseNode}
use Rattle.zr_cases.specs.Trees.{CasesOf, OnOff, RowSplit, Which, Close, lists_below, preorder}
use Rattle.zr_system.specs.Regions.{LeavesOf, leaf_count}
use Rattle.zr_refute.specs.Refuting.{EndRule, RefutesBy, leaf_counts, then_choice}
use Rattle.zr_refute.specs.Steps.{EndPasses, HasWideBy, RefusedBy, size, sizes}
use Rattle.zr_refute.proofs.Walking.{count_is}

module _ (leaves : LeavesOf) where
  abbrev nodes_of : CasesOf → List RNodeOf
  nodes_of t = preorder (leaf_counts leaves) t

  -- the same cases, with the same trees for the leaves that there are
  abbrev pub Alike : CasesOf → CasesOf → Type 0
  Alike (OnOff i k a b) (OnOff j l c d) = (i ≡ j) × (k ≡ l) × Alike a c × Alike b d
  Alike (RowSplit i k s a b) (RowSplit j l r c d) = (i ≡ j) × (k ≡ l) × (s ≡ r) × Alike a c × Alike b d
  Alike (Which i f) (Which j g) = (i ≡ j) × ((k : ℕ) → k < leaf_count leaves i → Alike (f k) (g k))
  Alike (Close m) (Close n) = m ≡ n
  Alike s t = ⊥

  -- nodes in front of others tell the tree, and what follows it
  abbrev Tells : CasesOf → Type 0
  Tells s = (t : CasesOf) (us vs : List RNodeOf) → nodes_of s ++ us ≡ nodes_of t ++ vs → Alike s t × (us ≡ vs)

  below : (n : ℕ) (f g : ℕ → CasesOf) → ((k : ℕ) → Tells (f k)) → (us vs : List RNodeOf)
      → lists_below n (λ k. nodes_of (f k)) ++ us ≡ lists_below n (λ k. nodes_of (g k)) ++ vs
      → ((k : ℕ) → k < n → Alike (f k) (g k)) × (us ≡ vs)
  below zero f g each us vs e = (λ k h. absurd (omega (arith, h)), e)
  below (suc n) f g each us vs e =
      let fs = lists_below n (λ k. nodes_of (f (suc k))) in
      let gs = lists_below n (λ k. nodes_of (g (suc k))) in
      let here = each 0 (g 0) (fs ++ us) (gs ++ vs) (sym (append_assoc (nodes_of (f 0)) fs us) ∙ e ∙ append_assoc (nodes_of (g 0)) gs vs) in
      let rest = below n (λ k. f (suc k)) (λ k. g (suc k)) (λ k. each (suc k)) us vs here.1 in
      (at here.0 rest.0, rest.1)
    where
      at : Alike (f 0) (g 0) → ((k : ℕ) → k < n → Alike (f (suc k)) (g (suc k))) → (k : ℕ) → k < suc n → Alike (f k) (g k)
      at a later zero h = a
      at a later (suc k) h = later k (omega (arith, h))

  two : (a b c d us vs : List RNodeOf) → (a ++ b) ++ us ≡ (c ++ d) ++ vs → a ++ (b ++ us) ≡ c ++ (d ++ vs)
  two a b c d us vs e = sym (append_assoc a b us) ∙ e ∙ append_assoc c d vs

  tells : (s : CasesOf) → Tells s
  tells (OnOff i k a b) (OnOff j l c d) us vs e =
      let p : i ≡ j = cc in
      let q : k ≡ l = cc in
      let r : (nodes_of a ++ nodes_of b) ++ us ≡ (nodes_of c ++ nodes_of d) ++ vs = cc in
      let first = tells a c (nodes_of b ++ us) (nodes_of d ++ vs) (two (nodes_of a) (nodes_of b) (nodes_of c) (nodes_of d) us vs r) in
      let second = tells b d us vs first.1 in
      ((p, q, first.0, second.0), second.1)
  tells (OnOff i k a b) (RowSplit j l s c d) us vs e = absurd cc
  tells (OnOff i k a b) (Which j g) us vs e = absurd cc
  tells (OnOff i k a b) (Close m) us vs e = absurd cc
  tells (RowSplit i k s a b) (RowSplit j l r c d) us vs e =
      let p : i ≡ j = cc in
      let q : k ≡ l = cc in
      let o : s ≡ r = cc in
      let t : (nodes_of a ++ nodes_of b) ++ us ≡ (nodes_of c ++ nodes_of d) ++ vs = cc in
      let first = tells a c (nodes_of b ++ us) (nodes_of d ++ vs) (two (nodes_of a) (nodes_of b) (nodes_of c) (nodes_of d) us vs t) in
      let second = tells b d us vs first.1 in
      ((p, q, o, first.0, second.0), second.1)
  tells (RowSplit i k s a b) (OnOff j l c d) us vs e = absurd cc
  tells (RowSplit i k s a b) (Which j g) us vs e = absurd cc
  tells (RowSplit i k s a b) (Close m) us vs e = absurd cc
  tells (Which i f) (Which j g) us vs e =
      let p : i ≡ j = cc in
      let n = slice_index_or (leaf_counts leaves) i 0 in
      let m = slice_index_or (leaf_counts leaves) j 0 in
      let r : lists_below n (λ k. nodes_of (f k)) ++ us ≡ lists_below m (λ k. nodes_of (g k)) ++ vs = cc in
      let o = subst (λ (x : ℕ). lists_below n (λ k. nodes_of (f k)) ++ us ≡ lists_below (slice_index_or (leaf_counts leaves) x 0) (λ k. nodes_of (g k)) ++ vs) (sym p) r in
      let b = below n f g (λ k. tells (f k)) us vs o in
      ((p, λ k h. b.0 k (let c = count_is leaves.regions i in omega (arith, h, c))), b.1)
  tells (Which i f) (OnOff j l c d) us vs e = absurd cc
  tells (Which i f) (RowSplit j l s c d) us vs e = absurd cc
  tells (Which i f) (Close m) us vs e = absurd cc
  tells (Close m) (Close n) us vs e = let p : m ≡ n = cc in let q : us ≡ vs = cc in (p, q)
  tells (Close m) (OnOff j l c d) us vs e = absurd cc
  tells (Close m) (RowSplit j l s c d) us vs e = absurd cc
  tells (Close m) (Which j g) us vs e = absurd cc

  -- trees with the same nodes are alike
  pub are_alike : (s t : CasesOf) → nodes_of s ≡ nodes_of t → Alike s t
  are_alike s t e =
      (tells s t [] [] (append-nil (nodes_of s) ∙ e ∙ sym (append-nil (nodes_of t)))).0

  below_nodes : (n : ℕ) (f g : ℕ → CasesOf) → ((k : ℕ) → k < n → nodes_of (f k) ≡ nodes_of (g k))
      → lists_below n (λ k. nodes_of (f k)) ≡ lists_below n (λ k. nodes_of (g k))
  below_nodes zero f g each = refl
  below_nodes (suc n) f g each =
      ap₂ (λ (xs ys : List RNodeOf). xs ++ ys) (each 0 (omega arith))
      (below_nodes n (λ k. f (suc k)) (λ k. g (suc k)) (λ k h. each (suc k) (omega (arith, h))))

  -- alike trees have the same nodes
  pub same_nodes : (s t : CasesOf) → Alike s t → nodes_of s ≡ nodes_of t
  same_nodes (OnOff i k a b) (OnOff j l c d) s =
      rw (s.0, s.1, same_nodes a c s.2, same_nodes b d s.3) refl
  same_nodes (RowSplit i k x a b) (RowSplit j l y c d) s =
      rw (s.0, s.1, s.2, same_nodes a c s.3, same_nodes b d s.4) refl
  same_nodes (Which i f) (Which j g) s =
      ap (λ ns. WhichNode i ∷ ns) (below_nodes (slice_index_or (leaf_counts leaves) i 0) f g (λ k h. same_nodes (f k) (g k) (s.1 k (let c = count_is leaves.regions i in omega (arith, h, c)))))
      ∙ ap (λ (x : ℕ). WhichNode x ∷ lists_below (slice_index_or (leaf_counts leaves) x 0) (λ k. nodes_of (g k))) s.0
  same_nodes (Close m) (Close n) s = ap (λ mult. CloseNode mult ∷ []) s
  same_nodes (OnOff i k a b) (RowSplit j l s c d) h = absurd h
  same_nodes (OnOff i k a b) (Which j g) h = absurd h
  same_nodes (OnOff i k a b) (Close m) h = absurd h
  same_nodes (RowSplit i k s a b) (OnOff j l c d) h = absurd h
  same_nodes (RowSplit i k s a b) (Which j g) h = absurd h
  same_nodes (RowSplit i k s a b) (Close m) h = absurd h
  same_nodes (Which i f) (OnOff j l c d) h = absurd h
  same_nodes (Which i f) (RowSplit j l s c d) h = absurd h
  same_nodes (Which i f) (Close m) h = absurd h
  same_nodes (Close m) (OnOff j l c d) h = absurd h
  same_nodes (Close m) (RowSplit j l s c d) h = absurd h
  same_nodes (Close m) (Which j g) h = absurd h

  same_size : (s t : CasesOf) → Alike s t → size leaves s ≡ size leaves t
  same_size s t a = ap length (same_nodes s t a)

  same_sizes : (k : ℕ) (f g : ℕ → CasesOf) → ((l : ℕ) → l < k → Alike (f l) (g l)) → sizes leaves f k ≡ sizes leaves g k
  same_sizes k f g each = ap length (below_nodes k f g (λ l h. same_nodes (f l) (g l) (each l h)))

  module _ (game : GameOf) (kind : Kind) where
    -- the one refutes where the other does
    pub refutes_alike : (rule : EndRule) (path : List Choice) (s t : CasesOf) → Alike s t
        → RefutesBy rule game leaves kind path s → RefutesBy rule game leaves kind path t
    refutes_alike rule path (OnOff i k a b) (OnOff j l c d) e h =
        let p = refutes_alike rule (then_choice path (AChoice.On i k)) a c e.2 h.1 in
        let q = refutes_alike rule (then_choice path (AChoice.Off i k)) b d e.3 h.2 in
        rw (sym e.0, sym e.1) (h.0, p, q)
    refutes_alike rule path (RowSplit i k x a b) (RowSplit j l y c d) e h =
        let p = refutes_alike rule (then_choice path (AChoice.Zero i k x)) a c e.3 h.1 in
        let q = refutes_alike rule (then_choice path (AChoice.Tight i k x)) b d e.4 h.2 in
        rw (sym e.0, sym e.1, sym e.2) (h.0, p, q)
    refutes_alike rule path (Which i f) (Which j g) e h =
        rw (sym e.0) (h.0, λ k below. refutes_alike rule (then_choice path (AChoice.Which i k)) (f k) (g k) (e.1 k below) (h.1 k below))
    refutes_alike rule path (Close m) (Close n) e h = subst (rule path) e h
    refutes_alike rule path (OnOff i k a b) (RowSplit j l s c d) e h = absurd e
    refutes_alike rule path (OnOff i k a b) (Which j g) e h = absurd e
    refutes_alike rule path (OnOff i k a b) (Close m) e h = absurd e
    refutes_alike rule path (RowSplit i k s a b) (OnOff j l c d) e h = absurd e
    refutes_alike rule path (RowSplit i k s a b) (Which j g) e h = absurd e
    refutes_alike rule path (RowSplit i k s a b) (Close m) e h = absurd e
    refutes_alike rule path (Which i f) (OnOff j l c d) e h = absurd e
    refutes_alike rule path (Which i f) (RowSplit j l s c d) e h = absurd e
    refutes_alike rule path (Which i f) (Close m) e h = absurd e
    refutes_alike rule path (Close m) (OnOff j l c d) e h = absurd e
    refutes_alike rule path (Close m) (RowSplit j l s c d) e h = absurd e
    refutes_alike rule path (Close m) (Which j g) e h = absurd e

    -- a step of the one is too wide where one of the other is
    pub wide_alike : (wide : EndRule) (path : List Choice) (s t : CasesOf) → Alike s t
        → HasWideBy wide game leaves kind path s → HasWideBy wide game leaves kind path t
    wide_alike wide path (OnOff i k a b) (OnOff j l c d) e h =
        rw (sym e.0, sym e.1) (
          h.0,
          ⊎_elim
              (λ u. inl (wide_alike wide (then_choice path (AChoice.On i k)) a c e.2 u))
              (λ u. inr (wide_alike wide (then_choice path (AChoice.Off i k)) b d e.3 u)) h.1,
        )
    wide_alike wide path (RowSplit i k x a b) (RowSplit j l y c d) e h =
        rw (sym e.0, sym e.1, sym e.2) (
          h.0,
          ⊎_elim
              (λ u. inl (wide_alike wide (then_choice path (AChoice.Zero i k x)) a c e.3 u))
              (λ u. inr (wide_alike wide (then_choice path (AChoice.Tight i k x)) b d e.4 u)) h.1,
        )
    wide_alike wide path (Which i f) (Which j g) e h =
        let u = h.1 in
        rw (sym e.0) (h.0, (u.0, u.1, wide_alike wide (then_choice path (AChoice.Which i u.0)) (f u.0) (g u.0) (e.1 u.0 u.1) u.2))
    wide_alike wide path (Close m) (Close n) e h = subst (wide path) e h
    wide_alike wide path (OnOff i k a b) (RowSplit j l s c d) e h = absurd e
    wide_alike wide path (OnOff i k a b) (Which j g) e h = absurd e
    wide_alike wide path (OnOff i k a b) (Close m) e h = absurd e
    wide_alike wide path (RowSplit i k s a b) (OnOff j l c d) e h = absurd e
    wide_alike wide path (RowSplit i k s a b) (Which j g) e h = absurd e
    wide_alike wide path (RowSplit i k s a b) (Close m) e h = absurd e
    wide_alike wide path (Which i f) (OnOff j l c d) e h = absurd e
    wide_alike wide path (Which i f) (RowSplit j l s c d) e h = absurd e
    wide_alike wide path (Which i f) (Close m) e h = absurd e
    wide_alike wide path (Close m) (OnOff j l c d) e h = absurd e
    wide_alike wide path (Close m) (RowSplit j l s c d) e h = absurd e
    wide_alike wide path (Close m) (Which j g) e h = absurd e

    -- both have the same fault
    pub refused_alike : (right wide : EndRule) (n : ℕ) (path : List Choice) (s t : CasesOf) (fault : Fault) → Alike s t
        → RefusedBy right wide game leaves kind n path s fault → RefusedBy right wide game leaves kind n path t fault
    refused_alike right wide n path (OnOff i k a b) (OnOff j l c d) fault e h =
        let on = then_choice path (AChoice.On i k) in
        let off = then_choice path (AChoice.Off i k) in
        let z = same_size a c e.2 in
        rw (sym e.0, sym e.1) (⊎_elim (λ u. inl u) (λ u. inr (⊎_elim
        (λ v. inl (v.0, refused_alike right wide (n + 1) on a c fault e.2 v.1))
        (λ v. inr (
          v.0,
          refutes_alike (EndPasses right wide) on a c e.2 v.1,
          subst (λ m. RefusedBy right wide game leaves kind (n + 1 + m) off d fault) z
              (refused_alike right wide (n + 1 + size leaves a) off b d fault e.3 v.2),
        )) u)) h)
    refused_alike right wide n path (RowSplit i k x a b) (RowSplit j l y c d) fault e h =
        let at_zero = then_choice path (AChoice.Zero i k x) in
        let tight = then_choice path (AChoice.Tight i k x) in
        let z = same_size a c e.3 in
        rw (sym e.0, sym e.1, sym e.2) (⊎_elim (λ u. inl u) (λ u. inr (⊎_elim
        (λ v. inl (v.0, refused_alike right wide (n + 1) at_zero a c fault e.3 v.1))
        (λ v. inr (
          v.0,
          refutes_alike (EndPasses right wide) at_zero a c e.3 v.1,
          subst (λ m. RefusedBy right wide game leaves kind (n + 1 + m) tight d fault) z
              (refused_alike right wide (n + 1 + size leaves a) tight b d fault e.4 v.2),
        )) u)) h)
    refused_alike right wide n path (Which i f) (Which j g) fault e h =
        rw (sym e.0) (⊎_elim (λ u. inl u) (λ u. inr (
          u.0,
          (let v = u.1 in (
            v.0,
            v.1,
            λ l before. refutes_alike (EndPasses right wide) (then_choice path (AChoice.Which i l)) (f l) (g l) (e.1 l (let b = v.1 in omega (arith, before, b))) (v.2 l before),
            subst (λ m. RefusedBy right wide game leaves kind (n + 1 + m) (then_choice path (AChoice.Which i v.0)) (g v.0) fault)
                (same_sizes v.0 f g (λ l before. e.1 l (let b = v.1 in omega (arith, before, b))))
                (refused_alike right wide (n + 1 + sizes leaves f v.0) (then_choice path (AChoice.Which i v.0)) (f v.0) (g v.0) fault (e.1 v.0 v.1) v.3),
          )),
        )) h)
    refused_alike right wide n path (Close m) (Close o) fault e h =
        subst (λ mult. RefusedBy right wide game leaves kind n path (Close mult) fault) e h
    refused_alike right wide n path (OnOff i k a b) (RowSplit j l s c d) fault e h = absurd e
    refused_alike right wide n path (OnOff i k a b) (Which j g) fault e h = absurd e
    refused_alike right wide n path (OnOff i k a b) (Close m) fault e h = absurd e
    refused_alike right wide n path (RowSplit i k s a b) (OnOff j l c d) fault e h = absurd e
    refused_alike right wide n path (RowSplit i k s a b) (Which j g) fault e h = absurd e
    refused_alike right wide n path (RowSplit i k s a b) (Close m) fault e h = absurd e
    refused_alike right wide n path (Which i f) (OnOff j l c d) fault e h = absurd e
    refused_alike right wide n path (Which i f) (RowSplit j l s c d) fault e h = absurd e
    refused_alike right wide n path (Which i f) (Close m) fault e h = absurd e
    refused_alike right wide n path (Close m) (OnOff j l c d) fault e h = absurd e
    refused_alike right wide n path (Close m) (RowSplit j l s c d) fault e h = absurd e
    refused_alike right wide n path (Close m) (Which j g) fault e h = absurd e
