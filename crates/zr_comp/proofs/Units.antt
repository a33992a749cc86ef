-- How many units an open tree of cases has at most.
use Rattle.std.proofs.Common.{◌≡◌, ◌≢◌, ℕ, zero, suc, ◌+◌, ◌*◌, ◌^◌, ◌<◌, ◌≤◌, arith, refl, sym, subst, ◌∙◌, Bool, true, false, IsTrue, if◌then◌else◌, List, [], ◌∷◌, ◌++◌, length, inl, inr, ◌⊎◌, ⊎_elim}
use Rattle.std.specs.Prelude.{Option}
use Rattle.std.specs.Option.{is_some}
use Rattle.std.specs.List.{Contains}
use Rattle.std.proofs.Math.Nat.{mul-le-mul_right, pow-succ'}
use Rattle.std.proofs.lemmas.Nat.{pow-add}
use Rattle.std.proofs.lemmas.Bool.{cases_eq}
use Rattle.std.proofs.lemmas.List.Elements.{Contains-append_left, Contains-append_right, Contains-push}
use Rattle.zr_game.specs.Leaves.{Bound, slot_of}
use Rattle.zr_game.specs.Players.{GameOf}
use Rattle.zr_game.specs.declared.choice.Choice.{Choice}
use Rattle.zr_game.specs.declared.choice.Choice.TheVariants as AChoice
use Rattle.zr_game.specs.declared.kind.Kind.{Kind}
use Rattle.zr_cases.specs.Cases.{RNodeOf, OnOffNode, RowNode}
use Rattle.zr_cases.specs.Trees.{CasesOf, OnOff, RowSplit, Which, Close}
use Rattle.zr_system.specs.Asked.{LeafExists, SlotExists}
use Rattle.zr_system.specs.Choices.{IsLeafDecided, IsSlotDecided}
use Rattle.zr_system.specs.Regions.{LeavesOf, all_slots, is_exact, is_present, leaf_count, slot_count}
use Rattle.zr_system.specs.Unknowns.{list_to, over_present}
use Rattle.zr_refute.specs.Refuting.{IsOpenLeaf, then_choice}
use Rattle.zr_comp.specs.OpenCases.{IsOpenCases, case_units, total_below, which_units}
use Rattle.zr_comp.specs.Sizes.{all_nodes, leaf_nodes}

-- ---- lists without an item

-- what a list contains, by cases
first_or_later : {A : Type 0} (x : A) (xs : List A) (z : A) → Contains (x ∷ xs) z
    → (x ≡ z) ⊎ Contains xs z
first_or_later x xs z (zero, below, is) = inl is
first_or_later x xs z (suc k, below, is) = inr (k, (let b = below in omega (arith, b)), is)

later : {A : Type 0} (x : A) (xs : List A) (z : A) → Contains xs z → Contains (x ∷ xs) z
later x xs z h = (suc h.0, (let b = h.1 in omega (arith, b)), h.2)

-- the list without one item that it contains
pub record IsWithout {A : Type 0} (xs : List A) (x : A) : Type 0 where
  pub rest : List A
  pub shorter : length xs ≡ suc (length rest)
  pub others : (z : A) → Contains xs z → z ≢ x → Contains rest z

without : {A : Type 0} (xs : List A) (x : A) → Contains xs x → IsWithout xs x
without [] x h = absurd (let b = h.1 in omega (arith, b))
without (y ∷ ys) x h = ⊎_elim (λ (e : y ≡ x). here e)
    (λ (l : Contains ys x). there (without ys x l)) (first_or_later y ys x h)
  where
    here : y ≡ x → IsWithout (y ∷ ys) x
    here e = record {
      rest = ys;
      shorter = refl;
      others = λ z has apart. ⊎_elim (λ (f : y ≡ z). absurd (apart (sym f ∙ e)))
          (λ (l : Contains ys z). l) (first_or_later y ys z has);
    }

    there : IsWithout ys x → IsWithout (y ∷ ys) x
    there w = record {
      rest = y ∷ w.rest;
      shorter = (let l = w.shorter in omega (arith, l));
      others = λ z has apart. ⊎_elim (λ (f : y ≡ z). (0, omega arith, f))
          (λ (l : Contains ys z). later y w.rest z (w.others z l apart))
          (first_or_later y ys z has);
    }

-- the list without n items, all different, that it contains
pub record IsWithoutAll {A : Type 0} (xs : List A) (n : ℕ) (f : ℕ → A) : Type 0 where
  pub rest : List A
  pub shorter : length xs ≡ n + length rest
  pub others : (z : A) → Contains xs z → ((k : ℕ) → k < n → z ≢ f k) → Contains rest z

without_all : {A : Type 0} (n : ℕ) (xs : List A) (f : ℕ → A)
    → ((k : ℕ) → k < n → Contains xs (f k))
    → ((j k : ℕ) → j < k → f j ≢ f k) → IsWithoutAll xs n f
without_all zero xs f has apart = record {
  rest = xs;
  shorter = omega arith;
  others = λ z h none. h;
}
without_all (suc n) xs f has apart =
    let w = without xs (f n) (has n (omega arith)) in
    let r = without_all n w.rest f (λ k h. w.others (f k) (has k (omega (arith, h)))
    (apart k n h)) apart in
    let l = w.shorter in
    let m = r.shorter in record {
      rest = r.rest;
      shorter = omega (arith, l, m);
      others = λ z h none. r.others z (w.others z h (none n (omega arith)))
          (λ k b. none k (omega (arith, b)));
    }

if_so : {A : Type 0} (b : Bool) (xs : List A) (x : A) → b ≡ true → Contains xs x
    → Contains (if b then xs else []) x
if_so true xs x e h = h
if_so false xs x e h = absurd cc

if_present : {A : Type 0} (b : Bool) (x : A) → IsTrue b → Contains (if b then x ∷ [] else []) x
if_present true x h = (0, omega arith, refl)
if_present false x h = absurd cc

present_below : (slots : List (Option Bound)) (s : ℕ) → IsTrue (is_some (slot_of slots s))
    → s < length slots
present_below [] s h = absurd cc
present_below (slot ∷ slots) zero h = omega arith
present_below (slot ∷ slots) (suc s) h = let r = present_below slots s h in omega (arith, r)

-- ---- numbers of units

total_most : (n m : ℕ) (f : ℕ → ℕ) → ((k : ℕ) → k < n → f k + 1 ≤ m) → total_below n f + n ≤ n * m
total_most zero m f h = omega arith
total_most (suc n) m f h =
    let r = total_most n m (λ k. f (suc k)) (λ k b. h (suc k) (omega (arith, b))) in
    let z = h 0 (omega arith) in
    omega (arith, r, z)

below_power : (n : ℕ) → n + 1 ≤ 2 ^ n
below_power zero = omega arith
below_power (suc n) =
    let r = below_power n in
    let p = pow-succ' 2 n in
    omega (arith, r, p)

-- one case more
one_more : (n u v : ℕ) → u + 1 ≤ 2 ^ n → v + 1 ≤ 2 ^ n → (1 + u + v) + 1 ≤ 2 ^ suc n
one_more n u v a b = let p = pow-succ' 2 n in omega (arith, a, b, p)

-- a choice among n leaves
which_most : (n m total : ℕ) → total + n ≤ n * 2 ^ m → (which_units n + total) + 1 ≤ 2 ^ (n + m)
which_most zero m total h =
    let r = below_power m in
    let e : 0 + m ≡ m = omega arith in
    subst (λ (k : ℕ). 0 + total + 1 ≤ 2 ^ k) (sym e) (omega (arith, h, r))
which_most (suc zero) m total h =
    let r = below_power m in
    let p = pow-succ' 2 m in
    let e : 1 + m ≡ suc m = omega arith in
    subst (λ (k : ℕ). 1 + total + 1 ≤ 2 ^ k) (sym e) (omega (arith, h, r, p))
which_most (suc (suc n)) m total h =
    let b = below_power (suc (suc n)) in
    let c : suc (suc n) ≤ 2 ^ suc (suc n) = omega (arith, b) in
    let d = mul-le-mul_right (2 ^ m) c in
    let p = pow-add 2 (suc (suc n)) m in
    subst (λ (k : ℕ). suc n + total + 1 ≤ k) (sym p) (omega (arith, h, d))

-- ---- what is open is among the nodes

module _ (game : GameOf) (leaves : LeavesOf) (kind : Kind) where
  -- the nodes of all cases that may still be made
  pub record HoldOpen (path : List Choice) (nodes : List RNodeOf) : Type 0 where
    pub leaf : (i k : ℕ) → IsOpenLeaf game leaves path i k → Contains nodes (OnOffNode i k)
    pub slot : (i k s : ℕ) → SlotExists game leaves i k s → (IsSlotDecided path i k s → ⊥)
        → Contains nodes (RowNode i k s)

  -- what is decided stays so
  leaf_stays : (path : List Choice) (c : Choice) (i k : ℕ) → IsLeafDecided path i k
      → IsLeafDecided (then_choice path c) i k
  leaf_stays path c i k (inl on) = inl (Contains-append_left path (c ∷ []) (AChoice.On i k) on)
  leaf_stays path c i k (inr (inl off)) =
      inr (inl (Contains-append_left path (c ∷ []) (AChoice.Off i k) off))
  leaf_stays path c i k (inr (inr w)) =
      inr (inr (w.0, Contains-append_left path (c ∷ []) (AChoice.Which i w.0) w.1))

  slot_stays : (path : List Choice) (c : Choice) (i k s : ℕ) → IsSlotDecided path i k s
      → IsSlotDecided (then_choice path c) i k s
  slot_stays path c i k s (inl at_zero) =
      inl (Contains-append_left path (c ∷ []) (AChoice.Zero i k s) at_zero)
  slot_stays path c i k s (inr at_tight) =
      inr (Contains-append_left path (c ∷ []) (AChoice.Tight i k s) at_tight)

  -- after a choice of the leaf its node may be left out
  after_leaf : (path : List Choice) (c : Choice) (i k : ℕ) (nodes : List RNodeOf)
      → HoldOpen path nodes → IsLeafDecided (then_choice path c) i k
      → (w : IsWithout nodes (OnOffNode i k)) → HoldOpen (then_choice path c) w.rest
  after_leaf path c i k nodes hold decided w = record {
    leaf = λ j l opens. w.others (OnOffNode j l)
        (hold.leaf j l (opens.0, λ d. opens.1 (leaf_stays path c j l d)))
        (λ e. (let p : j ≡ i = cc in let q : l ≡ k = cc in
        opens.1 (subst (λ (m : ℕ). IsLeafDecided (then_choice path c) m l) (sym p)
        (subst (λ (m : ℕ). IsLeafDecided (then_choice path c) i m) (sym q) decided))));
    slot = λ j l s there open_slot. w.others (RowNode j l s)
        (hold.slot j l s there (λ d. open_slot (slot_stays path c j l s d))) (λ e. cc);
  }

  -- and after one of the slot
  after_slot : (path : List Choice) (c : Choice) (i k s : ℕ) (nodes : List RNodeOf)
      → HoldOpen path nodes → IsSlotDecided (then_choice path c) i k s
      → (w : IsWithout nodes (RowNode i k s)) → HoldOpen (then_choice path c) w.rest
  after_slot path c i k s nodes hold decided w = record {
    leaf = λ j l opens. w.others (OnOffNode j l)
        (hold.leaf j l (opens.0, λ d. opens.1 (leaf_stays path c j l d))) (λ e. cc);
    slot = λ j l t there open_slot. w.others (RowNode j l t)
        (hold.slot j l t there (λ d. open_slot (slot_stays path c j l t d)))
        (λ e. (let p : j ≡ i = cc in let q : l ≡ k = cc in let r : t ≡ s = cc in
        open_slot (subst (λ (m : ℕ). IsSlotDecided (then_choice path c) m l t) (sym p)
        (subst (λ (m : ℕ). IsSlotDecided (then_choice path c) i m t) (sym q)
        (subst (λ (m : ℕ). IsSlotDecided (then_choice path c) i k m) (sym r) decided)))));
  }

  -- and after one among the player's leaves those of all of them
  after_which : (path : List Choice) (i k : ℕ) (nodes : List RNodeOf) → HoldOpen path nodes
      → (w : IsWithoutAll nodes (leaf_count leaves i) (λ l. OnOffNode i l))
      → HoldOpen (then_choice path (AChoice.Which i k)) w.rest
  after_which path i k nodes hold w =
      let c = AChoice.Which i k in record {
        leaf = λ j l opens. w.others (OnOffNode j l)
            (hold.leaf j l (opens.0, λ d. opens.1 (leaf_stays path c j l d)))
            (λ m below e. (let p : j ≡ i = cc in
            opens.1 (inr (inr (
              k,
              subst (λ (n : ℕ). Contains (then_choice path c) (AChoice.Which n k)) (sym p)
                  (Contains-push path c),
            )))));
        slot = λ j l s there open_slot. w.others (RowNode j l s)
            (hold.slot j l s there (λ d. open_slot (slot_stays path c j l s d))) (λ m below e. cc);
      }

  most : (path : List Choice) (t : CasesOf) (nodes : List RNodeOf) → HoldOpen path nodes
      → IsOpenCases game leaves kind path t → case_units leaves t + 1 ≤ 2 ^ length nodes
  most path (OnOff i k on off) nodes hold opens =
      let w = without nodes (OnOffNode i k) (hold.leaf i k opens.1) in
      let a = most (then_choice path (AChoice.On i k)) on w.rest
      (after_leaf path (AChoice.On i k) i k nodes hold
      (inl (Contains-push path (AChoice.On i k))) w)
      opens.2 in
      let b = most (then_choice path (AChoice.Off i k)) off w.rest
      (after_leaf path (AChoice.Off i k) i k nodes hold
      (inr (inl (Contains-push path (AChoice.Off i k)))) w) opens.3 in
      subst (λ (n : ℕ). 1 + case_units leaves on + case_units leaves off + 1 ≤ 2 ^ n)
      (sym w.shorter)
      (one_more (length w.rest) (case_units leaves on) (case_units leaves off) a b)
  most path (RowSplit i k s on off) nodes hold opens =
      let w = without nodes (RowNode i k s) (hold.slot i k s opens.1.0 opens.1.2) in
      let a = most (then_choice path (AChoice.Zero i k s)) on w.rest
      (after_slot path (AChoice.Zero i k s) i k s nodes hold
      (inl (Contains-push path (AChoice.Zero i k s))) w) opens.2 in
      let b = most (then_choice path (AChoice.Tight i k s)) off w.rest
      (after_slot path (AChoice.Tight i k s) i k s nodes hold
      (inr (Contains-push path (AChoice.Tight i k s))) w) opens.3 in
      subst (λ (n : ℕ). 1 + case_units leaves on + case_units leaves off + 1 ≤ 2 ^ n)
      (sym w.shorter)
      (one_more (length w.rest) (case_units leaves on) (case_units leaves off) a b)
  most path (Which i trees) nodes hold opens =
      let n = leaf_count leaves i in
      let w = without_all n nodes (λ k. OnOffNode i k)
      (λ k b. hold.leaf i k ((opens.1.1, b), opens.1.2 k))
      (λ j k b e. (let p : j ≡ k = cc in omega (arith, b, p))) in
      let each : (k : ℕ) → k < n → case_units leaves (trees k) + 1 ≤ 2 ^ length w.rest =
      λ k b. most (then_choice path (AChoice.Which i k)) (trees k) w.rest
      (after_which path i k nodes hold w) (opens.2 k b) in
      let t = total_most n (2 ^ length w.rest) (λ k. case_units leaves (trees k)) each in
      subst (λ (m : ℕ). which_units n + total_below n (λ k. case_units leaves (trees k)) + 1 ≤ 2
      ^ m)
      (sym w.shorter)
      (which_most n (length w.rest) (total_below n (λ k. case_units leaves (trees k))) t)
  most path (Close mult) nodes hold opens =
      let b = below_power (length nodes) in omega (arith, b)

  -- ---- all nodes hold what is open under no choice

  in_list : {A : Type 0} (n : ℕ) (f : ℕ → List A) (k : ℕ) (x : A) → k < n → Contains (f k) x
      → Contains (list_to n f) x
  in_list zero f k x b h = absurd (omega (arith, b))
  in_list (suc n) f k x b h =
      ⊎_elim (λ (e : k ≡ n). Contains-append_right (list_to n f) (f n) x
      (subst (λ (m : ℕ). Contains (f m) x) e h))
      (λ (a : k ≢ n). Contains-append_left (list_to n f) (f n) x
      (in_list n f k x (omega (arith, b, a)) h))
      (cases_eq k n)

  in_nodes : (i k : ℕ) (x : RNodeOf) → LeafExists game leaves i k
      → Contains (leaf_nodes game leaves i k) x → Contains (all_nodes game leaves) x
  in_nodes i k x there h =
      in_list (length game) (λ j. list_to (leaf_count leaves j)
      (λ l. leaf_nodes game leaves j l)) i x
      there.0
      (in_list (leaf_count leaves i) (λ l. leaf_nodes game leaves i l) k x there.1 h)

  slot_node : (i k s : ℕ) → SlotExists game leaves i k s
      → Contains (leaf_nodes game leaves i k) (RowNode i k s)
  slot_node i k s there =
      later (OnOffNode i k) (if is_exact leaves i k then over_present game leaves i k
      (λ t. RowNode i k t) else [])
      (RowNode i k s)
      (if_so (is_exact leaves i k) (over_present game leaves i k (λ t. RowNode i k t))
      (RowNode i k s)
      there.1
      (in_list (slot_count game leaves i k)
      (λ t. if is_present game leaves i k t then RowNode i k t ∷ [] else []) s (RowNode i k s)
      (present_below (all_slots game leaves i k) s there.2)
      (if_present (is_present game leaves i k s) (RowNode i k s) there.2)))

  all_hold : HoldOpen [] (all_nodes game leaves)
  all_hold = record {
    leaf = λ i k opens. in_nodes i k (OnOffNode i k) opens.0 (0, omega arith, refl);
    slot = λ i k s there open_slot. in_nodes i k (RowNode i k s) there.0 (slot_node i k s there);
  }

  pub few_units : (t : CasesOf) → IsOpenCases game leaves kind [] t
      → case_units leaves t + 1 ≤ 2 ^ length (all_nodes game leaves)
  few_units t opens = most [] t (all_nodes game leaves) all_hold opens
