-- What one move along a path of choices leaves due.
use Rattle.std.proofs.Common.{◌≡◌, ℕ, zero, suc, ◌+◌, ◌-◌, ◌<◌, ◌≤◌, arith, refl, sym, ap, ap₂, subst, ◌∙◌, List, [], ◌∷◌, ◌++◌, length, get_or, set, take, get_or-set_same, get_or-set_other, add-one, length-set, All, inr}
use Rattle.std.specs.Global.{Vec}
use Rattle.std.specs.Vec.{with_item}
use Rattle.std.proofs.Math.Seq.{take-suc-set}
use Rattle.std.proofs.lemmas.List.{take-set-le}
use Rattle.zr_game.specs.Players.{GameOf}
use Rattle.zr_game.specs.declared.choice.Choice.{Choice}
use Rattle.zr_game.specs.declared.choice.Choice.TheVariants.{On, Which}
use Rattle.zr_system.specs.Asked.{ChoiceExists}
use Rattle.zr_system.specs.Regions.{LeavesOf, leaf_count}
use Rattle.zr_system.proofs.Existence.{all_append, all_one}
use Rattle.zr_refute.specs.Refuting.{then_choice}
use Rattle.zr_refute.specs.Walks.{Entered, IsPathOf, due_after, later, whiches}

-- choices past the first n make no difference to what is due after these
due_above : (leaves : LeavesOf) (choices : List Choice) (k n : ℕ) (c : Choice) → n ≤ k
    → due_after leaves (set choices k c) n ≡ due_after leaves choices n
due_above leaves choices k zero c h = refl
due_above leaves choices k (suc n) c h =
    ap₂ (λ (a b : List (List Choice)). a ++ b)
    (ap₂ (λ (p : List Choice) (d : Choice). later leaves p d)
    (take-set-le n choices k c (omega arith))
    (get_or-set_other choices k n c (On 0 0) (λ (e : n ≡ k). omega arith)))
    (due_above leaves choices k n c (omega arith))

-- one choice more
pub due_more : (leaves : LeavesOf) (choices : List Choice) (n : ℕ) (c : Choice)
    → n < length choices → due_after leaves (set choices n c) (suc n)
    ≡ later leaves (take n choices) c ++ due_after leaves choices n
due_more leaves choices n c h =
    ap₂ (λ (a b : List (List Choice)). a ++ b)
    (ap₂ (λ (p : List Choice) (d : Choice). later leaves p d)
    (take-set-le n choices n c (omega arith)) (get_or-set_same choices n c (On 0 0) h))
    (due_above leaves choices n n c (omega arith))

-- the nearest choice
pub due_nearest : (leaves : LeavesOf) (choices : List Choice) (depth : ℕ) → 0 < depth
    → due_after leaves choices depth ≡ later leaves (take (depth - 1) choices)
    (get_or choices (depth - 1) (On 0 0)) ++ due_after leaves choices (depth - 1)
due_nearest leaves choices zero h = absurd (omega arith)
due_nearest leaves choices (suc n) h =
    let e : n ≡ suc n - 1 = omega arith in
    ap (λ (k : ℕ). later leaves (take k choices) (get_or choices k (On 0 0)) ++ due_after leaves
    choices k) e

-- the nearest choice is another one now
pub turned_path : (choices : List Choice) (depth : ℕ) (c : Choice) → 0 < depth
    → depth ≤ length choices
    → take depth (set choices (depth - 1) c) ≡ then_choice (take (depth - 1) choices) c
turned_path choices zero c h l = absurd (omega arith)
turned_path choices (suc n) c h l =
    let e : n ≡ suc n - 1 = omega arith in
    ap (λ (k : ℕ). take (suc n) (set choices k c)) (sym e)
    ∙ take-suc-set choices n c (omega (arith, l))
    ∙ ap (λ (k : ℕ). take k choices ++ (c ∷ [])) e

pub turned_due : (leaves : LeavesOf) (choices : List Choice) (depth : ℕ) (c : Choice) → 0 < depth
    → depth ≤ length choices → due_after leaves (set choices (depth - 1) c) depth
    ≡ later leaves (take (depth - 1) choices) c ++ due_after leaves choices (depth - 1)
turned_due leaves choices zero c h l = absurd (omega arith)
turned_due leaves choices (suc n) c h l =
    let e : n ≡ suc n - 1 = omega arith in
    ap (λ (k : ℕ). due_after leaves (set choices k c) (suc n)) (sym e)
    ∙ due_more leaves choices n c (omega (arith, l))
    ∙ ap (λ (k : ℕ). later leaves (take k choices) c ++ due_after leaves choices k) e

-- the path goes on to the next choice at the nearest node
pub next_due : (leaves : LeavesOf) (choices : List Choice) (depth : ℕ) (old new : Choice)
    → 0 < depth → depth ≤ length choices → get_or choices (depth - 1) (On 0 0) ≡ old
    → later leaves (take (depth - 1) choices) old
    ≡ then_choice (take (depth - 1) choices) new ∷ later leaves (take (depth - 1) choices) new
    → due_after leaves choices depth ≡ take depth (set choices (depth - 1) new)
    ∷ due_after leaves (set choices (depth - 1) new) depth
next_due leaves choices depth old new h l is next =
    due_nearest leaves choices depth h
    ∙ ap (λ (c : Choice). later leaves (take (depth - 1) choices) c ++ due_after leaves choices
    (depth - 1)) is ∙ ap (λ (ps : List (List Choice)). ps ++ due_after leaves choices (depth - 1))
    next ∙ ap₂ (λ (p : List Choice) (ps : List (List Choice)). p ∷ ps)
    (sym (turned_path choices depth new h l)) (sym (turned_due leaves choices depth new h l))

-- the path goes back to the nearest node
pub back_due : (leaves : LeavesOf) (choices : List Choice) (depth : ℕ) (old : Choice)
    → 0 < depth → get_or choices (depth - 1) (On 0 0) ≡ old
    → later leaves (take (depth - 1) choices) old ≡ []
    → due_after leaves choices depth ≡ due_after leaves choices (depth - 1)
back_due leaves choices depth old h is none =
    due_nearest leaves choices depth h
    ∙ ap (λ (c : Choice). later leaves (take (depth - 1) choices) c ++ due_after leaves choices
    (depth - 1)) is ∙ ap (λ (ps : List (List Choice)). ps ++ due_after leaves choices (depth - 1))
    none

module _ (P : Choice → Type 0) where
  -- what holds of the first n choices holds of fewer
  pub all_fewer : (choices : List Choice) (m n : ℕ) → m ≤ n → All P (take n choices)
      → All P (take m choices)
  all_fewer choices zero n l h = λ k d below. absurd (let b : k < 0 = below in omega (arith, b))
  all_fewer [] (suc m) n l h = λ k d below. absurd (let b : k < 0 = below in omega (arith, b))
  all_fewer (c ∷ cs) (suc m) zero l h = absurd (omega arith)
  all_fewer (c ∷ cs) (suc m) (suc n) l h = joined (all_fewer cs m n (omega (arith, l)) (λ k d b.
      h (suc k) d (omega (arith, b))))
    where
      joined : All P (take m cs) → All P (c ∷ take m cs)
      joined r zero d below = h 0 d (omega arith)
      joined r (suc k) d below = r k d (omega (arith, below))

  pub all_turned : (choices : List Choice) (depth : ℕ) (c : Choice) → 0 < depth
      → depth ≤ length choices → All P (take depth choices) → P c
      → All P (take depth (set choices (depth - 1) c))
  all_turned choices depth c h l all here =
      subst (λ (cs : List Choice). All P cs) (sym (turned_path choices depth c h l))
      (all_append P (take (depth - 1) choices) (c ∷ [])
      (all_fewer choices (depth - 1) depth (omega arith) all) (all_one P c here))

  -- the nearest choice has what all have
  pub at_nearest : (choices : List Choice) (depth : ℕ) (d : Choice) → 0 < depth
      → depth ≤ length choices → All P (take depth choices)
      → P (get_or choices (depth - 1) d)
  at_nearest choices zero d h l all = absurd (omega arith)
  at_nearest choices (suc n) d h l all =
      let e : n ≡ suc n - 1 = omega arith in
      subst (λ (k : ℕ). P (get_or choices k d)) e (last choices n (omega (arith, l)) all)
    where
      last : (cs : List Choice) (n : ℕ) → n < length cs → All P (take (suc n) cs)
          → P (get_or cs n d)
      last [] n below a = absurd (omega arith)
      last (c ∷ cs) zero below a = a 0 d (omega arith)
      last (c ∷ cs) (suc n) below a =
          last cs n (omega (arith, below)) (λ k e b. a (suc k) e (omega (arith, b)))

-- the first choice of a node is entered
pub entered_first : (game : GameOf) (leaves : LeavesOf) (choices : Vec Choice) (depth : ℕ)
    (c : Choice)
    → depth < length choices.items
    → IsPathOf game leaves (record { choices = choices; depth = depth })
    → ChoiceExists game leaves c
    → Entered game leaves (then_choice (take depth choices.items) c
    ∷ later leaves (take depth choices.items) c) (record { choices = choices; depth = depth })
    (record { choices = with_item choices depth c; depth = depth + 1 })
entered_first game leaves choices depth c h path exists =
    let l = length-set {A = Choice} choices.items depth c in
    let p : take (depth + 1) (set choices.items depth c) ≡ then_choice (take depth choices.items) c
    = rw add-one (take-suc-set choices.items depth c h) in
    let d : due_after leaves (set choices.items depth c) (depth + 1)
    ≡ later leaves (take depth choices.items) c ++ due_after leaves choices.items depth =
    ap (λ (k : ℕ). due_after leaves (set choices.items depth c) k) (add-one depth)
    ∙ due_more leaves choices.items depth c h in
    record {
      due = inr (ap₂ (λ (a : List Choice) (b : List (List Choice)). a ∷ b) (sym p) (sym d));
      path = record {
        exist = subst (λ (cs : List Choice). All (ChoiceExists game leaves) cs) (sym p)
            (all_append (ChoiceExists game leaves) (take depth choices.items) (c ∷ []) path.exist
            (all_one (ChoiceExists game leaves) c exists));
        depth = omega (arith, l, h);
      };
      size = l;
      depth = omega arith;
    }

-- the choice of a player's first leaf, and of the others
pub first_which : (leaves : LeavesOf) (path : List Choice) (i : ℕ) → 0 < leaf_count leaves i
    → whiches path i 0 (leaf_count leaves i)
    ≡ then_choice path (Which i 0) ∷ later leaves path (Which i 0)
first_which leaves path i h = first (leaf_count leaves i) h
  where
    first : (n : ℕ) → 0 < n
        → whiches path i 0 n ≡ then_choice path (Which i 0) ∷ whiches path i 1 (n - 1)
    first zero p = absurd (omega arith)
    first (suc n) p =
        let e : n ≡ suc n - 1 = omega arith in
        ap (λ (m : ℕ). then_choice path (Which i 0) ∷ whiches path i 1 m) e
