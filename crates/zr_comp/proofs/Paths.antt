-- Choices on a path, and when it is complete.
use Rattle.std.proofs.Common.{◌≡◌, ◌≢◌, ℕ, zero, suc, ◌+◌, ◌<◌, arith, refl, sym, ap, subst, ◌∙◌, List, [], ◌∷◌, ◌++◌, length, get_or, All, append_assoc, ⊎_elim, inl, inr, ◌⊎◌}
use Rattle.std.specs.List.{Contains}
use Rattle.std.proofs.lemmas.List.{append-nil}
use Rattle.std.proofs.lemmas.List.Elements.{All-contains, All-nil, All-push, Contains-push_cases}
use Rattle.zr_game.specs.Players.{GameOf}
use Rattle.zr_game.specs.declared.choice.Choice.{Choice}
use Rattle.zr_game.specs.declared.choice.Choice.TheVariants as AChoice
use Rattle.zr_game.specs.declared.kind.Kind.{Kind}
use Rattle.zr_game.specs.declared.kind.Kind.TheVariants.{Pure, Mixed}
use Rattle.zr_system.specs.Asked.{ChoiceExists, LeafExists}
use Rattle.zr_system.specs.Choices.{AreSlotsDecided, IsComplete, IsLeafComplete, IsLeafDecided, IsUsed}
use Rattle.zr_system.specs.Regions.{LeavesOf, leaf_count}
use Rattle.zr_refute.specs.Refuting.{IsOpenLeaf, then_choice}
use Rattle.zr_comp.specs.Cases.{AreMade, HasChosen, HasSide, IsChoiceList, IsDuePath, SuitsOne}
use Rattle.zr_comp.specs.OpenPaths.{AreOnce, AreOpenChoices, MayChoose, SuitsKind}
use Rattle.zr_comp.proofs.Suiting.{suits_more}

module _ (game : GameOf) (leaves : LeavesOf) where
  may_exist : (kind : Kind) (path : List Choice) (c : Choice) → MayChoose game leaves kind path c
      → ChoiceExists game leaves c
  may_exist kind path (AChoice.On i k) h = h.0
  may_exist kind path (AChoice.Off i k) h = h.0
  may_exist kind path (AChoice.Zero i k s) h = h.0
  may_exist kind path (AChoice.Tight i k s) h = h.0
  may_exist kind path (AChoice.Which i k) h = (h.0.1, h.1)

  -- a choice that may be made wasn't made
  may_be_new : (kind : Kind) (path : List Choice) (c : Choice) → MayChoose game leaves kind path c
      → Contains path c → ⊥
  may_be_new kind path (AChoice.On i k) h has = h.1 (inl has)
  may_be_new kind path (AChoice.Off i k) h has = h.1 (inr (inl has))
  may_be_new kind path (AChoice.Zero i k s) h has = h.2 (inl has)
  may_be_new kind path (AChoice.Tight i k s) h has = h.2 (inr has)
  may_be_new kind path (AChoice.Which i k) h has = h.0.2 k (inr (inr (k, has)))

  open_exist : (kind : Kind) (start path : List Choice) → All (ChoiceExists game leaves) start
      → AreOpenChoices game leaves kind start path → All (ChoiceExists game leaves) (start ++ path)
  open_exist kind start [] all h =
      subst (λ (p : List Choice). All (ChoiceExists game leaves) p) (sym (append-nil start)) all
  open_exist kind start (c ∷ cs) all h =
      subst (λ (p : List Choice). All (ChoiceExists game leaves) p)
      (append_assoc start (c ∷ []) cs)
      (open_exist kind (then_choice start c) cs
      (All-push (ChoiceExists game leaves) start c all (may_exist kind start c h.1)) h.2)

  pub due_exist : (kind : Kind) (path : List Choice) → IsDuePath game leaves kind path
      → All (ChoiceExists game leaves) path
  due_exist kind path due = open_exist kind [] path (All-nil (ChoiceExists game leaves))
      due.open_is

  -- no leaf of the player is decided where none is chosen
  pub undecided : (path : List Choice) (i : ℕ) → All (ChoiceExists game leaves) path
      → SuitsKind Pure path
      → ((k : ℕ) → k < leaf_count leaves i → Contains path (AChoice.Which i k) → ⊥)
      → (k : ℕ) → IsLeafDecided path i k → ⊥
  undecided path i exist suits none k (inl on) = suits i k (inl on)
  undecided path i exist suits none k (inr (inl off)) = suits i k (inr off)
  undecided path i exist suits none k (inr (inr w)) =
      none w.0
      (All-contains (ChoiceExists game leaves) path (AChoice.Which i w.0) exist w.1).1 w.1

  -- a leaf that is neither On nor Off
  pub open_leaf : (path : List Choice) (i k : ℕ) → SuitsKind Mixed path
      → LeafExists game leaves i k
      → (Contains path (AChoice.Off i k) → ⊥) → (Contains path (AChoice.On i k) → ⊥)
      → IsOpenLeaf game leaves path i k
  open_leaf path i k suits there off on = (
    there,
    λ d. ⊎_elim on
        (λ o. ⊎_elim off (λ (w : (l : ℕ) × Contains path (AChoice.Which i l)). suits i w.0 w.1)
        o) d,
  )

  module _ (path : List Choice)
      (used : (i k : ℕ) → i < length game → k < leaf_count leaves i → IsUsed path i k
      → AreSlotsDecided game leaves path i k) where
    by_side : (i k : ℕ) → i < length game → k < leaf_count leaves i → HasSide path i k
        → IsLeafComplete game leaves path i k
    by_side i k h q (inl off) = inl off
    by_side i k h q (inr on) = inr (on, used i k h q (inl on))

    pub complete_mixed : ((i k : ℕ) → i < length game → k < leaf_count leaves i → HasSide path i k)
        → IsComplete game leaves Mixed path
    complete_mixed sides i k h q = by_side i k h q (sides i k h q)

    pub complete_pure : ((i : ℕ) → i < length game → HasChosen leaves path i)
        → IsComplete game leaves Pure path
    complete_pure chosen i h =
        let w = chosen i h in (w.0, w.1, w.2, used i w.0 h w.1 (inr w.2))

  -- ---- each choice once

  once_push : (path : List Choice) (c : Choice) → AreOnce path → (Contains path c → ⊥)
      → AreOnce (path ++ c ∷ [])
  once_push [] c once new = ((λ h. let b = h.1 in omega (arith, b)), tt)
  once_push (x ∷ xs) c once new = (
    λ h. ⊎_elim (λ (p : Contains xs x). once.0 p)
        (λ (e : c ≡ x). new (0, omega arith, sym e))
        (Contains-push_cases xs c x h),
    once_push xs c once.1 (λ h. new (suc h.0, (let b = h.1 in omega (arith, b)), h.2)),
  )

  open_once : (kind : Kind) (start path : List Choice) → AreOnce start
      → AreOpenChoices game leaves kind start path → AreOnce (start ++ path)
  open_once kind start [] once h = subst AreOnce (sym (append-nil start)) once
  open_once kind start (c ∷ cs) once h =
      subst AreOnce (append_assoc start (c ∷ []) cs)
      (open_once kind (then_choice start c) cs
      (once_push start c once (may_be_new kind start c h.1)) h.2)

  pub due_once : (kind : Kind) (path : List Choice) → IsDuePath game leaves kind path → AreOnce path
  due_once kind path due = open_once kind [] path tt due.open_is

  open_made : (kind : Kind) (start path : List Choice)
      → AreOpenChoices game leaves kind start path → AreMade game leaves kind start path
  open_made kind start [] h = tt
  open_made kind start (c ∷ cs) h = (h.1, open_made kind (then_choice start c) cs h.2)

  made_more : (kind : Kind) (start path : List Choice) (c : Choice)
      → AreMade game leaves kind start path → MayChoose game leaves kind (start ++ path) c
      → AreMade game leaves kind start (path ++ c ∷ [])
  made_more kind start [] c all may =
      (subst (λ (p : List Choice). MayChoose game leaves kind p c) (append-nil start) may, tt)
  made_more kind start (x ∷ xs) c all may = (
    all.0,
    made_more kind (then_choice start x) xs c all.1
        (subst (λ (p : List Choice). MayChoose game leaves kind p c)
        (sym (append_assoc start (x ∷ []) xs)) may),
  )

  pub due_list : (kind : Kind) (path : List Choice) → IsDuePath game leaves kind path
      → IsChoiceList game leaves kind path
  due_list kind path due = record {
    exist = due_exist kind path due;
    suits = due.suits;
    once = due_once kind path due;
    made = open_made kind [] path due.open_is;
  }

  -- one choice more
  pub list_more : (kind : Kind) (path : List Choice) (c : Choice)
      → IsChoiceList game leaves kind path
      → MayChoose game leaves kind path c → SuitsOne kind c
      → IsChoiceList game leaves kind (path ++ c ∷ [])
  list_more kind path c is may suits = record {
    exist = All-push (ChoiceExists game leaves) path c is.exist (may_exist kind path c may);
    suits = suits_more kind path c is.suits suits;
    once = once_push path c is.once (may_be_new kind path c may);
    made = made_more kind [] path c is.made may;
  }
