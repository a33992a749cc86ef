-- What passes is right, and isn't refused; what is refused has one fault.
use Rattle.std.proofs.Common.{◌≡◌, ℕ, ◌+◌, ◌<◌, sym, subst, ◌∙◌, List, ⊎_elim, inl, inr}
use Rattle.std.proofs.lemmas.Bool.{cases_order}
use Rattle.zr_game.specs.Players.{GameOf}
use Rattle.zr_game.specs.declared.choice.Choice.{Choice}
use Rattle.zr_game.specs.declared.choice.Choice.TheVariants as AChoice
use Rattle.zr_game.specs.declared.kind.Kind.{Kind}
use Rattle.zr_tree.specs.declared.fault.Fault.{Fault}
use Rattle.zr_cases.specs.Trees.{CasesOf, OnOff, RowSplit, Which, Close}
use Rattle.zr_system.specs.Regions.{LeavesOf}
use Rattle.zr_refute.specs.Refuting.{EndRule, RefutesBy, then_choice}
use Rattle.zr_refute.specs.Steps.{EndPasses, HasWideBy, RefusedBy, size, sizes}

module _ (right wide : EndRule) (game : GameOf) (leaves : LeavesOf) (kind : Kind) where
  abbrev Right : List Choice → CasesOf → Type 0
  Right path t = RefutesBy right game leaves kind path t

  abbrev TooWide : List Choice → CasesOf → Type 0
  TooWide path t = HasWideBy wide game leaves kind path t

  abbrev Pass : List Choice → CasesOf → Type 0
  Pass path t = RefutesBy (EndPasses right wide) game leaves kind path t

  abbrev Refused : ℕ → List Choice → CasesOf → Fault → Type 0
  Refused n path t fault = RefusedBy right wide game leaves kind n path t fault

  right_of : (path : List Choice) (t : CasesOf) → Pass path t → Right path t
  right_of path (OnOff i k on off) h = (
    h.0,
    right_of (then_choice path (AChoice.On i k)) on h.1,
    right_of (then_choice path (AChoice.Off i k)) off h.2,
  )
  right_of path (RowSplit i k s at_zero at_tight) h = (
    h.0,
    right_of (then_choice path (AChoice.Zero i k s)) at_zero h.1,
    right_of (then_choice path (AChoice.Tight i k s)) at_tight h.2,
  )
  right_of path (Which i trees) h =
      (h.0, λ k p. right_of (then_choice path (AChoice.Which i k)) (trees k) (h.1 k p))
  right_of path (Close mult) h = h.0

  narrow_of : (path : List Choice) (t : CasesOf) → Pass path t → TooWide path t → ⊥
  narrow_of path (OnOff i k on off) h w =
      ⊎_elim (λ (a : TooWide (then_choice path (AChoice.On i k)) on). narrow_of
      (then_choice path (AChoice.On i k)) on h.1 a)
      (λ (a : TooWide (then_choice path (AChoice.Off i k)) off). narrow_of
      (then_choice path (AChoice.Off i k)) off h.2 a) w.1
  narrow_of path (RowSplit i k s at_zero at_tight) h w =
      ⊎_elim (λ (a : TooWide (then_choice path (AChoice.Zero i k s)) at_zero). narrow_of
      (then_choice path (AChoice.Zero i k s)) at_zero h.1 a)
      (λ (a : TooWide (then_choice path (AChoice.Tight i k s)) at_tight). narrow_of
      (then_choice path (AChoice.Tight i k s)) at_tight h.2 a) w.1
  narrow_of path (Which i trees) h w =
      narrow_of (then_choice path (AChoice.Which i w.1.0)) (trees w.1.0) (h.1 w.1.0 w.1.1) w.1.2
  narrow_of path (Close mult) h w = h.1 w

  pass_of : (path : List Choice) (t : CasesOf) → Right path t → (TooWide path t → ⊥) → Pass path t
  pass_of path (OnOff i k on off) h none = (
    h.0,
    pass_of (then_choice path (AChoice.On i k)) on h.1 (λ w. none (h.0, inl w)),
    pass_of (then_choice path (AChoice.Off i k)) off h.2 (λ w. none (h.0, inr w)),
  )
  pass_of path (RowSplit i k s at_zero at_tight) h none = (
    h.0,
    pass_of (then_choice path (AChoice.Zero i k s)) at_zero h.1 (λ w. none (h.0, inl w)),
    pass_of (then_choice path (AChoice.Tight i k s)) at_tight h.2 (λ w. none (h.0, inr w)),
  )
  pass_of path (Which i trees) h none = (
    h.0,
    λ k p. pass_of (then_choice path (AChoice.Which i k)) (trees k) (h.1 k p)
        (λ w. none (h.0, (k, p, w))),
  )
  pass_of path (Close mult) h none = (h, none)

  pub passing : (path : List Choice) (t : CasesOf)
      → (Pass path t → Right path t × (TooWide path t → ⊥))
      × (Right path t × (TooWide path t → ⊥) → Pass path t)
  passing path t = (λ h. (right_of path t h, narrow_of path t h), λ h. pass_of path t h.0 h.1)

  pub not_both : (n : ℕ) (path : List Choice) (t : CasesOf) (fault : Fault) → Pass path t
      → Refused n path t fault → ⊥
  not_both n path (OnOff i k on off) fault h r =
      ⊎_elim (λ a. a.0 h.0) (λ o. ⊎_elim (λ a. not_both (n + 1) (then_choice path (AChoice.On i k)) on fault h.1 a.1)
      (λ a. not_both (n + 1 + size leaves on) (then_choice path (AChoice.Off i k)) off fault h.2 a.2) o) r
  not_both n path (RowSplit i k s at_zero at_tight) fault h r =
      ⊎_elim (λ a. a.0 h.0) (λ o. ⊎_elim (λ a. not_both (n + 1) (then_choice path (AChoice.Zero i k s)) at_zero fault h.1 a.1)
      (λ a. not_both (n + 1 + size leaves at_zero) (then_choice path (AChoice.Tight i k s)) at_tight fault h.2 a.2) o) r
  not_both n path (Which i trees) fault h r =
      ⊎_elim (λ a. a.0 h.0)
      (λ a. not_both (n + 1 + sizes leaves trees a.1.0) (then_choice path (AChoice.Which i a.1.0)) (trees a.1.0) fault (h.1 a.1.0 a.1.1) a.1.3) r
  not_both n path (Close mult) fault h r = ⊎_elim (λ a. h.1 a.0) (λ a. a.1 h.0) r

  pub one_fault : (n : ℕ) (path : List Choice) (t : CasesOf) (f g : Fault) → Refused n path t f
      → Refused n path t g → f ≡ g
  one_fault n path (OnOff i k on off) f g a b =
      ⊎_elim (λ p. ⊎_elim (λ q. p.1 ∙ sym q.1) (λ s. ⊎_elim (λ q. absurd (p.0 q.0))
      (λ q. absurd (p.0 q.0)) s) b) (λ s. ⊎_elim (λ p. ⊎_elim (λ q. absurd (q.0 p.0))
      (λ u. ⊎_elim (λ q. one_fault (n + 1) (then_choice path (AChoice.On i k)) on f g p.1 q.1)
      (λ q. absurd (not_both _ _ on f q.1 p.1)) u) b)
      (λ p. ⊎_elim (λ q. absurd (q.0 p.0)) (λ u. ⊎_elim (λ q. absurd (not_both _ _ on g p.1 q.1))
      (λ q. one_fault (n + 1 + size leaves on) (then_choice path (AChoice.Off i k)) off f g p.2 q.2) u) b) s) a
  one_fault n path (RowSplit i k s at_zero at_tight) f g a b =
      ⊎_elim (λ p. ⊎_elim (λ q. p.1 ∙ sym q.1) (λ o. ⊎_elim (λ q. absurd (p.0 q.0))
      (λ q. absurd (p.0 q.0)) o) b) (λ o. ⊎_elim (λ p. ⊎_elim (λ q. absurd (q.0 p.0))
      (λ u. ⊎_elim (λ q. one_fault (n + 1) (then_choice path (AChoice.Zero i k s)) at_zero f g p.1 q.1)
      (λ q. absurd (not_both _ _ at_zero f q.1 p.1)) u) b)
      (λ p. ⊎_elim (λ q. absurd (q.0 p.0))
      (λ u. ⊎_elim (λ q. absurd (not_both _ _ at_zero g p.1 q.1))
      (λ q. one_fault (n + 1 + size leaves at_zero) (then_choice path (AChoice.Tight i k s)) at_tight f g p.2 q.2) u) b) o) a
  one_fault n path (Which i trees) f g a b =
      ⊎_elim (λ p. ⊎_elim (λ q. p.1 ∙ sym q.1) (λ q. absurd (p.0 q.0)) b)
      (λ p. ⊎_elim (λ q. absurd (q.0 p.0)) (λ q. ⊎_elim (λ (e : q.1.0 ≡ p.1.0). one_fault
      (n + 1 + sizes leaves trees p.1.0) (then_choice path (AChoice.Which i p.1.0)) (trees p.1.0)
      f g p.1.3 (subst (λ (k : ℕ). Refused (n + 1 + sizes leaves trees k)
      (then_choice path (AChoice.Which i k)) (trees k) g) e q.1.3))
      (λ o. ⊎_elim (λ (l : q.1.0 < p.1.0). absurd (not_both _ _ (trees q.1.0) g
      (p.1.2 q.1.0 l) q.1.3)) (λ (l : p.1.0 < q.1.0). absurd (not_both _ _ (trees p.1.0) f
      (q.1.2 p.1.0 l) p.1.3)) o) (cases_order q.1.0 p.1.0)) b) a
  one_fault n path (Close mult) f g a b =
      ⊎_elim (λ p. ⊎_elim (λ q. p.1 ∙ sym q.1) (λ q. absurd (q.0 p.0)) b)
      (λ p. ⊎_elim (λ q. absurd (p.0 q.0)) (λ q. p.2 ∙ sym q.2) b) a
