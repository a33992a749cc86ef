-- A number that is too wide is that of a named item.
use Rattle.std.proofs.Common.{◌≡◌, ℕ, zero, suc, ◌<◌, arith, pos, Err, [], ◌∷◌, refl, sym, subst, List, length, get_or, slice_get, All, Some, ⊎_elim, inl, inr}
use Rattle.std.proofs.lemmas.Option.{slice_get_within}
use Rattle.zr_base.specs.declared.step.Wide.{Wide}
use Rattle.zr_base.specs.Sums.{sum_steps}
use Rattle.zr_game.specs.Players.{GameOf}
use Rattle.zr_game.specs.declared.choice.Choice.{Choice}
use Rattle.zr_system.specs.declared.leaves.SystemError.{SystemError}
use Rattle.zr_system.specs.declared.leaves.SystemError.TheVariants as AnError
use Rattle.zr_system.specs.declared.line.Line.{Line}
use Rattle.zr_system.specs.declared.line.Line.TheVariants as ALine
use Rattle.zr_system.specs.declared.unknown.Unknown.{Unknown}
use Rattle.zr_system.specs.declared.unknown.Unknown.TheVariants.{One}
use Rattle.zr_game.specs.Named.{NamedOf}
use Rattle.zr_system.specs.Regions.{LeavesOf, named_at}
use Rattle.zr_system.specs.Unknowns.{columns}
use Rattle.zr_system.specs.Lines.{all_lines, nothing}
use Rattle.zr_system.specs.Asked.{ChoiceExists, HasNumbers, HasWideCoefficient, HasWideIn, HasWideNumber, IsWideAt, IsWideBy, LineExists, no_line, slope_products}
use Rattle.zr_system.proofs.Existence.{lines_exist, named_stands}

got : (xs : List NamedOf) (n : ℕ) (d : NamedOf) → n < length xs
    → slice_get xs n ≡ Some (get_or xs n d)
got [] n d h = absurd (omega arith)
got (x ∷ xs) zero d h = refl
got (x ∷ xs) (suc n) d h = got xs n d (omega arith)

read : (xs : List NamedOf) (n : ℕ) (d item : NamedOf) → slice_get xs n ≡ Some item
    → get_or xs n d ≡ item
read [] n d item e = absurd cc
read (x ∷ xs) zero d item e = cc
read (x ∷ xs) (suc n) d item e = read xs n d item e

module _ (game : GameOf) (leaves : LeavesOf) where
  at_line : (line : Line) (u : Unknown) (w : Wide) → LineExists game leaves line
      → HasNumbers game leaves u → IsWideAt game leaves line u w → HasWideCoefficient game leaves w
  at_line (ALine.Named i n) u w h has e = (
    i,
    n,
    get_or (named_at leaves i) n nothing,
    h.0,
    got (named_at leaves i) n nothing h.1,
    (u, has, e),
  )
  at_line (ALine.Weights i negated) u w h has e = absurd e
  at_line (ALine.Slot i k s negated) u w h has e = absurd e
  at_line (ALine.Weight i k negated) u w h has e = absurd e
  at_line (ALine.Dual i k s negated) u w h has e = absurd e
  at_line (ALine.Pull i k v negated) u w h has e = absurd e
  at_line (ALine.Gain i k negated) u w h has e = absurd e
  at_line (ALine.Positive i k) u w h has e = absurd e
  at_line (ALine.Share i k v negated) u w h has e = absurd e
  at_line (ALine.Whole i k) u w h has e = absurd e

  module _ (path : List Choice) where
    in_line : (w : Wide) → All (ChoiceExists game leaves) path
        → HasWideIn game leaves (columns game leaves) (all_lines game leaves path) w
        → HasWideCoefficient game leaves w
    in_line w exist h =
        let line = get_or (all_lines game leaves path) h.0 no_line in
        let there = lines_exist game leaves path exist h.0 no_line h.1 in
        ⊎_elim (λ (n : (j : ℕ) × (j < length (columns game leaves))
        × IsWideAt game leaves line (get_or (columns game leaves) j One) w). at_line line
        (get_or (columns game leaves) n.0 One) w there (inl (n.0, n.1, refl)) n.2)
        (λ (e : IsWideAt game leaves line One w). at_line line One w there (inr refl) e) h.2

    pub wide_found : All (ChoiceExists game leaves) path → (error : SystemError)
        → IsWideBy (HasWideIn game leaves (columns game leaves) (all_lines game leaves path)) error
        → IsWideBy (HasWideCoefficient game leaves) error
    wide_found exist (AnError.Wide w) h = in_line w exist h
    wide_found exist AnError.NoMemory h = tt

    pub wide_back : (w : Wide) → HasWideCoefficient game leaves w
        → HasWideIn game leaves (columns game leaves) (all_lines game leaves path) w
    wide_back w h =
        let i = h.0 in
        let n = h.1 in
        let u = h.5.0 in
        let below = slice_get_within (named_at leaves i) n h.2 h.4 in
        let s = named_stands game leaves path i n h.3 below in
        let it = read (named_at leaves i) n nothing h.2 h.4 in
        let here : IsWideAt game leaves (ALine.Named i n) u w = subst
        (λ (x : NamedOf). sum_steps (pos 0) (slope_products game leaves i x u) ≡ Err w)
        (sym it) h.5.2 in (
          s.0,
          s.1,
          subst (λ (line : Line). HasWideNumber game leaves (columns game leaves) line w)
              (sym s.2) (⊎_elim (λ (c : (j : ℕ) × (j < length (columns game leaves))
              × (get_or (columns game leaves) j One ≡ u)). inl (
                c.0,
                c.1,
                subst (λ (u : Unknown). IsWideAt game leaves (ALine.Named i n) u w)
                    (sym c.2) here,
              )) (λ (e : u ≡ One). inr
              (subst (λ (u : Unknown). IsWideAt game leaves (ALine.Named i n) u w) e here)) h.5.1),
        )
