-- Choices that suit a kind.
use Rattle.std.proofs.Common.{◌≡◌, ℕ, sym, subst, List, ◌⊎◌, ⊎_elim, inl, inr}
use Rattle.std.specs.List.{Contains}
use Rattle.std.proofs.lemmas.List.Elements.{Contains-push_cases}
use Rattle.zr_game.specs.declared.choice.Choice.{Choice}
use Rattle.zr_game.specs.declared.choice.Choice.TheVariants as AChoice
use Rattle.zr_game.specs.declared.kind.Kind.{Kind}
use Rattle.zr_game.specs.declared.kind.Kind.TheVariants.{Pure, Mixed}
use Rattle.zr_refute.specs.Refuting.{then_choice}
use Rattle.zr_comp.specs.Cases.{SuitsOne}
use Rattle.zr_comp.specs.OpenPaths.{SuitsKind}

pub suits_more : (kind : Kind) (path : List Choice) (c : Choice) → SuitsKind kind path
    → SuitsOne kind c → SuitsKind kind (then_choice path c)
suits_more Mixed path c all one = λ i k h.
    ⊎_elim (λ (p : Contains path (AChoice.Which i k)). all i k p)
    (λ (e : c ≡ AChoice.Which i k). one i k e)
    (Contains-push_cases path c (AChoice.Which i k) h)
suits_more Pure path c all one = λ i k h. ⊎_elim
    (λ (a : Contains (then_choice path c) (AChoice.On i k)).
    ⊎_elim (λ (p : Contains path (AChoice.On i k)). all i k (inl p))
    (λ (e : c ≡ AChoice.On i k). one i k (inl e)) (Contains-push_cases path c (AChoice.On i k) a))
    (λ (a : Contains (then_choice path c) (AChoice.Off i k)).
    ⊎_elim (λ (p : Contains path (AChoice.Off i k)). all i k (inr p))
    (λ (e : c ≡ AChoice.Off i k). one i k (inr e))
    (Contains-push_cases path c (AChoice.Off i k) a)) h

zero_apart : (i k s j l : ℕ)
    → (AChoice.Zero i k s ≡ AChoice.On j l) ⊎ (AChoice.Zero i k s ≡ AChoice.Off j l) → ⊥
zero_apart i k s j l (inl e) = cc
zero_apart i k s j l (inr e) = cc

tight_apart : (i k s j l : ℕ)
    → (AChoice.Tight i k s ≡ AChoice.On j l) ⊎ (AChoice.Tight i k s ≡ AChoice.Off j l) → ⊥
tight_apart i k s j l (inl e) = cc
tight_apart i k s j l (inr e) = cc

which_apart : (i k j l : ℕ)
    → (AChoice.Which i k ≡ AChoice.On j l) ⊎ (AChoice.Which i k ≡ AChoice.Off j l) → ⊥
which_apart i k j l (inl e) = cc
which_apart i k j l (inr e) = cc

pub zero_suits : (kind : Kind) (i k s : ℕ) → SuitsOne kind (AChoice.Zero i k s)
zero_suits Mixed i k s = λ j l e. cc
zero_suits Pure i k s = λ j l e. zero_apart i k s j l e

pub tight_suits : (kind : Kind) (i k s : ℕ) → SuitsOne kind (AChoice.Tight i k s)
tight_suits Mixed i k s = λ j l e. cc
tight_suits Pure i k s = λ j l e. tight_apart i k s j l e

on_mixed : (i k : ℕ) → SuitsOne Mixed (AChoice.On i k)
on_mixed i k = λ j l e. cc

off_mixed : (i k : ℕ) → SuitsOne Mixed (AChoice.Off i k)
off_mixed i k = λ j l e. cc

which_pure : (i k : ℕ) → SuitsOne Pure (AChoice.Which i k)
which_pure i k = λ j l e. which_apart i k j l e

pub on_suits : (kind : Kind) (i k : ℕ) → kind ≡ Mixed → SuitsOne kind (AChoice.On i k)
on_suits kind i k e = subst (λ (m : Kind). SuitsOne m (AChoice.On i k)) (sym e) (on_mixed i k)

pub off_suits : (kind : Kind) (i k : ℕ) → kind ≡ Mixed → SuitsOne kind (AChoice.Off i k)
off_suits kind i k e = subst (λ (m : Kind). SuitsOne m (AChoice.Off i k)) (sym e) (off_mixed i k)

pub which_suits : (kind : Kind) (i k : ℕ) → kind ≡ Pure → SuitsOne kind (AChoice.Which i k)
which_suits kind i k e =
    subst (λ (m : Kind). SuitsOne m (AChoice.Which i k)) (sym e) (which_pure i k)
