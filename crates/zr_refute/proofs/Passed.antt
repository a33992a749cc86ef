-- What a search through a path has passed.
use Rattle.std.proofs.Common.{◌≡◌, ◌≢◌, ℕ, ◌+◌, ◌<◌, arith, subst, ◌∙◌, List, length, get_or, ⊎_elim}
use Rattle.std.proofs.lemmas.Bool.{cases_eq}
use Rattle.zr_base.proofs.SumSteps.{get_or_default}
use Rattle.zr_game.specs.declared.choice.Choice.{Choice}
use Rattle.zr_game.specs.declared.choice.Choice.TheVariants.{On}

-- a choice that isn't at place n is at none of the first n + 1 places
pub passed : (path : List Choice) (n : ℕ) (made : Choice) → n < length path
    → (get_or path n (On 0 0) ≡ made → ⊥)
    → ((m : ℕ) → m < n → get_or path m made ≡ made → ⊥)
    → (m : ℕ) → m < n + 1 → get_or path m made ≡ made → ⊥
passed path n made below here before m h e =
    ⊎_elim (λ (s : m ≡ n). here (get_or_default path n (On 0 0) made below
    ∙ subst (λ (k : ℕ). get_or path k made ≡ made) s e))
    (λ (c : m ≢ n). before m (omega (arith, h, c)) e) (cases_eq m n)
