-- The first item of a list that is refused.
use Rattle.std.specs.Prelude.{◌≡◌, ℕ, ◌<◌, Some, List, slice_get}
use Rattle.zr_cert.specs.declared.fault.CertFault.{CertFault}

-- each item passes
abbrev pub AllPass : {A : Type 0} → (ℕ → A → Type 0) → List A → Type 0
AllPass {A = A} Passes items = (i : ℕ) (item : A) → slice_get items i ≡ Some item → Passes i item

-- an item is refused for this fault, and those before it pass
pub record FirstRefused {A : Type 0} (Passes : ℕ → A → Type 0) (Refused : ℕ → A → CertFault → Type 0) (items : List A) (fault : CertFault) : Type 0 where
  pub at : ℕ
  pub item : A
  pub here : slice_get items at ≡ Some item
  pub before : (j : ℕ) (other : A) → j < at → slice_get items j ≡ Some other → Passes j other
  pub refused : Refused at item fault
