-- What the answer of a check says of the tree that was checked.
use Rattle.std.proofs.Common.{refl, Result, Ok, Err, ◌↔◌, IsOk}
use Rattle.std.specs.Result.{IfErr, OnOk}
use Rattle.zr_tree.specs.declared.fault.Fault.{Fault}
use Rattle.zr_cases.specs.Trees.{CasesOf}

module _ (Listed Pass : CasesOf → Type 0) where
  -- it is Ok exactly where the tree is right, if what passes is what is right, and isn't refused
  pub outcome : (r : Result (Unit {0}) Fault) (Right : Type 0) (Refused : Fault → CasesOf → Type 0)
      (t : CasesOf) → Listed t → OnOk r ((t : CasesOf) → Listed t → Pass t)
      → IfErr r (λ fault. (t : CasesOf) → Listed t → Refused fault t)
      → ((fault : Fault) → Pass t → Refused fault t → ⊥) → Pass t ↔ Right → IsOk r ↔ Right
  outcome (Ok u) Right Refused t is passes refused apart same =
      (λ o. same.0 (passes t is), λ h. refl)
  outcome (Err fault) Right Refused t is passes refused apart same =
      (λ o. absurd cc, λ h. absurd (apart fault (same.1 h) (refused t is)))

  -- what passes has a consequence
  pub consequence : (r : Result (Unit {0}) Fault) (Q : Type 0) (t : CasesOf) → Listed t
      → OnOk r ((t : CasesOf) → Listed t → Pass t) → (Pass t → Q) → OnOk r Q
  consequence (Ok u) Q t is passes f = f (passes t is)
  consequence (Err fault) Q t is passes f = passes
