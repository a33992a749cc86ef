-- A walk through the parts of a strategy.
use Rattle.std.proofs.Common.{◌≡◌, ℕ, suc, ◌+◌, ◌<◌, ◌≤◌, ◌≢◌, arith, refl, sym, ap, subst, ◌∙◌, ⊎_elim, inl, inr, ℤ, pos, Bool, Ok, Some, List, length, slice_get}
use Rattle.std.proofs.lemmas.Bool.{cases_eq}
use Rattle.std.proofs.lemmas.Option.{slice_get_within}
use Rattle.zr_base.specs.Fractions.{Fraction}
use Rattle.zr_game.specs.declared.kind.Kind.{Kind}
use Rattle.zr_game.specs.Players.{PlayerOf}
use Rattle.zr_game.specs.Profiles.{Part}
use Rattle.zr_game.proofs.Items.{one}
use Rattle.zr_cert.specs.declared.fault.CertFault.{CertFault}
use Rattle.zr_cert.specs.declared.fault.CertFault.TheVariants.{Bad, Wide as TooWide}
use Rattle.zr_cert.specs.Certs.{MixtureOf}
use Rattle.zr_check.specs.Parts.{IsLastPart, IsOfLength, IsPartRight, IsWidePart, MixturePasses, MixtureRefused, PartPasses, PartRefused, mean_list}
use Rattle.zr_check.specs.PartSums.{IsPartMade, weights_before}

-- the first k parts pass and have this weight, and after the last of all the means are made
pub record WalkedTo (kind : Kind) (player : PlayerOf) (m : MixtureOf) (k : ℕ) (sum : ℤ) (means : List Fraction) : Type 0 where
  pub sums : weights_before m.parts k ≡ Ok sum
  pub passes : (j : ℕ) (part : Part) → j < k → slice_get m.parts j ≡ Some part → PartPasses kind player m j part
  pub made : k ≡ length m.parts → mean_list player m ≡ Ok means

module _ (kind : Kind) (player : PlayerOf) (m : MixtureOf) where
  pub first : 0 < length m.parts → (means : List Fraction) → WalkedTo kind player m 0 (pos 0) means
  first some means = record {
    sums = refl;
    passes = λ j part h is. absurd (omega arith);
    made = λ e. absurd (omega arith);
  }

  module _ (k : ℕ) (sum : ℤ) (means : List Fraction) (walked : WalkedTo kind player m k sum means) where
    pub all : length m.parts ≤ k → k ≤ length m.parts → MixturePasses kind player m × (mean_list player m ≡ Ok means)
    all end within =
        (λ j part is. walked.passes j part (let b = slice_get_within m.parts j part is in omega (arith, b)) is, walked.made (omega arith))

    module _ (part : Part) (here : slice_get m.parts k ≡ Some part) where
      -- this point and those before it have the right length
      pub length_before : IsOfLength player part → (j : ℕ) (other : Part) → j ≤ k → slice_get m.parts j ≡ Some other → length other.point.num ≡ length player.vars
      length_before long j other h is =
          ⊎_elim (λ (e : j ≡ k). let same = one m.parts k part other here (subst (λ (i : ℕ). slice_get m.parts i ≡ Some other) e is) in subst (λ (p : Part). IsOfLength player p) same long) (λ (a : j ≢ k). (walked.passes j other (omega (arith, h, a)) is).0) (cases_eq j k)

      pub next : IsOfLength player part → (weights : ℤ) (feasible : Bool) → IsPartMade player m k part weights feasible → IsPartRight kind player m k part → (new : List Fraction) → (IsLastPart m k → mean_list player m ≡ Ok new) → WalkedTo kind player m (k + 1) weights new
      next long weights feasible made right new last =
          let n : k + 1 ≡ suc k = omega arith in
          record {
            sums = ap (weights_before m.parts) n ∙ made.weights;
            passes = λ j other h is. ⊎_elim (λ (e : j ≡ k). let there = subst (λ (i : ℕ). slice_get m.parts i ≡ Some other) e is in let same = one m.parts k part other here there in subst (λ (i : ℕ). PartPasses kind player m i other) (sym e) (subst (λ (p : Part). PartPasses kind player m k p) same (long, made.narrow, right))) (λ (a : j ≢ k). walked.passes j other (omega (arith, h, a)) is) (cases_eq j k);
            made = λ e. last (sym n ∙ e);
          }

      module _ (line : ℕ) where
        refused : (fault : CertFault) → PartRefused kind player m (line + 1 + k) k part fault → MixtureRefused kind player m line fault
        refused fault r = record { at = k; item = part; here = here; before = λ j other h is. walked.passes j other h is; refused = r }

        pub refused_length : (IsOfLength player part → ⊥) → MixtureRefused kind player m line (Bad (line + 1 + k))
        refused_length other = refused (Bad (line + 1 + k)) (inl (other, refl))

        pub refused_wide : IsOfLength player part → IsWidePart player m k part → MixtureRefused kind player m line (TooWide (line + 1 + k))
        refused_wide long wide = refused (TooWide (line + 1 + k)) (inr (inl (long, wide, refl)))

        pub refused_rule : IsOfLength player part → (IsWidePart player m k part → ⊥) → (IsPartRight kind player m k part → ⊥) → MixtureRefused kind player m line (Bad (line + 1 + k))
        refused_rule long narrow wrong = refused (Bad (line + 1 + k)) (inr (inr (long, narrow, wrong, refl)))
