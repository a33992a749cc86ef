-- What the test of a named item tells of its line.
use Rattle.std.proofs.Common.{◌≡◌, ◌≢◌, ◌⊎◌, ◌↔◌, ⊎_elim, inl, inr, refl, subst, ℕ, Bool, true, false, IsTrue, Option, None, Some, IsSome, Result, Ok, Err, length}
use Rattle.std.proofs.lemmas.Bool.{cases_eq}
use Rattle.zr_base.specs.declared.step.Wide.{Wide}
use Rattle.zr_base.specs.Tests.{Tells}
use Rattle.zr_game.specs.Named.{IsNamed, NamedOf, NamedPoint, NamedRay}
use Rattle.zr_game.specs.Players.{PlayerOf}
use Rattle.zr_cert.specs.declared.fault.CertFault.TheVariants.{Bad, Wide as TooWide}
use Rattle.zr_check.specs.Covers.{IsItemOfLength, ItemPasses, ItemRefused, item_wide}

-- an item is of the player's length or isn't
length_or_not : (vars : ℕ) (item : NamedOf)
    → IsItemOfLength vars item ⊎ (IsItemOfLength vars item → ⊥)
length_or_not vars (NamedPoint x) = cases_eq (length x.num) vars
length_or_not vars (NamedRay base dir) =
    ⊎_elim
    (λ (a : length base.num ≡ vars). ⊎_elim (λ (b : length dir ≡ vars). inl (a, b))
    (λ (b : length dir ≢ vars). inr (λ p. b p.1)) (cases_eq (length dir) vars))
    (λ (a : length base.num ≢ vars). inr (λ p. a p.0)) (cases_eq (length base.num) vars)

-- a named item is of the player's length
pub of_length : (player : PlayerOf) (item : NamedOf) → IsNamed player item
    → IsItemOfLength (length player.vars) item
of_length player (NamedPoint x) is = is.len
of_length player (NamedRay base dir) is = (is.base_is.len, is.len)

no_some : (o : Option Wide) → o ≡ None → IsSome o → ⊥
no_some None e s = absurd cc
no_some (Some w) e s = absurd cc

some : (o : Option Wide) (w : Wide) → o ≡ Some w → IsSome o
some None w e = absurd cc
some (Some v) w e = refl

module _ (player : PlayerOf) (item : NamedOf) (result : Result Bool Wide)
    (other : (IsItemOfLength (length player.vars) item → ⊥) → result ≡ Ok false)
    (tells : IsItemOfLength (length player.vars) item → Tells result (IsNamed player item)
    (item_wide player item)) where
  told : IsItemOfLength (length player.vars) item → (b : Bool) → result ≡ Ok b
      → (item_wide player item ≡ None) × (IsTrue b ↔ IsNamed player item)
  told is b e =
      subst (λ r. Tells r (IsNamed player item) (item_wide player item)) e (tells is)

  pub item_passes : result ≡ Ok true → (k : ℕ) → ItemPasses player k item
  item_passes e k =
      ⊎_elim
      (λ (is : IsItemOfLength (length player.vars) item). let t = told is true e in
      (t.1.0 refl, λ w. no_some (item_wide player item) t.0 w.1))
      (λ (away : IsItemOfLength (length player.vars) item → ⊥). let f = other away in absurd cc)
      (length_or_not (length player.vars) item)

  pub item_wrong : (line : ℕ) → result ≡ Ok false → ItemRefused player line item (Bad line)
  item_wrong line e =
      inr (
        λ w. let t = told w.0 false e in no_some (item_wide player item) t.0 w.1,
        λ is. let t = told (of_length player item is) false e in let no = t.1.1 is in absurd cc,
        refl,
      )

  pub item_too_wide : (line : ℕ) (w : Wide) → result ≡ Err w
      → ItemRefused player line item (TooWide line)
  item_too_wide line w e =
      ⊎_elim
      (λ (is : IsItemOfLength (length player.vars) item). let t =
      subst (λ r. Tells r (IsNamed player item) (item_wide player item)) e (tells is) in
      inl ((is, some (item_wide player item) w t), refl))
      (λ (away : IsItemOfLength (length player.vars) item → ⊥). let f = other away in absurd cc)
      (length_or_not (length player.vars) item)
