-- Numbers that are kept by keys stand in the order of these.
use Rattle.std.proofs.Common.{◌≡◌, ◌+◌, ◌≤◌, ℤ, pos, List, [], ◌∷◌, length, filter, refl, sym, ap, ◌∙◌, Ordering, Bool, true, false, arith, cond, true≢false}
use Rattle.std.specs.Prelude.{not, neg_ℤ}
use Rattle.std.proofs.lemmas.Int.{ints}
use Rattle.std.specs.Ordering.{match_ordering, int_eq, ordering_reverse}
use Rattle.std.specs.declared.cmp.Ordering.TheVariants.{Less, Equal, Greater}
use Rattle.std.specs.Cmp.{IsTotalOrder}
use Rattle.std.specs.BTreeMap.{insert_entry}
use Rattle.zr_game.specs.Forms.{IsNumber, IsCoefficient}
use Rattle.zr_value.specs.Terms.{is_term, opposite}

-- a number that isn't 0 by the test isn't 0
pub coefficient : (z : ℤ) → IsNumber z → int_eq z (pos 0) ≡ false → IsCoefficient z
coefficient z n e = (n, λ zero. true≢false (sym (ap (λ y. int_eq y (pos 0)) zero) ∙ e))

pub number_opposite : (z : ℤ) → IsNumber z → IsNumber (neg_ℤ z)
number_opposite z n = (omega (arith, ints, n.0, n.1), omega (arith, ints, n.0, n.1))

pub coefficient_opposite : (z : ℤ) → IsCoefficient z → IsCoefficient (neg_ℤ z)
coefficient_opposite z c =
    (number_opposite z c.0, λ zero. c.1 (omega (arith, ints, zero)))

module _ {K : Type 0} (order : K → K → Ordering) where
  -- the key comes before those of the entries
  abbrev pub Before : K → List (K × ℤ) → Type 0
  Before k [] = Unit {0}
  Before k (e ∷ es) = (order k e.0 ≡ Less) × Before k es

  -- the keys ascend, and keys and numbers have their properties
  abbrev pub Ordered : (K → Type 0) → (ℤ → Type 0) → List (K × ℤ) → Type 0
  Ordered P Q [] = Unit {0}
  Ordered P Q (e ∷ es) = P e.0 × Q e.1 × Before e.0 es × Ordered P Q es

  module _ (total : IsTotalOrder order) where
    before_further : (k j : K) (es : List (K × ℤ)) → order k j ≡ Less → Before j es → Before k es
    before_further k j [] h b = tt
    before_further k j (e ∷ es) h b =
        (total.trans k j e.0 h b.0, before_further k j es h b.1)

    before_insert : (k j : K) (z : ℤ) (es : List (K × ℤ)) → order k j ≡ Less → Before k es
        → Before k (insert_entry order es j z)
    before_insert k j z [] h b = (h, tt)
    before_insert k j z (e ∷ es) h b = by (order j e.0) (before_insert k j z es h b.1)
      where
        by : (r : Ordering) → Before k (insert_entry order es j z)
            → Before k (match_ordering r ((j, z) ∷ e ∷ es) ((e.0, z) ∷ es)
            (e ∷ insert_entry order es j z))
        by Less rest = (h, b)
        by Equal rest = (b.0, b.1)
        by Greater rest = (b.0, rest)

    -- one number more goes to its place
    pub ordered_insert : (P : K → Type 0) (Q : ℤ → Type 0) (es : List (K × ℤ)) (k : K) (z : ℤ)
        → P k → Q z → Ordered P Q es → Ordered P Q (insert_entry order es k z)
    ordered_insert P Q [] k z p q o = (p, q, tt, tt)
    ordered_insert P Q (e ∷ es) k z p q o =
        by (order k e.0) refl (ordered_insert P Q es k z p q o.3)
      where
        by : (r : Ordering) → order k e.0 ≡ r → Ordered P Q (insert_entry order es k z)
            → Ordered P Q (match_ordering r ((k, z) ∷ e ∷ es) ((e.0, z) ∷ es)
            (e ∷ insert_entry order es k z))
        by Less h rest = (p, q, (h, before_further k e.0 es h o.2), o)
        by Equal h rest = (o.0, q, o.2, o.3)
        by Greater h rest = (
          o.0,
          o.1,
          before_insert e.0 k z es (total.antisymm e.0 k ∙ ap ordering_reverse h) o.2,
          rest,
        )

  before_filter : (k : K) (es : List (K × ℤ)) → Before k es → Before k (filter is_term es)
  before_filter k [] b = tt
  before_filter k (e ∷ es) b = by (int_eq e.1 (pos 0)) (before_filter k es b.1)
    where
      by : (zero : Bool) → Before k (filter is_term es)
          → Before k (cond (not zero) (e ∷ filter is_term es) (filter is_term es))
      by true rest = rest
      by false rest = (b.0, rest)

  -- without zeros
  pub ordered_filter : (P : K → Type 0) (es : List (K × ℤ)) → Ordered P IsNumber es
      → Ordered P IsCoefficient (filter is_term es)
  ordered_filter P [] o = tt
  ordered_filter P (e ∷ es) o = by (int_eq e.1 (pos 0)) refl (ordered_filter P es o.3)
    where
      by : (b : Bool) → int_eq e.1 (pos 0) ≡ b → Ordered P IsCoefficient (filter is_term es)
          → Ordered P IsCoefficient (cond (not b) (e ∷ filter is_term es) (filter is_term es))
      by true h rest = rest
      by false h rest = (o.0, coefficient e.1 o.1 h, before_filter e.0 es o.2, rest)

  before_opposite : (k : K) (es : List (K × ℤ)) → Before k es → Before k (opposite es)
  before_opposite k [] b = tt
  before_opposite k (e ∷ es) b = (b.0, before_opposite k es b.1)

  -- with the other sign
  pub ordered_opposite : (P : K → Type 0) (es : List (K × ℤ)) → Ordered P IsCoefficient es
      → Ordered P IsCoefficient (opposite es)
  ordered_opposite P [] o = tt
  ordered_opposite P (e ∷ es) o =
      (o.0, coefficient_opposite e.1 o.1, before_opposite e.0 es o.2, ordered_opposite P es o.3)

  -- ---- how many

  pub length-insert : (es : List (K × ℤ)) (k : K) (z : ℤ)
      → length (insert_entry order es k z) ≤ length es + 1
  length-insert [] k z = omega arith
  length-insert (e ∷ es) k z = by (order k e.0) (length-insert es k z)
    where
      by : (r : Ordering) → length (insert_entry order es k z) ≤ length es + 1
          → length (match_ordering r ((k, z) ∷ e ∷ es) ((e.0, z) ∷ es)
          (e ∷ insert_entry order es k z)) ≤ length (e ∷ es) + 1
      by Less rest = omega arith
      by Equal rest = omega arith
      by Greater rest = omega arith

pub length-kept : {K : Type 0} (es : List (K × ℤ)) → length (filter is_term es) ≤ length es
length-kept [] = omega arith
length-kept (e ∷ es) = by (int_eq e.1 (pos 0)) (length-kept es)
  where
    by : (zero : Bool) → length (filter is_term es) ≤ length es
        → length (cond (not zero) (e ∷ filter is_term es) (filter is_term es)) ≤ length (e ∷ es)
    by true rest = omega arith
    by false rest = omega arith
