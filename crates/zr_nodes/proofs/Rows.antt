-- New leaves in a row, as they are added one by one.
use Rattle.std.proofs.Common.{◌≡◌, ℕ, suc, ◌+◌, ◌<◌, refl, sym, List, [], ◌∷◌, ◌++◌, append_assoc, Option, Some}
use Rattle.zr_nodes.specs.Lists.{numbers, first_or, last_or}
use Rattle.zr_nodes.specs.Places.{row}
use Rattle.zr_nodes.proofs.ListLemmas.{first_or-numbers}
use Rattle.zr_nodes.specs.declared.leaves.Place.{Place}
use Rattle.zr_nodes.specs.declared.leaves.Place.TheVariants.{In}

-- what was added to the old places, with what is left to add, is the whole row
pub record Growing (old now : List Place) (start from : ℕ) (previous last next : Option ℕ)
    (count left : ℕ) : Type 0 where
  pub shape : now ++ row last from left next ≡ old ++ row previous start count next
  pub last_is : last_or last (numbers from left) ≡ last_or previous (numbers start count)

pub growing_start : (old : List Place) (start : ℕ) (previous next : Option ℕ) (count left : ℕ)
    → left ≡ count → Growing old old start start previous previous next count left
growing_start old start previous next count left e = rw e (record { shape = refl; last_is = refl })

pub growing_step : (old now : List Place) (start from : ℕ) (previous last next after : Option ℕ)
    (count left rest : ℕ) → left ≡ suc rest → after ≡ first_or (numbers (from + 1) rest) next
    → Growing old now start from previous last next count left
    → Growing old (now ++ In last after ∷ []) start (from + 1) previous (Some from) next count rest
growing_step old now start from previous last next after count left rest e is growing = record {
  shape = rw (append_assoc, is) (rw e at growing.shape);
  last_is = rw e at growing.last_is;
}

pub growing_end : (old now : List Place) (start from : ℕ) (previous last next : Option ℕ)
    (count left : ℕ) → left ≡ 0 → Growing old now start from previous last next count left
    → (now ++ [] ≡ old ++ row previous start count next)
    × (last ≡ last_or previous (numbers start count))
growing_end old now start from previous last next count left e growing =
    (rw e at growing.shape, rw e at growing.last_is)

-- what stands after a new leaf with so many more to come
pub after_last : (from rest : ℕ) (next : Option ℕ) → rest ≡ 0
    → next ≡ first_or (numbers from rest) next
after_last from rest next e = rw e refl

pub after_others : (from rest : ℕ) (next : Option ℕ) → 0 < rest
    → Some from ≡ first_or (numbers from rest) next
after_others from rest next h = sym (first_or-numbers from rest next h)
