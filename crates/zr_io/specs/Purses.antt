-- What a purse has counted.
use Rattle.std.specs.Prelude.{◌≡◌, ℕ, ◌+◌}
use Rattle.zr_io.specs.declared.purse.Purse.{Purse}
use Rattle.zr_io.specs.declared.purse.Unit.{Unit as Kind}
use Rattle.zr_io.specs.declared.purse.Unit.TheVariants.{Pivot, Branch, Cut}
use Rattle.zr_io.specs.Faults.{next_count}

-- a unit that is paid for
abbrev pub IsCounted : Kind → Type 0
IsCounted Pivot = ⊥
IsCounted Branch = Unit {0}
IsCounted Cut = Unit {0}

-- the units so far that count against the limit
abbrev pub counted : Purse → ℕ
counted purse = purse.branches + purse.cuts

-- one more of this unit was spent, and the rest stays
abbrev pub Spends : Purse → Purse → Kind → Type 0
Spends old new Pivot =
    (new.pivots ≡ next_count old.pivots) × (new.branches ≡ old.branches) × (new.cuts ≡ old.cuts) × (new.limit ≡ old.limit)
Spends old new Branch =
    (new.pivots ≡ old.pivots) × (new.branches ≡ old.branches + 1) × (new.cuts ≡ old.cuts) × (new.limit ≡ old.limit)
Spends old new Cut =
    (new.pivots ≡ old.pivots) × (new.branches ≡ old.branches) × (new.cuts ≡ old.cuts + 1) × (new.limit ≡ old.limit)

-- nothing was spent yet, up to this limit
abbrev pub StartsAt : Purse → ℕ → Type 0
StartsAt purse limit = (purse.pivots ≡ 0) × (purse.branches ≡ 0) × (purse.cuts ≡ 0) × (purse.limit ≡ limit)
