-- Lines are counted along a list, up to the greatest count.
use Rattle.std.proofs.Common.{◌≡◌, ℕ, ◌+◌, ◌<◌, ◌≤◌, arith, refl, sym, ap, List, map, length, get_or, drop, drop-cons, add-one, min}
use Rattle.std.proofs.lemmas.List.{drop_all}
use Rattle.zr_cert.specs.Lines.{sum_lines}

-- the lines of the items below i are counted, and those of the items from i on are left
pub record Counted {A B : Type 0} (g : A → B) (count : B → ℕ) (most : ℕ) (xs : List A) (i lines : ℕ) : Type 0 where
  pub within : lines ≤ most
  pub left : min (lines + sum_lines count (map g (drop i xs))) most ≡ min (sum_lines count (map g xs)) most

module _ {A B : Type 0} (g : A → B) (count : B → ℕ) (most : ℕ) (xs : List A) where
  pub none_counted : Counted g count most xs 0 0
  none_counted = record { within = omega arith; left = omega arith }

  pub more_counted : (i lines : ℕ) (x : A) → i < length xs → x ≡ get_or xs i x → Counted g count most xs i lines → (next : ℕ) → next ≡ min (lines + count (g x)) most → Counted g count most xs (i + 1) next
  more_counted i lines x here is before next e =
      let cut : sum_lines count (map g (drop i xs)) ≡ count (g x) + sum_lines count (map g (drop (i + 1) xs)) = rw (add-one i, drop-cons xs i x here, sym is) refl in
      let left = before.left in
      record { within = omega (arith, e); left = omega (arith, cut, left, e) }

  pub all_counted : (i lines : ℕ) → length xs ≤ i → Counted g count most xs i lines → lines ≡ min (sum_lines count (map g xs)) most
  all_counted i lines end t =
      let none : sum_lines count (map g (drop i xs)) ≡ 0 = ap (λ (ys : List A). sum_lines count (map g ys)) (drop_all i xs end) in
      let left = t.left in
      let within = t.within in
      omega (arith, none, left, within)
