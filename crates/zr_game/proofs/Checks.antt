-- Tests of all items of a list.
use Rattle.std.proofs.Common.{◌≡◌, ◌↔◌, ℕ, suc, ◌+◌, ◌<◌, ◌≤◌, arith, refl, Bool, true, ◌&&◌, IsTrue, Option, None, Ok, List, [], ◌∷◌, length, map, get_or, drop, drop-cons, add-one, slice_get, Some, All, ℤ}
use Rattle.std.proofs.lemmas.List.Elements.{All-map}
use Rattle.std.proofs.lemmas.List.{drop_all}
use Rattle.zr_base.specs.declared.step.Wide.{Wide}
use Rattle.zr_base.specs.Terms.{Terms, AscendWith}
use Rattle.zr_base.proofs.Telling.{EachBelow, Tested, all_tested, both_true, each_found, more, none_tested, true_both}
use Rattle.zr_game.proofs.Items.{All-of_map, each_told}

-- nothing is too wide
abbrev never : {A : Type 0} → A → Option Wide
never x = None

-- the items below i are tested, and `all` tells whether each of them passed
abbrev pub Checked : {A : Type 0} → ℕ → (ℕ → A → Type 0) → List A → Bool → Type 0
Checked {A} i P xs all = Tested {A = A} i P never xs all

module _ {A : Type 0} (P : ℕ → A → Type 0) (xs : List A) where
  pub none_checked : Checked 0 P xs true
  none_checked = none_tested P never xs

  pub more_checked : (i : ℕ) (x : A) → i < length xs → x ≡ get_or xs i x → (all : Bool) → Checked i P xs all → (b : Bool) → (IsTrue b ↔ P i x) → Checked (i + 1) P xs (all && b)
  more_checked i x here is all before b told = more P never xs i x here is all before (Ok b) b (refl, told) refl

  pub all_checked : (i : ℕ) (all : Bool) → length xs ≤ i → i ≤ length xs → Checked i P xs all → IsTrue all ↔ EachBelow (length xs) P xs
  all_checked i all above below t = (all_tested P never xs i all (omega arith) t).1

-- what was told of all items is told of the mapped list
pub all_mapped : {A B : Type 0} (g : A → B) (P : B → Type 0) (xs : List A) (all : Bool) → (IsTrue all ↔ All (λ x. P (g x)) xs) → IsTrue all ↔ All P (map g xs)
all_mapped g P xs all told = (λ h. All-map P g xs (told.0 h), λ h. told.1 (All-of_map g P xs h))

pub each_mapped : {A B : Type 0} (g : A → B) (P : ℕ → B → Type 0) (xs : List A) (all : Bool) → (IsTrue all ↔ EachBelow (length xs) (λ v x. P v (g x)) xs) → IsTrue all ↔ ((v : ℕ) (y : B) → slice_get (map g xs) v ≡ Some y → P v y)
each_mapped g P xs all told =
    let found = each_found (λ v x. P v (g x)) xs in
    let told_of = each_told g P xs in
    (λ h. told_of.0 (found.0 (told.0 h)), λ h. told.1 (found.1 (told_of.1 h)))

-- the terms before i are tested, and those from i on are left
pub record Ascending (P : ℤ → Type 0) (columns : ℕ) (ts : Terms) (i low : ℕ) (all : Bool) : Type 0 where
  pub left : (IsTrue all × AscendWith P low columns (drop i ts)) ↔ AscendWith P 0 columns ts

pub next_ascending : (P : ℤ → Type 0) (columns : ℕ) (ts : Terms) (i low : ℕ) (all b : Bool) (d : ℕ × ℤ) → i < length ts → Ascending P columns ts i low all → (IsTrue b ↔ ((low ≤ (get_or ts i d).0) × ((get_or ts i d).0 < columns) × P (get_or ts i d).1)) → Ascending P columns ts (i + 1) ((get_or ts i d).0 + 1) (all && b)
next_ascending P columns ts i low all b d here before told =
    let t = get_or ts i d in
    let cut : drop i ts ≡ t ∷ drop (suc i) ts = drop-cons ts i d here in
    let one : i + 1 ≡ suc i = add-one i in
    record {
      left = (
        λ h. let p = both_true all b h.0 in let q = told.0 p.1 in before.left.0 (p.0, rw cut (q.0, q.1, q.2, rw one at h.1)),
        λ h. let p = before.left.1 h in let q = rw cut at p.1 in (true_both all b p.0 (told.1 (q.0, q.1, q.2)), rw one q.3),
      );
    }

pub all_ascending : (P : ℤ → Type 0) (columns : ℕ) (ts : Terms) (i low : ℕ) (all : Bool) → length ts ≤ i → Ascending P columns ts i low all → IsTrue all ↔ AscendWith P 0 columns ts
all_ascending P columns ts i low all end t =
    let none : drop i ts ≡ [] = drop_all i ts end in
    (λ h. t.left.0 (h, rw none tt), λ h. (t.left.1 h).0)
