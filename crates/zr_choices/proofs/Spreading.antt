-- The rows in turn, one at the column of each unknown that is at least 0.
use Rattle.std.proofs.Common.{◌≡◌, ℕ, zero, suc, ◌+◌, ◌<◌, arith, refl, sym, ap, ap₂, ◌∙◌, Bool, true, false, if◌then◌else◌, List, [], ◌∷◌, ◌++◌, drop, drop-cons, append_assoc, length, get_or}
use Rattle.zr_system.specs.declared.unknown.Unknown.{Unknown}
use Rattle.zr_system.specs.declared.unknown.Unknown.TheVariants.{One}
use Rattle.zr_choices.specs.Parted.{place}
use Rattle.zr_choices.specs.Programs.{free_in, may_be_negative}
use Rattle.zr_choices.specs.Signs.{is_up, numbers_of, spread}
use Rattle.zr_choices.proofs.Numbering.{count_same, passing, rank}

-- the first unknown's columns apart
pub place_shift : (free : ℕ → Bool) (j : ℕ)
    → place free (suc j) ≡ (if free 0 then 2 else 1) + place (λ i. free (suc i)) j
place_shift free zero = omega arith
place_shift free (suc j) = let r = place_shift free j in omega (arith, r)

get_or_rest : (xs : List ℕ) (k : ℕ) → get_or (drop 1 xs) k 0 ≡ get_or xs (suc k) 0
get_or_rest [] k = refl
get_or_rest (x ∷ xs) k = refl

pub spread_at : (us : List Unknown) (rows : List ℕ) (j : ℕ) → j < length us
    → free_in us j ≡ false
    → get_or (spread us rows) (place (free_in us) j) 0 ≡ get_or rows (rank is_up us j) 0
spread_at [] rows j h f = absurd (omega (arith, h))
spread_at (u ∷ us) rows zero h f = rw f refl
spread_at (u ∷ us) rows (suc j) h f =
    ap (λ (k : ℕ). get_or (spread (u ∷ us) rows) k 0) (place_shift (free_in (u ∷ us)) j)
    ∙ by (may_be_negative u) (λ rs. spread_at us rs j (omega (arith, h)) f)
  where
    by : (b : Bool)
        → ((rs : List ℕ) → get_or (spread us rs) (place (free_in us) j) 0
        ≡ get_or rs (rank is_up us j) 0)
        → get_or (if b then 0 ∷ 0 ∷ spread us rows
        else get_or rows 0 0 ∷ spread us (drop 1 rows))
        ((if b then 2 else 1) + place (free_in us) j) 0
        ≡ get_or rows (if (if b then false else true) then suc (rank is_up us j)
        else rank is_up us j) 0
    by true rest =
        let e : 2 + place (free_in us) j ≡ suc (suc (place (free_in us) j)) = omega arith in
        ap (λ (k : ℕ). get_or (0 ∷ 0 ∷ spread us rows) k 0) e ∙ rest rows
    by false rest =
        let e : 1 + place (free_in us) j ≡ suc (place (free_in us) j) = omega arith in
        ap (λ (k : ℕ). get_or (get_or rows 0 0 ∷ spread us (drop 1 rows)) k 0) e
        ∙ rest (drop 1 rows) ∙ get_or_rest rows (rank is_up us j)

pub spread_length : (us : List Unknown) (rows : List ℕ)
    → length (spread us rows) ≡ place (free_in us) (length us)
spread_length [] rows = refl
spread_length (u ∷ us) rows =
    by (may_be_negative u) (λ rs. spread_length us rs)
    ∙ sym (place_shift (free_in (u ∷ us)) (length us))
  where
    by : (b : Bool)
        → ((rs : List ℕ) → length (spread us rs) ≡ place (free_in us) (length us))
        → length (if b then 0 ∷ 0 ∷ spread us rows
        else get_or rows 0 0 ∷ spread us (drop 1 rows))
        ≡ (if b then 2 else 1) + place (free_in us) (length us)
    by true rest = let r = rest rows in omega (arith, r)
    by false rest = let r = rest (drop 1 rows) in omega (arith, r)

pub spread_small : (m : ℕ) (us : List Unknown) (rows : List ℕ) (k : ℕ) → 0 < m
    → ((i : ℕ) → get_or rows i 0 < m) → get_or (spread us rows) k 0 < m
spread_small m [] rows k some small = some
spread_small m (u ∷ us) rows k some small =
    by (may_be_negative u) k (λ rs i s. spread_small m us rs i some s)
  where
    by : (b : Bool) (k : ℕ)
        → ((rs : List ℕ) (i : ℕ) → ((i : ℕ) → get_or rs i 0 < m) → get_or (spread us rs) i 0 < m)
        → get_or (if b then 0 ∷ 0 ∷ spread us rows
        else get_or rows 0 0 ∷ spread us (drop 1 rows)) k 0 < m
    by true zero rest = some
    by true (suc zero) rest = some
    by true (suc (suc k)) rest = rest rows k small
    by false zero rest = small 0
    by false (suc k) rest =
        rest (drop 1 rows) k (λ i. let e = get_or_rest rows i in let s = small (suc i) in omega
        (arith, e, s))

rest_of : (rows : List ℕ) (m : ℕ)
    → (get_or (drop m rows) 0 0 ≡ get_or rows m 0) × (drop 1 (drop m rows) ≡ drop (suc m) rows)
rest_of [] zero = (refl, refl)
rest_of [] (suc m) = (refl, refl)
rest_of (x ∷ rows) zero = (refl, refl)
rest_of (x ∷ rows) (suc m) = rest_of rows m

module _ (us : List Unknown) (rows : List ℕ) (i m : ℕ) (h : i < length us) where
  -- an unknown that may be negative has two columns and no row
  pub spread_free : (xs ts : List ℕ) → may_be_negative (get_or us i One) ≡ true
      → xs ++ spread (drop i us) (drop m rows) ≡ ts
      → ((xs ++ (0 ∷ [])) ++ (0 ∷ [])) ++ spread (drop (i + 1) us) (drop m rows) ≡ ts
  spread_free xs ts f e =
      let a : i + 1 ≡ suc i = omega arith in
      let d = drop-cons us i One h in
      let s : spread (drop i us) (drop m rows) ≡ 0 ∷ 0 ∷ spread (drop (suc i) us) (drop m rows) =
      ap (λ (ws : List Unknown). spread ws (drop m rows)) d ∙ rw f refl in
      ap (λ (k : ℕ). ((xs ++ (0 ∷ [])) ++ (0 ∷ [])) ++ spread (drop k us) (drop m rows)) a
      ∙ append_assoc (xs ++ (0 ∷ [])) (0 ∷ []) (spread (drop (suc i) us) (drop m rows))
      ∙ append_assoc xs (0 ∷ []) (0 ∷ spread (drop (suc i) us) (drop m rows))
      ∙ ap (λ (zs : List ℕ). xs ++ zs) (sym s) ∙ e

  -- and each other one has one, and the next row
  pub spread_up : (xs ts : List ℕ) → may_be_negative (get_or us i One) ≡ false
      → xs ++ spread (drop i us) (drop m rows) ≡ ts
      → (xs ++ (get_or rows m 0 ∷ [])) ++ spread (drop (i + 1) us) (drop (m + 1) rows) ≡ ts
  spread_up xs ts f e =
      let a : i + 1 ≡ suc i = omega arith in
      let b : m + 1 ≡ suc m = omega arith in
      let d = drop-cons us i One h in
      let r = rest_of rows m in
      let s : spread (drop i us) (drop m rows)
      ≡ get_or (drop m rows) 0 0 ∷ spread (drop (suc i) us) (drop 1 (drop m rows)) =
      ap (λ (ws : List Unknown). spread ws (drop m rows)) d ∙ rw f refl in
      let v : get_or (drop m rows) 0 0 ∷ spread (drop (suc i) us) (drop 1 (drop m rows))
      ≡ get_or rows m 0 ∷ spread (drop (suc i) us) (drop (suc m) rows) =
      ap₂ (λ (z : ℕ) (zs : List ℕ). z ∷ spread (drop (suc i) us) zs) r.0 r.1 in
      ap₂ (λ (k l : ℕ). (xs ++ (get_or rows m 0 ∷ [])) ++ spread (drop k us) (drop l rows)) a b
      ∙ append_assoc xs (get_or rows m 0 ∷ []) (spread (drop (suc i) us) (drop (suc m) rows))
      ∙ ap (λ (zs : List ℕ). xs ++ zs) (sym (s ∙ v)) ∙ e

  count_next : length (numbers_of is_up 0 (drop i us))
      ≡ length (if is_up (get_or us i One) then get_or us i One ∷ passing is_up (drop (suc i) us)
      else passing is_up (drop (suc i) us))
  count_next =
      sym (count_same is_up 0 (drop i us))
      ∙ ap (λ (ws : List Unknown). length (passing is_up ws)) (drop-cons us i One h)

  count_rest : length (numbers_of is_up 0 (drop (i + 1) us))
      ≡ length (passing is_up (drop (suc i) us))
  count_rest =
      let a : i + 1 ≡ suc i = omega arith in
      ap (λ (k : ℕ). length (numbers_of is_up 0 (drop k us))) a
      ∙ sym (count_same is_up 0 (drop (suc i) us))

  pub count_free : (l : ℕ) → may_be_negative (get_or us i One) ≡ true
      → m + length (numbers_of is_up 0 (drop i us)) ≡ l
      → m + length (numbers_of is_up 0 (drop (i + 1) us)) ≡ l
  count_free l f e =
      let u : is_up (get_or us i One) ≡ false = rw f refl in
      let n : length (numbers_of is_up 0 (drop i us)) ≡ length (passing is_up (drop (suc i) us)) =
      count_next ∙ rw u refl in
      let r = count_rest in
      omega (arith, e, n, r)

  pub count_up : (l : ℕ) → may_be_negative (get_or us i One) ≡ false
      → m + length (numbers_of is_up 0 (drop i us)) ≡ l
      → m + 1 + length (numbers_of is_up 0 (drop (i + 1) us)) ≡ l
  count_up l f e =
      let u : is_up (get_or us i One) ≡ true = rw f refl in
      let n : length (numbers_of is_up 0 (drop i us))
      ≡ length (get_or us i One ∷ passing is_up (drop (suc i) us)) = count_next ∙ rw u refl in
      let r = count_rest in
      omega (arith, e, n, r)
