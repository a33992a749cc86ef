-- The numbers of the items of a list that pass a test.
use Rattle.std.proofs.Common.{◌≡◌, ℕ, zero, suc, ◌+◌, ◌<◌, arith, refl, ap, Bool, true, false, if◌then◌else◌, List, [], ◌∷◌, ◌++◌, length, get_or, ◌⊎◌, inl, inr, ⊎_elim}
use Rattle.zr_choices.specs.Signs.{numbers_of}

below_or_not : (a b : ℕ) → (a < b) ⊎ ((a ≡ b) ⊎ (b < a))
below_or_not zero zero = inr (inl refl)
below_or_not zero (suc b) = inl (omega arith)
below_or_not (suc a) zero = inr (inr (omega arith))
below_or_not (suc a) (suc b) =
    ⊎_elim (λ (h : a < b). inl (omega (arith, h)))
    (λ (r : (a ≡ b) ⊎ (b < a)). inr (⊎_elim (λ (e : a ≡ b). inl (ap suc e))
    (λ (h : b < a). inr (omega (arith, h))) r)) (below_or_not a b)

module _ {A : Type 0} (test : A → Bool) where
  abbrev pub passing : List A → List A
  passing [] = []
  passing (x ∷ xs) = if test x then x ∷ passing xs else passing xs

  -- how many of the first i items pass
  abbrev pub rank : List A → ℕ → ℕ
  rank xs zero = 0
  rank [] (suc i) = 0
  rank (x ∷ xs) (suc i) = if test x then suc (rank xs i) else rank xs i

  pub passing_join : (xs ys : List A) → passing (xs ++ ys) ≡ passing xs ++ passing ys
  passing_join [] ys = refl
  passing_join (x ∷ xs) ys = by (test x) (passing_join xs ys)
    where
      by : (b : Bool) → passing (xs ++ ys) ≡ passing xs ++ passing ys
          → (if b then x ∷ passing (xs ++ ys) else passing (xs ++ ys))
          ≡ (if b then x ∷ passing xs else passing xs) ++ passing ys
      by true e = ap (λ zs. x ∷ zs) e
      by false e = e

  pub count_same : (n : ℕ) (xs : List A) → length (passing xs) ≡ length (numbers_of test n xs)
  count_same n [] = refl
  count_same n (x ∷ xs) = by (test x) (count_same (suc n) xs)
    where
      by : (b : Bool) → length (passing xs) ≡ length (numbers_of test (suc n) xs)
          → length (if b then x ∷ passing xs else passing xs)
          ≡ length (if b then n ∷ numbers_of test (suc n) xs else numbers_of test (suc n) xs)
      by true e = omega (arith, e)
      by false e = e

  -- items that don't pass add none
  pub none_more : (n : ℕ) (xs ys : List A) → passing ys ≡ []
      → numbers_of test n (xs ++ ys) ≡ numbers_of test n xs
  none_more n [] [] none = refl
  none_more n [] (y ∷ ys) none = by (test y) none (none_more (suc n) [] ys)
    where
      by : (b : Bool) → (if b then y ∷ passing ys else passing ys) ≡ []
          → (passing ys ≡ [] → numbers_of test (suc n) ys ≡ [])
          → (if b then n ∷ numbers_of test (suc n) ys else numbers_of test (suc n) ys) ≡ []
      by true e rest = absurd cc
      by false e rest = rest e
  none_more n (x ∷ xs) ys none = by (test x) (none_more (suc n) xs ys none)
    where
      by : (b : Bool) → numbers_of test (suc n) (xs ++ ys) ≡ numbers_of test (suc n) xs
          → (if b then n ∷ numbers_of test (suc n) (xs ++ ys) else numbers_of test (suc n)
          (xs ++ ys))
          ≡ (if b then n ∷ numbers_of test (suc n) xs else numbers_of test (suc n) xs)
      by true e = ap (λ zs. n ∷ zs) e
      by false e = e

  module _ (d : A) where
    -- number m of the list is that of item m of those that pass
    pub number_at : (n : ℕ) (xs : List A) (m : ℕ) → m < length (numbers_of test n xs)
        → (i : ℕ) × (i < length xs) × (get_or (numbers_of test n xs) m 0 ≡ n + i)
        × (get_or (passing xs) m d ≡ get_or xs i d) × (test (get_or xs i d) ≡ true)
    number_at n [] m h = absurd (omega (arith, h))
    number_at n (x ∷ xs) m h = by (test x) refl m h (number_at (suc n) xs)
      where
        by : (b : Bool) → test x ≡ b → (m : ℕ) → m < length
            (if b then n ∷ numbers_of test (suc n) xs else numbers_of test (suc n) xs)
            → ((m : ℕ) → m < length (numbers_of test (suc n) xs) → (i : ℕ) × (i < length xs)
            × (get_or (numbers_of test (suc n) xs) m 0 ≡ suc n + i)
            × (get_or (passing xs) m d ≡ get_or xs i d) × (test (get_or xs i d) ≡ true))
            → (i : ℕ) × (i < suc (length xs))
            × (get_or (if b then n ∷ numbers_of test (suc n) xs else numbers_of test (suc n) xs)
            m 0 ≡ n + i)
            × (get_or (if b then x ∷ passing xs else passing xs) m d ≡ get_or (x ∷ xs) i d)
            × (test (get_or (x ∷ xs) i d) ≡ true)
        by true e zero h rest = (0, omega arith, omega arith, refl, e)
        by true e (suc m) h rest =
            let r = rest m (omega (arith, h)) in
            let a = r.1 in
            let q = r.2 in
            (suc r.0, omega (arith, a), omega (arith, q), r.3, r.4)
        by false e m h rest =
            let r = rest m h in
            let a = r.1 in
            let q = r.2 in
            (suc r.0, omega (arith, a), omega (arith, q), r.3, r.4)

    pub numbers_rise : (n : ℕ) (xs : List A) (m k : ℕ) → m < k → k < length (numbers_of test n xs)
        → get_or (numbers_of test n xs) m 0 < get_or (numbers_of test n xs) k 0
    numbers_rise n [] m k h b = absurd (omega (arith, b))
    numbers_rise n (x ∷ xs) m k h b =
        by (test x) m k h b (number_at (suc n) xs) (numbers_rise (suc n) xs)
      where
        by : (b : Bool) (m k : ℕ) → m < k → k < length
            (if b then n ∷ numbers_of test (suc n) xs else numbers_of test (suc n) xs)
            → ((m : ℕ) → m < length (numbers_of test (suc n) xs) → (i : ℕ) × (i < length xs)
            × (get_or (numbers_of test (suc n) xs) m 0 ≡ suc n + i)
            × (get_or (passing xs) m d ≡ get_or xs i d) × (test (get_or xs i d) ≡ true))
            → ((m k : ℕ) → m < k → k < length (numbers_of test (suc n) xs)
            → get_or (numbers_of test (suc n) xs) m 0 < get_or (numbers_of test (suc n) xs) k 0)
            → get_or (if b then n ∷ numbers_of test (suc n) xs else numbers_of test (suc n) xs) m
            0 < get_or (if b then n ∷ numbers_of test (suc n) xs else numbers_of test (suc n) xs)
            k 0
        by true zero zero h l at rise = absurd (omega (arith, h))
        by true zero (suc k) h l at rise =
            let q = (at k (omega (arith, l))).2 in omega (arith, q)
        by true (suc m) zero h l at rise = absurd (omega (arith, h))
        by true (suc m) (suc k) h l at rise = rise m k (omega (arith, h)) (omega (arith, l))
        by false m k h l at rise = rise m k h l

    pub rank_at : (n : ℕ) (xs : List A) (i : ℕ) → i < length xs → test (get_or xs i d) ≡ true
        → (rank xs i < length (numbers_of test n xs))
        × (get_or (numbers_of test n xs) (rank xs i) 0 ≡ n + i)
    rank_at n [] i h e = absurd (omega (arith, h))
    rank_at n (x ∷ xs) zero h e = by (test x) e
      where
        by : (b : Bool) → b ≡ true
            → (0 < length (if b then n ∷ numbers_of test (suc n) xs else numbers_of test
            (suc n) xs))
            × (get_or (if b then n ∷ numbers_of test (suc n) xs else numbers_of test (suc n) xs)
            0 0 ≡ n + 0)
        by true e = (omega arith, omega arith)
        by false e = absurd cc
    rank_at n (x ∷ xs) (suc i) h e = by (test x) (rank_at (suc n) xs i (omega (arith, h)) e)
      where
        by : (b : Bool) → (rank xs i < length (numbers_of test (suc n) xs))
            × (get_or (numbers_of test (suc n) xs) (rank xs i) 0 ≡ suc n + i)
            → ((if b then suc (rank xs i) else rank xs i) < length
            (if b then n ∷ numbers_of test (suc n) xs else numbers_of test (suc n) xs))
            × (get_or (if b then n ∷ numbers_of test (suc n) xs else numbers_of test (suc n) xs)
            (if b then suc (rank xs i) else rank xs i) 0
            ≡ n + suc i)
        by true r = let a = r.0 in let q = r.1 in (omega (arith, a), omega (arith, q))
        by false r = let q = r.1 in (r.0, omega (arith, q))

    pub rank_rises : (xs : List A) (i k : ℕ) → i < k → k < length xs → test (get_or xs i d) ≡ true
        → test (get_or xs k d) ≡ true → rank xs i < rank xs k
    rank_rises xs i k h l e f =
        let a = rank_at 0 xs i (omega (arith, h, l)) e in
        let b = rank_at 0 xs k l f in
        let p = a.1 in
        let q = b.1 in
        ⊎_elim (λ (s : rank xs i < rank xs k). s)
        (λ (r : (rank xs i ≡ rank xs k) ⊎ (rank xs k < rank xs i)).
        ⊎_elim (λ (s : rank xs i ≡ rank xs k).
        let t = ap (λ (m : ℕ). get_or (numbers_of test 0 xs) m 0) s in
        absurd (omega (arith, p, q, t, h)))
        (λ (s : rank xs k < rank xs i).
        let t = numbers_rise 0 xs (rank xs k) (rank xs i) s a.0 in
        absurd (omega (arith, p, q, t, h))) r) (below_or_not (rank xs i) (rank xs k))

    pub rank_of : (xs : List A) (i m : ℕ) → i < length xs → test (get_or xs i d) ≡ true
        → m < length (numbers_of test 0 xs) → get_or (numbers_of test 0 xs) m 0 ≡ i
        → rank xs i ≡ m
    rank_of xs i m h e l at =
        let a = rank_at 0 xs i h e in
        let p = a.1 in
        ⊎_elim (λ (s : rank xs i < m).
        let t = numbers_rise 0 xs (rank xs i) m s l in absurd (omega (arith, p, at, t)))
        (λ (r : (rank xs i ≡ m) ⊎ (m < rank xs i)).
        ⊎_elim (λ (s : rank xs i ≡ m). s)
        (λ (s : m < rank xs i).
        let t = numbers_rise 0 xs m (rank xs i) s a.0 in absurd (omega (arith, p, at, t))) r)
        (below_or_not (rank xs i) m)
