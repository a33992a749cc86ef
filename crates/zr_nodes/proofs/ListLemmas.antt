-- What the words on lists of node numbers keep.
use Rattle.std.proofs.Common.{◌≡◌, ℕ, zero, suc, ◌+◌, ◌<◌, ◌≤◌, arith, refl, sym, subst, ◌∙◌, List, [], ◌∷◌, ◌++◌, length, length-append, Option, Some, None, ◌⊎◌, ⊎_elim, inl, inr}
use Rattle.std.proofs.lemmas.Bool.{eq-eqb, ne_eqb, cases_eq}
use Rattle.zr_nodes.specs.Lists.{numbers, first_or, first, after, replaced, Has, NoRepeats, last_or}

pub first_or-append : (xs ys : List ℕ) (end : Option ℕ)
    → first_or (xs ++ ys) end ≡ first_or xs (first_or ys end)
first_or-append [] ys end = refl
first_or-append (x ∷ xs) ys end = refl

pub last_or-append : (xs ys : List ℕ) (start : Option ℕ)
    → last_or start (xs ++ ys) ≡ last_or (last_or start xs) ys
last_or-append [] ys start = refl
last_or-append (x ∷ xs) ys start = last_or-append xs ys (Some x)

-- a member of a list with a part replaced is a new one or an old one
pub has_append : (xs ys : List ℕ) (k : ℕ) → Has (xs ++ ys) k → Has xs k ⊎ Has ys k
has_append [] ys k h = inr h
has_append (x ∷ xs) ys k (inl e) = inl (inl e)
has_append (x ∷ xs) ys k (inr h) =
    ⊎_elim (λ (a : Has xs k). inl (inr a)) (λ (b : Has ys k). inr b) (has_append xs ys k h)

pub has_left : (xs ys : List ℕ) (k : ℕ) → Has xs k → Has (xs ++ ys) k
has_left [] ys k h = absurd h
has_left (x ∷ xs) ys k (inl e) = inl e
has_left (x ∷ xs) ys k (inr h) = inr (has_left xs ys k h)

pub has_right : (xs ys : List ℕ) (k : ℕ) → Has ys k → Has (xs ++ ys) k
has_right [] ys k h = h
has_right (x ∷ xs) ys k h = inr (has_right xs ys k h)

-- `replaced` at a list that begins with x, and at one that begins with another number
pub replaced_here : (x y : ℕ) (by ys : List ℕ) → x ≡ y → replaced x by (y ∷ ys) ≡ by ++ ys
replaced_here x y by ys e = rw (eq-eqb x y e) refl

pub replaced_later : (x y : ℕ) (by ys : List ℕ) → (x ≡ y → ⊥)
    → replaced x by (y ∷ ys) ≡ y ∷ replaced x by ys
replaced_later x y by ys ne = rw (ne_eqb x y ne) refl

-- a member of the list in which x, which stands once in it, was replaced is new or an old one other than x
pub has_replaced : (xs by : List ℕ) (x k : ℕ) → NoRepeats xs → Has (replaced x by xs) k
    → Has by k ⊎ (Has xs k × (k ≡ x → ⊥))
has_replaced [] by x k once = λ h. absurd h
has_replaced (y ∷ ys) by x k once = go (cases_eq x y) (has_replaced ys by x k once.1)
  where
    here : x ≡ y → Has by k ⊎ Has ys k → Has by k ⊎ (Has (y ∷ ys) k × (k ≡ x → ⊥))
    here e (inl b) = inl b
    here e (inr a) = inr (inr a, λ q. once.0 (subst (λ v. Has ys v) (q ∙ e) a))

    later : (x ≡ y → ⊥) → (Has (replaced x by ys) k → Has by k ⊎ (Has ys k × (k ≡ x → ⊥)))
        → Has (y ∷ replaced x by ys) k → Has by k ⊎ (Has (y ∷ ys) k × (k ≡ x → ⊥))
    later ne before (inl e) = inr (inl e, λ q. ne (sym q ∙ e))
    later ne before (inr h) =
        ⊎_elim (λ (b : Has by k). inl b) (λ (a : Has ys k
        × (k ≡ x → ⊥)). inr (inr a.0, a.1)) (before h)

    go : (x ≡ y) ⊎ (x ≡ y → ⊥) → (Has (replaced x by ys) k → Has by k ⊎ (Has ys k × (k ≡ x → ⊥)))
        → Has (replaced x by (y ∷ ys)) k → Has by k ⊎ (Has (y ∷ ys) k × (k ≡ x → ⊥))
    go (inl e) before = rw (replaced_here x y by ys e) (λ h. here e (has_append by ys k h))
    go (inr ne) before = rw (replaced_later x y by ys ne) (later ne before)

pub replaced_has : (xs by : List ℕ) (x k : ℕ) → Has xs k → (k ≡ x → ⊥) → Has (replaced x by xs) k
replaced_has [] by x k h ne = absurd h
replaced_has (y ∷ ys) by x k h ne = go (cases_eq x y) h (λ a. replaced_has ys by x k a ne)
  where
    go : (x ≡ y) ⊎ (x ≡ y → ⊥) → Has (y ∷ ys) k → (Has ys k → Has (replaced x by ys) k)
        → Has (replaced x by (y ∷ ys)) k
    go (inl e) (inl q) _ = absurd (ne (q ∙ sym e))
    go (inl e) (inr a) _ = rw (replaced_here x y by ys e) (has_right by ys k a)
    go (inr other) (inl q) _ = rw (replaced_later x y by ys other) (inl q)
    go (inr other) (inr a) before = rw (replaced_later x y by ys other) (inr (before a))

pub replaced_has_new : (xs by : List ℕ) (x k : ℕ) → Has xs x → Has by k → Has (replaced x by xs) k
replaced_has_new [] by x k h b = absurd h
replaced_has_new (y ∷ ys) by x k h b = go (cases_eq x y) h (λ a. replaced_has_new ys by x k a b)
  where
    go : (x ≡ y) ⊎ (x ≡ y → ⊥) → Has (y ∷ ys) x → (Has ys x → Has (replaced x by ys) k)
        → Has (replaced x by (y ∷ ys)) k
    go (inl e) _ _ = rw (replaced_here x y by ys e) (has_left by ys k b)
    go (inr other) (inl q) _ = absurd (other q)
    go (inr other) (inr a) before = rw (replaced_later x y by ys other) (inr (before a))

once_append : (xs ys : List ℕ) → NoRepeats xs → NoRepeats ys → ((k : ℕ) → Has xs k → Has ys k → ⊥)
    → NoRepeats (xs ++ ys)
once_append [] ys a b apart = b
once_append (x ∷ xs) ys a b apart = (
  λ h. ⊎_elim (λ (p : Has xs x). a.0 p) (λ (q : Has ys x). apart x (inl refl) q)
      (has_append xs ys x h),
  once_append xs ys a.1 b (λ k p q. apart k (inr p) q),
)

-- the list still has no number twice where the new ones are others than the old ones
pub once_replaced : (xs by : List ℕ) (x : ℕ) → NoRepeats xs → NoRepeats by
    → ((k : ℕ) → Has by k → Has xs k → ⊥) → NoRepeats (replaced x by xs)
once_replaced [] by x a b apart = a
once_replaced (y ∷ ys) by x a b apart =
    go (cases_eq x y) (once_replaced ys by x a.1 b (λ k p q. apart k p (inr q)))
  where
    go : (x ≡ y) ⊎ (x ≡ y → ⊥) → NoRepeats (replaced x by ys) → NoRepeats (replaced x by (y ∷ ys))
    go (inl e) _ =
        rw (replaced_here x y by ys e) (once_append by ys b a.1 (λ k p q. apart k p (inr q)))
    go (inr ne) before =
        rw (replaced_later x y by ys ne) (
          λ h. ⊎_elim (λ (p : Has by y). apart y p (inl refl)) (λ (q : Has ys y
              × (y ≡ x → ⊥)). a.0 q.0) (has_replaced ys by x y a.1 h),
          before,
        )

pub length-replaced : (xs by : List ℕ) (x : ℕ) → Has xs x
    → length (replaced x by xs) + 1 ≡ length by + length xs
length-replaced [] by x h = absurd h
length-replaced (y ∷ ys) by x h = go (cases_eq x y) h (length-replaced ys by x)
  where
    go : (x ≡ y) ⊎ (x ≡ y → ⊥) → Has (y ∷ ys) x
        → (Has ys x → length (replaced x by ys) + 1 ≡ length by + length ys)
        → length (replaced x by (y ∷ ys)) + 1 ≡ length by + length (y ∷ ys)
    go (inl e) _ _ = rw (replaced_here x y by ys e) (omega (arith, length-append by ys))
    go (inr ne) (inl q) _ = absurd (ne q)
    go (inr ne) (inr a) before = rw (replaced_later x y by ys ne) (omega (arith, before a))

-- the numbers in a row
pub numbers_within : (from count k : ℕ) → Has (numbers from count) k
    → (from ≤ k) × (k < from + count)
numbers_within from zero k h = absurd h
numbers_within from (suc count) k (inl e) = (omega arith, omega arith)
numbers_within from (suc count) k (inr h) = let r =
    numbers_within (from + 1) count k h in (omega (arith, r.0), omega (arith, r.1))

pub numbers_has : (from count k : ℕ) → from ≤ k → k < from + count → Has (numbers from count) k
numbers_has from zero k a b = absurd (omega arith)
numbers_has from (suc count) k a b =
    ⊎_elim
    (λ (e : k ≡ from). inl e)
    (λ (ne : k ≡ from → ⊥). inr (numbers_has (from + 1) count k (omega arith) (omega arith)))
    (cases_eq k from)

pub numbers_once : (from count : ℕ) → NoRepeats (numbers from count)
numbers_once from zero = tt
numbers_once from (suc count) = (
  λ h. let r =
      numbers_within (from + 1) count from h in omega (arith, r.0),
  numbers_once (from + 1) count,
)

pub length-numbers : (from count : ℕ) → length (numbers from count) ≡ count
length-numbers from zero = refl
length-numbers from (suc count) = omega (arith, length-numbers (from + 1) count)

pub first_or-numbers : (from count : ℕ) (end : Option ℕ) → 0 < count
    → first_or (numbers from count) end ≡ Some from
first_or-numbers from zero end h = absurd (omega arith)
first_or-numbers from (suc count) end h = refl

-- a number that the list lacks has none after it
pub after_outside : (xs : List ℕ) (x : ℕ) → (Has xs x → ⊥) → after x xs ≡ None
after_outside [] x lacks = refl
after_outside (y ∷ ys) x lacks =
    rw (ne_eqb x y (λ e. lacks (inl e))) (after_outside ys x (λ h. lacks (inr h)))

pub after_behind : (x y : ℕ) (ys : List ℕ) → (x ≡ y → ⊥) → after x (y ∷ ys) ≡ after x ys
after_behind x y ys ne = rw (ne_eqb x y ne) refl

-- a number is in the list or not
pub has_or_lacks : (xs : List ℕ) (k : ℕ) → Has xs k ⊎ (Has xs k → ⊥)
has_or_lacks [] k = inr (λ h. h)
has_or_lacks (x ∷ xs) k =
    ⊎_elim
    (λ (e : k ≡ x). inl (inl e))
    (λ (ne : k ≡ x → ⊥).
    ⊎_elim
    (λ (h : Has xs k). inl (inr h))
    (λ (l : Has xs k → ⊥). inr (λ h. ⊎_elim (λ (e : k ≡ x). ne e) (λ (b : Has xs k). l b) h))
    (has_or_lacks xs k))
    (cases_eq k x)

-- what the list begins with or has after a number is in it
pub first_has : (xs : List ℕ) (y : ℕ) → first xs ≡ Some y → Has xs y
first_has [] y e = cc
first_has (x ∷ xs) y e = inl (cc)

pub after_has : (xs : List ℕ) (x y : ℕ) → after x xs ≡ Some y → Has xs y
after_has [] x y e = cc
after_has (z ∷ zs) x y e = go (cases_eq x z) (after_has zs x y)
  where
    go : (x ≡ z) ⊎ (x ≡ z → ⊥) → (after x zs ≡ Some y → Has zs y) → Has (z ∷ zs) y
    go (inl same) _ = inr (first_has zs y (rw (eq-eqb x z same) at e))
    go (inr ne) before = inr (before (sym (after_behind x z zs ne) ∙ e))
