-- The places of a list of leaves, and what they become where a part of the list is replaced.
use Rattle.std.proofs.Common.{◌≡◌, ℕ, zero, suc, ◌≤◌, arith, refl, sym, ap, subst, ◌∙◌, true, false, List, [], ◌∷◌, ◌++◌, length, Option, Some, None, ◌⊎◌, ⊎_elim, inl, inr, if◌then◌else◌}
use Rattle.std.specs.Prelude.{◌==◌}
use Rattle.std.proofs.lemmas.Bool.{eq-eqb, ne_eqb, cases_eq}
use Rattle.zr_nodes.specs.Lists.{first_or, first, replaced, Has, NoRepeats, last_or, HasSome}
use Rattle.zr_nodes.specs.Places.{place_at, place_in, next_of, walk, order_of, IsLinked, next_turned, previous_turned, with_next, with_previous}
use Rattle.zr_nodes.specs.declared.leaves.Place.{Place}
use Rattle.zr_nodes.specs.declared.leaves.Place.TheVariants.{Out, In}
use Rattle.zr_nodes.proofs.ListLemmas.{first_or-append, replaced_here, replaced_later, has_replaced}

-- the place at a number of the list, and at another one
here : (previous next : Option ℕ) (x k : ℕ) (xs : List ℕ) → k ≡ x
    → place_in previous (x ∷ xs) next k ≡ In previous (first_or xs next)
here previous next x k xs e = rw (eq-eqb k x e) refl

later : (previous next : Option ℕ) (x k : ℕ) (xs : List ℕ) → (k ≡ x → ⊥)
    → place_in previous (x ∷ xs) next k ≡ place_in (Some x) xs next k
later previous next x k xs ne = rw (ne_eqb k x ne) refl

-- a number that the list lacks is outside
pub place_outside : (xs : List ℕ) (previous next : Option ℕ) (k : ℕ) → (Has xs k → ⊥)
    → place_in previous xs next k ≡ Out
place_outside [] previous next k lacks = refl
place_outside (x ∷ xs) previous next k lacks =
    later previous next x k xs (λ e. lacks (inl e))
    ∙ place_outside xs (Some x) next k (λ h. lacks (inr h))

-- what is in a place has a list's number
pub has_place : (xs : List ℕ) (previous next : Option ℕ) (k : ℕ) (p n : Option ℕ)
    → place_in previous xs next k ≡ In p n → Has xs k
has_place [] previous next k p n h = cc
has_place (x ∷ xs) previous next k p n h = go (cases_eq k x) (has_place xs (Some x) next k p n)
  where
    go : (k ≡ x) ⊎ (k ≡ x → ⊥) → (place_in (Some x) xs next k ≡ In p n → Has xs k) → Has (x ∷ xs) k
    go (inl e) _ = inl e
    go (inr ne) before = inr (before (sym (later previous next x k xs ne) ∙ h))

-- each number of the list has a place
pub place_of : (xs : List ℕ) (previous next : Option ℕ) (k : ℕ) → Has xs k
    → (p : Option ℕ) × (n : Option ℕ) × (place_in previous xs next k ≡ In p n)
place_of [] previous next k h = absurd h
place_of (x ∷ xs) previous next k h = go (cases_eq k x) h (place_of xs (Some x) next k)
  where
    go : (k ≡ x) ⊎ (k ≡ x → ⊥) → Has (x ∷ xs) k
        → (Has xs k → (p : Option ℕ) × (n : Option ℕ) × (place_in (Some x) xs next k ≡ In p n))
        → (p : Option ℕ) × (n : Option ℕ) × (place_in previous (x ∷ xs) next k ≡ In p n)
    go (inl e) _ _ = (previous, first_or xs next, here previous next x k xs e)
    go (inr ne) (inl e) _ = absurd (ne e)
    go (inr ne) (inr a) before = let r = before a in (r.0, r.1, later previous next x k xs ne ∙ r.2)

-- a neighbour in the list is one of its numbers, or what the list begins after
pub next_has : (xs : List ℕ) (previous : Option ℕ) (k y : ℕ) (p : Option ℕ)
    → place_in previous xs None k ≡ In p (Some y) → Has xs y
next_has [] previous k y p h = cc
next_has (x ∷ xs) previous k y p h = go (cases_eq k x) (next_has xs (Some x) k y p)
  where
    first_has : (zs : List ℕ) → first zs ≡ Some y → Has zs y
    first_has [] e = cc
    first_has (z ∷ zs) e = inl (cc)

    go : (k ≡ x) ⊎ (k ≡ x → ⊥) → (place_in (Some x) xs None k ≡ In p (Some y) → Has xs y)
        → Has (x ∷ xs) y
    go (inl e) _ = let q : In previous (first xs)
        ≡ In p (Some y) = sym (here previous None x k xs e) ∙ h in inr (first_has xs (cc))
    go (inr ne) before = inr (before (sym (later previous None x k xs ne) ∙ h))

pub previous_has : (xs : List ℕ) (previous : Option ℕ) (k : ℕ) (p n : Option ℕ)
    → place_in previous xs None k ≡ In p n → (p ≡ previous) ⊎ HasSome xs p
previous_has [] previous k p n h = cc
previous_has (x ∷ xs) previous k p n h = go (cases_eq k x) (previous_has xs (Some x) k p n)
  where
    wider : (q : Option ℕ) → HasSome xs q → HasSome (x ∷ xs) q
    wider None a = a
    wider (Some y) a = inr a

    go : (k ≡ x) ⊎ (k ≡ x → ⊥) → (place_in (Some x) xs None k ≡ In p n
        → (p ≡ Some x) ⊎ HasSome xs p) → (p ≡ previous) ⊎ HasSome (x ∷ xs) p
    go (inl e) _ = let q : In previous (first xs) ≡ In p n = sym (here previous None x k xs e)
        ∙ h in inl (cc)
    go (inr ne) before =
        ⊎_elim
        (λ (e : p ≡ Some x). inr (subst (λ v. HasSome (x ∷ xs) v) (sym e) (inl refl)))
        (λ (a : HasSome xs p). inr (wider p a))
        (before (sym (later previous None x k xs ne) ∙ h))

-- places of two lists, one after the other
pub places_before : (xs ys : List ℕ) (previous next : Option ℕ) (k : ℕ) → (Has ys k → ⊥)
    → place_in previous (xs ++ ys) next k ≡ place_in previous xs (first_or ys next) k
places_before [] ys previous next k lacks = place_outside ys previous next k lacks
places_before (x ∷ xs) ys previous next k lacks =
    go (cases_eq k x) (places_before xs ys (Some x) next k lacks)
  where
    go : (k ≡ x) ⊎ (k ≡ x → ⊥)
        → place_in (Some x) (xs ++ ys) next k ≡ place_in (Some x) xs (first_or ys next) k
        → place_in previous (x ∷ (xs ++ ys)) next k
        ≡ place_in previous (x ∷ xs) (first_or ys next) k
    go (inl e) _ =
        here previous next x k (xs ++ ys) e ∙ ap (λ v. In previous v) (first_or-append xs ys next)
        ∙ sym (here previous (first_or ys next) x k xs e)
    go (inr ne) before = later previous next x k (xs ++ ys) ne ∙ before
        ∙ sym (later previous (first_or ys next) x k xs ne)

pub places_behind : (xs ys : List ℕ) (previous next : Option ℕ) (k : ℕ) → (Has xs k → ⊥)
    → place_in previous (xs ++ ys) next k ≡ place_in (last_or previous xs) ys next k
places_behind [] ys previous next k lacks = refl
places_behind (x ∷ xs) ys previous next k lacks =
    later previous next x k (xs ++ ys) (λ e. lacks (inl e))
    ∙ places_behind xs ys (Some x) next k (λ h. lacks (inr h))

-- a link that is turned shows in the place of its node alone
pub with_next-ap : (node next : Option ℕ) (f g : ℕ → Place) (k : ℕ) → f k ≡ g k
    → with_next node next f k ≡ with_next node next g k
with_next-ap None next f g k e = e
with_next-ap (Some x) next f g k e = ap (λ v. if k == x then next_turned next v else v) e

pub with_previous-ap : (node previous : Option ℕ) (f g : ℕ → Place) (k : ℕ) → f k ≡ g k
    → with_previous node previous f k ≡ with_previous node previous g k
with_previous-ap None previous f g k e = e
with_previous-ap (Some x) previous f g k e =
    ap (λ v. if k == x then previous_turned previous v else v) e

pub with_next-outside : (node next : Option ℕ) (f : ℕ → Place) (k : ℕ) → f k ≡ Out
    → with_next node next f k ≡ Out
with_next-outside None next f k e = e
with_next-outside (Some x) next f k e = rw e (elim (k == x) as (λ b. (if b then Out else Out)
    ≡ Out) [ true ↦ refl | false ↦ refl ])

pub with_previous-outside : (node previous : Option ℕ) (f : ℕ → Place) (k : ℕ) → f k ≡ Out
    → with_previous node previous f k ≡ Out
with_previous-outside None previous f k e = e
with_previous-outside (Some x) previous f k e =
    rw e (elim (k == x) as (λ b. (if b then Out else Out) ≡ Out) [ true ↦ refl | false ↦ refl ])

pub with_next-other : (node next : Option ℕ) (f : ℕ → Place) (k : ℕ) → (node ≡ Some k → ⊥)
    → with_next node next f k ≡ f k
with_next-other None next f k ne = refl
with_next-other (Some x) next f k ne = rw (ne_eqb k x (λ e. ne (ap Some (sym e)))) refl

pub with_previous-other : (node previous : Option ℕ) (f : ℕ → Place) (k : ℕ) → (node ≡ Some k → ⊥)
    → with_previous node previous f k ≡ f k
with_previous-other None previous f k ne = refl
with_previous-other (Some x) previous f k ne = rw (ne_eqb k x (λ e. ne (ap Some (sym e)))) refl

pub with_next-same : (next : Option ℕ) (f : ℕ → Place) (k : ℕ)
    → with_next (Some k) next f k ≡ next_turned next (f k)
with_next-same next f k = rw (eq-eqb k k refl) refl

-- a list that begins after another node differs in the place of its first number alone
pub another_previous : (ys : List ℕ) (previous other : Option ℕ) (k : ℕ)
    → place_in other ys None k ≡ with_previous (first ys) other (place_in previous ys None) k
another_previous [] previous other k = refl
another_previous (y ∷ ys) previous other k = go (cases_eq k y)
  where
    go : (k ≡ y) ⊎ (k ≡ y → ⊥)
        → place_in other (y ∷ ys) None k
        ≡ with_previous (Some y) other (place_in previous (y ∷ ys) None) k
    go (inl e) = rw (eq-eqb k y e) refl
    go (inr ne) = rw (ne_eqb k y ne) refl

-- the numbers that are put in the place of x have the places of a list between its neighbours
pub new_places : (xs by : List ℕ) (previous : Option ℕ) (x k : ℕ) (p n : Option ℕ)
    → place_in previous xs None x ≡ In p n → (Has xs k → ⊥)
    → place_in previous (replaced x by xs) None k ≡ place_in p by n k
new_places [] by previous x k p n h lacks = cc
new_places (y ∷ ys) by previous x k p n h lacks =
    go (cases_eq x y) (λ e. new_places ys by (Some y) x k p n e (λ a. lacks (inr a)))
  where
    go : (x ≡ y) ⊎ (x ≡ y → ⊥) → (place_in (Some y) ys None x ≡ In p n
        → place_in (Some y) (replaced x by ys) None k ≡ place_in p by n k)
        → place_in previous (replaced x by (y ∷ ys)) None k ≡ place_in p by n k
    go (inl e) _ =
        let q : In previous (first ys) ≡ In p n = sym (here previous None y x ys e) ∙ h in
        let pe : previous ≡ p = cc in
        let ne : first ys ≡ n = cc in
        rw (
          replaced_here x y by ys e,
          places_before by ys previous None k (λ a. lacks (inr a)),
          pe,
          ne,
        ) refl
    go (inr other) before =
        rw (replaced_later x y by ys other)
        (later previous None y k (replaced x by ys) (λ e. lacks (inl e))
        ∙ before (sym (later previous None y x ys other) ∙ h))

-- what a part that is replaced leaves of the first number
pub first-replaced : (xs by : List ℕ) (previous : Option ℕ) (x : ℕ) (p n : Option ℕ)
    → place_in previous xs None x ≡ In p n
    → (first xs ≡ Some x) × (first (replaced x by xs) ≡ first_or by n) × (p ≡ previous)
    ⊎ ((first (replaced x by xs) ≡ first xs) × HasSome xs p × (first xs ≡ Some x → ⊥))
first-replaced [] by previous x p n h = cc
first-replaced (y ∷ ys) by previous x p n h = go (cases_eq x y)
  where
    within : (p ≡ Some y) ⊎ HasSome ys p → HasSome (y ∷ ys) p
    within (inl e) = subst (λ v. HasSome (y ∷ ys) v) (sym e) (inl refl)
    within (inr a) = wider p a
      where
        wider : (q : Option ℕ) → HasSome ys q → HasSome (y ∷ ys) q
        wider None b = b
        wider (Some z) b = inr b

    go : (x ≡ y) ⊎ (x ≡ y → ⊥)
        → (Some y ≡ Some x) × (first (replaced x by (y ∷ ys)) ≡ first_or by n) × (p ≡ previous)
        ⊎ ((first (replaced x by (y ∷ ys)) ≡ Some y) × HasSome (y ∷ ys) p × (Some y ≡ Some x → ⊥))
    go (inl e) =
        let q : In previous (first ys) ≡ In p n = sym (here previous None y x ys e) ∙ h in
        let pe : p ≡ previous = cc in
        let ne : first ys ≡ n = cc in
        inl (
          ap Some (sym e),
          rw (replaced_here x y by ys e, first_or-append by ys None, ne) refl,
          pe,
        )
    go (inr other) =
        inr (
          rw (replaced_later x y by ys other) refl,
          within (previous_has ys (Some y) x p n (sym (later previous None y x ys other) ∙ h)),
          λ e. other (cc),
        )

-- a link of a node outside the list turns nothing
with_next-free : (xs : List ℕ) (previous end node next : Option ℕ) (k : ℕ) → (HasSome xs node → ⊥)
    → with_next node next (place_in previous xs end) k ≡ place_in previous xs end k
with_next-free xs previous end None next k free = refl
with_next-free xs previous end (Some a) next k free =
    ⊎_elim
    (λ (e : k ≡ a).
    let out : place_in previous xs end k
    ≡ Out = place_outside xs previous end k (λ h. free (subst (λ v. Has xs v) e h)) in
    with_next-outside (Some a) next (place_in previous xs end) k out ∙ sym out)
    (λ (ne : k ≡ a
    → ⊥). with_next-other (Some a) next (place_in previous xs end) k (λ (q : Some a
    ≡ Some k). ne (cc)))
    (cases_eq k a)

-- x itself is outside once it is replaced
pub place_removed : (xs by : List ℕ) (previous : Option ℕ) (x : ℕ) → NoRepeats xs → (Has by x → ⊥)
    → place_in previous (replaced x by xs) None x ≡ Out
place_removed xs by previous x once lacks =
    place_outside (replaced x by xs) previous None x
    (λ h. ⊎_elim (λ (b : Has by x). lacks b) (λ (a : Has xs x
    × (x ≡ x → ⊥)). a.1 refl) (has_replaced xs by x x once h))

-- the places where the new numbers stand between these two
abbrev pub joined : Option ℕ → Option ℕ → List ℕ → (ℕ → Place) → ℕ → Place
joined p n by places k = with_previous n (last_or p by) (with_next p (first_or by n) places) k

-- the step at a list that begins with x
replaced_head : (y k : ℕ) (ys by : List ℕ) (previous p n : Option ℕ)
    → (HasSome (y ∷ ys) previous → ⊥) → previous ≡ p → first ys ≡ n → (Has by k → ⊥) → (k ≡ y → ⊥)
    → place_in previous (by ++ ys) None k ≡ joined p n by (place_in previous (y ∷ ys) None) k
replaced_head y k ys by previous p n free is_p is_n lacks other =
    let outside : HasSome (y ∷ ys) p
    → ⊥ = λ w. free (subst (λ v. HasSome (y ∷ ys) v) (sym is_p) w) in
    let stays : with_next p (first_or by n) (place_in previous (y ∷ ys) None) k
    ≡ place_in (Some y) ys None k =
    with_next-free (y ∷ ys) previous None p (first_or by n) k outside
    ∙ later previous None y k ys other in
    places_behind by ys previous None k lacks
    ∙ another_previous ys (Some y) (last_or previous by) k
    ∙ ap (λ v. with_previous v (last_or previous by) (place_in (Some y) ys None) k) is_n
    ∙ ap (λ v. with_previous n (last_or v by) (place_in (Some y) ys None) k) is_p
    ∙ with_previous-ap n (last_or p by) (place_in (Some y) ys None)
    (with_next p (first_or by n) (place_in previous (y ∷ ys) None)) k (sym stays)

-- the step at a later k
replaced_behind : (y k : ℕ) (ys new by : List ℕ) (previous p n : Option ℕ)
    → place_in (Some y) new None k ≡ joined p n by (place_in (Some y) ys None) k → (k ≡ y → ⊥)
    → place_in previous (y ∷ new) None k ≡ joined p n by (place_in previous (y ∷ ys) None) k
replaced_behind y k ys new by previous p n before other =
    later previous None y k new other
    ∙ before
    ∙ with_previous-ap n (last_or p by) (with_next p (first_or by n) (place_in (Some y) ys None))
    (with_next p (first_or by n) (place_in previous (y ∷ ys) None)) k
    (with_next-ap p (first_or by n) (place_in (Some y) ys None) (place_in previous (y ∷ ys) None) k
    (sym (later previous None y k ys other)))

-- the step at the first number k, which isn't x
replaced_beside : (k x : ℕ) (ys by : List ℕ) (previous p n : Option ℕ) → (Has ys k → ⊥)
    → place_in (Some k) ys None x ≡ In p n
    → place_in previous (k ∷ replaced x by ys) None k
    ≡ joined p n by (place_in previous (k ∷ ys) None) k
replaced_beside k x ys by previous p n apart place =
    let none_after : n ≡ Some k
    → ⊥ = λ w. apart (next_has ys (Some k) x k p (place ∙ ap (λ v. In p v) w)) in
    let is : place_in previous (k ∷ ys) None k
    ≡ In previous (first ys) = here previous None k k ys refl in
    here previous None k k (replaced x by ys) refl
    ∙ sym (turned is (first-replaced ys by (Some k) x p n place))
    ∙ sym (with_previous-other n (last_or p by)
    (with_next p (first_or by n) (place_in previous (k ∷ ys) None)) k none_after)
  where
    turned : place_in previous (k ∷ ys) None k ≡ In previous (first ys)
        → (first ys ≡ Some x) × (first (replaced x by ys) ≡ first_or by n) × (p ≡ Some k)
        ⊎ ((first (replaced x by ys) ≡ first ys) × HasSome ys p × (first ys ≡ Some x → ⊥))
        → with_next p (first_or by n) (place_in previous (k ∷ ys) None) k
        ≡ In previous (first (replaced x by ys))
    turned is (inl a) =
        ap (λ v. with_next v (first_or by n) (place_in previous (k ∷ ys) None) k) a.2
        ∙ with_next-same (first_or by n) (place_in previous (k ∷ ys) None) k
        ∙ ap (λ v. next_turned (first_or by n) v) is
        ∙ ap (λ v. In previous v) (sym a.1)
    turned is (inr b) =
        with_next-other p (first_or by n) (place_in previous (k ∷ ys) None) k
        (λ w. apart (subst (λ v. HasSome ys v) w b.1))
        ∙ is
        ∙ ap (λ v. In previous v) (sym b.0)

-- What the places become where x is replaced: its neighbours turn to the new numbers, and all
-- others stay.
pub places_replaced : (xs by : List ℕ) (previous : Option ℕ) (x k : ℕ) (p n : Option ℕ)
    → NoRepeats xs → (HasSome xs previous → ⊥) → place_in previous xs None x ≡ In p n
    → (Has by k → ⊥) → (k ≡ x → ⊥)
    → place_in previous (replaced x by xs) None k ≡ joined p n by (place_in previous xs None) k
places_replaced [] by previous x k p n once free h lacks ne = cc
places_replaced (y ∷ ys) by previous x k p n once free h lacks ne =
    go (cases_eq x y) (λ q. places_replaced ys by (Some y) x k p n once.1 once.0 q lacks ne)
    (cases_eq k y)
  where
    go : (x ≡ y) ⊎ (x ≡ y → ⊥) → (place_in (Some y) ys None x ≡ In p n
        → place_in (Some y) (replaced x by ys) None k ≡ joined p n by (place_in (Some y) ys None) k)
        → (k ≡ y) ⊎ (k ≡ y → ⊥)
        → place_in previous (replaced x by (y ∷ ys)) None k
        ≡ joined p n by (place_in previous (y ∷ ys) None) k
    go (inl e) _ _ =
        let q : In previous (first ys) ≡ In p n = sym (here previous None y x ys e) ∙ h in
        let is_p : previous ≡ p = cc in
        let is_n : first ys ≡ n = cc in
        rw (replaced_here x y by ys e)
        (replaced_head y k ys by previous p n free is_p is_n lacks (λ w. ne (w ∙ sym e)))
    go (inr apart) before (inl e) =
        let place : place_in (Some y) ys None x ≡ In p n = sym (later previous None y x ys apart)
        ∙ h in
        let beside : place_in previous (y ∷ replaced x by ys) None y
        ≡ joined p n by (place_in previous (y ∷ ys) None) y =
        replaced_beside y x ys by previous p n once.0 place in
        rw (replaced_later x y by ys apart, e) beside
    go (inr apart) before (inr other) =
        let place : place_in (Some y) ys None x ≡ In p n = sym (later previous None y x ys apart)
        ∙ h in
        rw (replaced_later x y by ys apart)
        (replaced_behind y k ys (replaced x by ys) by previous p n (before place) other)

-- the links of a list spell it out
pub walked : (xs : List ℕ) (places : List Place) (previous : Option ℕ) (count : ℕ) → NoRepeats xs
    → ((k : ℕ) → Has xs k → place_at places k ≡ place_in previous xs None k) → length xs ≤ count
    → walk places count (first xs) ≡ xs
walked [] places previous zero once placed short = refl
walked [] places previous (suc count) once placed short = refl
walked (x ∷ xs) places previous zero once placed short = absurd (omega arith)
walked (x ∷ xs) places previous (suc count) once placed short =
    let is : place_at places x ≡ In previous (first xs) = placed x (inl refl)
    ∙ here previous None x x xs refl in
    let rest : walk places count (first xs) ≡ xs = walked xs places (Some x) count once.1
    (λ k h. placed k (inr h) ∙ later previous None x k xs (λ e. once.0 (subst (λ v. Has xs v) e h)))
    (omega arith) in
    ap (λ v. x ∷ walk places count (next_of v)) is ∙ ap (λ v. x ∷ v) rest

pub order_is : (places : List Place) (start : Option ℕ) (order : List ℕ)
    → IsLinked places start order → order_of places start ≡ order
order_is places start order linked =
    ap (λ v. walk places (length places) v) linked.starts
    ∙ walked order places None (length places) linked.once (λ k h. linked.placed k) linked.short
