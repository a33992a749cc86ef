-- A form is the sum, over the columns, of its numbers there times the unknowns.
use Rattle.std.proofs.Common.{◌≡◌, ◌≢◌, ℕ, zero, suc, ◌<◌, arith, refl, sym, ap, ap₂, subst, ◌∙◌, ℤ, pos, ◌+ℤ◌, ◌*ℤ◌, Bool, true, false, IsTrue, if◌then◌else◌, ◌==◌, ◌&&◌, List, [], ◌∷◌, ◌++◌, length, ◌⊎◌, ⊎_elim, inl, inr}
use Rattle.std.proofs.Math.IntN.{*ℤ_comm}
use Rattle.std.proofs.lemmas.Bool.Decides.{nat_tests}
use Rattle.std.proofs.lemmas.Int.{ints}
use Rattle.zr_base.specs.Sums.{sum_to}
use Rattle.zr_base.proofs.Dense.{sum_to-add, sum_to-mul, sum_to_same}
use Rattle.zr_base.proofs.Members.{each_join}
use Rattle.zr_base.proofs.Ring.{spread}
use Rattle.zr_base.proofs.Worth.{Each}
use Rattle.zr_game.specs.Players.{GameOf}
use Rattle.zr_system.specs.declared.unknown.Unknown.{Unknown}
use Rattle.zr_system.specs.declared.unknown.Unknown.TheVariants.{One, Worth, Share, Weight, Dual}
use Rattle.zr_system.specs.Asked.{IsInColumns, LeafExists}
use Rattle.zr_system.specs.Forms.{Form, of, times, plus, sum, amount, is_same, number_at, only}
use Rattle.zr_system.specs.Regions.{LeavesOf, all_slots, is_exact, is_present, leaf_count, slot_count, var_count}
use Rattle.zr_system.specs.Unknowns.{columns, duals, leaf_unknowns, list_to, player_unknowns, shares}
use Rattle.zr_system.proofs.Joined.{each_if, each_to}
use Rattle.zr_system.proofs.Lists.{slot_below}
use Rattle.zr_system.proofs.Sums.{sum_to-single}

-- the sum of f over the list
abbrev pub total : List Unknown → (Unknown → ℤ) → ℤ
total [] f = pos 0
total (u ∷ us) f = f u +ℤ total us f

total_join : (us ws : List Unknown) (f : Unknown → ℤ)
    → total (us ++ ws) f ≡ total us f +ℤ total ws f
total_join [] ws f = omega (arith, ints)
total_join (u ∷ us) ws f = let r = total_join us ws f in omega (arith, ints, r)

total_to : (n : ℕ) (g : ℕ → List Unknown) (f : Unknown → ℤ)
    → total (list_to n g) f ≡ sum_to n (λ k. total (g k) f)
total_to zero g f = refl
total_to (suc n) g f =
    let r = total_to n g f in
    let j = total_join (list_to n g) (g n) f in
    omega (arith, ints, r, j)

pub total_same : (us : List Unknown) (f g : Unknown → ℤ) → ((u : Unknown) → f u ≡ g u)
    → total us f ≡ total us g
total_same [] f g h = refl
total_same (u ∷ us) f g h = ap₂ ◌+ℤ◌ (h u) (total_same us f g h)

total_zero : (us : List Unknown) → total us (λ u. pos 0) ≡ pos 0
total_zero [] = refl
total_zero (u ∷ us) = let r = total_zero us in omega (arith, ints, r)

total-mul : (us : List Unknown) (a : ℤ) (f : Unknown → ℤ)
    → total us (λ u. a *ℤ f u) ≡ a *ℤ total us f
total-mul [] a f = omega (arith, ints)
total-mul (u ∷ us) a f =
    ap (λ z. a *ℤ f u +ℤ z) (total-mul us a f) ∙ simp spread (omega (arith, ints))

total-add : (us : List Unknown) (f g : Unknown → ℤ)
    → total us (λ u. f u +ℤ g u) ≡ total us f +ℤ total us g
total-add [] f g = refl
total-add (u ∷ us) f g = let r = total-add us f g in omega (arith, ints, r)

total-sum : (us : List Unknown) (n : ℕ) (f : ℕ → Unknown → ℤ)
    → total us (λ u. sum_to n (λ k. f k u)) ≡ sum_to n (λ k. total us (f k))
total-sum us zero f = total_zero us
total-sum us (suc n) f =
    total-add us (λ u. sum_to n (λ k. f k u)) (f n)
    ∙ ap (λ z. z +ℤ total us (f n)) (total-sum us n f)

equal : (i j : ℕ) → (i == j) ≡ true → i ≡ j
equal i j e = grind (arith, nat_tests)

itself : (i : ℕ) → (i == i) ≡ true
itself i = grind (arith, nat_tests)

unequal : (i j : ℕ) → i ≢ j → (i == j) ≡ false
unequal i j c = grind (arith, nat_tests)

both : (a b : Bool) → (a && b) ≡ true → (a ≡ true) × (b ≡ true)
both true true e = (refl, refl)
both true false e = absurd cc
both false b e = absurd cc

front : (a b : Bool) → a ≡ false → (a && b) ≡ false
front true b e = absurd cc
front false b e = refl

back : (a b : Bool) → b ≡ false → (a && b) ≡ false
back true b e = e
back false b e = refl

pub same_is : (u w : Unknown) → is_same u w ≡ true → u ≡ w
same_is One One e = refl
same_is (Worth i) (Worth j) e = ap Worth (equal i j e)
same_is (Share i k v) (Share j l w) e =
    let a = both (i == j) ((k == l) && (v == w)) e in
    let b = both (k == l) (v == w) a.1 in
    let p = equal i j a.0 in
    let q = equal k l b.0 in
    let r = equal v w b.1 in
    rw (p, q, r) refl
same_is (Weight i k) (Weight j l) e =
    let a = both (i == j) (k == l) e in
    let p = equal i j a.0 in
    let q = equal k l a.1 in
    rw (p, q) refl
same_is (Dual i k s) (Dual j l t) e =
    let a = both (i == j) ((k == l) && (s == t)) e in
    let b = both (k == l) (s == t) a.1 in
    let p = equal i j a.0 in
    let q = equal k l b.0 in
    let r = equal s t b.1 in
    rw (p, q, r) refl
same_is a b e = absurd cc

pub same_self : (u : Unknown) → is_same u u ≡ true
same_self One = refl
same_self (Worth i) = itself i
same_self (Share i k v) = rw (itself i, itself k, itself v) refl
same_self (Weight i k) = rw (itself i, itself k) refl
same_self (Dual i k s) = rw (itself i, itself k, itself s) refl

-- the unknown isn't in the list, and is there once
abbrev None : Unknown → List Unknown → Type 0
None u us = Each (λ w. is_same w u ≡ false) us

abbrev pub Once : Unknown → List Unknown → Type 0
Once u us = total us (λ w. only w u) ≡ pos 1

module _ (u : Unknown) where
  none_total : (us : List Unknown) → None u us → total us (λ w. only w u) ≡ pos 0
  none_total [] h = refl
  none_total (w ∷ ws) h =
      let e = h.0 in
      let r = none_total ws h.1 in
      let z : only w u ≡ pos 0 = rw e refl in
      omega (arith, ints, r, z)

  once_first : (us : List Unknown) → None u us → Once u (u ∷ us)
  once_first us h =
      let e = same_self u in
      let r = none_total us h in
      let z : only u u ≡ pos 1 = rw e refl in
      omega (arith, ints, r, z)

  once_later : (w : Unknown) (us : List Unknown) → is_same w u ≡ false → Once u us
      → Once u (w ∷ us)
  once_later w us e h = let z : only w u ≡ pos 0 = rw e refl in omega (arith, ints, h, z)

  once_left : (us ws : List Unknown) → Once u us → None u ws → Once u (us ++ ws)
  once_left us ws h n =
      let j = total_join us ws (λ w. only w u) in
      let z = none_total ws n in
      omega (arith, ints, h, j, z)

  once_right : (us ws : List Unknown) → None u us → Once u ws → Once u (us ++ ws)
  once_right us ws n h =
      let j = total_join us ws (λ w. only w u) in
      let z = none_total us n in
      omega (arith, ints, h, j, z)

  once_to : (n k : ℕ) (g : ℕ → List Unknown) → k < n → Once u (g k)
      → ((j : ℕ) → j < n → j ≢ k → None u (g j)) → Once u (list_to n g)
  once_to n k g below h others =
      total_to n g (λ w. only w u)
      ∙ sum_to-single n k (λ j. total (g j) (λ w. only w u)) below
      (λ j p c. none_total (g j) (others j p c)) ∙ h

module _ (game : GameOf) (leaves : LeavesOf) where
  no_duals : (i k : ℕ) (u : Unknown) → ((s : ℕ) → is_same (Dual i k s) u ≡ false)
      → None u (duals game leaves i k)
  no_duals i k u h =
      let P = λ (w : Unknown). is_same w u ≡ false in
      each_to P (slot_count game leaves i k)
      (λ s. if is_present game leaves i k s then Dual i k s ∷ [] else [])
      (λ s p. each_if P (is_present game leaves i k s) (Dual i k s ∷ []) (λ e. (h s, tt)))

  no_shares : (i k : ℕ) (u : Unknown) → ((v : ℕ) → is_same (Share i k v) u ≡ false)
      → None u (shares game i k)
  no_shares i k u h =
      each_to (λ (w : Unknown). is_same w u ≡ false) (var_count game i) (λ v. Share i k v ∷ [])
      (λ v p. (h v, tt))

  if_duals : (i k : ℕ) (u : Unknown) → ((s : ℕ) → is_same (Dual i k s) u ≡ false)
      → None u (if is_exact leaves i k then duals game leaves i k else [])
  if_duals i k u h =
      each_if (λ (w : Unknown). is_same w u ≡ false) (is_exact leaves i k)
      (duals game leaves i k) (λ e. no_duals i k u h)

  -- a leaf has none of the unknowns of other leaves
  no_leaf : (i k : ℕ) (u : Unknown) → ((v : ℕ) → is_same (Share i k v) u ≡ false)
      → is_same (Weight i k) u ≡ false → ((s : ℕ) → is_same (Dual i k s) u ≡ false)
      → None u (leaf_unknowns game leaves i k)
  no_leaf i k u a b c =
      each_join (λ (w : Unknown). is_same w u ≡ false) (shares game i k)
      (Weight i k ∷ (if is_exact leaves i k then duals game leaves i k else []))
      (no_shares i k u a) (b, if_duals i k u c)

  no_player : (i : ℕ) (u : Unknown) → is_same (Worth i) u ≡ false
      → ((k v : ℕ) → is_same (Share i k v) u ≡ false) → ((k : ℕ) → is_same (Weight i k) u ≡ false)
      → ((k s : ℕ) → is_same (Dual i k s) u ≡ false) → None u (player_unknowns game leaves i)
  no_player i u w a b c = (
    w,
    each_to (λ (x : Unknown). is_same x u ≡ false) (leaf_count leaves i)
        (λ k. leaf_unknowns game leaves i k)
        (λ k p. no_leaf i k u (a k) (b k) (c k)),
  )

  -- the unknown of a leaf is there once
  of_leaf : (i k : ℕ) (u : Unknown) → LeafExists game leaves i k
      → Once u (leaf_unknowns game leaves i k)
      → ((j : ℕ) → is_same (Worth j) u ≡ false)
      → ((j l v : ℕ) → (j ≢ i) ⊎ (l ≢ k) → is_same (Share j l v) u ≡ false)
      → ((j l : ℕ) → (j ≢ i) ⊎ (l ≢ k) → is_same (Weight j l) u ≡ false)
      → ((j l s : ℕ) → (j ≢ i) ⊎ (l ≢ k) → is_same (Dual j l s) u ≡ false)
      → Once u (columns game leaves)
  of_leaf i k u there once w a b c =
      once_to u (length game) i (λ j. player_unknowns game leaves j) there.0
      (once_later u (Worth i) (list_to (leaf_count leaves i) (λ l. leaf_unknowns game leaves i l))
      (w i) (once_to u (leaf_count leaves i) k (λ l. leaf_unknowns game leaves i l) there.1 once
      (λ l p n. no_leaf i l u (λ v. a i l v (inr n)) (b i l (inr n)) (λ s. c i l s (inr n)))))
      (λ j p n. no_player j u (w j) (λ l v. a j l v (inl n)) (λ l. b j l (inl n))
      (λ l s. c j l s (inl n)))

  apart_two : (j i l k : ℕ) → (j ≢ i) ⊎ (l ≢ k) → ((j == i) && (l == k)) ≡ false
  apart_two j i l k h = ⊎_elim (λ (n : j ≢ i). front (j == i) (l == k) (unequal j i n))
      (λ (n : l ≢ k). back (j == i) (l == k) (unequal l k n)) h

  apart_three : (j i l k : ℕ) (b : Bool) → (j ≢ i) ⊎ (l ≢ k)
      → ((j == i) && ((l == k) && b)) ≡ false
  apart_three j i l k b h =
      ⊎_elim (λ (n : j ≢ i). front (j == i) ((l == k) && b) (unequal j i n))
      (λ (n : l ≢ k). back (j == i) ((l == k) && b) (front (l == k) b (unequal l k n))) h

  last_apart : (a b : Bool) (m n : ℕ) → m ≢ n → (a && (b && (m == n))) ≡ false
  last_apart a b m n c = back a (b && (m == n)) (back b (m == n) (unequal m n c))

  -- each unknown that has a column has one
  pub once : (u : Unknown) → IsInColumns game leaves u → Once u (columns game leaves)
  once One h = absurd h
  once (Worth i) h =
      once_to (Worth i) (length game) i (λ j. player_unknowns game leaves j) h
      (once_first (Worth i) (list_to (leaf_count leaves i) (λ l. leaf_unknowns game leaves i l))
      (each_to (λ (w : Unknown). is_same w (Worth i) ≡ false) (leaf_count leaves i)
      (λ l. leaf_unknowns game leaves i l)
      (λ l p. no_leaf i l (Worth i) (λ v. refl) refl (λ s. refl))))
      (λ j p n. no_player j (Worth i) (unequal j i n) (λ l v. refl) (λ l. refl) (λ l s. refl))
  once (Share i k v) h =
      of_leaf i k (Share i k v) h.0 (once_left (Share i k v) (shares game i k)
      (Weight i k ∷ (if is_exact leaves i k then duals game leaves i k else []))
      (once_to (Share i k v) (var_count game i) v (λ w. Share i k w ∷ []) h.1
      (once_first (Share i k v) [] tt) (λ w p n. (last_apart (i == i) (k == k) w v n, tt)))
      (refl, if_duals i k (Share i k v) (λ s. refl))) (λ j. refl)
      (λ j l w d. apart_three j i l k (w == v) d) (λ j l d. refl) (λ j l s d. refl)
  once (Weight i k) h =
      of_leaf i k (Weight i k) h (once_right (Weight i k) (shares game i k)
      (Weight i k ∷ (if is_exact leaves i k then duals game leaves i k else []))
      (no_shares i k (Weight i k) (λ v. refl)) (once_first (Weight i k)
      (if is_exact leaves i k then duals game leaves i k else [])
      (if_duals i k (Weight i k) (λ s. refl)))) (λ j. refl) (λ j l v d. refl)
      (λ j l d. apart_two j i l k d) (λ j l s d. refl)
  once (Dual i k s) h =
      of_leaf i k (Dual i k s) h.0 (once_right (Dual i k s) (shares game i k)
      (Weight i k ∷ (if is_exact leaves i k then duals game leaves i k else []))
      (no_shares i k (Dual i k s) (λ v. refl)) (once_later (Dual i k s) (Weight i k)
      (if is_exact leaves i k then duals game leaves i k else []) refl
      (in_exact (is_exact leaves i k) h.1))) (λ j. refl) (λ j l v d. refl) (λ j l d. refl)
      (λ j l t d. apart_three j i l k (t == s) d)
    where
      P : Unknown → Type 0
      P w = is_same w (Dual i k s) ≡ false

      here : (b : Bool) → IsTrue b → Once (Dual i k s) (if b then Dual i k s ∷ [] else [])
      here true t = once_first (Dual i k s) [] tt
      here false t = absurd cc

      there : Once (Dual i k s) (duals game leaves i k)
      there =
          once_to (Dual i k s) (slot_count game leaves i k) s
          (λ t. if is_present game leaves i k t then Dual i k t ∷ [] else [])
          (slot_below (all_slots game leaves i k) s h.2)
          (here (is_present game leaves i k s) h.2)
          (λ t p n. each_if (λ (w : Unknown). is_same w (Dual i k s) ≡ false)
          (is_present game leaves i k t) (Dual i k t ∷ [])
          (λ e. (last_apart (i == i) (k == k) t s n, tt)))

      in_exact : (b : Bool) → b ≡ true
          → Once (Dual i k s) (if b then duals game leaves i k else [])
      in_exact true e = there
      in_exact false e = absurd cc

  -- a column isn't the denominator's
  not_one : (u : Unknown) → IsInColumns game leaves u → is_same One u ≡ false
  not_one One h = absurd h
  not_one (Worth i) h = refl
  not_one (Share i k v) h = refl
  not_one (Weight i k) h = refl
  not_one (Dual i k s) h = refl

  -- each unknown of the form has a column, or is multiplied by 0, or is the denominator
  abbrev pub IsOver : Form → Type 0
  IsOver (of u) = (u ≡ One) ⊎ IsInColumns game leaves u
  IsOver (times a f) = (a ≡ pos 0) ⊎ IsOver f
  IsOver (plus f g) = IsOver f × IsOver g
  IsOver (sum n f) = (k : ℕ) → k < n → IsOver (f k)

  no_one : None One (columns game leaves)
  no_one =
      each_to (λ (w : Unknown). is_same w One ≡ false) (length game)
      (λ i. player_unknowns game leaves i) (λ i p. no_player i One refl (λ k v. refl) (λ k. refl)
      (λ k s. refl))

  module _ (x : Unknown → ℤ) where
    -- the form's numbers at the columns, times the unknowns
    abbrev pub across : Form → ℤ
    across f = total (columns game leaves) (λ w. number_at f w *ℤ x w)

    swapped : (u w : Unknown) → only w u *ℤ x w ≡ x u *ℤ only w u
    swapped u w = tested (is_same w u) refl
      where
        tested : (b : Bool) → is_same w u ≡ b → only w u *ℤ x w ≡ x u *ℤ only w u
        tested true e = let s : x w ≡ x u = ap x (same_is w u e) in rw (e, s) (*ℤ_comm (pos 1) (x u))
        tested false e =
            let a : pos 0 *ℤ x w ≡ pos 0 = omega (arith, ints) in
            let b : x u *ℤ pos 0 ≡ pos 0 = omega (arith, ints) in
            rw e (a ∙ sym b)

    of_column : (u : Unknown) → IsInColumns game leaves u
        → x u ≡ across (of u) +ℤ number_at (of u) One *ℤ x One
    of_column u h =
        let e = not_one u h in
        let z : only One u *ℤ x One ≡ pos 0 = rw e (omega (arith, ints)) in
        let s = total_same (columns game leaves) (λ w. only w u *ℤ x w) (λ w. x u *ℤ only w u)
        (swapped u) ∙ total-mul (columns game leaves) (x u) (λ w. only w u)
        ∙ ap (λ y. x u *ℤ y) (once u h) in
        omega (arith, ints, s, z)

    of_one : x One ≡ across (of One) +ℤ number_at (of One) One *ℤ x One
    of_one =
        let s = total_same (columns game leaves) (λ w. only w One *ℤ x w) (λ w. x One *ℤ only w One)
        (swapped One) ∙ total-mul (columns game leaves) (x One) (λ w. only w One)
        ∙ ap (λ y. x One *ℤ y) (none_total One (columns game leaves) no_one) in
        omega (arith, ints, s)

    zero_times : (a y z : ℤ) → a ≡ pos 0 → (a *ℤ y) *ℤ z ≡ pos 0
    zero_times a y z e =
        let p : a *ℤ y ≡ pos 0 = rw e (omega (arith, ints)) in rw p (omega (arith, ints))

    -- what the form amounts to, by its numbers
    pub expanded : (f : Form) → IsOver f → amount f x ≡ across f +ℤ number_at f One *ℤ x One
    expanded (of u) (inl e) = subst (λ (w : Unknown). x w ≡ across (of w) +ℤ number_at (of w) One *ℤ x One) (sym e) of_one
    expanded (of u) (inr h) = of_column u h
    expanded (times a f) (inl e) =
        let z = total_same (columns game leaves) (λ w. number_at (times a f) w *ℤ x w)
        (λ w. pos 0) (λ w. zero_times a (number_at f w) (x w) e)
        ∙ total_zero (columns game leaves) in
        let y = zero_times a (number_at f One) (x One) e in
        let l : a *ℤ amount f x ≡ pos 0 = rw e (omega (arith, ints)) in
        omega (arith, ints, z, y, l)
    expanded (times a f) (inr h) =
        let r = ap (λ y. a *ℤ y) (expanded f h) in
        let s = total_same (columns game leaves) (λ w. (a *ℤ number_at f w) *ℤ x w)
        (λ w. a *ℤ (number_at f w *ℤ x w)) (λ w. simp spread)
        ∙ total-mul (columns game leaves) a (λ w. number_at f w *ℤ x w) in
        multiplied a (amount f x) (across f) (number_at f One) (x One) _ r s
      where
        multiplied : (a m t n d s : ℤ) → a *ℤ m ≡ a *ℤ (t +ℤ n *ℤ d) → s ≡ a *ℤ t
            → a *ℤ m ≡ s +ℤ (a *ℤ n) *ℤ d
        multiplied a m t n d s e f = let e2 = simp spread at e in simp spread (omega (arith, ints, e2, f))
    expanded (plus f g) h =
        let r = expanded f h.0 in
        let q = expanded g h.1 in
        let s = total_same (columns game leaves) (λ w. (number_at f w +ℤ number_at g w) *ℤ x w)
        (λ w. number_at f w *ℤ x w +ℤ number_at g w *ℤ x w) (λ w. simp spread)
        ∙ total-add (columns game leaves) (λ w. number_at f w *ℤ x w)
        (λ w. number_at g w *ℤ x w) in
        let t : (number_at f One +ℤ number_at g One) *ℤ x One ≡ number_at f One *ℤ x One +ℤ
        number_at g One *ℤ x One = simp spread in
        omega (arith, ints, r, q, s, t)
    expanded (sum n f) h =
        let s = total_same (columns game leaves)
        (λ w. sum_to n (λ k. number_at (f k) w) *ℤ x w)
        (λ w. sum_to n (λ k. number_at (f k) w *ℤ x w))
        (λ w. times_sum n (λ k. number_at (f k) w) (x w))
        ∙ total-sum (columns game leaves) n (λ k w. number_at (f k) w *ℤ x w) in
        let t = times_sum n (λ k. number_at (f k) One) (x One) in
        let r = sum_to_same n (λ k. amount (f k) x)
        (λ k. across (f k) +ℤ number_at (f k) One *ℤ x One) (λ k p. expanded (f k) (h k p))
        ∙ sum_to-add n (λ k. across (f k)) (λ k. number_at (f k) One *ℤ x One) in
        omega (arith, ints, r, s, t)
      where
        times_sum : (n : ℕ) (g : ℕ → ℤ) (d : ℤ) → sum_to n g *ℤ d ≡ sum_to n (λ k. g k *ℤ d)
        times_sum n g d =
            *ℤ_comm (sum_to n g) d ∙ sym (sum_to-mul n d g)
            ∙ sum_to_same n (λ k. d *ℤ g k) (λ k. g k *ℤ d) (λ k p. *ℤ_comm d (g k))
