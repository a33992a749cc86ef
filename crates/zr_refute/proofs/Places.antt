-- Where a row stands among those that choices append.
use Rattle.std.proofs.Common.{◌≡◌, ◌≢◌, ℕ, zero, suc, ◌+◌, ◌*◌, ◌-◌, ◌/◌, ◌%◌, ◌<◌, ◌≤◌, ◌==◌, arith, refl, sym, ap, subst, ◌∙◌, mul_comm, mul-le-mul_right, true, false, if◌then◌else◌, List, [], ◌∷◌, ◌++◌, length, slice_get, get_or, drop, drop-cons, Some, None, ⊎_elim, length-append, add-one}
use Rattle.std.proofs.lemmas.Bool.{cases_eq, cases_lt}
use Rattle.std.proofs.lemmas.Bool.Decides.{nat_tests}
use Rattle.std.proofs.lemmas.Option.{slice_get_past}
use Rattle.zr_game.specs.Players.{GameOf}
use Rattle.zr_game.specs.declared.choice.Choice.{Choice}
use Rattle.zr_system.specs.declared.line.Line.{Line}
use Rattle.zr_system.specs.declared.line.Line.TheVariants.{Share}
use Rattle.zr_system.specs.Lines.{choice_lines, off_lines, other_lines, path_lines}
use Rattle.zr_system.specs.Regions.{LeavesOf, leaf_count, var_count}
use Rattle.zr_system.specs.Unknowns.{list_to}
use Rattle.zr_system.proofs.ListPlaces.{get_in, length_each}

module _ {A : Type 0} (f : ℕ → List A) where
  -- lists of one length, but for list k, which is empty
  but_one : (s k n : ℕ) → ((j : ℕ) → j ≢ k → length (f j) ≡ s) → length (f k) ≡ 0
      → (n ≤ k → length (list_to n f) ≡ n * s) × (k < n → length (list_to n f) + s ≡ n * s)
  but_one s k zero h z = ((λ p. omega arith), λ p. absurd (omega arith))
  but_one s k (suc n) h z =
      let l = length-append (list_to n f) (f n) in
      let r = but_one s k n h z in (
        λ p. let a = r.0 (omega (arith, p)) in let e = h n (λ (q : n ≡ k). omega arith) in
            omega (arith, l, a, e),
        λ p. ⊎_elim (λ (q : n ≡ k). let a = r.0 (omega (arith, q)) in
            let e : length (f n) ≡ 0 = subst (λ (j : ℕ). length (f j) ≡ 0) (sym q) z in
            omega (arith, l, a, e)) (λ (c : n ≢ k). let a = r.1 (omega (arith, p, c)) in
            let e = h n c in omega (arith, l, a, e)) (cases_eq n k),
      )

module _ (game : GameOf) (i k : ℕ) where
  abbrev both_shares : ℕ → List Line
  both_shares v = Share i k v false ∷ (Share i k v true ∷ [])

  pub off_length : length (off_lines game i k) ≡ 1 + 2 * var_count game i
  off_length =
      let e = length_each (var_count game i) 2 both_shares (λ v. refl) in omega (arith, e)

  at_share : (v r : ℕ) → r < 2 → slice_get (both_shares v) r ≡ Some (Share i k v (r == 1))
  at_share v zero h = refl
  at_share v (suc zero) h = refl
  at_share v (suc (suc r)) h = absurd (omega arith)

  pub off_share : (n : ℕ) → n ≢ 0 → (n - 1) / 2 < var_count game i
      → slice_get (off_lines game i k) n ≡ Some (Share i k ((n - 1) / 2) ((n - 1) % 2 == 1))
  off_share zero c h = absurd (c refl)
  off_share (suc m) c h =
      let o : suc m - 1 ≡ m = omega arith in
      let b : m / 2 < var_count game i = subst (λ (z : ℕ). z / 2 < var_count game i) o h in
      let l = length_each (m / 2) 2 both_shares (λ v. refl) in
      let r : m % 2 < 2 = omega arith in
      let p : length (list_to (m / 2) both_shares) + m % 2 ≡ m = omega (arith, l) in
      rw o (ap (slice_get (list_to (var_count game i) both_shares)) (sym p)
      ∙ get_in both_shares (var_count game i) (m / 2) (m % 2) b r ∙ at_share (m / 2) (m % 2) r)

  pub off_past : (n : ℕ) → n ≢ 0 → ((n - 1) / 2 < var_count game i → ⊥)
      → slice_get (off_lines game i k) n ≡ None
  off_past n c h =
      let l = off_length in
      let d : 2 * ((n - 1) / 2) + (n - 1) % 2 ≡ n - 1 = omega arith in
      slice_get_past (off_lines game i k) n (omega (arith, l, d, c, h))

module _ (game : GameOf) (leaves : LeavesOf) (i k s : ℕ)
    (size : (l : ℕ) → s ≡ length (off_lines game i l)) (inside : k < leaf_count leaves i) where
  abbrev others : ℕ → List Line
  others l = if l == k then [] else off_lines game i l

  other_size : (l : ℕ) → l ≢ k → length (others l) ≡ s
  other_size l c = let e : (l == k) ≡ false = grind (arith, nat_tests) in rw e (sym (size l))

  own_size : length (others k) ≡ 0
  own_size = let e : (k == k) ≡ true = grind (arith, nat_tests) in rw e refl

  pub other_length : length (other_lines game leaves i k) ≡ (leaf_count leaves i - 1) * s
  other_length = less (leaf_count leaves i) inside
      ((but_one others s k (leaf_count leaves i) other_size own_size).1 inside)
    where
      less : (n : ℕ) → k < n → length (list_to n others) + s ≡ n * s
          → length (list_to n others) ≡ (n - 1) * s
      less zero h e = absurd (omega arith)
      less (suc n) h e = let o : suc n - 1 ≡ n = omega arith in rw o (omega (arith, e))

  pub other_past : (n : ℕ) → leaf_count leaves i ≤ n / s + 1 → 0 < s
      → slice_get (other_lines game leaves i k) n ≡ None
  other_past n h p =
      let l = other_length in
      let d : s * (n / s) + n % s ≡ n = omega (arith, p) in
      let t : (leaf_count leaves i - 1) * s ≤ (n / s) * s = mul-le-mul_right s (omega (arith, h)) in
      let o = mul_comm (n / s) s in
      slice_get_past (other_lines game leaves i k) n (omega (arith, l, d, t, o))

  pub other_at : (n l : ℕ) → l < leaf_count leaves i → 0 < s
      → (n / s < k → l ≡ n / s) → (k ≤ n / s → l ≡ n / s + 1)
      → slice_get (other_lines game leaves i k) n ≡ slice_get (off_lines game i l) (n % s)
  other_at n l h p e g =
      ⊎_elim (λ (q : n / s < k). let f = e q in found (omega (arith, f, q)) (let t = (but_one others s k l
      other_size own_size).0 (omega (arith, f, q)) in let u : l * s ≡ (n / s) * s = ap (λ (m : ℕ). m * s) f in
      omega (arith, t, u)))
      (λ (q : k ≤ n / s). let f = g q in found (omega (arith, f, q)) (let t = (but_one others s k l
      other_size own_size).1 (omega (arith, f, q)) in
      let u : l * s ≡ (n / s + 1) * s = ap (λ (m : ℕ). m * s) f in
      let v : (n / s + 1) * s ≡ (n / s) * s + s = omega arith in
      omega (arith, t, u, v))) (cases_lt (n / s) k)
    where
      found : l ≢ k → length (list_to l others) ≡ (n / s) * s
          → slice_get (other_lines game leaves i k) n ≡ slice_get (off_lines game i l) (n % s)
      found c z =
          let d : s * (n / s) + n % s ≡ n = omega (arith, p) in
          let o = mul_comm (n / s) s in
          let b : n % s < s = omega (arith, p) in
          let w = other_size l c in
          let x : (l == k) ≡ false = grind (arith, nat_tests) in
          let y : length (list_to l others) + n % s ≡ n = omega (arith, d, o, z) in
          let v : others l ≡ off_lines game i l = rw x refl in
          ap (slice_get (other_lines game leaves i k)) (sym y)
          ∙ get_in others (leaf_count leaves i) l (n % s) h (omega (arith, b, w))
          ∙ ap (λ (xs : List Line). slice_get xs (n % s)) v

pub path_found : (game : GameOf) (leaves : LeavesOf) (path : List Choice) (m : ℕ) (d : Choice)
    → m < length path → path_lines game leaves (drop m path)
    ≡ choice_lines game leaves (get_or path m d) ++ path_lines game leaves (drop (m + 1) path)
path_found game leaves path m d h =
    rw add-one (ap (path_lines game leaves) (drop-cons path m d h))
