-- What stands in the lists of unknowns and rows exists, and where the rows of named items stand.
use Rattle.std.proofs.Common.{◌≡◌, ℕ, zero, suc, ◌+◌, ◌<◌, arith, refl, ap, subst, ◌∙◌, Bool, true, false, if◌then◌else◌, ◌==◌, List, [], ◌∷◌, ◌++◌, length, get_or, All, map, take, add-one, ⊎_elim}
use Rattle.std.proofs.Math.ListN.{get_or-append}
use Rattle.std.proofs.lemmas.Bool.{cases_eq}
use Rattle.std.proofs.lemmas.List.{get_or-append-add, length-append}
use Rattle.zr_game.specs.Players.{GameOf}
use Rattle.zr_game.specs.declared.choice.Choice.{Choice}
use Rattle.zr_game.specs.declared.choice.Choice.TheVariants as AChoice
use Rattle.zr_system.specs.declared.line.Line.{Line}
use Rattle.zr_system.specs.declared.line.Line.TheVariants as ALine
use Rattle.zr_system.specs.declared.unknown.Unknown.{Unknown}
use Rattle.zr_system.specs.declared.unknown.Unknown.TheVariants.{One, Worth, Share, Weight, Dual}
use Rattle.zr_system.specs.Regions.{LeavesOf, all_slots, var_count, leaf_count, slot_count, is_present, is_exact, named_at}
use Rattle.zr_system.specs.Unknowns.{columns, duals, leaf_unknowns, list_to, player_unknowns, shares}
use Rattle.zr_system.specs.Lines.{all_lines, base_lines, choice_lines, dual_lines, leaf_lines, off_lines, other_lines, path_lines, player_lines, pull_lines, reach_lines, slot_lines}
use Rattle.zr_system.specs.Asked.{ChoiceExists, IsInColumns, IsUnknown, LeafExists, LineExists, no_line}
use Rattle.zr_system.proofs.Lists.{slot_below}

module _ {A : Type 0} (P : A → Type 0) where
  pub all_nil : All P []
  all_nil k d h = absurd (omega arith)

  pub all_cons : (x : A) (xs : List A) → P x → All P xs → All P (x ∷ xs)
  all_cons x xs p rest zero d h = p
  all_cons x xs p rest (suc k) d h = rest k d (omega arith)

  pub all_one : (x : A) → P x → All P (x ∷ [])
  all_one x p = all_cons x [] p all_nil

  pub all_append : (xs ys : List A) → All P xs → All P ys → All P (xs ++ ys)
  all_append [] ys a b = b
  all_append (x ∷ xs) ys a b =
      all_cons x (xs ++ ys) (a 0 x (omega arith))
      (all_append xs ys (λ k d h. a (suc k) d (omega arith)) b)

  pub all_to : (n : ℕ) (f : ℕ → List A) → ((k : ℕ) → k < n → All P (f k)) → All P (list_to n f)
  all_to zero f h = all_nil
  all_to (suc n) f h = all_append (list_to n f) (f n) (all_to n f (λ k p. h k (omega arith)))
      (h n (omega arith))

  all_if : (b : Bool) (xs : List A) → (b ≡ true → All P xs) → All P (if b then xs else [])
  all_if true xs a = a refl
  all_if false xs a = all_nil

  all_unless : (b : Bool) (xs : List A) → All P xs → All P (if b then [] else xs)
  all_unless true xs a = all_nil
  all_unless false xs a = a

module _ (game : GameOf) (leaves : LeavesOf) where
  leaf_in_columns : (i k : ℕ) → LeafExists game leaves i k
      → All (IsInColumns game leaves) (leaf_unknowns game leaves i k)
  leaf_in_columns i k h =
      let P = IsInColumns game leaves in
      all_append P (shares game i k) (Weight i k ∷
      (if is_exact leaves i k then duals game leaves i k else []))
      (all_to P (var_count game i) (λ v. Share i k v ∷ [])
      (λ v q. all_one P (Share i k v) (h, q)))
      (all_cons P (Weight i k) (if is_exact leaves i k then duals game leaves i k else []) h
      (all_if P (is_exact leaves i k) (duals game leaves i k) (λ exact.
      all_to P (slot_count game leaves i k)
      (λ s. if is_present game leaves i k s then Dual i k s ∷ [] else [])
      (λ s q. all_if P (is_present game leaves i k s) (Dual i k s ∷ [])
      (λ present. all_one P (Dual i k s) (h, exact, present))))))

  -- no other unknown has a column
  pub columns_hold : All (IsInColumns game leaves) (columns game leaves)
  columns_hold =
      let P = IsInColumns game leaves in
      all_to P (length game) (λ i. player_unknowns game leaves i)
      (λ i h. all_cons P (Worth i) (list_to (leaf_count leaves i)
      (λ k. leaf_unknowns game leaves i k)) h
      (all_to P (leaf_count leaves i) (λ k. leaf_unknowns game leaves i k)
      (λ k q. leaf_in_columns i k (h, q))))

  unknown_is : (u : Unknown) → IsInColumns game leaves u → IsUnknown game leaves u
  unknown_is One h = tt
  unknown_is (Worth i) h = h
  unknown_is (Share i k v) h = h
  unknown_is (Weight i k) h = h
  unknown_is (Dual i k s) h = (h.0, slot_below (all_slots game leaves i k) s h.2)

  pub columns_exist : All (IsUnknown game leaves) (columns game leaves)
  columns_exist j d h = unknown_is (get_or (columns game leaves) j d) (columns_hold j d h)

  dual_lines_exist : (i k : ℕ) → LeafExists game leaves i k
      → All (LineExists game leaves) (dual_lines game leaves i k)
  dual_lines_exist i k h =
      let P = LineExists game leaves in
      all_append P (list_to (slot_count game leaves i k)
      (λ s. if is_present game leaves i k s then ALine.Dual i k s false ∷ [] else []))
      (pull_lines game i k ++ (ALine.Gain i k false ∷ []))
      (all_to P (slot_count game leaves i k)
      (λ s. if is_present game leaves i k s then ALine.Dual i k s false ∷ [] else [])
      (λ s q. all_if P (is_present game leaves i k s) (ALine.Dual i k s false ∷ [])
      (λ e. all_one P (ALine.Dual i k s false) h)))
      (all_append P (pull_lines game i k) (ALine.Gain i k false ∷ [])
      (all_to P (var_count game i) (λ v. ALine.Pull i k v false ∷ (ALine.Pull i k v true ∷ []))
      (λ v q. all_cons P (ALine.Pull i k v false) (ALine.Pull i k v true ∷ []) (h, q)
      (all_one P (ALine.Pull i k v true) (h, q)))) (all_one P (ALine.Gain i k false) h))

  leaf_lines_exist : (i k : ℕ) → LeafExists game leaves i k
      → All (LineExists game leaves) (leaf_lines game leaves i k)
  leaf_lines_exist i k h =
      let P = LineExists game leaves in
      let rest = if is_exact leaves i k then dual_lines game leaves i k else [] in
      all_append P (slot_lines game leaves i k) (ALine.Weight i k false ∷ rest)
      (all_to P (slot_count game leaves i k)
      (λ s. if is_present game leaves i k s then ALine.Slot i k s false ∷ [] else [])
      (λ s q. all_if P (is_present game leaves i k s) (ALine.Slot i k s false ∷ [])
      (λ e. all_one P (ALine.Slot i k s false) h)))
      (all_cons P (ALine.Weight i k false) rest h
      (all_if P (is_exact leaves i k) (dual_lines game leaves i k)
      (λ e. dual_lines_exist i k h)))

  player_lines_exist : (i : ℕ) → i < length game
      → All (LineExists game leaves) (player_lines game leaves i)
  player_lines_exist i h =
      let P = LineExists game leaves in
      let xs = list_to (leaf_count leaves i) (λ k. leaf_lines game leaves i k) in
      let ys = list_to (length (named_at leaves i)) (λ n. ALine.Named i n ∷ []) in
      all_cons P (ALine.Weights i false) (ALine.Weights i true ∷ (xs ++ ys)) h
      (all_cons P (ALine.Weights i true) (xs ++ ys) h
      (all_append P xs ys (all_to P (leaf_count leaves i) (λ k. leaf_lines game leaves i k)
      (λ k q. leaf_lines_exist i k (h, q))) (all_to P (length (named_at leaves i))
      (λ n. ALine.Named i n ∷ []) (λ n q. all_one P (ALine.Named i n) (h, q)))))

  off_exists : (i k : ℕ) → LeafExists game leaves i k
      → All (LineExists game leaves) (off_lines game i k)
  off_exists i k h =
      let P = LineExists game leaves in
      all_cons P (ALine.Weight i k true) (list_to (var_count game i)
      (λ v. ALine.Share i k v false ∷ (ALine.Share i k v true ∷ []))) h
      (all_to P (var_count game i) (λ v. ALine.Share i k v false ∷
      (ALine.Share i k v true ∷ [])) (λ v q. all_cons P (ALine.Share i k v false)
      (ALine.Share i k v true ∷ []) (h, q) (all_one P (ALine.Share i k v true) (h, q))))

  reach_exists : (i k : ℕ) → LeafExists game leaves i k
      → All (LineExists game leaves) (reach_lines leaves i k)
  reach_exists i k h =
      all_if (LineExists game leaves) (is_exact leaves i k) (ALine.Gain i k true ∷ [])
      (λ e. all_one (LineExists game leaves) (ALine.Gain i k true) h)

  choice_exists : (c : Choice) → ChoiceExists game leaves c
      → All (LineExists game leaves) (choice_lines game leaves c)
  choice_exists (AChoice.On i k) h =
      all_cons (LineExists game leaves) (ALine.Positive i k) (reach_lines leaves i k) h
      (reach_exists i k h)
  choice_exists (AChoice.Off i k) h = off_exists i k h
  choice_exists (AChoice.Zero i k s) h = all_one (LineExists game leaves) (ALine.Dual i k s true)
      h.0
  choice_exists (AChoice.Tight i k s) h = all_one (LineExists game leaves) (ALine.Slot i k s true)
      h.0
  choice_exists (AChoice.Which i k) h =
      let P = LineExists game leaves in
      all_cons P (ALine.Whole i k) (reach_lines leaves i k ++ other_lines game leaves i k) h
      (all_append P (reach_lines leaves i k) (other_lines game leaves i k) (reach_exists i k h)
      (all_to P (leaf_count leaves i) (λ l. if l == k then [] else off_lines game i l)
      (λ l q. all_unless P (l == k) (off_lines game i l) (off_exists i l (h.0, q)))))

  path_exists : (path : List Choice) → All (ChoiceExists game leaves) path
      → All (LineExists game leaves) (path_lines game leaves path)
  path_exists [] h = all_nil (LineExists game leaves)
  path_exists (c ∷ cs) h =
      all_append (LineExists game leaves) (choice_lines game leaves c) (path_lines game leaves cs)
      (choice_exists c (h 0 c (omega arith)))
      (path_exists cs (λ k d q. h (suc k) d (omega arith)))

  pub lines_exist : (path : List Choice) → All (ChoiceExists game leaves) path
      → All (LineExists game leaves) (all_lines game leaves path)
  lines_exist path h =
      all_append (LineExists game leaves) (base_lines game leaves) (path_lines game leaves path)
      (all_to (LineExists game leaves) (length game) (λ i. player_lines game leaves i)
      (λ i q. player_lines_exist i q)) (path_exists path h)

-- x stands in the list
abbrev pub Stands : Line → List Line → Type 0
Stands x xs = (m : ℕ) × (m < length xs) × (get_or xs m no_line ≡ x)

stands_left : (x : Line) (xs ys : List Line) → Stands x xs → Stands x (xs ++ ys)
stands_left x xs ys s = (
  s.0,
  (let l = length-append xs ys in let q = s.1 in omega (arith, l, q)),
  get_or-append xs ys
      no_line s.0 s.1 ∙ s.2,
)

stands_right : (x : Line) (xs ys : List Line) → Stands x ys → Stands x (xs ++ ys)
stands_right x xs ys s = (
  length xs + s.0,
  (let l = length-append xs ys in let q = s.1 in omega (arith, l, q)),
  get_or-append-add xs ys s.0 no_line ∙ s.2,
)

stands_to : (x : Line) (n k : ℕ) (f : ℕ → List Line) → k < n → Stands x (f k)
    → Stands x (list_to n f)
stands_to x zero k f h s = absurd (omega arith)
stands_to x (suc n) k f h s =
    ⊎_elim (λ (e : k ≡ n). stands_right x (list_to n f) (f n)
    (subst (λ (m : ℕ). Stands x (f m)) e s))
    (λ (c : k ≡ n → ⊥). stands_left x (list_to n f) (f n) (stands_to x n k f (omega arith) s))
    (cases_eq k n)

pub named_stands : (game : GameOf) (leaves : LeavesOf) (path : List Choice) (i n : ℕ)
    → i < length game → n < length (named_at leaves i)
    → Stands (ALine.Named i n) (all_lines game leaves path)
named_stands game leaves path i n h q =
    let ys = list_to (length (named_at leaves i)) (λ m. ALine.Named i m ∷ []) in
    let xs = list_to (leaf_count leaves i) (λ k. leaf_lines game leaves i k) in
    let one : Stands (ALine.Named i n) ys = stands_to (ALine.Named i n)
    (length (named_at leaves i)) n (λ m. ALine.Named i m ∷ []) q (0, omega arith, refl) in
    let two = stands_right (ALine.Named i n) (ALine.Weights i false ∷ (ALine.Weights i true ∷ []))
    (xs ++ ys) (stands_right (ALine.Named i n) xs ys one) in
    stands_left (ALine.Named i n) (base_lines game leaves) (path_lines game leaves path)
    (stands_to (ALine.Named i n) (length game) i (λ j. player_lines game leaves j) h two)

-- mapped lists, one item more
pub map_more : {A B : Type 0} (g : A → B) (xs : List A) (x : A)
    → map g (xs ++ (x ∷ [])) ≡ map g xs ++ (g x ∷ [])
map_more g [] x = refl
map_more g (y ∷ ys) x = ap (λ zs. g y ∷ zs) (map_more g ys x)

taken : {A B : Type 0} (g : A → B) (xs : List A) (k : ℕ) (d : A) → k < length xs
    → map g (take (suc k) xs) ≡ map g (take k xs) ++ (g (get_or xs k d) ∷ [])
taken g [] k d h = absurd (omega arith)
taken g (x ∷ xs) zero d h = refl
taken g (x ∷ xs) (suc k) d h = ap (λ zs. g x ∷ zs) (taken g xs k d (omega arith))

pub map_taken : {A B : Type 0} (g : A → B) (xs : List A) (k : ℕ) (d : A) → k < length xs
    → map g (take (k + 1) xs) ≡ map g (take k xs) ++ (g (get_or xs k d) ∷ [])
map_taken g xs k d h = rw add-one (taken g xs k d h)
