-- The rows that say that an unknown is at least 0 stand in the order of these unknowns.
use Rattle.std.proofs.Common.{◌≡◌, ℕ, zero, suc, refl, sym, ap, ap₂, ◌∙◌, Bool, true, false, if◌then◌else◌, ◌==◌, List, [], ◌∷◌, ◌++◌, map, length, append-nil}
use Rattle.zr_game.specs.Players.{GameOf}
use Rattle.zr_game.specs.declared.choice.Choice.{Choice}
use Rattle.zr_game.specs.declared.choice.Choice.TheVariants as AChoice
use Rattle.zr_system.specs.declared.line.Line.{Line}
use Rattle.zr_system.specs.declared.line.Line.TheVariants as ALine
use Rattle.zr_system.specs.declared.unknown.Unknown.{Unknown}
use Rattle.zr_system.specs.declared.unknown.Unknown.TheVariants.{One, Share, Weight, Dual}
use Rattle.zr_system.specs.Lines.{all_lines, base_lines, choice_lines, dual_lines, leaf_lines, off_lines, other_lines, path_lines, player_lines, pull_lines, reach_lines, slot_lines}
use Rattle.zr_system.specs.Regions.{LeavesOf, is_exact, is_present, leaf_count, named_at, slot_count, var_count}
use Rattle.zr_system.specs.Unknowns.{columns, duals, leaf_unknowns, list_to, player_unknowns, shares}
use Rattle.zr_choices.specs.Signs.{is_sign, is_up, sign_rows}
use Rattle.zr_choices.proofs.Numbering.{none_more, passing, passing_join}

-- the unknown of which the row says so
abbrev pub sign_unknown : Line → Unknown
sign_unknown (ALine.Weight i k b) = Weight i k
sign_unknown (ALine.Dual i k s b) = Dual i k s
sign_unknown line = One

-- the unknowns of such rows, in the rows' order
abbrev pub kept : List Line → List Unknown
kept lines = map sign_unknown (passing is_sign lines)

-- the unknowns that are at least 0
abbrev pub ups : List Unknown → List Unknown
ups us = passing is_up us

map_join : {A B : Type 0} (g : A → B) (xs ys : List A) → map g (xs ++ ys) ≡ map g xs ++ map g ys
map_join g [] ys = refl
map_join g (x ∷ xs) ys = ap (λ zs. g x ∷ zs) (map_join g xs ys)

kept_join : (xs ys : List Line) → kept (xs ++ ys) ≡ kept xs ++ kept ys
kept_join xs ys =
    ap (λ zs. map sign_unknown zs) (passing_join is_sign xs ys)
    ∙ map_join sign_unknown (passing is_sign xs) (passing is_sign ys)

ups_join : (us ws : List Unknown) → ups (us ++ ws) ≡ ups us ++ ups ws
ups_join us ws = passing_join is_up us ws

-- the same at each place
both_to : (n : ℕ) (f : ℕ → List Line) (g : ℕ → List Unknown)
    → ((k : ℕ) → kept (f k) ≡ ups (g k)) → kept (list_to n f) ≡ ups (list_to n g)
both_to zero f g same = refl
both_to (suc n) f g same =
    kept_join (list_to n f) (f n) ∙ ap₂ (λ us ws. us ++ ws) (both_to n f g same) (same n)
    ∙ sym (ups_join (list_to n g) (g n))

none_to : (n : ℕ) (f : ℕ → List Line) → ((k : ℕ) → kept (f k) ≡ []) → kept (list_to n f) ≡ []
none_to zero f none = refl
none_to (suc n) f none =
    kept_join (list_to n f) (f n) ∙ ap₂ (λ us ws. us ++ ws) (none_to n f none) (none n)

no_ups : (n : ℕ) (g : ℕ → List Unknown) → ((k : ℕ) → ups (g k) ≡ []) → ups (list_to n g) ≡ []
no_ups zero g none = refl
no_ups (suc n) g none =
    ups_join (list_to n g) (g n) ∙ ap₂ (λ us ws. us ++ ws) (no_ups n g none) (none n)

module _ (game : GameOf) (leaves : LeavesOf) where
  one_slot : (i k s : ℕ) (b : Bool) → kept (if b then ALine.Slot i k s false ∷ [] else []) ≡ []
  one_slot i k s true = refl
  one_slot i k s false = refl

  one_dual : (i k s : ℕ) (b : Bool)
      → kept (if b then ALine.Dual i k s false ∷ [] else [])
      ≡ ups (if b then Dual i k s ∷ [] else [])
  one_dual i k s true = refl
  one_dual i k s false = refl

  pulls : (i k : ℕ) → kept (pull_lines game i k) ≡ []
  pulls i k =
      none_to (var_count game i) (λ v. ALine.Pull i k v false ∷ (ALine.Pull i k v true ∷ []))
      (λ v. refl)

  dual_rows : (i k : ℕ) → kept (dual_lines game leaves i k) ≡ ups (duals game leaves i k)
  dual_rows i k =
      kept_join (list_to (slot_count game leaves i k)
      (λ s. if is_present game leaves i k s then ALine.Dual i k s false ∷ [] else []))
      (pull_lines game i k ++ (ALine.Gain i k false ∷ []))
      ∙ ap₂ (λ us ws. us ++ ws) (both_to (slot_count game leaves i k)
      (λ s. if is_present game leaves i k s then ALine.Dual i k s false ∷ [] else [])
      (λ s. if is_present game leaves i k s then Dual i k s ∷ [] else [])
      (λ s. one_dual i k s (is_present game leaves i k s)))
      (kept_join (pull_lines game i k) (ALine.Gain i k false ∷ [])
      ∙ ap (λ us. us ++ []) (pulls i k)) ∙ append-nil (ups (duals game leaves i k))

  exact_rows : (i k : ℕ) (b : Bool)
      → kept (if b then dual_lines game leaves i k else [])
      ≡ ups (if b then duals game leaves i k else [])
  exact_rows i k true = dual_rows i k
  exact_rows i k false = refl

  leaf_rows : (i k : ℕ) → kept (leaf_lines game leaves i k) ≡ ups (leaf_unknowns game leaves i k)
  leaf_rows i k =
      kept_join (slot_lines game leaves i k) (ALine.Weight i k false ∷
      (if is_exact leaves i k then dual_lines game leaves i k else []))
      ∙ ap₂ (λ us ws. us ++ ws) (none_to (slot_count game leaves i k)
      (λ s. if is_present game leaves i k s then ALine.Slot i k s false ∷ [] else [])
      (λ s. one_slot i k s (is_present game leaves i k s)))
      (ap (λ us. Weight i k ∷ us) (exact_rows i k (is_exact leaves i k)))
      ∙ sym (ups_join (shares game i k) (Weight i k ∷
      (if is_exact leaves i k then duals game leaves i k else []))
      ∙ ap (λ us. us ++ (Weight i k ∷ ups (if is_exact leaves i k then duals game leaves i k
      else [])))
      (no_ups (var_count game i) (λ v. Share i k v ∷ []) (λ v. refl)))

  player_rows : (i : ℕ) → kept (player_lines game leaves i) ≡ ups (player_unknowns game leaves i)
  player_rows i =
      kept_join (list_to (leaf_count leaves i) (λ k. leaf_lines game leaves i k))
      (list_to (length (named_at leaves i)) (λ n. ALine.Named i n ∷ []))
      ∙ ap₂ (λ us ws. us ++ ws) (both_to (leaf_count leaves i)
      (λ k. leaf_lines game leaves i k) (λ k. leaf_unknowns game leaves i k)
      (λ k. leaf_rows i k))
      (none_to (length (named_at leaves i)) (λ n. ALine.Named i n ∷ []) (λ n. refl))
      ∙ append-nil (ups (list_to (leaf_count leaves i) (λ k. leaf_unknowns game leaves i k)))

  base_rows : kept (base_lines game leaves) ≡ ups (columns game leaves)
  base_rows =
      both_to (length game) (λ i. player_lines game leaves i)
      (λ i. player_unknowns game leaves i) (λ i. player_rows i)

  reach : (i k : ℕ) (b : Bool) → passing is_sign (if b then ALine.Gain i k true ∷ [] else []) ≡ []
  reach i k true = refl
  reach i k false = refl

  -- a path's rows say nothing of the kind
  signless_to : (n : ℕ) (f : ℕ → List Line) → ((k : ℕ) → passing is_sign (f k) ≡ [])
      → passing is_sign (list_to n f) ≡ []
  signless_to zero f none = refl
  signless_to (suc n) f none =
      passing_join is_sign (list_to n f) (f n)
      ∙ ap₂ (λ us ws. us ++ ws) (signless_to n f none) (none n)

  off_rows : (i k : ℕ) → passing is_sign (off_lines game i k) ≡ []
  off_rows i k =
      signless_to (var_count game i) (λ v. ALine.Share i k v false ∷ (ALine.Share i k v true ∷ []))
      (λ v. refl)

  unless : (i l : ℕ) (b : Bool) → passing is_sign (if b then [] else off_lines game i l) ≡ []
  unless i l true = refl
  unless i l false = off_rows i l

  choice_rows : (c : Choice) → passing is_sign (choice_lines game leaves c) ≡ []
  choice_rows (AChoice.On i k) = reach i k (is_exact leaves i k)
  choice_rows (AChoice.Off i k) = off_rows i k
  choice_rows (AChoice.Zero i k s) = refl
  choice_rows (AChoice.Tight i k s) = refl
  choice_rows (AChoice.Which i k) =
      passing_join is_sign (reach_lines leaves i k) (other_lines game leaves i k)
      ∙ ap₂ (λ us ws. us ++ ws) (reach i k (is_exact leaves i k))
      (signless_to (leaf_count leaves i) (λ l. if l == k then [] else off_lines game i l)
      (λ l. unless i l (l == k)))

  path_rows : (path : List Choice) → passing is_sign (path_lines game leaves path) ≡ []
  path_rows [] = refl
  path_rows (c ∷ cs) =
      passing_join is_sign (choice_lines game leaves c) (path_lines game leaves cs)
      ∙ ap₂ (λ us ws. us ++ ws) (choice_rows c) (path_rows cs)

  -- with the path's rows the same rows say so
  pub same_signs : (path : List Choice)
      → sign_rows (all_lines game leaves path) ≡ sign_rows (base_lines game leaves)
  same_signs path =
      none_more is_sign 0 (base_lines game leaves) (path_lines game leaves path) (path_rows path)

  pub all_kept : (path : List Choice)
      → kept (all_lines game leaves path) ≡ ups (columns game leaves)
  all_kept path =
      kept_join (base_lines game leaves) (path_lines game leaves path)
      ∙ ap₂ (λ us ws. us ++ ws) base_rows (ap (λ ls. map sign_unknown ls) (path_rows path))
      ∙ append-nil (ups (columns game leaves))
