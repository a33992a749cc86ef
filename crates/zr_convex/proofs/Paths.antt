-- Numbers that meet one side of each choice solve the system under a complete list of choices.
use Rattle.std.proofs.Common.{◌≡◌, ◌≢◌, ℕ, zero, suc, ◌+◌, ◌<◌, arith, refl, sym, subst, ◌∙◌, ℤ, pos, ◌<ℤ◌, Bool, true, false, IsTrue, List, [], ◌∷◌, ◌++◌, length, ◌⊎◌, ⊎_elim, inl, inr}
use Rattle.std.specs.List.{Contains}
use Rattle.std.proofs.Math.ListN.{get_or-append}
use Rattle.std.proofs.lemmas.Bool.{cases_eq}
use Rattle.std.proofs.lemmas.Int.{ints}
use Rattle.std.proofs.lemmas.List.{get_or-append-add, length-append}
use Rattle.zr_base.proofs.Members.{each_join}
use Rattle.zr_base.proofs.Worth.{Each}
use Rattle.zr_game.specs.Players.{GameOf}
use Rattle.zr_game.specs.declared.choice.Choice.{Choice}
use Rattle.zr_game.specs.declared.choice.Choice.TheVariants.{On, Off, Zero, Tight, Which}
use Rattle.zr_game.specs.declared.kind.Kind.{Kind}
use Rattle.zr_game.specs.declared.kind.Kind.TheVariants.{Mixed, Pure}
use Rattle.zr_system.specs.declared.unknown.Unknown.{Unknown}
use Rattle.zr_system.specs.declared.unknown.Unknown.TheVariants.{One, Weight}
use Rattle.zr_system.specs.Asked.{ChoiceExists}
use Rattle.zr_system.specs.Choices.{AreSlotsDecided, HasCompleteSolution, IsComplete, IsLeafComplete, IsPlayerComplete, IsSlotDecided}
use Rattle.zr_system.specs.Forms.{FormHolds}
use Rattle.zr_system.specs.Lines.{all_lines, base_lines, choice_lines, path_lines, row_of_line}
use Rattle.zr_system.specs.Regions.{LeavesOf, is_exact, is_present, leaf_count, slot_count}
use Rattle.zr_system.proofs.Meeting.{LineHolds, Meets, MeetsChoices}
use Rattle.zr_system.proofs.Joined.{all_mapped, all_of_each}

contains_left : (p q : List Choice) (c : Choice) → Contains p c → Contains (p ++ q) c
contains_left p q c h = (
  h.0,
  (let l = length-append p q in let b = h.1 in omega (arith, l, b)),
  get_or-append p q c
      h.0 h.1 ∙ h.2,
)

contains_right : (p q : List Choice) (c : Choice) → Contains q c → Contains (p ++ q) c
contains_right p q c h = (
  length p + h.0,
  (let l = length-append p q in let b = h.1 in omega (arith, l, b)),
  get_or-append-add p q h.0 c ∙ h.2,
)

first_of_path : (c : Choice) (cs : List Choice) → Contains (c ∷ cs) c
first_of_path c cs = (0, omega arith, refl)

-- what a path has stays in longer paths
abbrev Grows : (List Choice → Type 0) → Type 0
Grows R = ((p q : List Choice) → R p → R (p ++ q)) × ((p q : List Choice) → R q → R (p ++ q))

grows_contains : (c : Choice) → Grows (λ p. Contains p c)
grows_contains c = ((λ p q h. contains_left p q c h), (λ p q h. contains_right p q c h))

grows_either : (R S : List Choice → Type 0) → Grows R → Grows S → Grows (λ p. R p ⊎ S p)
grows_either R S g h = (
  (λ p q e. ⊎_elim (λ (r : R p). inl (g.0 p q r)) (λ (s : S p). inr (h.0 p q s)) e),
  (λ p q e. ⊎_elim (λ (r : R q). inl (g.1 p q r)) (λ (s : S q). inr (h.1 p q s)) e),
)

-- one path for finitely many needs
gather : (P : Choice → Type 0) (R : ℕ → List Choice → Type 0) → ((k : ℕ) → Grows (R k)) → (n : ℕ)
    → ((k : ℕ) → k < n → (p : List Choice) × Each P p × R k p) → (p : List Choice) × Each P p
    × ((k : ℕ) → k < n → R k p)
gather P R grows zero f = ([], tt, λ k h. absurd (omega arith))
gather P R grows (suc n) f = joined (gather P R grows n (λ k h. f k (omega arith)))
    (f n (omega arith))
  where
    joined : ((p : List Choice) × Each P p × ((k : ℕ) → k < n → R k p))
        → ((p : List Choice) × Each P p × R n p) → (p : List Choice) × Each P p
        × ((k : ℕ) → k < suc n → R k p)
    joined a b = (
      a.0 ++ b.0,
      each_join P a.0 b.0 a.1 b.1,
      λ k h. ⊎_elim
          (λ (e : k ≡ n). subst (λ l. R l (a.0 ++ b.0)) (sym e) ((grows n).1 a.0 b.0 b.2))
          (λ (c : k ≢ n). (grows k).0 a.0 b.0 (a.2 k (omega arith))) (cases_eq k n),
    )

module _ (game : GameOf) (leaves : LeavesOf) (x : Unknown → ℤ) where
  -- the choice exists, and the numbers meet it
  abbrev Good : Choice → Type 0
  Good c = ChoiceExists game leaves c × Meets game leaves x c

  firsts_of : (path : List Choice) → Each Good path → Each (ChoiceExists game leaves) path
  firsts_of [] h = tt
  firsts_of (c ∷ cs) h = (h.0.0, firsts_of cs h.1)

  rows_hold : (path : List Choice) → Each Good path
      → Each (LineHolds game leaves x) (path_lines game leaves path)
  rows_hold [] h = tt
  rows_hold (c ∷ cs) h =
      each_join (LineHolds game leaves x) (choice_lines game leaves c) (path_lines game leaves cs)
      h.0.1 (rows_hold cs h.1)

  grows_slot : (i k s : ℕ) → Grows (λ p. IsSlotDecided p i k s)
  grows_slot i k s =
      grows_either (λ p. Contains p (Zero i k s)) (λ p. Contains p (Tight i k s))
      (grows_contains (Zero i k s)) (grows_contains (Tight i k s))

  grows_slots : (i k : ℕ) → Grows (λ p. AreSlotsDecided game leaves p i k)
  grows_slots i k = (
    (λ p q h e s l there. (grows_slot i k s).0 p q (h e s l there)),
    (λ p q h e s l there. (grows_slot i k s).1 p q (h e s l there)),
  )

  grows_with_slots : (c : Choice) (i k : ℕ) → Grows
      (λ p. Contains p c × AreSlotsDecided game leaves p i k)
  grows_with_slots c i k = (
    (λ p q h. (contains_left p q c h.0, (grows_slots i k).0 p q h.1)),
    (λ p q h. (contains_right p q c h.0, (grows_slots i k).1 p q h.1)),
  )

  grows_leaf : (i k : ℕ) → Grows (λ p. IsLeafComplete game leaves p i k)
  grows_leaf i k =
      grows_either (λ p. Contains p (Off i k))
      (λ p. Contains p (On i k) × AreSlotsDecided game leaves p i k) (grows_contains (Off i k))
      (grows_with_slots (On i k) i k)

  module _ (kind : Kind) (choices : MeetsChoices game leaves kind x) (i : ℕ)
      (player : i < length game) where
    -- the slots of a leaf with weight
    slots : (k : ℕ) → k < leaf_count leaves i → (pos 0) <ℤ x (Weight i k) → (p : List Choice)
        × Each Good p × AreSlotsDecided game leaves p i k
    slots k inside used = tested (is_exact leaves i k) refl
      where
        slot : is_exact leaves i k ≡ true → (s : ℕ) → s < slot_count game leaves i k → (b : Bool)
            → is_present game leaves i k s ≡ b → (p : List Choice) × Each Good p
            × (IsTrue (is_present game leaves i k s) → IsSlotDecided p i k s)
        slot e s h false n = ([], tt, λ there. absurd cc)
        slot e s h true there =
            ⊎_elim (λ (a : Meets game leaves x (Zero i k s)). (
              Zero i k s ∷ [],
              ((((player, inside), e, there), a), tt),
              λ t. inl
                  (first_of_path (Zero i k s) []),
            )) (λ (b : Meets game leaves x (Tight i k s)). (
              Tight i k s ∷ [],
              ((((player, inside), e, there), b), tt),
              λ t. inr
                  (first_of_path (Tight i k s) []),
            )) (choices.slot i k s player inside e h there
            used)

        tested : (b : Bool) → is_exact leaves i k ≡ b → (p : List Choice) × Each Good p
            × AreSlotsDecided game leaves p i k
        tested false e = ([], tt, λ s. absurd cc)
        tested true e =
            let g = gather Good (λ s p. IsTrue (is_present game leaves i k s)
            → IsSlotDecided p i k s) (λ s. (
              (λ p q h t. (grows_slot i k s).0 p q (h t)),
              (λ p q h t. (grows_slot i k s).1 p q (h t)),
            )) (slot_count game leaves i k)
            (λ s h. slot e s h (is_present game leaves i k s) refl) in
            (g.0, g.1, λ f s l there. g.2 s l there)

    decided : (k : ℕ) → k < leaf_count leaves i → (p : List Choice) × Each Good p
        × IsLeafComplete game leaves p i k
    decided k inside =
        ⊎_elim (λ (a : Meets game leaves x (On i k)). let s = slots k inside
        (let w = a.0 in omega (arith, ints, w)) in (
          On i k ∷ s.0,
          (((player, inside), a), s.1),
          inr
              (first_of_path (On i k) s.0, (grows_slots i k).1 (On i k ∷ []) s.0 s.2),
        ))
        (λ (b : Meets game leaves x (Off i k)).
        (Off i k ∷ [], (((player, inside), b), tt), inl (first_of_path (Off i k) [])))
        (choices.leaf i k player inside)

    all_decided : (p : List Choice) × Each Good p
        × ((k : ℕ) → k < leaf_count leaves i → IsLeafComplete game leaves p i k)
    all_decided =
        gather Good (λ k p. IsLeafComplete game leaves p i k) (grows_leaf i) (leaf_count leaves i)
        decided

    chosen : (pos 0) <ℤ x One → kind ≡ Pure → (p : List Choice) × Each Good p
        × IsPlayerComplete game leaves p i
    chosen positive e =
        let m = choices.one e i player in
        let s = slots m.0 m.1 (let w = m.2.0 in omega (arith, ints, w, positive)) in (
          Which i m.0 ∷ s.0,
          (((player, m.1), m.2), s.1),
          (
            m.0,
            m.1,
            first_of_path (Which i m.0) s.0,
            (grows_slots i m.0).1 (Which i m.0 ∷ [])
                s.0 s.2,
          ),
        )

  pub complete : (kind : Kind) → (pos 0) <ℤ x One
      → Each (LineHolds game leaves x) (base_lines game leaves) → MeetsChoices game leaves kind x
      → HasCompleteSolution game leaves kind
  complete kind positive base choices = tested kind refl
    where
      ended : (path : List Choice) → Each Good path → IsComplete game leaves kind path
          → HasCompleteSolution game leaves kind
      ended path h c = (
        path,
        x,
        record {
          exist = all_of_each (ChoiceExists game leaves) path (firsts_of path h);
          complete = c;
          solves = (
            positive,
            all_mapped (row_of_line game leaves) (FormHolds x)
                (all_lines game leaves path) (each_join (LineHolds game leaves x)
                (base_lines game leaves) (path_lines game leaves path) base (rows_hold path h)),
          );
        },
      )

      tested : (k : Kind) → kind ≡ k → HasCompleteSolution game leaves kind
      tested Mixed e =
          let g = gather Good (λ i p. (k : ℕ) → k < leaf_count leaves i
          → IsLeafComplete game leaves p i k) (λ
          i. (
            (λ p q h k l. (grows_leaf i k).0 p q (h k l)),
            (λ p q h k l. (grows_leaf i k).1 p q (h k l)),
          )) (length game)
          (all_decided kind choices) in
          ended g.0 g.1 (subst (λ (k : Kind). IsComplete game leaves k g.0) (sym e)
          (λ i k h l. g.2 i h k l))
      tested Pure e =
          let g = gather Good (λ i p. IsPlayerComplete game leaves p i)
          (λ i. (
            (λ p q h. (
              h.0,
              h.1,
              contains_left p q (Which i h.0) h.2,
              (grows_slots i h.0).0 p q h.3,
            )),
            (λ p q
                h. (h.0, h.1, contains_right p q (Which i h.0) h.2, (grows_slots i h.0).1 p q h.3)),
          ))
          (length game) (λ i player. chosen kind choices i player positive e) in
          ended g.0 g.1 (subst (λ (k : Kind). IsComplete game leaves k g.0) (sym e) g.2)
