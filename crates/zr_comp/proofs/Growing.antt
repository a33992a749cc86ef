-- What a search keeps from path to path: the tree that its nodes will be.
use Rattle.std.proofs.Common.{◌≡◌, ℕ, zero, suc, ◌+◌, ◌*◌, ◌<◌, ◌≤◌, arith, refl, sym, ap, ◌∙◌, subst, Bool, true, false, List, [], ◌∷◌, ◌++◌, length, length-append, append_assoc, map, All, ⊎_elim}
use Rattle.std.specs.List.{Contains}
use Rattle.zr_io.specs.declared.purse.Purse.{Purse}
use Rattle.zr_io.specs.Purses.{counted}
use Rattle.std.proofs.lemmas.List.{append-nil, length-map}
use Rattle.std.proofs.lemmas.List.Elements.{All-push, All-nil}
use Rattle.zr_lin.specs.Ineqs.{HasSolution}
use Rattle.zr_game.specs.Players.{GameOf}
use Rattle.zr_game.specs.declared.choice.Choice.{Choice}
use Rattle.zr_game.specs.declared.choice.Choice.TheVariants as AChoice
use Rattle.zr_game.specs.declared.kind.Kind.{Kind}
use Rattle.zr_game.specs.declared.kind.Kind.TheVariants.{Pure, Mixed}
use Rattle.zr_tree.specs.Nodes.{Multipliers}
use Rattle.zr_cases.specs.Cases.{RNodeOf, OnOffNode, RowNode, WhichNode, CloseNode, rnode_of}
use Rattle.zr_cases.specs.Forms.{AreCases, IsCaseForm}
use Rattle.zr_cases.specs.Trees.{CasesOf, OnOff, RowSplit, Which, Close, lists_below, preorder}
use Rattle.zr_cases.specs.declared.refutation.Refutation.{Refutation}
use Rattle.zr_system.specs.Regions.{LeavesOf, leaf_count}
use Rattle.zr_system.specs.System.{system_rows}
use Rattle.zr_refute.specs.Refuting.{Closes, EndRule, RefutesBy, leaf_counts, then_choice}
use Rattle.zr_refute.specs.Walks.{children, whiches}
use Rattle.zr_refute.proofs.Walking.{count_is}
use Rattle.zr_choices.specs.Drawn.{AreDrawn}
use Rattle.zr_choices.specs.Replies.{IsRefutedBy}
use Rattle.zr_comp.specs.declared.case.Case.{Case}
use Rattle.zr_comp.specs.declared.case.Case.TheVariants as ACase
use Rattle.zr_comp.specs.Answers.{IsOpenRefutation}
use Rattle.zr_comp.specs.Causes.{HasMoreCases, SpendsCases}
use Rattle.zr_comp.specs.Spending.{SpendsBranches}
use Rattle.zr_comp.specs.Cases.{IsCase, IsDuePath, SuitsOne, case_node, case_price}
use Rattle.zr_comp.specs.Ends.{end_rule}
use Rattle.zr_comp.specs.OpenCases.{CaseWork, IsOpenBy, IsOpenCases, case_units, total_below, which_units}
use Rattle.zr_comp.specs.OpenPaths.{AreOpenChoices, MayChoose, SuitsKind}
use Rattle.zr_comp.proofs.Suiting.{off_suits, on_suits, suits_more, tight_suits, which_suits, zero_suits}

-- one tree, and then the others
abbrev with_first : CasesOf → (ℕ → CasesOf) → ℕ → CasesOf
with_first t f zero = t
with_first t f (suc k) = f k

module _ (game : GameOf) (leaves : LeavesOf) (kind : Kind) where
  -- ---- paths

  choices_more : (start path : List Choice) (c : Choice)
      → AreOpenChoices game leaves kind start path
      → HasSolution (system_rows game leaves (start ++ path))
      → MayChoose game leaves kind (start ++ path) c
      → AreOpenChoices game leaves kind start (path ++ c ∷ [])
  choices_more start [] c all has may = (
    subst (λ (p : List Choice). HasSolution (system_rows game leaves p)) (append-nil start) has,
    subst (λ (p : List Choice). MayChoose game leaves kind p c) (append-nil start) may,
    tt,
  )
  choices_more start (x ∷ xs) c all has may =
      let e : start ++ (x ∷ xs) ≡ then_choice start x ++ xs = sym
      (append_assoc start (x ∷ []) xs) in (
        all.0,
        all.1,
        choices_more (then_choice start x) xs c all.2
            (subst (λ (p : List Choice). HasSolution (system_rows game leaves p)) e has)
            (subst (λ (p : List Choice). MayChoose game leaves kind p c) e may),
      )

  pub due_more : (path : List Choice) (c : Choice) → IsDuePath game leaves kind path
      → HasSolution (system_rows game leaves path) → MayChoose game leaves kind path c
      → SuitsOne kind c
      → IsDuePath game leaves kind (then_choice path c)
  due_more path c due has may suits = record {
    open_is = choices_more [] path c due.open_is has may;
    suits = suits_more kind path c due.suits suits;
  }

  -- ---- trees for the paths that are due

  abbrev pub IsOpen : Bool → List Choice → CasesOf → Type 0
  IsOpen wanted path t = IsOpenBy (end_rule game leaves wanted) game leaves kind path t

  abbrev nodes_of : CasesOf → List RNodeOf
  nodes_of t = preorder (leaf_counts leaves) t

  abbrev pub forest : List CasesOf → List RNodeOf
  forest [] = []
  forest (t ∷ ts) = nodes_of t ++ forest ts

  abbrev pub units_all : List CasesOf → ℕ
  units_all [] = 0
  units_all (t ∷ ts) = case_units leaves t + units_all ts

  abbrev pub AllOpen : Bool → List (List Choice) → List CasesOf → Type 0
  AllOpen wanted [] [] = Unit {0}
  AllOpen wanted [] (t ∷ ts) = ⊥
  AllOpen wanted (path ∷ paths) [] = ⊥
  AllOpen wanted (path ∷ paths) (t ∷ ts) = IsOpen wanted path t × AllOpen wanted paths ts

  abbrev pub AreDue : List (List Choice) → Type 0
  AreDue [] = Unit {0}
  AreDue (path ∷ paths) = IsDuePath game leaves kind path × AreDue paths

  -- with trees for the paths that are due, the nodes are those of one tree, with so many units
  -- besides the trees'
  abbrev pub IsPlanned : List RNodeOf → List (List Choice) → ℕ → Type 0
  IsPlanned nodes paths spent =
      (wanted : Bool) (ts : List CasesOf) → AllOpen wanted paths ts
      → (t : CasesOf) × IsOpen wanted [] t × (nodes_of t ≡ nodes ++ forest ts)
      × (case_units leaves t ≡ spent + units_all ts)

  pub record IsGrowing (nodes : List RNodeOf) (paths : List (List Choice)) (spent : ℕ) : Type
      0 where
    pub due : AreDue paths
    pub planned : IsPlanned nodes paths spent
    pub forms : All IsCaseForm nodes
    pub count : length nodes + length paths ≤ 2 * spent + 1

  pub growing_at_start : IsGrowing [] ([] ∷ []) 0
  growing_at_start = record {
    due = (record { open_is = tt; suits = suits kind }, tt);
    planned = λ wanted ts all. first wanted ts all;
    forms = All-nil IsCaseForm;
    count = omega arith;
  }
    where
      none : (c : Choice) → Contains [] c → ⊥
      none c h = let b = h.1 in omega (arith, b)

      suits : (kind_ : Kind) → SuitsKind kind_ []
      suits Mixed = λ i k h. none (AChoice.Which i k) h
      suits Pure = λ i k h. ⊎_elim (λ (a : Contains [] (AChoice.On i k)). none (AChoice.On i k) a)
          (λ (a : Contains [] (AChoice.Off i k)). none (AChoice.Off i k) a) h

      first : (wanted : Bool) (ts : List CasesOf) → AllOpen wanted ([] ∷ []) ts
          → (t : CasesOf) × IsOpen wanted [] t × (nodes_of t ≡ [] ++ forest ts)
          × (case_units leaves t ≡ 0 + units_all ts)
      first wanted [] all = absurd all
      first wanted (t ∷ []) all = (t, all.0, sym (append-nil (nodes_of t)), omega arith)
      first wanted (t ∷ u ∷ ts) all = absurd all.1

  module _ (nodes : List RNodeOf) (path : List Choice) (paths : List (List Choice)) (spent : ℕ)
      (g : IsGrowing nodes (path ∷ paths) spent) where
    -- the path is closed
    pub close_one : (mult : Multipliers) → IsRefutedBy game leaves path mult
        → IsGrowing (nodes ++ CloseNode mult ∷ []) paths spent
    close_one mult shown = record {
      due = g.due.1;
      planned = λ wanted ts all. (
          let t = g.planned wanted (Close mult ∷ ts) (keeps wanted, all) in
          let u = t.3 in (
            t.0,
            t.1,
            t.2 ∙ sym (append_assoc nodes (CloseNode mult ∷ []) (forest ts)),
            omega
                (arith, u),
          ));
      forms = All-push IsCaseForm nodes (CloseNode mult) g.forms shown.counted;
      count = (let c = g.count in let l = length-append nodes (CloseNode mult ∷ []) in
          omega (arith, c, l));
    }
      where
        keeps : (wanted : Bool) → end_rule game leaves wanted path mult
        keeps true = shown
        keeps false = tt

    -- ---- a case is made

    -- trees for a choice among leaves, and those for the other paths
    pub record ArePicked (wanted : Bool) (i j n : ℕ) (ts : List CasesOf) : Type 0 where
      pub trees : ℕ → CasesOf
      pub rest : List CasesOf
      pub each : (k : ℕ) → k < n → IsOpen wanted (then_choice path (AChoice.Which i (j + k)))
          (trees k)
      pub others : AllOpen wanted paths rest
      pub nodes_are : lists_below n (λ k. nodes_of (trees k)) ++ forest rest ≡ forest ts
      pub units_are : total_below n (λ k. case_units leaves (trees k)) + units_all rest
          ≡ units_all ts

    picked : (wanted : Bool) (i n j : ℕ) (ts : List CasesOf)
        → AllOpen wanted (whiches path i j n ++ paths) ts → ArePicked wanted i j n ts
    picked wanted i zero j ts all = record {
      trees = λ k. Close [];
      rest = ts;
      each = λ k h. absurd (omega (arith, h));
      others = all;
      nodes_are = refl;
      units_are = omega arith;
    }
    picked wanted i (suc n) j [] all = absurd all
    picked wanted i (suc n) j (t ∷ ts) all =
        let r = picked wanted i n (suc j) ts all.1 in record {
          trees = with_first t r.trees;
          rest = r.rest;
          each = λ k h. one r k h;
          others = r.others;
          nodes_are = append_assoc (nodes_of t) (lists_below n (λ k. nodes_of (r.trees k)))
              (forest r.rest)
              ∙ ap (λ (ns : List RNodeOf). nodes_of t ++ ns) r.nodes_are;
          units_are = (let u = r.units_are in omega (arith, u));
        }
      where
        one : (r : ArePicked wanted i (suc j) n ts) (k : ℕ) → k < suc n
            → IsOpen wanted (then_choice path (AChoice.Which i (j + k))) (with_first t r.trees k)
        one r zero h =
            let e : j ≡ j + 0 = omega arith in
            subst (λ (l : ℕ). IsOpen wanted (then_choice path (AChoice.Which i l)) t) e all.0
        one r (suc k) h =
            let e : suc j + k ≡ j + suc k = omega arith in
            subst (λ (l : ℕ). IsOpen wanted (then_choice path (AChoice.Which i l)) (r.trees k)) e
            (r.each k (omega (arith, h)))

    -- a tree for the path, from those for the case's paths
    pub record IsMade (wanted : Bool) (case : Case) (ts : List CasesOf) : Type 0 where
      pub tree : CasesOf
      pub rest : List CasesOf
      pub is_open : IsOpen wanted path tree
      pub others : AllOpen wanted paths rest
      pub nodes_are : nodes_of tree ++ forest rest ≡ case_node case ∷ forest ts
      pub units_are : case_units leaves tree + units_all rest ≡ case_price leaves case +
          units_all ts

    made : (case : Case) → HasSolution (system_rows game leaves path)
        → IsCase game leaves kind path case
        → (wanted : Bool) (ts : List CasesOf)
        → AllOpen wanted (children leaves path (case_node case) ++ paths) ts
        → IsMade wanted case ts
    made (ACase.Leaf i k) has is wanted [] all = absurd all
    made (ACase.Leaf i k) has is wanted (s ∷ []) all = absurd all.1
    made (ACase.Leaf i k) has is wanted (s ∷ t ∷ ts) all = record {
      tree = OnOff i k s t;
      rest = ts;
      is_open = (has, is.1, all.0, all.1.0);
      others = all.1.1;
      nodes_are = ap (λ (ns : List RNodeOf). OnOffNode i k ∷ ns)
          (append_assoc (nodes_of s) (nodes_of t) (forest ts));
      units_are = omega arith;
    }
    made (ACase.Slot i k n) has is wanted [] all = absurd all
    made (ACase.Slot i k n) has is wanted (s ∷ []) all = absurd all.1
    made (ACase.Slot i k n) has is wanted (s ∷ t ∷ ts) all = record {
      tree = RowSplit i k n s t;
      rest = ts;
      is_open = (has, is, all.0, all.1.0);
      others = all.1.1;
      nodes_are = ap (λ (ns : List RNodeOf). RowNode i k n ∷ ns)
          (append_assoc (nodes_of s) (nodes_of t) (forest ts));
      units_are = omega arith;
    }
    made (ACase.Player i) has is wanted ts all =
        let r = picked wanted i (leaf_count leaves i) 0 ts all in record {
          tree = Which i r.trees;
          rest = r.rest;
          is_open = (
            has,
            is,
            λ k h. (let e : 0 + k ≡ k = omega arith in
                subst (λ (l : ℕ). IsOpen wanted (then_choice path (AChoice.Which i l))
                (r.trees k)) e
                (r.each k h)),
          );
          others = r.others;
          nodes_are = ap (λ (n : ℕ). (WhichNode i ∷ lists_below n (λ k. nodes_of (r.trees k)))
              ++ forest r.rest)
              (count_is leaves.regions i) ∙ ap (λ (ns : List RNodeOf). WhichNode i ∷ ns)
              r.nodes_are;
          units_are = (let u = r.units_are in omega (arith, u));
        }

    whiches_due : (i n j : ℕ) → HasSolution (system_rows game leaves path)
        → ((k : ℕ) → k < n → MayChoose game leaves kind path (AChoice.Which i (j + k)))
        → kind ≡ Pure → AreDue (whiches path i j n ++ paths)
    whiches_due i zero j has may pure = g.due.1
    whiches_due i (suc n) j has may pure = (
      due_more path (AChoice.Which i j) g.due.0 has
          (let e : j + 0 ≡ j = omega arith in
          subst (λ (l : ℕ). MayChoose game leaves kind path (AChoice.Which i l)) e
          (may 0 (omega arith)))
          (which_suits kind i j pure),
      whiches_due i n (suc j) has
          (λ k h. (let e : j + suc k ≡ suc j + k = omega arith in
          subst (λ (l : ℕ). MayChoose game leaves kind path (AChoice.Which i l)) e
          (may (suc k) (omega (arith, h))))) pure,
    )

    children_due : (case : Case) → HasSolution (system_rows game leaves path)
        → IsCase game leaves kind path case
        → AreDue (children leaves path (case_node case) ++ paths)
    children_due (ACase.Leaf i k) has is = (
      due_more path (AChoice.On i k) g.due.0 has is.1 (on_suits kind i k is.0),
      (due_more path (AChoice.Off i k) g.due.0 has is.1 (off_suits kind i k is.0), g.due.1),
    )
    children_due (ACase.Slot i k s) has is = (
      due_more path (AChoice.Zero i k s) g.due.0 has is (zero_suits kind i k s),
      (due_more path (AChoice.Tight i k s) g.due.0 has is (tight_suits kind i k s), g.due.1),
    )
    children_due (ACase.Player i) has is =
        whiches_due i (leaf_count leaves i) 0 has
        (λ k h. (
          is,
          (let e : k ≡ 0 + k = omega arith in subst
              (λ (l : ℕ). l < leaf_count leaves i) e h),
        ))
        is.0

    -- a case is made: its paths stand for the path
    pub split_one : (case : Case) → HasSolution (system_rows game leaves path)
        → IsCase game leaves kind path case → IsCaseForm (case_node case)
        → length (children leaves path (case_node case)) ≤ 2 * case_price leaves case
        → IsGrowing (nodes ++ case_node case ∷ []) (children leaves path (case_node case) ++ paths)
        (spent + case_price leaves case)
    split_one case has is form few = record {
      due = children_due case has is;
      planned = λ wanted ts all. (
          let m = made case has is wanted ts all in
          let t = g.planned wanted (m.tree ∷ m.rest) (m.is_open, m.others) in
          let u = t.3 in
          let v = m.units_are in (
            t.0,
            t.1,
            t.2 ∙ ap (λ (ns : List RNodeOf). nodes ++ ns) m.nodes_are
                ∙ sym (append_assoc nodes (case_node case ∷ []) (forest ts)),
            omega (arith, u, v),
          ));
      forms = All-push IsCaseForm nodes (case_node case) g.forms form;
      count = (let c = g.count in
          let l = length-append nodes (case_node case ∷ []) in
          let m = length-append (children leaves path (case_node case)) paths in
          omega (arith, c, l, m, few));
    }

  -- ---- the work that was done

  weaker : (rule other : EndRule) → ((path : List Choice) (mult : Multipliers) → rule path mult
      → other path mult)
      → (path : List Choice) (t : CasesOf) → IsOpenBy rule game leaves kind path t
      → IsOpenBy other game leaves kind path t
  weaker rule other w path (OnOff i k s t) h = (
    h.0,
    h.1,
    weaker rule other w (then_choice path (AChoice.On i k)) s h.2,
    weaker rule other w (then_choice path (AChoice.Off i k)) t h.3,
  )
  weaker rule other w path (RowSplit i k n s t) h = (
    h.0,
    h.1,
    weaker rule other w (then_choice path (AChoice.Zero i k n)) s h.2,
    weaker rule other w (then_choice path (AChoice.Tight i k n)) t h.3,
  )
  weaker rule other w path (Which i trees) h = (
    h.0,
    h.1,
    λ k b. weaker rule other w (then_choice path (AChoice.Which i k)) (trees k) (h.2 k b),
  )
  weaker rule other w path (Close mult) h = w path mult h

  -- an open tree's cases may be made
  pub refutes : (rule other : EndRule)
      → ((path : List Choice) (mult : Multipliers) → rule path mult → other path mult)
      → (path : List Choice) (t : CasesOf) → IsOpenBy rule game leaves kind path t
      → RefutesBy other game leaves kind path t
  refutes rule other w path (OnOff i k s t) h = (
    h.1,
    refutes rule other w (then_choice path (AChoice.On i k)) s h.2,
    refutes rule other w (then_choice path (AChoice.Off i k)) t h.3,
  )
  refutes rule other w path (RowSplit i k n s t) h = (
    h.1,
    refutes rule other w (then_choice path (AChoice.Zero i k n)) s h.2,
    refutes rule other w (then_choice path (AChoice.Tight i k n)) t h.3,
  )
  refutes rule other w path (Which i trees) h = (
    h.1,
    λ k b. refutes rule other w (then_choice path (AChoice.Which i k)) (trees k) (h.2 k b),
  )
  refutes rule other w path (Close mult) h = w path mult h

  pub open_cases : (wanted : Bool) (path : List Choice) (t : CasesOf) → IsOpen wanted path t
      → IsOpenCases game leaves kind path t
  open_cases wanted path t h =
      weaker (end_rule game leaves wanted) (λ end mult. Unit {0}) (λ end mult r. tt) path t h

  abbrev ends : List (List Choice) → List CasesOf
  ends [] = []
  ends (p ∷ ps) = Close [] ∷ ends ps

  ends_open : (paths : List (List Choice)) → AllOpen false paths (ends paths)
  ends_open [] = tt
  ends_open (p ∷ ps) = (tt, ends_open ps)

  ends_units : (paths : List (List Choice)) → units_all (ends paths) ≡ 0
  ends_units [] = refl
  ends_units (p ∷ ps) = let r = ends_units ps in omega (arith, r)

  pub work_of : (nodes : List RNodeOf) (paths : List (List Choice)) (spent : ℕ)
      → IsGrowing nodes paths spent
      → (work : CaseWork game leaves kind) × (case_units leaves work.tree ≡ spent)
  work_of nodes paths spent g =
      let t = g.planned false (ends paths) (ends_open paths) in
      let u = t.3 in
      let z = ends_units paths in
      (record { tree = t.0; open_is = open_cases false [] t.0 t.1 }, omega (arith, u, z))

  -- no more was spent than an open tree has units
  pub spends_cases : (nodes : List RNodeOf) (paths : List (List Choice)) (spent : ℕ)
      (old new : Purse) → IsGrowing nodes paths spent → SpendsBranches old new
      → new.branches ≤ old.branches + spent → SpendsCases game leaves kind old new
  spends_cases nodes paths spent old new g s few =
      let w = work_of nodes paths spent g in
      let u = w.1 in
      record {
        limit = s.limit;
        cuts = s.cuts;
        pivots = s.pivots;
        branches = s.branches;
        work = w.0;
        units_are = omega (arith, u, few);
      }

  -- there are more units than the purse had left
  pub more_cases : (nodes : List RNodeOf) (paths : List (List Choice)) (spent : ℕ) (old : Purse)
      → IsGrowing nodes paths spent → old.limit < counted old + spent
      → HasMoreCases game leaves kind old
  more_cases nodes paths spent old g more =
      let w = work_of nodes paths spent g in
      let u = w.1 in
      (w.0, omega (arith, u, more))

  -- where no path is due the nodes keep the rules of refutations, and are such a tree
  pub cases_at_end : (nodes : List RNodeOf) (spent : ℕ) → spent ≤ 1000000000
      → IsGrowing nodes [] spent → AreCases nodes
  cases_at_end nodes spent few g = record {
    few = (let c = g.count in omega (arith, c, few));
    forms = g.forms;
  }

  pub grown_at_end : (proof : Refutation) (spent : ℕ) (old new : Purse)
      → new.branches ≡ old.branches + spent
      → IsGrowing (map rnode_of proof.nodes.items) [] spent
      → IsOpenRefutation game leaves kind old new proof
  grown_at_end proof spent old new paid g =
      let t = g.planned true [] tt in
      let u = t.3 in
      let c = g.count in
      let l = length-map proof.nodes.items rnode_of in record {
        tree = t.0;
        nodes_are = t.2 ∙ append-nil (map rnode_of proof.nodes.items);
        refutes = refutes (end_rule game leaves true) (Closes game leaves)
            (λ path mult h. h.closes) [] t.0 t.1;
        open_is = open_cases true [] t.0 t.1;
        spent = omega (arith, u, paid);
        drawn = refutes (end_rule game leaves true) (AreDrawn game leaves)
            (λ path mult h. h.drawn) [] t.0 t.1;
        few = omega (arith, u, c, l);
      }
