-- The decision over the leaves of covers.
use Rattle.std.proofs.Common.{◌≡◌, ◌+◌, ◌*◌, ◌<◌, ◌≤◌, arith, sym, ap, subst, ◌∙◌, Option, Some, None, Result, Ok, Err, IfErr, IfOk, List, length, map, ⊎_elim}
use Rattle.std.specs.Global.{Vec}
use Rattle.std.proofs.lemmas.List.{length-map}
use Rattle.zr_base.specs.declared.step.Wide.{Wide}
use Rattle.zr_base.specs.Points.{PointOf}
use Rattle.zr_io.specs.declared.purse.Purse.{Purse}
use Rattle.zr_game.specs.Forms.{IsGame}
use Rattle.zr_game.specs.Named.{NamedOf}
use Rattle.zr_game.specs.Players.{GameOf}
use Rattle.zr_game.specs.declared.kind.Kind.{Kind}
use Rattle.zr_game.specs.declared.named.Named.{Named}
use Rattle.zr_tree.specs.declared.tree.Tree.{Tree}
use Rattle.zr_tree.specs.Nodes.{NodeOf}
use Rattle.zr_tree.specs.Trees.{TreeOf, preorder}
use Rattle.zr_branch.specs.Replies.{CountsPivotsAlone}
use Rattle.zr_cases.specs.Cases.{RNodeOf, rnode_of}
use Rattle.zr_cases.specs.declared.refutation.Refutation.{Refutation}
use Rattle.zr_cert.specs.Certs.{BoxVerdict, CoverVerdict, EmptyVerdict, ProfileVerdict, VerdictOf, cases_of, named_list, nodes_of}
use Rattle.zr_cert.specs.Listed.{cert_of}
use Rattle.zr_cert.specs.declared.cert.Cert.{Cert}
use Rattle.zr_cert.specs.Forms.{IsCoverForm}
use Rattle.zr_cert.specs.Lines.{named_lines, sum_lines, tree_lines}
use Rattle.zr_check.specs.Right.{IsRightCover}
use Rattle.zr_comp.specs.Answers.{IsFound, IsOpenRefutation, IsSolution}
use Rattle.zr_comp.specs.Cases.{AreFewSlots}
use Rattle.zr_comp.specs.Causes.{SpendsCases}
use Rattle.zr_comp.specs.OpenCases.{case_units}
use Rattle.zr_comp.specs.declared.answer.Found.TheVariants.{Refuted}
use Rattle.zr_draw.specs.Numbers.{numbers_of}
use Rattle.zr_draw.proofs.Columns.{solves_complete}
use Rattle.zr_refute.proofs.NoSolutions.{none_complete}
use Rattle.zr_refute.specs.Covered.{covered}
use Rattle.zr_system.specs.Asked.{HasWideCoefficient}
use Rattle.zr_system.specs.System.{cell_count}
use Rattle.zr_system.specs.Unknowns.{columns}
use Rattle.zr_system.specs.Regions.{LeavesOf}
use Rattle.zr_decide.specs.declared.covers.WholeRay.{WholeRay}
use Rattle.zr_decide.specs.declared.stop.DecideStop.{DecideStop}
use Rattle.zr_decide.specs.declared.stop.DecideStop.TheVariants as AStop
use Rattle.zr_decide.specs.Answers.{HasNoWholeRay, IsBoxVerdict, IsEndless, IsStopWithin, IsVerdictWithin, IsWithin}
use Rattle.zr_decide.specs.Causes.{IsDecideCause, IsOpenBySystem}
use Rattle.zr_decide.specs.Coverings.{AreCoversTo, IsFirstOpen}
use Rattle.zr_decide.specs.Decided.{AreDecidedCovers, decided_leaves}
use Rattle.zr_decide.specs.NamedCovers.{AreNamedOver, IsFull}
use Rattle.zr_decide.specs.Naming.{AreNamingsOver, IsNamedSystem}
use Rattle.zr_best.specs.Works.{SpendsBestWork}
use Rattle.zr_decide.specs.DrawnCerts.{IsDrawnRefutation}
use Rattle.zr_decide.specs.Equilibria.{AreSettledLeaves}
use Rattle.zr_decide.specs.Later.{IsBoundsStop, IsLaterCause, IsSearchStop, IsSizeStop, SpendsLaterWork}
use Rattle.zr_decide.proofs.Causing.{after_naming, bounds_causes, search_cause, search_spends, size_cause, stop_after_naming, with_bounds}
use Rattle.zr_decide.proofs.Naming.{items_more, items_over, names_narrow}
use Rattle.zr_decide.proofs.Refuting.{cover_few, cover_form, cover_right, decided_covers}
use Rattle.zr_decide.proofs.Rooms.{cells_full, cells_within}
use Rattle.zr_decide.proofs.Rights.{have_few_slots}

module _ (game : GameOf) (kind : Kind) (covers : List Tree) (ray : Option WholeRay)
    (c : AreCoversTo game (length game) covers ray) where
  decided : AreDecidedCovers game c.trees
  decided = decided_covers game covers ray c

  pub cover_count : length covers ≡ length game
  cover_count =
      sym (length-map covers nodes_of)
      ∙ ap (λ (xs : List (List NodeOf)). length xs) (sym c.listed)
      ∙ length-map c.trees preorder ∙ c.len

  pub size_stop : (old new : Purse) (stop : DecideStop)
      → ((trees : List TreeOf) → map preorder trees ≡ map nodes_of covers
      → IsSizeStop game trees stop) → IsLaterCause game kind old new stop
  size_stop old new stop h =
      size_cause game kind c.trees decided old new stop (h c.trees c.listed)

  module _ (named : List (Vec Named)) (leaves : LeavesOf)
      (sys : IsNamedSystem game c.trees (map named_list named) leaves) where
    abbrev names : List (List NamedOf)
    names = map named_list named

    same : leaves ≡ covered game c.trees names
    same = sys.same

    pub slots : IsGame game → AreFewSlots game leaves
    slots sound = have_few_slots game c.trees names leaves same sound

    pub cells : cell_count game leaves ≤ 16777216
    cells = subst (λ (l : LeavesOf). cell_count game l ≤ 16777216) (sym same) sys.covers.within

    pub narrow : (w : Wide) → HasWideCoefficient game leaves w → ⊥
    narrow w wide =
        names_narrow (IsFull game (covered game c.trees names)) game c.trees names decided
        sys.covers.items w (subst (λ (l : LeavesOf). HasWideCoefficient game l w) same wide)

    pub settled_leaves : ray ≡ None → AreSettledLeaves game (map nodes_of covers) leaves
    settled_leaves e = record {
      trees = c.trees;
      listed = c.listed;
      named = names;
      covers = sys.covers;
      settled = subst (IsFirstOpen game c.trees) e c.open_is;
      same = same;
    }

    pub cover_within : (proof : List RNodeOf)
        → IsVerdictWithin game (CoverVerdict (map nodes_of covers) names proof)
    cover_within proof = (c.trees, c.listed, sys.covers)

    module _ (old mid new : Purse) (pivots : CountsPivotsAlone old mid) where
      module _ (last : Purse) (h : SpendsCases game leaves kind mid new) where
        spent : SpendsCases game (covered game c.trees names) kind old new
        spent =
            subst (λ (l : LeavesOf). SpendsCases game l kind old new) same
            (after_naming game kind leaves old mid new pivots h)

        pub bounds_stops : {A : Type 0} → (r : Result A DecideStop)
            → IfErr r (IsBoundsStop game kind new last) → IfErr r (IsLaterCause game kind old last)
        bounds_stops r b =
            bounds_causes game kind c.trees names sys.covers old new last spent r b

        pub spends_bounds : SpendsBestWork game new last → SpendsLaterWork game kind old last
        spends_bounds b = with_bounds game kind c.trees names sys.covers old new last spent b

      pub search_stop : (stop : DecideStop) → IsSearchStop game leaves kind mid new stop
          → IsLaterCause game kind old new stop
      search_stop stop h =
          search_cause game kind c.trees names sys.covers old new stop
          (subst (λ (l : LeavesOf). IsSearchStop game l kind old new stop) same
          (stop_after_naming game kind leaves old mid new pivots stop h))

      pub spends_later : SpendsCases game leaves kind mid new → SpendsLaterWork game kind old new
      spends_later h =
          search_spends game kind c.trees names sys.covers old new
          (subst (λ (l : LeavesOf). SpendsCases game l kind old new) same
          (after_naming game kind leaves old mid new pivots h))

      module _ (proof : Refutation) (h : IsFound game leaves kind mid new (Refuted proof)) where
        found : IsOpenRefutation game (covered game c.trees names) kind mid new proof
        found = subst (λ (l : LeavesOf). IsOpenRefutation game l kind mid new proof) same h

        pub refuted_form : IsCoverForm (length game) (map nodes_of covers) names (cases_of proof)
        refuted_form =
            cover_form game kind covers ray c names sys.covers (cases_of proof) proof.kept found.tree
            found.nodes_are found.refutes

        pub refuted_right : IsRightCover game kind (map nodes_of covers) names (cases_of proof)
        refuted_right =
            cover_right game kind covers ray c names sys.covers (cases_of proof) proof.kept found.tree
            found.nodes_are found.refutes

        pub refuted_drawn : IsDrawnRefutation game kind (map nodes_of covers) names (cases_of proof)
        refuted_drawn = record {
          trees = c.trees;
          listed = c.listed;
          are_covers = sys.covers;
          cases = found.tree;
          cases_listed = found.nodes_are;
          open_is = found.open_is;
          drawn = found.drawn;
        }

        pub refuted_few : sum_lines tree_lines (map nodes_of covers)
            ≤ length game + 2 * old.branches → new.branches ≤ 1000000000 → length game ≤ 16
            → sum_lines tree_lines (map nodes_of covers)
            + (sum_lines named_lines names + length (cases_of proof))
            < 4294967292
        refuted_few few limit players =
            let s = found.spent in
            let p = pivots.branches in
            let m = length-map proof.nodes.items rnode_of in
            let f = found.few in
            cover_few game kind covers ray c names sys.covers (cases_of proof) proof.kept found.tree
            found.nodes_are found.refutes old.branches
            (case_units (covered game c.trees names) found.tree)
            few (omega (arith, f, m))
            (omega (arith, s, p, limit)) players

    pub open_by : (x : PointOf) → IsSolution game leaves kind x → (r : WholeRay)
        → ray ≡ Some r → IsOpenBySystem game kind r.player r.var r.dir.items names
    open_by x h r e =
        let o = subst (IsFirstOpen game c.trees) e c.open_is in
        let solution = subst (λ (l : LeavesOf). IsSolution game l kind x) same h in
        record {
          trees = c.trees;
          covers = sys.covers;
          x = x;
          solution = solution;
          not_refuted = λ t r. none_complete game (covered game c.trees names) kind t r (
            solution.0,
            numbers_of game (covered game c.trees names) x,
            solves_complete game (covered game c.trees names) x kind solution.0 solution.1
                solution.2,
          );
          loose = o.0;
          player = o.1;
          is_player = o.2;
          ray = o.3;
        }

-- ---- what is named over covers

pub named_over : (game : GameOf) (trees : List TreeOf) → length trees ≡ length game
    → (named : List (List NamedOf)) (leaves : LeavesOf) → leaves ≡ decided_leaves game trees
    → AreNamingsOver game (map preorder trees) leaves named → AreNamedOver game trees named
named_over game trees len named leaves same over =
    items_more (over.namings.0 ≡ 0) (IsFull game (covered game trees named))
    (λ e. cells_full game trees named over.namings.1.len over.room over.namings.0
    over.namings.1.room_is e
    (subst (λ (l : LeavesOf). 16777216
    < cell_count game l + over.room * length (columns game l) + length (columns game l)) same
    over.most)) game trees named
    (items_over game trees named over.room over.namings len)

pub is_system : (game : GameOf) (trees : List TreeOf) → AreDecidedCovers game trees
    → (named : List (List NamedOf)) (before : LeavesOf) → before ≡ decided_leaves game trees
    → AreNamingsOver game (map preorder trees) before named → cell_count game before ≤ 16777216
    → (leaves : LeavesOf) → leaves ≡ covered game trees named
    → IsNamedSystem game trees named leaves
is_system game trees d named before none over small leaves same = record {
  covers = record {
    small = record {
      covers = d;
      within = subst (λ (l : LeavesOf). cell_count game l ≤ 16777216) none small;
    };
    items = named_over game trees d.len named before none over;
    within = cells_within game trees named over.namings.1.len over.room over.namings.0
        over.namings.1.room_is
        (subst (λ (l : LeavesOf). cell_count game l + over.room * length (columns game l) ≤ 16777216)
        none (over.within small));
  };
  same = same;
}

pub named_if : (game : GameOf) (trees : List TreeOf) → length trees ≡ length game
    → (leaves : LeavesOf) → leaves ≡ decided_leaves game trees
    → (r : Result (Vec (Vec Named)) DecideStop)
    → IfOk r (λ lists. AreNamingsOver game (map preorder trees) leaves (map named_list lists.items))
    → IfOk r (λ lists. AreNamedOver game trees (map named_list lists.items))
named_if game trees len leaves same (Ok lists) h =
    named_over game trees len (map named_list lists.items) leaves same h
named_if game trees len leaves same (Err stop) h = tt

-- ---- what each answer tells

module _ (game : GameOf) (kind : Kind) (old new : Purse) where
  stop_within : (stop : DecideStop) → IsDecideCause game kind old new stop → IsStopWithin game stop
  stop_within AStop.Spent h = tt
  stop_within (AStop.Wide asked) h = tt
  stop_within (AStop.Step wide) h = (h.1.trees, h.1.named, h.1.covers)
  stop_within (AStop.Endless i var dir named) h =
      ⊎_elim (λ s. (s.trees, map named_list named.items, s.covers))
      (λ s. (s.drawn.trees, s.drawn.named, s.drawn.covers)) h
  stop_within (AStop.TooLarge size) h = tt
  stop_within AStop.NoMemory h = tt

  pub answer_within : (r : Result Cert DecideStop)
      → IfOk r (λ cert. IsVerdictWithin game (cert_of cert).verdict)
      → IfErr r (IsDecideCause game kind old new) → IsWithin game r
  answer_within (Ok cert) a h = a
  answer_within (Err stop) a h = stop_within stop h

  pub answer_ends : (r : Result Cert DecideStop) → IfErr r (IsDecideCause game kind old new)
      → HasNoWholeRay game → IsEndless r → ⊥
  answer_ends (Ok cert) h none e = e
  answer_ends (Err AStop.Spent) h none e = e
  answer_ends (Err (AStop.Wide asked)) h none e = e
  answer_ends (Err (AStop.Step wide)) h none e = e
  answer_ends (Err (AStop.Endless i var dir named)) h none e =
      ⊎_elim (λ s. none i s.player s.is_player (dir.items, var, s.ray.0))
      (λ s. none i s.player s.is_player (dir.items, var, s.least_open.changes)) h
  answer_ends (Err (AStop.TooLarge size)) h none e = e
  answer_ends (Err AStop.NoMemory) h none e = e

pub verdict_of_boxes : (game : GameOf) (v : VerdictOf) → IsBoxVerdict v → IsVerdictWithin game v
verdict_of_boxes game (ProfileVerdict mixtures bounds) h = absurd h
verdict_of_boxes game (CoverVerdict covers named proof) h = absurd h
verdict_of_boxes game (EmptyVerdict i nodes) h = absurd h
verdict_of_boxes game (BoxVerdict nodes) h = tt
