-- What a search spends and finds after something was tried that counted pivots alone.
use Rattle.std.proofs.Common.{◌≡◌, ℕ, ◌+◌, ◌<◌, ◌≤◌, arith, ap, ◌∙◌, List, [], ◌∷◌}
use Rattle.std.specs.Prelude.{Result, Ok, Err, IfOk, IfErr}
use Rattle.zr_io.specs.declared.purse.Purse.{Purse}
use Rattle.zr_game.specs.Players.{GameOf}
use Rattle.zr_game.specs.declared.kind.Kind.{Kind}
use Rattle.zr_system.specs.Regions.{LeavesOf}
use Rattle.zr_branch.specs.Replies.{CountsPivotsAlone}
use Rattle.zr_comp.specs.declared.answer.Found.{Found}
use Rattle.zr_comp.specs.declared.answer.Found.TheVariants.{Solved, Refuted}
use Rattle.zr_comp.specs.declared.answer.CompStop.{CompStop}
use Rattle.zr_comp.specs.declared.answer.CompStop.TheVariants.{Spent, Wide, WideRow, NoMemory}
use Rattle.zr_comp.specs.Answers.{IsFound}
use Rattle.zr_comp.specs.Cases.{IsChoiceList}
use Rattle.zr_comp.specs.Causes.{IsCompCause, SpendsCases}
use Rattle.zr_comp.specs.OpenCases.{case_units}
use Rattle.zr_comp.proofs.Growing.{growing_at_start, spends_cases}
use Rattle.zr_comp.proofs.Paths.{due_list}

module _ (game : GameOf) (leaves : LeavesOf) (kind : Kind) where
  pub no_choices : IsChoiceList game leaves kind []
  no_choices = due_list game leaves kind [] (growing_at_start game leaves kind).due.0

  module _ (old mid : Purse) (p : CountsPivotsAlone old mid) where
    pub spends_tried : SpendsCases game leaves kind old mid
    spends_tried =
        let b = p.branches in
        spends_cases game leaves kind [] ([] ∷ []) 0 old mid (growing_at_start game leaves kind)
        (record {
          limit = p.limit;
          cuts = p.cuts;
          pivots = p.pivots;
          branches = omega (arith, b);
        }) (omega (arith, b))

    pub spends_later : (new : Purse) → SpendsCases game leaves kind mid new
        → SpendsCases game leaves kind old new
    spends_later new s = record {
      limit = s.limit ∙ p.limit;
      cuts = s.cuts ∙ p.cuts;
      pivots = (let x = p.pivots in let y = s.pivots in omega (arith, x, y));
      branches = (let x = p.branches in let y = s.branches in omega (arith, x, y));
      work = s.work;
      units_are = (let x = p.branches in let y = s.units_are in omega (arith, x, y));
    }

    pub found_later : (new : Purse) (found : Found) → IsFound game leaves kind mid new found
        → IsFound game leaves kind old new found
    found_later new (Solved x) h = h
    found_later new (Refuted proof) h = record {
      tree = h.tree;
      nodes_are = h.nodes_are;
      refutes = h.refutes;
      open_is = h.open_is;
      spent = h.spent ∙ ap (λ (n : ℕ). n + case_units leaves h.tree) p.branches;
      drawn = h.drawn;
      few = h.few;
    }

    pub cause_later : (new : Purse) (stop : CompStop)
        → IsCompCause game leaves kind mid new stop → IsCompCause game leaves kind old new stop
    cause_later new Spent h =
        let a = p.limit in
        let b = p.branches in
        let d = p.cuts in
        let more = h.1.1 in
        (h.0, (h.1.0, omega (arith, a, b, d, more)))
    cause_later new (Wide asked) h = h
    cause_later new (WideRow wide) h = h
    cause_later new NoMemory h = tt

    pub all_found_later : (new : Purse) (r : Result Found CompStop)
        → IfOk r (IsFound game leaves kind mid new) → IfOk r (IsFound game leaves kind old new)
    all_found_later new (Ok found) h = found_later new found h
    all_found_later new (Err stop) h = h

    pub all_causes_later : (new : Purse) (r : Result Found CompStop)
        → IfErr r (IsCompCause game leaves kind mid new)
        → IfErr r (IsCompCause game leaves kind old new)
    all_causes_later new (Ok found) h = h
    all_causes_later new (Err stop) h = cause_later new stop h
