use Rattle.std.proofs.Common.{◌∙◌, arith, ap, sym, subst, inl, List, length, map}
use Rattle.zr_game.specs.Games.{game_of}
use Rattle.zr_tree.specs.declared.tree.Tree.{Tree}
use Rattle.zr_cert.specs.Certs.{CertOf, CoverVerdict, cases_of, named_list, nodes_of}
use Rattle.zr_comp.specs.Answers.{IsFound}
use Rattle.zr_decide.specs.Answers.{IsVerdictWithin}
use Rattle.zr_system.specs.Regions.{leaves_of}
use Rattle.zr_decide.proofs.Causing.{naming_spends}
use Rattle.zr_decide.proofs.Deciding.{bounds_stops, cells, cover_count, cover_within, narrow, open_by, refuted_drawn, refuted_few, refuted_form, refuted_right, search_stop, settled_leaves, size_stop, slots, spends_bounds, spends_later}
use Rattle.zr_decide.proofs.DrawnCerts.{drawn_cert}
use Rattle.zr_decide.proofs.Refuting.{decided_covers}
use Rattle.zr_decide.proofs.Rights.{right_cert}
use Rattle.zr_decide.proofs.decision.decide_over.Goals as goal

pub named_system-requires : goal.named_system-requires
named_system-requires c =
    record {
      covers = ap (λ (xs : List Tree). length xs) c.deref.ensures.value
          ∙ cover_count (game_of c.args.game.now) c.args.kind c.args.covers.trees.items c.args.covers.ray c.requires.covers;
    }

pub returns-in-Err-clause-spends : goal.returns-in-Err-clause-spends
returns-in-Err-clause-spends c =
    naming_spends (game_of c.args.game.now) c.args.kind c.args.purse.now c.named_system.new.purse
    c.in-Err.ensures.purse

pub returns-in-Err-clause-cause : goal.returns-in-Err-clause-cause
returns-in-Err-clause-cause c =
    size_stop (game_of c.args.game.now) c.args.kind c.args.covers.trees.items c.args.covers.ray
    c.requires.covers c.args.purse.now c.named_system.new.purse
    c.in-Err.stop (λ trees e. c.in-Err.ensures.cause trees
    (e ∙ ap (λ (xs : List Tree). map nodes_of xs) (sym c.deref.ensures.value)))

pub solve-requires-clause-slots : goal.solve-requires-clause-slots
solve-requires-clause-slots c =
    slots (game_of c.args.game.now) c.args.kind c.args.covers.trees.items c.args.covers.ray
    c.requires.covers c.in-Ok.system.0.items (leaves_of c.in-Ok.system.1)
    (c.in-Ok.ensures.system c.requires.covers.trees
    (c.requires.covers.listed ∙ ap (λ (xs : List Tree). map nodes_of xs) (sym c.deref.ensures.value))
    (decided_covers (game_of c.args.game.now) c.args.covers.trees.items c.args.covers.ray c.requires.covers))
    c.args.game.now.sound

pub solve-requires-clause-cells : goal.solve-requires-clause-cells
solve-requires-clause-cells c =
    cells (game_of c.args.game.now) c.args.kind c.args.covers.trees.items c.args.covers.ray
    c.requires.covers c.in-Ok.system.0.items (leaves_of c.in-Ok.system.1)
    (c.in-Ok.ensures.system c.requires.covers.trees
    (c.requires.covers.listed ∙ ap (λ (xs : List Tree). map nodes_of xs) (sym c.deref.ensures.value))
    (decided_covers (game_of c.args.game.now) c.args.covers.trees.items c.args.covers.ray c.requires.covers))

pub solve-requires-clause-narrow : goal.solve-requires-clause-narrow
solve-requires-clause-narrow c =
    narrow (game_of c.args.game.now) c.args.kind c.args.covers.trees.items c.args.covers.ray
    c.requires.covers c.in-Ok.system.0.items (leaves_of c.in-Ok.system.1)
    (c.in-Ok.ensures.system c.requires.covers.trees
    (c.requires.covers.listed ∙ ap (λ (xs : List Tree). map nodes_of xs) (sym c.deref.ensures.value))
    (decided_covers (game_of c.args.game.now) c.args.covers.trees.items c.args.covers.ray c.requires.covers))

pub solve-requires-clause-limit : goal.solve-requires-clause-limit
solve-requires-clause-limit c =
    let same = c.in-Ok.ensures.purse.limit in
    let limit = c.requires.limit in
    omega (arith, same, limit)

pub returns-in-Err-solve-clause-cause : goal.returns-in-Err-solve-clause-cause
returns-in-Err-solve-clause-cause c =
    search_stop (game_of c.args.game.now) c.args.kind c.args.covers.trees.items c.args.covers.ray
    c.requires.covers c.in-Ok.system.0.items (leaves_of c.in-Ok.system.1)
    (c.in-Ok.ensures.system c.requires.covers.trees
    (c.requires.covers.listed ∙ ap (λ (xs : List Tree). map nodes_of xs) (sym c.deref.ensures.value))
    (decided_covers (game_of c.args.game.now) c.args.covers.trees.items c.args.covers.ray c.requires.covers))
    c.args.purse.now c.named_system.new.purse c.solve.new.purse c.in-Ok.ensures.purse
    c.in-Err-solve.stop c.in-Err-solve.ensures.cause

pub returns-in-Err-solve-clause-spends : goal.returns-in-Err-solve-clause-spends
returns-in-Err-solve-clause-spends c =
    spends_later (game_of c.args.game.now) c.args.kind c.args.covers.trees.items c.args.covers.ray
    c.requires.covers c.in-Ok.system.0.items (leaves_of c.in-Ok.system.1)
    (c.in-Ok.ensures.system c.requires.covers.trees
    (c.requires.covers.listed ∙ ap (λ (xs : List Tree). map nodes_of xs) (sym c.deref.ensures.value))
    (decided_covers (game_of c.args.game.now) c.args.covers.trees.items c.args.covers.ray c.requires.covers))
    c.args.purse.now c.named_system.new.purse c.solve.new.purse c.in-Ok.ensures.purse
    c.in-Err-solve.ensures.spends

pub certificate-requires-clause-form : goal.certificate-requires-clause-form
certificate-requires-clause-form c =
    refuted_form (game_of c.args.game.now) c.args.kind c.args.covers.trees.items c.args.covers.ray
    c.requires.covers c.in-Ok.system.0.items (leaves_of c.in-Ok.system.1)
    (c.in-Ok.ensures.system c.requires.covers.trees
    (c.requires.covers.listed ∙ ap (λ (xs : List Tree). map nodes_of xs) (sym c.deref.ensures.value))
    (decided_covers (game_of c.args.game.now) c.args.covers.trees.items c.args.covers.ray c.requires.covers))
    c.args.purse.now c.named_system.new.purse c.solve.new.purse c.in-Ok.ensures.purse
    c.in-Ok-Refuted.proof (subst (IsFound (game_of c.args.game.now) (leaves_of c.in-Ok.system.1) c.args.kind
    c.named_system.new.purse c.solve.new.purse) c.in-Ok-Refuted.field-0-is c.in-Ok-Refuted.ensures.found)

pub certificate-requires-clause-few : goal.certificate-requires-clause-few
certificate-requires-clause-few c =
    let within = c.solve.new.purse.within in
    let same = c.in-Ok-Refuted.ensures.spends.limit in
    let before = c.in-Ok.ensures.purse.limit in
    let limit = c.requires.limit in
    refuted_few (game_of c.args.game.now) c.args.kind c.args.covers.trees.items c.args.covers.ray
    c.requires.covers c.in-Ok.system.0.items (leaves_of c.in-Ok.system.1)
    (c.in-Ok.ensures.system c.requires.covers.trees
    (c.requires.covers.listed ∙ ap (λ (xs : List Tree). map nodes_of xs) (sym c.deref.ensures.value))
    (decided_covers (game_of c.args.game.now) c.args.covers.trees.items c.args.covers.ray c.requires.covers))
    c.args.purse.now c.named_system.new.purse c.solve.new.purse c.in-Ok.ensures.purse
    c.in-Ok-Refuted.proof (subst (IsFound (game_of c.args.game.now) (leaves_of c.in-Ok.system.1) c.args.kind
    c.named_system.new.purse c.solve.new.purse) c.in-Ok-Refuted.field-0-is c.in-Ok-Refuted.ensures.found)
    c.requires.few (omega (arith, within, same, before, limit)) c.args.game.now.sound.player_count

pub returns-in-Ok-Refuted-clause-right : goal.returns-in-Ok-Refuted-clause-right
returns-in-Ok-Refuted-clause-right c =
    right_cert (game_of c.args.game.now) c.args.kind c.certificate.result
    (CoverVerdict (map nodes_of c.args.covers.trees.items) (map named_list c.in-Ok.system.0.items)
    (cases_of c.in-Ok-Refuted.proof)) c.certificate.ensures
    (refuted_right (game_of c.args.game.now) c.args.kind c.args.covers.trees.items c.args.covers.ray
    c.requires.covers c.in-Ok.system.0.items (leaves_of c.in-Ok.system.1)
    (c.in-Ok.ensures.system c.requires.covers.trees
    (c.requires.covers.listed ∙ ap (λ (xs : List Tree). map nodes_of xs) (sym c.deref.ensures.value))
    (decided_covers (game_of c.args.game.now) c.args.covers.trees.items c.args.covers.ray c.requires.covers))
    c.args.purse.now c.named_system.new.purse c.solve.new.purse c.in-Ok.ensures.purse
    c.in-Ok-Refuted.proof (subst (IsFound (game_of c.args.game.now) (leaves_of c.in-Ok.system.1) c.args.kind
    c.named_system.new.purse c.solve.new.purse) c.in-Ok-Refuted.field-0-is c.in-Ok-Refuted.ensures.found))

pub returns-in-Ok-Refuted-clause-within : goal.returns-in-Ok-Refuted-clause-within
returns-in-Ok-Refuted-clause-within c =
    subst (λ (x : CertOf). IsVerdictWithin (game_of c.args.game.now) x.verdict)
    (sym c.certificate.ensures)
    (cover_within (game_of c.args.game.now) c.args.kind c.args.covers.trees.items c.args.covers.ray
    c.requires.covers c.in-Ok.system.0.items (leaves_of c.in-Ok.system.1)
    (c.in-Ok.ensures.system c.requires.covers.trees
    (c.requires.covers.listed ∙ ap (λ (xs : List Tree). map nodes_of xs) (sym c.deref.ensures.value))
    (decided_covers (game_of c.args.game.now) c.args.covers.trees.items c.args.covers.ray c.requires.covers)) (cases_of c.in-Ok-Refuted.proof))

pub returns-in-Ok-Refuted-clause-spends : goal.returns-in-Ok-Refuted-clause-spends
returns-in-Ok-Refuted-clause-spends c =
    spends_later (game_of c.args.game.now) c.args.kind c.args.covers.trees.items c.args.covers.ray
    c.requires.covers c.in-Ok.system.0.items (leaves_of c.in-Ok.system.1)
    (c.in-Ok.ensures.system c.requires.covers.trees
    (c.requires.covers.listed ∙ ap (λ (xs : List Tree). map nodes_of xs) (sym c.deref.ensures.value))
    (decided_covers (game_of c.args.game.now) c.args.covers.trees.items c.args.covers.ray c.requires.covers))
    c.args.purse.now c.named_system.new.purse c.solve.new.purse c.in-Ok.ensures.purse
    c.in-Ok-Refuted.ensures.spends

pub returns-in-Some-clause-cause : goal.returns-in-Some-clause-cause
returns-in-Some-clause-cause c =
    inl (open_by (game_of c.args.game.now) c.args.kind c.args.covers.trees.items c.args.covers.ray
    c.requires.covers c.in-Ok.system.0.items (leaves_of c.in-Ok.system.1)
    (c.in-Ok.ensures.system c.requires.covers.trees
    (c.requires.covers.listed ∙ ap (λ (xs : List Tree). map nodes_of xs) (sym c.deref.ensures.value))
    (decided_covers (game_of c.args.game.now) c.args.covers.trees.items c.args.covers.ray c.requires.covers))
    c.in-Ok-Solved.x (subst (IsFound (game_of c.args.game.now) (leaves_of c.in-Ok.system.1) c.args.kind
    c.named_system.new.purse c.solve.new.purse) c.in-Ok-Solved.field-0-is c.in-Ok-Solved.ensures.found)
    c.in-Some.ray c.in-Some.is)

pub returns-in-Some-clause-spends : goal.returns-in-Some-clause-spends
returns-in-Some-clause-spends c =
    spends_later (game_of c.args.game.now) c.args.kind c.args.covers.trees.items c.args.covers.ray
    c.requires.covers c.in-Ok.system.0.items (leaves_of c.in-Ok.system.1)
    (c.in-Ok.ensures.system c.requires.covers.trees
    (c.requires.covers.listed ∙ ap (λ (xs : List Tree). map nodes_of xs) (sym c.deref.ensures.value))
    (decided_covers (game_of c.args.game.now) c.args.covers.trees.items c.args.covers.ray c.requires.covers))
    c.args.purse.now c.named_system.new.purse c.solve.new.purse c.in-Ok.ensures.purse
    c.in-Ok-Solved.ensures.spends

pub equilibrium-requires-clause-covers : goal.equilibrium-requires-clause-covers
equilibrium-requires-clause-covers c =
    settled_leaves (game_of c.args.game.now) c.args.kind c.args.covers.trees.items c.args.covers.ray
    c.requires.covers c.in-Ok.system.0.items (leaves_of c.in-Ok.system.1)
    (c.in-Ok.ensures.system c.requires.covers.trees
    (c.requires.covers.listed ∙ ap (λ (xs : List Tree). map nodes_of xs) (sym c.deref.ensures.value))
    (decided_covers (game_of c.args.game.now) c.args.covers.trees.items c.args.covers.ray c.requires.covers))
    c.in-None.is

pub equilibrium-requires-clause-cells : goal.equilibrium-requires-clause-cells
equilibrium-requires-clause-cells c =
    cells (game_of c.args.game.now) c.args.kind c.args.covers.trees.items c.args.covers.ray
    c.requires.covers c.in-Ok.system.0.items (leaves_of c.in-Ok.system.1)
    (c.in-Ok.ensures.system c.requires.covers.trees
    (c.requires.covers.listed ∙ ap (λ (xs : List Tree). map nodes_of xs) (sym c.deref.ensures.value))
    (decided_covers (game_of c.args.game.now) c.args.covers.trees.items c.args.covers.ray c.requires.covers))

pub equilibrium-requires-clause-solution : goal.equilibrium-requires-clause-solution
equilibrium-requires-clause-solution c =
    subst (IsFound (game_of c.args.game.now) (leaves_of c.in-Ok.system.1) c.args.kind
    c.named_system.new.purse c.solve.new.purse) c.in-Ok-Solved.field-0-is c.in-Ok-Solved.ensures.found

pub equilibrium-requires-clause-limit : goal.equilibrium-requires-clause-limit
equilibrium-requires-clause-limit c =
    let before = c.in-Ok.ensures.purse.limit in
    let same = c.in-Ok-Solved.ensures.spends.limit in
    let limit = c.requires.limit in
    omega (arith, before, same, limit)

pub returns-in-None-clause-cause : goal.returns-in-None-clause-cause
returns-in-None-clause-cause c =
    bounds_stops (game_of c.args.game.now) c.args.kind c.args.covers.trees.items c.args.covers.ray
    c.requires.covers c.in-Ok.system.0.items (leaves_of c.in-Ok.system.1)
    (c.in-Ok.ensures.system c.requires.covers.trees
    (c.requires.covers.listed ∙ ap (λ (xs : List Tree). map nodes_of xs) (sym c.deref.ensures.value))
    (decided_covers (game_of c.args.game.now) c.args.covers.trees.items c.args.covers.ray c.requires.covers))
    c.args.purse.now c.named_system.new.purse c.solve.new.purse c.in-Ok.ensures.purse
    c.equilibrium.new.purse c.in-Ok-Solved.ensures.spends
    c.equilibrium.result c.equilibrium.ensures.cause

pub returns-in-None-clause-spends : goal.returns-in-None-clause-spends
returns-in-None-clause-spends c =
    spends_bounds (game_of c.args.game.now) c.args.kind c.args.covers.trees.items c.args.covers.ray
    c.requires.covers c.in-Ok.system.0.items (leaves_of c.in-Ok.system.1)
    (c.in-Ok.ensures.system c.requires.covers.trees
    (c.requires.covers.listed ∙ ap (λ (xs : List Tree). map nodes_of xs) (sym c.deref.ensures.value))
    (decided_covers (game_of c.args.game.now) c.args.covers.trees.items c.args.covers.ray c.requires.covers))
    c.args.purse.now c.named_system.new.purse c.solve.new.purse c.in-Ok.ensures.purse
    c.equilibrium.new.purse c.in-Ok-Solved.ensures.spends
    c.equilibrium.ensures.spends

pub returns-in-Ok-Refuted-clause-drawn : goal.returns-in-Ok-Refuted-clause-drawn
returns-in-Ok-Refuted-clause-drawn c =
    drawn_cert (game_of c.args.game.now) c.args.kind c.certificate.result
    (CoverVerdict (map nodes_of c.args.covers.trees.items) (map named_list c.in-Ok.system.0.items)
    (cases_of c.in-Ok-Refuted.proof)) c.certificate.ensures
    (refuted_drawn (game_of c.args.game.now) c.args.kind c.args.covers.trees.items c.args.covers.ray
    c.requires.covers c.in-Ok.system.0.items (leaves_of c.in-Ok.system.1)
    (c.in-Ok.ensures.system c.requires.covers.trees
    (c.requires.covers.listed ∙ ap (λ (xs : List Tree). map nodes_of xs) (sym c.deref.ensures.value))
    (decided_covers (game_of c.args.game.now) c.args.covers.trees.items c.args.covers.ray c.requires.covers))
    c.args.purse.now c.named_system.new.purse c.solve.new.purse c.in-Ok.ensures.purse
    c.in-Ok-Refuted.proof (subst (IsFound (game_of c.args.game.now) (leaves_of c.in-Ok.system.1) c.args.kind
    c.named_system.new.purse c.solve.new.purse) c.in-Ok-Refuted.field-0-is c.in-Ok-Refuted.ensures.found))
