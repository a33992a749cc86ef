use Rattle.zr_tree.proofs.PlayerForms.{has_forms, has_places}
use Rattle.zr_tree.proofs.laws.law_of_slots.Goals as goal

pub returns-clause-player : goal.returns-clause-player
returns-clause-player c game sound i player is = has_forms game sound i player is

pub returns-clause-leaf : goal.returns-clause-leaf
returns-clause-leaf c player leaf is = has_places player leaf is
