use Rattle.zr_game.specs.Leaves.{slots}
use Rattle.zr_tree.proofs.KnownRows.{slot_count}
use Rattle.zr_tree.proofs.SlotPlaces.{later_slot, same_slot}
use Rattle.zr_tree.proofs.laws.law_of_later_rows.Goals as goal

pub returns-clause-count : goal.returns-clause-count
returns-clause-count c player leaf = slot_count player leaf

pub returns-clause-first : goal.returns-clause-first
returns-clause-first c player leaf more k below = same_slot (slots player leaf) more k below

pub returns-clause-later : goal.returns-clause-later
returns-clause-later c player leaf more k = later_slot (slots player leaf) more k
