-- What a line is read as within the upper bounds it is read as without them.
use Rattle.std.proofs.Common.{◌≡◌, ℕ, true, false, List, [], ◌∷◌, Some, refl}
use Rattle.std.specs.Prelude.{codes}
use Rattle.zr_game.specs.Named.{NamedOf}
use Rattle.zr_tree.specs.Nodes.{NodeOf}
use Rattle.zr_cases.specs.Cases.{BNodeOf, RNodeOf}
use Rattle.zr_form.specs.Bounds.{Passes, is_index}
use Rattle.zr_form.specs.Numbers.{decimal}
use Rattle.zr_form.specs.Reading.{Bytes}
use Rattle.zr_form.proofs.Composing.{whole_looser}
use Rattle.zr_lines.specs.declared.ends.Ends.{Ends}
use Rattle.zr_lines.specs.Fits.{FitsBox, FitsCase, FitsNamed, FitsNode}
use Rattle.zr_lines.specs.Reader.{box_at, case_at, named_at, named_count_at, node_at}
use Rattle.zr_lines.proofs.Boxes.{box_fields, box_whole}
use Rattle.zr_lines.proofs.Cases.{case_fields, case_whole}
use Rattle.zr_lines.proofs.Looser.{box_node, case, named, node}
use Rattle.zr_lines.proofs.Named.{named_count_whole, named_fields, named_whole}
use Rattle.zr_lines.proofs.Nodes.{node_fields, node_whole}

pub node_looser : (ends : Ends) (fs : List Bytes) (n : NodeOf) → node_at true ends fs ≡ Some n → node_at false ends fs ≡ Some n
node_looser ends = whole_looser (FitsNode true ends) (FitsNode false ends) node_fields (node_at true ends) (node_at false ends) (node_whole true ends) (node_whole false ends) (node ends)

pub named_looser : (fs : List Bytes) (item : NamedOf) → named_at true fs ≡ Some item → named_at false fs ≡ Some item
named_looser = whole_looser (FitsNamed true) (FitsNamed false) named_fields (named_at true) (named_at false) (named_whole true) (named_whole false) named

pub named_count_looser : (fs : List Bytes) (n : ℕ) → named_count_at true fs ≡ Some n → named_count_at false fs ≡ Some n
named_count_looser = whole_looser (Passes (is_index true)) (Passes (is_index false)) (λ n. codes "named" ∷ decimal n ∷ []) (named_count_at true) (named_count_at false) (named_count_whole true) (named_count_whole false) (λ n f. refl)

pub case_looser : (players : ℕ) (fs : List Bytes) (n : RNodeOf) → case_at true players fs ≡ Some n → case_at false players fs ≡ Some n
case_looser players = whole_looser (FitsCase true players) (FitsCase false players) case_fields (case_at true players) (case_at false players) (case_whole true players) (case_whole false players) (case players)

pub box_looser : (fs : List Bytes) (n : BNodeOf) → box_at true fs ≡ Some n → box_at false fs ≡ Some n
box_looser = whole_looser (FitsBox true) (FitsBox false) box_fields (box_at true) (box_at false) (box_whole true) (box_whole false) box_node
