-- Where the lines of a certificate stand.
use Rattle.zr_text.proofs.LineNumbers.{boxes_stand, cases_stand, cost_stands, cover_stands, end_stands, heading_stands, player_stands, tree_stands}
use Rattle.zr_text.proofs.laws.law_of_line_numbers.Goals as goal

pub returns : goal.returns
returns c = record {
  heading = heading_stands;
  players = player_stands;
  costs = cost_stands;
  covers = cover_stands;
  cases = cases_stand;
  tree = tree_stands;
  boxes = boxes_stand;
  end = end_stands;
}
