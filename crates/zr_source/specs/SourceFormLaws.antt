-- That a source keeps the rules is a fact with one proof at most.
use Rattle.std.specs.Prelude.{ℕ, ℤ, List, [], ◌∷◌}
use Rattle.std.specs.Coded.{Unit-prop, codes}
use Rattle.zr_base.specs.Terms.{Terms}
use Rattle.zr_base.specs.Rows.{RowOf}
use Rattle.zr_game.specs.Players.{Name, PlayerOf}
use Rattle.zr_game.specs.Forms.{AreTerms, IsCoefficient, IsRowForm}
use Rattle.zr_game.specs.FormLaws.{AscendWith-prop, IsGame-prop}
use Rattle.zr_source.specs.Sources.{FollowerOf, LeaderOf, SourceOf, bases}
use Rattle.zr_source.specs.Names.{AreNames}
use Rattle.zr_source.specs.SourceForms.{AreFree, IsFollowerCross, IsFollowerForm, IsLeaderForm, IsSource, StandInOrder}

coefficient_prop : (z : ℤ) → IsProp (IsCoefficient z)
coefficient_prop z = hlevel codes

terms_prop : (columns : ℕ) (ts : Terms) → IsProp (AreTerms columns ts)
terms_prop columns ts = AscendWith-prop IsCoefficient coefficient_prop 0 columns ts

row_prop : (columns : ℕ) (row : RowOf) → IsProp (IsRowForm columns row)
row_prop columns row = hlevel (codes, terms_prop)

cross_prop : (f : FollowerOf) (columns : ℕ) (t : ℕ × ℕ × ℤ) → IsProp (IsFollowerCross f columns t)
cross_prop f columns t = hlevel codes

follower_prop : (columns : ℕ) (f : FollowerOf) → IsProp (IsFollowerForm columns f)
follower_prop columns f = hlevel (codes, terms_prop, row_prop, cross_prop)

order_prop : (columns : ℕ) (fs : List FollowerOf) → IsProp (StandInOrder columns fs)
order_prop columns [] = Unit-prop
order_prop columns (f ∷ fs) = let rest = order_prop columns fs in hlevel (codes, rest)

free_prop : (base : PlayerOf) (f : FollowerOf) → IsProp (AreFree base f)
free_prop base f = hlevel codes

names_prop : (names : List Name) → IsProp (AreNames names)
names_prop names = hlevel codes

leader_prop : (leader : LeaderOf) → IsProp (IsLeaderForm leader)
leader_prop leader = hlevel (codes, follower_prop, order_prop, free_prop, names_prop)

pub IsSource-prop : (source : SourceOf) → IsProp (IsSource source)
IsSource-prop source = let game = IsGame-prop (bases source) in
    hlevel (codes, game, leader_prop, names_prop)
