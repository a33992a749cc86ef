-- What was read of strategies, bounds and covers.
use Rattle.std.proofs.Common.{◌≡◌, ℕ, ℤ, ◌<◌, Some, None, Ok, true, false, Bool, List, length, ap, arith}
use Rattle.std.specs.Prelude.{bytes_eq, if◌then◌else◌}
use Rattle.zr_base.specs.Fractions.{ratio}
use Rattle.zr_game.specs.Named.{NamedOf}
use Rattle.zr_game.specs.Profiles.{Part}
use Rattle.zr_tree.specs.Nodes.{NodeOf}
use Rattle.zr_cert.specs.Certs.{BoundOf, MixtureOf}
use Rattle.zr_form.specs.declared.fault.ReadError.{ReadError}
use Rattle.zr_form.specs.Fields.{integer_read, word_read}
use Rattle.zr_form.specs.Lines.{by_fields}
use Rattle.zr_form.specs.Reading.{Bytes, Read, items_read, one_read}
use Rattle.zr_form.specs.Stops.{Stopped}
use Rattle.zr_form.proofs.Composing.{Both, items_shrinks, join_first, join_ok, join_second}
use Rattle.zr_lines.specs.declared.ends.Ends.TheVariants.{Proofs, Covered}
use Rattle.zr_lines.specs.Reader.{named_read, tree_read}
use Rattle.zr_lines.proofs.OtherTests.{integer_front, one_front}
use Rattle.zr_lines.proofs.TextSteps.{named_shrinks, tree_shrinks}
use Rattle.zr_text.specs.Reader.{bound_read, cost_at, cover_read, part_at, player_at, strategy_read}

-- ---- a strategy: a player's line, and the parts

abbrev pub head_read : Bool → ℕ → Read (ℕ × (ℤ × ℕ))
head_read strict i = one_read (by_fields (player_at strict i))

abbrev pub parts_read : Bool → ℕ × (ℤ × ℕ) → Read (List Part)
parts_read strict h ls = items_read (by_fields (part_at strict)) (λ p. 0) ls h.1.1

abbrev mixture_with : ℕ × (ℤ × ℕ) → List Part → MixtureOf
mixture_with h parts = record { total = h.1.0; parts = parts }

pub strategy_no_head : (i : ℕ) (ls : List Bytes) (e : ReadError) → Stopped e (head_read true i ls) (head_read false i ls) → Stopped e (strategy_read true i ls) (strategy_read false i ls)
unfolding strategy_read
strategy_no_head i ls e h = join_first mixture_with (head_read true i) (head_read false i) (parts_read true) (parts_read false) ls e (λ head. items_shrinks (by_fields (part_at false)) (λ p. 0) head.1.1) h

pub strategy_no_parts : (i : ℕ) (ls mid : List Bytes) (head : ℕ × (ℤ × ℕ)) (e : ReadError) → Both head mid (head_read true i ls) (head_read false i ls) → Stopped e (parts_read true head mid) (parts_read false head mid) → Stopped e (strategy_read true i ls) (strategy_read false i ls)
unfolding strategy_read
strategy_no_parts i ls mid head e h p = join_second mixture_with (head_read true i) (head_read false i) (parts_read true) (parts_read false) ls mid head e h p

pub strategy_taken : (i : ℕ) (ls mid rest : List Bytes) (head : ℕ × (ℤ × ℕ)) (parts : List Part) → Both head mid (head_read true i ls) (head_read false i ls) → Both parts rest (parts_read true head mid) (parts_read false head mid)
    → Both (record { total = head.1.0; parts = parts }) rest (strategy_read true i ls) (strategy_read false i ls)
unfolding strategy_read
strategy_taken i ls mid rest head parts h p = join_ok mixture_with (head_read true i) (head_read false i) (parts_read true) (parts_read false) ls mid rest head parts h p

-- ---- a bound: a line of its cost, and a tree

abbrev pub cost_read : Bool → ℕ → Read (ℕ × (ℤ × ℤ))
cost_read strict i = one_read (by_fields (cost_at strict i))

abbrev bound_with : ℕ × (ℤ × ℤ) → List NodeOf → BoundOf
bound_with h tree = record { cost = ratio h.1.0 h.1.1; tree = tree }

pub bound_no_cost : (i : ℕ) (ls : List Bytes) (e : ReadError) → Stopped e (cost_read true i ls) (cost_read false i ls) → Stopped e (bound_read true i ls) (bound_read false i ls)
unfolding bound_read
bound_no_cost i ls e h = join_first bound_with (cost_read true i) (cost_read false i) (λ c. tree_read true Proofs) (λ c. tree_read false Proofs) ls e (λ c. tree_shrinks false Proofs) h

pub bound_no_tree : (i : ℕ) (ls mid : List Bytes) (cost : ℕ × (ℤ × ℤ)) (e : ReadError) → Both cost mid (cost_read true i ls) (cost_read false i ls) → Stopped e (tree_read true Proofs mid) (tree_read false Proofs mid) → Stopped e (bound_read true i ls) (bound_read false i ls)
unfolding bound_read
bound_no_tree i ls mid cost e h t = join_second bound_with (cost_read true i) (cost_read false i) (λ c. tree_read true Proofs) (λ c. tree_read false Proofs) ls mid cost e h t

pub bound_taken : (i : ℕ) (ls mid rest : List Bytes) (cost : ℕ × (ℤ × ℤ)) (tree : List NodeOf) → Both cost mid (cost_read true i ls) (cost_read false i ls) → Both tree rest (tree_read true Proofs mid) (tree_read false Proofs mid)
    → Both (record { cost = ratio cost.1.0 cost.1.1; tree = tree }) rest (bound_read true i ls) (bound_read false i ls)
unfolding bound_read
bound_taken i ls mid rest cost tree h t = join_ok bound_with (cost_read true i) (cost_read false i) (λ c. tree_read true Proofs) (λ c. tree_read false Proofs) ls mid rest cost tree h t

-- ---- a cover: a tree, and named points and rays

abbrev side_by_side : List NodeOf → List NamedOf → List NodeOf × List NamedOf
side_by_side tree items = (tree, items)

pub cover_no_tree : (ls : List Bytes) (e : ReadError) → Stopped e (tree_read true Covered ls) (tree_read false Covered ls) → Stopped e (cover_read true ls) (cover_read false ls)
unfolding cover_read
cover_no_tree ls e h = join_first side_by_side (tree_read true Covered) (tree_read false Covered) (λ t. named_read true) (λ t. named_read false) ls e (λ t. named_shrinks false) h

pub cover_no_named : (ls mid : List Bytes) (tree : List NodeOf) (e : ReadError) → Both tree mid (tree_read true Covered ls) (tree_read false Covered ls) → Stopped e (named_read true mid) (named_read false mid) → Stopped e (cover_read true ls) (cover_read false ls)
unfolding cover_read
cover_no_named ls mid tree e t h = join_second side_by_side (tree_read true Covered) (tree_read false Covered) (λ t. named_read true) (λ t. named_read false) ls mid tree e t h

pub cover_taken : (ls mid rest : List Bytes) (tree : List NodeOf) (items : List NamedOf) → Both tree mid (tree_read true Covered ls) (tree_read false Covered ls) → Both items rest (named_read true mid) (named_read false mid) → Both (tree, items) rest (cover_read true ls) (cover_read false ls)
unfolding cover_read
cover_taken ls mid rest tree items t h = join_ok side_by_side (tree_read true Covered) (tree_read false Covered) (λ t. named_read true) (λ t. named_read false) ls mid rest tree items t h

-- ---- how many fields are left

pub word_shorter : (word : Bytes) (fs gs : List Bytes) (w : Bytes) → word_read word fs ≡ Ok (w, gs) → length gs < length fs
unfolding word_read
word_shorter word fs gs w e =
    let h = one_front (λ f. if bytes_eq f word then Some f else None) fs gs w e in omega (arith, ap length h.1)

pub integer_shorter : (test : ℤ → Bool) (fs gs : List Bytes) (z : ℤ) → integer_read test fs ≡ Ok (z, gs) → length gs < length fs
integer_shorter test fs gs z e = let h = integer_front test fs gs z e in omega (arith, ap length h.1)
