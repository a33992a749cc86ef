use Rattle.std.proofs.Common.{◌≡◌, ◌++◌, drop, map}
use Rattle.serde_json.specs.View.{view}
use Rattle.zr_source.specs.Sources.{leaders_of}
use Rattle.zr_write.specs.Canonical.{leaders_data}
use Rattle.zr_write.proofs.leaders.leaders_value.Given as goal

-- the leaders that are made, and those that are left
abbrev pub invariant-loop-i : goal.invariant-loop-i
invariant-loop-i l = map view l.items.items ++ leaders_data l.lows (leaders_of l.leaders) l.i (leaders_of (drop l.i l.leaders))
    ≡ leaders_data l.lows (leaders_of l.leaders) 0 (leaders_of l.leaders)
