-- The shelf and the sink in memory, whose calls are numbered from 0.
use Rattle.std.specs.Prelude.{◌≡◌, ℕ, List, Option, Contains}
use Rattle.zr_io.specs.declared.calls.Calls.{Calls}
use Rattle.zr_io.specs.declared.mem_shelf.MemShelf.{MemShelf}
use Rattle.zr_io.specs.declared.mem_sink.MemSink.{MemSink}
use Rattle.zr_io.specs.Contents.{Bytes, look_up, pairs_of}
use Rattle.zr_io.specs.Faults.{next_count}

-- the next call is one of those that fail
abbrev pub IsListed : Calls → Type 0
IsListed calls = Contains calls.fails.items calls.made

-- no call was made yet, and these will fail
abbrev pub Starts : Calls → List ℕ → Type 0
Starts calls fails = (calls.fails.items ≡ fails) × (calls.made ≡ 0)

-- one call was made, and the list of those that fail is the same
abbrev pub CountsCall : Calls → Calls → Type 0
CountsCall old new = (new.fails ≡ old.fails) × (new.made ≡ next_count old.made)

-- the calls of a shelf in memory
abbrev pub shelf_calls : MemShelf → Calls
shelf_calls shelf = shelf.calls

-- what a shelf in memory holds under a name
abbrev pub content_of : MemShelf → Bytes → Option Bytes
content_of shelf = look_up (pairs_of shelf.items.items)

-- how many faults a shelf in memory had
abbrev pub shelf_faults : MemShelf → ℕ
shelf_faults shelf = shelf.calls.faults

-- how many takes a shelf in memory had
abbrev pub shelf_takes : MemShelf → ℕ
shelf_takes shelf = shelf.calls.made

-- the calls of a sink in memory
abbrev pub sink_calls : MemSink → Calls
sink_calls sink = sink.calls

-- what was written to a sink in memory
abbrev pub bytes_of : MemSink → Bytes
bytes_of sink = sink.bytes.items

-- how many faults a sink in memory had
abbrev pub sink_faults : MemSink → ℕ
sink_faults sink = sink.calls.faults
