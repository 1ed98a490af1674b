-- What is seen of a source with a copy.
use Rattle.std.specs.Prelude.{Option, Some, None}
use Rattle.age_debug.specs.declared.reader.DebugReader.{DebugReader}
use Rattle.age_debug.specs.declared.reader.DebugReader.TheVariants.{Off, On}

-- the inner source
abbrev pub source_of : {R T : Type 0} → DebugReader R T → R
source_of (Off source) = source
source_of (On source copy) = source

-- the copy's sink, where the copy is on
abbrev pub copy_of : {R T : Type 0} → DebugReader R T → Option T
copy_of (Off source) = None
copy_of (On source copy) = Some copy
