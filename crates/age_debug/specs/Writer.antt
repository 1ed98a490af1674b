-- What is seen of a sink with a copy.
use Rattle.std.specs.Prelude.{Option, Some, None}
use Rattle.age_debug.specs.declared.writer.DebugWriter.{DebugWriter}
use Rattle.age_debug.specs.declared.writer.DebugWriter.TheVariants.{Off, On}

-- the inner sink
abbrev pub sink_of : {W T : Type 0} → DebugWriter W T → W
sink_of (Off sink) = sink
sink_of (On sink copy) = sink

-- the copy's sink, where the copy is on
abbrev pub copy_of : {W T : Type 0} → DebugWriter W T → Option T
copy_of (Off sink) = None
copy_of (On sink copy) = Some copy
