-- What is seen of the adapters over a reader and a writer: the reader, the writer, and the counts of faults.
use Rattle.std.specs.Prelude.{ℕ, ◌≤◌, List, length, take, Option}
use Rattle.std.specs.Io.KnownBytes.{Appends}
use Rattle.age_format.specs.declared.outside.standard.StdSource.{StdSource}
use Rattle.age_format.specs.declared.outside.standard.StdSink.{StdSink}

abbrev pub source_reader : {R : Type 0} → StdSource R → R
source_reader source = source.reader

abbrev pub source_faults : {R : Type 0} → StdSource R → ℕ
source_faults source = source.faults

abbrev pub sink_writer : {W : Type 0} → StdSink W → W
sink_writer sink = sink.writer

abbrev pub sink_faults : {W : Type 0} → StdSink W → ℕ
sink_faults sink = sink.faults

-- where a writer's bytes are known, they grew by a front of the piece, which may be empty or the whole piece
abbrev pub AppendsFront : Option (List ℕ) → Option (List ℕ) → List ℕ → Type 0
AppendsFront before now piece = (n : ℕ) × (n ≤ length piece) × Appends before now (take n piece)
