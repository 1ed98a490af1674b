use Rattle.std.proofs.Common.{◌≡◌, take}
use Rattle.module_lattice.specs.Bits.{bits_of_each, number_of}
use Rattle.module_lattice.proofs.packing.join_bytes.Given as goal

abbrev pub invariant-loop-j : goal.invariant-loop-j
invariant-loop-j l = l.word ≡ number_of (bits_of_each 8 (take l.j l.bytes))
