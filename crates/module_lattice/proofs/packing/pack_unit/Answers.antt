use Rattle.std.proofs.Common.{List, ℕ, ap, ◌∙◌, length, take}
use Rattle.std.specs.Int.{to_le_bytes, w128}
use Rattle.module_lattice.proofs.Words.{groups-word}
use Rattle.module_lattice.proofs.packing.pack_unit.Goals as goal

pub returns : goal.returns
returns c =
    let n : ℕ = length c.args.out.now in
    c.copy_from_slice.ensures.after
    ∙ ap (λ (x : List ℕ). take n x) c.to_le_bytes-word.ensures
    ∙ ap (λ (x : ℕ). take n (to_le_bytes w128 x)) c.join_values.ensures
    ∙ groups-word c.args.d n c.args.values.now c.requires.whole c.requires.unit
