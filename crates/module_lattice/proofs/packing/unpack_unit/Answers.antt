use Rattle.std.proofs.Common.{List, ℕ, ◌*◌, ◌/◌, ◌%◌, ◌^◌, ap, sym, ◌∙◌, length, map}
use Rattle.std.specs.List.{range_with_len}
use Rattle.module_lattice.proofs.Words.{ungroup-word}
use Rattle.module_lattice.proofs.packing.unpack_unit.Goals as goal

pub returns : goal.returns
returns c =
    let d : ℕ = c.args.d in
    let bytes : List ℕ = c.args.bytes.now in
    let n : ℕ = length c.args.out.now in
    c.split_word.ensures
    ∙ ap (λ (x : ℕ). map (λ j. x / 2 ^ (d * j) % 2 ^ d) (range_with_len 0 n)) c.join_bytes.ensures
    ∙ sym (ungroup-word d n bytes c.requires.positive c.requires.whole)
