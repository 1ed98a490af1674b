use Rattle.std.proofs.Common.{ℕ, ◌^◌, ◌<◌, ap, ◌∙◌, map}
use Rattle.std.proofs.lemmas.List.Elements.{All-same}
use Rattle.module_lattice.specs.Groups.{groups}
use Rattle.ml_kem.specs.Encryption.{compressed}
use Rattle.ml_kem.specs.Rounding.{compress}
use Rattle.ml_kem.proofs.Rounded.{All-compressed, All-compressed-below, width-fits}
use Rattle.ml_kem.proofs.rounding.write_compressed.Goals as goal

pub byte_encode-requires-clause-unit : goal.byte_encode-requires-clause-unit
byte_encode-requires-clause-unit c = (width-fits c.args.d c.requires.positive c.requires.narrow).unit

pub byte_encode-requires-clause-width : goal.byte_encode-requires-clause-width
byte_encode-requires-clause-width c = (width-fits c.args.d c.requires.positive c.requires.narrow).width

pub byte_encode-requires-clause-in_width : goal.byte_encode-requires-clause-in_width
byte_encode-requires-clause-in_width c =
    All-same (λ (x : ℕ). x < 2 ^ c.args.d) _ _ c.compress_each.ensures (All-compressed c.args.d c.into_array-values.result)

pub byte_encode-requires-clause-in_field : goal.byte_encode-requires-clause-in_field
byte_encode-requires-clause-in_field c =
    All-same (λ x. x < 3329) _ _ c.compress_each.ensures (All-compressed-below c.args.d c.into_array-values.result c.requires.narrow)

pub returns : goal.returns
unfolding compressed
returns c =
    c.byte_encode.ensures ∙ ap (groups c.args.d) (c.compress_each.ensures ∙ ap (map (compress c.args.d)) c.into_array-values.ensures.value)
