use Rattle.std.proofs.Common.{◌<◌, ap, ◌∙◌, map}
use Rattle.std.proofs.lemmas.List.Elements.{All-same}
use Rattle.ml_kem.specs.Encryption.{decompressed}
use Rattle.ml_kem.specs.Rounding.{decompress}
use Rattle.ml_kem.proofs.Rounded.{All-decompressed, width-fits}
use Rattle.ml_kem.proofs.rounding.read_decompressed.Goals as goal

pub byte_decode-requires-clause-unit : goal.byte_decode-requires-clause-unit
byte_decode-requires-clause-unit c = (width-fits c.args.d c.requires.positive c.requires.narrow).unit

pub byte_decode-requires-clause-width : goal.byte_decode-requires-clause-width
byte_decode-requires-clause-width c = (width-fits c.args.d c.requires.positive c.requires.narrow).width

pub new-requires : goal.new-requires
new-requires c = All-same (λ x. x < 3329) _ _ c.decompress_each.ensures
    (All-decompressed c.args.d c.byte_decode.new.out c.requires.narrow c.byte_decode.ensures.in_width)

pub returns : goal.returns
unfolding decompressed
returns c = c.new.ensures ∙ c.decompress_each.ensures ∙ ap (map (decompress c.args.d)) c.byte_decode.ensures.value
