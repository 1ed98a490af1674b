use Rattle.std.proofs.Common.{◌++◌, [], ◌∷◌, map, sym, subst, append_assoc}
use Rattle.std.specs.Str.{IsUtf8}
use Rattle.bech32_long.specs.Groups.{groups}
use Rattle.bech32_long.specs.Checksum.{checksum}
use Rattle.bech32_long.specs.Text.{character, spelling}
use Rattle.bech32_long.proofs.Texts.{encoding-utf8}
use Rattle.bech32_long.proofs.code.encode_to_slice.Goals as goal

pub returns-clause-value : goal.returns-clause-value
unfolding spelling
returns-clause-value c =
    rw (c.write_front.ensures, c.write_data.ensures, c.as_bytes-part.ensures.value)
    (append_assoc c.args.hrp.now (49 ∷ []) (map character (groups c.args.bytes.now ++ checksum c.args.hrp.now (groups c.args.bytes.now))))

pub returns-clause-text : goal.returns-clause-text
returns-clause-text c =
    subst IsUtf8 (sym (returns-clause-value c))
    (encoding-utf8 c.args.hrp.now c.args.bytes.now (rw c.as_bytes-part.ensures.value at c.as_bytes-part.ensures.part))
