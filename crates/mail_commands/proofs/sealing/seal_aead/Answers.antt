use Rattle.rand_core.specs.Steps.{stream_of, steps_u32}
use Rattle.rand_core.specs.Stream.{fill_bytes}
use Rattle.rand_chacha.specs.ChaCha.{next_word}
use Rattle.mail_commands.specs.Command.{aead_algorithm, aead_seal}
use Rattle.generated_mail.specs.Made.{source_stream}
use Rattle.generated_mail.proofs.Sealed.{all_sealed}
use Rattle.mail_commands.specs.declared.command.AeadName.TheVariants.{Aes128, Aes256}
use Rattle.mail_commands.proofs.Sealings.{mail_ran}
use Rattle.mail_commands.proofs.sealing.seal_aead.Goals as goal

pub returns-in-Aes128 : goal.returns-in-Aes128
unfolding source_stream
returns-in-Aes128 g c =
    let sink = g.W.Sink in
    let set = g.P.ParameterSet.set in
    let family = g.H.KemHash.family in
    let kdf = g.D.Kdf.kdf in
    let input = c.args.input.now in
    let said = c.seal_mail.ensures in
    rw c.in-Aes128.is
    (mail_ran set family kdf (aead_algorithm Aes128) (aead_seal Aes128) c.args.key.now input.info.items input.source input.messages sink.got sink.faults sink.plan c.args.out.now c.seal_mail.new.out
    (stream_of (steps_u32 (next_word 10)) c.seal_mail.new.rng) (rw (c.deref.ensures.value, c.from_seed-rng.ensures) at said.untouched)
    (all_sealed set family kdf (aead_algorithm Aes128) c.args.key.now input.info.items (fill_bytes 32 (source_stream input.source)).0 input.messages c.requires)
    c.seal_mail.result (rw (c.deref.ensures.value, c.from_seed-rng.ensures) at said.sealed) said.has_key said.no_key)

pub returns-in-Aes256 : goal.returns-in-Aes256
unfolding source_stream
returns-in-Aes256 g c =
    let sink = g.W.Sink in
    let set = g.P.ParameterSet.set in
    let family = g.H.KemHash.family in
    let kdf = g.D.Kdf.kdf in
    let input = c.args.input.now in
    let said = c.seal_mail-in-Aes256.ensures in
    rw c.in-Aes256.is
    (mail_ran set family kdf (aead_algorithm Aes256) (aead_seal Aes256) c.args.key.now input.info.items input.source input.messages sink.got sink.faults sink.plan c.args.out.now c.seal_mail-in-Aes256.new.out
    (stream_of (steps_u32 (next_word 10)) c.seal_mail-in-Aes256.new.rng) (rw (c.deref-in-Aes256.ensures.value, c.from_seed-rng.ensures) at said.untouched)
    (all_sealed set family kdf (aead_algorithm Aes256) c.args.key.now input.info.items (fill_bytes 32 (source_stream input.source)).0 input.messages c.requires)
    c.seal_mail-in-Aes256.result (rw (c.deref-in-Aes256.ensures.value, c.from_seed-rng.ensures) at said.sealed) said.has_key said.no_key)
