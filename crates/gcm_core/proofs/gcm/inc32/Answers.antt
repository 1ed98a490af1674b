use Rattle.std.proofs.Common.{◌∙◌, arith}
use Rattle.gcm_core.proofs.Stream.{inc32_written}
use Rattle.gcm_core.proofs.gcm.inc32.Goals as goal

pub returns : goal.returns
returns c =
    inc32_written c.args.block.now c.copy_from_slice.new.self c.from_be_bytes-count.result (omega arith) c.from_be_bytes-count.ensures
    (c.copy_from_slice.ensures.after ∙ c.to_be_bytes.ensures)
