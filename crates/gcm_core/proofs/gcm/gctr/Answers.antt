use Rattle.std.proofs.Common.{◌*◌, ◌/◌, length, arith}
use Rattle.gcm_core.specs.Aes.{cipher}
use Rattle.gcm_core.specs.Gcm.{gctr}
use Rattle.gcm_core.proofs.Stream.{gctr_blocks-whole}
use Rattle.gcm_core.proofs.gcm.gctr.Goals as goal

pub returns : goal.returns
unfolding gctr
returns c =
    gctr_blocks-whole (cipher c.args.round_keys.now) (length c.args.text.now / 64 * 64) c.args.icb c.gctr_fours.new.counter c.args.text.now _ _ _ _ (omega arith) (omega arith)
    c.«split_at_mut-fours».ensures.front c.«split_at_mut-fours».ensures.back c.gctr_fours.ensures.text c.gctr_fours.ensures.counter c.gctr_rest.ensures
