use Rattle.std.proofs.Common.{refl, ap, ◌∙◌, arith, slice_index}
use Rattle.gcm_core.proofs.Sums.{byte-of-digits, column-written}
use Rattle.gcm_core.proofs.hash_key.write_column.Goals as goal

pub loop-b-init : goal.loop-b-init
loop-b-init c = (c.told-rows, λ i l. absurd (omega arith), λ i other l m. refl)

pub loop-b-preserved : goal.loop-b-preserved
loop-b-preserved c =
    column-written c.loop-b.rows c.args.rows.now c.loop-b.b c.args.place c.args.product _ (omega arith) c.requires c.loop-b.invariant.0 c.loop-b.invariant.1 c.loop-b.invariant.2
    (ap (λ l. slice_index l c.loop-b.b) c.«to_le_bytes-bytes».ensures ∙ byte-of-digits c.args.product c.loop-b.b (omega arith))

pub returns-clause-written : goal.returns-clause-written
returns-clause-written c = λ b l. c.loop-b.invariant.1 b (omega arith)

pub returns-clause-others : goal.returns-clause-others
returns-clause-others c = c.loop-b.invariant.2
