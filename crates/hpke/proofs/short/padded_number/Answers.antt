use Rattle.std.proofs.Common.{◌≡◌, ◌-◌, ◌≤◌, replicate, arith, ◌∙◌}
use Rattle.std.proofs.lemmas.List.{take-replicate}
use Rattle.hpke.proofs.short.padded_number.Goals as goal

pub returns-clause-value : goal.returns-clause-value
returns-clause-value c =
    let within : c.args.len - 8 ≤ 129 = omega arith in
    let zeros : c.from_slice-padded.result ≡ replicate (c.args.len - 8) 0 =
    c.from_slice-padded.ensures ∙ take-replicate (c.args.len - 8) 129 0 within in
    c.append.ensures ∙ rw zeros (rw c.to_be_bytes.ensures)
