use Rattle.std.proofs.Common.{◌≡◌, ◌+◌, ◌*◌, ◌/◌, [], ◌∷◌, ◌++◌, List, ℕ, length, take, ap, subst, ◌∙◌, arith}
use Rattle.std.proofs.Math.ListN.{set}
use Rattle.std.proofs.lemmas.List.{take_more_set}
use Rattle.age_format.specs.Outside.{WritesWhole}
use Rattle.age_format.specs.Stanza.{base64}
use Rattle.age_send.proofs.Lines.{encoded_front}
use Rattle.age_send.proofs.write.write_line.Goals as goal

pub returns : goal.returns
returns g c =
    let sink = g.W.Sink in
    let bytes = c.args.bytes.now in
    let n = c.in-Ok.length in
    let out = c.encode_slice.new.output in
    let size : n ≡ (4 * length bytes + 2) / 3 = cc (c.in-Ok.ensures.fits (omega arith)) in
    let front : take n out ≡ base64 bytes = encoded_front bytes c.args.buffer.now out n c.in-Ok.ensures.written size in
    let line : take (n + 1) (set out n 10) ≡ base64 bytes ++ 10 ∷ [] = take_more_set out n 10 (omega arith) ∙ ap (λ (t : List ℕ). t ++ 10 ∷ []) front in
    subst (λ (t : List ℕ). WritesWhole sink.got sink.faults sink.plan c.args.sink.now c.write_whole.new.sink c.write_whole.result t) line c.write_whole.ensures
