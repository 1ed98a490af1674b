use Rattle.std.proofs.Common.{◌≡◌, ℕ, List, length, take, sym, ap, ◌∙◌, arith}
use Rattle.std.specs.Prelude.{bit_xor}
use Rattle.std.proofs.lemmas.List.{take_all}
use Rattle.std.proofs.lemmas.Simd.{put_chunk_whole, length-zip2}
use lib.Lanes.{zip2}
use Rattle.gcm_core.proofs.Stream.{zip2-xor_bytes}
use Rattle.gcm_core.proofs.gcm.xor_block.Goals as goal

pub returns : goal.returns
returns c =
    let t : List ℕ = c.args.text.now in
    let whole : take 16 t ≡ t = take_all 16 t (omega (arith, c.requires)) in
    let len : length (zip2 bit_xor (take 16 t) c.args.stream) ≡ 16 =
    length-zip2 bit_xor (take 16 t) c.args.stream (ap length whole ∙ c.requires ∙ sym c.fits-stream.0) ∙ ap length whole ∙ c.requires in
    put_chunk_whole t (zip2 bit_xor (take 16 t) c.args.stream) (c.requires ∙ sym len)
    ∙ ap (λ (x : List ℕ). zip2 bit_xor x c.args.stream) whole ∙ zip2-xor_bytes t c.args.stream
