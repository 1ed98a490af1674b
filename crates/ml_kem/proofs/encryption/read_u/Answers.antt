use Rattle.std.proofs.Common.{◌≡◌, ℕ, ◌+◌, ◌-◌, ◌*◌, ◌++◌, ◌∷◌, [], List, take, drop, length, sym, ap, ◌∙◌, arith}
use Rattle.std.specs.List.{range_with_len}
use Rattle.std.proofs.lemmas.Simd.{map-map}
use Rattle.lattice_transform.specs.Transform.{transform}
use Rattle.ml_kem.specs.Encryption.{decompressed}
use Rattle.ml_kem.specs.Keys.{piece}
use Rattle.ml_kem.proofs.Building.{length-values, values-all, values-more}
use Rattle.ml_kem.proofs.encryption.read_u.Goals as goal

pub loop-i-preserved : goal.loop-i-preserved
loop-i-preserved c =
    let size : ℕ = 32 * c.args.d in
    let bytes : List ℕ = c.args.bytes.now in
    let i : ℕ = c.loop-i.i in
    let width : size * i + size - size * i ≡ size = omega arith in
    c.in_ok-push.ensures.items
    ∙ ap (λ y. c.loop-i.items.items ++ y ∷ [])
    (c.ntt.ensures ∙ ap transform (c.read_decompressed.ensures ∙ ap (λ (k : ℕ). decompressed c.args.d (take k (drop (size * i) bytes))) width))
    ∙ values-more (λ i. transform (decompressed c.args.d (piece size i bytes))) c.loop-i.items.items 0 i i (omega arith) c.loop-i.invariant

pub returns-clause-value : goal.returns-clause-value
returns-clause-value c =
    let polynomial : ℕ → List ℕ = λ i. decompressed c.args.d (piece (32 * c.args.d) i c.args.bytes.now) in
    c.new.ensures ∙ values-all (λ i. transform (polynomial i)) c.loop-i.items.items 0 c.loop-i.i c.args.count (omega arith) c.loop-i.invariant
    ∙ sym (map-map transform polynomial (range_with_len 0 c.args.count))

pub returns-clause-long : goal.returns-clause-long
returns-clause-long c =
    let polynomial : ℕ → List ℕ = λ i. decompressed c.args.d (piece (32 * c.args.d) i c.args.bytes.now) in
    ap length c.new.ensures ∙ length-values (λ i. transform (polynomial i)) c.loop-i.items.items 0 c.loop-i.i c.loop-i.invariant ∙ omega arith
