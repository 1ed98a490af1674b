use Rattle.std.proofs.Common.{◌≡◌, ℕ, ◌+◌, ◌*◌, ◌<◌, List, [], length, take, ap, sym, ◌∙◌, arith}
use Rattle.std.specs.Int.{div_ceil}
use Rattle.std.proofs.lemmas.List.{take_all}
use Rattle.hkdf_core.specs.Hmac.{hmac}
use Rattle.hkdf_core.specs.Hkdf.{output_block, output_blocks}
use Rattle.hkdf_core.proofs.Output.{block_begins_within, index_below, length-hmac, length-output_blocks, output_block_more, output_blocks_more, output_more, output_whole}
use Rattle.hkdf_core.proofs.derivation.Hkdf.fill.Goals as goal

pub loop-index-init : goal.loop-index-init
unfolding output_block output_blocks
loop-index-init g c = λ prk is_key.
    let none : 0 * g.T.HkdfHash.DIGEST_SIZE ≡ 0 = omega arith in
    (c.from_slice-previous.ensures, ap (λ (n : ℕ). take n c.args.out.now) none ∙ sym (take_all (length c.args.out.now) [] (omega arith)))

pub overflow_cast-index : goal.overflow_cast-index
overflow_cast-index g c =
    let size = g.T.HkdfHash.DIGEST_SIZE in
    let in_range = g.met.T.HkdfHash.digest_size_in_range in
    let is_count : c.div_ceil-count.result ≡ div_ceil (length c.args.out.now) size =
    c.div_ceil-count.ensures ∙ ap (div_ceil (length c.args.out.now)) c.DIGEST_SIZE.ensures in
    let begins : c.loop-index.index * size < length c.args.out.now =
    block_begins_within c.loop-index.index (length c.args.out.now) size (omega arith) (omega arith) in
    let below = index_below c.loop-index.index (length c.args.out.now) size 255 begins c.requires in
    omega arith

pub loop-index-preserved : goal.loop-index-preserved
loop-index-preserved g c = λ prk is_key.
    let size = g.T.HkdfHash.DIGEST_SIZE in
    let index = c.loop-index.index in
    let info = c.args.info.now in
    let mac = hmac g.T.HkdfHash.hash_of g.T.HkdfHash.BLOCK_SIZE prk in
    let in_range = g.met.T.HkdfHash.digest_size_in_range in
    let mac_size : (text : List ℕ) → length (mac text) ≡ size =
    λ text. length-hmac g.T.HkdfHash.hash_of g.T.HkdfHash.BLOCK_SIZE size prk text g.met.T.HkdfHash.digest_has_its_size in
    let is_count : c.div_ceil-count.result ≡ div_ceil (length c.args.out.now) size =
    c.div_ceil-count.ensures ∙ ap (div_ceil (length c.args.out.now)) c.DIGEST_SIZE.ensures in
    let begins : index * size < length c.args.out.now =
    block_begins_within index (length c.args.out.now) size (omega arith) (omega arith) in
    let before = c.loop-index.invariant prk is_key in
    let next : c.next_block-previous.result ≡ output_block mac info (index + 1) =
    c.next_block-previous.ensures prk is_key ∙ output_block_more mac info c.loop-index.previous index before.0 in
    let next_size : length (output_block mac info (index + 1)) ≡ size =
    ap length (sym next ∙ c.next_block-previous.ensures prk is_key) ∙ mac_size _ in
    let written = output_more c.loop-index.out c.write_at.new.out (output_blocks mac info index) (output_block mac info (index + 1))
    c.as_slice.result.now index size c.DIGEST_SIZE-in-loop-index.result c.DIGEST_SIZE-in-loop-index.ensures
    (c.as_slice.ensures ∙ next) (length-output_blocks mac info size index mac_size) next_size
    (omega arith) (omega arith) before.1 c.write_at.ensures in
    (next, written ∙ ap (take (length c.write_at.new.out)) (sym (output_blocks_more mac info index)))

pub returns : goal.returns
returns g c = λ prk is_key.
    let size = g.T.HkdfHash.DIGEST_SIZE in
    let mac = hmac g.T.HkdfHash.hash_of g.T.HkdfHash.BLOCK_SIZE prk in
    let in_range = g.met.T.HkdfHash.digest_size_in_range in
    let is_count : c.div_ceil-count.result ≡ div_ceil (length c.args.out.now) size =
    c.div_ceil-count.ensures ∙ ap (div_ceil (length c.args.out.now)) c.DIGEST_SIZE.ensures in
    output_whole (output_blocks mac c.args.info.now) c.loop-index.out c.loop-index.index (length c.args.out.now) size
    (length (g.T.HkdfHash.hash_of [])) (omega arith) (sym (g.met.T.HkdfHash.digest_has_its_size []))
    (omega arith) (omega arith) (c.loop-index.invariant prk is_key).1
