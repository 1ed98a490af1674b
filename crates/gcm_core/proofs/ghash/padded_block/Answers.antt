use Rattle.std.proofs.Common.{◌≡◌, ℕ, ◌-◌, List, ◌++◌, length, take, drop, replicate, arith, ap, ◌∙◌, length-drop}
use Rattle.std.proofs.lemmas.List.{drop-replicate, take_rest}
use Rattle.gcm_core.proofs.Hash.{padded-block, padded-whole}
use Rattle.gcm_core.proofs.ghash.padded_block.Goals as goal

pub returns-then-rest-ge-BLOCK_LEN : goal.returns-then-rest-ge-BLOCK_LEN
returns-then-rest-ge-BLOCK_LEN c =
    let d : List ℕ = c.args.bytes.now in
    let start : ℕ = c.args.start in
    padded-whole d _ start (omega (arith, length-drop start d)) (ap (take 16) (take_rest d start))

pub returns : goal.returns
returns c =
    let d : List ℕ = c.args.bytes.now in
    let start : ℕ = c.args.start in
    let rest : take (length d - start) (drop start d) ≡ drop start d = take_rest d start in
    let count : ℕ = length (take (length d - start) (drop start d)) in
    let short : count ≡ length d - start = ap length rest ∙ length-drop start d in
    let copied : List ℕ = c.copy_from_slice.new.self in
    let front : copied ≡ drop start d = c.copy_from_slice.ensures.after ∙ rest in
    let block : List ℕ = replicate 16 0 in
    padded-block d (copied ++ drop count block) start count (omega arith) (omega arith) short (omega arith)
    (ap (λ (x : List ℕ). x ++ drop count block) front ∙ ap (λ (x : List ℕ). drop start d ++ x) (drop-replicate count 16 0))
