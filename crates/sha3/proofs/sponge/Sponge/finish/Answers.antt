use Rattle.std.proofs.Common.{◌≡◌, ℕ, List, ◌∷◌, ◌++◌, ◌-◌, length, take, drop, replicate, set, get_or, arith, ◌∙◌, ap, refl}
use Rattle.std.proofs.lemmas.List.{length-take-le}
use Rattle.std.specs.Prelude.{bit_xor}
use Rattle.sha3.specs.Pieces.{Absorbs, Held}
use Rattle.sha3.proofs.Padding.{absorbed_whole-is, padded-block, rest-of-zeros}
use Rattle.sha3.proofs.sponge.Sponge.finish.Goals as goal

pub returns : goal.returns
returns g c = λ suffix m of is.
    let held : Held = record { state = c.self.inside.state; buffer = c.self.inside.buffer; len = c.self.inside.len } in
    let was : Absorbs g.row.RATE held m = rw c.self.view_is is in
    let front : List ℕ = take c.self.inside.len c.self.inside.buffer in
    let size : length front ≡ c.self.inside.len = length-take-le c.self.inside.len c.self.inside.buffer (omega arith) in
    let same : c.copy_from_slice.new.self ≡ front = c.copy_from_slice.ensures.after in
    let behind : drop c.self.inside.len (replicate 168 0) ≡ 0 ∷ replicate (167 - c.self.inside.len) 0 = rest-of-zeros c.self.inside.len (omega arith) in
    let base : c.copy_from_slice.new.self ++ drop c.self.inside.len (replicate 168 0) ≡ front ++ 0 ∷ replicate (167 - c.self.inside.len) 0 =
    ap (λ (b : List ℕ). b ++ drop c.self.inside.len (replicate 168 0)) same ∙ ap (λ (b : List ℕ). front ++ b) behind in
    let whole = padded-block g.row.RATE c.self.inside.len c.args.domain front (replicate (167 - c.self.inside.len) 0) _ size (omega arith) (omega arith) refl
    (ap (λ (b : List ℕ). set (set b c.self.inside.len c.args.domain) (g.row.RATE - 1) (bit_xor (get_or (set b c.self.inside.len c.args.domain) (g.row.RATE - 1) 0) 128)) base) in
    c.absorb.ensures ∙ absorbed_whole-is g.row.RATE c.args.domain suffix m _ held of was (omega arith) whole
