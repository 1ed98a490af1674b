use Rattle.std.proofs.Common.{◌≡◌, refl, arith, ◌∙◌, ◌+◌, ◌-◌, ◌++◌, ap, sym, List, ℕ, take, drop, length, length-drop}
use Rattle.std.proofs.lemmas.List.{drop-take, take-take, take_at, length-take-le}
use Rattle.sha3.specs.Pieces.{Left, Squeezes}
use Rattle.sha3.specs.Sponge.{output}
use Rattle.sha3.proofs.Squeezing.{Squeezes-more, output-more}
use Rattle.sha3.proofs.squeeze.Squeezer.give.Goals as goal

pub returns-clause-output : goal.returns-clause-output
returns-clause-output g c = λ from given is.
    let old : Left = record { state = c.self.inside.state; block = take g.row.RATE c.self.inside.block; gone = c.self.inside.gone } in
    let was : Squeezes g.row.RATE from old given = rw c.self.view_is is in
    let r : ℕ = c.min-count.result in
    let gone : ℕ = c.self.inside.gone in
    let left : ℕ = g.row.RATE - gone in
    let behind : List ℕ = drop gone c.self.inside.block in
    let all : g.row.RATE ≡ gone + left = omega arith in
    let of_block : take r (drop gone (take g.row.RATE c.self.inside.block)) ≡ take r behind =
    ap (λ (n : ℕ). take r (drop gone (take n c.self.inside.block))) all ∙ ap (take r) (drop-take gone left c.self.inside.block)
    ∙ take-take r left behind (omega arith) in
    let count : gone + r - gone ≡ r = omega arith in
    let same : c.copy_from_slice.new.self ≡ take r behind = c.copy_from_slice.ensures.after ∙ ap (λ (n : ℕ). take n behind) count in
    let size : length c.copy_from_slice.new.self ≡ r = ap length same ∙ length-take-le r behind (omega (arith, length-drop gone c.self.inside.block, c.self.told)) in
    output-more g.row.RATE from old given r was (omega arith) (omega arith) (omega arith)
    ∙ ap (λ (x : List ℕ). output g.row.RATE from given ++ x)
    (of_block ∙ sym same ∙ sym (take_at c.copy_from_slice.new.self (drop r c.args.out.now) r size))

pub returns-clause-given : goal.returns-clause-given
returns-clause-given g c = λ from given is.
    let old : Left = record { state = c.self.inside.state; block = take g.row.RATE c.self.inside.block; gone = c.self.inside.gone } in
    let was : Squeezes g.row.RATE from old given = rw c.self.view_is is in
    Squeezes-more g.row.RATE old _ from given c.min-count.result was (omega arith) refl refl refl
