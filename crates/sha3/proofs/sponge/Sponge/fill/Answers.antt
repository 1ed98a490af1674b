use Rattle.std.proofs.Common.{◌≡◌, ℕ, List, ◌++◌, ◌+◌, ◌-◌, ◌<◌, length, take, arith, ◌∙◌, ap, sym, refl}
use Rattle.std.proofs.lemmas.Slice.{take-put_mid}
use Rattle.std.proofs.lemmas.List.{length-take-le}
use Rattle.sha3.specs.Pieces.{Absorbs, Held}
use Rattle.sha3.proofs.Absorbing.{Absorbs-short, Absorbs-full}
use Rattle.sha3.proofs.sponge.Sponge.fill.Goals as goal
use borrow.Rule.Slice.PartMut.{put_mid}

pub returns-then-end-clause-taken : goal.returns-then-end-clause-taken
returns-then-end-clause-taken g c = λ m is.
    let count : ℕ = c.min-count.result in
    let old : Held = record { state = c.self.inside.state; buffer = c.self.inside.buffer; len = c.self.inside.len } in
    let was : Absorbs g.row.RATE old m = rw c.self.view_is is in
    let x : List ℕ = take count c.args.piece.now in
    let size : length x ≡ count = length-take-le count c.args.piece.now (omega arith) in
    let same : c.copy_from_slice.new.self ≡ x = c.copy_from_slice.ensures.after in
    let buffer : List ℕ = put_mid c.self.inside.len (c.self.inside.len + count - c.self.inside.len) c.self.inside.buffer c.copy_from_slice.new.self in
    let placed : take g.row.RATE buffer ≡ take c.self.inside.len c.self.inside.buffer ++ x =
    take-put_mid c.self.inside.len (c.self.inside.len + count - c.self.inside.len) c.self.inside.buffer c.copy_from_slice.new.self g.row.RATE
    (sym (ap (λ (ys : List ℕ). c.self.inside.len + length ys) same ∙ ap (λ (n : ℕ). c.self.inside.len + n) size ∙ c.if-end.true)) (omega arith)
    ∙ ap (λ (ys : List ℕ). take c.self.inside.len c.self.inside.buffer ++ ys) same in
    Absorbs-full g.row.RATE old _ m x (take g.row.RATE buffer) was (omega arith) (ap (λ (n : ℕ). c.self.inside.len + n) size ∙ c.if-end.true) placed
    c.absorb.ensures refl

pub returns-else-end-clause-taken : goal.returns-else-end-clause-taken
returns-else-end-clause-taken g c = λ m is.
    let count : ℕ = c.min-count.result in
    let old : Held = record { state = c.self.inside.state; buffer = c.self.inside.buffer; len = c.self.inside.len } in
    let was : Absorbs g.row.RATE old m = rw c.self.view_is is in
    let x : List ℕ = take count c.args.piece.now in
    let size : length x ≡ count = length-take-le count c.args.piece.now (omega arith) in
    let same : c.copy_from_slice.new.self ≡ x = c.copy_from_slice.ensures.after in
    let buffer : List ℕ = put_mid c.self.inside.len (c.self.inside.len + count - c.self.inside.len) c.self.inside.buffer c.copy_from_slice.new.self in
    let placed : take (c.self.inside.len + length x) buffer ≡ take c.self.inside.len c.self.inside.buffer ++ x =
    take-put_mid c.self.inside.len (c.self.inside.len + count - c.self.inside.len) c.self.inside.buffer c.copy_from_slice.new.self (c.self.inside.len + length x)
    (sym (ap (λ (ys : List ℕ). c.self.inside.len + length ys) same)) (omega arith)
    ∙ ap (λ (ys : List ℕ). take c.self.inside.len c.self.inside.buffer ++ ys) same in
    let short : c.self.inside.len + length x < g.row.RATE = omega (arith, size) in
    Absorbs-short g.row.RATE old _ m x was short refl (sym (ap (λ (n : ℕ). c.self.inside.len + n) size)) placed
