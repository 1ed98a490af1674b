use Rattle.std.proofs.Common.{◌≡◌, ℕ, List, [], ◌++◌, drop, ap, sym, subst, ◌∙◌, arith}
use Rattle.std.proofs.lemmas.List.{append-nil, nil_from_length}
use Rattle.age_format.specs.Receiving.{Took}
use Rattle.age_format.specs.private.Scan.{IsScannedTo}
use Rattle.age_format.proofs.Scans.{seen_longer}
use Rattle.age_format.proofs.reader.StanzaReader.read_piece.Goals as goal

nothing_behind : (now mid before bytes : List ℕ) → now ≡ mid ++ bytes → bytes ≡ [] → mid ≡ before → now ≡ before
nothing_behind now mid before bytes whole none same = whole ∙ (ap (λ (b : List ℕ). mid ++ b) none ∙ (append-nil mid ∙ same))

something_behind : (now mid before bytes : List ℕ) → now ≡ mid ++ bytes → mid ≡ before → now ≡ before ++ bytes
something_behind now mid before bytes whole same = whole ∙ ap (λ (b : List ℕ). b ++ bytes) same

pub returns-then-n-eq0-clause-unread : goal.returns-then-n-eq0-clause-unread
returns-then-n-eq0-clause-unread g c =
    let left = g.S.Source.left in
    let read = c.in_ok-n.ensures.read in
    let none : read.0 ≡ [] = nil_from_length read.0 (read.2 ∙ c.if-n-eq0.true) in
    let held = nothing_behind c.read_behind.new.buffer.items c.drop_front.new.buffer.items (drop c.self.inside.given c.self.inside.buffer.items) read.0 read.1 none c.drop_front.ensures in (
      ap (λ (b : List ℕ). record { bytes = b; budget = c.self.inside.budget }) held ∙ c.self.view_is,
      subst (λ (b : List ℕ). Took (left c.args.source.now) (left c.read_behind.new.source) b) none read.4,
    )

pub invariant_of-self-2 : goal.invariant_of-self-2
invariant_of-self-2 g c =
    let read = c.in_ok-n.ensures.read in
    let held = something_behind c.read_behind.new.buffer.items c.drop_front.new.buffer.items (drop c.self.inside.given c.self.inside.buffer.items) read.0 read.1 c.drop_front.ensures in
    let longer = seen_longer (drop c.self.inside.given c.self.inside.buffer.items) c.self.inside.scan.seen c.self.inside.scan.place c.self.invariant.seen_is read.0 in
    record {
      given_within = omega arith;
      engine_is = c.self.invariant.engine_is;
      seen_is = subst (λ (t : List ℕ). IsScannedTo t c.self.inside.scan.seen c.self.inside.scan.place) (sym held) longer;
    }
