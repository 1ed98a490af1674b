use Rattle.std.proofs.Common.{◌≡◌, ◌⊎◌, List, ℕ, ◌*◌, ◌^◌, ◌<◌, ◌≤◌, ap, sym, ◌∙◌, inl, inr, map}
use Rattle.std.proofs.lemmas.List.Elements.{All-same}
use Rattle.module_lattice.specs.Groups.{decode12, reduced_once, ungroup}
use Rattle.module_lattice.proofs.Encoding.{All-decoded, decoded-12, decoded-other}
use Rattle.module_lattice.proofs.Regrouping.{All-regroup}
use Rattle.module_lattice.proofs.Units.{All-narrow, All-reduced, width-narrow}
use Rattle.module_lattice.proofs.packing.byte_decode.Goals as goal

pub unpack-requires-clause-narrow : goal.unpack-requires-clause-narrow
unpack-requires-clause-narrow g c = width-narrow g.F.Field.Q c.args.d g.met.F.Field.sums_fit c.requires.width

pub returns-then-d-eq-REDUCED_WIDTH-clause-value : goal.returns-then-d-eq-REDUCED_WIDTH-clause-value
unfolding decode12
returns-then-d-eq-REDUCED_WIDTH-clause-value g c =
    c.reduce_once.ensures
    ∙ ap (map (reduced_once g.F.Field.Q)) (c.unpack.ensures ∙ ap (λ (d : ℕ). ungroup d c.args.bytes.now) c.if-d-eq-REDUCED_WIDTH.true)
    ∙ sym (decoded-12 g.F.Field.Q c.args.d c.args.bytes.now c.if-d-eq-REDUCED_WIDTH.true)

pub returns-else-d-eq-REDUCED_WIDTH-clause-value : goal.returns-else-d-eq-REDUCED_WIDTH-clause-value
returns-else-d-eq-REDUCED_WIDTH-clause-value g c =
    c.unpack.ensures ∙ sym (decoded-other g.F.Field.Q c.args.d c.args.bytes.now c.if-d-eq-REDUCED_WIDTH.false)

pub returns-then-d-eq-REDUCED_WIDTH-clause-in_width : goal.returns-then-d-eq-REDUCED_WIDTH-clause-in_width
returns-then-d-eq-REDUCED_WIDTH-clause-in_width g c =
    All-same (λ x. x < 2 ^ c.args.d) _ _ (returns-then-d-eq-REDUCED_WIDTH-clause-value g c) (All-decoded g.F.Field.Q c.args.d c.args.bytes.now)

pub returns-else-d-eq-REDUCED_WIDTH-clause-in_width : goal.returns-else-d-eq-REDUCED_WIDTH-clause-in_width
returns-else-d-eq-REDUCED_WIDTH-clause-in_width g c =
    All-same (λ x. x < 2 ^ c.args.d) _ _ (returns-else-d-eq-REDUCED_WIDTH-clause-value g c) (All-decoded g.F.Field.Q c.args.d c.args.bytes.now)

pub returns-then-d-eq-REDUCED_WIDTH-clause-in_field :
    goal.returns-then-d-eq-REDUCED_WIDTH-clause-in_field
unfolding ungroup
returns-then-d-eq-REDUCED_WIDTH-clause-in_field g c =
    let q : ℕ = g.F.Field.Q in
    let twelve : c.args.d ≡ 12 = c.if-d-eq-REDUCED_WIDTH.true in
    let bytes : List ℕ = c.args.bytes.now in
    let numbers : c.unpack.new.out ≡ ungroup 12 bytes = c.unpack.ensures ∙ ap (λ (d : ℕ). ungroup d bytes) {y = 12} twelve in
    let fits : (2 ^ 12 ≤ q) ⊎ (4096 ≤ 2 * q) = elim c.requires.width [
      | inl narrow ↦ inl (rw twelve at narrow)
      | inr wide ↦ inr wide.1
    ] in
    All-same (λ x. x < q) c.reduce_once.new.values (map (reduced_once q) (ungroup 12 bytes)) (c.reduce_once.ensures ∙ ap (map (reduced_once q)) numbers)
    (All-reduced q (ungroup 12 bytes) fits (All-regroup 8 12 bytes))

pub returns-else-d-eq-REDUCED_WIDTH-clause-in_field :
    goal.returns-else-d-eq-REDUCED_WIDTH-clause-in_field
unfolding ungroup
returns-else-d-eq-REDUCED_WIDTH-clause-in_field g c =
    let q : ℕ = g.F.Field.Q in
    let bytes : List ℕ = c.args.bytes.now in
    let fits : 2 ^ c.args.d ≤ q = elim c.requires.width [
      | inl narrow ↦ narrow
      | inr wide ↦ absurd (c.if-d-eq-REDUCED_WIDTH.false wide.0)
    ] in
    All-same (λ x. x < q) c.unpack.new.out (ungroup c.args.d bytes) c.unpack.ensures
    (All-narrow q c.args.d (ungroup c.args.d bytes) fits (All-regroup 8 c.args.d bytes))
