use Rattle.std.proofs.Common.{◌≡◌, ℕ, ◌*◌, List, Some, length, take, ◌++◌, ap, ap₂, ◌∙◌, arith, sym}
use Rattle.std.proofs.lemmas.Bool.{eqb-true}
use Rattle.std.proofs.lemmas.List.{length-take}
use Rattle.ml_kem.specs.Samples.{accepted}
use Rattle.ml_kem.proofs.Taken.{not-full, output-more, sample-full, sample-none}
use Rattle.ml_kem.proofs.sampling.sample_ntt.Goals as goal

pub loop-sampler-init : goal.loop-sampler-init
loop-sampler-init g c = record {
  taken = c.take_block.ensures ∙ ap₂ (λ (s b : List ℕ). take 256 (s ++ accepted b)) c.new-sampler.ensures c.xof_blocks.ensures;
  within = omega arith;
}

pub returns-then-n-eq-BLOCKS : goal.returns-then-n-eq-BLOCKS
returns-then-n-eq-BLOCKS g c =
    let x : List ℕ = g.H.KemHash.family.xof_of c.args.rho.now c.args.a c.args.b in
    let long = (g.met.H.KemHash.is_lawful.xof_is c.args.rho.now c.args.a c.args.b).size in
    let few = not-full c.loop-sampler.sampler (accepted (take (168 * c.loop-sampler.n) x)) c.loop-sampler.invariant.taken (sym c.is_full.ensures ∙ c.loop-sampler-test.true) in
    sym (sample-none x c.loop-sampler.sampler c.loop-sampler.n long (omega arith) c.loop-sampler.invariant.taken few)

pub xof_block-requires : goal.xof_block-requires
xof_block-requires g c = omega (arith, c.loop-sampler.invariant.within, c.if-n-eq-BLOCKS.false)

pub take_block-requires-in-loop-sampler-clause-within : goal.take_block-requires-in-loop-sampler-clause-within
take_block-requires-in-loop-sampler-clause-within g c =
    let x : List ℕ = g.H.KemHash.family.xof_of c.args.rho.now c.args.a c.args.b in
    omega (arith, ap length c.loop-sampler.invariant.taken, length-take 256 (accepted (take (168 * c.loop-sampler.n) x)))

pub loop-sampler-smaller : goal.loop-sampler-smaller
loop-sampler-smaller g c = omega (arith, c.loop-sampler.invariant.within, c.if-n-eq-BLOCKS.false)

pub loop-sampler-preserved : goal.loop-sampler-preserved
loop-sampler-preserved g c =
    let x : List ℕ = g.H.KemHash.family.xof_of c.args.rho.now c.args.a c.args.b in
    let long = (g.met.H.KemHash.is_lawful.xof_is c.args.rho.now c.args.a c.args.b).size in
    record {
      taken = output-more x c.loop-sampler.sampler c.take_block-in-loop-sampler.new.self c.loop-sampler.n long (omega (arith, c.loop-sampler.invariant.within, c.if-n-eq-BLOCKS.false)) c.loop-sampler.invariant.taken
          (c.take_block-in-loop-sampler.ensures ∙ ap (λ (b : List ℕ). take 256 (c.loop-sampler.sampler ++ accepted b)) c.xof_block.ensures);
      within = omega (arith, c.loop-sampler.invariant.within, c.if-n-eq-BLOCKS.false);
    }

pub returns : goal.returns
returns g c =
    let x : List ℕ = g.H.KemHash.family.xof_of c.args.rho.now c.args.a c.args.b in
    let long = (g.met.H.KemHash.is_lawful.xof_is c.args.rho.now c.args.a c.args.b).size in
    let full : length c.loop-sampler.sampler ≡ 256 = eqb-true (length c.loop-sampler.sampler) 256 (sym c.is_full.ensures ∙ c.loop-sampler-test.false) in
    ap Some c.into_polynomial.ensures ∙ sym (sample-full x c.loop-sampler.sampler c.loop-sampler.n long c.loop-sampler.invariant.within c.loop-sampler.invariant.taken full)
