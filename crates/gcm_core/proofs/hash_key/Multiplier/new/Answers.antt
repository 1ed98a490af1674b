use Rattle.std.proofs.Common.{◌≡◌, ap, ◌∙◌, arith, inl, inr}
use Rattle.std.proofs.lemmas.Bool.{cases_lt}
use Rattle.gcm_core.specs.Ghash.{block_product}
use Rattle.gcm_core.specs.private.Rows.{byte_of}
use Rattle.gcm_core.proofs.hash_key.Multiplier.new.Goals as goal

pub loop-place-init : goal.loop-place-init
loop-place-init c = λ b other l m. absurd (omega arith)

pub loop-place-preserved : goal.loop-place-preserved
loop-place-preserved c = λ b other l m. elim (cases_lt other c.loop-place.place) [
  | inl lt ↦ c.write_column.ensures.others b other l lt ∙ c.loop-place.invariant b other l lt
  | inr ge ↦
      let is : other ≡ c.loop-place.place = omega arith in
      rw is (c.write_column.ensures.written b l ∙ ap (byte_of b) (c.byte_times.ensures ∙ ap (λ a. block_product a c.args.by) c.factor.ensures.value))
]

pub invariant_of-result : goal.invariant_of-result
invariant_of-result c = (λ b place l m. c.loop-place.invariant b place l (omega arith), c.ranges.by.fits)

pub returns-clause-within : goal.returns-clause-within
returns-clause-within c = c.ranges.by.fits
