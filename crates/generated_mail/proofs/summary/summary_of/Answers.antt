use Rattle.std.proofs.Common.{refl}
use Rattle.generated_mail.specs.Made.{source_stream}
use Rattle.generated_mail.proofs.summary.summary_of.Goals as goal

pub drawn_summary-requires-clause-drawn : goal.drawn_summary-requires-clause-drawn
unfolding source_stream
drawn_summary-requires-clause-drawn g c = rw (c.from_seed-rng.ensures, c.seed_of.ensures) refl
