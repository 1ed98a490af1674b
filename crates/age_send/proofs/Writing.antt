-- One write after another: lemmas of the crate below, by this name too.
pub use Rattle.age_format.proofs.Writing.{part_front, part_then, writes_last, wrote_then}
