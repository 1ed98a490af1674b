use Rattle.std.proofs.Common.{rules}
use Rattle.age_primitives.proofs.file_key.FileKey.try_init_with_mut.Goals as goal

-- the closure's error stands beside what it left in the bytes
pub returns-in-Err : goal.returns-in-Err
returns-in-Err g c = (c.try_fill.new.bytes, search rules)
