-- What a source and a sink of bytes mean, and when a fault may be answered.
use Rattle.std.specs.Prelude.{◌≡◌, ◌≢◌, ℕ, ◌+◌, ◌<◌, ◌≤◌, min, Bool, List, [], ◌++◌, length, take, drop, Option, Some, IfSome, Result, MatchResult}

-- the last value of a count: it stands still there, at 2 ^ 64 - 1
abbrev pub last_count : ℕ
last_count = 18446744073709551615

-- one more, up to the last value
abbrev pub next_count : ℕ → ℕ
next_count n = min (n + 1) last_count

-- the count rose, or stands at its last value
abbrev pub Rose : ℕ → ℕ → Type 0
Rose before now = next_count before ≤ now

-- A read of n bytes: they are the front of the text, which loses them, and none of a buffer
-- that isn't empty only where the text is empty.
pub record Gave (text : List ℕ) (now : Option (List ℕ)) (n : ℕ) (buffer : List ℕ) : Type 0 where
  pub within : n ≤ length text
  pub front : take n buffer ≡ take n text
  pub rest : now ≡ Some (drop n text)
  pub ended : n ≡ 0 → 0 < length buffer → text ≡ []

-- where a source tells its bytes, it gave n of them
abbrev pub Gives : Option (List ℕ) → Option (List ℕ) → ℕ → List ℕ → Type 0
Gives before now n buffer = IfSome before (λ text. Gave text now n buffer)

-- where a sink tells what it got, it gained exactly this
abbrev pub Gains : Option (List ℕ) → Option (List ℕ) → List ℕ → Type 0
Gains before now output = IfSome before (λ got. now ≡ Some (got ++ output))

-- where a sink tells what it got, it gained a front of the output
abbrev pub GainsPart : Option (List ℕ) → Option (List ℕ) → List ℕ → Type 0
GainsPart before now output = IfSome before (λ got. (part : List ℕ) × (rest : List ℕ) × (output ≡ part ++ rest) × (now ≡ Some (got ++ part)))

-- where a sink tells what it got, it didn't gain the whole output
abbrev pub Lacks : Option (List ℕ) → Option (List ℕ) → List ℕ → Type 0
Lacks before now output = IfSome before (λ got. now ≢ Some (got ++ output))

-- To a sink, of which this is seen before and behind a call, exactly this output was written.
pub record Wrote {W : Type 0} (got : W → Option (List ℕ)) (faults : W → ℕ) (plan : W → List ℕ) (before now : W) (output : List ℕ) : Type 0 where
  pub gained : Gains (got before) (got now) output
  pub no_fault : faults now ≡ faults before
  pub same_plan : plan now ≡ plan before

-- A fault of the sink came, and a part of the output was written, from its front.
pub record WrotePart {W : Type 0} (got : W → Option (List ℕ)) (faults : W → ℕ) (plan : W → List ℕ) (before now : W) (output : List ℕ) : Type 0 where
  pub gained : GainsPart (got before) (got now) output
  pub fault : Rose (faults before) (faults now)
  pub no_fall : faults before ≤ faults now
  pub same_plan : plan now ≡ plan before

-- a call that writes the output: all of it, or a part of it where the sink failed
abbrev pub Writes : {W A E : Type 0} → (W → Option (List ℕ)) → (W → ℕ) → (W → List ℕ) → W → W → Result A E → List ℕ → Type 0
Writes got faults plan before now result output =
    MatchResult result (λ _. Wrote got faults plan before now output) (λ _. WrotePart got faults plan before now output)

-- A fault of the sink came, and a part of the output was written, from its front, which isn't the whole.
pub record WroteLess {W : Type 0} (got : W → Option (List ℕ)) (faults : W → ℕ) (plan : W → List ℕ) (before now : W) (output : List ℕ) : Type 0 where
  pub part : WrotePart got faults plan before now output
  pub lacks : Lacks (got before) (got now) output

-- a call that writes the output, and fails exactly where it didn't write the whole
abbrev pub WritesWhole : {W A E : Type 0} → (W → Option (List ℕ)) → (W → ℕ) → (W → List ℕ) → W → W → Result A E → List ℕ → Type 0
WritesWhole got faults plan before now result output =
    MatchResult result (λ _. Wrote got faults plan before now output) (λ _. WroteLess got faults plan before now output)

-- a source over memory: the bytes that are left, the most that a read gives, the numbers of the
-- reads that fail, and how many reads and faults there were
pub record MemoryLeft : Type 0 where
  pub left : List ℕ
  pub piece : ℕ
  pub fail_at : List ℕ
  pub reads : ℕ
  pub faults : ℕ

-- a sink over memory: the bytes that it got, how many it has memory for, the numbers of the writes
-- that fail, how many writes and faults there were, and whether a write ever found no memory
pub record MemoryGot : Type 0 where
  pub got : List ℕ
  pub capacity : ℕ
  pub fail_at : List ℕ
  pub writes : ℕ
  pub faults : ℕ
  pub ran_out : Bool
