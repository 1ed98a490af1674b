use Rattle.std.proofs.Common.{◌≡◌, [], map, length}
use Rattle.age_format.specs.private.Parse.{words_from}
use Rattle.age_format.proofs.parse.words_at.Given as goal

-- the words so far and those of what is left are those of the text
abbrev pub invariant-loop-behind : goal.invariant-loop-behind
invariant-loop-behind l = words_from [] (map (λ word. word.now) l.words.items) l.rest ≡ words_from [] [] l.text

abbrev pub decreases-loop-behind : goal.decreases-loop-behind
decreases-loop-behind l = length l.rest
