use Rattle.std.proofs.Common.{◌≡◌, ℕ, List, [], ◌∷◌, ◌++◌, codes, None, refl, arith}
use Rattle.base64.specs.Engines.{standard_no_pad}
use Rattle.base64.specs.Rfc4648.{encode_symbols}
use Rattle.base64.specs.Decode.{groups_error, scan_steps}
use Rattle.base64.specs.GeneralPurpose.{decoded_of}
use Rattle.age_format.specs.Stanza.{Stanza, IsStanza, IsFront}
use Rattle.age_format.specs.Reading.{HasNoDone}
use Rattle.age_format.specs.private.Parse.{words_from, lines_from, stanza_behind, stanza_read}
use Rattle.age_format.specs.private.Scan.{scan, Whole}
use Rattle.age_format.specs.declared.scan.Place.TheVariants.{Start}
use Rattle.age_format.specs.declared.scan.Step.TheVariants.{To}
use Rattle.age_format.proofs.Stanzas.{standard_is, none_begins}
use Rattle.age_format.proofs.Scans.{whole_no_front}
use Rattle.age_format.proofs.laws.worked_readings.Goals as goal

done : Stanza
done = record { tag = codes "done"; args = []; body = [] }

no_done : (text : List ℕ) → stanza_read standard_no_pad text ≡ None → HasNoDone text text
no_done text none = record {
  stanzas = [];
  splits = record { whole = refl; each = tt; longest = none_begins standard_no_pad standard_is text none };
  none_done = tt;
}

done_is : IsStanza done
unfolding done
done_is = record { tag = ((λ e. absurd cc), ((omega arith, omega arith), ((omega arith, omega arith), ((omega arith, omega arith), ((omega arith, omega arith), tt))))); args = tt; body = λ i. omega arith }

-- `-> done` and its first line feed
cut : List ℕ
cut = codes "-> done" ++ 10 ∷ []

cut_front : IsFront cut
unfolding cut done encode_symbols
cut_front = (done, 10 ∷ [], done_is, (λ e. absurd cc), refl)

cut_is_none : stanza_read standard_no_pad cut ≡ None
unfolding cut words_from lines_from stanza_behind stanza_read
cut_is_none = refl

bad : List ℕ
bad = codes "-> x" ++ 10 ∷ codes "/" ++ 10 ∷ []

bad_is_none : stanza_read standard_no_pad bad ≡ None
unfolding bad words_from lines_from stanza_behind stanza_read decoded_of groups_error scan_steps
bad_is_none = refl

bad_is_whole : scan (To Start) bad ≡ Whole []
unfolding bad scan
bad_is_whole = refl

pub returns-clause-invalid_data : goal.returns-clause-invalid_data
unfolding bad
returns-clause-invalid_data c = (bad, no_done bad bad_is_none, whole_no_front bad [] bad_is_whole)

pub returns-clause-before_done : goal.returns-clause-before_done
unfolding done encode_symbols
returns-clause-before_done c = record {
  last = done;
  rest = [];
  whole = refl;
  each = tt;
  none_done = tt;
  last_is_stanza = done_is;
  last_is_done = refl;
}

pub returns-clause-unexpected_eof : goal.returns-clause-unexpected_eof
unfolding cut
returns-clause-unexpected_eof c = (cut, no_done cut cut_is_none, cut_front, omega arith)

pub returns-clause-too_much : goal.returns-clause-too_much
unfolding cut
returns-clause-too_much c = (cut, no_done cut cut_is_none, cut_front, omega arith)
