use Rattle.std.proofs.Common.{refl}
use Rattle.rand_core.specs.Stream.{next_u32, fill_bytes}
use Rattle.rand_core.specs.Steps.{stream_of, word_bytes}
use Rattle.age_send.specs.Grease.{drawn_grease, drawn_string, drawn_arguments, drawn_body, drawn_list, drawn_number}
use Rattle.age_send.proofs.laws.worked_grease.Goals as goal

pub returns-clause-stanza : goal.returns-clause-stanza
unfolding drawn_grease drawn_string drawn_arguments drawn_body drawn_list drawn_number next_u32 fill_bytes stream_of word_bytes
returns-clause-stanza c = refl

pub returns-clause-rest : goal.returns-clause-rest
unfolding drawn_grease drawn_string drawn_arguments drawn_body drawn_list drawn_number next_u32 fill_bytes stream_of word_bytes
returns-clause-rest c = refl
