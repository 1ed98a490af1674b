use Rattle.std.proofs.Common.{refl}
use Rattle.rand_core.specs.Stream.{next_u32, fill_bytes}
use Rattle.rand_core.specs.Steps.{stream_of, word_bytes}
use Rattle.base64.specs.Rfc4648.{encode_symbols}
use Rattle.age_send.specs.Grease.{drawn_grease, drawn_string, drawn_arguments, drawn_body, drawn_list, drawn_number}
use Rattle.age_send.specs.Sending.{drawn_roll, sent_text, text_behind}
use Rattle.age_send.proofs.laws.worked_sends.Goals as goal

pub returns-clause-bare : goal.returns-clause-bare
unfolding drawn_grease drawn_string drawn_arguments drawn_body drawn_list drawn_number next_u32 fill_bytes stream_of word_bytes encode_symbols drawn_roll sent_text text_behind
returns-clause-bare c = refl

pub returns-clause-greased : goal.returns-clause-greased
unfolding drawn_grease drawn_string drawn_arguments drawn_body drawn_list drawn_number next_u32 fill_bytes stream_of word_bytes encode_symbols drawn_roll sent_text text_behind
returns-clause-greased c = refl

pub returns-clause-rest : goal.returns-clause-rest
unfolding drawn_grease drawn_string drawn_arguments drawn_body drawn_list drawn_number next_u32 fill_bytes stream_of word_bytes encode_symbols drawn_roll sent_text text_behind
returns-clause-rest c = refl
