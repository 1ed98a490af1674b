use Rattle.mail_commands.proofs.SealInputs.{one_key, one_info, one_source, one_message_list}
use Rattle.mail_commands.proofs.laws.one_seal_input.Goals as goal

pub returns-clause-key : goal.returns-clause-key
returns-clause-key c = λ size text key info source other messages info_of source_of messages_of h k. one_key size text key info source other info_of source_of messages messages_of h k

pub returns-clause-info : goal.returns-clause-info
returns-clause-info c = λ size text key info source other messages key_of source_of messages_of h k. one_info size text key info source key_of other source_of messages messages_of h k

pub returns-clause-source : goal.returns-clause-source
returns-clause-source c = λ size text key info source other messages key_of info_of messages_of h k. one_source size text key info source key_of info_of other messages messages_of h k

pub returns-clause-messages : goal.returns-clause-messages
returns-clause-messages c = λ size text key info source messages other key_of info_of source_of h k. one_message_list size text key info source key_of info_of source_of messages other h k
