use Rattle.shared_packet.proofs.RtpLemmas.{reads_rtp, number_read, payload_read, readdressed_read, faulty}
use Rattle.shared_packet.proofs.laws.says_as_the_grammar.Goals as goal

pub returns-clause-packet : goal.returns-clause-packet
returns-clause-packet c = λ d p reads. record {
  is_packet = reads_rtp d p reads;
  number = number_read d p reads;
  octets = payload_read d p reads;
  under = λ ssrc number. readdressed_read d p ssrc number reads;
}

pub returns-clause-refused : goal.returns-clause-refused
returns-clause-refused c = λ d fault has. faulty d fault has
