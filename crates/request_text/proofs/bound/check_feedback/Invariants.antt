use Rattle.std.specs.Prelude.{All}
use Rattle.rtcp_compound.specs.Left.{contents_left}
use Rattle.rtcp_feedback.specs.declared.fault.FbFault.{FbFault}
use Rattle.request_text.specs.Asked.{FailsFirst, IsReadable}
use Rattle.request_text.proofs.bound.check_feedback.Given as goal

abbrev pub invariant-loop-packet : goal.invariant-loop-packet
invariant-loop-packet l = record {
  readable : All IsReadable (contents_left l.packet-iterator) → All IsReadable (contents_left l.fn.packets);
  fails : (fault : FbFault) → FailsFirst (contents_left l.packet-iterator) fault → FailsFirst (contents_left l.fn.packets) fault;
}
