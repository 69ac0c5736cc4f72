-- `crmf::recognise::common::rdn_sequence` meets its contract. The loop's invariant: the bytes are RDNs if those that are left are. Assumes nothing.
use Prim.Native.Nat.{◌≤◌}
use lib.ListN.{length}
use Rattle.crmf.specs.meaning.Notation.{RdnSequence}
use Rattle.crmf.specs.steps.grammar.Lines.{start}
use Rattle.crmf.specs.steps.recognise.Inner.{RowlessFrom}
use Rattle.crmf.proofs.recognise.common.rdn_sequence.Given as goal

abbrev pub invariant-loop-rest : goal.invariant-loop-rest
invariant-loop-rest l = (length l.rest ≤ length l.bytes) × (RowlessFrom (start RdnSequence) 3 l.rest → RowlessFrom (start RdnSequence) 3 l.bytes)

abbrev pub decreases-loop-rest : goal.decreases-loop-rest
decreases-loop-rest l = length l.rest
