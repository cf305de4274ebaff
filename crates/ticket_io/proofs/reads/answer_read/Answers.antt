-- The bytes of a read are taken line by line.
use Rattle.ticket_io.specs.Reading.{some}
use Rattle.ticket_io.proofs.reads.answer_read.Goals as goal

pub returns-in-Some-clause-read_answered : goal.returns-in-Some-clause-read_answered
returns-in-Some-clause-read_answered g c = some c.in-Some.count c.in-Some.is (rw c.in-Some.is at c.in-Some.count-test).1 c.chunk.ensures.chunked
