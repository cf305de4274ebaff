-- The seven words of the place.
use Rattle.std.proofs.Common.{arith, sym, ◌∙◌}
use Rattle.krakvinge.proofs.Laws.Records.{records_length, records_at}
use Rattle.krakvinge.proofs.batching.WordRecordsRecords.at.Goals as goal

pub record_in-requires : goal.record_in-requires
record_in-requires c = omega (arith, c.requires, records_length c.args.self.now.words.now)

pub returns : goal.returns
returns c =
    let row = c.args.self.now.words.now in
    c.record_in.ensures ∙ sym (records_at row c.args.i (omega (arith, c.requires, records_length row)))
