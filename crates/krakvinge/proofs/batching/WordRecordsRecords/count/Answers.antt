-- A record for each seven words.
use Rattle.std.proofs.Common.{sym}
use Rattle.krakvinge.proofs.Laws.Records.{records_length}
use Rattle.krakvinge.proofs.batching.WordRecordsRecords.count.Goals as goal

pub returns : goal.returns
returns c = sym (records_length c.args.self.now.words.now)
