-- The clauses of the rules, each by its name and in a sentence.
use Rattle.std.specs.Prelude.{ℕ, List, codes}
use Rattle.check_telling.specs.declared.Clause.{Clause}
use Rattle.check_telling.specs.declared.Clause.TheVariants as clause

-- the name of a clause, and the clause in a sentence
abbrev pub clause_words : Clause → List ℕ
clause_words clause.OfItsOperation = codes "OfItsOperation: a row has an outcome of its own operation"
clause_words clause.AtItsTick = codes "AtItsTick: what is decided at a row's arrival, or never, carries the row's own tick"
clause_words clause.NewestBytes = codes "NewestBytes: a read that is answered has its line's newest bytes, of writes accepted before it"
clause_words clause.Room = codes "Room: as a row comes, no bank holds more than it may, and two writes of a line stand only where the older is in flight"
clause_words clause.FullWhereFull = codes "FullWhereFull: a write is refused as full only where its bank's queue is full"
clause_words clause.FullWhereAlone = codes "FullWhereAlone: a write is full only where it finds none of its line to merge with"
clause_words clause.MergedIntoNext = codes "MergedIntoNext: a merged write carries the tick of the next accepted write of its line"
clause_words clause.Forwarded = codes "Forwarded: a read is forwarded where the queue gives every byte of its line"
clause_words clause.ForwardedOnly = codes "ForwardedOnly: a read is forwarded only there, or where its line is at the head of the queue"
clause_words clause.Busy = codes "Busy: another read is busy where as many wait as may"
clause_words clause.BusyOnly = codes "BusyOnly: a read is busy only where as many wait as may"
clause_words clause.WornBehindWorn = codes "WornBehindWorn: behind a worn row every write of its bank is worn"
clause_words clause.StoredBeforeWorn = codes "StoredBeforeWorn: no write is stored at a worn row's tick or later"
clause_words clause.NotTooEarly = codes "NotTooEarly: no read or write ends before it can"
clause_words clause.NotTooLate = codes "NotTooLate: reads and writes end by their bounds"
clause_words clause.ReadBeforeCut = codes "ReadBeforeCut: a read that still waits at a cut is lost"
clause_words clause.LostAtCut = codes "LostAtCut: a read is lost at the first cut behind it"
clause_words clause.LostInTime = codes "LostInTime: a read is lost only before its time is up"
clause_words clause.Apart = codes "Apart: a bank does one action at a time, and serves its reads in their order"
