use Rattle.trace_reader.proofs.Reading.{finds-next}
use Rattle.trace_reader.proofs.records.next_row.Goals as goal
use Rattle.csv.specs.Records.{fields_of}

pub returns-in-Ok-clause-found : goal.returns-in-Ok-clause-found
returns-in-Ok-clause-found c = λ rows h.
    finds-next c.in-Ok.found c.args.reader.now c.read_byte_record.new.self (fields_of c.read_byte_record.new.row) rows h
    (c.in-Ok.ensures.reads h.trim h.ready) (c.in-Ok.ensures.ready h.trim) c.in-Ok.ensures.flexible
