use Rattle.program_calls.proofs.Written.{writes-as}
use Rattle.stream_top.proofs.Telling.{usage_line, line_of_trace, read_line, write_line, too_long_line, memory_line}
use Rattle.stream_top.proofs.fault.tell.Goals as goal

pub returns-in-Usage : goal.returns-in-Usage
returns-in-Usage g c =
    writes-as c.write_all.result _ _ _ (usage_line c.args.fault c.in-Usage.is) (record { ok = c.write_all.ensures.ok; prefix = c.write_all.ensures.prefix; fault = c.write_all.ensures.fault; never_falls = c.write_all.ensures.never_falls })

pub returns-in-Trace : goal.returns-in-Trace
returns-in-Trace g c = writes-as c.tell_trace.result _ _ _ (line_of_trace c.args.fault _ c.in-Trace.is) c.tell_trace.ensures

pub returns-in-Read : goal.returns-in-Read
returns-in-Read g c =
    writes-as c.write_all-in-Read.result _ _ _ (read_line c.args.fault c.in-Read.is) (record { ok = c.write_all-in-Read.ensures.ok; prefix = c.write_all-in-Read.ensures.prefix; fault = c.write_all-in-Read.ensures.fault; never_falls = c.write_all-in-Read.ensures.never_falls })

pub returns-in-Write : goal.returns-in-Write
returns-in-Write g c =
    writes-as c.write_all-in-Write.result _ _ _ (write_line c.args.fault c.in-Write.is) (record { ok = c.write_all-in-Write.ensures.ok; prefix = c.write_all-in-Write.ensures.prefix; fault = c.write_all-in-Write.ensures.fault; never_falls = c.write_all-in-Write.ensures.never_falls })

pub returns-in-TooLong : goal.returns-in-TooLong
returns-in-TooLong g c =
    writes-as c.write_all-in-TooLong.result _ _ _ (too_long_line c.args.fault c.in-TooLong.is) (record { ok = c.write_all-in-TooLong.ensures.ok; prefix = c.write_all-in-TooLong.ensures.prefix; fault = c.write_all-in-TooLong.ensures.fault; never_falls = c.write_all-in-TooLong.ensures.never_falls })

pub returns-in-NoMemory : goal.returns-in-NoMemory
returns-in-NoMemory g c =
    writes-as c.write_all-in-NoMemory.result _ _ _ (memory_line c.args.fault c.in-NoMemory.is) (record { ok = c.write_all-in-NoMemory.ensures.ok; prefix = c.write_all-in-NoMemory.ensures.prefix; fault = c.write_all-in-NoMemory.ensures.fault; never_falls = c.write_all-in-NoMemory.ensures.never_falls })
