use Rattle.std.proofs.Common.{arith}
use Rattle.stream_top.proofs.fault.StreamRunFault.status.Goals as goal

pub returns-in-Usage : goal.returns-in-Usage
returns-in-Usage c = grind arith

pub returns-in-Trace : goal.returns-in-Trace
returns-in-Trace c = grind arith

pub returns-in-Read : goal.returns-in-Read
returns-in-Read c = grind arith

pub returns-in-Write : goal.returns-in-Write
returns-in-Write c = grind arith

pub returns-in-TooLong : goal.returns-in-TooLong
returns-in-TooLong c = grind arith

pub returns-in-NoMemory : goal.returns-in-NoMemory
returns-in-NoMemory c = grind arith
