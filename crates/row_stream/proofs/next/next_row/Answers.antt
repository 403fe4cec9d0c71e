use Rattle.std.proofs.Common.{◌≡◌, Err, ap, inl, inr, refl}
use Rattle.trace_stream.specs.declared.fault.StreamFault.TheVariants as fault
use Rattle.row_stream.specs.Stepping.{TellsNoMore}
use Rattle.row_stream.proofs.next.next_row.Goals as goal

pub returns-in-Ok-next-clause-ok : goal.returns-in-Ok-next-clause-ok
returns-in-Ok-next-clause-ok g c =
    let e = c.in-Ok-next.ensures in
    record {
      bytes = e.ok.0;
      takes = e.ok.1;
      stays = e.ok.2;
      asks = e.ok.3;
      lawful = e.lawful;
      waits = e.waits;
      row = e.row;
      lines = e.lines;
      at_end = e.«end»;
      calm = e.no_fault (λ is. cc is);
    }

pub returns-in-Err-clause-err : goal.returns-in-Err-clause-err
returns-in-Err-clause-err g c =
    let e = c.in-Err.ensures in
    record {
      text = e.fault;
      fails = λ is. e.read (ap Err is);
      sparing = λ is. e.sparing (ap Err is);
      endless = λ is. e.endless (ap Err is);
      memory = λ is. e.memory (ap Err is);
      calm = λ other. e.no_fault (λ is. let same : c.in-Err.fault ≡ fault.Read = cc in other same);
    }

-- it was asked behind what was written
pub returns-in_default-clause-waits : goal.returns-in_default-clause-waits
returns-in_default-clause-waits g c = inl refl

pub returns-in-Ok-next-clause-waits : goal.returns-in-Ok-next-clause-waits
returns-in-Ok-next-clause-waits g c =
    let e = c.flush.ensures in
    let told : TellsNoMore c.args.out.now c.flush.new.self = record { rows = e.rows; told = e.told; snapshots = e.snapshots; prints = e.prints } in
    let asks = c.next.ensures.asks in
    inr (c.flush.new.self, told, c.in-Ok.ensures.ok, asks.0, asks.1, asks.2)

pub returns-in-Err-clause-waits : goal.returns-in-Err-clause-waits
returns-in-Err-clause-waits g c =
    let e = c.flush.ensures in
    let told : TellsNoMore c.args.out.now c.flush.new.self = record { rows = e.rows; told = e.told; snapshots = e.snapshots; prints = e.prints } in
    let asks = c.next.ensures.asks in
    inr (c.flush.new.self, told, c.in-Ok.ensures.ok, asks.0, asks.1, asks.2)
