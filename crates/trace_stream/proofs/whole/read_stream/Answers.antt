use Rattle.std.proofs.Common.{ap, ◌≡◌, ◌++◌, ◌∷◌, [], ◌∙◌, rules, arith}
use Rattle.std.{specs.Prelude.Err, proofs.lemmas.List.length-append, proofs.lemmas.Result.err_from_is_err_and}
use Rattle.trace_stream.{specs.declared.fault.StreamFault.TheVariants.Endless, proofs.Runs.{asked-all, asked-faulty, asked-first, asked-more}}
use Rattle.trace_stream.proofs.whole.read_stream.Goals as goal
use Rattle.pcm_io.proofs.ByteLemmas.{Takes-Takes}

pub rows-init : goal.rows-init
rows-init g c =
    let opened = c.in_ok-stream.ensures.ok in
    let begun = c.in_ok-stream.ensures.begun in
    record {
      asked = (opened.0, opened.1, rw c.new-all.ensures.items (asked-first g.row.B c.args.lines opened.0 c.in_ok-stream.stream opened.2));
      lines = begun.2;
      «end» = c.in_ok-stream.ensures.end;
      no_fault = c.in_ok-stream.ensures.no_fault (λ e. cc e);
    }

pub returns-in_err-stream-clause-fault : goal.returns-in_err-stream-clause-fault
returns-in_err-stream-clause-fault g c =
    let fault = err_from_is_err_and c.from_residual.result c.from_residual.ensures.1 in
    rw (fault.1, fault.2) (λ text.
    let first = c.in_err-stream.ensures.fault text in
    (first.0, first.1, first.2, first.3, (first.4 g.row.B).0))

pub returns-in_err-asked-clause-fault : goal.returns-in_err-asked-clause-fault
returns-in_err-asked-clause-fault g c =
    let fault = err_from_is_err_and c.from_residual-in_err-asked.result c.from_residual-in_err-asked.ensures.1 in
    let before = c.rows.invariant.asked in
    rw (fault.1, fault.2) (λ text.
    let next = c.in_err-asked.ensures.fault text in (
      before.0 ++ next.0,
      c.next.new.self.arrived.ended,
      Takes-Takes _ _ _ _ _ _ _ _ before.1 next.1,
      next.3 c.rows.invariant.end,
      asked-faulty g.row.B c.args.lines before.0 next.0 c.rows.all.items c.rows.stream c.in_err-asked.field-0.0 c.next.new.self.arrived.ended before.2 next.2 next.4,
    ))

pub rows-preserved : goal.rows-preserved
rows-preserved g c =
    let before = c.rows.invariant.asked in
    let next = c.in_ok-asked.ensures.ok in
    let asks = rw c.in-Some.is at next.3 in
    let pushed : c.push.new.self.items ≡ c.rows.all.items ++ (c.in-Some.asked ∷ []) = search rules in
    record {
      asked = (
        before.0 ++ next.0,
        Takes-Takes _ _ _ _ _ _ _ _ before.1 next.1,
        rw pushed (asked-more g.row.B c.args.lines before.0 next.0 c.rows.all.items c.in-Some.asked c.rows.stream c.next.new.self before.2 next.2 asks),
      );
      lines = c.in_ok-asked.ensures.lines ∙ c.rows.invariant.lines;
      «end» = c.in_ok-asked.ensures.end c.rows.invariant.end;
      no_fault = c.in_ok-asked.ensures.no_fault (λ e. cc e) ∙ c.rows.invariant.no_fault;
    }

pub returns-clause-ok : goal.returns-clause-ok
returns-clause-ok g c =
    let before = c.rows.invariant.asked in
    let next = c.in_ok-asked.ensures.ok in
    let asks = rw c.in_default.is at next.3 in (
      before.0 ++ next.0,
      Takes-Takes _ _ _ _ _ _ _ _ before.1 next.1,
      asked-all g.row.B c.args.lines before.0 next.0 c.rows.all.items c.rows.stream c.next.new.self before.2 next.2 asks,
    )

pub returns-clause-end : goal.returns-clause-end
returns-clause-end g c =
    let asks = rw c.in_default.is at c.in_ok-asked.ensures.ok.3 in
    c.in_ok-asked.ensures.end c.rows.invariant.end asks.1

pub returns-in_err-asked-clause-endless : goal.returns-in_err-asked-clause-endless
returns-in_err-asked-clause-endless g c =
    let fault = err_from_is_err_and c.from_residual-in_err-asked.result c.from_residual-in_err-asked.ensures.1 in
    let before = c.rows.invariant.asked in
    rw (fault.1, fault.2) (λ is.
    let same : c.in_err-asked.field-0.0 ≡ Endless = cc is in
    let next = c.in_err-asked.ensures.endless (ap Err same) in
    let joined = length-append before.0 next.0 in
    (before.0 ++ next.0, Takes-Takes _ _ _ _ _ _ _ _ before.1 next.1, omega (arith, joined, next.2)))
