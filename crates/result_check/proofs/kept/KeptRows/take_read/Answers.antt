use Rattle.std.proofs.Common.{◌≡◌, ◌∙◌, List, length, sym, ap, arith}
use Rattle.std.specs.Prelude.{slice_get}
use Rattle.check_verdict.specs.{Banks.facts_of, declared.lines.CheckedLine.CheckedLine}
use Rattle.trace_rows.specs.Rows.{asks_of}
use Rattle.result_check.proofs.{Keeping.is_settled, Taking.read_taken}
use Rattle.result_check.proofs.kept.KeptRows.take_read.Goals as goal
use Rattle.masked_bytes.proofs.Lists.{item-at}

pub returns-in-Some-clause-passes : goal.returns-in-Some-clause-passes
returns-in-Some-clause-passes g c = λ before after h.
    let x = c.args.grounds in
    let row = c.args.row in
    let old = c.args.self.now in
    let s = c.settle.new.self in
    let may = c.requires.may in
    let bank = is_settled x.banks.now row.tick row.line old.banks.items s.banks.items c.bank_of-number.result (facts_of c.bank.result.now) c.index.result.now
    may.listed may.exist c.bank_of-number.ensures c.settle.ensures.banks c.index.ensures c.bank.ensures in
    let long : length s.lines.items ≡ length old.lines.items = ap length c.settle.ensures.lines in
    let size = may.size in
    let within = may.listed in
    let there = ap (λ (xs : List (CheckedLine g.row.B)). slice_get xs row.line) (sym c.settle.ensures.lines) ∙ item-at s.lines.items row.line c.index-2.result.now (omega (arith, long, size, within)) c.index-2.ensures in
    read_taken x.rules.now x.banks.now x.keys.now before row.tick row.line c.args.outcome.now after
    old.banks.items s.banks.items s.banks.items old.joined s.joined old.lines.items s.lines.items row.room (asks_of c.args.op.now) x.coming x.cuts.now
    c.bank_of-number.result _ (facts_of c.bank.result.now) c.index-2.result.now c.requires.asked h may bank there
    (sym c.in-Some.is ∙ c.judge_read-broken.ensures) (λ e. absurd (cc)) (λ e. absurd (cc)) (λ e. absurd (cc))

pub returns-in_ok-pass_read-in-None-clause-passes : goal.returns-in_ok-pass_read-in-None-clause-passes
returns-in_ok-pass_read-in-None-clause-passes g c = λ before after h.
    let x = c.args.grounds in
    let row = c.args.row in
    let old = c.args.self.now in
    let s = c.settle.new.self in
    let may = c.requires.may in
    let bank = is_settled x.banks.now row.tick row.line old.banks.items s.banks.items c.bank_of-number.result (facts_of c.bank.result.now) c.index.result.now
    may.listed may.exist c.bank_of-number.ensures c.settle.ensures.banks c.index.ensures c.bank.ensures in
    let long : length s.lines.items ≡ length old.lines.items = ap length c.settle.ensures.lines in
    let size = may.size in
    let within = may.listed in
    let there = ap (λ (xs : List (CheckedLine g.row.B)). slice_get xs row.line) (sym c.settle.ensures.lines) ∙ item-at s.lines.items row.line c.index-2.result.now (omega (arith, long, size, within)) c.index-2.ensures in
    let p = c.in_ok-pass_read-in-None.ensures in
    read_taken x.rules.now x.banks.now x.keys.now before row.tick row.line c.args.outcome.now after
    old.banks.items s.banks.items c.pass_read.new.self.banks.items old.joined c.pass_read.new.self.joined old.lines.items c.pass_read.new.self.lines.items row.room (asks_of c.args.op.now) x.coming x.cuts.now
    c.bank_of-number.result _ (facts_of c.bank.result.now) c.index-2.result.now c.requires.asked h may bank there
    (sym c.in-None.is ∙ c.judge_read-broken.ensures) (λ e. p.banks) (λ e. p.joined) (λ e. p.lines ∙ c.settle.ensures.lines)
