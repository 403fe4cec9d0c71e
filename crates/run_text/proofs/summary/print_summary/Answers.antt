use Rattle.std.specs.Prelude.{codes}
use Rattle.run_text.{specs.SummaryText.line_text, proofs.SummaryLines.thirteen_lines}
use Rattle.run_text.proofs.summary.print_summary.Goals as goal

pub returns-clause-after : goal.returns-clause-after
returns-clause-after c = rw (
  c.push_line-13.ensures.after,
  c.push_line-12.ensures.after,
  c.push_line-11.ensures.after,
  c.push_line-10.ensures.after,
  c.push_line-9.ensures.after,
  c.push_line-8.ensures.after,
  c.push_line-7.ensures.after,
  c.push_line-6.ensures.after,
  c.push_line-5.ensures.after,
  c.push_line-4.ensures.after,
  c.push_line-3.ensures.after,
  c.push_line-2.ensures.after,
  c.push_line.ensures.after,
) (thirteen_lines c.args.text.now
    (line_text (codes "rows") c.args.rows)
    (line_text (codes "stored") c.args.counts.now.stored)
    (line_text (codes "merged") c.args.counts.now.merged)
    (line_text (codes "queued") c.args.counts.now.queued)
    (line_text (codes "full") c.args.counts.now.full)
    (line_text (codes "worn") c.args.counts.now.worn)
    (line_text (codes "read") c.args.counts.now.read)
    (line_text (codes "forwarded") c.args.counts.now.forwarded)
    (line_text (codes "busy") c.args.counts.now.busy)
    (line_text (codes "lost") c.args.counts.now.lost)
    (line_text (codes "cut") c.args.counts.now.cut)
    (line_text (codes "retired") c.args.retired)
    (line_text (codes "pulses") c.args.pulses))
