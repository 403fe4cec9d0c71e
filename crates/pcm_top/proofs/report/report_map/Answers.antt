use Rattle.pcm_top.proofs.report.report_map.Goals as goal

pub returns : goal.returns
returns g c =
    let written = rw c.options_of.ensures.same at c.print_map.ensures in
    record {
      done = rw c.in_ok-print_map.was at written.ok;
      write = λ is. absurd (cc is);
      cause = tt;
      unwritten = tt;
      never_falls = written.never_falls;
    }
