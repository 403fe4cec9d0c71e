use Rattle.std.proofs.Common.{refl, sym, ap, ◌∙◌}
use Rattle.command_line.{specs.Options.{policy_of, home_of, raw_of}, proofs.Steps.{some_step, none_step}}
use Rattle.command_line.proofs.options.raw.Goals as goal

pub returns-in_err-banks : goal.returns-in_err-banks
unfolding raw_of
returns-in_err-banks c = c.from_residual.ensures ∙ sym (none_step _ _ (sym c.in_err-banks.ensures))

pub returns-in_err-regions : goal.returns-in_err-regions
unfolding raw_of
returns-in_err-regions c = c.from_residual-in_err-regions.ensures ∙ sym (some_step _ _ _ _ (sym c.in_ok-banks.ensures)
    (none_step _ _ (sym c.in_err-regions.ensures)))

pub returns-in_err-lines : goal.returns-in_err-lines
unfolding raw_of
returns-in_err-lines c = c.from_residual-in_err-lines.ensures ∙ sym (some_step _ _ _ _ (sym c.in_ok-banks.ensures)
    (some_step _ _ _ _ (sym c.in_ok-regions.ensures)
    (none_step _ _ (sym c.in_err-lines.ensures))))

pub returns-in_err-spares : goal.returns-in_err-spares
unfolding raw_of
returns-in_err-spares c = c.from_residual-in_err-spares.ensures ∙ sym (some_step _ _ _ _ (sym c.in_ok-banks.ensures)
    (some_step _ _ _ _ (sym c.in_ok-regions.ensures)
    (some_step _ _ _ _ (sym c.in_ok-lines.ensures)
    (none_step _ _ (sym c.in_err-spares.ensures)))))

pub returns-in_err-writes : goal.returns-in_err-writes
unfolding raw_of
returns-in_err-writes c = c.from_residual-in_err-writes.ensures ∙ sym (some_step _ _ _ _ (sym c.in_ok-banks.ensures)
    (some_step _ _ _ _ (sym c.in_ok-regions.ensures)
    (some_step _ _ _ _ (sym c.in_ok-lines.ensures)
    (some_step _ _ _ _ (sym c.in_ok-spares.ensures)
    (none_step _ _ (sym c.in_err-writes.ensures))))))

pub returns-in_err-reads : goal.returns-in_err-reads
unfolding raw_of
returns-in_err-reads c = c.from_residual-in_err-reads.ensures ∙ sym (some_step _ _ _ _ (sym c.in_ok-banks.ensures)
    (some_step _ _ _ _ (sym c.in_ok-regions.ensures)
    (some_step _ _ _ _ (sym c.in_ok-lines.ensures)
    (some_step _ _ _ _ (sym c.in_ok-spares.ensures)
    (some_step _ _ _ _ (sym c.in_ok-writes.ensures)
    (none_step _ _ (sym c.in_err-reads.ensures)))))))

pub returns-in_err-psi : goal.returns-in_err-psi
unfolding raw_of
returns-in_err-psi c = c.from_residual-in_err-psi.ensures ∙ sym (some_step _ _ _ _ (sym c.in_ok-banks.ensures)
    (some_step _ _ _ _ (sym c.in_ok-regions.ensures)
    (some_step _ _ _ _ (sym c.in_ok-lines.ensures)
    (some_step _ _ _ _ (sym c.in_ok-spares.ensures)
    (some_step _ _ _ _ (sym c.in_ok-writes.ensures)
    (some_step _ _ _ _ (sym c.in_ok-reads.ensures)
    (none_step _ _ (sym c.in_err-psi.ensures))))))))

pub returns-in_err-read_ticks : goal.returns-in_err-read_ticks
unfolding raw_of
returns-in_err-read_ticks c = c.from_residual-in_err-read_ticks.ensures ∙ sym (some_step _ _ _ _ (sym c.in_ok-banks.ensures)
    (some_step _ _ _ _ (sym c.in_ok-regions.ensures)
    (some_step _ _ _ _ (sym c.in_ok-lines.ensures)
    (some_step _ _ _ _ (sym c.in_ok-spares.ensures)
    (some_step _ _ _ _ (sym c.in_ok-writes.ensures)
    (some_step _ _ _ _ (sym c.in_ok-reads.ensures)
    (some_step _ _ _ _ (sym c.in_ok-psi.ensures)
    (none_step _ _ (sym c.in_err-read_ticks.ensures)))))))))

pub returns-in_err-iter_ticks : goal.returns-in_err-iter_ticks
unfolding raw_of
returns-in_err-iter_ticks c = c.from_residual-in_err-iter_ticks.ensures ∙ sym (some_step _ _ _ _ (sym c.in_ok-banks.ensures)
    (some_step _ _ _ _ (sym c.in_ok-regions.ensures)
    (some_step _ _ _ _ (sym c.in_ok-lines.ensures)
    (some_step _ _ _ _ (sym c.in_ok-spares.ensures)
    (some_step _ _ _ _ (sym c.in_ok-writes.ensures)
    (some_step _ _ _ _ (sym c.in_ok-reads.ensures)
    (some_step _ _ _ _ (sym c.in_ok-psi.ensures)
    (some_step _ _ _ _ (sym c.in_ok-read_ticks.ensures)
    (none_step _ _ (sym c.in_err-iter_ticks.ensures))))))))))

pub returns-in_err-policy : goal.returns-in_err-policy
unfolding raw_of
returns-in_err-policy c = c.from_residual-in_err-policy.ensures ∙ sym (some_step _ _ _ _ (sym c.in_ok-banks.ensures)
    (some_step _ _ _ _ (sym c.in_ok-regions.ensures)
    (some_step _ _ _ _ (sym c.in_ok-lines.ensures)
    (some_step _ _ _ _ (sym c.in_ok-spares.ensures)
    (some_step _ _ _ _ (sym c.in_ok-writes.ensures)
    (some_step _ _ _ _ (sym c.in_ok-reads.ensures)
    (some_step _ _ _ _ (sym c.in_ok-psi.ensures)
    (some_step _ _ _ _ (sym c.in_ok-read_ticks.ensures)
    (some_step _ _ _ _ (sym c.in_ok-iter_ticks.ensures)
    (none_step _ _ (ap policy_of (sym c.value.ensures) ∙ sym c.in_err-policy.ensures)))))))))))

pub returns-in_err-home : goal.returns-in_err-home
unfolding raw_of
returns-in_err-home c = c.from_residual-in_err-home.ensures ∙ sym (some_step _ _ _ _ (sym c.in_ok-banks.ensures)
    (some_step _ _ _ _ (sym c.in_ok-regions.ensures)
    (some_step _ _ _ _ (sym c.in_ok-lines.ensures)
    (some_step _ _ _ _ (sym c.in_ok-spares.ensures)
    (some_step _ _ _ _ (sym c.in_ok-writes.ensures)
    (some_step _ _ _ _ (sym c.in_ok-reads.ensures)
    (some_step _ _ _ _ (sym c.in_ok-psi.ensures)
    (some_step _ _ _ _ (sym c.in_ok-read_ticks.ensures)
    (some_step _ _ _ _ (sym c.in_ok-iter_ticks.ensures)
    (some_step _ _ _ _ (ap policy_of (sym c.value.ensures) ∙ sym c.in_ok-policy.ensures)
    (none_step _ _ (ap home_of (sym c.value-2.ensures) ∙ sym c.in_err-home.ensures))))))))))))

pub returns : goal.returns
unfolding raw_of
returns c = sym (some_step _ _ _ _ (sym c.in_ok-banks.ensures)
    (some_step _ _ _ _ (sym c.in_ok-regions.ensures)
    (some_step _ _ _ _ (sym c.in_ok-lines.ensures)
    (some_step _ _ _ _ (sym c.in_ok-spares.ensures)
    (some_step _ _ _ _ (sym c.in_ok-writes.ensures)
    (some_step _ _ _ _ (sym c.in_ok-reads.ensures)
    (some_step _ _ _ _ (sym c.in_ok-psi.ensures)
    (some_step _ _ _ _ (sym c.in_ok-read_ticks.ensures)
    (some_step _ _ _ _ (sym c.in_ok-iter_ticks.ensures)
    (some_step _ _ _ _ (ap policy_of (sym c.value.ensures) ∙ sym c.in_ok-policy.ensures)
    (some_step _ _ _ _ (ap home_of (sym c.value-2.ensures) ∙ sym c.in_ok-home.ensures)
    (refl))))))))))))
