use Rattle.std.proofs.Common.{◌∙◌, ℕ, List, sym, ap, arith}
use Rattle.cell_rows.{specs.Rows.bit_of, proofs.RowLemmas.{cell-bits, cell-meta}}
use Rattle.ecp_line.proofs.mask.with_data.Goals as goal

pub returns-clause-data : goal.returns-clause-data
returns-clause-data g c n low =
    cell-bits (record { bits = c.copy_from_slice.new.self; meta = c.args.row.now.meta }) n (omega arith) low ∙ ap (λ (xs : List ℕ). bit_of xs n) c.copy_from_slice.ensures.after

pub returns-clause-check : goal.returns-clause-check
returns-clause-check g c n high =
    cell-meta (record { bits = c.copy_from_slice.new.self; meta = c.args.row.now.meta }) n (omega arith) high ∙ sym (cell-meta c.args.row.now n (omega arith) high)

pub copy_from_slice-requires : goal.copy_from_slice-requires
copy_from_slice-requires g c = grind arith

pub returns-clause-bytes : goal.returns-clause-bytes
returns-clause-bytes g c = grind arith
