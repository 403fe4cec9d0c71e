use Rattle.std.proofs.Common.{arith}
use Rattle.reg_lines.proofs.encode.Goals as goal

pub slice_bounds-copy_from_slice-end : goal.slice_bounds-copy_from_slice-end
slice_bounds-copy_from_slice-end g c = grind arith

pub slice_bounds-copy_from_slice-end-2 : goal.slice_bounds-copy_from_slice-end-2
slice_bounds-copy_from_slice-end-2 g c = grind arith

pub bounds-values-0 : goal.bounds-values-0
bounds-values-0 g c = grind arith

pub to_le_bytes-requires : goal.to_le_bytes-requires
to_le_bytes-requires g c = grind arith

pub slice_bounds-copy_from_slice-end-3 : goal.slice_bounds-copy_from_slice-end-3
slice_bounds-copy_from_slice-end-3 g c = grind arith

pub copy_from_slice-requires : goal.copy_from_slice-requires
copy_from_slice-requires g c = grind arith

pub slice_bounds-copy_from_slice-count : goal.slice_bounds-copy_from_slice-count
slice_bounds-copy_from_slice-count g c = grind arith

pub slice_bounds-copy_from_slice-start : goal.slice_bounds-copy_from_slice-start
slice_bounds-copy_from_slice-start g c = grind arith

pub slice_bounds-copy_from_slice-end-4 : goal.slice_bounds-copy_from_slice-end-4
slice_bounds-copy_from_slice-end-4 g c = grind arith

pub bounds-values-1 : goal.bounds-values-1
bounds-values-1 g c = grind arith

pub to_le_bytes-requires-2 : goal.to_le_bytes-requires-2
to_le_bytes-requires-2 g c = grind arith

pub slice_bounds-copy_from_slice-end-5 : goal.slice_bounds-copy_from_slice-end-5
slice_bounds-copy_from_slice-end-5 g c = grind arith

pub copy_from_slice-requires-2 : goal.copy_from_slice-requires-2
copy_from_slice-requires-2 g c = grind arith

pub slice_bounds-copy_from_slice-count-2 : goal.slice_bounds-copy_from_slice-count-2
slice_bounds-copy_from_slice-count-2 g c = grind arith

pub slice_bounds-copy_from_slice-start-2 : goal.slice_bounds-copy_from_slice-start-2
slice_bounds-copy_from_slice-start-2 g c = grind arith

pub slice_bounds-copy_from_slice-end-6 : goal.slice_bounds-copy_from_slice-end-6
slice_bounds-copy_from_slice-end-6 g c = grind arith

pub bounds-values-2 : goal.bounds-values-2
bounds-values-2 g c = grind arith

pub to_le_bytes-requires-3 : goal.to_le_bytes-requires-3
to_le_bytes-requires-3 g c = grind arith

pub slice_bounds-copy_from_slice-end-7 : goal.slice_bounds-copy_from_slice-end-7
slice_bounds-copy_from_slice-end-7 g c = grind arith

pub copy_from_slice-requires-3 : goal.copy_from_slice-requires-3
copy_from_slice-requires-3 g c = grind arith
