-- The texts of the jobs that replay no trace.
use Rattle.std.specs.Prelude.{ℕ, List}
use Rattle.module_shape.specs.Limits.{total_of}
use Rattle.command_line.specs.{declared.job.GenJob.GenJob, declared.job.LineSize.LineSize, declared.job.LineSize.TheVariants.{Bytes64, Bytes128}, declared.job.MapJob.MapJob}
use Rattle.trace_gen.specs.{EventText.trace_text, Generated.generated}
use Rattle.rotation_reports.specs.declared.line_rows.MapOptions.{MapOptions}

-- the sizes, the seed and the moves of a map, and where its banks keep their registers
abbrev pub map_options : MapJob → MapOptions
map_options job = record {
  banks = job.shape.banks;
  regions = job.shape.regions;
  lines = job.shape.lines;
  spares = job.shape.spares;
  seed = job.seed;
  moves = job.from;
  home = job.shape.home;
}

-- the bytes of a line of this size
abbrev pub bytes_in : LineSize → ℕ
bytes_in Bytes64 = 64
bytes_in Bytes128 = 128

-- the text that `gen` writes: the trace that its seed draws for the lines of its module
abbrev pub gen_text : GenJob → List ℕ
gen_text job = trace_text (generated (bytes_in job.line) job.seed (total_of job.shape) job.mix)
